-- Accesses of a space without pages, whatever its windows are.
use Rattle.std.proofs.Common.{◌≡◌, ℕ, ◌+◌, ◌-◌, ◌<◌, ◌≤◌, Bool, true, false, ◌&&◌, List, [], ◌∷◌, length, map, Option, Some, None, Ok, Err, refl, sym, ap, ◌∙◌, subst, arith}
use Rattle.std.specs.Prelude.{if◌then◌else◌, nat_le}
use Rattle.std.proofs.lemmas.Bool.Decides.{nat_tests}
use Rattle.nx_base.specs.ByteLists.{get_bytes, put_bytes, from_le, to_le}
use Rattle.nx_base.specs.Views.{number_or, fetch_word, load_bytes, store_bytes}
use Rattle.nx_space.specs.World.{Home, Common, Own, Part, World, IsEntered, group_in, seen_by, view_in}
use Rattle.nx_space.specs.Places.{Place, place_in, written_at, with_bytes}
use Rattle.nx_space.specs.Lawful.{IsWorld}
use Rattle.nx_space.specs.Shared.{Sharing, shared_world, live_group}
use Rattle.nx_space.proofs.Windows.{bytes_at}
use Rattle.nx_space.proofs.Stores.{Stored, placed, loaded, fetched, stored, not_stored}

-- a byte of the RAM, as a place
abbrev pub spot : Option ℕ → Option Place
spot None = None
spot (Some i) = Some (placed (Common 0) i)

-- the entered group's windows are those of all
pub entered_parts : (ps : List Part) (pool : ℕ) (s : Sharing) → IsEntered (shared_world ps pool s) → (group_in (shared_world ps pool s)).parts ≡ ps
entered_parts ps pool s v = (live_group ps s.live s.entered v).0

pub load_some : (ps : List Part) (pool : ℕ) (s : Sharing) (at n i : ℕ) → IsWorld (shared_world ps pool s) → IsEntered (shared_world ps pool s) → place_in (λ p. p.reads) ps at n ≡ spot (Some i) → load_bytes (view_in (shared_world ps pool s)) at n ≡ Ok (from_le (get_bytes s.ram i n))
load_some ps pool s at n i h v e =
    let w = shared_world ps pool s in
    loaded w at n h v ∙ ap (λ o. number_or (bytes_at (seen_by w w.entered) o n) 5) (ap (λ qs. place_in (λ p. p.reads) qs at n) (entered_parts ps pool s v) ∙ e)

pub load_none : (ps : List Part) (pool : ℕ) (s : Sharing) (at n : ℕ) → IsWorld (shared_world ps pool s) → IsEntered (shared_world ps pool s) → place_in (λ p. p.reads) ps at n ≡ None → load_bytes (view_in (shared_world ps pool s)) at n ≡ Err 5
load_none ps pool s at n h v e =
    let w = shared_world ps pool s in
    loaded w at n h v ∙ ap (λ o. number_or (bytes_at (seen_by w w.entered) o n) 5) (ap (λ qs. place_in (λ p. p.reads) qs at n) (entered_parts ps pool s v) ∙ e)

pub fetch_some : (ps : List Part) (pool : ℕ) (s : Sharing) (at i : ℕ) → IsWorld (shared_world ps pool s) → IsEntered (shared_world ps pool s) → place_in (λ p. p.runs) ps at 4 ≡ spot (Some i) → fetch_word (view_in (shared_world ps pool s)) at ≡ Ok (from_le (get_bytes s.ram i 4))
fetch_some ps pool s at i h v e =
    let w = shared_world ps pool s in
    fetched w at h v ∙ ap (λ o. number_or (bytes_at (seen_by w w.entered) o 4) 1) (ap (λ qs. place_in (λ p. p.runs) qs at 4) (entered_parts ps pool s v) ∙ e)

pub fetch_none : (ps : List Part) (pool : ℕ) (s : Sharing) (at : ℕ) → IsWorld (shared_world ps pool s) → IsEntered (shared_world ps pool s) → place_in (λ p. p.runs) ps at 4 ≡ None → fetch_word (view_in (shared_world ps pool s)) at ≡ Err 1
fetch_none ps pool s at h v e =
    let w = shared_world ps pool s in
    fetched w at h v ∙ ap (λ o. number_or (bytes_at (seen_by w w.entered) o 4) 1) (ap (λ qs. place_in (λ p. p.runs) qs at 4) (entered_parts ps pool s v) ∙ e)

pub store_some : (ps : List Part) (pool : ℕ) (s : Sharing) (at n x i : ℕ) → IsWorld (shared_world ps pool s) → IsEntered (shared_world ps pool s) → written_at ps at n ≡ spot (Some i) → Stored (shared_world ps pool s) (shared_world ps pool (record s { ram = put_bytes s.ram i (to_le n x) })) at n x
store_some ps pool s at n x i h v e =
    let w = shared_world ps pool s in
    stored w at n x (placed (Common 0) i) h v (ap (λ qs. written_at qs at n) (entered_parts ps pool s v) ∙ e)

pub store_none : (ps : List Part) (pool : ℕ) (s : Sharing) (at n x : ℕ) → IsWorld (shared_world ps pool s) → IsEntered (shared_world ps pool s) → written_at ps at n ≡ None → store_bytes (view_in (shared_world ps pool s)) at n x ≡ Err 7
store_none ps pool s at n x h v e =
    let w = shared_world ps pool s in
    not_stored w at n x h v (ap (λ qs. written_at qs at n) (entered_parts ps pool s v) ∙ e)
