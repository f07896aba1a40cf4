-- What the code's walk says of the world, where it is only known that some tables stand.
use Rattle.std.proofs.Common.{◌≡◌, ℕ, ◌+◌, ◌-◌, Bool, true, false, ◌==◌, ◌^◌, ◌||◌, ◌&&◌, Some, None, List, sym, ap, ◌∙◌}
use Rattle.std.specs.Prelude.{Result, Ok, Err, nat_le}
use Rattle.nx_space.proofs.Windows.{bytes_at}
use Rattle.std.specs.Option.{is_some}
use Rattle.std.proofs.Props.{props}
use Rattle.std.proofs.Math.Logic.{∥∥₁_elim}
use Rattle.nx_base.specs.ByteLists.{get_bytes, put_bytes, from_le, to_le}
use Rattle.nx_base.specs.Views.{View, number_or, fetch_word, load_bytes, store_bytes}
use Rattle.nx_base.specs.Good.{is_good}
use Rattle.nx_base.specs.declared.access.Access.{Access}
use Rattle.nx_base.specs.declared.access.Access.TheVariants.{Fetch, Load, Store}
use Rattle.nx_sv32.specs.Walk.{ram_start, walk, or_fault}
use Rattle.nx_sv32.specs.declared.sv32.PageFault.{PageFault}
use Rattle.nx_tables.specs.Maps.{satp_of, lets}
use Rattle.nx_space.specs.World.{Part, World, IsEntered, view_in, seen_by}
use Rattle.nx_space.specs.Lawful.{OnlyEntered}
use Rattle.nx_space.proofs.Stores.{loaded, fetched}
use Rattle.nx_paged.specs.Tenants.{root_of}
use Rattle.nx_paged.specs.Spans.{Span, part_of}
use Rattle.nx_paged.specs.Walks.{all_walked}
use Rattle.nx_paged.specs.Paging.{Paging, paged_world, IsPlaced, IsPaged}
use Rattle.nx_paged.specs.Lawful.{paged_lawful}
use Rattle.nx_paged.proofs.Accesses.{InPage, IsInside, runs_fetch, reads_load, walked, entered_refused, bytes_found, is_inside, walk_is, walk_is_none}
use Rattle.nx_paged.proofs.Saves.{with_ram, saved, not_saved}
use Rattle.nx_paged.proofs.Goods.{good_walked, good_byte}

number_prop : (a b : Result ℕ ℕ) → IsProp (a ≡ b)
number_prop a b = hlevel props

view_prop : (a b : Result View ℕ) → IsProp (a ≡ b)
view_prop a b = hlevel props

inside_prop : (ram : List ℕ) (n to : ℕ) → IsProp (IsInside ram n to)
inside_prop ram n to = hlevel props

only_prop : (v w : World) → IsProp (OnlyEntered v w)
only_prop v w = hlevel props

placed_prop : (s : Paging) → IsProp (IsPlaced s)
placed_prop s = hlevel props

-- what an access of the entered view starts from
pub record Asks (s : Paging) (satp : ℕ) : Type 0 where
  pub placed : IsPlaced s
  pub paged : ∥ IsPaged s ∥₁
  pub entered : IsEntered (paged_world s)
  pub named : satp ≡ satp_of (root_of s.tenants s.entered)

some_walk : (s : Paging) (satp at to : ℕ) (access : Access) → Asks s satp → Ok to ≡ or_fault (walk s.ram satp at access) → walked s at access ≡ Some to
some_walk s satp at to access a e = ap (λ z. walk s.ram z at access) (sym a.named) ∙ walk_is (walk s.ram satp at access) to e

no_walk : (s : Paging) (satp at : ℕ) (fault : PageFault) (access : Access) → Asks s satp → Err fault ≡ or_fault (walk s.ram satp at access) → walked s at access ≡ None
no_walk s satp at fault access a e = ap (λ z. walk s.ram z at access) (sym a.named) ∙ walk_is_none (walk s.ram satp at access) fault e

pub inside_of : (s : Paging) (satp at n to : ℕ) (may : Part → Bool) (access : Access) → Asks s satp → InPage at n → ((k : ℕ) (x : Span) → may (part_of k x) ≡ lets x.writes access) → Ok to ≡ or_fault (walk s.ram satp at access) → IsInside s.ram n to
inside_of s satp at n to may access a i agree e = ∥∥₁_elim a.paged (inside_prop s.ram n to) (λ p. is_inside s p may access at n to a.entered agree i (some_walk s satp at to access a e))

pub fetch_ok : (s : Paging) (satp at to : ℕ) → Asks s satp → InPage at 4 → Ok to ≡ or_fault (walk s.ram satp at Fetch) → fetch_word (view_in (paged_world s)) at ≡ Ok (from_le (get_bytes s.ram (to - ram_start) 4))
fetch_ok s satp at to a i e = ∥∥₁_elim a.paged (number_prop _ _) (λ p. fetched (paged_world s) at (paged_lawful s a.placed) a.entered ∙ ap (λ o. number_or o 12) (bytes_found s p (λ q. q.runs) Fetch at 4 to a.entered runs_fetch i (some_walk s satp at to Fetch a e)))

pub fetch_err : (s : Paging) (satp at : ℕ) (fault : PageFault) → Asks s satp → InPage at 4 → Err fault ≡ or_fault (walk s.ram satp at Fetch) → fetch_word (view_in (paged_world s)) at ≡ Err 12
fetch_err s satp at fault a i e = ∥∥₁_elim a.paged (number_prop _ _) (λ p. fetched (paged_world s) at (paged_lawful s a.placed) a.entered ∙ ap (λ o. number_or (bytes_at (seen_by (paged_world s) s.entered) o 4) 12) (entered_refused s p (λ q. q.runs) Fetch at 4 a.entered runs_fetch i (no_walk s satp at fault Fetch a e)))

pub load_ok : (s : Paging) (satp at n to : ℕ) → Asks s satp → InPage at n → Ok to ≡ or_fault (walk s.ram satp at Load) → load_bytes (view_in (paged_world s)) at n ≡ Ok (from_le (get_bytes s.ram (to - ram_start) n))
load_ok s satp at n to a i e = ∥∥₁_elim a.paged (number_prop _ _) (λ p. loaded (paged_world s) at n (paged_lawful s a.placed) a.entered ∙ ap (λ o. number_or o 13) (bytes_found s p (λ q. q.reads) Load at n to a.entered reads_load i (some_walk s satp at to Load a e)))

pub load_err : (s : Paging) (satp at n : ℕ) (fault : PageFault) → Asks s satp → InPage at n → Err fault ≡ or_fault (walk s.ram satp at Load) → load_bytes (view_in (paged_world s)) at n ≡ Err 13
load_err s satp at n fault a i e = ∥∥₁_elim a.paged (number_prop _ _) (λ p. loaded (paged_world s) at n (paged_lawful s a.placed) a.entered ∙ ap (λ o. number_or (bytes_at (seen_by (paged_world s) s.entered) o n) 13) (entered_refused s p (λ q. q.reads) Load at n a.entered reads_load i (no_walk s satp at fault Load a e)))

abbrev pub after_store : Paging → ℕ → ℕ → ℕ → Paging
after_store s n x to = with_ram s (put_bytes s.ram (to - ram_start) (to_le n x))

pub store_ok : (s : Paging) (satp at n x to : ℕ) → Asks s satp → InPage at n → Ok to ≡ or_fault (walk s.ram satp at Store) → store_bytes (view_in (paged_world s)) at n x ≡ Ok (view_in (paged_world (after_store s n x to)))
store_ok s satp at n x to a i e = ∥∥₁_elim a.paged (view_prop _ _) (λ p. (saved s at n x to a.placed p a.entered i (some_walk s satp at to Store a e)).stored.answer)

pub store_only : (s : Paging) (satp at n x to : ℕ) → Asks s satp → InPage at n → Ok to ≡ or_fault (walk s.ram satp at Store) → OnlyEntered (paged_world s) (paged_world (after_store s n x to))
store_only s satp at n x to a i e = ∥∥₁_elim a.paged (only_prop _ _) (λ p. (saved s at n x to a.placed p a.entered i (some_walk s satp at to Store a e)).stored.only)

pub store_placed : (s : Paging) (satp at n x to : ℕ) → Asks s satp → InPage at n → Ok to ≡ or_fault (walk s.ram satp at Store) → IsPlaced (after_store s n x to)
store_placed s satp at n x to a i e = ∥∥₁_elim a.paged (placed_prop _) (λ p. (saved s at n x to a.placed p a.entered i (some_walk s satp at to Store a e)).placed)

pub store_paged : (s : Paging) (satp at n x to : ℕ) → Asks s satp → InPage at n → Ok to ≡ or_fault (walk s.ram satp at Store) → ∥ IsPaged (after_store s n x to) ∥₁
store_paged s satp at n x to a i e = ∥∥₁_elim a.paged (hlevel props) (λ p. ∣ (saved s at n x to a.placed p a.entered i (some_walk s satp at to Store a e)).paged ∣₁)

pub store_err : (s : Paging) (satp at n x : ℕ) (fault : PageFault) → Asks s satp → InPage at n → Err fault ≡ or_fault (walk s.ram satp at Store) → store_bytes (view_in (paged_world s)) at n x ≡ Err 15
store_err s satp at n x fault a i e = ∥∥₁_elim a.paged (view_prop _ _) (λ p. not_saved s at n x a.placed p a.entered i (no_walk s satp at fault Store a e))

bool_prop : (a b : Bool) → IsProp (a ≡ b)
bool_prop a b = hlevel props

pub good_is : (s : Paging) (satp at n : ℕ) (access : Access) → Asks s satp → is_good (view_in (paged_world s)) at n access ≡ ((n == 0) || (nat_le (at + n) (2 ^ 32) && all_walked s.ram satp access at n))
good_is s satp at n access a = ∥∥₁_elim a.paged (bool_prop _ _) (λ p. good_walked s p access at n a.placed a.entered) ∙ ap (λ z. (n == 0) || (nat_le (at + n) (2 ^ 32) && all_walked s.ram z access at n)) (sym a.named)

-- a byte that is good is no fault
pub good_no_fault : (s : Paging) (satp at : ℕ) (fault : PageFault) (access : Access) → Asks s satp → is_good (view_in (paged_world s)) at 1 access ≡ true → Err fault ≡ or_fault (walk s.ram satp at access) → ⊥
good_no_fault s satp at fault access a g e =
    let some : is_some (walked s at access) ≡ true = ∥∥₁_elim a.paged (bool_prop _ _) (λ p. good_byte s p access at a.placed a.entered g) in
    apart (sym (ap is_some (no_walk s satp at fault access a e)) ∙ some)
  where
    apart : false ≡ true → ⊥
    apart z = cc
