-- Spaces without pages: one RAM, of which every group has the same windows.
use Rattle.std.proofs.Common.{◌≡◌, ◌≢◌, ℕ, zero, suc, ◌+◌, ◌-◌, ◌*◌, ◌<◌, ◌≤◌, ◌^◌, ◌==◌, Bool, true, false, ◌&&◌, ◌||◌, List, [], ◌∷◌, ◌++◌, length, replicate, Option, Some, None, map, arith, refl, sym, ap, ◌∙◌}
use Rattle.std.specs.Prelude.{if◌then◌else◌, nat_le, not, slice_index, slice_index_or}
use Rattle.std.specs.List.{All, remove}
use Rattle.std.proofs.lemmas.List.{length-map, get_or_past}
use Rattle.nx_base.specs.ByteLists.{put_bytes, AreBytes}
use Rattle.nx_ram.specs.declared.prog_image.ProgImage.{ProgImage}
use Rattle.nx_space.specs.declared.shared.Live.{Live}
use Rattle.nx_space.specs.World.{Home, Common, Own, Part, Group, MemoryMap, World, has_view, group_of, bytes_in, seen_by}
use Rattle.nx_space.specs.Lawful.{IsShared, AreNumbered, IsWorld}
use Rattle.nx_space.specs.Starts.{no_program, frames_of, frames_for, needs}

-- the address of the RAM's first byte
abbrev pub ram_start : ℕ
ram_start = 0x80000000

-- the n bytes at an address lie in the RAM
abbrev pub LieInRam : ℕ → ℕ → ℕ → Type 0
LieInRam size at n = (ram_start ≤ at) × (at + n ≤ ram_start + size)

-- where the n bytes at an address stand in the RAM
abbrev pub ram_place : ℕ → ℕ → ℕ → Option ℕ
ram_place size at n = if nat_le ram_start at && nat_le (at + n) (ram_start + size) then Some (at - ram_start) else None

-- each window shows the bytes of the RAM that stand at its addresses
abbrev pub AreStraight : List Part → Type 0
AreStraight [] = Unit {0}
AreStraight (p ∷ ps) = ((p.home ≡ Common 0) × (p.start ≡ ram_start + p.from)) × AreStraight ps

-- a RAM of so many bytes, programs, stacks for so many threads, the groups that have a view, and the one that was entered last
pub record Sharing : Type 0 where
  pub ram : List ℕ
  pub size : ℕ
  pub programs : List ProgImage
  pub stacks_at : ℕ
  pub stack : ℕ
  pub threads : ℕ
  pub live : List Live
  pub entered : ℕ

abbrev pub shared_group : List Part → Live → Group
shared_group ps live = record { number = live.number; program = live.program; slot = live.slot; parts = ps; own = []; slots = [] }

abbrev pub shared_plan : List Part → ℕ → Sharing → MemoryMap
shared_plan ps pool s = record {
  programs = s.programs;
  stacks_at = s.stacks_at;
  stack = s.stack;
  stride = s.stack;
  threads = s.threads;
  is_paged = false;
  shared = ps;
  pool = pool;
  frames = 0;
}

-- the world, where these windows are those of every group, and so many bytes of the RAM are the pool
abbrev pub shared_world : List Part → ℕ → Sharing → World
shared_world ps pool s = record {
  memory_map = shared_plan ps pool s;
  common = s.ram ∷ [];
  groups = map (shared_group ps) s.live;
  entered = s.entered;
  outside = [];
}

-- whether a group of this number has a view
unfoldable pub has_live : List Live → ℕ → Bool
has_live [] number = false
has_live (l ∷ lives) number = (l.number == number) || has_live lives number

-- where the first group of a number stands, or how many there are
unfoldable pub place_of : List Live → ℕ → ℕ
place_of [] number = 0
place_of (l ∷ lives) number = if l.number == number then 0 else suc (place_of lives number)

-- no two of these groups have one number
abbrev pub are_distinct : List Live → Bool
are_distinct [] = true
are_distinct (l ∷ lives) = not (has_live lives l.number) && are_distinct lives

-- each group's program is one of so many
abbrev pub AreKnown : ℕ → List Live → Type 0
AreKnown n lives = All (λ l. l.program < n) lives

-- the RAM ends below 2^32, and the data and stacks lie in it
pub record FitsRam (size : ℕ) (programs : List ProgImage) (stacks_at stack threads : ℕ) : Type 0 where
  pub small : ram_start + size < 2 ^ 32
  pub contents : (i : ℕ) → i < length programs → LieInRam size (slice_index_or programs i no_program).data_at (length (slice_index_or programs i no_program).init)
  pub stacks : LieInRam size stacks_at (threads * stack)

-- what holds of all that
pub record IsSharing (s : Sharing) : Type 0 where
  pub whole : s.size ≡ length s.ram
  pub bytes : AreBytes s.ram
  pub fits : FitsRam s.size s.programs s.stacks_at s.stack s.threads
  pub few : length s.live ≤ s.threads
  pub distinct : are_distinct s.live ≡ true
  pub known : AreKnown (length s.programs) s.live

-- a RAM with a slot's stack set to zeros
abbrev pub with_stack_zeroed : Sharing → List ℕ → ℕ → List ℕ
with_stack_zeroed s ram slot = put_bytes ram (s.stacks_at + slot * s.stack - ram_start) (replicate s.stack 0)

-- a RAM with a program's data set to their first contents
abbrev pub with_data_set : Sharing → List ℕ → ℕ → List ℕ
with_data_set s ram place =
    let p = slice_index_or s.programs place no_program in
    put_bytes ram (p.data_at - ram_start) p.init

-- after a start, and after the end of a group
abbrev pub sharing_started : Sharing → ℕ → ℕ → ℕ → Bool → Sharing
sharing_started s number place slot fresh =
    let live : Live = record { number = number; program = place; slot = slot } in
    record s { ram = with_stack_zeroed s (if fresh then with_data_set s s.ram place else s.ram) slot; live = s.live ++ live ∷ [] }

abbrev pub sharing_finished : Sharing → ℕ → Sharing
sharing_finished s number = record s { live = remove s.live (place_of s.live number) }

pub live_view : (ps : List Part) (lives : List Live) (number : ℕ) → has_view (map (shared_group ps) lives) number ≡ has_live lives number
unfolding has_view has_live
live_view ps [] number = refl
live_view ps (l ∷ lives) number = ap (λ b. (l.number == number) || b) (live_view ps lives number)

-- every group that has a view has these windows, and nothing alone
pub live_group : (ps : List Part) (lives : List Live) (number : ℕ) → has_view (map (shared_group ps) lives) number ≡ true → ((group_of (map (shared_group ps) lives) number).parts ≡ ps) × ((group_of (map (shared_group ps) lives) number).own ≡ [])
unfolding has_view group_of
live_group ps [] number h = absurd cc
live_group ps (l ∷ lives) number h = by_test (l.number == number) h (λ r. live_group ps lives number r)
  where
    rest : Group
    rest = group_of (map (shared_group ps) lives) number

    by_test : (b : Bool) → (b || has_view (map (shared_group ps) lives) number) ≡ true → (has_view (map (shared_group ps) lives) number ≡ true → (rest.parts ≡ ps) × (rest.own ≡ [])) → ((if b then shared_group ps l else rest).parts ≡ ps) × ((if b then shared_group ps l else rest).own ≡ [])
    by_test true h more = (refl, refl)
    by_test false h more = more h

-- what two tests that both hold say
pub both_hold : (a b : Bool) → (not a && b) ≡ true → (a ≡ false) × (b ≡ true)
both_hold true b h = absurd cc
both_hold false b h = (refl, h)

live_numbered : (ps : List Part) (lives : List Live) → are_distinct lives ≡ true → AreNumbered (map (shared_group ps) lives)
live_numbered ps [] h = tt
live_numbered ps (l ∷ lives) h = let b = both_hold (has_live lives l.number) (are_distinct lives) h in (live_view ps lives l.number ∙ b.0, live_numbered ps lives b.1)

-- without pages no group has a frame
pub need_shared : (memory_map : MemoryMap) (gs : List Group) → memory_map.is_paged ≡ false → needs memory_map gs ≡ 0
unfolding needs frames_for
need_shared memory_map [] h = refl
need_shared memory_map (g ∷ gs) h = let rest = need_shared memory_map gs h in rw h (omega (arith, rest))

pub shared_lawful : (ps : List Part) (pool : ℕ) (s : Sharing) → IsSharing s → pool ≤ s.size → IsShared (shared_plan ps pool s) (s.ram ∷ []) → IsWorld (shared_world ps pool s)
shared_lawful ps pool s h p shared = record {
  few = let l = length-map s.live (shared_group ps) in let f = h.few in omega (arith, l, f);
  numbered = live_numbered ps s.live h.distinct;
  enough = let n = need_shared (shared_plan ps pool s) (map (shared_group ps) s.live) refl in omega (arith, n);
  pool = let w = h.whole in omega (arith, w);
  pages = λ e. absurd cc;
  shared = λ e. shared;
  alike = λ e number v. live_group ps s.live number v;
  alone = λ e. absurd cc;
}

-- no group has bytes alone
live_own : (ps : List Part) (lives : List Live) (number : ℕ) → (group_of (map (shared_group ps) lives) number).own ≡ []
unfolding group_of
live_own ps [] number = refl
live_own ps (l ∷ lives) number = by_test (l.number == number) (live_own ps lives number)
  where
    rest : Group
    rest = group_of (map (shared_group ps) lives) number

    by_test : (b : Bool) → rest.own ≡ [] → (if b then shared_group ps l else rest).own ≡ []
    by_test true h = refl
    by_test false h = h

no_bytes : (bs : List ℕ) → bs ≡ [] → AreBytes bs
no_bytes bs e i = let z : slice_index bs i ≡ 0 = ap (λ l. slice_index l i) e ∙ get_or_past [] i 0 (omega arith) in omega (arith, z)

pub shared_bytes : (ps : List Part) (pool : ℕ) (s : Sharing) → IsSharing s → (number : ℕ) (home : Home) → AreBytes (seen_by (shared_world ps pool s) number home)
shared_bytes ps pool s h number (Common zero) = h.bytes
shared_bytes ps pool s h number (Common (suc k)) = no_bytes _ (get_or_past {X = List ℕ} [] k [] (omega arith))
shared_bytes ps pool s h number (Own k) = no_bytes _ (ap (λ own. bytes_in own k) (live_own ps s.live number) ∙ get_or_past {X = List ℕ} [] k [] (omega arith))
