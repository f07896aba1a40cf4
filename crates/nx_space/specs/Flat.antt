-- One window over a whole RAM, for every group.
use Rattle.std.proofs.Common.{◌≡◌, ℕ, ◌+◌, ◌-◌, ◌*◌, ◌<◌, ◌≤◌, ◌==◌, Bool, true, false, ◌&&◌, ◌||◌, List, [], ◌∷◌, length, Option, Some, None, arith, refl, sym, ap, ◌∙◌}
use Rattle.std.specs.Prelude.{if◌then◌else◌, nat_le}
use Rattle.std.specs.Option.{is_some}
use Rattle.std.proofs.lemmas.Bool.Decides.{nat_tests}
use Rattle.nx_base.specs.ByteLists.{AreBytes}
use Rattle.nx_space.specs.World.{Home, Common, Part, World, seen_by}
use Rattle.nx_space.specs.Places.{lies_in, place_in, is_clear}
use Rattle.nx_space.specs.Lawful.{MayHold, IsShared, IsWorld}
use Rattle.nx_space.specs.Starts.{program_at, stack_low}
use Rattle.nx_space.specs.Shared.{ram_start, LieInRam, ram_place, Sharing, shared_plan, shared_world, FitsRam, IsSharing, shared_lawful, shared_bytes}

abbrev pub flat_part : ℕ → Part
flat_part size = record { start = ram_start; reads = true; writes = true; runs = true; region = false; home = Common 0; from = 0; bytes = size }

abbrev pub flat_world : Sharing → World
flat_world s = shared_world (flat_part s.size ∷ []) 0 s

-- no bytes, or bytes that lie in the RAM
abbrev pub is_flat_good : ℕ → ℕ → ℕ → Bool
is_flat_good size at n = (n == 0) || is_some (ram_place size at n)

flat_holds : (s : Sharing) (at n : ℕ) → LieInRam s.size at n → MayHold (shared_plan (flat_part s.size ∷ []) 0 s) (flat_part s.size ∷ []) at n
unfolding place_in lies_in
flat_holds s at n h =
    let low : nat_le ram_start at ≡ true = grind (arith, nat_tests, h.0) in
    let high : nat_le (at + n) (ram_start + s.size) ≡ true = grind (arith, nat_tests, h.1) in
    rw (low, high) (grind (arith, nat_tests))

-- the stacks of all slots lie in the RAM
pub slot_inside : (size stacks_at stack threads slot : ℕ) → LieInRam size stacks_at (threads * stack) → slot < threads → LieInRam size (stacks_at + slot * stack) stack
slot_inside size stacks_at stack threads slot h l = (grind (arith, h.0), grind (arith, h.0, h.1))

pub flat_shared : (s : Sharing) → IsSharing s → IsShared (shared_plan (flat_part s.size ∷ []) 0 s) (s.ram ∷ [])
flat_shared s h = record {
  parts = let w = h.whole in ((omega arith, omega (arith, w)), (tt, tt));
  stacks = λ slot l. flat_holds s _ s.stack (slot_inside s.size s.stacks_at s.stack s.threads slot h.fits.stacks l);
  contents = λ place l some. flat_holds s _ _ (h.fits.contents place l);
}

pub flat_lawful : (s : Sharing) → IsSharing s → IsWorld (flat_world s)
flat_lawful s h = shared_lawful (flat_part s.size ∷ []) 0 s h (omega arith) (flat_shared s h)

pub flat_bytes : (s : Sharing) → IsSharing s → (number : ℕ) (home : Home) → AreBytes (seen_by (flat_world s) number home)
flat_bytes s h number home = shared_bytes (flat_part s.size ∷ []) 0 s h number home
