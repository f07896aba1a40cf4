-- Where arrays of a frame lie.
use Rattle.std.proofs.Common.{◌≡◌, ℕ, zero, suc, ◌+◌, ◌*◌, ◌/◌, ◌%◌, ◌≤◌, List, [], ◌∷◌, length, Some, refl, ap, subst, arith}
use Rattle.std.specs.Prelude.{slice_get}
use Rattle.nx_slot.specs.declared.program.SlotArray.{SlotArray}
use Rattle.nx_slot.specs.declared.program.SlotFunction.{SlotFunction}
use Rattle.nx_codegen.specs.Frames.{IsFunction, words_end, rounded, array_from}
use Rattle.nx_linked.specs.Linked.{HaveBytes}

array_first : (all : List SlotArray) (at : ℕ) → array_from all at 0 ≡ at
array_first [] at = refl
array_first (a ∷ more) at = refl

pub arrays_up : (all : List SlotArray) (at k : ℕ) → at ≤ array_from all at k
arrays_up [] at k = omega arith
arrays_up (a ∷ more) at zero = omega arith
arrays_up (a ∷ more) at (suc k) = let h = arrays_up more (at + rounded a.bytes) k in omega (arith, h)

pub array_next : (all : List SlotArray) (at k : ℕ) (x : SlotArray) → slice_get all k ≡ Some x → array_from all at (suc k) ≡ array_from all at k + rounded x.bytes
array_next [] at k x e = absurd cc
array_next (a ∷ more) at zero x e = let q : rounded a.bytes ≡ rounded x.bytes = let w : a ≡ x = cc in ap (λ (y : SlotArray). rounded y.bytes) w in let z = array_first more (at + rounded a.bytes) in omega (arith, q, z)
array_next (a ∷ more) at (suc k) x e = array_next more (at + rounded a.bytes) k x e

pub array_order : (all : List SlotArray) (at i j : ℕ) → i ≤ j → array_from all at i ≤ array_from all at j
array_order [] at i j h = omega arith
array_order (a ∷ more) at zero j h = let u = arrays_up (a ∷ more) at j in u
array_order (a ∷ more) at (suc i) zero h = absurd (omega (arith, h))
array_order (a ∷ more) at (suc i) (suc j) h = array_order more (at + rounded a.bytes) i j (omega (arith, h))

pub array_past : (all : List SlotArray) (at k : ℕ) → array_from all at k ≤ array_from all at (length all)
array_past [] at k = omega arith
array_past (a ∷ more) at zero = arrays_up (a ∷ more) at (length (a ∷ more))
array_past (a ∷ more) at (suc k) = array_past more (at + rounded a.bytes) k

pub array_aligned : (all : List SlotArray) (at k : ℕ) → at % 4 ≡ 0 → array_from all at k % 4 ≡ 0
unfolding rounded
array_aligned [] at k h = h
array_aligned (a ∷ more) at zero h = h
array_aligned (a ∷ more) at (suc k) h = array_aligned more (at + (a.bytes + 3) / 4 * 4) k (omega (arith, h))

pub array_some : (all : List SlotArray) (k : ℕ) (x : SlotArray) → HaveBytes all → slice_get all k ≡ Some x → 1 ≤ x.bytes
array_some [] k x h e = absurd cc
array_some (a ∷ more) zero x h e = let w : a ≡ x = cc in subst (λ (y : SlotArray). 1 ≤ y.bytes) w h.0
array_some (a ∷ more) (suc k) x h e = array_some more k x h.1 e

pub words_four : (g : SlotFunction) → 4 ≤ words_end g
unfolding words_end
words_four g = omega arith

pub words_aligned : (g : SlotFunction) → words_end g % 4 ≡ 0
unfolding words_end
words_aligned g = omega arith

pub frame_some : (g : SlotFunction) → IsFunction g → 1 ≤ g.frame
frame_some g i = let h = i.holds in let k = arrays_up g.arrays (words_end g) (length g.arrays) in let w = words_four g in omega (arith, h, k, w)
