-- Frames are small.
use Rattle.std.proofs.Common.{◌≡◌, ℕ, zero, suc, ◌+◌, ◌*◌, ◌^◌, ◌≤◌, List, [], ◌∷◌, ◌++◌, length, Some, ap, arith, length-append}
use Rattle.std.specs.Prelude.{slice_get}
use Rattle.nx_rv.specs.declared.inst.Inst.{Inst}
use Rattle.nx_slot.specs.declared.op.Operand.{Operand}
use Rattle.nx_slot.specs.declared.program.SlotArray.{SlotArray}
use Rattle.nx_slot.specs.declared.program.SlotFunction.{SlotFunction}
use Rattle.nx_codegen.specs.Frames.{IsFunction, array_from, rounded, words_end}
use Rattle.nx_codegen.specs.Moves.{get_code}
use Rattle.nx_codegen.specs.Operators.{right_code}
use Rattle.nx_codegen.proofs.Sizes.{get_few, right_few}

pub array_up : (xs : List SlotArray) (here k : ℕ) → here ≤ array_from xs here k
array_up [] here k = omega arith
array_up (a ∷ more) here zero = omega arith
array_up (a ∷ more) here (suc k) = let h = array_up more (here + rounded a.bytes) k in omega (arith, h)

pub words_small : (g : SlotFunction) → IsFunction g → 4 * (1 + g.temporaries + g.locals) ≤ 2 ^ 20
unfolding words_end
words_small g i = let h = array_up g.arrays (words_end g) (length g.arrays) in let k = i.holds in let s = i.small in omega (arith, h, k, s)

pub bytes_small : (a : SlotArray) → a.bytes ≤ rounded a.bytes
unfolding rounded
bytes_small a = omega arith

pub length_parts : (a b : List Inst) → length (a ++ b) ≡ length a + length b
length_parts a b = length-append a b

pub sides_few : (g : SlotFunction) (left : ℕ) (right : Operand) → length (get_code g 5 left) + length (right_code g right) ≤ 6
sides_few g left right = let h = (get_few g 5 left).few in let k = (right_few g right).few in omega (arith, h, k)

array_within : (xs : List SlotArray) (here k : ℕ) (a : SlotArray) → slice_get xs k ≡ Some a → a.bytes ≤ array_from xs here (length xs)
array_within [] here k a e = absurd cc
array_within (x ∷ xs) here zero a e =
    let w : x ≡ a = cc in
    let q : x.bytes ≡ a.bytes = ap SlotArray.bytes w in
    let h = array_up xs (here + rounded x.bytes) (length xs) in
    let b = bytes_small x in
    omega (arith, q, h, b)
array_within (x ∷ xs) here (suc k) a e = array_within xs (here + rounded x.bytes) k a e

pub array_small : (g : SlotFunction) (k : ℕ) (a : SlotArray) → IsFunction g → slice_get g.arrays k ≡ Some a → a.bytes ≤ 2 ^ 20
array_small g k a i e = let h = array_within g.arrays (words_end g) k a e in let m = i.holds in let s = i.small in omega (arith, h, m, s)
