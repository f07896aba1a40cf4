-- How many outputs a call has.
use Rattle.std.proofs.Common.{ℕ, suc, ◌≤◌, List, [], ◌∷◌, length, refl, arith}
use Rattle.nx_base.specs.declared.calls.Kind.{Kind}
use Rattle.nx_base.specs.declared.calls.Kind.TheVariants.{Word, In, Text, Out, Len, Out4, Out8}
use Rattle.nx_base.specs.declared.calls.KCall.{KCall}
use Rattle.nx_base.specs.KernelCalls.{kinds_of}
use Rattle.nx_base.specs.Replies.{output_rooms, HaveRoom, FitsCall}

-- the outputs among kinds
abbrev outputs : List Kind → ℕ
outputs [] = 0
outputs (Out ∷ kinds) = suc (outputs kinds)
outputs (Out4 ∷ kinds) = suc (outputs kinds)
outputs (Out8 ∷ kinds) = suc (outputs kinds)
outputs (other ∷ kinds) = outputs kinds

one_each : (kinds : List Kind) (words : List ℕ) → length (output_rooms kinds words) ≤ outputs kinds
one_each [] words = omega arith
one_each (Word ∷ kinds) [] = omega arith
one_each (In ∷ kinds) [] = omega arith
one_each (Text ∷ kinds) [] = omega arith
one_each (Out ∷ kinds) [] = omega arith
one_each (Len ∷ kinds) [] = omega arith
one_each (Out4 ∷ kinds) [] = omega arith
one_each (Out8 ∷ kinds) [] = omega arith
one_each (Word ∷ kinds) (w ∷ words) = one_each kinds words
one_each (In ∷ kinds) (w ∷ words) = one_each kinds words
one_each (Text ∷ kinds) (w ∷ words) = one_each kinds words
one_each (Out ∷ kinds) (w ∷ words) = let h = one_each kinds words in omega (arith, h)
one_each (Len ∷ kinds) (w ∷ words) = one_each kinds words
one_each (Out4 ∷ kinds) (w ∷ words) = let h = one_each kinds words in omega (arith, h)
one_each (Out8 ∷ kinds) (w ∷ words) = let h = one_each kinds words in omega (arith, h)

few : (c : KCall) → outputs (kinds_of c) ≤ 2
few c = grind arith

pub two_outputs : (c : KCall) (words : List ℕ) → length (output_rooms (kinds_of c) words) ≤ 2
two_outputs c words = let h = one_each (kinds_of c) words in let k = few c in omega (arith, h, k)

empty_has_room : (rooms : List ℕ) → HaveRoom rooms ([] ∷ [] ∷ [])
empty_has_room [] = (refl, (refl, tt))
empty_has_room (a ∷ []) = (omega arith, (refl, tt))
empty_has_room (a ∷ b ∷ rooms) = (omega arith, (omega arith, tt))

pub nothing_fits : (kinds : List Kind) (words : List ℕ) → FitsCall kinds words ([] ∷ [] ∷ [])
nothing_fits kinds words = empty_has_room (output_rooms kinds words)
