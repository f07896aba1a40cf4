-- How many instructions an operation has at most.
use Rattle.std.proofs.Common.{ℕ, ◌+◌, ◌≤◌, Bool, true, false, List, [], ◌∷◌, ◌++◌, length, arith, length-append}
use Rattle.std.specs.Prelude.{pos, ◌==◌, nat_lt, if◌then◌else◌}
use Rattle.nx_base.specs.declared.operations.AluOp.{AluOp}
use Rattle.nx_base.specs.declared.operations.AluOp.TheVariants as alu
use Rattle.nx_rv.specs.declared.inst.Inst.{Inst}
use Rattle.nx_rv.specs.declared.inst.Inst.TheVariants.{Lui, Load, Store, OpImm, Op}
use Rattle.nx_slot.specs.declared.op.Comparison.{Comparison}
use Rattle.nx_slot.specs.declared.op.Comparison.TheVariants.{Equal, Unequal, Less, AtMost, Greater, AtLeast}
use Rattle.nx_slot.specs.declared.op.Binary.{Binary}
use Rattle.nx_slot.specs.declared.op.Binary.TheVariants.{Add, Subtract, Multiply, Divide, Remainder, And, Or, Xor, ShiftLeft, ShiftRight, Compare}
use Rattle.nx_slot.specs.declared.op.Unary.{Unary}
use Rattle.nx_slot.specs.declared.op.Unary.TheVariants.{Negate, LowByte}
use Rattle.nx_slot.specs.declared.op.Operand.{Operand}
use Rattle.nx_slot.specs.declared.op.Operand.TheVariants.{Cell, Number}
use Rattle.nx_slot.specs.declared.op.SlotOp.TheVariants as op
use Rattle.nx_slot.specs.declared.op.Width.{Width}
use Rattle.nx_slot.specs.declared.op.Width.TheVariants.{Byte, Word}
use Rattle.nx_slot.specs.declared.program.SlotFunction.{SlotFunction}
use Rattle.nx_codegen.specs.Addresses.{upper, lower}
use Rattle.nx_codegen.specs.Frames.{in_register, register_of, cell_at, array_at}
use Rattle.nx_codegen.specs.Moves.{addi, number_code, load_code, store_code, above_code, into_code, get_code, source, set_code, target, move_code}
use Rattle.nx_codegen.specs.Operators.{compare_code, binary_code, short_code, constant_code, unary_code, scaled_code, jump_code, skip_code, right_code}
use Rattle.nx_places.specs.Laws.{CostsSuffice}

-- One of two codes, and two one after the other.
either : (q : Bool) (c d : List Inst) (n : ℕ) → length c ≤ n → length d ≤ n → length (if q then c else d) ≤ n
either true c d n h k = h
either false c d n h k = k

both : (c d : List Inst) (m n k : ℕ) → length c ≤ m → length d ≤ n → m + n ≤ k → length (c ++ d) ≤ k
both c d m n k h g s = let l = length-append c d in omega (arith, l, h, g, s)

number_few : (rd n : ℕ) → length (number_code rd n) ≤ 2
unfolding number_code
number_few rd n = either (upper n == 0) (addi rd 0 (lower n) ∷ []) (Lui rd (upper n) ∷ addi rd rd (lower n) ∷ []) 2 (omega arith) (omega arith)

load_few : (rd at : ℕ) → length (load_code rd at) ≤ 3
unfolding load_code
load_few rd at = either (nat_lt at 2048) (Load 4 true rd 2 (pos at) ∷ []) (Lui rd (upper at) ∷ Op alu.Add rd rd 2 ∷ Load 4 true rd rd (lower at) ∷ []) 3 (omega arith) (omega arith)

store_few : (rs at : ℕ) → length (store_code rs at) ≤ 3
unfolding store_code
store_few rs at = either (nat_lt at 2048) (Store 4 2 rs (pos at) ∷ []) (Lui 7 (upper at) ∷ Op alu.Add 7 7 2 ∷ Store 4 7 rs (lower at) ∷ []) 3 (omega arith) (omega arith)

above_few : (rd n : ℕ) → length (above_code rd n) ≤ 3
unfolding above_code
above_few rd n = either (nat_lt n 2048) (addi rd 2 (pos n) ∷ []) (number_code rd n ++ Op alu.Add rd rd 2 ∷ []) 3 (omega arith) (both (number_code rd n) (Op alu.Add rd rd 2 ∷ []) 2 1 3 (number_few rd n) (omega arith) (omega arith))

into_few : (g : SlotFunction) (rd i : ℕ) → length (into_code g rd i) ≤ 3
unfolding into_code
into_few g rd i = either (in_register g i) (addi rd (register_of g i) (pos 0) ∷ []) (load_code rd (cell_at g i)) 3 (omega arith) (load_few rd (cell_at g i))

get_few : (g : SlotFunction) (s i : ℕ) → length (get_code g s i) ≤ 3
unfolding get_code
get_few g s i = either (in_register g i) [] (load_code s (cell_at g i)) 3 (omega arith) (load_few s (cell_at g i))

set_few : (g : SlotFunction) (i : ℕ) → length (set_code g i) ≤ 3
unfolding set_code
set_few g i = either (in_register g i) [] (store_code 5 (cell_at g i)) 3 (omega arith) (store_few 5 (cell_at g i))

move_few : (g : SlotFunction) (to from : ℕ) → length (move_code g to from) ≤ 6
unfolding move_code
move_few g to from =
    either (in_register g to) (into_code g (register_of g to) from) (get_code g 5 from ++ store_code (source g 5 from) (cell_at g to)) 6
    (let h = into_few g (register_of g to) from in omega (arith, h))
    (both (get_code g 5 from) (store_code (source g 5 from) (cell_at g to)) 3 3 6 (get_few g 5 from) (store_few (source g 5 from) (cell_at g to)) (omega arith))

compare_few : (o : Comparison) (rd a b : ℕ) → length (compare_code o rd a b) ≤ 2
compare_few Equal rd a b = omega arith
compare_few Unequal rd a b = omega arith
compare_few Less rd a b = omega arith
compare_few AtMost rd a b = omega arith
compare_few Greater rd a b = omega arith
compare_few AtLeast rd a b = omega arith

binary_few : (o : Binary) (rd a b : ℕ) → length (binary_code o rd a b) ≤ 2
binary_few Add rd a b = omega arith
binary_few Subtract rd a b = omega arith
binary_few Multiply rd a b = omega arith
binary_few Divide rd a b = omega arith
binary_few Remainder rd a b = omega arith
binary_few And rd a b = omega arith
binary_few Or rd a b = omega arith
binary_few Xor rd a b = omega arith
binary_few ShiftLeft rd a b = omega arith
binary_few ShiftRight rd a b = omega arith
binary_few (Compare c) rd a b = compare_few c rd a b

short_few : (o : AluOp) (rd a n : ℕ) → length (short_code o rd a n) ≤ 3
unfolding short_code
short_few o rd a n = either (upper n == 0) (OpImm o rd a (lower n) ∷ []) (number_code 6 n ++ Op o rd a 6 ∷ []) 3 (omega arith) (both (number_code 6 n) (Op o rd a 6 ∷ []) 2 1 3 (number_few 6 n) (omega arith) (omega arith))

short_four : (o : AluOp) (rd a n : ℕ) → length (short_code o rd a n) ≤ 4
short_four o rd a n = let h = short_few o rd a n in omega (arith, h)

long_four : (o : Binary) (rd a n : ℕ) → length (number_code 6 n ++ binary_code o rd a 6) ≤ 4
long_four o rd a n = both (number_code 6 n) (binary_code o rd a 6) 2 2 4 (number_few 6 n) (binary_few o rd a 6) (omega arith)

one_more : (o : AluOp) (rd a n : ℕ) (i : Inst) → length (short_code o rd a n ++ i ∷ []) ≤ 4
one_more o rd a n i = both (short_code o rd a n) (i ∷ []) 3 1 4 (short_few o rd a n) (omega arith) (omega arith)

constant_few : (o : Binary) (rd a n : ℕ) → length (constant_code o rd a n) ≤ 4
constant_few Add rd a n = short_four alu.Add rd a n
constant_few Subtract rd a n = short_four alu.Add rd a _
constant_few Multiply rd a n = long_four Multiply rd a n
constant_few Divide rd a n = long_four Divide rd a n
constant_few Remainder rd a n = long_four Remainder rd a n
constant_few And rd a n = short_four alu.And rd a n
constant_few Or rd a n = short_four alu.Or rd a n
constant_few Xor rd a n = short_four alu.Xor rd a n
constant_few ShiftLeft rd a n = omega arith
constant_few ShiftRight rd a n = omega arith
constant_few (Compare Equal) rd a n = one_more alu.Xor rd a n _
constant_few (Compare Unequal) rd a n = one_more alu.Xor rd a n _
constant_few (Compare Less) rd a n = short_four alu.Slt rd a n
constant_few (Compare AtMost) rd a n = long_four (Compare AtMost) rd a n
constant_few (Compare Greater) rd a n = long_four (Compare Greater) rd a n
constant_few (Compare AtLeast) rd a n = one_more alu.Slt rd a n _

unary_few : (o : Unary) (rd a : ℕ) → length (unary_code o rd a) ≤ 1
unary_few Negate rd a = omega arith
unary_few LowByte rd a = omega arith

scaled_few : (w : Width) (rd a b : ℕ) → length (scaled_code w rd a b) ≤ 2
scaled_few Byte rd a b = omega arith
scaled_few Word rd a b = omega arith

jump_few : (near : Bool) (here there : ℕ) → length (jump_code near here there) ≤ 2
unfolding jump_code
jump_few true here there = omega arith
jump_few false here there = omega arith

skip_few : (near : Bool) (o : Comparison) (a b here there : ℕ) → length (skip_code near o a b here there) ≤ 3
unfolding skip_code
skip_few true o a b here there = omega arith
skip_few false o a b here there = let h = jump_few false (here + 4) there in omega (arith, h)

right_few : (g : SlotFunction) (x : Operand) → length (right_code g x) ≤ 3
unfolding right_code
right_few g (Cell i) = get_few g 6 i
right_few g (Number n) = either (n == 0) [] (number_code 6 n) 3 (omega arith) (let h = number_few 6 n in omega (arith, h))

three : (a b c : List Inst) (k m n s : ℕ) → length a ≤ k → length b ≤ m → length c ≤ n → k + (m + n) ≤ s → length (a ++ (b ++ c)) ≤ s
three a b c k m n s h g f l = both a (b ++ c) k (m + n) s h (both b c m n (m + n) g f (omega arith)) l

pub suffice : CostsSuffice
suffice l near g there here at (op.Move to (Cell from)) p = move_few g to from
suffice l near g there here at (op.Move to (Number n)) p = both (number_code (target g to) n) (set_code g to) 2 3 6 (number_few _ n) (set_few g to) (omega arith)
suffice l near g there here at (op.Forge to from) p = move_few g to from
suffice l near g there here at (op.Apply o to left (Cell right)) p =
    both (get_code g 5 left) (get_code g 6 right ++ (binary_code o (target g to) (source g 5 left) (source g 6 right) ++ set_code g to)) 3 8 11 (get_few g 5 left)
    (three (get_code g 6 right) (binary_code o (target g to) (source g 5 left) (source g 6 right)) (set_code g to) 3 2 3 8 (get_few g 6 right) (binary_few o _ _ _) (set_few g to) (omega arith)) (omega arith)
suffice l near g there here at (op.Apply o to left (Number n)) p =
    three (get_code g 5 left) (constant_code o (target g to) (source g 5 left) n) (set_code g to) 3 4 3 11 (get_few g 5 left) (constant_few o _ _ n) (set_few g to) (omega arith)
suffice l near g there here at (op.Change o to from) p = three (get_code g 5 from) (unary_code o (target g to) (source g 5 from)) (set_code g to) 3 1 3 7 (get_few g 5 from) (unary_few o _ _) (set_few g to) (omega arith)
suffice l near g there here at (op.SkipUnless test left right past) p =
    both (get_code g 5 left ++ right_code g right) _ 6 3 9 (both (get_code g 5 left) (right_code g right) 3 3 6 (get_few g 5 left) (right_few g right) (omega arith)) (skip_few near test _ _ _ _) (omega arith)
suffice l near g there here at (op.Skip past) p = jump_few near here _
suffice l near g there here at (op.Back by) p = jump_few near here _
suffice l near g there here at (op.Ask number first count) p = absurd p
suffice l near g there here at (op.Go function first count) p = absurd p
suffice l near g there here at (op.Give value) p = absurd p
suffice l near g there here at (op.Make k) p = absurd p
suffice l near g there here at (op.Local to k) p = both (above_code (target g to) (array_at g k)) (set_code g to) 3 3 6 (above_few _ _) (set_few g to) (omega arith)
suffice l near g there here at (op.Static to o) p = let h = set_few g to in omega (arith, h)
suffice l near g there here at (op.Entry to function) p = let h = set_few g to in omega (arith, h)
suffice l near g there here at (op.Fetch to o) p = let h = set_few g to in omega (arith, h)
suffice l near g there here at (op.Keep o from) p = both (get_code g 6 from) _ 3 2 5 (get_few g 6 from) (omega arith) (omega arith)
suffice l near g there here at (op.Index to base (Cell index) w) p =
    both (get_code g 5 base) (get_code g 6 index ++ (scaled_code w (target g to) (source g 5 base) (source g 6 index) ++ set_code g to)) 3 8 11 (get_few g 5 base)
    (three (get_code g 6 index) (scaled_code w (target g to) (source g 5 base) (source g 6 index)) (set_code g to) 3 2 3 8 (get_few g 6 index) (scaled_few w _ _ _) (set_few g to) (omega arith)) (omega arith)
suffice l near g there here at (op.Index to base (Number n) w) p = three (get_code g 5 base) (short_code alu.Add (target g to) (source g 5 base) _) (set_code g to) 3 3 3 11 (get_few g 5 base) (short_few alu.Add _ _ _) (set_few g to) (omega arith)
suffice l near g there here at (op.Load to place w) p = both (get_code g 5 place) (_ ∷ set_code g to) 3 4 7 (get_few g 5 place) (let h = set_few g to in omega (arith, h)) (omega arith)
suffice l near g there here at (op.Store place value w) p = three (get_code g 5 place) (get_code g 6 value) _ 3 3 1 7 (get_few g 5 place) (get_few g 6 value) (omega arith) (omega arith)
