-- Each operation has an instruction.
use Rattle.std.proofs.Common.{ℕ, ◌≤◌, Bool, true, false, List, [], ◌∷◌, ◌++◌, length, arith, length-append}
use Rattle.std.specs.Prelude.{pos, ◌==◌, nat_lt, if◌then◌else◌}
use Rattle.nx_base.specs.declared.operations.AluOp.{AluOp}
use Rattle.nx_base.specs.declared.operations.AluOp.TheVariants as alu
use Rattle.nx_rv.specs.declared.inst.Inst.{Inst}
use Rattle.nx_rv.specs.declared.inst.Inst.TheVariants.{Lui, Load, Store, OpImm, Op}
use Rattle.nx_slot.specs.declared.op.Comparison.{Comparison}
use Rattle.nx_slot.specs.declared.op.Comparison.TheVariants.{Equal, Unequal, Less, AtMost, Greater, AtLeast}
use Rattle.nx_slot.specs.declared.op.Binary.{Binary}
use Rattle.nx_slot.specs.declared.op.Binary.TheVariants.{Add, Subtract, Multiply, Divide, Remainder, And, Or, Xor, ShiftLeft, ShiftRight, Compare}
use Rattle.nx_slot.specs.declared.op.Unary.{Unary}
use Rattle.nx_slot.specs.declared.op.Unary.TheVariants.{Negate, LowByte}
use Rattle.nx_slot.specs.declared.op.Operand.TheVariants.{Cell, Number}
use Rattle.nx_slot.specs.declared.op.SlotOp.TheVariants as op
use Rattle.nx_slot.specs.declared.op.Width.{Width}
use Rattle.nx_slot.specs.declared.op.Width.TheVariants.{Byte, Word}
use Rattle.nx_slot.specs.declared.program.SlotFunction.{SlotFunction}
use Rattle.nx_codegen.specs.Addresses.{upper, lower}
use Rattle.nx_codegen.specs.Frames.{in_register, register_of, cell_at, array_at}
use Rattle.nx_codegen.specs.Moves.{addi, number_code, load_code, store_code, above_code, into_code, get_code, source, set_code, target, move_code}
use Rattle.nx_codegen.specs.Operators.{compare_code, binary_code, short_code, constant_code, unary_code, scaled_code, load_of, jump_code, skip_code}
use Rattle.nx_codegen.specs.Code.{sides_code}
use Rattle.nx_places.specs.Laws.{InstructionsAreThere}

either : (q : Bool) (c d : List Inst) → 1 ≤ length c → 1 ≤ length d → 1 ≤ length (if q then c else d)
either true c d h k = h
either false c d h k = k

left : (c d : List Inst) → 1 ≤ length c → 1 ≤ length (c ++ d)
left c d h = let l = length-append c d in omega (arith, l, h)

right : (c d : List Inst) → 1 ≤ length d → 1 ≤ length (c ++ d)
right c d h = let l = length-append c d in omega (arith, l, h)

number_some : (rd n : ℕ) → 1 ≤ length (number_code rd n)
unfolding number_code
number_some rd n = either (upper n == 0) (addi rd 0 (lower n) ∷ []) (Lui rd (upper n) ∷ addi rd rd (lower n) ∷ []) (omega arith) (omega arith)

load_some : (rd at : ℕ) → 1 ≤ length (load_code rd at)
unfolding load_code
load_some rd at = either (nat_lt at 2048) (Load 4 true rd 2 (pos at) ∷ []) (Lui rd (upper at) ∷ Op alu.Add rd rd 2 ∷ Load 4 true rd rd (lower at) ∷ []) (omega arith) (omega arith)

store_some : (rs at : ℕ) → 1 ≤ length (store_code rs at)
unfolding store_code
store_some rs at = either (nat_lt at 2048) (Store 4 2 rs (pos at) ∷ []) (Lui 7 (upper at) ∷ Op alu.Add 7 7 2 ∷ Store 4 7 rs (lower at) ∷ []) (omega arith) (omega arith)

above_some : (rd n : ℕ) → 1 ≤ length (above_code rd n)
unfolding above_code
above_some rd n = either (nat_lt n 2048) (addi rd 2 (pos n) ∷ []) (number_code rd n ++ Op alu.Add rd rd 2 ∷ []) (omega arith) (right (number_code rd n) (Op alu.Add rd rd 2 ∷ []) (omega arith))

into_some : (g : SlotFunction) (rd i : ℕ) → 1 ≤ length (into_code g rd i)
unfolding into_code
into_some g rd i = either (in_register g i) (addi rd (register_of g i) (pos 0) ∷ []) (load_code rd (cell_at g i)) (omega arith) (load_some rd (cell_at g i))

move_some : (g : SlotFunction) (to from : ℕ) → 1 ≤ length (move_code g to from)
unfolding move_code
move_some g to from =
    either (in_register g to) (into_code g (register_of g to) from) (get_code g 5 from ++ store_code (source g 5 from) (cell_at g to)) (into_some g (register_of g to) from)
    (right (get_code g 5 from) (store_code (source g 5 from) (cell_at g to)) (store_some (source g 5 from) (cell_at g to)))

compare_some : (o : Comparison) (rd a b : ℕ) → 1 ≤ length (compare_code o rd a b)
compare_some Equal rd a b = omega arith
compare_some Unequal rd a b = omega arith
compare_some Less rd a b = omega arith
compare_some AtMost rd a b = omega arith
compare_some Greater rd a b = omega arith
compare_some AtLeast rd a b = omega arith

binary_some : (o : Binary) (rd a b : ℕ) → 1 ≤ length (binary_code o rd a b)
binary_some Add rd a b = omega arith
binary_some Subtract rd a b = omega arith
binary_some Multiply rd a b = omega arith
binary_some Divide rd a b = omega arith
binary_some Remainder rd a b = omega arith
binary_some And rd a b = omega arith
binary_some Or rd a b = omega arith
binary_some Xor rd a b = omega arith
binary_some ShiftLeft rd a b = omega arith
binary_some ShiftRight rd a b = omega arith
binary_some (Compare c) rd a b = compare_some c rd a b

short_some : (o : AluOp) (rd a n : ℕ) → 1 ≤ length (short_code o rd a n)
unfolding short_code
short_some o rd a n = either (upper n == 0) (OpImm o rd a (lower n) ∷ []) (number_code 6 n ++ Op o rd a 6 ∷ []) (omega arith) (right (number_code 6 n) (Op o rd a 6 ∷ []) (omega arith))

long_some : (o : Binary) (rd a n : ℕ) → 1 ≤ length (number_code 6 n ++ binary_code o rd a 6)
long_some o rd a n = left (number_code 6 n) (binary_code o rd a 6) (number_some 6 n)

constant_some : (o : Binary) (rd a n : ℕ) → 1 ≤ length (constant_code o rd a n)
constant_some Add rd a n = short_some alu.Add rd a n
constant_some Subtract rd a n = short_some alu.Add rd a _
constant_some Multiply rd a n = long_some Multiply rd a n
constant_some Divide rd a n = long_some Divide rd a n
constant_some Remainder rd a n = long_some Remainder rd a n
constant_some And rd a n = short_some alu.And rd a n
constant_some Or rd a n = short_some alu.Or rd a n
constant_some Xor rd a n = short_some alu.Xor rd a n
constant_some ShiftLeft rd a n = omega arith
constant_some ShiftRight rd a n = omega arith
constant_some (Compare Equal) rd a n = left (short_code alu.Xor rd a n) _ (short_some alu.Xor rd a n)
constant_some (Compare Unequal) rd a n = left (short_code alu.Xor rd a n) _ (short_some alu.Xor rd a n)
constant_some (Compare Less) rd a n = short_some alu.Slt rd a n
constant_some (Compare AtMost) rd a n = long_some (Compare AtMost) rd a n
constant_some (Compare Greater) rd a n = long_some (Compare Greater) rd a n
constant_some (Compare AtLeast) rd a n = left (short_code alu.Slt rd a n) _ (short_some alu.Slt rd a n)

unary_some : (o : Unary) (rd a : ℕ) → 1 ≤ length (unary_code o rd a)
unary_some Negate rd a = omega arith
unary_some LowByte rd a = omega arith

scaled_some : (w : Width) (rd a b : ℕ) → 1 ≤ length (scaled_code w rd a b)
scaled_some Byte rd a b = omega arith
scaled_some Word rd a b = omega arith

jump_some : (near : Bool) (here there : ℕ) → 1 ≤ length (jump_code near here there)
unfolding jump_code
jump_some true here there = omega arith
jump_some false here there = omega arith

skip_some : (near : Bool) (o : Comparison) (a b here there : ℕ) → 1 ≤ length (skip_code near o a b here there)
unfolding skip_code
skip_some true o a b here there = omega arith
skip_some false o a b here there = omega arith

pub are_there : InstructionsAreThere
are_there l near g there here at (op.Move to (Cell from)) p = move_some g to from
are_there l near g there here at (op.Move to (Number n)) p = left (number_code (target g to) n) (set_code g to) (number_some (target g to) n)
are_there l near g there here at (op.Forge to from) p = move_some g to from
are_there l near g there here at (op.Apply o to left' (Cell right')) p =
    let c = binary_code o (target g to) (source g 5 left') (source g 6 right') in
    right (get_code g 5 left') (get_code g 6 right' ++ (c ++ set_code g to)) (right (get_code g 6 right') (c ++ set_code g to) (left c (set_code g to) (binary_some o _ _ _)))
are_there l near g there here at (op.Apply o to left' (Number n)) p =
    let c = constant_code o (target g to) (source g 5 left') n in
    right (get_code g 5 left') (c ++ set_code g to) (left c (set_code g to) (constant_some o _ _ n))
are_there l near g there here at (op.Change o to from) p =
    let c = unary_code o (target g to) (source g 5 from) in
    right (get_code g 5 from) (c ++ set_code g to) (left c (set_code g to) (unary_some o _ _))
are_there l near g there here at (op.SkipUnless test left' right' past) p = right (sides_code g left' right') _ (skip_some near test _ _ _ _)
are_there l near g there here at (op.Skip past) p = jump_some near here _
are_there l near g there here at (op.Back by) p = jump_some near here _
are_there l near g there here at (op.Ask number first count) p = absurd p
are_there l near g there here at (op.Go function first count) p = absurd p
are_there l near g there here at (op.Give value) p = absurd p
are_there l near g there here at (op.Make k) p = absurd p
are_there l near g there here at (op.Local to k) p = left (above_code (target g to) (array_at g k)) (set_code g to) (above_some _ _)
are_there l near g there here at (op.Static to o) p = omega arith
are_there l near g there here at (op.Entry to function) p = omega arith
are_there l near g there here at (op.Fetch to o) p = omega arith
are_there l near g there here at (op.Keep o from) p = right (get_code g 6 from) _ (omega arith)
are_there l near g there here at (op.Index to base (Cell index) w) p =
    let c = scaled_code w (target g to) (source g 5 base) (source g 6 index) in
    right (get_code g 5 base) (get_code g 6 index ++ (c ++ set_code g to)) (right (get_code g 6 index) (c ++ set_code g to) (left c (set_code g to) (scaled_some w _ _ _)))
are_there l near g there here at (op.Index to base (Number n) w) p = right (get_code g 5 base) _ (left (short_code alu.Add (target g to) (source g 5 base) _) (set_code g to) (short_some alu.Add _ _ _))
are_there l near g there here at (op.Load to place w) p = right (get_code g 5 place) (load_of w (target g to) (source g 5 place) ∷ set_code g to) (omega arith)
are_there l near g there here at (op.Store place value w) p = right (get_code g 5 place) _ (right (get_code g 6 value) _ (omega arith))
