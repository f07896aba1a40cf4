-- No operation takes more than 40 instructions.
use Rattle.std.proofs.Common.{ℕ, zero, suc, ◌+◌, ◌*◌, ◌≤◌, Bool, true, false, List, [], ◌∷◌, ◌++◌, length, Option, Some, None, arith, length-append}
use Rattle.std.specs.Prelude.{nat_lt, nat_le, ◌==◌, pos}
use Rattle.nx_base.specs.declared.operations.AluOp.{AluOp}
use Rattle.nx_rv.specs.declared.inst.Inst.{Inst}
use Rattle.nx_rv.specs.declared.inst.Inst.TheVariants.{Jalr, Store}
use Rattle.nx_slot.specs.declared.op.Comparison.{Comparison}
use Rattle.nx_slot.specs.declared.op.Comparison.TheVariants as test
use Rattle.nx_slot.specs.declared.op.Binary.{Binary}
use Rattle.nx_slot.specs.declared.op.Binary.TheVariants as bin
use Rattle.nx_slot.specs.declared.op.Unary.{Unary}
use Rattle.nx_slot.specs.declared.op.Unary.TheVariants as un
use Rattle.nx_slot.specs.declared.op.Operand.{Operand}
use Rattle.nx_slot.specs.declared.op.Operand.TheVariants.{Cell, Number}
use Rattle.nx_slot.specs.declared.op.Width.{Width}
use Rattle.nx_slot.specs.declared.op.Width.TheVariants.{Byte, Word}
use Rattle.nx_slot.specs.declared.op.SlotOp.{SlotOp}
use Rattle.nx_slot.specs.declared.op.SlotOp.TheVariants as op
use Rattle.nx_slot.specs.declared.program.SlotArray.{SlotArray}
use Rattle.nx_slot.specs.declared.program.SlotFunction.{SlotFunction}
use Rattle.nx_codegen.specs.Addresses.{no_links, upper}
use Rattle.nx_codegen.specs.Frames.{IsFunction, in_register, cell_at, array_at, register_of, rounded}
use Rattle.nx_codegen.specs.Moves.{number_code, load_code, store_code, above_code, into_code, get_code, source, set_code, target, move_code, answer_code}
use Rattle.nx_codegen.specs.Operators.{compare_code, binary_code, short_code, constant_code, unary_code, scaled_code, jump_code, skip_code, right_code}
use Rattle.nx_codegen.specs.Calling.{arguments_code, kept_at, save_code, restore_code, call_code, open_code, close_code, parameters_code, test_code, enter_code, leave_code, clear_code}
use Rattle.nx_codegen.specs.Code.{sides_code, operation_code, size_of}
use Rattle.nx_codegen.specs.Cells.{HasCells}
use Rattle.nx_codegen.proofs.Lengths.{by_test}

pub record AreFew (is : List Inst) (n : ℕ) : Type 0 where
  pub few : length is ≤ n

joined : (a b : List Inst) (n m : ℕ) → AreFew a n → AreFew b m → AreFew (a ++ b) (n + m)
joined a b n m h k = let l = length-append a b in let x = h.few in let y = k.few in record { few = omega (arith, l, x, y) }

number_few : (rd n : ℕ) → AreFew (number_code rd n) 2
unfolding number_code
number_few rd n = by_test (upper n == 0) (λ q. rw q (record { few = omega arith })) (λ q. rw q (record { few = omega arith }))

load_few : (rd at : ℕ) → AreFew (load_code rd at) 3
unfolding load_code
load_few rd at = by_test (nat_lt at 2048) (λ q. rw q (record { few = omega arith })) (λ q. rw q (record { few = omega arith }))

store_few : (rs at : ℕ) → AreFew (store_code rs at) 3
unfolding store_code
store_few rs at = by_test (nat_lt at 2048) (λ q. rw q (record { few = omega arith })) (λ q. rw q (record { few = omega arith }))

above_few : (rd n : ℕ) → AreFew (above_code rd n) 3
unfolding above_code
above_few rd n = by_test (nat_lt n 2048) (λ q. rw q (record { few = omega arith })) (λ q. rw q (joined (number_code rd n) _ 2 1 (number_few rd n) (record { few = omega arith })))

into_few : (g : SlotFunction) (rd i : ℕ) → AreFew (into_code g rd i) 3
unfolding into_code
into_few g rd i = by_test (in_register g i) (λ q. rw q (record { few = omega arith })) (λ q. rw q (load_few rd (cell_at g i)))

pub get_few : (g : SlotFunction) (s i : ℕ) → AreFew (get_code g s i) 3
unfolding get_code
get_few g s i = by_test (in_register g i) (λ q. rw q (record { few = omega arith })) (λ q. rw q (load_few s (cell_at g i)))

set_few : (g : SlotFunction) (i : ℕ) → AreFew (set_code g i) 3
unfolding set_code
set_few g i = by_test (in_register g i) (λ q. rw q (record { few = omega arith })) (λ q. rw q (store_few 5 (cell_at g i)))

move_few : (g : SlotFunction) (to from : ℕ) → AreFew (move_code g to from) 6
unfolding move_code
move_few g to from = by_test (in_register g to)
    (λ q. rw q (more (into_code g (register_of g to) from) 3 6 (into_few g (register_of g to) from) (omega arith)))
    (λ q. rw q (joined (get_code g 5 from) _ 3 3 (get_few g 5 from) (store_few (source g 5 from) (cell_at g to))))
  where
    more : (is : List Inst) (n m : ℕ) → AreFew is n → n ≤ m → AreFew is m
    more is n m h k = let x = h.few in record { few = omega (arith, x, k) }

answer_few : (g : SlotFunction) (i : ℕ) → AreFew (answer_code g i) 4
unfolding answer_code
answer_few g i = let h = (set_few g i).few in record { few = omega (arith, h) }

short_few : (o : AluOp) (rd a n : ℕ) → AreFew (short_code o rd a n) 3
unfolding short_code
short_few o rd a n = by_test (upper n == 0) (λ q. rw q (record { few = omega arith })) (λ q. rw q (joined (number_code 6 n) _ 2 1 (number_few 6 n) (record { few = omega arith })))

compare_few : (o : Comparison) (rd a b : ℕ) → AreFew (compare_code o rd a b) 2
compare_few test.Equal rd a b = record { few = omega arith }
compare_few test.Unequal rd a b = record { few = omega arith }
compare_few test.Less rd a b = record { few = omega arith }
compare_few test.AtMost rd a b = record { few = omega arith }
compare_few test.Greater rd a b = record { few = omega arith }
compare_few test.AtLeast rd a b = record { few = omega arith }

binary_few : (o : Binary) (rd a b : ℕ) → AreFew (binary_code o rd a b) 2
binary_few bin.Add rd a b = record { few = omega arith }
binary_few bin.Subtract rd a b = record { few = omega arith }
binary_few bin.Multiply rd a b = record { few = omega arith }
binary_few bin.Divide rd a b = record { few = omega arith }
binary_few bin.Remainder rd a b = record { few = omega arith }
binary_few bin.And rd a b = record { few = omega arith }
binary_few bin.Or rd a b = record { few = omega arith }
binary_few bin.Xor rd a b = record { few = omega arith }
binary_few bin.ShiftLeft rd a b = record { few = omega arith }
binary_few bin.ShiftRight rd a b = record { few = omega arith }
binary_few (bin.Compare o) rd a b = compare_few o rd a b

with_number : (is : List Inst) (n : ℕ) → AreFew is 2 → AreFew (number_code 6 n ++ is) 4
with_number is n h = joined (number_code 6 n) is 2 2 (number_few 6 n) h

with_last : (is : List Inst) (i : Inst) → AreFew is 3 → AreFew (is ++ i ∷ []) 4
with_last is i h = joined is (i ∷ []) 3 1 h (record { few = omega arith })

up : (is : List Inst) (n m : ℕ) → AreFew is n → n ≤ m → AreFew is m
up is n m h k = let x = h.few in record { few = omega (arith, x, k) }

constant_few : (o : Binary) (rd a n : ℕ) → AreFew (constant_code o rd a n) 4
constant_few bin.Add rd a n = up _ 3 4 (short_few _ rd a n) (omega arith)
constant_few bin.Subtract rd a n = up _ 3 4 (short_few _ rd a _) (omega arith)
constant_few bin.And rd a n = up _ 3 4 (short_few _ rd a n) (omega arith)
constant_few bin.Or rd a n = up _ 3 4 (short_few _ rd a n) (omega arith)
constant_few bin.Xor rd a n = up _ 3 4 (short_few _ rd a n) (omega arith)
constant_few bin.ShiftLeft rd a n = record { few = omega arith }
constant_few bin.ShiftRight rd a n = record { few = omega arith }
constant_few (bin.Compare test.Less) rd a n = up _ 3 4 (short_few _ rd a n) (omega arith)
constant_few (bin.Compare test.Equal) rd a n = with_last _ _ (short_few _ rd a n)
constant_few (bin.Compare test.Unequal) rd a n = with_last _ _ (short_few _ rd a n)
constant_few (bin.Compare test.AtLeast) rd a n = with_last _ _ (short_few _ rd a n)
constant_few bin.Multiply rd a n = with_number _ n (binary_few bin.Multiply rd a 6)
constant_few bin.Divide rd a n = with_number _ n (binary_few bin.Divide rd a 6)
constant_few bin.Remainder rd a n = with_number _ n (binary_few bin.Remainder rd a 6)
constant_few (bin.Compare test.AtMost) rd a n = with_number _ n (compare_few test.AtMost rd a 6)
constant_few (bin.Compare test.Greater) rd a n = with_number _ n (compare_few test.Greater rd a 6)

unary_few : (o : Unary) (rd a : ℕ) → AreFew (unary_code o rd a) 1
unary_few un.Negate rd a = record { few = omega arith }
unary_few un.LowByte rd a = record { few = omega arith }

scaled_few : (w : Width) (rd a b : ℕ) → AreFew (scaled_code w rd a b) 2
scaled_few Byte rd a b = record { few = omega arith }
scaled_few Word rd a b = record { few = omega arith }

pub right_few : (g : SlotFunction) (x : Operand) → AreFew (right_code g x) 3
unfolding right_code
right_few g (Cell i) = get_few g 6 i
right_few g (Number n) = by_test (n == 0) (λ q. rw q (record { few = omega arith })) (λ q. rw q (up _ 2 3 (number_few 6 n) (omega arith)))

jump_few : (near : Bool) (a b : ℕ) → AreFew (jump_code near a b) 2
unfolding jump_code
jump_few true a b = record { few = omega arith }
jump_few false a b = record { few = omega arith }

skip_few : (near : Bool) (o : Comparison) (x y a b : ℕ) → AreFew (skip_code near o x y a b) 3
unfolding skip_code
skip_few true o x y a b = record { few = omega arith }
skip_few false o x y a b = let h = (jump_few false (a + 4) b).few in record { few = omega (arith, h) }

arguments_few : (g : SlotFunction) (first k : ℕ) → AreFew (arguments_code g first k) (3 * k)
unfolding arguments_code
arguments_few g first zero = record { few = omega arith }
arguments_few g first (suc k) = let h = joined (arguments_code g first k) _ (3 * k) 3 (arguments_few g first k) (into_few g (10 + k) (first + k)) in up _ (3 * k + 3) (3 * suc k) h (omega arith)

kept_few : (g : SlotFunction) (first : ℕ) → kept_at g first ≤ 8
unfolding kept_at
kept_few g first = omega arith

saved_few : (k : ℕ) → AreFew (save_code k) k
unfolding save_code
saved_few zero = record { few = omega arith }
saved_few (suc k) = up _ (k + 1) (suc k) (joined (save_code k) _ k 1 (saved_few k) (record { few = omega arith })) (omega arith)

restored_few : (k : ℕ) → AreFew (restore_code k) k
unfolding restore_code
restored_few zero = record { few = omega arith }
restored_few (suc k) = up _ (k + 1) (suc k) (joined (restore_code k) _ k 1 (restored_few k) (record { few = omega arith })) (omega arith)

call_few : (a : ℕ) → AreFew (call_code a) 2
unfolding call_code
call_few a = record { few = omega arith }

close_few : (n : ℕ) → AreFew (close_code n) 3
unfolding close_code
close_few n = by_test (nat_lt n 2048) (λ q. rw q (record { few = omega arith })) (λ q. rw q (joined (number_code 5 n) _ 2 1 (number_few 5 n) (record { few = omega arith })))

leave_few : (g : SlotFunction) → AreFew (leave_code g) 5
unfolding leave_code
leave_few g = let h = (joined (close_code g.frame) (Jalr 0 1 (pos 0) ∷ []) 3 1 (close_few g.frame) (record { few = omega arith })).few in record { few = omega (arith, h) }

clear_few : (g : SlotFunction) (k : ℕ) (x : Option SlotArray) → AreFew (clear_code g k x) 9
unfolding clear_code
clear_few g k None = record { few = omega arith }
clear_few g k (Some a) = joined (above_code 5 (array_at g k)) _ 3 6 (above_few 5 (array_at g k)) (joined (number_code 6 (rounded a.bytes)) _ 2 4 (number_few 6 (rounded a.bytes)) (record { few = omega arith }))

one_more : (i : Inst) (is : List Inst) (n : ℕ) → AreFew is n → AreFew (i ∷ is) (suc n)
one_more i is n h = let x = h.few in record { few = omega (arith, x) }

at_most : (is : List Inst) (n : ℕ) → AreFew is n → n ≤ 40 → AreFew is 40
at_most is n h k = up is n 40 h k

pub operation_few : (near : Bool) (g : SlotFunction) (there : ℕ → ℕ) (here at : ℕ) (o : SlotOp) → HasCells g o → AreFew (operation_code no_links near g there here at o) 40
operation_few near g there here at (op.Move to (Cell from)) h = at_most _ 6 (move_few g to from) (omega arith)
operation_few near g there here at (op.Move to (Number n)) h = at_most _ 5 (joined (number_code (target g to) n) _ 2 3 (number_few (target g to) n) (set_few g to)) (omega arith)
operation_few near g there here at (op.Forge to from) h = at_most _ 6 (move_few g to from) (omega arith)
operation_few near g there here at (op.Apply o to left (Cell right)) h =
    at_most _ 11 (joined (get_code g 5 left) _ 3 8 (get_few g 5 left) (joined (get_code g 6 right) _ 3 5 (get_few g 6 right) (joined (binary_code o (target g to) (source g 5 left) (source g 6 right)) _ 2 3 (binary_few o _ _ _) (set_few g to)))) (omega arith)
operation_few near g there here at (op.Apply o to left (Number n)) h =
    at_most _ 10 (joined (get_code g 5 left) _ 3 7 (get_few g 5 left) (joined (constant_code o (target g to) (source g 5 left) n) _ 4 3 (constant_few o _ _ n) (set_few g to))) (omega arith)
operation_few near g there here at (op.Change o to from) h =
    at_most _ 7 (joined (get_code g 5 from) _ 3 4 (get_few g 5 from) (joined (unary_code o (target g to) (source g 5 from)) _ 1 3 (unary_few o _ _) (set_few g to))) (omega arith)
operation_few near g there here at (op.SkipUnless test left right past) h =
    at_most _ 9 (joined (sides_code g left right) _ 6 3 (joined (get_code g 5 left) _ 3 3 (get_few g 5 left) (right_few g right)) (skip_few near test _ _ _ _)) (omega arith)
operation_few near g there here at (op.Skip past) h = at_most _ 2 (jump_few near _ _) (omega arith)
operation_few near g there here at (op.Back by) h = at_most _ 2 (jump_few near _ _) (omega arith)
operation_few near g there here at (op.Ask number first count) h =
    let c = h.1 in
    at_most _ (3 * count + 6) (joined (arguments_code g first count) _ (3 * count) 6 (arguments_few g first count) (joined (call_code 0) _ 2 4 (call_few 0) (answer_few g first))) (omega (arith, c))
operation_few near g there here at (op.Go function first count) h =
    let c = h.1 in
    let k = kept_few g first in
    let m = kept_at g first in
    at_most _ (m + (3 * count + (2 + (m + 4)))) (joined (save_code m) _ m (3 * count + (2 + (m + 4))) (saved_few m) (joined (arguments_code g first count) _ (3 * count) (2 + (m + 4)) (arguments_few g first count) (joined (call_code 0) _ 2 (m + 4) (call_few 0) (joined (restore_code m) _ m 4 (restored_few m) (answer_few g first))))) (omega (arith, c, k))
operation_few near g there here at (op.Give (Cell i)) h = at_most _ 8 (joined (into_code g 10 i) _ 3 5 (into_few g 10 i) (leave_few g)) (omega arith)
operation_few near g there here at (op.Give (Number n)) h = at_most _ 7 (joined (number_code 10 n) _ 2 5 (number_few 10 n) (leave_few g)) (omega arith)
operation_few near g there here at (op.Make k) h = at_most _ 9 (clear_few g k _) (omega arith)
operation_few near g there here at (op.Local to k) h = at_most _ 6 (joined (above_code (target g to) (array_at g k)) _ 3 3 (above_few _ _) (set_few g to)) (omega arith)
operation_few near g there here at (op.Static to o) h = at_most _ 5 (one_more _ _ 4 (one_more _ _ 3 (set_few g to))) (omega arith)
operation_few near g there here at (op.Entry to function) h = at_most _ 5 (one_more _ _ 4 (one_more _ _ 3 (set_few g to))) (omega arith)
operation_few near g there here at (op.Fetch to o) h = at_most _ 5 (one_more _ _ 4 (one_more _ _ 3 (set_few g to))) (omega arith)
operation_few near g there here at (op.Keep o from) h = at_most _ 5 (joined (get_code g 6 from) _ 3 2 (get_few g 6 from) (record { few = omega arith })) (omega arith)
operation_few near g there here at (op.Index to base (Cell index) w) h =
    at_most _ 11 (joined (get_code g 5 base) _ 3 8 (get_few g 5 base) (joined (get_code g 6 index) _ 3 5 (get_few g 6 index) (joined (scaled_code w (target g to) (source g 5 base) (source g 6 index)) _ 2 3 (scaled_few w _ _ _) (set_few g to)))) (omega arith)
operation_few near g there here at (op.Index to base (Number n) w) h =
    at_most _ 9 (joined (get_code g 5 base) _ 3 6 (get_few g 5 base) (joined (short_code _ (target g to) (source g 5 base) _) _ 3 3 (short_few _ _ _ _) (set_few g to))) (omega arith)
operation_few near g there here at (op.Load to place w) h = at_most _ 7 (joined (get_code g 5 place) _ 3 4 (get_few g 5 place) (one_more _ _ 3 (set_few g to))) (omega arith)
operation_few near g there here at (op.Store place value w) h = at_most _ 7 (joined (get_code g 5 place) _ 3 4 (get_few g 5 place) (joined (get_code g 6 value) _ 3 1 (get_few g 6 value) (record { few = omega arith }))) (omega arith)

pub size_small : (near : Bool) (g : SlotFunction) (o : SlotOp) → HasCells g o → size_of near g o ≤ 160
unfolding size_of
size_small near g o h = let k = (operation_few near g (λ i. 0) 0 0 o h).few in omega (arith, k)

open_few : (n : ℕ) → AreFew (open_code n) 3
unfolding open_code
open_few n = by_test (nat_le n 2048) (λ q. rw q (record { few = omega arith })) (λ q. rw q (joined (number_code 5 n) _ 2 1 (number_few 5 n) (record { few = omega arith })))

parameters_few : (g : SlotFunction) (k : ℕ) → AreFew (parameters_code g k) (3 * k)
unfolding parameters_code
parameters_few g zero = record { few = omega arith }
parameters_few g (suc k) = let h = joined (parameters_code g k) _ (3 * k) 3 (parameters_few g k) (store_few (10 + k) (cell_at g k)) in up _ (3 * k + 3) (3 * suc k) h (omega arith)

test_few : AreFew test_code 4
unfolding test_code
test_few = record { few = omega arith }

pub enter_few : (g : SlotFunction) → IsFunction g → length (enter_code g) ≤ 28
unfolding enter_code
enter_few g i =
    let p = parameters_few g g.params in
    let h = (joined (open_code g.frame) (test_code ++ Store 4 2 1 (pos 0) ∷ parameters_code g g.params) 3 (4 + (1 + 3 * g.params)) (open_few g.frame) (joined test_code (Store 4 2 1 (pos 0) ∷ parameters_code g g.params) 4 (1 + 3 * g.params) test_few (let x = p.few in record { few = omega (arith, x) }))).few in
    let m = i.params in
    omega (arith, h, m)
