-- The fields of all instructions fit their words.
use Rattle.std.proofs.Common.{◌≡◌, ℕ, zero, suc, ◌+◌, ◌-◌, ◌*◌, ◌%◌, ◌^◌, ◌<◌, ◌≤◌, inl, inr, Bool, true, false, List, [], ◌∷◌, ◌++◌, Option, Some, None, refl, sym, subst, arith}
use Rattle.std.specs.Prelude.{ℤ, pos, negsuc, ◌==◌, nat_lt, nat_le, if◌then◌else◌}
use Rattle.std.specs.Int.{w32, cast_unsigned}
use Rattle.std.proofs.lemmas.Bool.Decides.{nat_tests}
use Rattle.nx_base.specs.declared.operations.AluOp.{AluOp}
use Rattle.nx_base.specs.declared.operations.AluOp.TheVariants as alu
use Rattle.nx_rv.specs.declared.inst.Inst.{Inst}
use Rattle.nx_rv.specs.declared.inst.Inst.TheVariants.{Lui, Load, Store, OpImm}
use Rattle.nx_rv.specs.Formats.{IsWithin}
use Rattle.nx_rv.specs.Table.{IsInRange}
use Rattle.nx_slot.specs.declared.op.Comparison.{Comparison}
use Rattle.nx_slot.specs.declared.op.Comparison.TheVariants as test
use Rattle.nx_slot.specs.declared.op.Binary.{Binary}
use Rattle.nx_slot.specs.declared.op.Binary.TheVariants as bin
use Rattle.nx_slot.specs.declared.op.Unary.{Unary}
use Rattle.nx_slot.specs.declared.op.Unary.TheVariants as un
use Rattle.nx_slot.specs.declared.op.Operand.{Operand}
use Rattle.nx_slot.specs.declared.op.Operand.TheVariants.{Cell, Number}
use Rattle.nx_slot.specs.declared.op.Width.{Width}
use Rattle.nx_slot.specs.declared.op.Width.TheVariants.{Byte, Word}
use Rattle.nx_slot.specs.declared.program.SlotArray.{SlotArray}
use Rattle.nx_slot.specs.declared.program.SlotFunction.{SlotFunction}
use Rattle.nx_slot.specs.Objects.{bytes_of}
use Rattle.nx_codegen.specs.Addresses.{upper, lower, from_to, distance}
use Rattle.nx_codegen.specs.Frames.{IsFunction, in_register, register_of, cell_at, rounded, array_at}
use Rattle.nx_codegen.specs.Moves.{addi, number_code, load_code, store_code, above_code, into_code, get_code, source, set_code, target, move_code, moved_code, operand_code, answer_code}
use Rattle.nx_codegen.specs.Operators.{compare_code, binary_code, short_code, constant_code, applied_code, unary_code, changed_code, scaled_code, indexed_code, load_of, loaded_code, stored_code, jump_code, branch_if, branch_unless, skip_code, right_code, right_source}
use Rattle.nx_codegen.specs.Calling.{arguments_code, parameters_code, kept_at, save_code, restore_code, call_code, open_code, close_code, test_code, enter_code, leave_code, clear_code}
use Rattle.nx_codegen.specs.Fitting.{AllFit}
use Rattle.nx_codegen.proofs.Lengths.{by_test}

pub all_append : (a b : List Inst) → AllFit a → AllFit b → AllFit (a ++ b)
all_append [] b p q = q
all_append (i ∷ a) b p q = (p.0, all_append a b p.1 q)

upper_fits : (n : ℕ) → (upper n < 2 ^ 32) × (upper n % 4096 ≡ 0)
unfolding upper
upper_fits n = (omega arith, omega arith)

lower_fits : (n : ℕ) → IsWithin 2048 (lower n)
unfolding lower
lower_fits n = by_test (nat_lt (n % 4096) 2048)
    (λ q. let h : n % 4096 < 2048 = grind (arith, nat_tests) in subst (λ c. IsWithin 2048 (if c then pos (n % 4096) else negsuc (4095 - n % 4096))) (sym q) h)
    (λ q. let h : 2048 ≤ n % 4096 = grind (arith, nat_tests) in subst (λ c. IsWithin 2048 (if c then pos (n % 4096) else negsuc (4095 - n % 4096))) (sym q) (omega arith))

way_fits : (a b half : ℕ) → a < half → b < half → IsWithin half (from_to a b)
unfolding from_to
way_fits a b half h k = by_test (nat_le a b)
    (λ q. subst (λ c. IsWithin half (if c then pos (b - a) else negsuc (a - b - 1))) (sym q) (omega arith))
    (λ q. subst (λ c. IsWithin half (if c then pos (b - a) else negsuc (a - b - 1))) (sym q) (omega arith))

way_even : (a b : ℕ) → a % 4 ≡ 0 → b % 4 ≡ 0 → a < 2 ^ 31 → b < 2 ^ 31 → cast_unsigned w32 (from_to a b) % 2 ≡ 0
unfolding from_to
way_even a b h k l m = by_test (nat_le a b)
    (λ q. subst (λ c. cast_unsigned w32 (if c then pos (b - a) else negsuc (a - b - 1)) % 2 ≡ 0) (sym q) (omega arith))
    (λ q. let n : b < a = grind (arith, nat_tests) in subst (λ c. cast_unsigned w32 (if c then pos (b - a) else negsuc (a - b - 1)) % 2 ≡ 0) (sym q) (omega arith))

pub lui_fits : (rd n : ℕ) → rd < 32 → IsInRange (Lui rd (upper n))
lui_fits rd n h = let u = upper_fits n in (h, u.0, u.1)

pub low_fits : (rd rs n : ℕ) → rd < 32 → rs < 32 → IsInRange (addi rd rs (lower n))
low_fits rd rs n h k = (h, k, lower_fits n)

pub load_low_fits : (rd rs n : ℕ) → rd < 32 → rs < 32 → IsInRange (Load 4 true rd rs (lower n))
load_low_fits rd rs n h k = (inr (inr refl), (h, k, lower_fits n))

pub store_low_fits : (rs v n : ℕ) → rs < 32 → v < 32 → IsInRange (Store 4 rs v (lower n))
store_low_fits rs v n h k = (inr (inr refl), (h, k, lower_fits n))

number_fits : (rd n : ℕ) → rd < 32 → AllFit (number_code rd n)
unfolding number_code
number_fits rd n h = by_test (upper n == 0)
    (λ q. rw q (low_fits rd 0 n h (omega arith), tt))
    (λ q. rw q (lui_fits rd n h, (low_fits rd rd n h h, tt)))

load_fits : (rd n : ℕ) → rd < 32 → AllFit (load_code rd n)
unfolding load_code
load_fits rd n h = by_test (nat_lt n 2048)
    (λ q. let k : n < 2048 = grind (arith, nat_tests) in rw q ((inr (inr refl), (h, omega arith, k)), tt))
    (λ q. rw q (lui_fits rd n h, ((h, h, omega arith), (load_low_fits rd rd n h h, tt))))

store_fits : (rs n : ℕ) → rs < 32 → AllFit (store_code rs n)
unfolding store_code
store_fits rs n h = by_test (nat_lt n 2048)
    (λ q. let k : n < 2048 = grind (arith, nat_tests) in rw q ((inr (inr refl), (omega arith, h, k)), tt))
    (λ q. rw q (lui_fits 7 n (omega arith), ((omega arith, omega arith, omega arith), (store_low_fits 7 rs n (omega arith) h, tt))))

above_fits : (rd n : ℕ) → rd < 32 → AllFit (above_code rd n)
unfolding above_code
above_fits rd n k = by_test (nat_lt n 2048)
    (λ q. let h : n < 2048 = grind (arith, nat_tests) in rw q ((k, omega arith, h), tt))
    (λ q. rw q (all_append (number_code rd n) _ (number_fits rd n k) ((k, k, omega arith), tt)))

register_fits : (g : SlotFunction) (i : ℕ) → in_register g i ≡ true → register_of g i < 32
unfolding in_register register_of
register_fits g i q =
    let h : g.locals ≤ i = grind (arith, nat_tests) in
    let k : i < g.locals + 8 = grind (arith, nat_tests) in
    omega (arith, h, k)

pub source_fits : (g : SlotFunction) (s i : ℕ) → s < 32 → source g s i < 32
unfolding source
source_fits g s i h = by_test (in_register g i) (λ q. rw q (register_fits g i q)) (λ q. rw q h)

pub target_fits : (g : SlotFunction) (i : ℕ) → target g i < 32
target_fits g i = source_fits g 5 i (omega arith)

add_fits : (rd rs n : ℕ) → rd < 32 → rs < 32 → n < 2048 → IsInRange (addi rd rs (pos n))
add_fits rd rs n h k l = (h, k, l)

into_fits : (g : SlotFunction) (rd i : ℕ) → rd < 32 → AllFit (into_code g rd i)
unfolding into_code
into_fits g rd i h = by_test (in_register g i) (λ q. rw q (add_fits rd (register_of g i) 0 h (register_fits g i q) (omega arith), tt)) (λ q. rw q (load_fits rd (cell_at g i) h))

pub get_fits : (g : SlotFunction) (s i : ℕ) → s < 32 → AllFit (get_code g s i)
unfolding get_code
get_fits g s i h = by_test (in_register g i) (λ q. rw q tt) (λ q. rw q (load_fits s (cell_at g i) h))

pub set_fits : (g : SlotFunction) (i : ℕ) → AllFit (set_code g i)
unfolding set_code
set_fits g i = by_test (in_register g i) (λ q. rw q tt) (λ q. rw q (store_fits 5 (cell_at g i) (omega arith)))

pub move_fits : (g : SlotFunction) (to from : ℕ) → AllFit (move_code g to from)
unfolding move_code
move_fits g to from = by_test (in_register g to)
    (λ q. rw q (into_fits g (register_of g to) from (register_fits g to q)))
    (λ q. rw q (all_append (get_code g 5 from) _ (get_fits g 5 from (omega arith)) (store_fits (source g 5 from) (cell_at g to) (source_fits g 5 from (omega arith)))))

pub moved_fits : (g : SlotFunction) (to : ℕ) (from : Operand) → AllFit (moved_code g to from)
moved_fits g to (Cell from) = move_fits g to from
moved_fits g to (Number n) = all_append (number_code (target g to) n) _ (number_fits (target g to) n (target_fits g to)) (set_fits g to)

pub operand_fits : (g : SlotFunction) (rd : ℕ) (x : Operand) → rd < 32 → AllFit (operand_code g rd x)
operand_fits g rd (Cell i) h = into_fits g rd i h
operand_fits g rd (Number n) h = number_fits rd n h

pub answer_fits : (g : SlotFunction) (i : ℕ) → AllFit (answer_code g i)
unfolding answer_code
answer_fits g i = (add_fits (target g i) 10 0 (target_fits g i) (omega arith) (omega arith), set_fits g i)

compare_fits : (o : Comparison) (rd a b : ℕ) → rd < 32 → a < 32 → b < 32 → AllFit (compare_code o rd a b)
compare_fits test.Equal rd a b h k l = ((h, k, l), ((h, h, omega arith), tt))
compare_fits test.Unequal rd a b h k l = ((h, k, l), ((h, omega arith, h), tt))
compare_fits test.Less rd a b h k l = ((h, k, l), tt)
compare_fits test.AtMost rd a b h k l = ((h, l, k), ((h, h, omega arith), tt))
compare_fits test.Greater rd a b h k l = ((h, l, k), tt)
compare_fits test.AtLeast rd a b h k l = ((h, k, l), ((h, h, omega arith), tt))

binary_fits : (o : Binary) (rd a b : ℕ) → rd < 32 → a < 32 → b < 32 → AllFit (binary_code o rd a b)
binary_fits bin.Add rd a b h k l = ((h, k, l), tt)
binary_fits bin.Subtract rd a b h k l = ((h, k, l), tt)
binary_fits bin.Multiply rd a b h k l = ((h, k, l), tt)
binary_fits bin.Divide rd a b h k l = ((h, k, l), tt)
binary_fits bin.Remainder rd a b h k l = ((h, k, l), tt)
binary_fits bin.And rd a b h k l = ((h, k, l), tt)
binary_fits bin.Or rd a b h k l = ((h, k, l), tt)
binary_fits bin.Xor rd a b h k l = ((h, k, l), tt)
binary_fits bin.ShiftLeft rd a b h k l = ((h, k, l), tt)
binary_fits bin.ShiftRight rd a b h k l = ((h, k, l), tt)
binary_fits (bin.Compare o) rd a b h k l = compare_fits o rd a b h k l

-- Operations with an immediate of 12 bits.
abbrev IsShort : AluOp → Type 0
IsShort op = (rd a n : ℕ) → rd < 32 → a < 32 → IsInRange (OpImm op rd a (lower n))

short_fits : (op : AluOp) (rd a n : ℕ) → IsShort op → rd < 32 → a < 32 → AllFit (short_code op rd a n)
unfolding short_code
short_fits op rd a n s h k = by_test (upper n == 0)
    (λ q. rw q (s rd a n h k, tt))
    (λ q. rw q (all_append (number_code 6 n) _ (number_fits 6 n (omega arith)) ((h, k, omega arith), tt)))

add_short : IsShort alu.Add
add_short rd a n h k = (h, k, lower_fits n)

constant_fits : (o : Binary) (rd a n : ℕ) → rd < 32 → a < 32 → AllFit (constant_code o rd a n)
constant_fits bin.Add rd a n h k = short_fits alu.Add rd a n add_short h k
constant_fits bin.Subtract rd a n h k = short_fits alu.Add rd a ((2 ^ 32 - n) % 2 ^ 32) add_short h k
constant_fits bin.And rd a n h k = short_fits alu.And rd a n (λ rd a n h k. (h, k, lower_fits n)) h k
constant_fits bin.Or rd a n h k = short_fits alu.Or rd a n (λ rd a n h k. (h, k, lower_fits n)) h k
constant_fits bin.Xor rd a n h k = short_fits alu.Xor rd a n (λ rd a n h k. (h, k, lower_fits n)) h k
constant_fits bin.ShiftLeft rd a n h k = ((h, k, omega arith), tt)
constant_fits bin.ShiftRight rd a n h k = ((h, k, omega arith), tt)
constant_fits (bin.Compare test.Less) rd a n h k = short_fits alu.Slt rd a n (λ rd a n h k. (h, k, lower_fits n)) h k
constant_fits (bin.Compare test.Equal) rd a n h k = all_append (short_code alu.Xor rd a n) _ (short_fits alu.Xor rd a n (λ rd a n h k. (h, k, lower_fits n)) h k) ((h, h, omega arith), tt)
constant_fits (bin.Compare test.Unequal) rd a n h k = all_append (short_code alu.Xor rd a n) _ (short_fits alu.Xor rd a n (λ rd a n h k. (h, k, lower_fits n)) h k) ((h, omega arith, h), tt)
constant_fits (bin.Compare test.AtLeast) rd a n h k = all_append (short_code alu.Slt rd a n) _ (short_fits alu.Slt rd a n (λ rd a n h k. (h, k, lower_fits n)) h k) ((h, h, omega arith), tt)
constant_fits bin.Multiply rd a n h k = all_append (number_code 6 n) _ (number_fits 6 n (omega arith)) (binary_fits bin.Multiply rd a 6 h k (omega arith))
constant_fits bin.Divide rd a n h k = all_append (number_code 6 n) _ (number_fits 6 n (omega arith)) (binary_fits bin.Divide rd a 6 h k (omega arith))
constant_fits bin.Remainder rd a n h k = all_append (number_code 6 n) _ (number_fits 6 n (omega arith)) (binary_fits bin.Remainder rd a 6 h k (omega arith))
constant_fits (bin.Compare test.AtMost) rd a n h k = all_append (number_code 6 n) _ (number_fits 6 n (omega arith)) (compare_fits test.AtMost rd a 6 h k (omega arith))
constant_fits (bin.Compare test.Greater) rd a n h k = all_append (number_code 6 n) _ (number_fits 6 n (omega arith)) (compare_fits test.Greater rd a 6 h k (omega arith))

pub applied_fits : (g : SlotFunction) (o : Binary) (to left : ℕ) (right : Operand) → AllFit (applied_code g o to left right)
applied_fits g o to left (Cell right) =
    all_append (get_code g 5 left) _ (get_fits g 5 left (omega arith)) (all_append (get_code g 6 right) _ (get_fits g 6 right (omega arith))
    (all_append (binary_code o (target g to) (source g 5 left) (source g 6 right)) _ (binary_fits o (target g to) (source g 5 left) (source g 6 right) (target_fits g to) (source_fits g 5 left (omega arith)) (source_fits g 6 right (omega arith))) (set_fits g to)))
applied_fits g o to left (Number n) =
    all_append (get_code g 5 left) _ (get_fits g 5 left (omega arith))
    (all_append (constant_code o (target g to) (source g 5 left) n) _ (constant_fits o (target g to) (source g 5 left) n (target_fits g to) (source_fits g 5 left (omega arith))) (set_fits g to))

unary_fits : (o : Unary) (rd a : ℕ) → rd < 32 → a < 32 → AllFit (unary_code o rd a)
unary_fits un.Negate rd a h k = ((h, omega arith, k), tt)
unary_fits un.LowByte rd a h k = ((h, k, omega arith), tt)

pub changed_fits : (g : SlotFunction) (o : Unary) (to from : ℕ) → AllFit (changed_code g o to from)
changed_fits g o to from =
    all_append (get_code g 5 from) _ (get_fits g 5 from (omega arith)) (all_append (unary_code o (target g to) (source g 5 from)) _ (unary_fits o (target g to) (source g 5 from) (target_fits g to) (source_fits g 5 from (omega arith))) (set_fits g to))

scaled_fits : (w : Width) (rd a b : ℕ) → rd < 32 → a < 32 → b < 32 → AllFit (scaled_code w rd a b)
scaled_fits Byte rd a b h k l = ((h, k, l), tt)
scaled_fits Word rd a b h k l = ((omega arith, l, omega arith), ((h, k, omega arith), tt))

pub indexed_fits : (g : SlotFunction) (to base : ℕ) (index : Operand) (w : Width) → AllFit (indexed_code g to base index w)
indexed_fits g to base (Cell index) w =
    all_append (get_code g 5 base) _ (get_fits g 5 base (omega arith)) (all_append (get_code g 6 index) _ (get_fits g 6 index (omega arith))
    (all_append (scaled_code w (target g to) (source g 5 base) (source g 6 index)) _ (scaled_fits w (target g to) (source g 5 base) (source g 6 index) (target_fits g to) (source_fits g 5 base (omega arith)) (source_fits g 6 index (omega arith))) (set_fits g to)))
indexed_fits g to base (Number n) w =
    all_append (get_code g 5 base) _ (get_fits g 5 base (omega arith))
    (all_append (short_code alu.Add (target g to) (source g 5 base) (bytes_of w * n % 2 ^ 32)) _ (short_fits alu.Add (target g to) (source g 5 base) (bytes_of w * n % 2 ^ 32) add_short (target_fits g to) (source_fits g 5 base (omega arith))) (set_fits g to))

element_fits : (w : Width) (rd a : ℕ) → rd < 32 → a < 32 → IsInRange (load_of w rd a)
element_fits Byte rd a h k = (inl refl, (h, k, omega arith))
element_fits Word rd a h k = (inr (inr refl), (h, k, omega arith))

pub loaded_fits : (g : SlotFunction) (to place : ℕ) (w : Width) → AllFit (loaded_code g to place w)
loaded_fits g to place w = all_append (get_code g 5 place) _ (get_fits g 5 place (omega arith)) (element_fits w (target g to) (source g 5 place) (target_fits g to) (source_fits g 5 place (omega arith)), set_fits g to)

put_fits : (w : Width) (a v : ℕ) → a < 32 → v < 32 → IsInRange (Store (bytes_of w) a v (pos 0))
put_fits Byte a v h k = (inl refl, (h, k, omega arith))
put_fits Word a v h k = (inr (inr refl), (h, k, omega arith))

pub stored_fits : (g : SlotFunction) (place value : ℕ) (w : Width) → AllFit (stored_code g place value w)
stored_fits g place value w =
    all_append (get_code g 5 place) _ (get_fits g 5 place (omega arith)) (all_append (get_code g 6 value) _ (get_fits g 6 value (omega arith))
    (put_fits w (source g 5 place) (source g 6 value) (source_fits g 5 place (omega arith)) (source_fits g 6 value (omega arith)), tt))

-- A way that a near jump goes.
abbrev pub IsWay : Bool → ℕ → ℕ → Type 0
IsWay true a b = (a < 4096) × (b < 4096) × (a % 4 ≡ 0) × (b % 4 ≡ 0)
IsWay false a b = Unit {0}

pub jump_fits : (near : Bool) (a b : ℕ) → IsWay near a b → AllFit (jump_code near a b)
unfolding jump_code
jump_fits true a b w = let w0 = w.0 in let w1 = w.1 in ((omega arith, way_fits a b 1048576 (omega (arith, w0)) (omega (arith, w1)), way_even a b w.2 w.3 (omega (arith, w0)) (omega (arith, w1))), tt)
jump_fits false a b w = let u = upper_fits (distance a b) in ((omega arith, u.0, u.1), ((omega arith, omega arith, lower_fits (distance a b)), tt))

unless_fits : (o : Comparison) (x y : ℕ) (z : ℤ) → x < 32 → y < 32 → IsWithin 4096 z → cast_unsigned w32 z % 2 ≡ 0 → IsInRange (branch_unless o x y z)
unless_fits test.Equal x y z h k l m = (h, k, l, m)
unless_fits test.Unequal x y z h k l m = (h, k, l, m)
unless_fits test.Less x y z h k l m = (h, k, l, m)
unless_fits test.AtMost x y z h k l m = (k, h, l, m)
unless_fits test.Greater x y z h k l m = (k, h, l, m)
unless_fits test.AtLeast x y z h k l m = (h, k, l, m)

if_fits : (o : Comparison) (x y : ℕ) (z : ℤ) → x < 32 → y < 32 → IsWithin 4096 z → cast_unsigned w32 z % 2 ≡ 0 → IsInRange (branch_if o x y z)
if_fits test.Equal x y z h k l m = (h, k, l, m)
if_fits test.Unequal x y z h k l m = (h, k, l, m)
if_fits test.Less x y z h k l m = (h, k, l, m)
if_fits test.AtMost x y z h k l m = (k, h, l, m)
if_fits test.Greater x y z h k l m = (k, h, l, m)
if_fits test.AtLeast x y z h k l m = (h, k, l, m)

pub skip_fits : (near : Bool) (o : Comparison) (x y a b : ℕ) → x < 32 → y < 32 → IsWay near a b → AllFit (skip_code near o x y a b)
unfolding skip_code
skip_fits true o x y a b h k w = let w0 = w.0 in let w1 = w.1 in (unless_fits o x y (from_to a b) h k (way_fits a b 4096 w0 w1) (way_even a b w.2 w.3 (omega (arith, w0)) (omega (arith, w1))), tt)
skip_fits false o x y a b h k w = (if_fits o x y (pos 12) h k (omega arith) refl, jump_fits false (a + 4) b tt)

pub right_fits : (g : SlotFunction) (x : Operand) → AllFit (right_code g x)
unfolding right_code
right_fits g (Cell i) = get_fits g 6 i (omega arith)
right_fits g (Number n) = by_test (n == 0) (λ q. rw q tt) (λ q. rw q (number_fits 6 n (omega arith)))

pub right_source_fits : (g : SlotFunction) (x : Operand) → right_source g x < 32
unfolding right_source
right_source_fits g (Cell i) = source_fits g 6 i (omega arith)
right_source_fits g (Number n) = by_test (n == 0) (λ q. rw q (omega arith)) (λ q. rw q (omega arith))

pub arguments_fit : (g : SlotFunction) (first k : ℕ) → k ≤ 6 → AllFit (arguments_code g first k)
unfolding arguments_code
arguments_fit g first zero h = tt
arguments_fit g first (suc k) h = all_append (arguments_code g first k) _ (arguments_fit g first k (omega (arith, h))) (into_fits g (10 + k) (first + k) (omega (arith, h)))

parameters_fit : (g : SlotFunction) (k : ℕ) → k ≤ 6 → AllFit (parameters_code g k)
unfolding parameters_code
parameters_fit g zero h = tt
parameters_fit g (suc k) h = all_append (parameters_code g k) _ (parameters_fit g k (omega (arith, h))) (store_fits (10 + k) (cell_at g k) (omega (arith, h)))

kept_few : (g : SlotFunction) (first : ℕ) → kept_at g first ≤ 8
unfolding kept_at
kept_few g first = omega arith

saved_fit : (k : ℕ) → k ≤ 8 → AllFit (save_code k)
unfolding save_code
saved_fit zero h = tt
saved_fit (suc k) h = all_append (save_code k) _ (saved_fit k (omega (arith, h))) ((inr (inr refl), (omega arith, omega (arith, h), omega (arith, h))), tt)

restored_fit : (k : ℕ) → k ≤ 8 → AllFit (restore_code k)
unfolding restore_code
restored_fit zero h = tt
restored_fit (suc k) h = all_append (restore_code k) _ (restored_fit k (omega (arith, h))) ((inr (inr refl), (omega (arith, h), omega arith, omega (arith, h))), tt)

pub save_fits : (g : SlotFunction) (first : ℕ) → AllFit (save_code (kept_at g first))
save_fits g first = saved_fit (kept_at g first) (kept_few g first)

pub restore_fits : (g : SlotFunction) (first : ℕ) → AllFit (restore_code (kept_at g first))
restore_fits g first = restored_fit (kept_at g first) (kept_few g first)

pub call_fits : (to : ℕ) → AllFit (call_code to)
unfolding call_code
call_fits to = (lui_fits 1 to (omega arith), ((omega arith, omega arith, lower_fits to), tt))

open_fits : (n : ℕ) → AllFit (open_code n)
unfolding open_code
open_fits n = by_test (nat_le n 2048)
    (λ q. let h : n ≤ 2048 = grind (arith, nat_tests) in rw q ((omega arith, omega arith, omega (arith, h)), tt))
    (λ q. rw q (all_append (number_code 5 n) _ (number_fits 5 n (omega arith)) ((omega arith, omega arith, omega arith), tt)))

close_fits : (n : ℕ) → AllFit (close_code n)
unfolding close_code
close_fits n = by_test (nat_lt n 2048)
    (λ q. let h : n < 2048 = grind (arith, nat_tests) in rw q ((omega arith, omega arith, h), tt))
    (λ q. rw q (all_append (number_code 5 n) _ (number_fits 5 n (omega arith)) ((omega arith, omega arith, omega arith), tt)))

test_fits : AllFit test_code
unfolding test_code
test_fits = ((omega arith, omega arith, omega arith, refl), ((omega arith, omega arith, omega arith), ((omega arith, omega arith, omega arith), (tt, tt))))

pub enter_fits : (g : SlotFunction) → IsFunction g → AllFit (enter_code g)
unfolding enter_code
enter_fits g i = (
  (omega arith, omega arith, omega arith, refl),
  (
    (omega arith, omega arith, omega arith),
    all_append (open_code g.frame) _ (open_fits g.frame) (all_append test_code _ test_fits ((inr (inr refl), (omega arith, omega arith, omega arith)), parameters_fit g g.params i.params)),
  ),
)

leave_fits : (g : SlotFunction) → AllFit (leave_code g)
unfolding leave_code
leave_fits g = ((inr (inr refl), (omega arith, omega arith, omega arith)), all_append (close_code g.frame) _ (close_fits g.frame) ((omega arith, omega arith, omega arith), tt))

pub give_fits : (g : SlotFunction) (value : Operand) → AllFit (operand_code g 10 value ++ leave_code g)
give_fits g value = all_append (operand_code g 10 value) _ (operand_fits g 10 value (omega arith)) (leave_fits g)

pub clear_fits : (g : SlotFunction) (k : ℕ) (x : Option SlotArray) → AllFit (clear_code g k x)
unfolding clear_code
clear_fits g k None = tt
clear_fits g k (Some x) = all_append (above_code 5 (array_at g k)) _ (above_fits 5 (array_at g k) (omega arith)) (all_append (number_code 6 (rounded x.bytes)) _ (number_fits 6 (rounded x.bytes) (omega arith))
    ((omega arith, omega arith, omega arith), ((inr (inr refl), (omega arith, omega arith, omega arith)), ((omega arith, omega arith, omega arith), ((omega arith, omega arith, omega arith, refl), tt)))))

pub local_fits : (g : SlotFunction) (to k : ℕ) → AllFit (above_code (target g to) (array_at g k) ++ set_code g to)
local_fits g to k = all_append (above_code (target g to) (array_at g k)) _ (above_fits (target g to) (array_at g k) (target_fits g to)) (set_fits g to)
