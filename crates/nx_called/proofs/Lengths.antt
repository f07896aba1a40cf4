-- How many instructions calls and returns are, and the lists of their arguments.
use Rattle.std.proofs.Common.{◌≡◌, ℕ, zero, suc, ◌+◌, ◌-◌, ◌*◌, ◌<◌, ◌≤◌, true, List, [], ◌∷◌, length, take, Some, refl, ap, ◌∙◌, subst, arith, length-append}
use Rattle.std.specs.Prelude.{pos, slice_get, get_or, nat_lt, nat_le, ◌==◌}
use Rattle.std.proofs.lemmas.Bool.Decides.{nat_tests}
use Rattle.std.proofs.lemmas.Option.{slice_get-get_or}
use Rattle.nx_base.specs.declared.operations.AluOp.TheVariants as alu
use Rattle.nx_base.specs.declared.operations.Cond.TheVariants as cond
use Rattle.nx_rv.specs.declared.inst.Inst.TheVariants.{Jalr, Branch, Load, Store, Op, Ecall}
use Rattle.nx_slot.specs.declared.op.Operand.{Operand}
use Rattle.nx_slot.specs.declared.op.Operand.TheVariants.{Cell, Number}
use Rattle.nx_slot.specs.declared.program.SlotFunction.{SlotFunction}
use Rattle.nx_slot.specs.Objects.{Value, Int}
use Rattle.nx_slot.specs.Meaning.{cells_from, may_hand}
use Rattle.nx_codegen.specs.Addresses.{upper}
use Rattle.nx_codegen.specs.Frames.{IsFunction, in_register, cell_at}
use Rattle.nx_codegen.specs.Cells.{IsCell}
use Rattle.nx_codegen.specs.Moves.{addi, number_code, load_code, store_code, into_code, set_code, operand_code, answer_code}
use Rattle.nx_codegen.specs.Calling.{arguments_code, parameters_code, kept_at, save_code, restore_code, call_code, open_code, close_code, test_code, enter_code, leave_code, moves_code}
use Rattle.nx_codegen.specs.Code.{give_code}
use Rattle.nx_pieces.proofs.Cells.{by_test, local_at, temporary_at}

-- Values that are handed over.
pub from_get : (cells : List Value) (k i j : ℕ) (x : Value) → i + k ≤ length cells → slice_get (cells_from cells i k) j ≡ Some x → (j < k) × (slice_get cells (i + j) ≡ Some x)
unfolding cells_from
from_get cells zero i j x h e = absurd cc
from_get cells (suc k) i zero x h e =
    let q : get_or cells i (Int 0) ≡ x = cc in let z : i ≡ i + 0 = omega arith in
    (omega arith, subst (λ n. slice_get cells n ≡ Some x) z (slice_get-get_or cells i (Int 0) (omega (arith, h)) ∙ ap Some q))
from_get cells (suc k) i (suc j) x h e =
    let m = from_get cells k (i + 1) j x (omega (arith, h)) e in let z : i + 1 + j ≡ i + suc j = omega arith in let m0 = m.0 in
    (omega (arith, m0), subst (λ n. slice_get cells n ≡ Some x) z m.1)

pub from_length : (cells : List Value) (k i : ℕ) → length (cells_from cells i k) ≡ k
unfolding cells_from
from_length cells zero i = refl
from_length cells (suc k) i = let h = from_length cells k (i + 1) in omega (arith, h)

pub take_get : (cells : List Value) (n i : ℕ) (x : Value) → slice_get (take n cells) i ≡ Some x → (i < n) × (slice_get cells i ≡ Some x)
take_get [] zero i x e = absurd cc
take_get [] (suc n) i x e = absurd cc
take_get (y ∷ cells) zero i x e = absurd cc
take_get (y ∷ cells) (suc n) zero x e = (omega arith, e)
take_get (y ∷ cells) (suc n) (suc i) x e = let m = take_get cells n i x e in let m0 = m.0 in (omega (arith, m0), m.1)

pub take_length : (cells : List Value) (n : ℕ) → n ≤ length cells → length (take n cells) ≡ n
take_length [] zero h = refl
take_length [] (suc n) h = absurd (omega (arith, h))
take_length (y ∷ cells) zero h = refl
take_length (y ∷ cells) (suc n) h = let m = take_length cells n (omega (arith, h)) in omega (arith, m)

pub record Hands (g : SlotFunction) (cells : List Value) (at count : ℕ) : Type 0 where
  pub there : at + count ≤ length cells
  pub temporary : g.locals ≤ at
  pub room : IsCell g at
  pub few : count ≤ 6

pub hands_is : (g : SlotFunction) (cells : List Value) (at count : ℕ) → may_hand g cells at count ≡ true → Hands g cells at count
unfolding may_hand
hands_is g cells at count h = record { there = grind (arith, nat_tests); temporary = grind (arith, nat_tests); room = grind (arith, nat_tests); few = grind (arith, nat_tests) }

-- Temporaries stand near the stack pointer.
pub into_temporary : (g : SlotFunction) (rd i : ℕ) → g.locals ≤ i → IsCell g i → g.temporaries ≤ 500 → length (into_code g rd i) ≡ 1
unfolding into_code load_code
into_temporary g rd i h k l =
    let e = temporary_at g i h in let q : nat_lt (cell_at g i) 2048 ≡ true = let z : cell_at g i < 2048 = omega (arith, e, k, l) in grind (arith, nat_tests) in
    by_test (in_register g i) (λ p. rw p refl) (λ p. rw (p, q) refl)

pub set_temporary : (g : SlotFunction) (i : ℕ) → g.locals ≤ i → IsCell g i → g.temporaries ≤ 500 → length (set_code g i) ≤ 1
unfolding set_code store_code
set_temporary g i h k l =
    let e = temporary_at g i h in let q : nat_lt (cell_at g i) 2048 ≡ true = let z : cell_at g i < 2048 = omega (arith, e, k, l) in grind (arith, nat_tests) in
    by_test (in_register g i) (λ p. rw p (omega arith)) (λ p. rw (p, q) (omega arith))

pub arguments_length : (g : SlotFunction) (i k : ℕ) → g.locals ≤ i → i + k ≤ g.locals + g.temporaries → g.temporaries ≤ 500 → length (arguments_code g i k) ≡ k
unfolding arguments_code
arguments_length g i zero h l m = refl
arguments_length g i (suc k) h l m =
    let a = into_temporary g (10 + k) (i + k) (omega (arith, h)) (omega (arith, l)) m in let b = arguments_length g i k h (omega (arith, l)) m in
    let c = length-append (arguments_code g i k) (into_code g (10 + k) (i + k)) in omega (arith, a, b, c)

pub answer_few : (g : SlotFunction) (i : ℕ) → g.locals ≤ i → IsCell g i → g.temporaries ≤ 500 → (1 ≤ length (answer_code g i)) × (length (answer_code g i) ≤ 2)
unfolding answer_code
answer_few g i h k l = let z = set_temporary g i h k l in (omega arith, omega (arith, z))

pub call_two : (to : ℕ) → length (call_code to) ≡ 2
unfolding call_code
call_two to = refl

pub moves_length : (k : ℕ) → length (moves_code k) ≡ k
unfolding moves_code
moves_length zero = refl
moves_length (suc k) = let h = moves_length k in omega (arith, h)

pub kept_bounds : (g : SlotFunction) (at : ℕ) → (kept_at g at ≤ 8) × (kept_at g at ≤ at - g.locals) × ((i : ℕ) → i < 8 → i < at - g.locals → i < kept_at g at)
unfolding kept_at
kept_bounds g at = (omega arith, omega arith, λ i h k. omega arith)

pub save_length : (m : ℕ) → length (save_code m) ≡ m
unfolding save_code
save_length zero = refl
save_length (suc m) = let h = save_length m in let l = length-append (save_code m) (Store 4 2 (18 + m) (pos (4 * (1 + m))) ∷ []) in omega (arith, h, l)

pub restore_length : (m : ℕ) → length (restore_code m) ≡ m
unfolding restore_code
restore_length zero = refl
restore_length (suc m) = let h = restore_length m in let l = length-append (restore_code m) (Load 4 true (18 + m) 2 (pos (4 * (1 + m))) ∷ []) in omega (arith, h, l)

number_two : (rd n : ℕ) → length (number_code rd n) ≤ 2
unfolding number_code
number_two rd n = by_test (upper n == 0) (λ q. rw q (omega arith)) (λ q. rw q (omega arith))

open_few : (n : ℕ) → length (open_code n) ≤ 3
unfolding open_code
open_few n = let l = length-append (number_code 5 n) (Op alu.Sub 2 2 5 ∷ []) in let k = number_two 5 n in by_test (nat_le n 2048) (λ q. rw q (omega arith)) (λ q. rw q (omega (arith, l, k)))

close_few : (n : ℕ) → length (close_code n) ≤ 3
unfolding close_code
close_few n = let l = length-append (number_code 5 n) (Op alu.Add 2 2 5 ∷ []) in let k = number_two 5 n in by_test (nat_lt n 2048) (λ q. rw q (omega arith)) (λ q. rw q (omega (arith, l, k)))

near_store : (g : SlotFunction) (rs i : ℕ) → i < g.locals → i < 6 → g.temporaries ≤ 500 → length (store_code rs (cell_at g i)) ≡ 1
unfolding store_code
near_store g rs i h k l = let e = local_at g i h in let q : nat_lt (cell_at g i) 2048 ≡ true = let z : cell_at g i < 2048 = omega (arith, e, k, l) in grind (arith, nat_tests) in rw q refl

parameters_length : (g : SlotFunction) (k : ℕ) → k ≤ 6 → k ≤ g.locals → g.temporaries ≤ 500 → length (parameters_code g k) ≡ k
unfolding parameters_code
parameters_length g zero h l m = refl
parameters_length g (suc k) h l m =
    let a = near_store g (10 + k) k (omega (arith, l)) (omega (arith, h)) m in let b = parameters_length g k (omega (arith, h)) (omega (arith, l)) m in
    let n = length-append (parameters_code g k) (store_code (10 + k) (cell_at g k)) in omega (arith, a, b, n)

pub enter_few : (g : SlotFunction) → IsFunction g → length (enter_code g) ≤ 16
unfolding enter_code test_code
enter_few g i =
    let a = open_few g.frame in let fp = i.params in let hp = i.has_params in
    let b = parameters_length g g.params fp hp i.temporaries in
    let n = length-append (open_code g.frame) (Branch cond.Geu 2 4 (pos 16) ∷ Op alu.Sub 11 3 2 ∷ addi 10 0 (pos 0) ∷ Ecall ∷ Store 4 2 1 (pos 0) ∷ parameters_code g g.params) in
    omega (arith, a, b, n, fp)

leave_few : (g : SlotFunction) → length (leave_code g) ≤ 5
unfolding leave_code
leave_few g = let a = close_few g.frame in let n = length-append (close_code g.frame) (Jalr 0 1 (pos 0) ∷ []) in omega (arith, a, n)

into_three : (g : SlotFunction) (rd i : ℕ) → length (into_code g rd i) ≤ 3
unfolding into_code load_code
into_three g rd i = by_test (in_register g i) (λ q. rw q (omega arith)) (λ q. rw q (by_test (nat_lt (cell_at g i) 2048) (λ p. rw p (omega arith)) (λ p. rw p (omega arith))))

operand_three : (g : SlotFunction) (x : Operand) → length (operand_code g 10 x) ≤ 3
operand_three g (Cell i) = into_three g 10 i
operand_three g (Number n) = let h = number_two 10 n in omega (arith, h)

pub give_few : (g : SlotFunction) (x : Operand) → length (give_code g x) ≤ 8
give_few g x = let a = operand_three g x in let b = leave_few g in let n = length-append (operand_code g 10 x) (leave_code g) in omega (arith, a, b, n)
