-- Small programs give the same as their slot code. A cost is at most 64 times the steps.
use Rattle.std.proofs.Common.{◌≡◌, ℕ, ◌*◌, true, false, List, [], ◌∷◌, Option, Some, None, refl}
use Rattle.std.specs.Prelude.{nat_le}
use Rattle.nx_base.specs.ByteLists.{get_bytes, put_bytes, from_le, to_le}
use Rattle.nx_base.specs.Arithmetic.{alu_of}
use Rattle.nx_base.specs.Calls.{Rows}
use Rattle.nx_checked.specs.declared.checked.Cell.TheVariants as cell
use Rattle.nx_checked.specs.declared.checked.ArrayName.TheVariants as array
use Rattle.nx_checked.specs.declared.checked.Element.TheVariants as element
use Rattle.nx_checked.specs.declared.checked.Scalar.{Scalar}
use Rattle.nx_checked.specs.declared.checked.Scalar.TheVariants as scalar
use Rattle.nx_checked.specs.declared.checked.Shape.{Shape}
use Rattle.nx_checked.specs.declared.checked.IntOperator.TheVariants.{Add, Less, Multiply}
use Rattle.nx_checked.specs.declared.checked.StepValue.TheVariants.{Old}
use Rattle.nx_checked.specs.Trees.{Expr, Constant, Array, Read, And, Or, Binary, Conditional, Load, Assign, AssignElement, Compound, CompoundElement, Step, StepElement, Call, Index, NoMore, More, Run, Return, If, IfElse, Break, Continue, While, Do, For, Stmts, Block, Done, Then, Fun, Program}
use Rattle.nx_cobjects.specs.Groups.{Group}
use Rattle.nx_cmean.specs.Meaning.{Thread, step, first_thread}
use Rattle.nx_cmean.specs.Meanings.{Reach, Over, run_of}
use Rattle.nx_cmean.specs.Runs.{need, turn_of, first_word}
use Rattle.nx_slot.specs.Objects.{object_of, has_element, element, with_element, holds, binary, unary}
use Rattle.nx_slot.specs.Meaning.{put, cells_from, may_write, may_hand}
use Rattle.nx_slot.specs.Runs.{SlotReach, Finished, then_on, run, begun}
use Rattle.nx_lower.specs.Shown.{statics_of}
use Rattle.nx_lower.specs.Code.{Source}
use Rattle.nx_lower.specs.Bodies.{fun_code, code_of}

-- One variable of the file, with the value 7.
abbrev group : Group
group = record { scalars = 7 ∷ []; arrays = []; texts = [] }

abbrev source : List Fun → Source
source fs = record { program = record { functions = fs; calls = [] }; scalars = 1; arrays = []; texts = [] }

abbrev no_rows : Rows
no_rows n = record { kinds = []; enters = false }

-- What the first function gives, in how many steps.
abbrev c_run : List Fun → Reach Group Thread
c_run fs = let p : Program = record { functions = fs; calls = [] } in run_of (λ g t. turn_of 1 (step p g t)) (need p) 512 200 group (first_thread p 0 0)

abbrev slot_run : List Fun → SlotReach
slot_run fs = let p = code_of (source fs) no_rows 512 in then_on (begun p 0 [] (statics_of group)) (run p 300)

abbrev c_value : Reach Group Thread → Option ℕ
c_value (Over c g n) = Some (first_word c.words)
c_value r = None

abbrev c_steps : Reach Group Thread → ℕ
c_steps (Over c g n) = n
c_steps r = 0

abbrev slot_value : SlotReach → Option ℕ
slot_value (Finished n os cost) = Some n
slot_value r = None

abbrev slot_cost : SlotReach → ℕ
slot_cost (Finished n os cost) = cost
slot_cost r = 0

abbrev main : List Scalar → List Shape → Stmts → Fun
main locals arrays body = record { params = []; locals = locals; arrays = arrays; initials = []; body = body; frame = 64 }

abbrev local : ℕ → Expr
local i = Read (cell.Local i)

-- int a[2]; a[1] = 5; a[1] += 5; a[1]++; return a[1];
abbrev elements : List Fun
elements =
    main [] (record { element = element.Int; count = 2 } ∷ [])
    (Then (Run (AssignElement element.Int (Index (Array (array.Local 0)) (Constant 1)) (Constant 5)))
    (Then (Run (CompoundElement Add element.Int (Index (Array (array.Local 0)) (Constant 1)) (Constant 5)))
    (Then (Run (StepElement Old true element.Int (Index (Array (array.Local 0)) (Constant 1))))
    (Then (Return (Some (Load element.Int (Index (Array (array.Local 0)) (Constant 1))))) Done)))) ∷ []

elements_slot : slot_value (slot_run elements) ≡ Some 11
unfolding run fun_code put may_write object_of has_element element with_element binary unary alu_of get_bytes put_bytes from_le to_le
elements_slot = refl

elements_c : c_value (c_run elements) ≡ Some 11
unfolding run_of alu_of get_bytes put_bytes from_le to_le
elements_c = refl

-- int s, i; for (i = 0; i < 5; i++) { if (i < 2) continue; s += i; } return s;
abbrev sums : List Fun
sums =
    main (scalar.Int ∷ scalar.Int ∷ []) []
    (Then (For (Some (Assign scalar.Int (cell.Local 1) (Constant 0))) (Some (Binary Less (local 1) (Constant 5))) (Some (Step Old true scalar.Int (cell.Local 1)))
    (Block (Then (If (Binary Less (local 1) (Constant 2)) Continue) (Then (Run (Compound Add scalar.Int (cell.Local 0) (local 1))) Done))))
    (Then (Return (Some (local 0))) Done)) ∷ []

sums_slot : slot_value (slot_run sums) ≡ Some 9
unfolding run fun_code put may_write holds binary unary alu_of
sums_slot = refl

sums_c : c_value (c_run sums) ≡ Some 9
unfolding run_of alu_of
sums_c = refl

sums_cheap : nat_le (slot_cost (slot_run sums)) (64 * c_steps (c_run sums)) ≡ true
unfolding run fun_code put may_write holds binary unary alu_of run_of
sums_cheap = refl

-- int i; do i = i + 3; while (i < 10); while (1) { if (i < 20) i += 4; else break; } return i;
abbrev loops : List Fun
loops =
    main (scalar.Int ∷ []) []
    (Then (Do (Run (Assign scalar.Int (cell.Local 0) (Binary Add (local 0) (Constant 3)))) (Binary Less (local 0) (Constant 10)))
    (Then (While (Constant 1) (Block (Then (IfElse (Binary Less (local 0) (Constant 20)) (Run (Compound Add scalar.Int (cell.Local 0) (Constant 4))) Break) Done)))
    (Then (Return (Some (local 0))) Done))) ∷ []

loops_slot : slot_value (slot_run loops) ≡ Some 20
unfolding run fun_code put may_write holds binary unary alu_of
loops_slot = refl

loops_c : c_value (c_run loops) ≡ Some 20
unfolding run_of alu_of
loops_c = refl

-- int f(char c, int n) { return c * n; }   int main(void) { return f(258, 3) + x; } where x is the file's 7.
abbrev calls : List Fun
calls =
    main [] [] (Then (Return (Some (Binary Add (Call 1 (More (Constant 258) (More (Constant 3) NoMore))) (Read (cell.Global 0))))) Done)
    ∷ record {
      params = scalar.Char ∷ scalar.Int ∷ [];
      locals = [];
      arrays = [];
      initials = [];
      body = Then (Return (Some (Binary Multiply (local 0) (local 1)))) Done;
      frame = 32;
    }
    ∷ []

calls_slot : slot_value (slot_run calls) ≡ Some 13
unfolding run fun_code put may_write may_hand cells_from object_of has_element element holds binary unary alu_of get_bytes put_bytes from_le to_le
calls_slot = refl

calls_c : c_value (c_run calls) ≡ Some 13
unfolding run_of alu_of
calls_c = refl

-- `0 && x` and `2 || x` evaluate no x: x is changed where it is evaluated, and is 7 still.
abbrev shorts : List Fun
shorts =
    main [] []
    (Then (Run (And (Constant 0) (Assign scalar.Int (cell.Global 0) (Constant 1))))
    (Then (Run (Or (Constant 2) (Assign scalar.Int (cell.Global 0) (Constant 1))))
    (Then (Return (Some (Conditional (And (Constant 3) (Constant 2)) (Read (cell.Global 0)) (Constant 0)))) Done))) ∷ []

shorts_slot : slot_value (slot_run shorts) ≡ Some 7
unfolding run fun_code put may_write object_of has_element element holds binary unary alu_of get_bytes put_bytes from_le to_le
shorts_slot = refl

shorts_c : c_value (c_run shorts) ≡ Some 7
unfolding run_of alu_of
shorts_c = refl

shorts_cheap : nat_le (slot_cost (slot_run shorts)) (64 * c_steps (c_run shorts)) ≡ true
unfolding run fun_code put may_write object_of has_element element holds binary unary alu_of get_bytes put_bytes from_le to_le run_of
shorts_cheap = refl
