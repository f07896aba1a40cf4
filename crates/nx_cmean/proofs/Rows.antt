-- The steps of small programs. The start of a variable and the fall off the end of the function are a step each.
use Rattle.std.proofs.Common.{◌≡◌, ℕ, List, [], ◌∷◌, Some, None, true, refl}
use Rattle.nx_base.specs.ByteLists.{get_bytes, put_bytes, from_le, to_le}
use Rattle.nx_base.specs.Arithmetic.{alu_of}
use Rattle.nx_checked.specs.declared.checked.Cell.TheVariants as cell
use Rattle.nx_checked.specs.declared.checked.ArrayName.TheVariants as array
use Rattle.nx_checked.specs.declared.checked.Element.TheVariants as element
use Rattle.nx_checked.specs.declared.checked.Scalar.{Scalar}
use Rattle.nx_checked.specs.declared.checked.Scalar.TheVariants as scalar
use Rattle.nx_checked.specs.declared.checked.Shape.{Shape}
use Rattle.nx_checked.specs.declared.checked.IntOperator.TheVariants.{Add}
use Rattle.nx_checked.specs.declared.checked.StepValue.TheVariants.{Old}
use Rattle.nx_checked.specs.Trees.{Expr, Constant, Array, Read, And, Assign, AssignElement, Compound, CompoundElement, Step, Call, Place, Index, Deref, NoMore, Stmt, Empty, Run, Return, Break, While, Do, For, Stmts, Done, Then, Fun, Program}
use Rattle.nx_cobjects.specs.Groups.{Group}
use Rattle.nx_cmean.specs.Meaning.{Thread, step, first_thread}
use Rattle.nx_cmean.specs.Meanings.{Reach, Still, Calls, Over, Full, Astray, run_of}
use Rattle.nx_cmean.specs.Runs.{need, turn_of}

abbrev function : List Scalar → List Shape → Stmt → Fun
function locals arrays s = record { params = []; locals = locals; arrays = arrays; initials = []; body = Then s Done; frame = 16 }

abbrev called : Stmts → Fun
called body = record { params = []; locals = []; arrays = []; initials = []; body = body; frame = 16 }

abbrev no_globals : Group
no_globals = record { scalars = []; arrays = []; texts = [] }

abbrev steps_of : Reach Group Thread → ℕ
steps_of (Still g t n) = 0
steps_of (Calls c g t n) = n
steps_of (Over c g n) = n
steps_of (Full bytes n) = n
steps_of (Astray n) = n

-- How many steps the first function makes, until it ends or goes wrong.
abbrev steps : List Fun → ℕ
steps fs = let p : Program = record { functions = fs; calls = [] } in
    steps_of (run_of (λ g t. turn_of 1 (step p g t)) (need p) 64 100 no_globals (first_thread p 0 0))

abbrev x : Expr
x = Read (cell.Local 0)

abbrev one_int : List Scalar
one_int = scalar.Int ∷ []

abbrev two_ints : List Shape
two_ints = record { element = element.Int; count = 2 } ∷ []

abbrev at_index : ℕ → Place
at_index i = Index (Array (array.Local 0)) (Constant i)

-- `;` takes 1.
empty : steps (function [] [] Empty ∷ []) ≡ 2
unfolding run_of
empty = refl

-- `x = 1;` takes 3, `x += 1;` 4, `x++;` 3.
assigned : steps (function one_int [] (Run (Assign scalar.Int (cell.Local 0) (Constant 1))) ∷ []) ≡ 5
unfolding run_of
assigned = refl

raised : steps (function one_int [] (Run (Compound Add scalar.Int (cell.Local 0) (Constant 1))) ∷ []) ≡ 6
unfolding run_of alu_of
raised = refl

stepped : steps (function one_int [] (Run (Step Old true scalar.Int (cell.Local 0))) ∷ []) ≡ 5
unfolding run_of alu_of
stepped = refl

-- `int a[2];` takes 2 at the entry, `a[1] = 5;` 6, `a[1] += 5;` 6, and `a[2] += 5;` is wrong at its step for `a[2]`.
element_assigned : steps (function [] two_ints (Run (AssignElement element.Int (at_index 1) (Constant 5))) ∷ []) ≡ 9
unfolding run_of to_le put_bytes
element_assigned = refl

element_raised : steps (function [] two_ints (Run (CompoundElement Add element.Int (at_index 1) (Constant 5))) ∷ []) ≡ 9
unfolding run_of to_le put_bytes get_bytes from_le alu_of
element_raised = refl

element_past : steps (function [] two_ints (Run (CompoundElement Add element.Int (at_index 2) (Constant 5))) ∷ []) ≡ 6
unfolding run_of get_bytes from_le
element_past = refl

-- `*p = 1;` takes 5.
deref_assigned : steps (function [] two_ints (Run (AssignElement element.Int (Deref (Array (array.Local 0))) (Constant 1))) ∷ []) ≡ 8
unfolding run_of to_le put_bytes
deref_assigned = refl

-- `0 && 1;` takes 3, `1 && 0;` 4.
zero_and : steps (function [] [] (Run (And (Constant 0) (Constant 1))) ∷ []) ≡ 4
unfolding run_of
zero_and = refl

one_and : steps (function [] [] (Run (And (Constant 1) (Constant 0))) ∷ []) ≡ 5
unfolding run_of
one_and = refl

-- `f();` takes 3 with `void f(void) {}`, and 5 with `int f(void) { return 1; }`.
void_called : steps (function [] [] (Run (Call 1 NoMore)) ∷ called Done ∷ []) ≡ 4
unfolding run_of
void_called = refl

int_called : steps (function [] [] (Run (Call 1 NoMore)) ∷ called (Then (Return (Some (Constant 1))) Done) ∷ []) ≡ 6
unfolding run_of
int_called = refl

-- A loop's further step stands before each test but the first: `while (0);` takes 2, `do ; while (0);` 3, `for (;;) break;` 2.
while_zero : steps (function [] [] (While (Constant 0) Empty) ∷ []) ≡ 3
unfolding run_of
while_zero = refl

do_zero : steps (function [] [] (Do Empty (Constant 0)) ∷ []) ≡ 4
unfolding run_of
do_zero = refl

for_break : steps (function [] [] (For None None None Break) ∷ []) ≡ 3
unfolding run_of
for_break = refl
