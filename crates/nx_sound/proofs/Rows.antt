-- Small programs of C, and what their slot code gives.
use Rattle.std.proofs.Common.{◌≡◌, ℕ, List, [], ◌∷◌, Option, Some, None, refl}
use Rattle.std.specs.Prelude.{codes, false, true}
use Rattle.nx_base.specs.ByteLists.{get_bytes, put_bytes, from_le, to_le}
use Rattle.nx_base.specs.Arithmetic.{alu_of}
use Rattle.nx_base.specs.Calls.{Call, Rows}
use Rattle.nx_base.specs.declared.calls.Kind.TheVariants.{Word}
use Rattle.nx_checked.specs.declared.checked.ArrayName.TheVariants as array
use Rattle.nx_checked.specs.declared.checked.Cell.TheVariants as cell
use Rattle.nx_checked.specs.declared.checked.Element.TheVariants as element
use Rattle.nx_checked.specs.declared.checked.Scalar.{Scalar}
use Rattle.nx_checked.specs.declared.checked.Scalar.TheVariants as scalar
use Rattle.nx_checked.specs.declared.checked.Shape.{Shape}
use Rattle.nx_checked.specs.declared.checked.IntOperator.TheVariants.{Divide, Remainder, ShiftLeft}
use Rattle.nx_checked.specs.declared.checked.IntPrefix.TheVariants.{Minus}
use Rattle.nx_checked.specs.declared.checked.UsedCall.{UsedCall}
use Rattle.nx_checked.specs.Trees.{Expr, Constant, Array, Read, Unary, And, Or, Binary, AssignElement, Kernel, Call as Of, Index, NoMore, More, Run, Return, Stmts, Done, Then, Fun}
use Rattle.nx_slot.specs.Objects.{object_of, has_element, element, with_element, holds, binary, unary}
use Rattle.nx_slot.specs.Calls.{input_of, inputs_of, call_inputs}
use Rattle.nx_slot.specs.Meaning.{SlotFault, Outside, put, cells_from, may_write, may_hand}
use Rattle.nx_slot.specs.Runs.{SlotReach, Requested, Finished, Failed, then_on, run, begun}
use Rattle.nx_lower.specs.Code.{Source}
use Rattle.nx_lower.specs.Bodies.{fun_code, code_of}

-- A call of the kernel of one word.
abbrev call : UsedCall
call = record { name = codes "p"; number = 16; kinds = Word ∷ []; returns = true }

abbrev source : List Fun → Source
source fs = record { program = record { functions = fs; calls = call ∷ [] }; scalars = 0; arrays = []; texts = [] }

abbrev rows : Rows
rows n = record { kinds = Word ∷ []; enters = false }

abbrev slot_run : List Fun → SlotReach
slot_run fs = let p = code_of (source fs) rows 512 in then_on (begun p 0 [] []) (run p 60)

abbrev value_of : SlotReach → Option ℕ
value_of (Finished n os cost) = Some n
value_of r = None

abbrev words_of : SlotReach → List ℕ
words_of (Requested c outputs s cost) = c.words
words_of r = []

abbrev fault_of : SlotReach → Option SlotFault
fault_of (Failed fault) = Some fault
fault_of r = None

abbrev function : List Scalar → List Shape → Stmts → Fun
function params arrays body = record { params = params; locals = []; arrays = arrays; initials = []; body = body; frame = 64 }

abbrev gives : Expr → Option ℕ
gives e = value_of (slot_run (function [] [] (Then (Return (Some e)) Done) ∷ []))

-- -2147483648 / -1, 7 / 0, 7 % 0 and 1 << 33 give -2147483648, -1, 7 and 2.
operators : gives (Binary Divide (Unary Minus (Constant 2147483648)) (Unary Minus (Constant 1))) ∷ gives (Binary Divide (Constant 7) (Constant 0)) ∷ gives (Binary Remainder (Constant 7) (Constant 0)) ∷ gives (Binary ShiftLeft (Constant 1) (Constant 33)) ∷ []
    ≡ Some 2147483648 ∷ Some 4294967295 ∷ Some 7 ∷ Some 2 ∷ []
unfolding run fun_code put may_write binary unary alu_of
operators = refl

-- int a[2]; a[2] = 1;
outside : fault_of (slot_run (function [] (record { element = element.Int; count = 2 } ∷ []) (Then (Run (AssignElement element.Int (Index (Array (array.Local 0)) (Constant 2)) (Constant 1))) Done) ∷ [])) ≡ Some Outside
unfolding run fun_code put may_write object_of has_element element with_element binary unary alu_of get_bytes put_bytes from_le to_le
outside = refl

-- f makes a call: 0 && f() and 1 || f() don't come to it.
abbrev asks : Fun
asks = function [] [] (Then (Return (Some (Kernel 0 (More (Constant 5) NoMore)))) Done)

no_call : value_of (slot_run (function [] [] (Then (Run (And (Constant 0) (Of 1 NoMore))) (Then (Run (Or (Constant 1) (Of 1 NoMore))) Done)) ∷ asks ∷ [])) ≡ Some 0
unfolding run fun_code put may_write may_hand cells_from holds binary unary alu_of
no_call = refl

-- g calls the kernel with its argument: of f(g(1), g(2)) the call with 1 is first.
first_call : words_of (slot_run (function [] [] (Then (Run (Of 1 (More (Of 2 (More (Constant 1) NoMore)) (More (Of 2 (More (Constant 2) NoMore)) NoMore)))) Done)
    ∷ function (scalar.Int ∷ scalar.Int ∷ []) [] Done
    ∷ function (scalar.Int ∷ []) [] (Then (Return (Some (Kernel 0 (More (Read (cell.Local 0)) NoMore)))) Done) ∷ []))
    ≡ 1 ∷ 0 ∷ 0 ∷ 0 ∷ 0 ∷ 0 ∷ []
unfolding run fun_code put may_write may_hand cells_from input_of inputs_of call_inputs
first_call = refl
