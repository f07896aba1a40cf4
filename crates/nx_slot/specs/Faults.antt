-- What is wrong with an operation: the first of its demands that isn't met.
use Rattle.std.specs.Prelude.{ℕ, ◌==◌, Bool, true, false, not, List, [], ◌∷◌, length, Option, Some, None, slice_get}
use Rattle.nx_slot.specs.declared.op.Width.{Width}
use Rattle.nx_slot.specs.declared.op.Width.TheVariants.{Word}
use Rattle.nx_slot.specs.declared.op.SlotOp.{SlotOp}
use Rattle.nx_slot.specs.declared.op.SlotOp.TheVariants as op
use Rattle.nx_slot.specs.declared.program.SlotArray.{SlotArray}
use Rattle.nx_slot.specs.declared.program.SlotFunction.{SlotFunction}
use Rattle.nx_slot.specs.Objects.{Value, Int, Pointer, Forged, Entry, Object, object_of, has_element, same_width}
use Rattle.nx_slot.specs.Calls.{call_inputs}
use Rattle.nx_slot.specs.Meaning.{Code, SlotFrame, SlotFault, NoOperation, NoCell, NoFit, Outside, NoBuffer, SlotTurn, Goes, Requests, Finishes, Overflows, Fails, function_at, cells_from, may_write, may_hand, operand}

-- The fault that a step answers, if it does.
abbrev pub fault_of : SlotTurn → Option SlotFault
fault_of (Fails fault) = Some fault
fault_of (Goes s cost) = None
fault_of (Requests c outputs s cost) = None
fault_of (Finishes n os cost) = None
fault_of (Overflows need cost) = None

-- A fault, else those that follow.
abbrev pub first_of : Option SlotFault → Option SlotFault → Option SlotFault
first_of None more = more
first_of (Some fault) more = Some fault

abbrev pub unless : Bool → SlotFault → Option SlotFault
unless true fault = None
unless false fault = Some fault

-- A cell is there.
abbrev pub no_value : Option Value → Option SlotFault
no_value None = Some NoCell
no_value (Some x) = None

-- It has a number.
abbrev pub no_int : Option Value → Option SlotFault
no_int None = Some NoCell
no_int (Some (Int n)) = None
no_int (Some (Pointer o at)) = Some NoFit
no_int (Some (Forged n)) = Some NoFit
no_int (Some (Entry f)) = Some NoFit

-- It has a pointer to elements of this width.
abbrev pub no_pointer : List Object → Width → Option Value → Option SlotFault
no_pointer os w None = Some NoCell
no_pointer os w (Some (Int n)) = Some NoFit
no_pointer os w (Some (Pointer o at)) = unless (same_width (object_of os o).width w) NoFit
no_pointer os w (Some (Forged n)) = None
no_pointer os w (Some (Entry f)) = Some NoFit

-- That pointer is to an element which lies in its object.
abbrev pub no_element : List Object → Width → Option Value → Option SlotFault
no_element os w None = Some NoCell
no_element os w (Some (Int n)) = Some NoFit
no_element os w (Some (Pointer o at)) = unless (has_element (object_of os o) w at) Outside
no_element os w (Some (Forged n)) = Some Outside
no_element os w (Some (Entry f)) = Some NoFit

-- And its object may change.
abbrev pub no_change : List Object → Option Value → Option SlotFault
no_change os None = None
no_change os (Some (Int n)) = None
no_change os (Some (Pointer o at)) = unless (not (object_of os o).fixed) Outside
no_change os (Some (Forged n)) = None
no_change os (Some (Entry f)) = None

-- A cell may be written.
abbrev pub no_cell : SlotFunction → SlotFrame → ℕ → Option SlotFault
no_cell g f i = unless (may_write g f.cells i) NoCell

-- An array is one of the function, and the next one; or one that is made.
abbrev pub no_array : SlotFrame → ℕ → Option SlotArray → Option SlotFault
no_array f k None = Some NoCell
no_array f k (Some a) = unless (k == length f.arrays) NoFit

abbrev pub no_name : Option ℕ → Option SlotFault
no_name None = Some NoCell
no_name (Some name) = None

-- The inputs of a call are there.
abbrev pub no_inputs : Option (List (List ℕ)) → Option SlotFault
no_inputs None = Some NoBuffer
no_inputs (Some inputs) = None

-- The first function gives a number.
abbrev pub no_end : List SlotFrame → Option Value → Option SlotFault
no_end [] x = no_int x
no_end (f ∷ below) x = no_value x

abbrev pub fault : Code → List SlotFrame → List Object → SlotFunction → SlotFrame → SlotOp → Option SlotFault
fault p below os g f (op.Move to from) = first_of (no_value (operand f.cells from)) (no_cell g f to)
fault p below os g f (op.Forge to from) = first_of (no_int (slice_get f.cells from)) (no_cell g f to)
fault p below os g f (op.Apply o to left right) = first_of (no_int (slice_get f.cells left)) (first_of (no_int (operand f.cells right)) (no_cell g f to))
fault p below os g f (op.Change o to from) = first_of (no_int (slice_get f.cells from)) (no_cell g f to)
fault p below os g f (op.SkipUnless test left right past) = first_of (no_int (slice_get f.cells left)) (no_int (operand f.cells right))
fault p below os g f (op.Skip past) = None
fault p below os g f (op.Back by) = None
fault p below os g f (op.Ask number first count) =
    first_of (unless (may_hand g f.cells first count) NoCell) (first_of (unless (not (number == 0)) NoFit) (no_inputs (call_inputs (p.rows number) os (cells_from f.cells first count))))
fault p below os g f (op.Go h first count) =
    first_of (unless (may_hand g f.cells first count) NoCell) (unless (length (cells_from f.cells first count) == (function_at p h).params) NoFit)
fault p below os g f (op.Give value) = no_end below (operand f.cells value)
fault p below os g f (op.Make k) = no_array f k (slice_get g.arrays k)
fault p below os g f (op.Local to k) = first_of (no_name (slice_get f.arrays k)) (no_cell g f to)
fault p below os g f (op.Static to o) = no_cell g f to
fault p below os g f (op.Entry to h) = no_cell g f to
fault p below os g f (op.Fetch to o) = first_of (no_element os Word (Some (Pointer o.name 0))) (no_cell g f to)
fault p below os g f (op.Keep o from) =
    first_of (no_element os Word (Some (Pointer o.name 0))) (first_of (no_int (slice_get f.cells from)) (no_change os (Some (Pointer o.name 0))))
fault p below os g f (op.Index to base index w) = first_of (no_int (operand f.cells index)) (first_of (no_pointer os w (slice_get f.cells base)) (no_cell g f to))
fault p below os g f (op.Load to place w) = first_of (no_element os w (slice_get f.cells place)) (no_cell g f to)
fault p below os g f (op.Store place value w) =
    first_of (no_element os w (slice_get f.cells place)) (first_of (no_int (slice_get f.cells value)) (no_change os (slice_get f.cells place)))

abbrev pub fault_in : Code → List SlotFrame → List Object → SlotFunction → SlotFrame → Option SlotOp → Option SlotFault
fault_in p below os g f None = Some NoOperation
fault_in p below os g f (Some o) = fault p below os g f o

abbrev pub fault_at : Code → List Object → List SlotFrame → Option SlotFault
fault_at p os [] = Some NoOperation
fault_at p os (f ∷ below) = fault_in p below os (function_at p f.function) f (slice_get (function_at p f.function).ops f.place)
