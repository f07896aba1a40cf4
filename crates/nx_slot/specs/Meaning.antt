-- What slot code does, one operation at a time.
use Rattle.std.specs.Prelude.{ℕ, zero, suc, ◌+◌, ◌-◌, ◌==◌, Bool, false, ◌&&◌, nat_le, nat_lt, if◌then◌else◌, List, [], ◌∷◌, ◌++◌, length, take, replicate, Option, Some, None, get_or, slice_get, slice_set}
use Rattle.nx_base.specs.Calls.{Call, Rows}
use Rattle.nx_slot.specs.declared.op.Operand.{Operand}
use Rattle.nx_slot.specs.declared.op.Operand.TheVariants.{Cell, Number}
use Rattle.nx_slot.specs.declared.op.Width.{Width}
use Rattle.nx_slot.specs.declared.op.Width.TheVariants.{Word}
use Rattle.nx_slot.specs.declared.op.SlotOp.{SlotOp}
use Rattle.nx_slot.specs.declared.op.SlotOp.TheVariants as op
use Rattle.nx_slot.specs.declared.program.SlotArray.{SlotArray}
use Rattle.nx_slot.specs.declared.program.SlotFunction.{SlotFunction}
use Rattle.nx_slot.specs.Objects.{Value, Int, Pointer, Forged, Entry, Object, object_of, has_element, element, with_element, ended, moved, holds, binary, unary}
use Rattle.nx_slot.specs.Calls.{value_at, words_of, call_inputs, outputs_of}
use Rattle.nx_slot.specs.Costs.{cost_of}

-- What the machine runs: functions, the table of the kernel's calls, and the bytes of a thread's stack.
pub record Code : Type 0 where
  pub functions : List SlotFunction
  pub rows : Rows
  pub stack : ℕ

-- A call of a function that isn't over: its function, the place of its next operation, the cell that waits for a value,
-- its cells, and the names of its arrays that are made.
pub record SlotFrame : Type 0 where
  pub function : ℕ
  pub place : ℕ
  pub wants : ℕ
  pub cells : List Value
  pub arrays : List ℕ

-- The open calls, the innermost first, and all objects.
pub record SlotState : Type 0 where
  pub frames : List SlotFrame
  pub objects : List Object

abbrev pub state : List SlotFrame → List Object → SlotState
state frames os = record { frames = frames; objects = os }

-- What is wrong: there is no operation; a cell isn't there, or none may be written there; a value or a count isn't what
-- is asked for; an access lies outside its object or writes where nothing may change; a call's buffer or text isn't there.
pub data SlotFault : Type 0 where
  NoOperation : SlotFault
  NoCell : SlotFault
  NoFit : SlotFault
  Outside : SlotFault
  NoBuffer : SlotFault

-- What a step comes to, with its cost: it goes on; it makes a call, whose outputs are put at pointers; the first
-- function gives a number; a function is entered whose need is more than the stack; or something is wrong.
pub data SlotTurn : Type 0 where
  Goes : (s : SlotState) (cost : ℕ) → SlotTurn
  Requests : (c : Call) (outputs : List Value) (s : SlotState) (cost : ℕ) → SlotTurn
  Finishes : (n : ℕ) (os : List Object) (cost : ℕ) → SlotTurn
  Overflows : (need cost : ℕ) → SlotTurn
  Fails : (fault : SlotFault) → SlotTurn

abbrev pub no_function : SlotFunction
no_function = record { frame = 0; params = 0; locals = 0; temporaries = 0; arrays = []; ops = [] }

abbrev pub function_at : Code → ℕ → SlotFunction
function_at p f = get_or p.functions f no_function

-- The bytes of all open calls.
abbrev pub stack_need : Code → List SlotFrame → ℕ
stack_need p [] = 0
stack_need p (f ∷ below) = (function_at p f.function).frame + stack_need p below

-- A cell comes to be when it is first written, after those that are there.
unfoldable pub put : List Value → ℕ → Value → List Value
put cells i x = if nat_lt i (length cells) then slice_set cells i x else cells ++ x ∷ []

-- The k cells from one on.
unfoldable pub cells_from : List Value → ℕ → ℕ → List Value
cells_from cells i zero = []
cells_from cells i (suc k) = value_at cells i ∷ cells_from cells (i + 1) k

-- A cell may be written that is there or the next one, within the function's cells.
unfoldable pub may_write : SlotFunction → List Value → ℕ → Bool
may_write g cells i = nat_le i (length cells) && nat_lt i (g.locals + g.temporaries)

-- Cells may be handed over as arguments, at most six: they are there, and the first is a temporary.
unfoldable pub may_hand : SlotFunction → List Value → ℕ → ℕ → Bool
may_hand g cells i k = nat_le (i + k) (length cells) && (nat_le g.locals i && (nat_lt i (g.locals + g.temporaries) && nat_le k 6))

abbrev pub operand : List Value → Operand → Option Value
operand cells (Cell i) = slice_get cells i
operand cells (Number n) = Some (Int n)

-- What is made of a value that there is, of a number, and of the element at a pointer.
abbrev pub on_value : Option Value → (Value → SlotTurn) → SlotTurn
on_value None go = Fails NoCell
on_value (Some x) go = go x

abbrev pub on_int : Option Value → (ℕ → SlotTurn) → SlotTurn
on_int None go = Fails NoCell
on_int (Some (Int n)) go = go n
on_int (Some (Pointer o at)) go = Fails NoFit
on_int (Some (Forged n)) go = Fails NoFit
on_int (Some (Entry f)) go = Fails NoFit

abbrev pub on_element : List Object → Width → Option Value → (ℕ → ℕ → SlotTurn) → SlotTurn
on_element os w None go = Fails NoCell
on_element os w (Some (Pointer o at)) go = if has_element (object_of os o) w at then go o at else Fails Outside
on_element os w (Some (Int n)) go = Fails NoFit
on_element os w (Some (Forged n)) go = Fails Outside
on_element os w (Some (Entry f)) go = Fails NoFit

abbrev pub on_moved : Option Value → (Value → SlotTurn) → SlotTurn
on_moved None go = Fails NoFit
on_moved (Some x) go = go x

abbrev pub on_name : Option ℕ → (ℕ → SlotTurn) → SlotTurn
on_name None go = Fails NoCell
on_name (Some name) go = go name

abbrev pub on_inputs : Option (List (List ℕ)) → (List (List ℕ) → SlotTurn) → SlotTurn
on_inputs None go = Fails NoBuffer
on_inputs (Some inputs) go = go inputs

-- The open call goes to another place.
abbrev pub jumped : SlotFrame → ℕ → SlotFrame
jumped f place = record f { place = place }

abbrev pub next : SlotFrame → SlotFrame
next f = record f { place = f.place + 1 }

-- A cell gets a value.
abbrev pub written : SlotFunction → List SlotFrame → List Object → SlotFrame → ℕ → ℕ → Value → SlotTurn
written g below os f cost i x =
    if may_write g f.cells i then Goes (state (record f { place = f.place + 1; cells = put f.cells i x } ∷ below) os) cost else Fails NoCell

-- An element gets a number.
abbrev pub stored : List SlotFrame → List Object → SlotFrame → ℕ → Width → ℕ → ℕ → ℕ → SlotTurn
stored below os f cost w o at n =
    if (object_of os o).fixed then Fails Outside else Goes (state (next f ∷ below) (slice_set os o (with_element w (object_of os o) at n))) cost

-- A call waits: its cells from the first argument on are given up.
abbrev pub waiting : SlotFrame → ℕ → SlotFrame
waiting f i = record f { place = f.place + 1; wants = i; cells = take i f.cells }

-- A value comes to the call that waits for it.
abbrev pub delivered : List SlotFrame → Value → List SlotFrame
delivered [] x = []
delivered (f ∷ below) x = record f { cells = put f.cells f.wants x } ∷ below

-- The kernel has no call of number 0.
abbrev pub requested : Code → List SlotFrame → List Object → SlotFrame → ℕ → ℕ → ℕ → List Value → SlotTurn
requested p below os f cost number i args =
    if number == 0 then Fails NoFit else on_inputs (call_inputs (p.rows number) os args) (λ inputs. Requests (record { number = number; words = words_of args; inputs = inputs }) (outputs_of (p.rows number).kinds args) (state (waiting f i ∷ below) os) cost)

-- A call of a function begins.
abbrev pub opened : ℕ → List Value → SlotFrame
opened h args = record { function = h; place = 0; wants = 0; cells = args; arrays = [] }

abbrev pub entered : Code → List SlotFrame → List Object → ℕ → SlotTurn
entered p frames os cost = if nat_lt p.stack (stack_need p frames) then Overflows (stack_need p frames) cost else Goes (state frames os) cost

abbrev pub called : Code → List SlotFrame → List Object → SlotFrame → ℕ → ℕ → ℕ → List Value → SlotTurn
called p below os f cost h i args = if length args == (function_at p h).params then entered p (opened h args ∷ waiting f i ∷ below) os cost else Fails NoFit

-- Arrays end with their call.
abbrev pub without : List ℕ → List Object → List Object
without [] os = os
without (name ∷ names) os = without names (slice_set os name (ended (object_of os name)))

-- A call is over. Of the first function a number is wanted.
abbrev pub given : List SlotFrame → List Object → ℕ → Value → SlotTurn
given (f ∷ below) os cost x = Goes (state (delivered (f ∷ below) x) os) cost
given [] os cost (Int n) = Finishes n os cost
given [] os cost (Pointer o at) = Fails NoFit
given [] os cost (Forged n) = Fails NoFit
given [] os cost (Entry f) = Fails NoFit

-- The next array is made, as an object of zeros.
abbrev pub made : List SlotFrame → List Object → SlotFrame → ℕ → ℕ → Option SlotArray → SlotTurn
made below os f cost k None = Fails NoCell
made below os f cost k (Some a) =
    if k == length f.arrays then Goes (state (record f { place = f.place + 1; arrays = f.arrays ++ length os ∷ [] } ∷ below) (os ++ record { bytes = replicate a.bytes 0; width = a.width; fixed = false } ∷ [])) cost else Fails NoFit

-- One operation of a function in its open call.
abbrev pub act : Code → List SlotFrame → List Object → SlotFunction → SlotFrame → ℕ → SlotOp → SlotTurn
act p below os g f cost (op.Move to from) = on_value (operand f.cells from) (λ x. written g below os f cost to x)
act p below os g f cost (op.Forge to from) = on_int (slice_get f.cells from) (λ n. written g below os f cost to (Forged n))
act p below os g f cost (op.Apply o to left right) =
    on_int (slice_get f.cells left) (λ a. on_int (operand f.cells right) (λ b. written g below os f cost to (Int (binary o a b))))
act p below os g f cost (op.Change o to from) = on_int (slice_get f.cells from) (λ a. written g below os f cost to (Int (unary o a)))
act p below os g f cost (op.SkipUnless test left right past) =
    on_int (slice_get f.cells left) (λ a. on_int (operand f.cells right) (λ b. Goes (state (jumped f (if holds test a b then f.place + 1 else f.place + 1 + past) ∷ below) os) cost))
act p below os g f cost (op.Skip past) = Goes (state (jumped f (f.place + 1 + past) ∷ below) os) cost
act p below os g f cost (op.Back by) = Goes (state (jumped f (f.place - by) ∷ below) os) cost
act p below os g f cost (op.Ask number first count) =
    if may_hand g f.cells first count then requested p below os f cost number first (cells_from f.cells first count) else Fails NoCell
act p below os g f cost (op.Go h first count) =
    if may_hand g f.cells first count then called p below os f cost h first (cells_from f.cells first count) else Fails NoCell
act p below os g f cost (op.Give value) = on_value (operand f.cells value) (λ x. given below (without f.arrays os) cost x)
act p below os g f cost (op.Make k) = made below os f cost k (slice_get g.arrays k)
act p below os g f cost (op.Local to k) = on_name (slice_get f.arrays k) (λ name. written g below os f cost to (Pointer name 0))
act p below os g f cost (op.Static to o) = written g below os f cost to (Pointer o.name 0)
act p below os g f cost (op.Entry to h) = written g below os f cost to (Entry h)
act p below os g f cost (op.Fetch to o) = on_element os Word (Some (Pointer o.name 0)) (λ o at. written g below os f cost to (Int (element Word (object_of os o) at)))
act p below os g f cost (op.Keep o from) = on_element os Word (Some (Pointer o.name 0)) (λ o at. on_int (slice_get f.cells from) (λ n. stored below os f cost Word o at n))
act p below os g f cost (op.Index to base index w) =
    on_int (operand f.cells index) (λ n. on_value (slice_get f.cells base) (λ x. on_moved (moved os w x n) (λ y. written g below os f cost to y)))
act p below os g f cost (op.Load to place w) = on_element os w (slice_get f.cells place) (λ o at. written g below os f cost to (Int (element w (object_of os o) at)))
act p below os g f cost (op.Store place value w) =
    on_element os w (slice_get f.cells place) (λ o at. on_int (slice_get f.cells value) (λ n. stored below os f cost w o at n))

abbrev pub fetched : Code → List SlotFrame → List Object → SlotFunction → SlotFrame → Option SlotOp → SlotTurn
fetched p below os g f None = Fails NoOperation
fetched p below os g f (Some o) = act p below os g f (cost_of g o) o

abbrev pub step_of : Code → List Object → List SlotFrame → SlotTurn
step_of p os [] = Fails NoOperation
step_of p os (f ∷ below) = fetched p below os (function_at p f.function) f (slice_get (function_at p f.function).ops f.place)

-- One step.
abbrev pub step : Code → SlotState → SlotTurn
step p s = step_of p s.objects s.frames
