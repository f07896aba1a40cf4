-- What a checked program does, one step at a time.

use Rattle.std.specs.Prelude.{ℕ, ℤ, zero, suc, ◌+◌, ◌%◌, Bool, true, false, List, [], ◌∷◌, ◌++◌, length, get_or, slice_get, slice_set, Option, Some, None, Result, Ok, Err}
use Rattle.nx_base.specs.Arithmetic.{alu_of, signed}
use Rattle.nx_base.specs.declared.operations.AluOp.TheVariants as alu
use Rattle.nx_base.specs.Calls.{Call}
use Rattle.nx_checked.specs.declared.checked.Cell.{Cell}
use Rattle.nx_checked.specs.declared.checked.Cell.TheVariants as cell
use Rattle.nx_checked.specs.declared.checked.ArrayName.TheVariants as array
use Rattle.nx_checked.specs.declared.checked.Scalar.{Scalar}
use Rattle.nx_checked.specs.declared.checked.Scalar.TheVariants as scalar
use Rattle.nx_checked.specs.declared.checked.IntOperator.{IntOperator}
use Rattle.nx_checked.specs.declared.checked.IntOperator.TheVariants.{Add, Subtract}
use Rattle.nx_checked.specs.declared.checked.StepValue.{StepValue}
use Rattle.nx_checked.specs.declared.checked.StepValue.TheVariants.{New, Old}
use Rattle.nx_checked.specs.declared.checked.UsedCall.{UsedCall}
use Rattle.nx_checked.specs.Trees.{Stmt, Done, Then, Fun, Program}
use Rattle.nx_cobjects.specs.declared.value.Name.TheVariants as name
use Rattle.nx_cobjects.specs.declared.value.Value.{Value}
use Rattle.nx_cobjects.specs.declared.value.Value.TheVariants.{Int, Point, Forged, Entry}
use Rattle.nx_cobjects.specs.declared.value.Prefix.TheVariants as before
use Rattle.nx_cobjects.specs.declared.value.WrongKind.{WrongKind}
use Rattle.nx_cobjects.specs.declared.value.WrongKind.TheVariants as wrong
use Rattle.nx_cobjects.specs.Values.{◌>>=◌, number_in, kept, cut, first_value, operated}
use Rattle.nx_cobjects.specs.Groups.{Object, Group}
use Rattle.nx_cobjects.specs.Memory.{Memory, memory, load, store, moved, prefixed, infixed, cell_value, group_with, new_object, end_arrays}
use Rattle.nx_cobjects.specs.Buffers.{inputs_of, outputs_of, words_of, replied}
use Rattle.nx_cmean.specs.declared.item.Leaf.{Leaf}
use Rattle.nx_cmean.specs.declared.item.Leaf.TheVariants as leaf
use Rattle.nx_cmean.specs.Items.{Item, Take, Get, Alter, Apply, Write, Raise, Bump, Reached, Fetch, FetchAt, Lay, Lift, Shift, AndThen, OrElse, Choose, Chosen, Ask, Enter, Called, Forget, Exec, Rest, Test, FirstTest, TestLoop, Turn, Again, Leave, Fall, Start, Gap, Make, items_then, option_then, rest_then, test_then, gaps_then, entry_then, begun}

-- A call of a function that isn't over: its function, the own objects of the thread from which on its arrays stand and
-- how many they are, its cells, the values of the expression that is evaluated, the last first, and what remains.
pub record Frame : Type 0 where
  pub function : ℕ
  pub from : ℕ
  pub arrays : ℕ
  pub cells : List Value
  pub values : List Value
  pub todo : List Item

-- A thread: its own objects, its open calls, the innermost first, and where the outputs of the call are put for whose reply it waits.
pub record Thread : Type 0 where
  pub own : List Object
  pub frames : List Frame
  pub outputs : List Value

abbrev pub thread : List Object → List Frame → List Value → Thread
thread own frames outputs = record { own = own; frames = frames; outputs = outputs }

-- What a step answers, with the objects of the group and the thread after it.
pub data Answer : Type 0 where
  Next : (g : Group) (t : Thread) → Answer
  Asks : (c : Call) (g : Group) (t : Thread) → Answer
  Ends : (n : ℤ) (g : Group) → Answer
  Wrong : (kind : WrongKind) → Answer

-- What is said where a value isn't there or isn't what its place asks for, to which no thread of a checked program comes.
abbrev pub stuck : Answer
stuck = Wrong wrong.Bounds

abbrev pub goes : Memory → List Frame → Answer
goes m frames = Next m.group (thread m.own frames [])

abbrev pub with_values : Frame → List Value → Frame
with_values f vs = record { function = f.function; from = f.from; arrays = f.arrays; cells = f.cells; values = vs; todo = f.todo }

abbrev pub with_todo : Frame → List Value → List Item → Frame
with_todo f vs k = record { function = f.function; from = f.from; arrays = f.arrays; cells = f.cells; values = vs; todo = k }

abbrev pub with_cells : Frame → List Value → List Value → Frame
with_cells f cells vs = record { function = f.function; from = f.from; arrays = f.arrays; cells = cells; values = vs; todo = f.todo }

-- By whether a value is the number 0, or what is said of a value that is no number.
abbrev pub zero_or : {A : Type 0} → Value → A → A → A → A
zero_or (Int zero) miss a b = a
zero_or (Int (suc n)) miss a b = b
zero_or (Point o at) miss a b = miss
zero_or (Forged n) miss a b = miss
zero_or (Entry f) miss a b = miss

-- The last value, the last two, the last three, or what is said where they are missing.
abbrev pub on_top : {A : Type 0} → List Value → A → (Value → List Value → A) → A
on_top [] miss go = miss
on_top (v ∷ vs) miss go = go v vs

abbrev pub on_two : {A : Type 0} → List Value → A → (Value → Value → List Value → A) → A
on_two [] miss go = miss
on_two (y ∷ []) miss go = miss
on_two (y ∷ x ∷ vs) miss go = go x y vs

abbrev pub on_three : {A : Type 0} → List Value → A → (Value → Value → Value → List Value → A) → A
on_three [] miss go = miss
on_three (z ∷ []) miss go = miss
on_three (z ∷ y ∷ []) miss go = miss
on_three (z ∷ y ∷ x ∷ vs) miss go = go x y z vs

-- The last k values, the last one last, and those before.
pub data Taken : Type 0 where
  Short : Taken
  Took : (args rest : List Value) → Taken

abbrev pub taken : ℕ → List Value → List Value → Taken
taken zero vs args = Took args vs
taken (suc k) [] args = Short
taken (suc k) (v ∷ vs) args = taken k vs (v ∷ args)

abbrev pub on_taken : {A : Type 0} → Taken → A → (List Value → List Value → A) → A
on_taken Short miss go = miss
on_taken (Took args rest) miss go = go args rest

abbrev pub on_inputs : Option (List (List ℕ)) → (List (List ℕ) → Answer) → Answer
on_inputs (Some inputs) go = go inputs
on_inputs None go = Wrong wrong.Buffer

abbrev pub on_call : Option UsedCall → (UsedCall → Answer) → Answer
on_call (Some c) go = go c
on_call None go = stuck

-- An operand, in a call whose arrays stand from a place on.
abbrev pub leaf_value : ℕ → Leaf → Value
leaf_value from (leaf.Number n) = Int n
leaf_value from (leaf.Text i) = Point (name.Text i) 0
leaf_value from (leaf.Function f) = Entry f
leaf_value from (leaf.Array (array.Local i)) = Point (name.Own (from + i)) 0
leaf_value from (leaf.Array (array.Global i)) = Point (name.Array i) 0

-- What a compound assignment stores, by what the variable holds: a pointer moves by elements.
abbrev pub raised : Memory → IntOperator → Scalar → Value → Value → Result Value WrongKind
raised m op scalar.Int v e = do
  x ← number_in v
  y ← number_in e
  Ok (Int (operated op x y))
raised m op scalar.Char v e = do
  x ← number_in v
  y ← number_in e
  Ok (Int (operated op x y % 256))
raised m Subtract (scalar.Pointer w) v e = do
  n ← number_in e
  moved m w v (alu_of alu.Sub 0 n)
raised m op (scalar.Pointer w) v e = do
  n ← number_in e
  moved m w v n

-- `++` adds the number 1, and `--` subtracts it.
abbrev pub stepping : Bool → IntOperator
stepping true = Add
stepping false = Subtract

abbrev pub new_or_old : {A : Type 0} → StepValue → A → A → A
new_or_old New a b = a
new_or_old Old a b = b

-- What parameters keep of arguments.
abbrev pub all_kept : List Value → List Scalar → List Value → Result (List Value) WrongKind
all_kept done (s ∷ ss) (v ∷ vs) = do
  k ← kept s v
  all_kept (done ++ k ∷ []) ss vs
all_kept done (s ∷ ss) [] = Ok done
all_kept done [] vs = Ok (done ++ vs)

abbrev pub no_fun : Fun
no_fun = record { params = []; locals = []; arrays = []; initials = []; body = Done; frame = 0 }

abbrev pub fun_at : Program → ℕ → Fun
fun_at p f = get_or p.functions f no_fun

-- A call of a function begins with its parameters, where the thread has had so many objects.
abbrev pub opened_fun : Fun → ℕ → ℕ → List Value → Frame
opened_fun g f names params = record {
  function = f;
  from = names;
  arrays = length g.arrays;
  cells = params;
  values = [];
  todo = entry_then g [];
}

abbrev pub opened : Program → ℕ → ℕ → List Value → Frame
opened p f names params = opened_fun (fun_at p f) f names params

abbrev pub opened_with : Program → ℕ → ℕ → Frame → List Frame → Frame → Result (List Value) WrongKind → List Frame
opened_with p f names caller below miss (Ok params) = opened p f names params ∷ caller ∷ below
opened_with p f names caller below miss (Err kind) = miss ∷ below

-- The second side of an `if`, if it has one.
abbrev pub else_then : Option Stmt → List Item → List Item
else_then None k = k
else_then (Some b) k = Exec b ∷ k

-- An item stays first.
abbrev pub stays : Frame → Item → Frame
stays f i = with_todo f f.values (i ∷ f.todo)

-- A decision, which takes no step: what the item that stood first makes of its call. Other items stay, and so does a
-- decision whose value isn't there or is no number.
abbrev pub decided_frame : Frame → Item → Frame
decided_frame f (AndThen b) =
    on_top f.values (stays f (AndThen b)) (λ v rest. zero_or v (stays f (AndThen b))
    (with_todo f f.values (Alter before.Truth ∷ f.todo))
    (with_todo f rest (items_then b (Alter before.Truth ∷ f.todo))))
decided_frame f (OrElse b) =
    on_top f.values (stays f (OrElse b)) (λ v rest. zero_or v (stays f (OrElse b))
    (with_todo f rest (items_then b (Alter before.Truth ∷ f.todo)))
    (with_todo f f.values (Alter before.Truth ∷ f.todo)))
decided_frame f (Choose a b) =
    on_top f.values (stays f (Choose a b)) (λ v rest. zero_or v (stays f (Choose a b))
    (with_todo f rest (items_then b (Chosen ∷ f.todo)))
    (with_todo f rest (items_then a (Chosen ∷ f.todo))))
decided_frame f Forget = on_top f.values (stays f Forget) (λ v rest. with_values f rest)
decided_frame f (Test a b) =
    on_top f.values (stays f (Test a b)) (λ v rest. zero_or v (stays f (Test a b))
    (with_todo f rest (else_then b f.todo))
    (with_todo f rest (Exec a ∷ f.todo)))
decided_frame f (FirstTest c s) = with_todo f f.values (items_then c (TestLoop c None s ∷ f.todo))
decided_frame f (TestLoop c t s) =
    on_top f.values (stays f (TestLoop c t s)) (λ v rest. zero_or v (stays f (TestLoop c t s))
    (with_values f rest)
    (with_todo f rest (Exec s ∷ Turn (Some c) t s ∷ f.todo)))
decided_frame f (Turn c t s) = with_todo f f.values (option_then t (Again c t s ∷ f.todo))
decided_frame f i = stays f i

-- A call of a function is entered by a decision too. Where an argument isn't there or isn't what its parameter can keep,
-- the call stays without values, so that it is never entered.
abbrev pub decide : Program → ℕ → List Frame → Frame → Item → List Frame
decide p names below f (Enter g n) =
    on_taken (taken n f.values []) (stays (with_values f []) (Enter g n) ∷ below)
    (λ args rest. opened_with p g names (with_values f rest) below (stays (with_values f []) (Enter g n)) (all_kept [] (fun_at p g).params args))
decide p names below f i = decided_frame f i ∷ below

-- The first item of an open call, if there is one, and the call without it.
abbrev pub on_first : {A : Type 0} → List Item → A → (Item → List Item → A) → A
on_first [] miss go = miss
on_first (i ∷ k) miss go = go i k

abbrev pub on_item : {A : Type 0} → Frame → A → (Frame → Item → A) → A
on_item f miss go = on_first f.todo miss (λ i k. go (with_todo f f.values k) i)

abbrev pub decided : Program → ℕ → List Frame → List Frame
decided p names [] = []
decided p names (f ∷ below) = on_item f (f ∷ below) (λ f i. decide p names below f i)

-- At most three decisions stand in a row.
abbrev pub settled : Program → ℕ → List Frame → List Frame
settled p names t = decided p names (decided p names (decided p names t))

-- A value comes to the call that waits for it.
abbrev pub given : List Frame → Value → List Frame
given [] v = []
given (f ∷ below) v = with_values f (v ∷ f.values) ∷ below

-- A call is over, and its arrays with it. The first function gives a number.
abbrev pub ended_by : Memory → Result ℕ WrongKind → Answer
ended_by m (Ok n) = Ends (signed n) m.group
ended_by m (Err kind) = Wrong kind

abbrev pub left : Memory → Frame → List Frame → Value → Answer
left m f [] v = ended_by m (number_in v)
left m f (g ∷ below) v = goes (memory m.group (end_arrays m.own f.from f.arrays)) (given (g ∷ below) v)

-- What an item makes of its call, or what is wrong. Statements and arrays first.
abbrev pub proceeded : Frame → Item → Result Frame WrongKind
proceeded f (Exec s) = Ok (with_todo f f.values (begun s f.todo))
proceeded f (Rest (Then s ss)) = Ok (with_todo f f.values (begun s (rest_then ss f.todo)))
proceeded f (Again c t s) = Ok (with_todo f f.values (test_then c t s f.todo))
proceeded f (Start s) = Ok (with_cells f (f.cells ++ first_value s ∷ []) f.values)
proceeded f (Gap n) = Ok (with_todo f f.values (gaps_then n f.todo))
proceeded f i = Err wrong.Bounds

-- A value comes in the place of others.
abbrev pub put_value : Frame → List Value → Result Value WrongKind → Result Frame WrongKind
put_value f rest (Ok v) = Ok (with_values f (v ∷ rest))
put_value f rest (Err kind) = Err kind

-- Expressions.
abbrev pub evaluated : Memory → Frame → Item → Result Frame WrongKind
evaluated m f (Take l) = Ok (with_values f (leaf_value f.from l ∷ f.values))
evaluated m f (Get x) = Ok (with_values f (cell_value m f.cells x ∷ f.values))
evaluated m f (Alter op) = on_top f.values (Err wrong.Bounds) (λ v rest. put_value f rest (prefixed m op v))
evaluated m f (Apply op) = on_two f.values (Err wrong.Bounds) (λ x y rest. put_value f rest (infixed m op x y))
evaluated m f (Fetch w) = on_top f.values (Err wrong.Bounds) (λ a rest. put_value f (a ∷ rest) (load m w a))
evaluated m f (FetchAt w) = on_two f.values (Err wrong.Bounds) (λ a i rest. do
  n ← number_in i
  at ← moved m w a n
  put_value f (at ∷ rest) (load m w at))
evaluated m f Reached = Ok f
evaluated m f Chosen = Ok f
evaluated m f Called = Ok f
evaluated m f i = proceeded f i

-- The objects and the call after an item.
pub record Changed : Type 0 where
  pub memory : Memory
  pub frame : Frame

abbrev pub changed : Memory → Frame → Changed
changed m f = record { memory = m; frame = f }

-- A variable gets a value, and another is the value of the assignment. One of the file gets numbers alone.
abbrev pub assigned : Memory → Frame → Cell → Value → Value → List Value → Result Changed WrongKind
assigned m f (cell.Local i) v result rest = Ok (changed m (with_cells f (slice_set f.cells i v) (result ∷ rest)))
assigned m f (cell.Global i) v result rest = do
  n ← number_in v
  Ok (changed (memory (group_with m.group i n) m.own) (with_values f (result ∷ rest)))

-- The same of the element at a pointer.
abbrev pub then_value : Frame → List Value → ℕ → Result Memory WrongKind → Result Changed WrongKind
then_value f rest n (Ok m) = Ok (changed m (with_values f (Int n ∷ rest)))
then_value f rest n (Err kind) = Err kind

abbrev pub unchanged : Memory → Result Frame WrongKind → Result Changed WrongKind
unchanged m (Ok f) = Ok (changed m f)
unchanged m (Err kind) = Err kind

-- Assignments.
abbrev pub stored : Memory → Frame → Item → Result Changed WrongKind
stored m f (Write s x) = on_top f.values (Err wrong.Bounds) (λ v rest. do
  k ← kept s v
  assigned m f x k k rest)
stored m f (Raise op s x) = on_two f.values (Err wrong.Bounds) (λ v e rest. do
  k ← raised m op s v e
  assigned m f x k k rest)
stored m f (Bump v up s x) = on_top f.values (Err wrong.Bounds) (λ old rest. do
  k ← raised m (stepping up) s old (Int 1)
  assigned m f x k (new_or_old v k old) rest)
stored m f (Lay w) = on_two f.values (Err wrong.Bounds) (λ a v rest. do
  n ← number_in v
  then_value f rest (cut w n) (store m w a n))
stored m f (Lift op w) = on_three f.values (Err wrong.Bounds) (λ a v e rest. do
  x ← number_in v
  y ← number_in e
  then_value f rest (cut w (operated op x y)) (store m w a (operated op x y)))
stored m f (Shift v up w) = on_two f.values (Err wrong.Bounds) (λ a old rest. do
  n ← number_in old
  then_value f rest (new_or_old v (cut w (operated (stepping up) n 1)) n) (store m w a (operated (stepping up) n 1)))
stored m f (Make s) = Ok (changed (memory m.group (m.own ++ new_object s ∷ [])) f)
stored m f i = unchanged m (evaluated m f i)

abbrev pub asked : Memory → List Frame → Frame → List Value → List Value → UsedCall → Answer
asked m below f args rest c = on_inputs (inputs_of m c args) (λ inputs.
    Asks (record { number = c.number; words = words_of args; inputs = inputs }) m.group (thread m.own (with_values f rest ∷ below) (outputs_of c.kinds args)))

abbrev pub goes_on : List Frame → Result Changed WrongKind → Answer
goes_on below (Ok c) = goes c.memory (c.frame ∷ below)
goes_on below (Err kind) = Wrong kind

-- An item that takes a step.
abbrev pub act : Program → Memory → List Frame → Frame → Item → Answer
act p m below f (Ask n k) =
    on_taken (taken k f.values []) stuck (λ args rest. on_call (slice_get p.calls n) (λ c. asked m below f args rest c))
act p m below f Leave = on_top f.values stuck (λ v rest. left m f below v)
act p m below f Fall = left m f below (Int 0)
act p m below f i = goes_on below (stored m f i)

abbrev pub turn : Program → Memory → List Frame → Answer
turn p m [] = stuck
turn p m (f ∷ below) = on_item f stuck (λ f i. act p m below f i)

-- One step: the decisions that stand first, and then an item.
abbrev pub step : Program → Group → Thread → Answer
step p g t = turn p (memory g t.own) (settled p (length t.own) t.frames)

-- A thread begins with a function. Main functions have no parameter.
abbrev pub first_args : List Scalar → ℕ → List Value
first_args [] n = []
first_args (s ∷ ss) n = Int n ∷ []

abbrev pub first_thread : Program → ℕ → ℕ → Thread
first_thread p f n = thread [] (opened p f 0 (first_args (fun_at p f).params n) ∷ []) []

-- What a thread and its group have after a reply: the outputs are written, and then the value is there.
abbrev pub replied_memory : Group → Thread → List ℕ → List ℕ → Memory
replied_memory g t first second = replied (memory g t.own) t.outputs first second

abbrev pub replied_thread : Group → Thread → ℕ → List ℕ → List ℕ → Thread
replied_thread g t n first second = thread (replied_memory g t first second).own (given t.frames (Int n)) []
