-- Each operation fails by its first demand that isn't met.
use Rattle.std.proofs.Common.{◌≡◌, ℕ, Bool, true, false, List, [], ◌∷◌, length, Option, Some, None, refl, sym, ap, ◌∙◌}
use Rattle.std.specs.Prelude.{◌==◌, not, nat_lt, slice_get, if◌then◌else◌}
use Rattle.nx_slot.specs.declared.op.Width.{Width}
use Rattle.nx_slot.specs.declared.op.Width.TheVariants.{Word}
use Rattle.nx_slot.specs.declared.op.SlotOp.{SlotOp}
use Rattle.nx_slot.specs.declared.op.SlotOp.TheVariants as op
use Rattle.nx_slot.specs.declared.program.SlotArray.{SlotArray}
use Rattle.nx_slot.specs.declared.program.SlotFunction.{SlotFunction}
use Rattle.nx_slot.specs.Objects.{Value, Int, Pointer, Forged, Entry, Object, object_of, has_element, element, same_width, moved}
use Rattle.nx_slot.specs.Calls.{call_inputs}
use Rattle.nx_slot.specs.Costs.{cost_of}
use Rattle.nx_slot.specs.Meaning.{Code, SlotFrame, SlotFault, NoCell, NoFit, Outside, SlotTurn, Fails, function_at, stack_need, cells_from, may_write, may_hand, operand, on_value, on_int, on_element, on_moved, on_name, on_inputs, written, stored, opened, waiting, given, made, act, fetched, step_of}
use Rattle.nx_slot.specs.Faults.{fault_of, first_of, unless, no_value, no_int, no_pointer, no_element, no_change, no_cell, no_array, no_name, no_inputs, no_end, fault, fault_in, fault_at}
use Rattle.nx_slot.specs.Laws.{FaultsAreDemands}

-- A test decides first.
test_first : (b : Bool) (t : SlotTurn) (k : SlotFault) (r : Option SlotFault) → fault_of t ≡ r → fault_of (if b then t else Fails k) ≡ first_of (unless b k) r
test_first true t k r h = h
test_first false t k r h = refl

test_last : (b : Bool) (t : SlotTurn) (k : SlotFault) → fault_of t ≡ None → fault_of (if b then t else Fails k) ≡ unless b k
test_last true t k h = h
test_last false t k h = refl

bad_first : (b : Bool) (t : SlotTurn) (k : SlotFault) (r : Option SlotFault) → fault_of t ≡ r → fault_of (if b then Fails k else t) ≡ first_of (unless (not b) k) r
bad_first true t k r h = refl
bad_first false t k r h = h

bad_last : (b : Bool) (t : SlotTurn) (k : SlotFault) → fault_of t ≡ None → fault_of (if b then Fails k else t) ≡ unless (not b) k
bad_last true t k h = refl
bad_last false t k h = h

both_fine : (b : Bool) (t u : SlotTurn) → fault_of t ≡ None → fault_of u ≡ None → fault_of (if b then t else u) ≡ None
both_fine true t u h k = h
both_fine false t u h k = k

value_first : (x : Option Value) (go : Value → SlotTurn) (r : Option SlotFault) → ((y : Value) → fault_of (go y) ≡ r) → fault_of (on_value x go) ≡ first_of (no_value x) r
value_first None go r h = refl
value_first (Some x) go r h = h x

int_first : (x : Option Value) (go : ℕ → SlotTurn) (r : Option SlotFault) → ((n : ℕ) → fault_of (go n) ≡ r) → fault_of (on_int x go) ≡ first_of (no_int x) r
int_first None go r h = refl
int_first (Some (Int n)) go r h = h n
int_first (Some (Pointer o at)) go r h = refl
int_first (Some (Forged n)) go r h = refl
int_first (Some (Entry f)) go r h = refl

int_last : (x : Option Value) (go : ℕ → SlotTurn) → ((n : ℕ) → fault_of (go n) ≡ None) → fault_of (on_int x go) ≡ no_int x
int_last None go h = refl
int_last (Some (Int n)) go h = h n
int_last (Some (Pointer o at)) go h = refl
int_last (Some (Forged n)) go h = refl
int_last (Some (Entry f)) go h = refl

element_first : (os : List Object) (w : Width) (x : Option Value) (go : ℕ → ℕ → SlotTurn) (r : Option SlotFault) → ((o at : ℕ) → x ≡ Some (Pointer o at) → fault_of (go o at) ≡ r) → fault_of (on_element os w x go) ≡ first_of (no_element os w x) r
element_first os w None go r h = refl
element_first os w (Some (Int n)) go r h = refl
element_first os w (Some (Pointer o at)) go r h = test_first (has_element (object_of os o) w at) (go o at) Outside r (h o at refl)
element_first os w (Some (Forged n)) go r h = refl
element_first os w (Some (Entry f)) go r h = refl

moved_first : (b : Bool) (x : Value) (go : Value → SlotTurn) (r : Option SlotFault) → ((y : Value) → fault_of (go y) ≡ r) → fault_of (on_moved (if b then Some x else None) go) ≡ first_of (unless b NoFit) r
moved_first true x go r h = h x
moved_first false x go r h = refl

pointer_first : (os : List Object) (w : Width) (x : Option Value) (n : ℕ) (go : Value → SlotTurn) (r : Option SlotFault) → ((y : Value) → fault_of (go y) ≡ r) → fault_of (on_value x (λ y. on_moved (moved os w y n) go)) ≡ first_of (no_pointer os w x) r
pointer_first os w None n go r h = refl
pointer_first os w (Some (Int k)) n go r h = refl
pointer_first os w (Some (Pointer o at)) n go r h = moved_first (same_width (object_of os o).width w) _ go r h
pointer_first os w (Some (Forged k)) n go r h = h _
pointer_first os w (Some (Entry f)) n go r h = refl

name_first : (x : Option ℕ) (go : ℕ → SlotTurn) (r : Option SlotFault) → ((n : ℕ) → fault_of (go n) ≡ r) → fault_of (on_name x go) ≡ first_of (no_name x) r
name_first None go r h = refl
name_first (Some n) go r h = h n

inputs_last : (x : Option (List (List ℕ))) (go : List (List ℕ) → SlotTurn) → ((inputs : List (List ℕ)) → fault_of (go inputs) ≡ None) → fault_of (on_inputs x go) ≡ no_inputs x
inputs_last None go h = refl
inputs_last (Some inputs) go h = h inputs

written_fault : (g : SlotFunction) (below : List SlotFrame) (os : List Object) (f : SlotFrame) (cost i : ℕ) (x : Value) → fault_of (written g below os f cost i x) ≡ no_cell g f i
written_fault g below os f cost i x = test_last (may_write g f.cells i) _ NoCell refl

-- What is stored through a pointer that this value is.
stored_fault : (below : List SlotFrame) (os : List Object) (f : SlotFrame) (cost : ℕ) (w : Width) (x : Option Value) (o at n : ℕ) → x ≡ Some (Pointer o at) → fault_of (stored below os f cost w o at n) ≡ no_change os x
stored_fault below os f cost w x o at n e = bad_last (object_of os o).fixed _ Outside refl ∙ sym (ap (no_change os) e)

ends : (below : List SlotFrame) (os : List Object) (cost : ℕ) (x : Option Value) → fault_of (on_value x (λ y. given below os cost y)) ≡ no_end below x
ends [] os cost None = refl
ends [] os cost (Some (Int n)) = refl
ends [] os cost (Some (Pointer o at)) = refl
ends [] os cost (Some (Forged n)) = refl
ends [] os cost (Some (Entry f)) = refl
ends (f ∷ below) os cost None = refl
ends (f ∷ below) os cost (Some x) = refl

makes : (below : List SlotFrame) (os : List Object) (f : SlotFrame) (cost k : ℕ) (a : Option SlotArray) → fault_of (made below os f cost k a) ≡ no_array f k a
makes below os f cost k None = refl
makes below os f cost k (Some a) = test_last (k == length f.arrays) _ NoFit refl

act_fault : (p : Code) (below : List SlotFrame) (os : List Object) (g : SlotFunction) (f : SlotFrame) (c : ℕ) (o : SlotOp) → fault_of (act p below os g f c o) ≡ fault p below os g f o
act_fault p below os g f c (op.Move to from) = value_first (operand f.cells from) _ _ (λ x. written_fault g below os f c to x)
act_fault p below os g f c (op.Forge to from) = int_first (slice_get f.cells from) _ _ (λ n. written_fault g below os f c to _)
act_fault p below os g f c (op.Apply o to left right) =
    int_first (slice_get f.cells left) _ _ (λ a. int_first (operand f.cells right) _ _ (λ b. written_fault g below os f c to _))
act_fault p below os g f c (op.Change o to from) = int_first (slice_get f.cells from) _ _ (λ n. written_fault g below os f c to _)
act_fault p below os g f c (op.SkipUnless test left right past) = int_first (slice_get f.cells left) _ _ (λ a. int_last (operand f.cells right) _ (λ b. refl))
act_fault p below os g f c (op.Skip past) = refl
act_fault p below os g f c (op.Back by) = refl
act_fault p below os g f c (op.Ask number first count) =
    test_first (may_hand g f.cells first count) _ NoCell _
    (bad_first (number == 0) _ NoFit _ (inputs_last (call_inputs (p.rows number) os (cells_from f.cells first count)) _ (λ inputs. refl)))
act_fault p below os g f c (op.Go h first count) =
    test_first (may_hand g f.cells first count) _ NoCell _
    (test_last (length (cells_from f.cells first count) == (function_at p h).params) _ NoFit
    (both_fine (nat_lt p.stack (stack_need p (opened h (cells_from f.cells first count) ∷ waiting f first ∷ below))) _ _ refl refl))
act_fault p below os g f c (op.Give value) = ends below _ c (operand f.cells value)
act_fault p below os g f c (op.Make k) = makes below os f c k (slice_get g.arrays k)
act_fault p below os g f c (op.Local to k) = name_first (slice_get f.arrays k) _ _ (λ n. written_fault g below os f c to _)
act_fault p below os g f c (op.Static to o) = written_fault g below os f c to _
act_fault p below os g f c (op.Entry to h) = written_fault g below os f c to _
act_fault p below os g f c (op.Fetch to o) = element_first os Word (Some (Pointer o.name 0)) (λ q at. written g below os f c to (Int (element Word (object_of os q) at))) _ (λ q at e. written_fault g below os f c to _)
act_fault p below os g f c (op.Keep o from) =
    element_first os Word (Some (Pointer o.name 0)) (λ q at. on_int (slice_get f.cells from) (λ n. stored below os f c Word q at n)) _ (λ q at e. int_first (slice_get f.cells from) _ _ (λ n. stored_fault below os f c Word (Some (Pointer o.name 0)) q at n e))
act_fault p below os g f c (op.Index to base index w) =
    int_first (operand f.cells index) _ _ (λ n. pointer_first os w (slice_get f.cells base) n _ _ (λ y. written_fault g below os f c to y))
act_fault p below os g f c (op.Load to place w) = element_first os w (slice_get f.cells place) _ _ (λ q at e. written_fault g below os f c to _)
act_fault p below os g f c (op.Store place value w) =
    element_first os w (slice_get f.cells place) _ _ (λ q at e. int_first (slice_get f.cells value) _ _ (λ n. stored_fault below os f c w (slice_get f.cells place) q at n e))

fetched_fault : (p : Code) (below : List SlotFrame) (os : List Object) (g : SlotFunction) (f : SlotFrame) (o : Option SlotOp) → fault_of (fetched p below os g f o) ≡ fault_in p below os g f o
fetched_fault p below os g f None = refl
fetched_fault p below os g f (Some o) = act_fault p below os g f (cost_of g o) o

frames_fault : (p : Code) (os : List Object) (frames : List SlotFrame) → fault_of (step_of p os frames) ≡ fault_at p os frames
frames_fault p os [] = refl
frames_fault p os (f ∷ below) = fetched_fault p below os (function_at p f.function) f (slice_get (function_at p f.function).ops f.place)

pub faults : FaultsAreDemands
faults p s = frames_fault p s.objects s.frames
