-- Slot code follows `++` and `--`.
use Rattle.std.proofs.Common.{◌≡◌, ℕ, suc, ◌+◌, ◌%◌, ◌<◌, Bool, true, false, List, [], ◌∷◌, ◌++◌, length, Some, refl, sym, ◌∙◌, subst, arith, length-append}
use Rattle.std.specs.Prelude.{slice_get, slice_set, Result, Ok, Err}
use Rattle.nx_base.specs.Arithmetic.{alu_of}
use Rattle.nx_base.specs.declared.operations.AluOp.TheVariants as alu
use Rattle.nx_checked.specs.declared.checked.Cell.{Cell}
use Rattle.nx_checked.specs.declared.checked.Element.{Element}
use Rattle.nx_checked.specs.declared.checked.Scalar.{Scalar}
use Rattle.nx_checked.specs.declared.checked.Scalar.TheVariants as scalar
use Rattle.nx_checked.specs.declared.checked.StepValue.{StepValue}
use Rattle.nx_checked.specs.declared.checked.StepValue.TheVariants.{New, Old}
use Rattle.nx_cobjects.specs.declared.value.Value.{Value}
use Rattle.nx_cobjects.specs.declared.value.Value.TheVariants as value
use Rattle.nx_cobjects.specs.declared.value.WrongKind.{WrongKind}
use Rattle.nx_cobjects.specs.Values.{◌>>=◌, operated}
use Rattle.nx_cobjects.specs.Memory.{Memory, store, moved}
use Rattle.nx_cmean.specs.Items.{Item, Bump, Shift}
use Rattle.nx_cmean.specs.Meaning.{Frame, Changed, raised, stepping, assigned, then_value, stored}
use Rattle.nx_slot.specs.declared.op.Operand.TheVariants as operand
use Rattle.nx_slot.specs.declared.op.Unary.TheVariants as unary_op
use Rattle.nx_slot.specs.declared.op.SlotOp.TheVariants as op
use Rattle.nx_slot.specs.Objects.{object_of, has_element}
use Rattle.nx_slot.specs.Objects as slot
use Rattle.nx_slot.specs.Meaning.{Code, SlotFrame, SlotState, put}
use Rattle.nx_lower.specs.Shown.{counts_of, name_of, shown, width_of, objects_of}
use Rattle.nx_lower.specs.Code.{Source, counts, binary_of, write_code, raise_code, stepping_operator, step_number}
use Rattle.nx_lower.specs.Sound.{Stage, IsCell}
use Rattle.nx_lower.proofs.Objects.{stores as stores_alike}
use Rattle.nx_lower.proofs.Cells.{Top, Plain, Tops, AreAlike, alike_push, alike_pop, alike_top}
use Rattle.nx_lower.proofs.Steps.{HasAt, has_front, has_back, Leads, leads_on, ops_in, limit, at_place, May, moves, applies, changes, stores, indexes}
use Rattle.nx_lower.proofs.Idle.{weight}
use Rattle.nx_lower.proofs.Lies.{Body, item_lies, Lies}
use Rattle.nx_lower.proofs.Operands.{operated_same, low_same, moved_same}
use Rattle.nx_lower.proofs.Acts.{plain_alike, c_frame, stage_of, here, DoesTo}
use Rattle.nx_lower.proofs.Storing.{write_goes, lay_goes, RaisedTo}

operator_same : (up : Bool) → stepping_operator up ≡ stepping up
operator_same true = refl
operator_same false = refl

less_one : alu_of alu.Sub 0 1 ≡ 4294967295
unfolding alu_of
less_one = refl

module _ (s : Source) (p : Code) (f back exit from arrays made wants : ℕ) (names : List ℕ) (below : List SlotFrame) where
  abbrev ItemLies : Item → List Item → ℕ → Stage → ℕ → Top → ℕ → Type 0
  ItemLies i k pc z d top o = item_lies s p f back exit i (Body k) (λ back exit pc z d top o. Lies s p f back exit k pc z d top o) pc z d top o

  abbrev frame : List Value → List Value → List Item → Frame
  frame locals vs k = c_frame s p f back exit from arrays made wants names below locals vs k

  abbrev stage : List Value → Stage
  stage locals = stage_of s p f back exit from arrays made wants names below locals

  abbrev at : ℕ → List slot.Value → Memory → SlotState
  at pc cells m = here s p f back exit from arrays made wants names below pc cells m

  abbrev Does : Result Changed WrongKind → SlotState → ℕ → ℕ → ℕ → Type 0
  Does r start o budget room = DoesTo s p f back exit from arrays made wants names below r start o budget room

  abbrev SteppedTo : Memory → List Value → List Value → Result Value WrongKind → SlotState → ℕ → Type 0
  SteppedTo m locals rest new start place = RaisedTo s p f back exit from arrays made wants names below m locals rest new start place

  may_top : (locals vs : List Value) (cells : List slot.Value) (v : Value) → AreAlike (counts s) locals (v ∷ vs) cells → length locals + length vs < limit p f → May p f wants names below cells (length locals + length vs)
  may_top locals vs cells v a h = let r = a.room in record { near = omega (arith, r); small = h }

  -- One more or less, in the cell after these values.
  step_number_goes : (up : Bool) (m : Memory) (locals rest : List Value) (old : ℕ) (cells : List slot.Value) (pc i : ℕ) → slice_get cells i ≡ Some (slot.Int old) → May p f wants names below cells (length locals + length rest)
      → slice_get (ops_in p f) pc ≡ Some (op.Apply (binary_of (stepping_operator up)) (length locals + length rest) i (operand.Number 1))
      → Leads p (at pc cells m) (at (pc + 1) (put cells (length locals + length rest) (slot.Int (operated (stepping up) old 1))) m) 11 1
  step_number_goes up m locals rest old cells pc i read may code =
      let to = length locals + length rest in
      let q = stepping up in
      let code' = subst (λ q. slice_get (ops_in p f) pc ≡ Some (op.Apply (binary_of q) to i (operand.Number 1))) (operator_same up) code in
      subst (λ n. Leads p (at pc cells m) (at (pc + 1) (put cells to (slot.Int n)) m) 11 1) (operated_same q old 1)
      (applies p f wants names below pc cells (objects_of m) (binary_of q) to i (operand.Number 1) old 1 code' read refl may)

  step_pointer_goes : (new : Result Value WrongKind) (t : Element) (n : ℕ) (m : Memory) (locals rest : List Value) (old : Value) (cells : List slot.Value) (pc i : ℕ) → moved m t old n ≡ new → counts_of m.group ≡ counts s → slice_get cells i ≡ Some (shown (counts s) old) → May p f wants names below cells (length locals + length rest)
      → ((x : Value) → AreAlike (counts s) locals (x ∷ rest) (put cells (length locals + length rest) (shown (counts s) x))) → slice_get (ops_in p f) pc ≡ Some (op.Index (length locals + length rest) i (operand.Number n) (width_of t)) → SteppedTo m locals rest new (at pc cells m) (pc + 1)
  step_pointer_goes (Err kind) t n m locals rest old cells pc i q same read may grow code = tt
  step_pointer_goes (Ok new) t n m locals rest old cells pc i q same read may grow code =
      let to = length locals + length rest in
      record {
        cells = put cells to (shown (counts s) new);
        cost = 11;
        turns = 1;
        cheap = omega arith;
        leads = indexes p f wants names below pc cells (objects_of m) to i (operand.Number n) (width_of t) (shown (counts s) old) (shown (counts s) new) n code read refl (moved_same m (counts s) t old new n same q) may;
        alike = grow new;
      }

  step_goes : (t : Scalar) (up : Bool) (m : Memory) (locals rest : List Value) (old : Value) (cells : List slot.Value) (pc i : ℕ) → counts_of m.group ≡ counts s → slice_get cells i ≡ Some (shown (counts s) old) → May p f wants names below cells (length locals + length rest)
      → ((x : Value) → AreAlike (counts s) locals (x ∷ rest) (put cells (length locals + length rest) (shown (counts s) x)))
      → HasAt (ops_in p f) pc (raise_code (stepping_operator up) t (length locals + length rest) i (operand.Number (step_number up t)))
      → SteppedTo m locals rest (raised m (stepping up) t old (value.Int 1)) (at pc cells m) (pc + length (raise_code (stepping_operator up) t (length locals + length rest) i (operand.Number (step_number up t))))
  step_goes scalar.Int up m locals rest (value.Int old) cells pc i same read may grow has =
      let n = operated (stepping up) old 1 in
      record {
        cells = put cells (length locals + length rest) (slot.Int n);
        cost = 11;
        turns = 1;
        cheap = omega arith;
        leads = step_number_goes up m locals rest old cells pc i read may has.0;
        alike = grow (value.Int n);
      }
  step_goes scalar.Int up m locals rest (value.Point b at) cells pc i same read may grow has = tt
  step_goes scalar.Int up m locals rest (value.Forged n) cells pc i same read may grow has = tt
  step_goes scalar.Int up m locals rest (value.Entry g) cells pc i same read may grow has = tt
  step_goes scalar.Char up m locals rest (value.Int old) cells pc i same read may grow has =
      let to = length locals + length rest in let n = operated (stepping up) old 1 in
      let cells1 = put cells to (slot.Int n) in
      let a1 = grow (value.Int n) in
      let small = may.small in
      let x : pc + 1 + 1 ≡ pc + 2 = omega arith in
      let two = subst (λ n. Leads p (at (pc + 1) cells1 m) (at (pc + 1 + 1) (put cells1 to (slot.Int n)) m) 7 1) (low_same n)
      (changes p f wants names below (pc + 1) cells1 (objects_of m) unary_op.LowByte to to n has.1.0 a1.temps.0 (may_top locals rest cells1 (value.Int n) a1 small)) in
      record {
        cells = put cells1 to (slot.Int (n % 256));
        cost = 11 + 7;
        turns = 1 + 1;
        cheap = omega arith;
        leads = subst (λ c. Leads p (at pc cells m) (at c (put cells1 to (slot.Int (n % 256))) m) (11 + 7) (1 + 1)) x (leads_on p (at pc cells m) (at (pc + 1) cells1 m) (at (pc + 1 + 1) (put cells1 to (slot.Int (n % 256))) m) 11 7 1 1 (step_number_goes up m locals rest old cells pc i read may has.0) two);
        alike = alike_top (counts s) locals rest cells1 (value.Int n) (value.Int (n % 256)) a1;
      }
  step_goes scalar.Char up m locals rest (value.Point b at) cells pc i same read may grow has = tt
  step_goes scalar.Char up m locals rest (value.Forged n) cells pc i same read may grow has = tt
  step_goes scalar.Char up m locals rest (value.Entry g) cells pc i same read may grow has = tt
  step_goes (scalar.Pointer t) true m locals rest old cells pc i same read may grow has = step_pointer_goes (moved m t old 1) t 1 m locals rest old cells pc i refl same read may grow has.0
  step_goes (scalar.Pointer t) false m locals rest old cells pc i same read may grow has =
      subst (λ n. SteppedTo m locals rest (moved m t old n) (at pc cells m) (pc + 1)) (sym less_one) (step_pointer_goes (moved m t old 4294967295) t 4294967295 m locals rest old cells pc i refl same read may grow has.0)

  -- The new value comes to the variable, and it or the old one is the value of the expression.
  new_writes : (new : Result Value WrongKind) (x : Cell) (m : Memory) (locals vs old : List Value) (k : List Item) (start : SlotState) (pc o : ℕ) → SteppedTo m locals vs new start pc → counts_of m.group ≡ counts s → IsCell s (stage locals) x → length locals + length vs < limit p f
      → slice_get (ops_in p f) pc ≡ Some (write_code s x (length locals + length vs)) → Lies s p f back exit k (pc + 1) (stage locals) (suc (length vs)) Plain (o + 16) → Does (new >>= (λ v. assigned m (frame locals old k) x v v vs)) start o 41 (weight k)
  new_writes (Err kind) x m locals vs old k start pc o r same known small code lies = tt
  new_writes (Ok new) x m locals vs old k start pc o r same known small code lies =
      write_goes s p f back exit from arrays made wants names below x new new m locals vs old k start r.cells pc r.cost r.turns o (length locals + length vs) same known r.alike.temps.0 code (omega (arith, small)) r.alike (let cheap = r.cheap in omega (arith, cheap)) r.leads lies

  old_writes : (new : Result Value WrongKind) (x : Cell) (m : Memory) (locals vs : List Value) (u : Value) (old : List Value) (k : List Item) (start : SlotState) (pc o : ℕ) → SteppedTo m locals (u ∷ vs) new start pc → counts_of m.group ≡ counts s → IsCell s (stage locals) x → length locals + suc (length vs) < limit p f
      → slice_get (ops_in p f) pc ≡ Some (write_code s x (length locals + suc (length vs))) → Lies s p f back exit k (pc + 1) (stage locals) (suc (length vs)) Plain (o + 16) → Does (new >>= (λ v. assigned m (frame locals old k) x v u vs)) start o 41 (weight k)
  old_writes (Err kind) x m locals vs u old k start pc o r same known small code lies = tt
  old_writes (Ok new) x m locals vs u old k start pc o r same known small code lies =
      write_goes s p f back exit from arrays made wants names below x new u m locals vs old k start r.cells pc r.cost r.turns o (length locals + suc (length vs)) same known r.alike.temps.0 code (omega (arith, small)) (alike_pop (counts s) locals (u ∷ vs) r.cells new r.alike) (let cheap = r.cheap in omega (arith, cheap)) r.leads lies

  pub bump_does : (v : StepValue) (up : Bool) (t : Scalar) (x : Cell) (m : Memory) (locals vs : List Value) (old : Value) (k : List Item) (cells : List slot.Value) (pc o : ℕ) (top : Top) → counts_of m.group ≡ counts s → Tops (counts s) top locals (old ∷ vs) cells
      → ItemLies (Bump v up t x) k pc (stage locals) (suc (length vs)) top o → Does (stored m (frame locals (old ∷ vs) k) (Bump v up t x)) (at pc cells m) o 41 (weight k)
  bump_does New up t x m locals vs old k cells pc o top same tops l =
      let h = plain_alike s top locals (old ∷ vs) cells _ l tops in let g = h.1 in let small = g.1 in
      let i = length locals + length vs in
      let less : i < limit p f = omega (arith, small) in
      let code = raise_code (stepping_operator up) t i i (operand.Number (step_number up t)) in let last = write_code s x i in
      let r = step_goes t up m locals vs old cells pc i same h.0.temps.0 (may_top locals vs cells old h.0 less) (λ y. alike_top (counts s) locals vs cells old y h.0) (has_front (ops_in p f) pc code (last ∷ []) g.0) in
      let len : pc + length (code ++ last ∷ []) ≡ pc + length code + 1 = omega (arith, length-append code (last ∷ [])) in
      new_writes (raised m (stepping up) t old (value.Int 1)) x m locals vs (old ∷ vs) k (at pc cells m) (pc + length code) o r same g.2.0 less (has_back (ops_in p f) pc code (last ∷ []) g.0).0
      (subst (λ n. Lies s p f back exit k n (stage locals) (suc (length vs)) Plain (o + 16)) len g.2.1)
  bump_does Old up t x m locals vs old k cells pc o top same tops l =
      let h = plain_alike s top locals (old ∷ vs) cells _ l tops in let g = h.1 in let small = g.1 in
      let i = length locals + length vs in let j = length locals + suc (length vs) in
      let code = raise_code (stepping_operator up) t j i (operand.Number (step_number up t)) in let last = write_code s x j in
      let room = h.0.room in
      let r = step_goes t up m locals (old ∷ vs) old cells pc i same h.0.temps.0 (record { near = room; small = small }) (λ y. alike_push (counts s) locals (old ∷ vs) cells y h.0) (has_front (ops_in p f) pc code (last ∷ []) g.0) in
      let len : pc + length (code ++ last ∷ []) ≡ pc + length code + 1 = omega (arith, length-append code (last ∷ [])) in
      old_writes (raised m (stepping up) t old (value.Int 1)) x m locals vs old (old ∷ vs) k (at pc cells m) (pc + length code) o r same g.2.0 small (has_back (ops_in p f) pc code (last ∷ []) g.0).0
      (subst (λ n. Lies s p f back exit k n (stage locals) (suc (length vs)) Plain (o + 16)) len g.2.1)

  -- The old value of an element is left, and the new one stored.
  shift_old : (r : Result Memory WrongKind) (a : Value) (w : Element) (m : Memory) (locals vs : List Value) (old n : ℕ) (k : List Item) (start : SlotState) (cells : List slot.Value) (pc o : ℕ) → store m w a n ≡ r → counts_of m.group ≡ counts s → AreAlike (counts s) locals (value.Int n ∷ value.Int old ∷ a ∷ vs) cells
      → HasAt (ops_in p f) pc (op.Store (length locals + length vs) (length locals + suc (suc (length vs))) (width_of w) ∷ op.Move (length locals + length vs) (operand.Cell (length locals + suc (length vs))) ∷ []) → length locals + length vs < limit p f → Leads p start (at pc cells m) 11 1
      → Lies s p f back exit k (pc + 2) (stage locals) (suc (length vs)) Plain (o + 16) → Does (then_value (frame locals (value.Int old ∷ a ∷ vs) k) vs old r) start o 41 (weight k)
  shift_old (Err kind) a w m locals vs old n k start cells pc o e same alike has small leads lies = tt
  shift_old (Ok new) (value.Int x) w m locals vs old n k start cells pc o e same alike has small leads lies = absurd cc
  shift_old (Ok new) (value.Forged x) w m locals vs old n k start cells pc o e same alike has small leads lies = absurd cc
  shift_old (Ok new) (value.Entry x) w m locals vs old n k start cells pc o e same alike has small leads lies = absurd cc
  shift_old (Ok new) (value.Point b place) w m locals vs old n k start cells pc o e same alike has small leads lies =
      let i = length locals + length vs in let j = length locals + suc (length vs) in let l = length locals + suc (suc (length vs)) in
      let u = stores_alike m w b place n new e in
      let there = subst (λ c. has_element (object_of (objects_of m) (name_of c b)) (width_of w) place ≡ true) same u.there in
      let free = subst (λ c. (object_of (objects_of m) (name_of c b)).fixed ≡ false) same u.free in
      let objects = subst (λ c. slice_set (objects_of m) (name_of c b) (slot.with_element (width_of w) (object_of (objects_of m) (name_of c b)) place n) ≡ objects_of new) same u.objects in
      let one = subst (λ os. Leads p (at pc cells m) (at_place p f wants names below (pc + 1) cells os) 7 1) objects
      (stores p f wants names below pc cells (objects_of m) i l (width_of w) (name_of (counts s) b) place n has.0 alike.temps.1.1.0 there free alike.temps.0) in
      let r = alike_pop (counts s) locals (value.Point b place ∷ vs) cells (value.Int old) (alike_pop (counts s) locals (value.Int old ∷ value.Point b place ∷ vs) cells (value.Int n) alike) in
      let x : pc + 1 + 1 ≡ pc + 2 = omega arith in
      let two = subst (λ c. Leads p (at (pc + 1) cells new) (at c (put cells i (slot.Int old)) new) 6 1) x
      (moves p f wants names below (pc + 1) cells (objects_of new) i (operand.Cell j) (slot.Int old) has.1.0 alike.temps.1.0 (may_top locals vs cells (value.Point b place) r small)) in
      let end = at (pc + 2) (put cells i (slot.Int old)) new in
      record {
        cells = put cells i (slot.Int old);
        place = pc + 2;
        top = Plain;
        cost = 11 + (7 + 6);
        owed = o + 16;
        turns = 1 + (1 + 1);
        moves_on = λ z. absurd (omega (arith, z));
        called = refl;
        leads = leads_on p start (at pc cells m) end 11 (7 + 6) 1 (1 + 1) leads (leads_on p (at pc cells m) (at (pc + 1) cells new) end 7 6 1 1 one two);
        same = u.counts ∙ same;
        alike = alike_top (counts s) locals vs cells (value.Point b place) (value.Int old) r;
        lies = lies;
        paid = omega arith;
      }

  pub shift_does : (v : StepValue) (up : Bool) (w : Element) (m : Memory) (locals vs : List Value) (a old : Value) (k : List Item) (cells : List slot.Value) (pc o : ℕ) (top : Top) → counts_of m.group ≡ counts s → Tops (counts s) top locals (old ∷ a ∷ vs) cells
      → ItemLies (Shift v up w) k pc (stage locals) (suc (suc (length vs))) top o → Does (stored m (frame locals (old ∷ a ∷ vs) k) (Shift v up w)) (at pc cells m) o 41 (weight k)
  shift_does New up w m locals vs a (value.Int old) k cells pc o top same tops l =
      let h = plain_alike s top locals (value.Int old ∷ a ∷ vs) cells _ l tops in let g = h.1 in
      let j = length locals + suc (length vs) in let n = operated (stepping up) old 1 in
      let small : j < limit p f = let b = g.1 in omega (arith, b) in
      let one = step_number_goes up m locals (a ∷ vs) old cells pc j h.0.temps.0 (may_top locals (a ∷ vs) cells (value.Int old) h.0 small) g.0.0 in
      let x : pc + 3 ≡ pc + 1 + 2 = omega arith in
      lay_goes s p f back exit from arrays made wants names below (store m w a n) w m locals vs (value.Int old ∷ a ∷ vs) a n k (at pc cells m) (put cells j (slot.Int n)) (pc + 1) 11 1 o refl same (alike_top (counts s) locals (a ∷ vs) cells (value.Int old) (value.Int n) h.0) g.0.1 small (omega arith) one
      (subst (λ n. Lies s p f back exit k n (stage locals) (suc (length vs)) Plain (o + 16)) x g.2)
  shift_does Old up w m locals vs a (value.Int old) k cells pc o top same tops l =
      let h = plain_alike s top locals (value.Int old ∷ a ∷ vs) cells _ l tops in let g = h.1 in
      let j = length locals + suc (length vs) in let n = operated (stepping up) old 1 in
      let room = h.0.room in let small = g.1 in
      let one = step_number_goes up m locals (value.Int old ∷ a ∷ vs) old cells pc j h.0.temps.0 (record { near = room; small = small }) g.0.0 in
      let x : pc + 3 ≡ pc + 1 + 2 = omega arith in
      shift_old (store m w a n) a w m locals vs old n k (at pc cells m) (put cells (length locals + suc (suc (length vs))) (slot.Int n)) (pc + 1) o refl same (alike_push (counts s) locals (value.Int old ∷ a ∷ vs) cells (value.Int n) h.0) g.0.1 (omega (arith, small)) one
      (subst (λ n. Lies s p f back exit k n (stage locals) (suc (length vs)) Plain (o + 16)) x g.2)
  shift_does v up w m locals vs a (value.Point b at) k cells pc o top same tops l = tt
  shift_does v up w m locals vs a (value.Forged n) k cells pc o top same tops l = tt
  shift_does v up w m locals vs a (value.Entry g) k cells pc o top same tops l = tt
