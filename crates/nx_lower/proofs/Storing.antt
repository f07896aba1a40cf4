-- Slot code follows assignments, and the reads that stand before compound ones.
use Rattle.std.proofs.Common.{◌≡◌, ℕ, suc, ◌+◌, ◌%◌, ◌<◌, ◌≤◌, true, false, List, [], ◌∷◌, ◌++◌, length, Some, refl, sym, ap, ◌∙◌, subst, arith, length-append, append_assoc}
use Rattle.std.specs.Prelude.{slice_get, slice_set, Result, Ok, Err}
use Rattle.std.proofs.lemmas.List.{length-set}
use Rattle.nx_checked.specs.declared.checked.Cell.{Cell}
use Rattle.nx_checked.specs.declared.checked.Cell.TheVariants as cell
use Rattle.nx_checked.specs.declared.checked.Element.{Element}
use Rattle.nx_checked.specs.declared.checked.Element.TheVariants as element
use Rattle.nx_base.specs.Arithmetic.{alu_of}
use Rattle.nx_base.specs.declared.operations.AluOp.TheVariants as alu
use Rattle.nx_checked.specs.declared.checked.IntOperator.{IntOperator}
use Rattle.nx_checked.specs.declared.checked.IntOperator.TheVariants as int
use Rattle.nx_checked.specs.declared.checked.Scalar.{Scalar}
use Rattle.nx_checked.specs.declared.checked.Scalar.TheVariants as scalar
use Rattle.nx_cobjects.specs.declared.value.Value.{Value}
use Rattle.nx_cobjects.specs.declared.value.Value.TheVariants as value
use Rattle.nx_cobjects.specs.declared.value.WrongKind.{WrongKind}
use Rattle.nx_cobjects.specs.Values.{◌>>=◌, cut, operated}
use Rattle.nx_cobjects.specs.Memory.{Memory, memory, load, store, moved, group_with}
use Rattle.nx_cmean.specs.Items.{Item, Write, Raise, Fetch, FetchAt, Lay, Lift}
use Rattle.nx_cmean.specs.Meaning.{Frame, Changed, changed, raised, assigned, put_value, unchanged, then_value, stored}
use Rattle.nx_slot.specs.declared.op.Operand.TheVariants as operand
use Rattle.nx_slot.specs.declared.op.Unary.TheVariants as unary_op
use Rattle.nx_slot.specs.declared.op.SlotOp.TheVariants as op
use Rattle.nx_slot.specs.Objects.{object_of, has_element}
use Rattle.nx_slot.specs.Objects as slot
use Rattle.nx_slot.specs.Meaning.{Code, SlotFrame, SlotState, put}
use Rattle.nx_lower.specs.Shown.{counts_of, name_of, shown, width_of, objects_of}
use Rattle.nx_lower.specs.Code.{Source, counts, binary_of, scalar_object, write_code, cut_code, raise_code, negate_code}
use Rattle.nx_lower.specs.Sound.{Stage, IsCell}
use Rattle.nx_lower.proofs.Objects.{variables}
use Rattle.nx_lower.proofs.Objects.{stores as stores_alike}
use Rattle.nx_lower.proofs.Cells.{Top, Plain, Tops, AreAlike, right, alike_pop, alike_top, alike_write}
use Rattle.nx_lower.proofs.Steps.{HasAt, has_front, has_back, Leads, leads_here, leads_on, ops_in, limit, at_place, May, moves, applies, changes, keeps, stores, indexes}
use Rattle.nx_lower.proofs.Idle.{weight}
use Rattle.nx_lower.proofs.Lies.{Body, item_lies, Lies}
use Rattle.nx_lower.proofs.Operands.{operated_same, minus_same, low_same, moved_same}
use Rattle.nx_lower.proofs.Acts.{plain_alike, rest_alike, c_frame, stage_of, here, Did, DoesTo, loaded_does, right_number}

module _ (s : Source) (p : Code) (f back exit from arrays made wants : ℕ) (names : List ℕ) (below : List SlotFrame) where
  abbrev ItemLies : Item → List Item → ℕ → Stage → ℕ → Top → ℕ → Type 0
  ItemLies i k pc z d top o = item_lies s p f back exit i (Body k) (λ back exit pc z d top o. Lies s p f back exit k pc z d top o) pc z d top o

  abbrev frame : List Value → List Value → List Item → Frame
  frame locals vs k = c_frame s p f back exit from arrays made wants names below locals vs k

  abbrev stage : List Value → Stage
  stage locals = stage_of s p f back exit from arrays made wants names below locals

  abbrev at : ℕ → List slot.Value → Memory → SlotState
  at pc cells m = here s p f back exit from arrays made wants names below pc cells m

  abbrev Done : Changed → SlotState → ℕ → ℕ → ℕ → Type 0
  Done ch start o budget room = Did s p f back exit from arrays made wants names below ch start o budget room

  abbrev Does : Result Changed WrongKind → SlotState → ℕ → ℕ → ℕ → Type 0
  Does r start o budget room = DoesTo s p f back exit from arrays made wants names below r start o budget room

  may_top : (locals vs : List Value) (cells : List slot.Value) (v : Value) → AreAlike (counts s) locals (v ∷ vs) cells → length locals + length vs < limit p f → May p f wants names below cells (length locals + length vs)
  may_top locals vs cells v a h = let r = a.room in record { near = omega (arith, r); small = h }

  -- A variable gets the value of a cell.
  pub write_goes : (x : Cell) (v u : Value) (m : Memory) (locals rest old : List Value) (k : List Item) (start : SlotState) (cells : List slot.Value) (pc cost turns o j : ℕ) → counts_of m.group ≡ counts s → IsCell s (stage locals) x → slice_get cells j ≡ Some (shown (counts s) v)
      → slice_get (ops_in p f) pc ≡ Some (write_code s x j) → length locals < limit p f → AreAlike (counts s) locals (u ∷ rest) cells → cost ≤ 19 → Leads p start (at pc cells m) cost turns → Lies s p f back exit k (pc + 1) (stage locals) (suc (length rest)) Plain (o + 16)
      → Does (assigned m (frame locals old k) x v u rest) start o 41 (weight k)
  write_goes (cell.Local x) v u m locals rest old k start cells pc cost turns o j same known at_j code small a cheap leads lies =
      let r = a.room in
      let one = moves p f wants names below pc cells (objects_of m) x (operand.Cell j) (shown (counts s) v) code at_j (record { near = omega (arith, r, known); small = omega (arith, small, known) }) in
      record {
        cells = put cells x (shown (counts s) v);
        place = pc + 1;
        top = Plain;
        cost = cost + 6;
        owed = o + 16;
        turns = turns + 1;
        moves_on = λ z. absurd (omega (arith, z));
        called = refl;
        leads = leads_on p start (at pc cells m) (at (pc + 1) (put cells x (shown (counts s) v)) m) cost 6 turns 1 leads one;
        same = same;
        alike = alike_write (counts s) locals (u ∷ rest) cells x v known a;
        lies = subst (λ n. let z : Stage = record { cells = n; made = made } in Lies s p f back exit k (pc + 1) z (suc (length rest)) Plain (o + 16)) (sym (length-set locals x v)) lies;
        paid = omega (arith, cheap);
      }
  write_goes (cell.Global x) (value.Int n) u m locals rest old k start cells pc cost turns o j same known at_j code small a cheap leads lies =
      let known' : x < length m.group.scalars = let e = ap (λ c. c.scalars) same in omega (arith, e, known) in
      let h = variables m x n known' in
      let new = memory (group_with m.group x n) m.own in
      let one = subst (λ os. Leads p (at pc cells m) (at_place p f wants names below (pc + 1) cells os) 5 1) h.writes
      (keeps p f wants names below pc cells (objects_of m) (scalar_object s x) j n code h.there h.free at_j) in
      record {
        cells = cells;
        place = pc + 1;
        top = Plain;
        cost = cost + 5;
        owed = o + 16;
        turns = turns + 1;
        moves_on = λ z. absurd (omega (arith, z));
        called = refl;
        leads = leads_on p start (at pc cells m) (at (pc + 1) cells new) cost 5 turns 1 leads one;
        same = ap (λ n. let c : _ = record { scalars = n; arrays = length m.group.arrays; texts = length m.group.texts } in c) (length-set m.group.scalars x n) ∙ same;
        alike = a;
        lies = lies;
        paid = omega (arith, cheap);
      }
  write_goes (cell.Global x) (value.Point b at) u m locals rest old k start cells pc cost turns o j same known at_j code small a cheap leads lies = tt
  write_goes (cell.Global x) (value.Forged n) u m locals rest old k start cells pc cost turns o j same known at_j code small a cheap leads lies = tt
  write_goes (cell.Global x) (value.Entry g) u m locals rest old k start cells pc cost turns o j same known at_j code small a cheap leads lies = tt

  pub write_does : (t : Scalar) (x : Cell) (m : Memory) (locals vs : List Value) (v : Value) (k : List Item) (cells : List slot.Value) (pc o : ℕ) (top : Top) → counts_of m.group ≡ counts s → Tops (counts s) top locals (v ∷ vs) cells
      → ItemLies (Write t x) k pc (stage locals) (suc (length vs)) top o → Does (stored m (frame locals (v ∷ vs) k) (Write t x)) (at pc cells m) o 41 (weight k)
  write_does scalar.Int x m locals vs v k cells pc o top same a l =
      let q = plain_alike s top locals (v ∷ vs) cells _ l a in let h = q.1 in let small = h.1 in
      write_goes x v v m locals vs (v ∷ vs) k (at pc cells m) cells pc 0 0 o (length locals + length vs) same h.2.0 q.0.temps.0 h.0.0 (omega (arith, small)) q.0 (omega arith) (leads_here p (at pc cells m)) h.2.1
  write_does (scalar.Pointer e) x m locals vs v k cells pc o top same a l =
      let q = plain_alike s top locals (v ∷ vs) cells _ l a in let h = q.1 in let small = h.1 in
      write_goes x v v m locals vs (v ∷ vs) k (at pc cells m) cells pc 0 0 o (length locals + length vs) same h.2.0 q.0.temps.0 h.0.0 (omega (arith, small)) q.0 (omega arith) (leads_here p (at pc cells m)) h.2.1
  write_does scalar.Char x m locals vs (value.Int y) k cells pc o top same a l =
      let q = plain_alike s top locals (value.Int y ∷ vs) cells _ l a in let h = q.1 in let small = h.1 in
      let i = length locals + length vs in let n = y % 256 in
      let a1 = alike_top (counts s) locals vs cells (value.Int y) (value.Int n) q.0 in
      let e : pc + 2 ≡ pc + 1 + 1 = omega arith in
      write_goes x (value.Int n) (value.Int n) m locals vs (value.Int y ∷ vs) k (at pc cells m) (put cells i (slot.Int n)) (pc + 1) 7 1 o i same h.2.0 a1.temps.0 h.0.1.0 (omega (arith, small)) a1 (omega arith)
      (subst (λ n. Leads p (at pc cells m) (at (pc + 1) (put cells i (slot.Int n)) m) 7 1) (low_same y)
      (changes p f wants names below pc cells (objects_of m) unary_op.LowByte i i y h.0.0 q.0.temps.0 (may_top locals vs cells (value.Int y) q.0 small)))
      (subst (λ n. Lies s p f back exit k n (stage locals) (suc (length vs)) Plain (o + 16)) e h.2.1)
  write_does scalar.Char x m locals vs (value.Point b at) k cells pc o top same a l = tt
  write_does scalar.Char x m locals vs (value.Forged n) k cells pc o top same a l = tt
  write_does scalar.Char x m locals vs (value.Entry g) k cells pc o top same a l = tt

  -- An element is read, and its pointer stays below it.
  pub fetch_does : (w : Element) (m : Memory) (locals vs : List Value) (v : Value) (k : List Item) (cells : List slot.Value) (pc o : ℕ) (top : Top) → counts_of m.group ≡ counts s → Tops (counts s) top locals (v ∷ vs) cells
      → ItemLies (Fetch w) k pc (stage locals) (suc (length vs)) top o → Does (stored m (frame locals (v ∷ vs) k) (Fetch w)) (at pc cells m) o 41 (weight k)
  fetch_does w m locals vs v k cells pc o top same a l =
      let q = plain_alike s top locals (v ∷ vs) cells _ l a in let h = q.1 in
      loaded_does s p f back exit from arrays made wants names below (load m w v) v m w locals (v ∷ vs) (v ∷ vs) k (at pc cells m) cells pc 0 0 o (length locals + length vs) refl same q.0 h.1 q.0.temps.0 h.0 (omega arith) (leads_here p (at pc cells m)) h.2

  fetch_moved : (r : Result Value WrongKind) (w : Element) (m : Memory) (locals vs : List Value) (x : Value) (n : ℕ) (k : List Item) (cells : List slot.Value) (pc o : ℕ) (top : Top) → moved m w x n ≡ r → counts_of m.group ≡ counts s → Tops (counts s) top locals (value.Int n ∷ x ∷ vs) cells
      → ItemLies (FetchAt w) k pc (stage locals) (suc (suc (length vs))) top o → Does (unchanged m (r >>= (λ a. put_value (frame locals (value.Int n ∷ x ∷ vs) k) (a ∷ vs) (load m w a)))) (at pc cells m) o 41 (weight k)
  fetch_moved (Err kind) w m locals vs x n k cells pc o top q same a l = tt
  fetch_moved (Ok v) w m locals vs x n k cells pc o top q same a l =
      let r = rest_alike s top locals (x ∷ vs) (value.Int n) cells a in
      let i = length locals + length vs in
      let cells1 = put cells i (shown (counts s) v) in
      let small : i < limit p f = let g = l.1 in omega (arith, g) in
      let e : pc + 2 ≡ pc + 1 + 1 = omega arith in
      let one = indexes p f wants names below pc cells (objects_of m) i i (right top (length locals + suc (length vs))) (width_of w) (shown (counts s) x) (shown (counts s) v) n l.0.0 r.temps.0 (right_number s p f back exit from arrays made wants names below top locals (x ∷ vs) n cells a) (moved_same m (counts s) w x v n same q) (may_top locals vs cells x r small) in
      let a1 = alike_top (counts s) locals vs cells x v r in
      loaded_does s p f back exit from arrays made wants names below (load m w v) v m w locals (v ∷ vs) (value.Int n ∷ x ∷ vs) k (at pc cells m) cells1 (pc + 1) 11 1 o i refl same a1 l.1 a1.temps.0 l.0.1.0 (omega arith) one
      (subst (λ n. Lies s p f back exit k n (stage locals) (suc (suc (length vs))) Plain (o + 16)) e l.2)

  pub fetch_at_does : (w : Element) (m : Memory) (locals vs : List Value) (x y : Value) (k : List Item) (cells : List slot.Value) (pc o : ℕ) (top : Top) → counts_of m.group ≡ counts s → Tops (counts s) top locals (y ∷ x ∷ vs) cells
      → ItemLies (FetchAt w) k pc (stage locals) (suc (suc (length vs))) top o → Does (stored m (frame locals (y ∷ x ∷ vs) k) (FetchAt w)) (at pc cells m) o 41 (weight k)
  fetch_at_does w m locals vs x (value.Int n) k cells pc o top same a l = fetch_moved (moved m w x n) w m locals vs x n k cells pc o top refl same a l
  fetch_at_does w m locals vs x (value.Point b at) k cells pc o top same a l = tt
  fetch_at_does w m locals vs x (value.Forged n) k cells pc o top same a l = tt
  fetch_at_does w m locals vs x (value.Entry g) k cells pc o top same a l = tt

  -- What an element keeps of a number comes to the cell of its pointer.
  cut_goes : (w : Element) (m : Memory) (locals vs : List Value) (a : Value) (v : ℕ) (k : List Item) (start : SlotState) (cells : List slot.Value) (pc cost turns o : ℕ) → counts_of m.group ≡ counts s → AreAlike (counts s) locals (value.Int v ∷ a ∷ vs) cells → length locals + length vs < limit p f
      → slice_get (ops_in p f) pc ≡ Some (cut_code w (length locals + length vs) (length locals + suc (length vs))) → cost ≤ 18 → Leads p start (at pc cells m) cost turns → Lies s p f back exit k (pc + 1) (stage locals) (suc (length vs)) Plain (o + 16)
      → Done (changed m (frame locals (value.Int (cut w v) ∷ vs) k)) start o 41 (weight k)
  cut_goes element.Int m locals vs a v k start cells pc cost turns o same alike small code cheap leads lies =
      let i = length locals + length vs in
      let r = alike_pop (counts s) locals (a ∷ vs) cells (value.Int v) alike in
      let one = moves p f wants names below pc cells (objects_of m) i (operand.Cell (length locals + suc (length vs))) (slot.Int v) code alike.temps.0 (may_top locals vs cells a r small) in
      record {
        cells = put cells i (slot.Int v);
        place = pc + 1;
        top = Plain;
        cost = cost + 6;
        owed = o + 16;
        turns = turns + 1;
        moves_on = λ z. absurd (omega (arith, z));
        called = refl;
        leads = leads_on p start (at pc cells m) (at (pc + 1) (put cells i (slot.Int v)) m) cost 6 turns 1 leads one;
        same = same;
        alike = alike_top (counts s) locals vs cells a (value.Int v) r;
        lies = lies;
        paid = omega (arith, cheap);
      }
  cut_goes element.Char m locals vs a v k start cells pc cost turns o same alike small code cheap leads lies =
      let i = length locals + length vs in let n = v % 256 in
      let r = alike_pop (counts s) locals (a ∷ vs) cells (value.Int v) alike in
      let one = subst (λ n. Leads p (at pc cells m) (at (pc + 1) (put cells i (slot.Int n)) m) 7 1) (low_same v)
      (changes p f wants names below pc cells (objects_of m) unary_op.LowByte i (length locals + suc (length vs)) v code alike.temps.0 (may_top locals vs cells a r small)) in
      record {
        cells = put cells i (slot.Int n);
        place = pc + 1;
        top = Plain;
        cost = cost + 7;
        owed = o + 16;
        turns = turns + 1;
        moves_on = λ z. absurd (omega (arith, z));
        called = refl;
        leads = leads_on p start (at pc cells m) (at (pc + 1) (put cells i (slot.Int n)) m) cost 7 turns 1 leads one;
        same = same;
        alike = alike_top (counts s) locals vs cells a (value.Int n) r;
        lies = lies;
        paid = omega (arith, cheap);
      }

  -- A number is stored in an element, some operations on.
  pub lay_goes : (r : Result Memory WrongKind) (w : Element) (m : Memory) (locals vs old : List Value) (a : Value) (v : ℕ) (k : List Item) (start : SlotState) (cells : List slot.Value) (pc cost turns o : ℕ) → store m w a v ≡ r → counts_of m.group ≡ counts s → AreAlike (counts s) locals (value.Int v ∷ a ∷ vs) cells
      → HasAt (ops_in p f) pc (op.Store (length locals + length vs) (length locals + suc (length vs)) (width_of w) ∷ cut_code w (length locals + length vs) (length locals + suc (length vs)) ∷ []) → length locals + suc (length vs) < limit p f → cost ≤ 11 → Leads p start (at pc cells m) cost turns
      → Lies s p f back exit k (pc + 2) (stage locals) (suc (length vs)) Plain (o + 16) → Does (then_value (frame locals old k) vs (cut w v) r) start o 41 (weight k)
  lay_goes (Err kind) w m locals vs old a v k start cells pc cost turns o e same alike has small cheap leads lies = tt
  lay_goes (Ok new) w m locals vs old (value.Int n) v k start cells pc cost turns o e same alike has small cheap leads lies = absurd cc
  lay_goes (Ok new) w m locals vs old (value.Forged n) v k start cells pc cost turns o e same alike has small cheap leads lies = absurd cc
  lay_goes (Ok new) w m locals vs old (value.Entry n) v k start cells pc cost turns o e same alike has small cheap leads lies = absurd cc
  lay_goes (Ok new) w m locals vs old (value.Point b place) v k start cells pc cost turns o e same alike has small cheap leads lies =
      let i = length locals + length vs in let j = length locals + suc (length vs) in
      let u = stores_alike m w b place v new e in
      let there = subst (λ c. has_element (object_of (objects_of m) (name_of c b)) (width_of w) place ≡ true) same u.there in
      let free = subst (λ c. (object_of (objects_of m) (name_of c b)).fixed ≡ false) same u.free in
      let objects = subst (λ c. slice_set (objects_of m) (name_of c b) (slot.with_element (width_of w) (object_of (objects_of m) (name_of c b)) place v) ≡ objects_of new) same u.objects in
      let one = subst (λ os. Leads p (at pc cells m) (at_place p f wants names below (pc + 1) cells os) 7 1) objects
      (stores p f wants names below pc cells (objects_of m) i j (width_of w) (name_of (counts s) b) place v has.0 alike.temps.1.0 there free alike.temps.0) in
      let x : pc + 2 ≡ pc + 1 + 1 = omega arith in
      cut_goes w new locals vs (value.Point b place) v k start cells (pc + 1) (cost + 7) (turns + 1) o (u.counts ∙ same) alike (omega (arith, small)) has.1.0 (omega (arith, cheap))
      (leads_on p start (at pc cells m) (at (pc + 1) cells new) cost 7 turns 1 leads one)
      (subst (λ n. Lies s p f back exit k n (stage locals) (suc (length vs)) Plain (o + 16)) x lies)

  pub lay_does : (w : Element) (m : Memory) (locals vs : List Value) (a v : Value) (k : List Item) (cells : List slot.Value) (pc o : ℕ) (top : Top) → counts_of m.group ≡ counts s → Tops (counts s) top locals (v ∷ a ∷ vs) cells
      → ItemLies (Lay w) k pc (stage locals) (suc (suc (length vs))) top o → Does (stored m (frame locals (v ∷ a ∷ vs) k) (Lay w)) (at pc cells m) o 41 (weight k)
  lay_does w m locals vs a (value.Int v) k cells pc o top same tops l =
      let q = plain_alike s top locals (value.Int v ∷ a ∷ vs) cells _ l tops in let h = q.1 in
      lay_goes (store m w a v) w m locals vs (value.Int v ∷ a ∷ vs) a v k (at pc cells m) cells pc 0 0 o refl same q.0 h.0 h.1 (omega arith) (leads_here p (at pc cells m)) h.2
  lay_does w m locals vs a (value.Point b at) k cells pc o top same tops l = tt
  lay_does w m locals vs a (value.Forged n) k cells pc o top same tops l = tt
  lay_does w m locals vs a (value.Entry g) k cells pc o top same tops l = tt

  -- An element gets what an operator makes of it.
  pub lift_does : (q : IntOperator) (w : Element) (m : Memory) (locals vs : List Value) (a v e : Value) (k : List Item) (cells : List slot.Value) (pc o : ℕ) (top : Top) → counts_of m.group ≡ counts s → Tops (counts s) top locals (e ∷ v ∷ a ∷ vs) cells
      → ItemLies (Lift q w) k pc (stage locals) (suc (suc (suc (length vs)))) top o → Does (stored m (frame locals (e ∷ v ∷ a ∷ vs) k) (Lift q w)) (at pc cells m) o 41 (weight k)
  lift_does q w m locals vs a (value.Int v) (value.Int e) k cells pc o top same tops l =
      let t = plain_alike s top locals (value.Int e ∷ value.Int v ∷ a ∷ vs) cells _ l tops in let h = t.1 in
      let j = length locals + suc (length vs) in let n = operated q v e in
      let small : j < limit p f = let g = h.1 in omega (arith, g) in
      let r = alike_pop (counts s) locals (value.Int v ∷ a ∷ vs) cells (value.Int e) t.0 in
      let one = subst (λ n. Leads p (at pc cells m) (at (pc + 1) (put cells j (slot.Int n)) m) 11 1) (operated_same q v e)
      (applies p f wants names below pc cells (objects_of m) (binary_of q) j j (operand.Cell (length locals + suc (suc (length vs)))) v e h.0.0 r.temps.0 t.0.temps.0 (may_top locals (a ∷ vs) cells (value.Int v) r small)) in
      let x : pc + 3 ≡ pc + 1 + 2 = omega arith in
      lay_goes (store m w a n) w m locals vs (value.Int e ∷ value.Int v ∷ a ∷ vs) a n k (at pc cells m) (put cells j (slot.Int n)) (pc + 1) 11 1 o refl same (alike_top (counts s) locals (a ∷ vs) cells (value.Int v) (value.Int n) r) h.0.1 small (omega arith) one
      (subst (λ n. Lies s p f back exit k n (stage locals) (suc (length vs)) Plain (o + 16)) x h.2)
  lift_does q w m locals vs a (value.Int v) (value.Point b at) k cells pc o top same tops l = tt
  lift_does q w m locals vs a (value.Int v) (value.Forged n) k cells pc o top same tops l = tt
  lift_does q w m locals vs a (value.Int v) (value.Entry g) k cells pc o top same tops l = tt
  lift_does q w m locals vs a (value.Point b at) e k cells pc o top same tops l = tt
  lift_does q w m locals vs a (value.Forged n) e k cells pc o top same tops l = tt
  lift_does q w m locals vs a (value.Entry g) e k cells pc o top same tops l = tt

  -- The new value is in the cell of the old one.
  pub record Raised (m : Memory) (locals vs : List Value) (new : Value) (start : SlotState) (place : ℕ) : Type 0 where
    pub cells : List slot.Value
    pub cost : ℕ
    pub turns : ℕ
    pub cheap : cost ≤ 18
    pub leads : Leads p start (at place cells m) cost turns
    pub alike : AreAlike (counts s) locals (new ∷ vs) cells

  abbrev pub RaisedTo : Memory → List Value → List Value → Result Value WrongKind → SlotState → ℕ → Type 0
  RaisedTo m locals vs (Ok new) start place = Raised m locals vs new start place
  RaisedTo m locals vs (Err kind) start place = Unit {0}

  raise_number : (q : IntOperator) (m : Memory) (locals vs : List Value) (v e : ℕ) (cells : List slot.Value) (pc : ℕ) → AreAlike (counts s) locals (value.Int e ∷ value.Int v ∷ vs) cells → length locals + suc (length vs) < limit p f
      → slice_get (ops_in p f) pc ≡ Some (op.Apply (binary_of q) (length locals + length vs) (length locals + length vs) (operand.Cell (length locals + suc (length vs))))
      → Leads p (at pc cells m) (at (pc + 1) (put cells (length locals + length vs) (slot.Int (operated q v e))) m) 11 1
  raise_number q m locals vs v e cells pc a small code =
      let i = length locals + length vs in
      let r = alike_pop (counts s) locals (value.Int v ∷ vs) cells (value.Int e) a in
      subst (λ n. Leads p (at pc cells m) (at (pc + 1) (put cells i (slot.Int n)) m) 11 1) (operated_same q v e)
      (applies p f wants names below pc cells (objects_of m) (binary_of q) i i (operand.Cell (length locals + suc (length vs))) v e code r.temps.0 a.temps.0 (may_top locals vs cells (value.Int v) r (omega (arith, small))))

  raise_pointer : (new : Result Value WrongKind) (t : Element) (m : Memory) (locals vs : List Value) (v : Value) (n : ℕ) (cells : List slot.Value) (pc : ℕ) (start : SlotState) (cost turns : ℕ) → moved m t v n ≡ new → counts_of m.group ≡ counts s → AreAlike (counts s) locals (value.Int n ∷ v ∷ vs) cells → length locals + suc (length vs) < limit p f
      → slice_get (ops_in p f) pc ≡ Some (op.Index (length locals + length vs) (length locals + length vs) (operand.Cell (length locals + suc (length vs))) (width_of t)) → cost ≤ 7 → Leads p start (at pc cells m) cost turns → RaisedTo m locals vs new start (pc + 1)
  raise_pointer (Err kind) t m locals vs v n cells pc start cost turns q same a small code cheap leads = tt
  raise_pointer (Ok new) t m locals vs v n cells pc start cost turns q same a small code cheap leads =
      let i = length locals + length vs in
      let r = alike_pop (counts s) locals (v ∷ vs) cells (value.Int n) a in
      let one = indexes p f wants names below pc cells (objects_of m) i i (operand.Cell (length locals + suc (length vs))) (width_of t) (shown (counts s) v) (shown (counts s) new) n code r.temps.0 a.temps.0 (moved_same m (counts s) t v new n same q) (may_top locals vs cells v r (omega (arith, small))) in
      record {
        cells = put cells i (shown (counts s) new);
        cost = cost + 11;
        turns = turns + 1;
        cheap = omega (arith, cheap);
        leads = leads_on p start (at pc cells m) (at (pc + 1) (put cells i (shown (counts s) new)) m) cost 11 turns 1 leads one;
        alike = alike_top (counts s) locals vs cells v new r;
      }

  raise_goes : (q : IntOperator) (t : Scalar) (m : Memory) (locals vs : List Value) (v e : Value) (cells : List slot.Value) (pc : ℕ) → counts_of m.group ≡ counts s → AreAlike (counts s) locals (e ∷ v ∷ vs) cells → length locals + suc (length vs) < limit p f
      → HasAt (ops_in p f) pc (negate_code q t (length locals + suc (length vs)) ++ raise_code q t (length locals + length vs) (length locals + length vs) (operand.Cell (length locals + suc (length vs))))
      → RaisedTo m locals vs (raised m q t v e) (at pc cells m) (pc + length (negate_code q t (length locals + suc (length vs)) ++ raise_code q t (length locals + length vs) (length locals + length vs) (operand.Cell (length locals + suc (length vs)))))
  raise_goes q scalar.Int m locals vs (value.Int v) (value.Int e) cells pc same a small has =
      let n = operated q v e in
      let r = alike_pop (counts s) locals (value.Int v ∷ vs) cells (value.Int e) a in
      record {
        cells = put cells (length locals + length vs) (slot.Int n);
        cost = 11;
        turns = 1;
        cheap = omega arith;
        leads = raise_number q m locals vs v e cells pc a small has.0;
        alike = alike_top (counts s) locals vs cells (value.Int v) (value.Int n) r;
      }
  raise_goes q scalar.Int m locals vs (value.Int v) (value.Point b at) cells pc same a small has = tt
  raise_goes q scalar.Int m locals vs (value.Int v) (value.Forged n) cells pc same a small has = tt
  raise_goes q scalar.Int m locals vs (value.Int v) (value.Entry g) cells pc same a small has = tt
  raise_goes q scalar.Int m locals vs (value.Point b at) e cells pc same a small has = tt
  raise_goes q scalar.Int m locals vs (value.Forged n) e cells pc same a small has = tt
  raise_goes q scalar.Int m locals vs (value.Entry g) e cells pc same a small has = tt
  raise_goes q scalar.Char m locals vs (value.Int v) (value.Int e) cells pc same a small has =
      let i = length locals + length vs in let n = operated q v e in
      let r = alike_pop (counts s) locals (value.Int v ∷ vs) cells (value.Int e) a in
      let cells1 = put cells i (slot.Int n) in
      let a1 = alike_top (counts s) locals vs cells (value.Int v) (value.Int n) r in
      let x : pc + 1 + 1 ≡ pc + 2 = omega arith in
      let two = subst (λ n. Leads p (at (pc + 1) cells1 m) (at (pc + 1 + 1) (put cells1 i (slot.Int n)) m) 7 1) (low_same n)
      (changes p f wants names below (pc + 1) cells1 (objects_of m) unary_op.LowByte i i n has.1.0 a1.temps.0 (may_top locals vs cells1 (value.Int n) a1 (omega (arith, small)))) in
      record {
        cells = put cells1 i (slot.Int (n % 256));
        cost = 11 + 7;
        turns = 1 + 1;
        cheap = omega arith;
        leads = subst (λ c. Leads p (at pc cells m) (at c (put cells1 i (slot.Int (n % 256))) m) (11 + 7) (1 + 1)) x (leads_on p (at pc cells m) (at (pc + 1) cells1 m) (at (pc + 1 + 1) (put cells1 i (slot.Int (n % 256))) m) 11 7 1 1 (raise_number q m locals vs v e cells pc a small has.0) two);
        alike = alike_top (counts s) locals vs cells1 (value.Int n) (value.Int (n % 256)) a1;
      }
  raise_goes q scalar.Char m locals vs (value.Int v) (value.Point b at) cells pc same a small has = tt
  raise_goes q scalar.Char m locals vs (value.Int v) (value.Forged n) cells pc same a small has = tt
  raise_goes q scalar.Char m locals vs (value.Int v) (value.Entry g) cells pc same a small has = tt
  raise_goes q scalar.Char m locals vs (value.Point b at) e cells pc same a small has = tt
  raise_goes q scalar.Char m locals vs (value.Forged n) e cells pc same a small has = tt
  raise_goes q scalar.Char m locals vs (value.Entry g) e cells pc same a small has = tt
  raise_goes int.Subtract (scalar.Pointer t) m locals vs v (value.Int e) cells pc same a small has =
      let j = length locals + suc (length vs) in let n = alu_of alu.Sub 0 e in
      let cells1 = put cells j (slot.Int n) in
      let a1 = alike_top (counts s) locals (v ∷ vs) cells (value.Int e) (value.Int n) a in
      let one = subst (λ n. Leads p (at pc cells m) (at (pc + 1) (put cells j (slot.Int n)) m) 7 1) (minus_same e)
      (changes p f wants names below pc cells (objects_of m) unary_op.Negate j j e has.0 a.temps.0 (may_top locals (v ∷ vs) cells (value.Int e) a small)) in
      let x : pc + 1 + 1 ≡ pc + 2 = omega arith in
      subst (λ c. RaisedTo m locals vs (moved m t v n) (at pc cells m) c) x (raise_pointer (moved m t v n) t m locals vs v n cells1 (pc + 1) (at pc cells m) 7 1 refl same a1 small has.1.0 (omega arith) one)
  raise_goes int.Subtract (scalar.Pointer t) m locals vs v (value.Point b at) cells pc same a small has = tt
  raise_goes int.Subtract (scalar.Pointer t) m locals vs v (value.Forged n) cells pc same a small has = tt
  raise_goes int.Subtract (scalar.Pointer t) m locals vs v (value.Entry g) cells pc same a small has = tt
  raise_goes q (scalar.Pointer t) m locals vs v (value.Int e) cells pc same a small has = raise_pointer (moved m t v e) t m locals vs v e cells pc (at pc cells m) 0 0 refl same a small has.0 (omega arith) (leads_here p (at pc cells m))
  raise_goes q (scalar.Pointer t) m locals vs v (value.Point b at) cells pc same a small has = tt
  raise_goes q (scalar.Pointer t) m locals vs v (value.Forged n) cells pc same a small has = tt
  raise_goes q (scalar.Pointer t) m locals vs v (value.Entry g) cells pc same a small has = tt

  -- It comes to the variable, where it is right.
  raised_writes : (new : Result Value WrongKind) (x : Cell) (m : Memory) (locals vs old : List Value) (k : List Item) (start : SlotState) (pc o : ℕ) → RaisedTo m locals vs new start pc → counts_of m.group ≡ counts s → IsCell s (stage locals) x → length locals + suc (length vs) < limit p f
      → slice_get (ops_in p f) pc ≡ Some (write_code s x (length locals + length vs)) → Lies s p f back exit k (pc + 1) (stage locals) (suc (length vs)) Plain (o + 16) → Does (new >>= (λ v. assigned m (frame locals old k) x v v vs)) start o 41 (weight k)
  raised_writes (Err kind) x m locals vs old k start pc o r same known small code lies = tt
  raised_writes (Ok new) x m locals vs old k start pc o r same known small code lies =
      write_goes x new new m locals vs old k start r.cells pc r.cost r.turns o (length locals + length vs) same known r.alike.temps.0 code (omega (arith, small)) r.alike (let cheap = r.cheap in omega (arith, cheap)) r.leads lies

  pub raise_does : (q : IntOperator) (t : Scalar) (x : Cell) (m : Memory) (locals vs : List Value) (v e : Value) (k : List Item) (cells : List slot.Value) (pc o : ℕ) (top : Top) → counts_of m.group ≡ counts s → Tops (counts s) top locals (e ∷ v ∷ vs) cells
      → ItemLies (Raise q t x) k pc (stage locals) (suc (suc (length vs))) top o → Does (stored m (frame locals (e ∷ v ∷ vs) k) (Raise q t x)) (at pc cells m) o 41 (weight k)
  raise_does q t x m locals vs v e k cells pc o top same tops l =
      let h = plain_alike s top locals (e ∷ v ∷ vs) cells _ l tops in let g = h.1 in let small = g.1 in
      let i = length locals + length vs in let j = length locals + suc (length vs) in
      let neg = negate_code q t j in let code = raise_code q t i i (operand.Cell j) in let last = write_code s x i in
      let assoc : (neg ++ code) ++ last ∷ [] ≡ neg ++ (code ++ last ∷ []) = append_assoc neg code (last ∷ []) in
      let has = subst (λ c. HasAt (ops_in p f) pc c) (sym assoc) g.0 in
      let r = raise_goes q t m locals vs v e cells pc same h.0 small (has_front (ops_in p f) pc (neg ++ code) (last ∷ []) has) in
      let len : pc + length (neg ++ (code ++ last ∷ [])) ≡ pc + length (neg ++ code) + 1 = omega (arith, length-append neg (code ++ last ∷ []), length-append code (last ∷ []), length-append neg code) in
      raised_writes (raised m q t v e) x m locals vs (e ∷ v ∷ vs) k (at pc cells m) (pc + length (neg ++ code)) o r same g.2.0 small (has_back (ops_in p f) pc (neg ++ code) (last ∷ []) has).0
      (subst (λ n. Lies s p f back exit k n (stage locals) (suc (length vs)) Plain (o + 16)) len g.2.1)
