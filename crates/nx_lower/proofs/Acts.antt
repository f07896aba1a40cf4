-- Slot code follows the items of an expression: for each step of C the machine comes to a state that is alike.
use Rattle.std.proofs.Common.{◌≡◌, ℕ, suc, ◌+◌, ◌%◌, ◌^◌, ◌<◌, ◌≤◌, ◌⊎◌, inl, inr, true, List, [], ◌∷◌, length, Some, refl, sym, ap, ◌∙◌, subst, arith}
use Rattle.std.specs.Prelude.{slice_get, slice_index, ◌==◌, not, Result, Ok, Err}
use Rattle.nx_base.specs.Arithmetic.{alu_of, flag}
use Rattle.nx_base.specs.declared.operations.AluOp.TheVariants as alu
use Rattle.nx_checked.specs.declared.checked.Cell.{Cell}
use Rattle.nx_checked.specs.declared.checked.Cell.TheVariants as cell
use Rattle.nx_checked.specs.declared.checked.ArrayName.TheVariants as array
use Rattle.nx_checked.specs.declared.checked.Element.{Element}
use Rattle.nx_checked.specs.declared.checked.Conversion.TheVariants as conversion
use Rattle.nx_checked.specs.declared.checked.IntPrefix.TheVariants as int_prefix
use Rattle.nx_cobjects.specs.declared.value.Value.{Value}
use Rattle.nx_cobjects.specs.declared.value.Value.TheVariants as value
use Rattle.nx_cobjects.specs.declared.value.WrongKind.{WrongKind}
use Rattle.nx_cobjects.specs.declared.value.Prefix.{Prefix}
use Rattle.nx_cobjects.specs.declared.value.Prefix.TheVariants as before
use Rattle.nx_cobjects.specs.declared.value.Infix.{Infix}
use Rattle.nx_cobjects.specs.declared.value.Infix.TheVariants as between
use Rattle.nx_cobjects.specs.Values.{◌>>=◌, operated}
use Rattle.nx_cobjects.specs.Memory.{Memory, load, moved, value_in}
use Rattle.nx_cmean.specs.declared.item.Leaf.{Leaf}
use Rattle.nx_cmean.specs.declared.item.Leaf.TheVariants as leaf
use Rattle.nx_cmean.specs.Items.{Item, Take, Get, Alter, Apply}
use Rattle.nx_cmean.specs.Meaning.{Frame, Changed, changed, put_value, unchanged, stored}
use Rattle.nx_slot.specs.declared.op.Operand.TheVariants as operand
use Rattle.nx_slot.specs.declared.op.Comparison.TheVariants as compare
use Rattle.nx_slot.specs.declared.op.Binary.TheVariants as binary_op
use Rattle.nx_slot.specs.declared.op.Unary.TheVariants as unary_op
use Rattle.nx_slot.specs.declared.op.SlotOp.TheVariants as op
use Rattle.nx_slot.specs.Objects.{object_of, has_element, element}
use Rattle.nx_slot.specs.Objects as slot
use Rattle.nx_slot.specs.Meaning.{Code, SlotFrame, SlotState, put, operand as read}
use Rattle.nx_lower.specs.Shown.{counts_of, statics_in, name_of, shown, width_of, objects_of}
use Rattle.nx_lower.specs.Code.{Source, counts, binary_of, array_object, text_object, scalar_object}
use Rattle.nx_lower.specs.Sound.{Stage}
use Rattle.nx_lower.specs.Laws.{names_from}
use Rattle.nx_lower.proofs.Objects.{loads, variables}
use Rattle.nx_lower.proofs.Cells.{Top, Plain, Fixed, Tops, AreAlike, right, right_read, alike_push, alike_pop, alike_top}
use Rattle.nx_lower.proofs.Steps.{HasAt, Leads, leads_here, leads_on, ops_in, limit, at_place, May, moves, forges, applies, changes, names_static, names_entry, names_local, fetches, indexes}
use Rattle.nx_lower.proofs.Steps.{loads as loads_element}
use Rattle.nx_lower.proofs.Idle.{weight}
use Rattle.nx_lower.proofs.Lies.{plain, Body, item_lies, Lies}
use Rattle.nx_lower.proofs.Operands.{operated_same, minus_same, low_same, not_same, truth_same, complement_same, moved_same, names_get}

-- What waits in its cell.
pub plain_alike : (s : Source) (top : Top) (locals vs : List Value) (cells : List slot.Value) (P : Type 0) → plain top P → Tops (counts s) top locals vs cells → (alike : AreAlike (counts s) locals vs cells) × P
plain_alike s Plain locals vs cells P h a = (a, h)
plain_alike s (Fixed n) locals vs cells P h a = absurd h

-- The values below the last one are in their cells.
pub rest_alike : (s : Source) (top : Top) (locals vs : List Value) (v : Value) (cells : List slot.Value) → Tops (counts s) top locals (v ∷ vs) cells → AreAlike (counts s) locals vs cells
rest_alike s Plain locals vs v cells a = alike_pop (counts s) locals vs cells v a
rest_alike s (Fixed n) locals vs v cells a = a.1

module _ (s : Source) (p : Code) (f back exit from arrays made wants : ℕ) (names : List ℕ) (below : List SlotFrame) where
  abbrev pub c_frame : List Value → List Value → List Item → Frame
  c_frame locals vs k = record { function = f; from = from; arrays = arrays; cells = locals; values = vs; todo = k }

  abbrev pub stage_of : List Value → Stage
  stage_of locals = record { cells = length locals; made = made }

  abbrev pub here : ℕ → List slot.Value → Memory → SlotState
  here pc cells m = at_place p f wants names below pc cells (objects_of m)

  -- The machine comes to a state that is alike, for what was paid and this much more, and where that takes no operation less
  -- remains that needs none.
  pub record Did (ch : Changed) (start : SlotState) (o budget room : ℕ) : Type 0 where
    pub cells : List slot.Value
    pub place : ℕ
    pub top : Top
    pub cost : ℕ
    pub owed : ℕ
    pub turns : ℕ
    pub leads : Leads p start (here place cells ch.memory) cost turns
    pub moves_on : turns ≡ 0 → weight ch.frame.todo < room
    pub same : counts_of ch.memory.group ≡ counts s
    pub called : ch.frame ≡ c_frame ch.frame.cells ch.frame.values ch.frame.todo
    pub alike : Tops (counts s) top ch.frame.cells ch.frame.values cells
    pub lies : Lies s p f back exit ch.frame.todo place (stage_of ch.frame.cells) (length ch.frame.values) top owed
    pub paid : cost + owed ≤ o + budget

  -- Where C goes wrong nothing is promised.
  abbrev pub DoesTo : Result Changed WrongKind → SlotState → ℕ → ℕ → ℕ → Type 0
  DoesTo (Ok ch) start o budget room = Did ch start o budget room
  DoesTo (Err kind) start o budget room = Unit {0}

  may : (locals vs : List Value) (cells : List slot.Value) → AreAlike (counts s) locals vs cells → length locals + length vs < limit p f → May p f wants names below cells (length locals + length vs)
  may locals vs cells a h = record { near = a.room; small = h }

  -- A value is pushed.
  pushes : (room : ℕ) (m : Memory) (locals vs : List Value) (k : List Item) (cells : List slot.Value) (pc cost o : ℕ) (v : Value) → counts_of m.group ≡ counts s → AreAlike (counts s) locals vs cells → cost ≤ 25
      → Leads p (here pc cells m) (here (pc + 1) (put cells (length locals + length vs) (shown (counts s) v)) m) cost 1
      → Lies s p f back exit k (pc + 1) (stage_of locals) (suc (length vs)) Plain (o + 16) → Did (changed m (c_frame locals (v ∷ vs) k)) (here pc cells m) o 41 room
  pushes room m locals vs k cells pc cost o v same a cheap l lies = record {
    cells = put cells (length locals + length vs) (shown (counts s) v);
    place = pc + 1;
    top = Plain;
    cost = cost;
    owed = o + 16;
    turns = 1;
    leads = l;
    moves_on = λ z. absurd (omega (arith, z));
    called = refl;
    same = same;
    alike = alike_push (counts s) locals vs cells v a;
    lies = lies;
    paid = omega (arith, cheap);
  }

  -- The last value is another, some operations on.
  turns_to : (room : ℕ) (m : Memory) (locals vs : List Value) (k : List Item) (cells new : List slot.Value) (pc place cost turns o : ℕ) (v : Value) → counts_of m.group ≡ counts s → AreAlike (counts s) locals (v ∷ vs) new → cost ≤ 25 → (turns ≡ 0 → weight k < room)
      → Leads p (here pc cells m) (here place new m) cost turns
      → Lies s p f back exit k place (stage_of locals) (suc (length vs)) Plain (o + 16) → Did (changed m (c_frame locals (v ∷ vs) k)) (here pc cells m) o 41 room
  turns_to room m locals vs k cells new pc place cost turns o v same a cheap some l lies = record {
    cells = new;
    place = place;
    top = Plain;
    cost = cost;
    owed = o + 16;
    turns = turns;
    leads = l;
    moves_on = some;
    called = refl;
    same = same;
    alike = a;
    lies = lies;
    paid = omega (arith, cheap);
  }

  abbrev LiesOn : List Item → ℕ → Stage → ℕ → Top → ℕ → Type 0
  LiesOn k pc z d top o = Lies s p f back exit k pc z d top o

  abbrev ItemLies : Item → List Item → ℕ → Stage → ℕ → Top → ℕ → Type 0
  ItemLies i k pc z d top o = item_lies s p f back exit i (Body k) (λ back exit pc z d top o. Lies s p f back exit k pc z d top o) pc z d top o

  -- An operand is there.
  pub take_does : (l : Leaf) (m : Memory) (locals vs : List Value) (k : List Item) (cells : List slot.Value) (pc o : ℕ) (top : Top) → counts_of m.group ≡ counts s → names ≡ names_from (statics_in (counts s) + from) made → Tops (counts s) top locals vs cells
      → ItemLies (Take l) k pc (stage_of locals) (length vs) top o → DoesTo (stored m (c_frame locals vs k) (Take l)) (here pc cells m) o 41 (weight (Take l ∷ k))
  take_does (leaf.Number n) m locals vs k cells pc o top same ns a l =
      let q = plain_alike s top locals vs cells _ l a in
      go q.0 q.1
    where
      go : AreAlike (counts s) locals vs cells
          → ((slice_get (ops_in p f) pc ≡ Some (op.Move (length locals + length vs) (operand.Number n))) × (length locals + length vs < limit p f) × LiesOn k (pc + 1) (stage_of locals) (suc (length vs)) Plain (o + 16)) ⊎ LiesOn k pc (stage_of locals) (suc (length vs)) (Fixed n) (o + 16)
          → Did (changed m (c_frame locals (value.Int n ∷ vs) k)) (here pc cells m) o 41 (suc (weight k))
      go a (inl h) =
          pushes (suc (weight k)) m locals vs k cells pc 6 o (value.Int n) same a (omega arith)
          (moves p f wants names below pc cells (objects_of m) (length locals + length vs) (operand.Number n) (slot.Int n) h.0 refl (may locals vs cells a h.1)) h.2
      go a (inr h) = record {
        cells = cells;
        place = pc;
        top = Fixed n;
        cost = 0;
        owed = o + 16;
        turns = 0;
        leads = leads_here p _;
        moves_on = λ z. omega arith;
        called = refl;
        same = same;
        alike = (refl, a);
        lies = h;
        paid = omega arith;
      }
  take_does (leaf.Text i) m locals vs k cells pc o top same ns a l =
      let q = plain_alike s top locals vs cells _ l a in let h = q.1 in
      pushes (weight k) m locals vs k cells pc 5 o _ same q.0 (omega arith) (names_static p f wants names below pc cells (objects_of m) (length locals + length vs) (text_object s i) h.0 (may locals vs cells q.0 h.1)) h.2
  take_does (leaf.Function g) m locals vs k cells pc o top same ns a l =
      let q = plain_alike s top locals vs cells _ l a in let h = q.1 in
      pushes (weight k) m locals vs k cells pc 5 o (value.Entry g) same q.0 (omega arith) (names_entry p f wants names below pc cells (objects_of m) (length locals + length vs) g h.0 (may locals vs cells q.0 h.1)) h.2
  take_does (leaf.Array (array.Global i)) m locals vs k cells pc o top same ns a l =
      let q = plain_alike s top locals vs cells _ l a in let h = q.1 in
      pushes (weight k) m locals vs k cells pc 5 o _ same q.0 (omega arith) (names_static p f wants names below pc cells (objects_of m) (length locals + length vs) (array_object s i) h.0 (may locals vs cells q.0 h.1)) h.2.1
  take_does (leaf.Array (array.Local i)) m locals vs k cells pc o top same ns a l =
      let q = plain_alike s top locals vs cells _ l a in let h = q.1 in
      let b = statics_in (counts s) in
      let e : b + from + i ≡ b + (from + i) = omega arith in
      let n = ap (λ (l : List ℕ). slice_get l i) ns ∙ names_get (b + from) made i h.2.0 ∙ ap Some e in
      pushes (weight k) m locals vs k cells pc 6 o _ same q.0 (omega arith) (names_local p f wants names below pc cells (objects_of m) (length locals + length vs) i (b + (from + i)) h.0 n (may locals vs cells q.0 h.1)) h.2.1

  -- The value of a variable is there.
  pub get_does : (x : Cell) (m : Memory) (locals vs : List Value) (k : List Item) (cells : List slot.Value) (pc o : ℕ) (top : Top) → counts_of m.group ≡ counts s → Tops (counts s) top locals vs cells
      → ItemLies (Get x) k pc (stage_of locals) (length vs) top o → DoesTo (stored m (c_frame locals vs k) (Get x)) (here pc cells m) o 41 (weight k)
  get_does (cell.Local x) m locals vs k cells pc o top same a l =
      let q = plain_alike s top locals vs cells _ l a in let h = q.1 in
      pushes (weight k) m locals vs k cells pc 6 o (value_in locals x) same q.0 (omega arith)
      (moves p f wants names below pc cells (objects_of m) (length locals + length vs) (operand.Cell x) (shown (counts s) (value_in locals x)) h.0 (q.0.local x h.2.0) (may locals vs cells q.0 h.1)) h.2.1
  get_does (cell.Global x) m locals vs k cells pc o top same a l =
      let q = plain_alike s top locals vs cells _ l a in let h = q.1 in
      let i = length locals + length vs in
      let known : x < length m.group.scalars = let e = ap (λ c. c.scalars) same in let b = h.2.0 in omega (arith, e, b) in
      let v = variables m x 0 known in
      pushes (weight k) m locals vs k cells pc 5 o (value.Int (slice_index m.group.scalars x % 2 ^ 32)) same q.0 (omega arith)
      (subst (λ n. Leads p (here pc cells m) (here (pc + 1) (put cells i (slot.Int n)) m) 5 1) v.reads
      (fetches p f wants names below pc cells (objects_of m) i (scalar_object s x) h.0 v.there (may locals vs cells q.0 h.1))) h.2.1

  -- What an element that is read leads to.
  loaded_ok : (v x : Value) (m : Memory) (w : Element) (locals vs : List Value) (k : List Item) (start : SlotState) (cells : List slot.Value) (pc cost turns o j : ℕ) → load m w v ≡ Ok x → counts_of m.group ≡ counts s
      → AreAlike (counts s) locals vs cells → length locals + length vs < limit p f → slice_get cells j ≡ Some (shown (counts s) v) → slice_get (ops_in p f) pc ≡ Some (op.Load (length locals + length vs) j (width_of w)) → cost ≤ 18
      → Leads p start (here pc cells m) cost turns → LiesOn k (pc + 1) (stage_of locals) (suc (length vs)) Plain (o + 16) → Did (changed m (c_frame locals (x ∷ vs) k)) start o 41 (weight k)
  loaded_ok (value.Int n) x m w locals vs k start cells pc cost turns o j e same a small at code cheap leads lies = absurd cc
  loaded_ok (value.Forged n) x m w locals vs k start cells pc cost turns o j e same a small at code cheap leads lies = absurd cc
  loaded_ok (value.Entry n) x m w locals vs k start cells pc cost turns o j e same a small at code cheap leads lies = absurd cc
  loaded_ok (value.Point q place) x m w locals vs k start cells pc cost turns o j e same a small at code cheap leads lies =
      let i = length locals + length vs in
      let h = loads m w q place x e in
      let there = subst (λ c. has_element (object_of (objects_of m) (name_of c q)) (width_of w) place ≡ true) same h.there in
      let is = subst (λ c. x ≡ value.Int (element (width_of w) (object_of (objects_of m) (name_of c q)) place)) same h.same in
      let one = loads_element p f wants names below pc cells (objects_of m) i j (width_of w) (name_of (counts s) q) place code at there (may locals vs cells a small) in
      record {
        cells = put cells i (shown (counts s) x);
        place = pc + 1;
        top = Plain;
        cost = cost + 7;
        owed = o + 16;
        turns = turns + 1;
        moves_on = λ z. absurd (omega (arith, z));
        called = refl;
        leads = leads_on p start (here pc cells m) (here (pc + 1) (put cells i (shown (counts s) x)) m) cost 7 turns 1 leads (subst (λ (y : Value). Leads p (here pc cells m) (here (pc + 1) (put cells i (shown (counts s) y)) m) 7 1) (sym is) one);
        same = same;
        alike = alike_push (counts s) locals vs cells x a;
        lies = lies;
        paid = omega (arith, cheap);
      }

  pub loaded_does : (r : Result Value WrongKind) (v : Value) (m : Memory) (w : Element) (locals vs old : List Value) (k : List Item) (start : SlotState) (cells : List slot.Value) (pc cost turns o j : ℕ) → load m w v ≡ r → counts_of m.group ≡ counts s
      → AreAlike (counts s) locals vs cells → length locals + length vs < limit p f → slice_get cells j ≡ Some (shown (counts s) v) → slice_get (ops_in p f) pc ≡ Some (op.Load (length locals + length vs) j (width_of w)) → cost ≤ 18
      → Leads p start (here pc cells m) cost turns → LiesOn k (pc + 1) (stage_of locals) (suc (length vs)) Plain (o + 16) → DoesTo (unchanged m (put_value (c_frame locals old k) vs r)) start o 41 (weight k)
  loaded_does (Err kind) v m w locals vs old k start cells pc cost turns o j e same a small at code cheap leads lies = tt
  loaded_does (Ok x) v m w locals vs old k start cells pc cost turns o j e same a small at code cheap leads lies = loaded_ok v x m w locals vs k start cells pc cost turns o j e same a small at code cheap leads lies

  may_top : (locals vs : List Value) (cells : List slot.Value) (v : Value) → AreAlike (counts s) locals (v ∷ vs) cells → length locals + length vs < limit p f → May p f wants names below cells (length locals + length vs)
  may_top locals vs cells v a h = let r = a.room in record { near = omega (arith, r); small = h }

  pub alter_does : (q : Prefix) (m : Memory) (locals vs : List Value) (v : Value) (k : List Item) (cells : List slot.Value) (pc o : ℕ) (top : Top) → counts_of m.group ≡ counts s → Tops (counts s) top locals (v ∷ vs) cells
      → ItemLies (Alter q) k pc (stage_of locals) (suc (length vs)) top o → DoesTo (stored m (c_frame locals (v ∷ vs) k) (Alter q)) (here pc cells m) o 41 (weight (Alter q ∷ k))
  alter_does (before.Number int_prefix.Minus) m locals vs (value.Int x) k cells pc o top same a l =
      let q = plain_alike s top locals (value.Int x ∷ vs) cells _ l a in let h = q.1 in
      let i = length locals + length vs in let y = alu_of alu.Sub 0 x in
      turns_to (weight k) m locals vs k cells (put cells i (slot.Int y)) pc (pc + 1) 7 1 o (value.Int y) same (alike_top (counts s) locals vs cells (value.Int x) (value.Int y) q.0) (omega arith) (λ z. absurd (omega (arith, z)))
      (subst (λ n. Leads p (here pc cells m) (here (pc + 1) (put cells i (slot.Int n)) m) 7 1) (minus_same x)
      (changes p f wants names below pc cells (objects_of m) unary_op.Negate i i x h.0.0 q.0.temps.0 (may_top locals vs cells (value.Int x) q.0 h.1))) h.2
  alter_does (before.Number int_prefix.Not) m locals vs (value.Int x) k cells pc o top same a l =
      let q = plain_alike s top locals (value.Int x ∷ vs) cells _ l a in let h = q.1 in
      let i = length locals + length vs in let y = flag (x == 0) in
      turns_to (weight k) m locals vs k cells (put cells i (slot.Int y)) pc (pc + 1) 11 1 o (value.Int y) same (alike_top (counts s) locals vs cells (value.Int x) (value.Int y) q.0) (omega arith) (λ z. absurd (omega (arith, z)))
      (subst (λ n. Leads p (here pc cells m) (here (pc + 1) (put cells i (slot.Int n)) m) 11 1) (not_same x)
      (applies p f wants names below pc cells (objects_of m) (binary_op.Compare compare.Equal) i i (operand.Number 0) x 0 h.0.0 q.0.temps.0 refl (may_top locals vs cells (value.Int x) q.0 h.1))) h.2
  alter_does (before.Number int_prefix.Complement) m locals vs (value.Int x) k cells pc o top same a l =
      let q = plain_alike s top locals (value.Int x ∷ vs) cells _ l a in let h = q.1 in
      let i = length locals + length vs in let y = alu_of alu.Xor x 4294967295 in
      turns_to (weight k) m locals vs k cells (put cells i (slot.Int y)) pc (pc + 1) 11 1 o (value.Int y) same (alike_top (counts s) locals vs cells (value.Int x) (value.Int y) q.0) (omega arith) (λ z. absurd (omega (arith, z)))
      (subst (λ n. Leads p (here pc cells m) (here (pc + 1) (put cells i (slot.Int n)) m) 11 1) (complement_same x)
      (applies p f wants names below pc cells (objects_of m) binary_op.Xor i i (operand.Number 4294967295) x 4294967295 h.0.0 q.0.temps.0 refl (may_top locals vs cells (value.Int x) q.0 h.1))) h.2
  alter_does (before.Number q) m locals vs (value.Point b at) k cells pc o top same a l = tt
  alter_does (before.Number q) m locals vs (value.Forged n) k cells pc o top same a l = tt
  alter_does (before.Number q) m locals vs (value.Entry g) k cells pc o top same a l = tt
  alter_does before.Truth m locals vs (value.Int x) k cells pc o top same a l =
      let q = plain_alike s top locals (value.Int x ∷ vs) cells _ l a in let h = q.1 in
      let i = length locals + length vs in let y = flag (not (x == 0)) in
      turns_to (weight k) m locals vs k cells (put cells i (slot.Int y)) pc (pc + 1) 11 1 o (value.Int y) same (alike_top (counts s) locals vs cells (value.Int x) (value.Int y) q.0) (omega arith) (λ z. absurd (omega (arith, z)))
      (subst (λ n. Leads p (here pc cells m) (here (pc + 1) (put cells i (slot.Int n)) m) 11 1) (truth_same x)
      (applies p f wants names below pc cells (objects_of m) (binary_op.Compare compare.Unequal) i i (operand.Number 0) x 0 h.0.0 q.0.temps.0 refl (may_top locals vs cells (value.Int x) q.0 h.1))) h.2
  alter_does before.Truth m locals vs (value.Point b at) k cells pc o top same a l = tt
  alter_does before.Truth m locals vs (value.Forged n) k cells pc o top same a l = tt
  alter_does before.Truth m locals vs (value.Entry g) k cells pc o top same a l = tt
  alter_does (before.Cast conversion.ToInt) m locals vs v k cells pc o top same a l =
      let q = plain_alike s top locals (v ∷ vs) cells _ l a in let h = q.1 in
      let e : pc + 0 ≡ pc = omega arith in
      turns_to (suc (weight k)) m locals vs k cells cells pc (pc + 0) 0 0 o v same q.0 (omega arith) (λ z. omega arith)
      (subst (λ n. Leads p (here pc cells m) (here n cells m) 0 0) (sym e) (leads_here p (here pc cells m))) h.2
  alter_does (before.Cast conversion.ToChar) m locals vs (value.Int x) k cells pc o top same a l =
      let q = plain_alike s top locals (value.Int x ∷ vs) cells _ l a in let h = q.1 in
      let i = length locals + length vs in let y = x % 256 in
      turns_to (weight k) m locals vs k cells (put cells i (slot.Int y)) pc (pc + 1) 7 1 o (value.Int y) same (alike_top (counts s) locals vs cells (value.Int x) (value.Int y) q.0) (omega arith) (λ z. absurd (omega (arith, z)))
      (subst (λ n. Leads p (here pc cells m) (here (pc + 1) (put cells i (slot.Int n)) m) 7 1) (low_same x)
      (changes p f wants names below pc cells (objects_of m) unary_op.LowByte i i x h.0.0 q.0.temps.0 (may_top locals vs cells (value.Int x) q.0 h.1))) h.2
  alter_does (before.Cast conversion.ToChar) m locals vs (value.Point b at) k cells pc o top same a l = tt
  alter_does (before.Cast conversion.ToChar) m locals vs (value.Forged n) k cells pc o top same a l = tt
  alter_does (before.Cast conversion.ToChar) m locals vs (value.Entry g) k cells pc o top same a l = tt
  alter_does (before.Cast conversion.ToPointer) m locals vs (value.Int x) k cells pc o top same a l =
      let q = plain_alike s top locals (value.Int x ∷ vs) cells _ l a in let h = q.1 in
      let i = length locals + length vs in let y = x in
      turns_to (weight k) m locals vs k cells (put cells i (slot.Forged y)) pc (pc + 1) 6 1 o (value.Forged y) same (alike_top (counts s) locals vs cells (value.Int x) (value.Forged y) q.0) (omega arith) (λ z. absurd (omega (arith, z)))
      (forges p f wants names below pc cells (objects_of m) i i y h.0.0 q.0.temps.0 (may_top locals vs cells (value.Int x) q.0 h.1)) h.2
  alter_does (before.Cast conversion.ToPointer) m locals vs (value.Point b at) k cells pc o top same a l = tt
  alter_does (before.Cast conversion.ToPointer) m locals vs (value.Forged n) k cells pc o top same a l = tt
  alter_does (before.Cast conversion.ToPointer) m locals vs (value.Entry g) k cells pc o top same a l = tt
  alter_does (before.Load w) m locals vs v k cells pc o top same a l =
      let q = plain_alike s top locals (v ∷ vs) cells _ l a in let h = q.1 in
      loaded_does (load m w v) v m w locals vs (v ∷ vs) k (here pc cells m) cells pc 0 0 o (length locals + length vs) refl same (alike_pop (counts s) locals vs cells v q.0) h.1 q.0.temps.0 h.0.0 (omega arith) (leads_here p (here pc cells m)) h.2

  pub right_number : (top : Top) (locals vs : List Value) (n : ℕ) (cells : List slot.Value) → Tops (counts s) top locals (value.Int n ∷ vs) cells → read cells (right top (length locals + length vs)) ≡ Some (slot.Int n)
  right_number top locals vs n cells a = right_read (counts s) top locals vs (value.Int n) cells a

  -- A pointer is moved by the number on its right.
  moved_does : (r : Result Value WrongKind) (t : Element) (m : Memory) (locals vs : List Value) (x : Value) (n : ℕ) (k : List Item) (cells : List slot.Value) (pc o : ℕ) (top : Top) → moved m t x n ≡ r → counts_of m.group ≡ counts s → Tops (counts s) top locals (value.Int n ∷ x ∷ vs) cells
      → length locals + length vs < limit p f → slice_get (ops_in p f) pc ≡ Some (op.Index (length locals + length vs) (length locals + length vs) (right top (length locals + suc (length vs))) (width_of t)) → LiesOn k (pc + 1) (stage_of locals) (suc (length vs)) Plain (o + 16)
      → DoesTo (unchanged m (put_value (c_frame locals (value.Int n ∷ x ∷ vs) k) vs r)) (here pc cells m) o 41 (weight k)
  moved_does (Err kind) t m locals vs x n k cells pc o top e same a small code lies = tt
  moved_does (Ok v) t m locals vs x n k cells pc o top e same a small code lies =
      let r = rest_alike s top locals (x ∷ vs) (value.Int n) cells a in
      let i = length locals + length vs in
      turns_to (weight k) m locals vs k cells (put cells i (shown (counts s) v)) pc (pc + 1) 11 1 o v same (alike_top (counts s) locals vs cells x v r) (omega arith) (λ z. absurd (omega (arith, z)))
      (indexes p f wants names below pc cells (objects_of m) i i (right top (length locals + suc (length vs))) (width_of t) (shown (counts s) x) (shown (counts s) v) n code r.temps.0 (right_number top locals (x ∷ vs) n cells a) (moved_same m (counts s) t x v n same e) (may_top locals vs cells x r small)) lies

  -- The same by the number on its left, and down by the one on its right.
  moved_by_does : (r : Result Value WrongKind) (t : Element) (m : Memory) (locals vs : List Value) (y : Value) (n : ℕ) (k : List Item) (cells : List slot.Value) (pc o : ℕ) → moved m t y n ≡ r → counts_of m.group ≡ counts s → AreAlike (counts s) locals (y ∷ value.Int n ∷ vs) cells
      → length locals + length vs < limit p f → slice_get (ops_in p f) pc ≡ Some (op.Index (length locals + length vs) (length locals + suc (length vs)) (operand.Cell (length locals + length vs)) (width_of t)) → LiesOn k (pc + 1) (stage_of locals) (suc (length vs)) Plain (o + 16)
      → DoesTo (unchanged m (put_value (c_frame locals (y ∷ value.Int n ∷ vs) k) vs r)) (here pc cells m) o 41 (weight k)
  moved_by_does (Err kind) t m locals vs y n k cells pc o e same a small code lies = tt
  moved_by_does (Ok v) t m locals vs y n k cells pc o e same a small code lies =
      let r = alike_pop (counts s) locals (value.Int n ∷ vs) cells y a in
      let i = length locals + length vs in
      turns_to (weight k) m locals vs k cells (put cells i (shown (counts s) v)) pc (pc + 1) 11 1 o v same (alike_top (counts s) locals vs cells (value.Int n) v r) (omega arith) (λ z. absurd (omega (arith, z)))
      (indexes p f wants names below pc cells (objects_of m) i (length locals + suc (length vs)) (operand.Cell i) (width_of t) (shown (counts s) y) (shown (counts s) v) n code a.temps.0 r.temps.0 (moved_same m (counts s) t y v n same e) (may_top locals vs cells (value.Int n) r small)) lies

  moved_down_does : (r : Result Value WrongKind) (t : Element) (m : Memory) (locals vs : List Value) (x : Value) (y : ℕ) (k : List Item) (cells : List slot.Value) (pc o : ℕ) → moved m t x (alu_of alu.Sub 0 y) ≡ r → counts_of m.group ≡ counts s → AreAlike (counts s) locals (value.Int y ∷ x ∷ vs) cells
      → length locals + suc (length vs) < limit p f
      → HasAt (ops_in p f) pc (op.Change unary_op.Negate (length locals + suc (length vs)) (length locals + suc (length vs)) ∷ op.Index (length locals + length vs) (length locals + length vs) (operand.Cell (length locals + suc (length vs))) (width_of t) ∷ [])
      → LiesOn k (pc + 2) (stage_of locals) (suc (length vs)) Plain (o + 16) → DoesTo (unchanged m (put_value (c_frame locals (value.Int y ∷ x ∷ vs) k) vs r)) (here pc cells m) o 41 (weight k)
  moved_down_does (Err kind) t m locals vs x y k cells pc o e same a small has lies = tt
  moved_down_does (Ok v) t m locals vs x y k cells pc o e same a small has lies =
      let i = length locals + length vs in let j = length locals + suc (length vs) in let n = alu_of alu.Sub 0 y in
      let cells1 = put cells j (slot.Int n) in
      let a1 = alike_top (counts s) locals (x ∷ vs) cells (value.Int y) (value.Int n) a in
      let r = alike_pop (counts s) locals (x ∷ vs) cells1 (value.Int n) a1 in
      let less : i < limit p f = omega (arith, small) in
      let q : pc + 1 + 1 ≡ pc + 2 = omega arith in
      let first = subst (λ n. Leads p (here pc cells m) (here (pc + 1) (put cells j (slot.Int n)) m) 7 1) (minus_same y)
      (changes p f wants names below pc cells (objects_of m) unary_op.Negate j j y has.0 a.temps.0 (may_top locals (x ∷ vs) cells (value.Int y) a small)) in
      let second = indexes p f wants names below (pc + 1) cells1 (objects_of m) i i (operand.Cell j) (width_of t) (shown (counts s) x) (shown (counts s) v) n has.1.0 a1.temps.1.0 a1.temps.0 (moved_same m (counts s) t x v n same e) (may_top locals vs cells1 x r less) in
      turns_to (weight k) m locals vs k cells (put cells1 i (shown (counts s) v)) pc (pc + 2) 18 2 o v same (alike_top (counts s) locals vs cells1 x v r) (omega arith) (λ z. absurd (omega (arith, z)))
      (subst (λ n. Leads p (here pc cells m) (here n (put cells1 i (shown (counts s) v)) m) 18 2) q (leads_on p _ _ _ 7 11 1 1 first second)) lies

  -- The element so many on from a pointer.
  load_moved_does : (r : Result Value WrongKind) (t : Element) (m : Memory) (locals vs : List Value) (x : Value) (n : ℕ) (k : List Item) (cells : List slot.Value) (pc o : ℕ) (top : Top) → moved m t x n ≡ r → counts_of m.group ≡ counts s → Tops (counts s) top locals (value.Int n ∷ x ∷ vs) cells → length locals + length vs < limit p f
      → HasAt (ops_in p f) pc (op.Index (length locals + length vs) (length locals + length vs) (right top (length locals + suc (length vs))) (width_of t) ∷ op.Load (length locals + length vs) (length locals + length vs) (width_of t) ∷ [])
      → LiesOn k (pc + 2) (stage_of locals) (suc (length vs)) Plain (o + 16) → DoesTo (unchanged m (put_value (c_frame locals (value.Int n ∷ x ∷ vs) k) vs (r >>= (λ v. load m t v)))) (here pc cells m) o 41 (weight k)
  load_moved_does (Err kind) t m locals vs x n k cells pc o top e same a small has lies = tt
  load_moved_does (Ok v) t m locals vs x n k cells pc o top e same a small has lies =
      let r = rest_alike s top locals (x ∷ vs) (value.Int n) cells a in
      let i = length locals + length vs in
      let cells1 = put cells i (shown (counts s) v) in
      let q : pc + 2 ≡ pc + 1 + 1 = omega arith in
      let one = indexes p f wants names below pc cells (objects_of m) i i (right top (length locals + suc (length vs))) (width_of t) (shown (counts s) x) (shown (counts s) v) n has.0 r.temps.0 (right_number top locals (x ∷ vs) n cells a) (moved_same m (counts s) t x v n same e) (may_top locals vs cells x r small) in
      let a1 = alike_top (counts s) locals vs cells x v r in
      loaded_does (load m t v) v m t locals vs (value.Int n ∷ x ∷ vs) k (here pc cells m) cells1 (pc + 1) 11 1 o i refl same (alike_pop (counts s) locals vs cells1 v a1) small a1.temps.0 has.1.0 (omega arith) one
      (subst (λ n. LiesOn k n (stage_of locals) (suc (length vs)) Plain (o + 16)) q lies)

  pub apply_does : (q : Infix) (m : Memory) (locals vs : List Value) (x y : Value) (k : List Item) (cells : List slot.Value) (pc o : ℕ) (top : Top) → counts_of m.group ≡ counts s → Tops (counts s) top locals (y ∷ x ∷ vs) cells
      → ItemLies (Apply q) k pc (stage_of locals) (suc (suc (length vs))) top o → DoesTo (stored m (c_frame locals (y ∷ x ∷ vs) k) (Apply q)) (here pc cells m) o 41 (weight k)
  apply_does (between.Number q) m locals vs (value.Int x) (value.Int y) k cells pc o top same a l =
      let h = l.1 in let r = rest_alike s top locals (value.Int x ∷ vs) (value.Int y) cells a in
      let i = length locals + length vs in let n = operated q x y in
      let small : i < limit p f = let g = h.1 in omega (arith, g) in
      turns_to (weight k) m locals vs k cells (put cells i (slot.Int n)) pc (pc + 1) 11 1 o (value.Int n) same (alike_top (counts s) locals vs cells (value.Int x) (value.Int n) r) (omega arith) (λ z. absurd (omega (arith, z)))
      (subst (λ n. Leads p (here pc cells m) (here (pc + 1) (put cells i (slot.Int n)) m) 11 1) (operated_same q x y)
      (applies p f wants names below pc cells (objects_of m) (binary_of q) i i (right top (length locals + suc (length vs))) x y h.0.0 r.temps.0 (right_number top locals (value.Int x ∷ vs) y cells a) (may_top locals vs cells (value.Int x) r small))) h.2
  apply_does (between.Number q) m locals vs (value.Int x) (value.Point b at) k cells pc o top same a l = tt
  apply_does (between.Number q) m locals vs (value.Int x) (value.Forged n) k cells pc o top same a l = tt
  apply_does (between.Number q) m locals vs (value.Int x) (value.Entry g) k cells pc o top same a l = tt
  apply_does (between.Number q) m locals vs (value.Point b at) y k cells pc o top same a l = tt
  apply_does (between.Number q) m locals vs (value.Forged n) y k cells pc o top same a l = tt
  apply_does (between.Number q) m locals vs (value.Entry g) y k cells pc o top same a l = tt
  apply_does (between.Advance t) m locals vs x (value.Int n) k cells pc o top same a l =
      let h = l.1 in let small : length locals + length vs < limit p f = let g = h.1 in omega (arith, g) in
      moved_does (moved m t x n) t m locals vs x n k cells pc o top refl same a small h.0.0 h.2
  apply_does (between.Advance t) m locals vs x (value.Point b at) k cells pc o top same a l = tt
  apply_does (between.Advance t) m locals vs x (value.Forged n) k cells pc o top same a l = tt
  apply_does (between.Advance t) m locals vs x (value.Entry g) k cells pc o top same a l = tt
  apply_does (between.AdvanceBy t) m locals vs x y k cells pc o (Fixed c) same a l = absurd l.0
  apply_does (between.AdvanceBy t) m locals vs (value.Int n) y k cells pc o Plain same a l =
      let h = l.1 in let small : length locals + length vs < limit p f = let g = h.1 in omega (arith, g) in
      moved_by_does (moved m t y n) t m locals vs y n k cells pc o refl same a small h.0.0 h.2
  apply_does (between.AdvanceBy t) m locals vs (value.Point b at) y k cells pc o Plain same a l = tt
  apply_does (between.AdvanceBy t) m locals vs (value.Forged n) y k cells pc o Plain same a l = tt
  apply_does (between.AdvanceBy t) m locals vs (value.Entry g) y k cells pc o Plain same a l = tt
  apply_does (between.Retreat t) m locals vs x y k cells pc o (Fixed c) same a l = absurd l.0
  apply_does (between.Retreat t) m locals vs x (value.Int y) k cells pc o Plain same a l =
      let h = l.1 in
      moved_down_does (moved m t x (alu_of alu.Sub 0 y)) t m locals vs x y k cells pc o refl same a h.1 h.0 h.2
  apply_does (between.Retreat t) m locals vs x (value.Point b at) k cells pc o Plain same a l = tt
  apply_does (between.Retreat t) m locals vs x (value.Forged n) k cells pc o Plain same a l = tt
  apply_does (between.Retreat t) m locals vs x (value.Entry g) k cells pc o Plain same a l = tt
  apply_does (between.Load t) m locals vs x (value.Int n) k cells pc o top same a l =
      let h = l.1 in let small : length locals + length vs < limit p f = let g = h.1 in omega (arith, g) in
      load_moved_does (moved m t x n) t m locals vs x n k cells pc o top refl same a small h.0 h.2
  apply_does (between.Load t) m locals vs x (value.Point b at) k cells pc o top same a l = tt
  apply_does (between.Load t) m locals vs x (value.Forged n) k cells pc o top same a l = tt
  apply_does (between.Load t) m locals vs x (value.Entry g) k cells pc o top same a l = tt
