-- What single operations of slot code lead to.
use Rattle.std.proofs.Common.{◌≡◌, ℕ, suc, ◌+◌, ◌-◌, ◌<◌, ◌≤◌, true, false, List, [], ◌∷◌, ◌++◌, length, Some, refl, sym, ap, ◌∙◌, subst, arith}
use Rattle.std.specs.Prelude.{slice_get, slice_set, if◌then◌else◌}
use Rattle.std.proofs.lemmas.Bool.Decides.{nat_tests}
use Rattle.nx_slot.specs.declared.op.Operand.{Operand}
use Rattle.nx_slot.specs.declared.op.Comparison.{Comparison}
use Rattle.nx_slot.specs.declared.op.Binary.{Binary}
use Rattle.nx_slot.specs.declared.op.Unary.{Unary}
use Rattle.nx_slot.specs.declared.op.Width.{Width}
use Rattle.nx_slot.specs.declared.op.Width.TheVariants.{Word}
use Rattle.nx_slot.specs.declared.op.StaticObject.{StaticObject}
use Rattle.nx_slot.specs.declared.op.SlotOp.{SlotOp}
use Rattle.nx_slot.specs.declared.op.SlotOp.TheVariants as op
use Rattle.nx_slot.specs.Objects.{Value, Int, Pointer, Forged, Entry, Object, object_of, has_element, element, with_element, moved, holds, binary, unary}
use Rattle.nx_slot.specs.Costs.{cost_of}
use Rattle.nx_slot.specs.Meaning.{Code, SlotFrame, SlotState, state, Goes, Fails, NoCell, Outside, function_at, put, may_write, operand, on_value, on_int, on_element, on_moved, on_name, written, stored, act, fetched, step}
use Rattle.nx_slot.specs.Runs.{SlotReach, Going, Requested, Finished, Overflowed, Failed, dearer, then_on, run}

-- The operations stand in the code at this place.
abbrev pub HasAt : List SlotOp → ℕ → List SlotOp → Type 0
HasAt code pc [] = Unit {0}
HasAt code pc (i ∷ is) = (slice_get code pc ≡ Some i) × HasAt code (pc + 1) is

pub has_front : (code : List SlotOp) (pc : ℕ) (a b : List SlotOp) → HasAt code pc (a ++ b) → HasAt code pc a
has_front code pc [] b h = tt
has_front code pc (i ∷ a) b h = (h.0, has_front code (pc + 1) a b h.1)

pub has_back : (code : List SlotOp) (pc : ℕ) (a b : List SlotOp) → HasAt code pc (a ++ b) → HasAt code (pc + length a) b
has_back code pc [] b h = let e : pc ≡ pc + 0 = omega arith in subst (λ n. HasAt code n b) e h
has_back code pc (i ∷ a) b h =
    let e : pc + 1 + length a ≡ pc + length (i ∷ a) = omega arith in
    subst (λ n. HasAt code n b) e (has_back code (pc + 1) a b h.1)

-- The machine goes from one state to another, at this cost, by at least so many operations.
pub record Leads (p : Code) (s t : SlotState) (c turns : ℕ) : Type 0 where
  pub by : (k : ℕ) → (j : ℕ) × (turns + k ≤ j) × (run p j s ≡ dearer c (run p k t))

dearer_none : (r : SlotReach) → dearer 0 r ≡ r
dearer_none (Going s cost) = ap (Going s) (omega arith)
dearer_none (Requested call outputs s cost) = ap (Requested call outputs s) (omega arith)
dearer_none (Finished n os cost) = ap (Finished n os) (omega arith)
dearer_none (Overflowed need cost) = ap (Overflowed need) (omega arith)
dearer_none (Failed fault) = refl

dearer_twice : (a b : ℕ) (r : SlotReach) → dearer a (dearer b r) ≡ dearer (a + b) r
dearer_twice a b (Going s cost) = ap (Going s) (omega arith)
dearer_twice a b (Requested call outputs s cost) = ap (Requested call outputs s) (omega arith)
dearer_twice a b (Finished n os cost) = ap (Finished n os) (omega arith)
dearer_twice a b (Overflowed need cost) = ap (Overflowed need) (omega arith)
dearer_twice a b (Failed fault) = refl

pub leads_here : (p : Code) (s : SlotState) → Leads p s s 0 0
leads_here p s = record { by = λ k. (k, omega arith, sym (dearer_none (run p k s))) }

pub leads_on : (p : Code) (s t u : SlotState) (a b x y : ℕ) → Leads p s t a x → Leads p t u b y → Leads p s u (a + b) (x + y)
leads_on p s t u a b x y l r = record {
  by = λ k.
      let v = r.by k in
      let w = l.by v.0 in
      (w.0, omega (arith, w.1, v.1), w.2 ∙ ap (dearer a) v.2 ∙ dearer_twice a b (run p k u));
}

pub leads_one : (p : Code) (s t : SlotState) (c : ℕ) → step p s ≡ Goes t c → Leads p s t c 1
unfolding run
leads_one p s t c e = record { by = λ k. (suc k, omega arith, ap (λ turn. then_on turn (run p k)) e) }

pub leads_some : (p : Code) (s t : SlotState) (c n : ℕ) → Leads p s t c n → Leads p s t c 0
leads_some p s t c n l = record { by = λ k. let x = l.by k in (x.0, omega (arith, x.1), x.2) }

-- An open call of slot code.
abbrev pub slot_frame : ℕ → ℕ → ℕ → List ℕ → List Value → SlotFrame
slot_frame f at wants names cells = record { function = f; place = at; wants = wants; cells = cells; arrays = names }

abbrev pub ops_in : Code → ℕ → List SlotOp
ops_in p f = (function_at p f).ops

-- How many cells it has at most.
abbrev pub limit : Code → ℕ → ℕ
limit p f = (function_at p f).locals + (function_at p f).temporaries

module _ (p : Code) (f wants : ℕ) (names : List ℕ) (below : List SlotFrame) where
  abbrev pub at_place : ℕ → List Value → List Object → SlotState
  at_place at cells os = state (slot_frame f at wants names cells ∷ below) os

  pub step_is : (at : ℕ) (cells : List Value) (os : List Object) (o : SlotOp) → slice_get (ops_in p f) at ≡ Some o
      → step p (at_place at cells os) ≡ act p below os (function_at p f) (slot_frame f at wants names cells) (cost_of (function_at p f) o) o
  step_is at cells os o h = ap (λ x. fetched p below os (function_at p f) (slot_frame f at wants names cells) x) h

  -- A cell that may be written.
  pub record May (cells : List Value) (i : ℕ) : Type 0 where
    pub near : i ≤ length cells
    pub small : i < limit p f

  written_is : (at : ℕ) (cells : List Value) (os : List Object) (c i : ℕ) (x : Value) → May cells i
      → written (function_at p f) below os (slot_frame f at wants names cells) c i x ≡ Goes (at_place (at + 1) (put cells i x) os) c
  unfolding may_write
  written_is at cells os c i x m =
      let near = m.near in let small = m.small in
      let e : may_write (function_at p f) cells i ≡ true = grind (arith, nat_tests, near, small) in
      ap (λ b. if b then Goes (at_place (at + 1) (put cells i x) os) c else Fails NoCell) e

  pub moves : (at : ℕ) (cells : List Value) (os : List Object) (i : ℕ) (r : Operand) (x : Value) → slice_get (ops_in p f) at ≡ Some (op.Move i r) → operand cells r ≡ Some x → May cells i
      → Leads p (at_place at cells os) (at_place (at + 1) (put cells i x) os) 6 1
  moves at cells os i r x h e m =
      leads_one p _ _ 6
      (step_is at cells os (op.Move i r) h ∙ ap (λ z. on_value z (λ y. written (function_at p f) below os (slot_frame f at wants names cells) 6 i y)) e ∙ written_is at cells os 6 i x m)

  pub forges : (at : ℕ) (cells : List Value) (os : List Object) (i j n : ℕ) → slice_get (ops_in p f) at ≡ Some (op.Forge i j) → slice_get cells j ≡ Some (Int n) → May cells i
      → Leads p (at_place at cells os) (at_place (at + 1) (put cells i (Forged n)) os) 6 1
  forges at cells os i j n h e m =
      leads_one p _ _ 6
      (step_is at cells os (op.Forge i j) h ∙ ap (λ z. on_int z (λ y. written (function_at p f) below os (slot_frame f at wants names cells) 6 i (Forged y))) e ∙ written_is at cells os 6 i (Forged n) m)

  pub applies : (at : ℕ) (cells : List Value) (os : List Object) (o : Binary) (i l : ℕ) (r : Operand) (a b : ℕ) → slice_get (ops_in p f) at ≡ Some (op.Apply o i l r) → slice_get cells l ≡ Some (Int a) → operand cells r ≡ Some (Int b) → May cells i
      → Leads p (at_place at cells os) (at_place (at + 1) (put cells i (Int (binary o a b))) os) 11 1
  applies at cells os o i l r a b h e g m =
      let w = λ (x y : ℕ). written (function_at p f) below os (slot_frame f at wants names cells) 11 i (Int (binary o x y)) in
      leads_one p _ _ 11
      (step_is at cells os (op.Apply o i l r) h
      ∙ ap (λ z. on_int z (λ x. on_int (operand cells r) (λ y. w x y))) e
      ∙ ap (λ z. on_int z (λ y. w a y)) g
      ∙ written_is at cells os 11 i (Int (binary o a b)) m)

  pub changes : (at : ℕ) (cells : List Value) (os : List Object) (o : Unary) (i j a : ℕ) → slice_get (ops_in p f) at ≡ Some (op.Change o i j) → slice_get cells j ≡ Some (Int a) → May cells i
      → Leads p (at_place at cells os) (at_place (at + 1) (put cells i (Int (unary o a))) os) 7 1
  changes at cells os o i j a h e m =
      leads_one p _ _ 7
      (step_is at cells os (op.Change o i j) h ∙ ap (λ z. on_int z (λ y. written (function_at p f) below os (slot_frame f at wants names cells) 7 i (Int (unary o y)))) e ∙ written_is at cells os 7 i (Int (unary o a)) m)

  pub skips : (at : ℕ) (cells : List Value) (os : List Object) (t : Comparison) (l : ℕ) (r : Operand) (past a b : ℕ) → slice_get (ops_in p f) at ≡ Some (op.SkipUnless t l r past) → slice_get cells l ≡ Some (Int a) → operand cells r ≡ Some (Int b)
      → Leads p (at_place at cells os) (at_place (if holds t a b then at + 1 else at + 1 + past) cells os) 9 1
  skips at cells os t l r past a b h e g =
      let w = λ (x y : ℕ). Goes (at_place (if holds t x y then at + 1 else at + 1 + past) cells os) 9 in
      leads_one p _ _ 9
      (step_is at cells os (op.SkipUnless t l r past) h ∙ ap (λ z. on_int z (λ x. on_int (operand cells r) (λ y. w x y))) e ∙ ap (λ z. on_int z (λ y. w a y)) g)

  pub skip : (at : ℕ) (cells : List Value) (os : List Object) (past : ℕ) → slice_get (ops_in p f) at ≡ Some (op.Skip past) → Leads p (at_place at cells os) (at_place (at + 1 + past) cells os) 2 1
  skip at cells os past h = leads_one p _ _ 2 (step_is at cells os (op.Skip past) h)

  pub goes_back : (at to : ℕ) (cells : List Value) (os : List Object) (by : ℕ) → at ≡ to + by → slice_get (ops_in p f) at ≡ Some (op.Back by) → Leads p (at_place at cells os) (at_place to cells os) 2 1
  goes_back at to cells os by e h =
      let q : at - by ≡ to = omega (arith, e) in
      leads_one p _ _ 2 (step_is at cells os (op.Back by) h ∙ ap (λ n. Goes (at_place n cells os) 2) q)

  pub names_static : (at : ℕ) (cells : List Value) (os : List Object) (i : ℕ) (o : StaticObject) → slice_get (ops_in p f) at ≡ Some (op.Static i o) → May cells i
      → Leads p (at_place at cells os) (at_place (at + 1) (put cells i (Pointer o.name 0)) os) 5 1
  names_static at cells os i o h m = leads_one p _ _ 5 (step_is at cells os (op.Static i o) h ∙ written_is at cells os 5 i (Pointer o.name 0) m)

  pub names_entry : (at : ℕ) (cells : List Value) (os : List Object) (i g : ℕ) → slice_get (ops_in p f) at ≡ Some (op.Entry i g) → May cells i
      → Leads p (at_place at cells os) (at_place (at + 1) (put cells i (Entry g)) os) 5 1
  names_entry at cells os i g h m = leads_one p _ _ 5 (step_is at cells os (op.Entry i g) h ∙ written_is at cells os 5 i (Entry g) m)

  pub names_local : (at : ℕ) (cells : List Value) (os : List Object) (i k n : ℕ) → slice_get (ops_in p f) at ≡ Some (op.Local i k) → slice_get names k ≡ Some n → May cells i
      → Leads p (at_place at cells os) (at_place (at + 1) (put cells i (Pointer n 0)) os) 6 1
  names_local at cells os i k n h e m =
      leads_one p _ _ 6
      (step_is at cells os (op.Local i k) h ∙ ap (λ z. on_name z (λ y. written (function_at p f) below os (slot_frame f at wants names cells) 6 i (Pointer y 0))) e ∙ written_is at cells os 6 i (Pointer n 0) m)

  pub fetches : (at : ℕ) (cells : List Value) (os : List Object) (i : ℕ) (o : StaticObject) → slice_get (ops_in p f) at ≡ Some (op.Fetch i o) → has_element (object_of os o.name) Word 0 ≡ true → May cells i
      → Leads p (at_place at cells os) (at_place (at + 1) (put cells i (Int (element Word (object_of os o.name) 0))) os) 5 1
  fetches at cells os i o h e m =
      leads_one p _ _ 5
      (step_is at cells os (op.Fetch i o) h
      ∙ ap (λ b. if b then written (function_at p f) below os (slot_frame f at wants names cells) 5 i (Int (element Word (object_of os o.name) 0)) else Fails Outside) e
      ∙ written_is at cells os 5 i (Int (element Word (object_of os o.name) 0)) m)

  stored_is : (at : ℕ) (cells : List Value) (os : List Object) (c : ℕ) (w : Width) (o k n : ℕ) → (object_of os o).fixed ≡ false
      → stored below os (slot_frame f at wants names cells) c w o k n ≡ Goes (at_place (at + 1) cells (slice_set os o (with_element w (object_of os o) k n))) c
  stored_is at cells os c w o k n e = ap (λ b. if b then Fails Outside else Goes (at_place (at + 1) cells (slice_set os o (with_element w (object_of os o) k n))) c) e

  pub keeps : (at : ℕ) (cells : List Value) (os : List Object) (o : StaticObject) (j n : ℕ) → slice_get (ops_in p f) at ≡ Some (op.Keep o j) → has_element (object_of os o.name) Word 0 ≡ true → (object_of os o.name).fixed ≡ false → slice_get cells j ≡ Some (Int n)
      → Leads p (at_place at cells os) (at_place (at + 1) cells (slice_set os o.name (with_element Word (object_of os o.name) 0 n))) 5 1
  keeps at cells os o j n h e u g =
      let w = λ (y : ℕ). stored below os (slot_frame f at wants names cells) 5 Word o.name 0 y in
      leads_one p _ _ 5
      (step_is at cells os (op.Keep o j) h
      ∙ ap (λ b. if b then on_int (slice_get cells j) w else Fails Outside) e
      ∙ ap (λ z. on_int z w) g
      ∙ stored_is at cells os 5 Word o.name 0 n u)

  pub indexes : (at : ℕ) (cells : List Value) (os : List Object) (i b : ℕ) (r : Operand) (w : Width) (x y : Value) (n : ℕ) → slice_get (ops_in p f) at ≡ Some (op.Index i b r w) → slice_get cells b ≡ Some x → operand cells r ≡ Some (Int n) → moved os w x n ≡ Some y → May cells i
      → Leads p (at_place at cells os) (at_place (at + 1) (put cells i y) os) 11 1
  indexes at cells os i b r w x y n h e g u m =
      let t = λ (z : Value). written (function_at p f) below os (slot_frame f at wants names cells) 11 i z in
      leads_one p _ _ 11
      (step_is at cells os (op.Index i b r w) h
      ∙ ap (λ z. on_int z (λ n. on_value (slice_get cells b) (λ x. on_moved (moved os w x n) t))) g
      ∙ ap (λ z. on_value z (λ x. on_moved (moved os w x n) t)) e
      ∙ ap (λ z. on_moved z t) u
      ∙ written_is at cells os 11 i y m)

  pub loads : (at : ℕ) (cells : List Value) (os : List Object) (i j : ℕ) (w : Width) (o k : ℕ) → slice_get (ops_in p f) at ≡ Some (op.Load i j w) → slice_get cells j ≡ Some (Pointer o k) → has_element (object_of os o) w k ≡ true → May cells i
      → Leads p (at_place at cells os) (at_place (at + 1) (put cells i (Int (element w (object_of os o) k))) os) 7 1
  loads at cells os i j w o k h e u m =
      let t = λ (q a : ℕ). written (function_at p f) below os (slot_frame f at wants names cells) 7 i (Int (element w (object_of os q) a)) in
      leads_one p _ _ 7
      (step_is at cells os (op.Load i j w) h
      ∙ ap (λ z. on_element os w z t) e
      ∙ ap (λ b. if b then t o k else Fails Outside) u
      ∙ written_is at cells os 7 i (Int (element w (object_of os o) k)) m)

  pub stores : (at : ℕ) (cells : List Value) (os : List Object) (j v : ℕ) (w : Width) (o k n : ℕ) → slice_get (ops_in p f) at ≡ Some (op.Store j v w) → slice_get cells j ≡ Some (Pointer o k) → has_element (object_of os o) w k ≡ true → (object_of os o).fixed ≡ false → slice_get cells v ≡ Some (Int n)
      → Leads p (at_place at cells os) (at_place (at + 1) cells (slice_set os o (with_element w (object_of os o) k n))) 7 1
  stores at cells os j v w o k n h e u x g =
      let t = λ (q a : ℕ). on_int (slice_get cells v) (λ n. stored below os (slot_frame f at wants names cells) 7 w q a n) in
      leads_one p _ _ 7
      (step_is at cells os (op.Store j v w) h
      ∙ ap (λ z. on_element os w z t) e
      ∙ ap (λ b. if b then t o k else Fails Outside) u
      ∙ ap (λ z. on_int z (λ n. stored below os (slot_frame f at wants names cells) 7 w o k n)) g
      ∙ stored_is at cells os 7 w o k n x)
