-- Slot code decides as C does: after the left side of `&&` and `||`, and after the test of `?:`.
use Rattle.std.proofs.Common.{◌≡◌, ℕ, zero, suc, ◌+◌, ◌<◌, ◌≤◌, true, false, List, [], ◌∷◌, length, refl, subst, arith}
use Rattle.std.specs.Prelude.{if◌then◌else◌}
use Rattle.std.proofs.lemmas.Bool.Decides.{nat_tests}
use Rattle.nx_checked.specs.Trees.{Expr}
use Rattle.nx_cobjects.specs.declared.value.Value.{Value}
use Rattle.nx_cobjects.specs.declared.value.Value.TheVariants as value
use Rattle.nx_cobjects.specs.declared.value.Prefix.TheVariants as before
use Rattle.nx_cobjects.specs.Memory.{Memory}
use Rattle.nx_cmean.specs.Items.{Item, Alter, AndThen, OrElse, Choose, Chosen, Called, Reached, Forget, items_then}
use Rattle.nx_cmean.specs.Meaning.{Frame, Changed, changed, zero_or, stays, decided_frame, stored}
use Rattle.nx_slot.specs.declared.op.Operand.TheVariants as operand
use Rattle.nx_slot.specs.declared.op.Comparison.TheVariants as compare
use Rattle.nx_slot.specs.declared.op.SlotOp.TheVariants as op
use Rattle.nx_slot.specs.Objects.{holds}
use Rattle.nx_slot.specs.Objects as slot
use Rattle.nx_slot.specs.Meaning.{Code, SlotFrame, SlotState}
use Rattle.nx_lower.specs.Shown.{counts_of, objects_of}
use Rattle.nx_lower.specs.Code.{Source, counts, truth_code, expr_code}
use Rattle.nx_lower.specs.Sound.{Stage}
use Rattle.nx_lower.proofs.Cells.{Top, Plain, Tops, AreAlike, alike_pop}
use Rattle.nx_lower.proofs.Steps.{has_front, has_back, Leads, leads_here, ops_in, skips}
use Rattle.nx_lower.proofs.Idle.{weight}
use Rattle.nx_lower.proofs.Lies.{hops_here, hop, Body, item_lies, Lies, stands, more}
use Rattle.nx_lower.proofs.Spread.{expr_lies}
use Rattle.nx_lower.proofs.Acts.{plain_alike, c_frame, stage_of, here, Did, DoesTo}

pub unequal_zero : holds compare.Unequal 0 0 ≡ false
unfolding holds
unequal_zero = refl

pub unequal_more : (x : ℕ) → holds compare.Unequal (suc x) 0 ≡ true
unfolding holds
unequal_more x = grind (arith, nat_tests)

equal_zero : holds compare.Equal 0 0 ≡ true
unfolding holds
equal_zero = refl

equal_more : (x : ℕ) → holds compare.Equal (suc x) 0 ≡ false
unfolding holds
equal_more x = grind (arith, nat_tests)

pub nat_cases : (n : ℕ) (P : ℕ → Type 0) → P zero → ((x : ℕ) → P (suc x)) → P n
nat_cases zero P z s = z
nat_cases (suc n) P z s = s n

module _ (s : Source) (p : Code) (f back exit from arrays made wants : ℕ) (names : List ℕ) (below : List SlotFrame) where
  abbrev ItemLies : Item → List Item → ℕ → Stage → ℕ → Top → ℕ → Type 0
  ItemLies i k pc z d top o = item_lies s p f back exit i (Body k) (λ back exit pc z d top o. Lies s p f back exit k pc z d top o) pc z d top o

  abbrev frame : List Value → List Value → List Item → Frame
  frame locals vs k = c_frame s p f back exit from arrays made wants names below locals vs k

  abbrev stage : List Value → Stage
  stage locals = stage_of s p f back exit from arrays made wants names below locals

  abbrev at : ℕ → List slot.Value → Memory → SlotState
  at pc cells m = here s p f back exit from arrays made wants names below pc cells m

  abbrev Done : Changed → SlotState → ℕ → ℕ → ℕ → Type 0
  Done ch start o budget room = Did s p f back exit from arrays made wants names below ch start o budget room

  -- The machine is where what remains lies, with the same cells.
  goes : (m : Memory) (locals vs : List Value) (k : List Item) (start : SlotState) (cells : List slot.Value) (place cost turns o owed budget room : ℕ) → counts_of m.group ≡ counts s → AreAlike (counts s) locals vs cells → Leads p start (at place cells m) cost turns
      → Lies s p f back exit k place (stage locals) (length vs) Plain owed → cost + owed ≤ o + budget → (turns ≡ 0 → weight k < room) → Done (changed m (frame locals vs k)) start o budget room
  goes m locals vs k start cells place cost turns o owed budget room same a l lies paid some = record {
    cells = cells;
    place = place;
    top = Plain;
    cost = cost;
    owed = owed;
    turns = turns;
    leads = l;
    moves_on = some;
    called = refl;
    same = same;
    alike = a;
    lies = lies;
    paid = paid;
  }

  pub and_does : (b : Expr) (m : Memory) (locals vs : List Value) (v : ℕ) (k : List Item) (cells : List slot.Value) (pc o : ℕ) (top : Top) → counts_of m.group ≡ counts s → Tops (counts s) top locals (value.Int v ∷ vs) cells
      → ItemLies (AndThen b) k pc (stage locals) (suc (length vs)) top o → Done (changed m (decided_frame (frame locals (value.Int v ∷ vs) k) (AndThen b))) (at pc cells m) o 0 0
  and_does b m locals vs v k cells pc o top same a l =
      let q = plain_alike s top locals (value.Int v ∷ vs) cells _ l a in let h = q.1 in let r = h.0 in let le = h.1 in
      let n = length locals in let d = length vs in
      let cb = expr_code s n d b in
      let flag = has_back (ops_in p f) (pc + 1) cb (truth_code (n + d) ∷ []) h.3 in
      let start = at pc cells m in
      let test = λ (pc : ℕ). stands s p f back exit (Alter before.Truth) k pc (stage locals) (suc d) Plain r in
      let last = test (pc + 1 + length cb) (flag, h.6, h.7) in
      nat_cases v (λ x. Leads p start (at (if holds compare.Unequal x 0 then pc + 1 else pc + 1 + length cb) cells m) 9 1 → Done (changed m (zero_or (value.Int x) (stays (frame locals (value.Int x ∷ vs) k) (AndThen b)) (frame locals (value.Int v ∷ vs) (Alter before.Truth ∷ k)) (frame locals vs (items_then b (Alter before.Truth ∷ k))))) start o 0 0)
      (λ leads. goes m locals (value.Int v ∷ vs) (Alter before.Truth ∷ k) start cells (pc + 1 + length cb) 9 1 o r 0 0 same q.0
      (subst (λ t. Leads p start (at (if t then pc + 1 else pc + 1 + length cb) cells m) 9 1) unequal_zero leads) last (omega (arith, le)) (λ z. absurd (omega (arith, z))))
      (λ x leads. goes m locals vs (items_then b (Alter before.Truth ∷ k)) start cells (pc + 1) 9 1 o r 0 0 same (alike_pop (counts s) locals vs cells (value.Int v) q.0)
      (subst (λ t. Leads p start (at (if t then pc + 1 else pc + 1 + length cb) cells m) 9 1) (unequal_more x) leads)
      (expr_lies s p b f back exit (Alter before.Truth ∷ k) (pc + 1) (stage locals) d r h.4 h.5 (has_front (ops_in p f) (pc + 1) cb (truth_code (n + d) ∷ []) h.3) (more s p f back exit (Alter before.Truth ∷ k) _ (stage locals) (suc d) Plain r last)) (omega (arith, le)) (λ z. absurd (omega (arith, z))))
      (skips p f wants names below pc cells (objects_of m) compare.Unequal (n + d) (operand.Number 0) (length cb) v 0 h.2 q.0.temps.0 refl)

  pub or_does : (b : Expr) (m : Memory) (locals vs : List Value) (v : ℕ) (k : List Item) (cells : List slot.Value) (pc o : ℕ) (top : Top) → counts_of m.group ≡ counts s → Tops (counts s) top locals (value.Int v ∷ vs) cells
      → ItemLies (OrElse b) k pc (stage locals) (suc (length vs)) top o → Done (changed m (decided_frame (frame locals (value.Int v ∷ vs) k) (OrElse b))) (at pc cells m) o 0 0
  or_does b m locals vs v k cells pc o top same a l =
      let q = plain_alike s top locals (value.Int v ∷ vs) cells _ l a in let h = q.1 in let r = h.0 in let le = h.1 in
      let n = length locals in let d = length vs in
      let cb = expr_code s n d b in
      let flag = has_back (ops_in p f) (pc + 1) cb (truth_code (n + d) ∷ []) h.3 in
      let start = at pc cells m in
      let last = stands s p f back exit (Alter before.Truth) k (pc + 1 + length cb) (stage locals) (suc d) Plain r (flag, h.6, h.7) in
      nat_cases v (λ x. Leads p start (at (if holds compare.Equal x 0 then pc + 1 else pc + 1 + length cb) cells m) 9 1 → Done (changed m (zero_or (value.Int x) (stays (frame locals (value.Int x ∷ vs) k) (OrElse b)) (frame locals vs (items_then b (Alter before.Truth ∷ k))) (frame locals (value.Int v ∷ vs) (Alter before.Truth ∷ k)))) start o 0 0)
      (λ leads. goes m locals vs (items_then b (Alter before.Truth ∷ k)) start cells (pc + 1) 9 1 o r 0 0 same (alike_pop (counts s) locals vs cells (value.Int v) q.0)
      (subst (λ t. Leads p start (at (if t then pc + 1 else pc + 1 + length cb) cells m) 9 1) equal_zero leads)
      (expr_lies s p b f back exit (Alter before.Truth ∷ k) (pc + 1) (stage locals) d r h.4 h.5 (has_front (ops_in p f) (pc + 1) cb (truth_code (n + d) ∷ []) h.3) (more s p f back exit (Alter before.Truth ∷ k) _ (stage locals) (suc d) Plain r last)) (omega (arith, le)) (λ z. absurd (omega (arith, z))))
      (λ x leads. goes m locals (value.Int v ∷ vs) (Alter before.Truth ∷ k) start cells (pc + 1 + length cb) 9 1 o r 0 0 same q.0
      (subst (λ t. Leads p start (at (if t then pc + 1 else pc + 1 + length cb) cells m) 9 1) (equal_more x) leads) last (omega (arith, le)) (λ z. absurd (omega (arith, z))))
      (skips p f wants names below pc cells (objects_of m) compare.Equal (n + d) (operand.Number 0) (length cb) v 0 h.2 q.0.temps.0 refl)

  pub choose_does : (a b : Expr) (m : Memory) (locals vs : List Value) (v : ℕ) (k : List Item) (cells : List slot.Value) (pc o : ℕ) (top : Top) → counts_of m.group ≡ counts s → Tops (counts s) top locals (value.Int v ∷ vs) cells
      → ItemLies (Choose a b) k pc (stage locals) (suc (length vs)) top o → Done (changed m (decided_frame (frame locals (value.Int v ∷ vs) k) (Choose a b))) (at pc cells m) o 0 0
  choose_does x y m locals vs v k cells pc o top same a l =
      let q = plain_alike s top locals (value.Int v ∷ vs) cells _ l a in let h = q.1 in let r = h.0 in let le = h.1 in
      let n = length locals in let d = length vs in
      let cx = expr_code s n d x in let cy = expr_code s n d y in
      let g = has_back (ops_in p f) (pc + 1) cx (op.Skip (length cy) ∷ cy) h.3 in
      let e : pc + 1 + (length cx + 1) ≡ pc + 1 + length cx + 1 = omega arith in
      let start = at pc cells m in
      let end = pc + 1 + length cx + 1 + length cy in
      let below_alike = alike_pop (counts s) locals vs cells (value.Int v) q.0 in
      nat_cases v (λ z. Leads p start (at (if holds compare.Unequal z 0 then pc + 1 else pc + 1 + (length cx + 1)) cells m) 9 1 → Done (changed m (zero_or (value.Int z) (stays (frame locals (value.Int z ∷ vs) k) (Choose x y)) (frame locals vs (items_then y (Chosen ∷ k))) (frame locals vs (items_then x (Chosen ∷ k))))) start o 0 0)
      (λ leads. goes m locals vs (items_then y (Chosen ∷ k)) start cells (pc + 1 + length cx + 1) 9 1 o r 0 0 same below_alike
      (subst (λ c. Leads p start (at c cells m) 9 1) e (subst (λ t. Leads p start (at (if t then pc + 1 else pc + 1 + (length cx + 1)) cells m) 9 1) unequal_zero leads))
      (expr_lies s p y f back exit (Chosen ∷ k) (pc + 1 + length cx + 1) (stage locals) d r h.5 h.7 g.1
      (more s p f back exit (Chosen ∷ k) end (stage locals) (suc d) Plain r (stands s p f back exit Chosen k end (stage locals) (suc d) Plain r (end, 0, omega arith, hops_here p f end, h.8)))) (omega (arith, le)) (λ z. absurd (omega (arith, z))))
      (λ z leads. goes m locals vs (items_then x (Chosen ∷ k)) start cells (pc + 1) 9 1 o r 0 0 same below_alike
      (subst (λ t. Leads p start (at (if t then pc + 1 else pc + 1 + (length cx + 1)) cells m) 9 1) (unequal_more z) leads)
      (expr_lies s p x f back exit (Chosen ∷ k) (pc + 1) (stage locals) d r h.4 h.6 (has_front (ops_in p f) (pc + 1) cx (op.Skip (length cy) ∷ cy) h.3)
      (more s p f back exit (Chosen ∷ k) (pc + 1 + length cx) (stage locals) (suc d) Plain r (stands s p f back exit Chosen k (pc + 1 + length cx) (stage locals) (suc d) Plain r (end, 2, omega arith, hop p f (pc + 1 + length cx) (length cy) g.0, h.8)))) (omega (arith, le)) (λ z. absurd (omega (arith, z))))
      (skips p f wants names below pc cells (objects_of m) compare.Unequal (n + d) (operand.Number 0) (length cx + 1) v 0 h.2 q.0.temps.0 refl)

  -- Items without code of their own.
  pub chosen_does : (m : Memory) (locals vs : List Value) (k : List Item) (cells : List slot.Value) (pc o : ℕ) (top : Top) → counts_of m.group ≡ counts s → Tops (counts s) top locals vs cells
      → ItemLies Chosen k pc (stage locals) (length vs) top o → DoesTo s p f back exit from arrays made wants names below (stored m (frame locals vs k) Chosen) (at pc cells m) o 41 (suc (weight k))
  chosen_does m locals vs k cells pc o top same a l =
      let q = plain_alike s top locals vs cells _ l a in let h = q.1 in
      let small = h.2 in
      goes m locals vs k (at pc cells m) cells h.0 h.1 0 o (o + 16) 41 (suc (weight k)) same q.0 (h.3.by wants names below cells (objects_of m)) h.4 (omega (arith, small)) (λ z. omega arith)

  pub called_does : (m : Memory) (locals vs : List Value) (k : List Item) (cells : List slot.Value) (pc o : ℕ) (top : Top) → counts_of m.group ≡ counts s → Tops (counts s) top locals vs cells
      → ItemLies Called k pc (stage locals) (length vs) top o → DoesTo s p f back exit from arrays made wants names below (stored m (frame locals vs k) Called) (at pc cells m) o 41 (suc (weight k))
  called_does m locals vs k cells pc o top same a l =
      let q = plain_alike s top locals vs cells _ l a in
      goes m locals vs k (at pc cells m) cells pc 0 0 o (o + 16) 41 (suc (weight k)) same q.0 (leads_here p (at pc cells m)) q.1 (omega arith) (λ z. omega arith)

  pub reached_does : (m : Memory) (locals vs : List Value) (k : List Item) (cells : List slot.Value) (pc o : ℕ) (top : Top) → counts_of m.group ≡ counts s → Tops (counts s) top locals vs cells
      → ItemLies Reached k pc (stage locals) (length vs) top o → DoesTo s p f back exit from arrays made wants names below (stored m (frame locals vs k) Reached) (at pc cells m) o 41 (suc (weight k))
  reached_does m locals vs k cells pc o top same a l =
      let q = plain_alike s top locals vs cells _ l a in
      goes m locals vs k (at pc cells m) cells pc 0 0 o (o + 16) 41 (suc (weight k)) same q.0 (leads_here p (at pc cells m)) q.1 (omega arith) (λ z. omega arith)

  pub forget_does : (m : Memory) (locals vs : List Value) (v : Value) (k : List Item) (cells : List slot.Value) (pc o : ℕ) (top : Top) → counts_of m.group ≡ counts s → Tops (counts s) top locals (v ∷ vs) cells
      → ItemLies Forget k pc (stage locals) (suc (length vs)) top o → Done (changed m (decided_frame (frame locals (v ∷ vs) k) Forget)) (at pc cells m) o 0 (suc (weight k))
  forget_does m locals vs v k cells pc o top same a l =
      let q = plain_alike s top locals (v ∷ vs) cells _ l a in
      goes m locals vs k (at pc cells m) cells pc 0 0 o o 0 (suc (weight k)) same (alike_pop (counts s) locals vs cells v q.0) (leads_here p (at pc cells m)) q.1 (omega arith) (λ z. omega arith)
