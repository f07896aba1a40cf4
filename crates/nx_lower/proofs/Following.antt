-- Slot code follows each item of an expression but for calls, and what statements begin with.
use Rattle.std.proofs.Common.{◌≡◌, ℕ, zero, suc, ◌+◌, ◌<◌, ◌≤◌, List, [], ◌∷◌, ◌++◌, length, Option, Some, None, refl, sym, subst, arith, length-append}
use Rattle.std.specs.Prelude.{slice_get, if◌then◌else◌}
use Rattle.nx_checked.specs.Trees.{Expr, Stmt, Stmts, Done, Then}
use Rattle.nx_cobjects.specs.declared.value.Value.{Value}
use Rattle.nx_cobjects.specs.Memory.{Memory}
use Rattle.nx_cmean.specs.Items.{Item, Take, Get, Alter, Apply, Write, Raise, Bump, Reached, Fetch, FetchAt, Lay, Lift, Shift, Chosen, Called, Exec, Rest, Test, FirstTest, TestLoop, Turn, Again, option_then, rest_then, test_then, begun}
use Rattle.nx_cmean.specs.Meaning.{Frame, stored, else_then}
use Rattle.nx_slot.specs.declared.op.Operand.TheVariants as operand
use Rattle.nx_slot.specs.declared.op.Comparison.TheVariants as compare
use Rattle.nx_slot.specs.Objects.{holds}
use Rattle.nx_slot.specs.Objects as slot
use Rattle.nx_slot.specs.Meaning.{Code, SlotFrame, SlotState}
use Rattle.nx_lower.specs.Shown.{counts_of, statics_in, objects_of}
use Rattle.nx_lower.specs.Code.{Source, counts, expr_code}
use Rattle.nx_lower.specs.Bodies.{test_code, stmt_code, stmts_code}
use Rattle.nx_lower.specs.Laws.{names_from}
use Rattle.nx_lower.specs.Sound.{Stage}
use Rattle.nx_lower.proofs.Cells.{Top, Plain, Tops}
use Rattle.nx_lower.proofs.Steps.{has_front, has_back, Leads, leads_here, leads_on, ops_in, goes_back, skips}
use Rattle.nx_lower.proofs.Idle.{weight, items_weight, option_weight, rest_weight, begun_weight}
use Rattle.nx_lower.proofs.Lies.{hop, Body, item_lies, Lies, stands, lies_more, lies_at}
use Rattle.nx_lower.proofs.Begun.{Begins, AllStand, Stands, body_lies, test_lies, third_lies, rest_lies}
use Rattle.nx_lower.proofs.Statements.{begun_lies}
use Rattle.nx_lower.proofs.Acts.{c_frame, stage_of, here, DoesTo, take_does, get_does, alter_does, apply_does}
use Rattle.nx_lower.proofs.Storing.{write_does, raise_does, fetch_does, fetch_at_does, lay_does, lift_does}
use Rattle.nx_lower.proofs.Stepping.{bump_does, shift_does}
use Rattle.nx_lower.proofs.Deciding.{unequal_zero, unequal_more, nat_cases, chosen_does, called_does, reached_does}

-- An item that makes a value or changes one.
abbrev pub IsValue : Item → Type 0
IsValue (Take l) = Unit {0}
IsValue (Get x) = Unit {0}
IsValue (Alter q) = Unit {0}
IsValue (Apply q) = Unit {0}
IsValue (Write t x) = Unit {0}
IsValue (Raise q t x) = Unit {0}
IsValue (Bump v up t x) = Unit {0}
IsValue Reached = Unit {0}
IsValue (Fetch w) = Unit {0}
IsValue (FetchAt w) = Unit {0}
IsValue (Lay w) = Unit {0}
IsValue (Lift q w) = Unit {0}
IsValue (Shift v up w) = Unit {0}
IsValue Chosen = Unit {0}
IsValue Called = Unit {0}
IsValue i = ⊥

-- What follows a test.
abbrev pub branch : ℕ → List Item → List Item → List Item
branch zero a b = a
branch (suc n) a b = b

body_rest : (ss : Stmts) (k : List Item) → Body k → Body (rest_then ss k)
body_rest Done k h = h
body_rest (Then a ss) k h = h

module _ (s : Source) (p : Code) (f back exit from arrays made wants : ℕ) (names : List ℕ) (below : List SlotFrame) where
  abbrev ItemLies : Item → List Item → ℕ → Stage → ℕ → Top → ℕ → Type 0
  ItemLies i k pc z d top o = item_lies s p f back exit i (Body k) (λ back exit pc z d top o. Lies s p f back exit k pc z d top o) pc z d top o

  abbrev frame : List Value → List Value → List Item → Frame
  frame locals vs k = c_frame s p f back exit from arrays made wants names below locals vs k

  abbrev stage : List Value → Stage
  stage locals = stage_of s p f back exit from arrays made wants names below locals

  abbrev at : ℕ → List slot.Value → Memory → SlotState
  at pc cells m = here s p f back exit from arrays made wants names below pc cells m

  pub follows : (i : Item) (m : Memory) (locals vs : List Value) (k : List Item) (cells : List slot.Value) (pc o : ℕ) (top : Top) → IsValue i → counts_of m.group ≡ counts s → names ≡ names_from (statics_in (counts s) + from) made → Tops (counts s) top locals vs cells
      → ItemLies i k pc (stage locals) (length vs) top o → DoesTo s p f back exit from arrays made wants names below (stored m (frame locals vs k) i) (at pc cells m) o 41 (weight (i ∷ k))
  follows (Take l) m locals vs k cells pc o top is same ns a h = take_does s p f back exit from arrays made wants names below l m locals vs k cells pc o top same ns a h
  follows (Get x) m locals vs k cells pc o top is same ns a h = get_does s p f back exit from arrays made wants names below x m locals vs k cells pc o top same a h
  follows (Alter q) m locals [] k cells pc o top is same ns a h = tt
  follows (Alter q) m locals (v ∷ vs) k cells pc o top is same ns a h = alter_does s p f back exit from arrays made wants names below q m locals vs v k cells pc o top same a h
  follows (Apply q) m locals [] k cells pc o top is same ns a h = tt
  follows (Apply q) m locals (y ∷ []) k cells pc o top is same ns a h = tt
  follows (Apply q) m locals (y ∷ x ∷ vs) k cells pc o top is same ns a h = apply_does s p f back exit from arrays made wants names below q m locals vs x y k cells pc o top same a h
  follows (Write t x) m locals [] k cells pc o top is same ns a h = tt
  follows (Write t x) m locals (v ∷ vs) k cells pc o top is same ns a h = write_does s p f back exit from arrays made wants names below t x m locals vs v k cells pc o top same a h
  follows (Raise q t x) m locals [] k cells pc o top is same ns a h = tt
  follows (Raise q t x) m locals (y ∷ []) k cells pc o top is same ns a h = tt
  follows (Raise q t x) m locals (e ∷ v ∷ vs) k cells pc o top is same ns a h = raise_does s p f back exit from arrays made wants names below q t x m locals vs v e k cells pc o top same a h
  follows (Bump b up t x) m locals [] k cells pc o top is same ns a h = tt
  follows (Bump b up t x) m locals (v ∷ vs) k cells pc o top is same ns a h = bump_does s p f back exit from arrays made wants names below b up t x m locals vs v k cells pc o top same a h
  follows Reached m locals vs k cells pc o top is same ns a h = reached_does s p f back exit from arrays made wants names below m locals vs k cells pc o top same a h
  follows (Fetch w) m locals [] k cells pc o top is same ns a h = tt
  follows (Fetch w) m locals (v ∷ vs) k cells pc o top is same ns a h = fetch_does s p f back exit from arrays made wants names below w m locals vs v k cells pc o top same a h
  follows (FetchAt w) m locals [] k cells pc o top is same ns a h = tt
  follows (FetchAt w) m locals (y ∷ []) k cells pc o top is same ns a h = tt
  follows (FetchAt w) m locals (y ∷ x ∷ vs) k cells pc o top is same ns a h = fetch_at_does s p f back exit from arrays made wants names below w m locals vs x y k cells pc o top same a h
  follows (Lay w) m locals [] k cells pc o top is same ns a h = tt
  follows (Lay w) m locals (y ∷ []) k cells pc o top is same ns a h = tt
  follows (Lay w) m locals (v ∷ x ∷ vs) k cells pc o top is same ns a h = lay_does s p f back exit from arrays made wants names below w m locals vs x v k cells pc o top same a h
  follows (Lift q w) m locals [] k cells pc o top is same ns a h = tt
  follows (Lift q w) m locals (y ∷ []) k cells pc o top is same ns a h = tt
  follows (Lift q w) m locals (y ∷ x ∷ []) k cells pc o top is same ns a h = tt
  follows (Lift q w) m locals (e ∷ v ∷ x ∷ vs) k cells pc o top is same ns a h = lift_does s p f back exit from arrays made wants names below q w m locals vs x v e k cells pc o top same a h
  follows (Shift b up w) m locals [] k cells pc o top is same ns a h = tt
  follows (Shift b up w) m locals (y ∷ []) k cells pc o top is same ns a h = tt
  follows (Shift b up w) m locals (v ∷ x ∷ vs) k cells pc o top is same ns a h = shift_does s p f back exit from arrays made wants names below b up w m locals vs x v k cells pc o top same a h
  follows Chosen m locals vs k cells pc o top is same ns a h = chosen_does s p f back exit from arrays made wants names below m locals vs k cells pc o top same a h
  follows Called m locals vs k cells pc o top is same ns a h = called_does s p f back exit from arrays made wants names below m locals vs k cells pc o top same a h
  follows i m locals vs k cells pc o top is same ns a h = absurd is

  -- What remains lies where the machine comes to, with the same cells, for what was paid and this much more.
  pub record Began (k : List Item) (m : Memory) (z : Stage) (cells : List slot.Value) (start : SlotState) (o budget room : ℕ) : Type 0 where
    pub place : ℕ
    pub cost : ℕ
    pub owed : ℕ
    pub turns : ℕ
    pub leads : Leads p start (at place cells m) cost turns
    pub moves_on : turns ≡ 0 → weight k < room
    pub begins : Begins s p f k place z owed
    pub paid : cost + owed ≤ o + budget

  stays_here : (k : List Item) (m : Memory) (z : Stage) (cells : List slot.Value) (pc o owed budget room : ℕ) → Begins s p f k pc z owed → weight k < room → owed ≤ o + budget → Began k m z cells (at pc cells m) o budget room
  stays_here k m z cells pc o owed budget room b less paid = record {
    place = pc;
    cost = 0;
    owed = owed;
    turns = 0;
    leads = leads_here p (at pc cells m);
    moves_on = λ e. less;
    begins = b;
    paid = omega (arith, paid);
  }

  -- Statements, and the next test of a loop.
  pub exec_does : (st : Stmt) (m : Memory) (z : Stage) (k : List Item) (cells : List slot.Value) (pc o : ℕ) → ItemLies (Exec st) k pc z 0 Plain o → Began (begun st k) m z cells (at pc cells m) o 2 (weight (Exec st ∷ k))
  exec_does st m z k cells pc o l = stays_here (begun st k) m z cells pc o (o + 2) 2 (weight (Exec st ∷ k)) (begun_lies s p f st back exit k pc z l.0 l.1 o l.2) (begun_weight st k) (omega arith)

  pub rest_does : (a : Stmt) (ss : Stmts) (m : Memory) (z : Stage) (k : List Item) (cells : List slot.Value) (pc o : ℕ) → ItemLies (Rest (Then a ss)) k pc z 0 Plain o → Began (begun a (rest_then ss k)) m z cells (at pc cells m) o 2 (weight (Rest (Then a ss) ∷ k))
  rest_does a ss m z k cells pc o l =
      let t = l.2 in let on = l.0 in let out = l.1 in
      let cs = stmts_code s z.cells on out ss in let ca = stmt_code s z.cells (length cs + on) (length cs + out) a in
      let e : pc + length (ca ++ cs) ≡ pc + length ca + length cs = omega (arith, length-append ca cs) in
      let turns = t.turns in let ends = t.ends in let fits = t.fits in
      let after : AllStand s p f back exit ss k (pc + length ca) z on out o = record {
        has = has_back (ops_in p f) pc ca cs t.has;
        turns = omega (arith, turns, e);
        ends = omega (arith, ends, e);
        is = t.is.1;
        fits = omega (arith, fits);
        full = t.full;
        behind = t.behind;
        rest = lies_at s p f back exit k _ _ z 0 Plain o e t.rest;
      } in
      let first : Stands s p f back exit a (rest_then ss k) pc z (length cs + on) (length cs + out) o = record {
        has = has_front (ops_in p f) pc ca cs t.has;
        turns = omega (arith, turns, e);
        ends = omega (arith, ends, e);
        is = t.is.0;
        fits = omega (arith, fits);
        full = t.full;
        behind = body_rest ss k t.behind;
        rest = rest_lies s p f ss back exit k (pc + length ca) z on out o after;
      } in
      let x = begun_weight a (rest_then ss k) in let y = rest_weight ss k in
      stays_here (begun a (rest_then ss k)) m z cells pc o (o + 2) 2 (weight (Rest (Then a ss) ∷ k)) (begun_lies s p f a back exit (rest_then ss k) pc z (length cs + on) (length cs + out) o first) (omega (arith, x, y)) (omega arith)

  pub again_does : (c t : Option Expr) (st : Stmt) (m : Memory) (z : Stage) (k : List Item) (cells : List slot.Value) (pc o : ℕ) → ItemLies (Again c t st) k pc z 0 Plain o → Began (test_then c t st k) m z cells (at pc cells m) o 2 (weight (Again c t st ∷ k))
  again_does None t st m z k cells pc o l =
      let w = l.3 in
      record {
        place = l.0;
        cost = 2;
        owed = o;
        turns = 1;
        leads = goes_back p f wants names below pc l.0 cells (objects_of m) w.0 w.2 w.1;
        moves_on = λ e. absurd (omega (arith, e));
        begins = test_lies s p f None t st back exit k l.0 l.1 l.2 z o l.4;
        paid = omega arith;
      }
  again_does (Some c) t st m z k cells pc o l =
      let w = l.3 in let small = w.1 in let x = items_weight c (TestLoop c t st ∷ k) in
      record {
        place = l.0;
        cost = w.0;
        owed = o;
        turns = 0;
        leads = w.2.by wants names below cells (objects_of m);
        moves_on = λ e. omega (arith, x);
        begins = test_lies s p f (Some c) t st back exit k l.0 l.1 l.2 z o l.4;
        paid = omega (arith, small);
      }

  -- The end of a turn, and the first test of `do`: decisions that take no operation.
  pub turn_does : (c t : Option Expr) (st : Stmt) (m : Memory) (z : Stage) (k : List Item) (cells : List slot.Value) (pc o : ℕ) → ItemLies (Turn c t st) k pc z 0 Plain o → Began (option_then t (Again c t st ∷ k)) m z cells (at pc cells m) o 0 (suc (weight (Turn c t st ∷ k)))
  turn_does c t st m z k cells pc o l =
      let x = option_weight t (Again c t st ∷ k) in
      stays_here (option_then t (Again c t st ∷ k)) m z cells pc o o 0 (suc (weight (Turn c t st ∷ k))) (record { back = l.4; exit = l.5; lies = third_lies s p f c t st l.4 l.5 k l.0 pc l.1 z o l.6 }) (omega (arith, x)) (omega arith)

  pub first_test_does : (c : Expr) (st : Stmt) (m : Memory) (z : Stage) (k : List Item) (cells : List slot.Value) (pc o : ℕ) → ItemLies (FirstTest c st) k pc z 0 Plain o → Began (test_then (Some c) None st k) m z cells (at pc cells m) o 0 (suc (weight (FirstTest c st ∷ k)))
  first_test_does c st m z k cells pc o l =
      let x = items_weight c (TestLoop c None st ∷ k) in
      stays_here (test_then (Some c) None st k) m z cells pc o o 0 (suc (weight (FirstTest c st ∷ k))) (test_lies s p f (Some c) None st l.3 l.4 k pc pc l.0 z o l.5) (omega (arith, x)) (omega arith)

  -- The test of a cell: the machine goes on, or passes operations.
  test_goes : (v past : ℕ) (a b : List Item) (m : Memory) (z : Stage) (cells : List slot.Value) (pc o room : ℕ) → slice_get cells z.cells ≡ Some (slot.Int v) → slice_get (ops_in p f) pc ≡ Some (test_code z.cells past)
      → (Leads p (at pc cells m) (at (pc + 1 + past) cells m) 9 1 → Began a m z cells (at pc cells m) o 0 room) → (Leads p (at pc cells m) (at (pc + 1) cells m) 9 1 → Began b m z cells (at pc cells m) o 0 room) → Began (branch v a b) m z cells (at pc cells m) o 0 room
  test_goes v past a b m z cells pc o room number code no_go go =
      nat_cases v (λ x. Leads p (at pc cells m) (at (if holds compare.Unequal x 0 then pc + 1 else pc + 1 + past) cells m) 9 1 → Began (branch x a b) m z cells (at pc cells m) o 0 room)
      (λ leads. no_go (subst (λ t. Leads p (at pc cells m) (at (if t then pc + 1 else pc + 1 + past) cells m) 9 1) unequal_zero leads))
      (λ x leads. go (subst (λ t. Leads p (at pc cells m) (at (if t then pc + 1 else pc + 1 + past) cells m) 9 1) (unequal_more x) leads))
      (skips p f wants names below pc cells (objects_of m) compare.Unequal z.cells (operand.Number 0) past v 0 code number refl)

  came : (k : List Item) (m : Memory) (z : Stage) (cells : List slot.Value) (start : SlotState) (place cost turns o owed room : ℕ) → Leads p start (at place cells m) cost (suc turns) → Begins s p f k place z owed → cost + owed ≤ o → Began k m z cells start o 0 room
  came k m z cells start place cost turns o owed room leads b paid = record {
    place = place;
    cost = cost;
    owed = owed;
    turns = suc turns;
    leads = leads;
    moves_on = λ e. absurd (omega (arith, e));
    begins = b;
    paid = omega (arith, paid);
  }

  pub test_loop_does : (c : Expr) (t : Option Expr) (st : Stmt) (m : Memory) (z : Stage) (k : List Item) (cells : List slot.Value) (pc o v room : ℕ) → slice_get cells z.cells ≡ Some (slot.Int v) → ItemLies (TestLoop c t st) k pc z (suc 0) Plain o
      → Began (branch v k (Exec st ∷ Turn (Some c) t st ∷ k)) m z cells (at pc cells m) o 0 room
  test_loop_does c t st m z k cells pc o v room number l =
      let again = l.0 in let turn = l.1 in let end = l.2 in let r = l.3 in let le = l.4 in let is = l.5 in let loop = l.6 in
      let q = loop.test in let past = q.3 in let ends = q.5 in let few = q.7 in
      let code = subst (λ n. slice_get (ops_in p f) n ≡ Some (test_code z.cells past)) (sym is) q.4 in
      let e : pc + 1 + past ≡ end = omega (arith, is, ends) in
      let b : again + length (expr_code s z.cells 0 c) + 1 ≡ pc + 1 = omega (arith, is) in
      test_goes v past k (Exec st ∷ Turn (Some c) t st ∷ k) m z cells pc o room number code
      (λ leads. came k m z cells (at pc cells m) (pc + 1 + past) 9 0 o r room leads (record { back = back; exit = exit; lies = lies_at s p f back exit k end (pc + 1 + past) z 0 Plain r (sym e) loop.rest }) (omega (arith, le)))
      (λ leads. came (Exec st ∷ Turn (Some c) t st ∷ k) m z cells (at pc cells m) loop.body (9 + q.6) 0 o r room
      (leads_on p (at pc cells m) (at (pc + 1) cells m) (at loop.body cells m) 9 q.6 1 0 leads (subst (λ n. Leads p (at n cells m) (at loop.body cells m) q.6 0) b (q.8.by wants names below cells (objects_of m))))
      (record { back = turn; exit = end; lies = body_lies s p f (Some c) t st back exit k again turn end z r loop }) (omega (arith, le, few)))

  pub test_does : (a : Stmt) (b : Option Stmt) (m : Memory) (z : Stage) (k : List Item) (cells : List slot.Value) (pc o v room : ℕ) → slice_get cells z.cells ≡ Some (slot.Int v) → ItemLies (Test a b) k pc z (suc 0) Plain o → Began (branch v (else_then b k) (Exec a ∷ k)) m z cells (at pc cells m) o 0 room
  test_does a None m z k cells pc o v room number l =
      let on = l.0 in let out = l.1 in let r = l.2 in let le = l.3 in let side = l.4.1 in
      let ca = stmt_code s z.cells on out a in
      test_goes v (length ca) k (Exec a ∷ k) m z cells pc o room number l.4.0
      (λ leads. came k m z cells (at pc cells m) (pc + 1 + length ca) 9 0 o r room leads (record { back = back; exit = exit; lies = side.rest }) (omega (arith, le)))
      (λ leads. came (Exec a ∷ k) m z cells (at pc cells m) (pc + 1) 9 0 o r room leads (record { back = back; exit = exit; lies = stands s p f back exit (Exec a) k (pc + 1) z 0 Plain r (on, out, side) }) (omega (arith, le)))
  test_does a (Some b) m z k cells pc o v room number l =
      let on = l.0 in let out = l.1 in let r = l.2 in let le = l.3 in let sides = l.4 in let side = sides.5 in
      let cb = stmt_code s z.cells on out b in let ca = stmt_code s z.cells (1 + length cb + on) (1 + length cb + out) a in
      let other = pc + 1 + length ca + 1 in
      let e : pc + 1 + (length ca + 1) ≡ other = omega arith in
      let turns = side.turns in let ends = side.ends in
      test_goes v (length ca + 1) (Exec b ∷ k) (Exec a ∷ k) m z cells pc o room number sides.0
      (λ leads. came (Exec b ∷ k) m z cells (at pc cells m) other 9 0 o r room (subst (λ n. Leads p (at pc cells m) (at n cells m) 9 1) e leads) (record { back = back; exit = exit; lies = stands s p f back exit (Exec b) k other z 0 Plain r (on, out, side) }) (omega (arith, le)))
      (λ leads. came (Exec a ∷ k) m z cells (at pc cells m) (pc + 1) 9 0 o (r + 2) room leads
      (record {
        back = back;
        exit = exit;
        lies = stands s p f back exit (Exec a) k (pc + 1) z 0 Plain (r + 2) (
          1 + length cb + on,
          1 + length cb + out,
          record {
            has = sides.1;
            turns = omega (arith, turns);
            ends = omega (arith, ends);
            is = sides.2;
            fits = sides.3;
            full = side.full;
            behind = side.behind;
            rest = lies_more s p f back exit k (pc + 1 + length ca) (other + length cb) z 0 Plain 2 r (r + 2) (omega arith) (hop p f (pc + 1 + length ca) (length cb) sides.4) side.rest;
          },
        );
      }) (omega (arith, le)))
