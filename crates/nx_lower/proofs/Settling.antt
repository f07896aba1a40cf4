-- Slot code follows the decisions that stand before a step.
use Rattle.std.proofs.Common.{◌≡◌, ℕ, zero, suc, ◌+◌, ◌<◌, ◌≤◌, List, [], ◌∷◌, length, Some, None, refl, subst, arith}
use Rattle.std.specs.Prelude.{slice_get}
use Rattle.nx_cobjects.specs.declared.value.Value.{Value}
use Rattle.nx_cobjects.specs.declared.value.Value.TheVariants as value
use Rattle.nx_cobjects.specs.Memory.{Memory}
use Rattle.nx_cmean.specs.Items.{Item, AndThen, OrElse, Choose, Enter, Forget, Test, FirstTest, TestLoop, Turn, test_then}
use Rattle.nx_cmean.specs.Meaning.{Frame, changed, fun_at, decided_frame, else_then}
use Rattle.nx_cmean.specs.Runs.{stack_need}
use Rattle.nx_slot.specs.Objects as slot
use Rattle.nx_slot.specs.Meaning.{Code, SlotFrame, SlotState, function_at}
use Rattle.nx_lower.specs.Shown.{counts_of, statics_in, objects_of}
use Rattle.nx_lower.specs.Code.{Source, counts}
use Rattle.nx_lower.specs.Laws.{names_from}
use Rattle.nx_lower.specs.Sound.{Stage}
use Rattle.nx_lower.proofs.Cells.{Top, Tops, AreAlike, alike_pop}
use Rattle.nx_lower.proofs.Steps.{leads_here, slot_frame, at_place}
use Rattle.nx_lower.proofs.Idle.{weight}
use Rattle.nx_lower.proofs.Lies.{Body, item_lies, Lies, stands}
use Rattle.nx_lower.proofs.Acts.{plain_alike, c_frame, Did}
use Rattle.nx_lower.proofs.Deciding.{and_does, or_does, choose_does, forget_does}
use Rattle.nx_lower.proofs.Following.{Began, turn_does, first_test_does, test_loop_does, test_does}
use Rattle.nx_lower.proofs.Running.{Runs, AllWait, Went}
use Rattle.nx_lower.proofs.Turning.{did_went, began_went}

-- An item that decides within its call.
abbrev pub IsChoice : Item → Type 0
IsChoice (Enter g n) = ⊥
IsChoice i = Unit {0}

module _ (s : Source) (p : Code) where
  -- Less may be asked of what remains.
  pub went_wider : (m : Memory) (t : List Frame) (start : SlotState) (o budget x y : ℕ) → x ≤ y → Went s p m t start o budget x → Went s p m t start o budget y
  went_wider m t start o budget x y le w = record {
    to = w.to;
    cost = w.cost;
    owed = w.owed;
    turns = w.turns;
    leads = w.leads;
    moves_on = λ e. let h = w.moves_on e in omega (arith, le, h);
    same = w.same;
    related = w.related;
    fits = w.fits;
    paid = w.paid;
  }

  module _ (f back exit from arrays made wants : ℕ) (names : List ℕ) (below : List Frame) (sbelow : List SlotFrame) (b : ℕ) (known : f < length s.program.functions) (named : names ≡ names_from (statics_in (counts s) + from) made) (many : arrays ≡ length (function_at p f).arrays) (waits : AllWait s p below sbelow b) (fits : (fun_at s.program f).frame + stack_need s.program below ≤ p.stack) where
    abbrev frame : List Value → List Value → List Item → Frame
    frame locals vs k = c_frame s p f back exit from arrays made wants names sbelow locals vs k

    abbrev at : ℕ → List slot.Value → Memory → SlotState
    at pc cells m = at_place p f wants names sbelow pc cells (objects_of m)

    abbrev stage : List Value → Stage
    stage locals = record { cells = length locals; made = made }

    abbrev ItemLies : Item → List Item → ℕ → List Value → ℕ → Top → ℕ → Type 0
    ItemLies i k pc locals d top o = item_lies s p f back exit i (Body k) (λ back exit pc z d top o. Lies s p f back exit k pc z d top o) pc (record { cells = length locals; made = made }) d top o

    abbrev Comes : Memory → List Frame → SlotState → ℕ → ℕ → Type 0
    Comes m t start o room = Went s p m t start o 0 room

    -- The item stays.
    stayed : (i : Item) (m : Memory) (locals vs : List Value) (k : List Item) (cells : List slot.Value) (pc a o : ℕ) (top : Top) → a + b ≤ o → (function_at p f).locals ≤ length locals → counts_of m.group ≡ counts s → Tops (counts s) top locals vs cells → ItemLies i k pc locals (length vs) top a
        → Comes m (frame locals vs (i ∷ k) ∷ below) (at pc cells m) o (suc (weight (i ∷ k)))
    stayed i m locals vs k cells pc a o top le whole same tops l = record {
      to = slot_frame f pc wants names cells ∷ sbelow;
      cost = 0;
      owed = a + b;
      turns = 0;
      leads = leads_here p (at pc cells m);
      moves_on = λ e. omega arith;
      same = same;
      related = (
        a,
        b,
        omega arith,
        record { same = refl; known = known; made = made; names = named; arrays = many; back = back; exit = exit; place = Runs top whole tops (stands s p f back exit i k pc (stage locals) (length vs) top a l) },
        waits,
      );
      fits = fits;
      paid = omega (arith, le);
    }

    -- What has gone on, where the variables are as they were.
    chose : (i : Item) (m : Memory) (locals vs : List Value) (j k : List Item) (start : SlotState) (a o : ℕ) → a + b ≤ o → (function_at p f).locals ≤ length locals → Did s p f back exit from arrays made wants names sbelow (changed m (frame locals vs j)) start a 0 0 → Comes m (frame locals vs j ∷ below) start o (suc (weight (i ∷ k)))
    chose i m locals vs j k start a o le whole d =
        went_wider m (frame locals vs j ∷ below) start o 0 0 (suc (weight (i ∷ k))) (omega arith)
        (did_went s p f back exit from arrays made wants names below sbelow b known named many waits fits (changed m (frame locals vs j)) start a o 0 0 le whole d)

    began : (m : Memory) (locals : List Value) (j : List Item) (cells : List slot.Value) (start : SlotState) (a o room : ℕ) → a + b ≤ o → (function_at p f).locals ≤ length locals → counts_of m.group ≡ counts s → AreAlike (counts s) locals [] cells
        → Began s p f back exit from arrays made wants names sbelow j m (stage locals) cells start a 0 room → Comes m (frame locals [] j ∷ below) start o room
    began m locals j cells start a o room le whole same alike d = began_went s p f back exit from arrays made wants names below sbelow b known named many waits fits m locals j cells start a o 0 room le whole same alike d

    -- The number in the first cell after the variables.
    first_cell : (locals : List Value) (v : ℕ) (cells : List slot.Value) → AreAlike (counts s) locals (value.Int v ∷ []) cells → slice_get cells (length locals) ≡ Some (slot.Int v)
    first_cell locals v cells a = let e : length locals + 0 ≡ length locals = omega arith in subst (λ i. slice_get cells i ≡ Some (slot.Int v)) e a.temps.0

    pub chooses : (i : Item) (m : Memory) (locals vs : List Value) (k : List Item) (cells : List slot.Value) (pc a o : ℕ) (top : Top) → IsChoice i → a + b ≤ o → (function_at p f).locals ≤ length locals → counts_of m.group ≡ counts s → Tops (counts s) top locals vs cells → ItemLies i k pc locals (length vs) top a
        → Comes m (decided_frame (frame locals vs k) i ∷ below) (at pc cells m) o (suc (weight (i ∷ k)))
    chooses (AndThen e) m locals (value.Int zero ∷ vs) k cells pc a o top is le whole same tops l =
        chose (AndThen e) m locals (value.Int zero ∷ vs) _ k (at pc cells m) a o le whole (and_does s p f back exit from arrays made wants names sbelow e m locals vs zero k cells pc a top same tops l)
    chooses (AndThen e) m locals (value.Int (suc v) ∷ vs) k cells pc a o top is le whole same tops l =
        chose (AndThen e) m locals vs _ k (at pc cells m) a o le whole (and_does s p f back exit from arrays made wants names sbelow e m locals vs (suc v) k cells pc a top same tops l)
    chooses (OrElse e) m locals (value.Int zero ∷ vs) k cells pc a o top is le whole same tops l =
        chose (OrElse e) m locals vs _ k (at pc cells m) a o le whole (or_does s p f back exit from arrays made wants names sbelow e m locals vs zero k cells pc a top same tops l)
    chooses (OrElse e) m locals (value.Int (suc v) ∷ vs) k cells pc a o top is le whole same tops l =
        chose (OrElse e) m locals (value.Int (suc v) ∷ vs) _ k (at pc cells m) a o le whole (or_does s p f back exit from arrays made wants names sbelow e m locals vs (suc v) k cells pc a top same tops l)
    chooses (Choose x y) m locals (value.Int zero ∷ vs) k cells pc a o top is le whole same tops l =
        chose (Choose x y) m locals vs _ k (at pc cells m) a o le whole (choose_does s p f back exit from arrays made wants names sbelow x y m locals vs zero k cells pc a top same tops l)
    chooses (Choose x y) m locals (value.Int (suc v) ∷ vs) k cells pc a o top is le whole same tops l =
        chose (Choose x y) m locals vs _ k (at pc cells m) a o le whole (choose_does s p f back exit from arrays made wants names sbelow x y m locals vs (suc v) k cells pc a top same tops l)
    chooses Forget m locals (v ∷ vs) k cells pc a o top is le whole same tops l =
        did_went s p f back exit from arrays made wants names below sbelow b known named many waits fits (changed m (frame locals vs k)) (at pc cells m) a o 0 (suc (weight k)) le whole (forget_does s p f back exit from arrays made wants names sbelow m locals vs v k cells pc a top same tops l)
    chooses (Test x y) m locals (value.Int zero ∷ []) k cells pc a o top is le whole same tops l =
        let h = plain_alike s top locals (value.Int zero ∷ []) cells _ l tops in
        began m locals (else_then y k) cells (at pc cells m) a o (suc (weight (Test x y ∷ k))) le whole same (alike_pop (counts s) locals [] cells (value.Int zero) h.0)
        (test_does s p f back exit from arrays made wants names sbelow x y m (stage locals) k cells pc a zero (suc (weight (Test x y ∷ k))) (first_cell locals zero cells h.0) h.1)
    chooses (Test x y) m locals (value.Int (suc v) ∷ []) k cells pc a o top is le whole same tops l =
        let h = plain_alike s top locals (value.Int (suc v) ∷ []) cells _ l tops in
        began m locals _ cells (at pc cells m) a o (suc (weight (Test x y ∷ k))) le whole same (alike_pop (counts s) locals [] cells (value.Int (suc v)) h.0)
        (test_does s p f back exit from arrays made wants names sbelow x y m (stage locals) k cells pc a (suc v) (suc (weight (Test x y ∷ k))) (first_cell locals (suc v) cells h.0) h.1)
    chooses (Test x y) m locals (v ∷ u ∷ vs) k cells pc a o top is le whole same tops l = absurd (plain_alike s top locals (v ∷ u ∷ vs) cells _ l tops).1
    chooses (TestLoop c t st) m locals (value.Int zero ∷ []) k cells pc a o top is le whole same tops l =
        let h = plain_alike s top locals (value.Int zero ∷ []) cells _ l tops in
        began m locals k cells (at pc cells m) a o (suc (weight (TestLoop c t st ∷ k))) le whole same (alike_pop (counts s) locals [] cells (value.Int zero) h.0)
        (test_loop_does s p f back exit from arrays made wants names sbelow c t st m (stage locals) k cells pc a zero (suc (weight (TestLoop c t st ∷ k))) (first_cell locals zero cells h.0) h.1)
    chooses (TestLoop c t st) m locals (value.Int (suc v) ∷ []) k cells pc a o top is le whole same tops l =
        let h = plain_alike s top locals (value.Int (suc v) ∷ []) cells _ l tops in
        began m locals _ cells (at pc cells m) a o (suc (weight (TestLoop c t st ∷ k))) le whole same (alike_pop (counts s) locals [] cells (value.Int (suc v)) h.0)
        (test_loop_does s p f back exit from arrays made wants names sbelow c t st m (stage locals) k cells pc a (suc v) (suc (weight (TestLoop c t st ∷ k))) (first_cell locals (suc v) cells h.0) h.1)
    chooses (TestLoop c t st) m locals (v ∷ u ∷ vs) k cells pc a o top is le whole same tops l = absurd (plain_alike s top locals (v ∷ u ∷ vs) cells _ l tops).1
    chooses (FirstTest c st) m locals (v ∷ vs) k cells pc a o top is le whole same tops l = absurd (plain_alike s top locals (v ∷ vs) cells _ l tops).1
    chooses (FirstTest c st) m locals [] k cells pc a o top is le whole same tops l =
        let h = plain_alike s top locals [] cells _ l tops in
        began m locals (test_then (Some c) None st k) cells (at pc cells m) a o (suc (weight (FirstTest c st ∷ k))) le whole same h.0 (first_test_does s p f back exit from arrays made wants names sbelow c st m (stage locals) k cells pc a h.1)
    chooses (Turn c t st) m locals (v ∷ vs) k cells pc a o top is le whole same tops l = absurd (plain_alike s top locals (v ∷ vs) cells _ l tops).1
    chooses (Turn c t st) m locals [] k cells pc a o top is le whole same tops l =
        let h = plain_alike s top locals [] cells _ l tops in
        began m locals _ cells (at pc cells m) a o (suc (weight (Turn c t st ∷ k))) le whole same h.0 (turn_does s p f back exit from arrays made wants names sbelow c t st m (stage locals) k cells pc a h.1)
    chooses (Enter g n) m locals vs k cells pc a o top is le whole same tops l = absurd is
    chooses i m locals vs k cells pc a o top is le whole same tops l = stayed i m locals vs k cells pc a o top le whole same tops l
