-- Slot code follows each step of C, with at most 64 instructions for it.
use Rattle.std.proofs.Common.{◌≡◌, ℕ, suc, ◌+◌, ◌<◌, ◌≤◌, List, [], ◌∷◌, length, Some, refl, sym, ap, ◌∙◌, subst, arith}
use Rattle.std.specs.Prelude.{slice_get}
use Rattle.nx_checked.specs.declared.checked.UsedCall.{UsedCall}
use Rattle.nx_cobjects.specs.declared.value.Value.{Value}
use Rattle.nx_cobjects.specs.Memory.{Memory}
use Rattle.nx_cmean.specs.Items.{Item, Enter, Start, Gap, Make}
use Rattle.nx_cmean.specs.Meaning.{Frame, stuck, on_first, fun_at, decide, decided, act, turn}
use Rattle.nx_cmean.specs.Runs.{stack_need}
use Rattle.nx_slot.specs.Objects as slot
use Rattle.nx_slot.specs.Meaning.{Code, SlotFrame, SlotState, state, function_at}
use Rattle.nx_slot.specs.Runs.{dearer}
use Rattle.nx_lower.specs.Shown.{counts_of, statics_in, objects_of}
use Rattle.nx_lower.specs.Code.{Source, counts}
use Rattle.nx_lower.specs.Bodies.{lower_fun}
use Rattle.nx_lower.specs.Laws.{names_from}
use Rattle.nx_lower.specs.Sound.{SoundFun, SoundCall}
use Rattle.nx_lower.proofs.Cells.{Top, Plain, Tops, AreAlike}
use Rattle.nx_lower.proofs.Steps.{Leads, leads_here, leads_on, slot_frame, at_place}
use Rattle.nx_lower.proofs.Idle.{weight}
use Rattle.nx_lower.proofs.Lies.{Body, item_lies, Lies, EntryLies}
use Rattle.nx_lower.proofs.Acts.{c_frame}
use Rattle.nx_lower.proofs.Running.{Place, Runs, Begins, Acting, AllWait, Went}
use Rattle.nx_lower.proofs.Answering.{FirstLight, Does}
use Rattle.nx_lower.proofs.Turning.{lies_act, begins_act, light_runs, light_act}
use Rattle.nx_lower.proofs.Settling.{chooses}
use Rattle.nx_lower.proofs.Calling.{Fills, Calls, Enters, Refuses, Comes, calls}

module _ (s : Source) (p : Code) (is : (g : ℕ) → g < length s.program.functions → function_at p g ≡ lower_fun s (fun_at s.program g)) (sound : (g : ℕ) → g < length s.program.functions → SoundFun s (fun_at s.program g)) (kernel : (j : ℕ) (c : UsedCall) → slice_get s.program.calls j ≡ Some c → SoundCall p.rows c) where
  abbrev CallsTo : Memory → List Frame → SlotState → ℕ → ℕ → Type 0
  CallsTo m t start o room = Calls s p is sound m t start o room

  abbrev FillsTo : ℕ → SlotState → ℕ → ℕ → Type 0
  FillsTo need start o budget = Fills s p is sound need start o budget

  -- The same from a state before.
  fills_after : (need : ℕ) (start mid : SlotState) (c r turns o budget : ℕ) → Leads p start mid c turns → c + r ≤ o → FillsTo need mid r budget → FillsTo need start o budget
  fills_after need start mid c r turns o budget l le w =
      let x = l.by w.turns in let paid = w.paid in
      record { cost = c + w.cost; turns = x.0; runs = x.2 ∙ ap (dearer c) w.runs; paid = omega (arith, le, paid) }

  -- What goes on from where something has gone on.
  went_then : (m : Memory) (t : List Frame) (start mid : SlotState) (c r turns o budget x y : ℕ) → Leads p start mid c turns → c + r ≤ o → (turns ≡ 0 → x ≤ y) → Went s p m t mid r budget x → Went s p m t start o budget y
  went_then m t start mid c r turns o budget x y l le less w =
      let paid = w.paid in
      record {
        to = w.to;
        cost = c + w.cost;
        owed = w.owed;
        turns = turns + w.turns;
        leads = leads_on p start mid (state w.to (objects_of m)) c w.cost turns w.turns l w.leads;
        moves_on = λ e. let a = less (omega (arith, e)) in let b = w.moves_on (omega (arith, e)) in omega (arith, a, b);
        same = w.same;
        related = w.related;
        fits = w.fits;
        paid = omega (arith, le, paid);
      }

  pub calls_then : (m : Memory) (t : List Frame) (start mid : SlotState) (c r turns o x y : ℕ) → Leads p start mid c turns → c + r ≤ o → (turns ≡ 0 → x ≤ y) → CallsTo m t mid r x → CallsTo m t start o y
  calls_then m t start mid c r turns o x y l le less (Enters fresh fits full) =
      Enters fresh (λ h. went_then m t start mid c r turns o 30 x y l le less (fits h)) (λ h. fills_after (stack_need s.program t) start mid c r turns o 30 l le (full h))
  calls_then m t start mid c r turns o x y l le less (Refuses h fits) = Refuses h fits
  calls_then m t start mid c r turns o x y l le less (Comes w) = Comes (went_then m t start mid c r turns o 0 x y l le less w)

  module _ (f back exit from arrays made wants : ℕ) (names : List ℕ) (below : List Frame) (sbelow : List SlotFrame) (b : ℕ) (known : f < length s.program.functions) (named : names ≡ names_from (statics_in (counts s) + from) made) (many : arrays ≡ length (function_at p f).arrays) (waits : AllWait s p below sbelow b) (fits : (fun_at s.program f).frame + stack_need s.program below ≤ p.stack) where
    abbrev frame : List Value → List Value → List Item → Frame
    frame locals vs k = c_frame s p f back exit from arrays made wants names sbelow locals vs k

    abbrev at : ℕ → List slot.Value → Memory → SlotState
    at pc cells m = at_place p f wants names sbelow pc cells (objects_of m)

    decide_item : (i : Item) (own : ℕ) (m : Memory) (locals vs : List Value) (k : List Item) (cells : List slot.Value) (pc a o : ℕ) (top : Top) → a + b ≤ o → (function_at p f).locals ≤ length locals → counts_of m.group ≡ counts s → own ≡ length m.own → Tops (counts s) top locals vs cells
        → item_lies s p f back exit i (Body k) (λ back exit pc z d top o. Lies s p f back exit k pc z d top o) pc (record { cells = length locals; made = made }) (length vs) top a → CallsTo m (decide s.program own below (frame locals vs k) i) (at pc cells m) o (suc (weight (i ∷ k)))
    decide_item (Enter g n) own m locals vs k cells pc a o top le whole same last tops l =
        calls s p is sound f back exit from arrays made wants names below sbelow b known named many waits fits g n own m locals vs k cells pc a o (suc (weight (Enter g n ∷ k))) top le whole same last tops l
    decide_item i own m locals vs k cells pc a o top le whole same last tops l =
        Comes (chooses s p f back exit from arrays made wants names below sbelow b known named many waits fits i m locals vs k cells pc a o top tt le whole same tops l)

    decide_lies : (todo : List Item) (own : ℕ) (m : Memory) (locals vs : List Value) (cells : List slot.Value) (pc a o : ℕ) (top : Top) → a + b ≤ o → (function_at p f).locals ≤ length locals → counts_of m.group ≡ counts s → own ≡ length m.own → Tops (counts s) top locals vs cells
        → Lies s p f back exit todo pc (record { cells = length locals; made = made }) (length vs) top a → CallsTo m (on_first todo (frame locals vs todo ∷ below) (λ i k. decide s.program own below (frame locals vs k) i)) (at pc cells m) o (suc (weight todo))
    decide_lies [] own m locals vs cells pc a o top le whole same last tops l = absurd l
    decide_lies (i ∷ k) own m locals vs cells pc a o top le whole same last tops l =
        let paid = l.3 in let room = suc (weight (i ∷ k)) in
        calls_then m (decide s.program own below (frame locals vs k) i) (at pc cells m) (at l.0 cells m) l.1 (l.2 + b) 0 o room room (l.4.by wants names sbelow cells (objects_of m)) (omega (arith, le, paid)) (λ e. omega arith)
        (decide_item i own m locals vs k cells l.0 l.2 (l.2 + b) top (omega arith) whole same last tops l.5)

    -- A call that begins stays.
    begin_stays : (i : Item) (m : Memory) (locals : List Value) (k : List Item) (cells : List slot.Value) (pc a o : ℕ) → a + b ≤ o → counts_of m.group ≡ counts s → AreAlike (counts s) locals [] cells → from + made ≡ length m.own → EntryLies s p f back exit (i ∷ k) pc (record { cells = length locals; made = made }) a
        → Went s p m (frame locals [] (i ∷ k) ∷ below) (at pc cells m) o 0 (suc (weight (i ∷ k)))
    begin_stays i m locals k cells pc a o le same alike all l = record {
      to = slot_frame f pc wants names cells ∷ sbelow;
      cost = 0;
      owed = a + b;
      turns = 0;
      leads = leads_here p (at pc cells m);
      moves_on = λ e. omega arith;
      same = same;
      related = (
        a,
        b,
        omega arith,
        record { same = refl; known = known; made = made; names = named; arrays = many; back = back; exit = exit; place = Begins refl alike l all },
        waits,
      );
      fits = fits;
      paid = omega (arith, le);
    }

    decide_begins : (todo : List Item) (own : ℕ) (m : Memory) (locals : List Value) (cells : List slot.Value) (pc a o : ℕ) → a + b ≤ o → counts_of m.group ≡ counts s → own ≡ length m.own → AreAlike (counts s) locals [] cells → from + made ≡ length m.own → EntryLies s p f back exit todo pc (record { cells = length locals; made = made }) a
        → CallsTo m (on_first todo (frame locals [] todo ∷ below) (λ i k. decide s.program own below (frame locals [] k) i)) (at pc cells m) o (suc (weight todo))
    decide_begins [] own m locals cells pc a o le same last alike all l = absurd l
    decide_begins (Start t ∷ k) own m locals cells pc a o le same last alike all l = Comes (begin_stays (Start t) m locals k cells pc a o le same alike all l)
    decide_begins (Gap n ∷ k) own m locals cells pc a o le same last alike all l = Comes (begin_stays (Gap n) m locals k cells pc a o le same alike all l)
    decide_begins (Make x ∷ k) own m locals cells pc a o le same last alike all l = Comes (begin_stays (Make x) m locals k cells pc a o le same alike all l)
    decide_begins (i ∷ k) own m locals cells pc a o le same last alike all l = decide_lies (i ∷ k) own m locals [] cells pc a o Plain le l.0 same last alike l.1

    -- What a step makes of what stands first.
    turn_lies : (todo : List Item) (m : Memory) (locals vs : List Value) (cells : List slot.Value) (pc a o : ℕ) (top : Top) → a + b ≤ o → (function_at p f).locals ≤ length locals → counts_of m.group ≡ counts s → Tops (counts s) top locals vs cells
        → Lies s p f back exit todo pc (record { cells = length locals; made = made }) (length vs) top a → Does s p (on_first todo stuck (λ i k. act s.program m below (frame locals vs k) i)) (at pc cells m) o 41 (weight todo)
    turn_lies [] m locals vs cells pc a o top le whole same tops l = absurd l
    turn_lies (i ∷ k) m locals vs cells pc a o top le whole same tops l =
        lies_act s p f back exit from arrays made wants names below sbelow b known named many waits fits i m locals vs k cells pc a o top le (omega (arith, fits)) whole kernel same tops l

    turn_begins : (todo : List Item) (m : Memory) (locals : List Value) (cells : List slot.Value) (pc a o : ℕ) → a + b ≤ o → counts_of m.group ≡ counts s → AreAlike (counts s) locals [] cells → from + made ≡ length m.own → EntryLies s p f back exit todo pc (record { cells = length locals; made = made }) a
        → Does s p (on_first todo stuck (λ i k. act s.program m below (frame locals [] k) i)) (at pc cells m) o 41 (weight todo)
    turn_begins [] m locals cells pc a o le same alike all l = absurd l
    turn_begins (i ∷ k) m locals cells pc a o le same alike all l =
        begins_act s p f back exit from arrays made wants names below sbelow b known named many waits fits i m locals k cells pc a o le (omega (arith, fits)) kernel same alike all l

    light_lies : (todo : List Item) (m : Memory) (locals vs : List Value) (cells : List slot.Value) (pc a o : ℕ) (top : Top) → FirstLight todo → a + b ≤ o → (function_at p f).locals ≤ length locals → counts_of m.group ≡ counts s → Tops (counts s) top locals vs cells
        → Lies s p f back exit todo pc (record { cells = length locals; made = made }) (length vs) top a → Does s p (on_first todo stuck (λ i k. act s.program m below (frame locals vs k) i)) (at pc cells m) o 34 (weight todo)
    light_lies [] m locals vs cells pc a o top is le whole same tops l = absurd l
    light_lies (i ∷ k) m locals vs cells pc a o top is le whole same tops l =
        light_runs s p f back exit from arrays made wants names below sbelow b known named many waits fits i m locals vs k cells pc a o top is le (omega (arith, fits)) whole same tops l

    light_begins : (todo : List Item) (m : Memory) (locals : List Value) (cells : List slot.Value) (pc a o : ℕ) → FirstLight todo → a + b ≤ o → counts_of m.group ≡ counts s → AreAlike (counts s) locals [] cells → from + made ≡ length m.own → EntryLies s p f back exit todo pc (record { cells = length locals; made = made }) a
        → Does s p (on_first todo stuck (λ i k. act s.program m below (frame locals [] k) i)) (at pc cells m) o 34 (weight todo)
    light_begins [] m locals cells pc a o is le same alike all l = absurd l
    light_begins (i ∷ k) m locals cells pc a o is le same alike all l =
        light_act s p f back exit from arrays made wants names below sbelow b known named many waits fits i m locals k cells pc a o is le (omega (arith, fits)) same alike all l

  -- The same of an open call that acts.
  module _ (m : Memory) (c : Frame) (below : List Frame) (sf : SlotFrame) (sbelow : List SlotFrame) (a b o : ℕ) (le : a + b ≤ o) (q : Acting s p m c sf a) (waits : AllWait s p below sbelow b) (same : counts_of m.group ≡ counts s) (fits : stack_need s.program (c ∷ below) ≤ p.stack) where
    abbrev start_at : ℕ → SlotState
    start_at n = state (slot_frame n sf.place sf.wants sf.arrays sf.cells ∷ sbelow) (objects_of m)

    decided_by : (own : ℕ) → own ≡ length m.own → Place s p m c sf q.made q.back q.exit a → CallsTo m (decided s.program own (c ∷ below)) (start_at c.function) o (suc (weight c.todo))
    decided_by own last (Runs top whole tops l) =
        decide_lies c.function q.back q.exit c.from c.arrays q.made sf.wants sf.arrays below sbelow b q.known q.names q.arrays waits fits c.todo own m c.cells c.values sf.cells sf.place a o top le whole same last tops l
    decided_by own last (Begins e alike l all) =
        subst (λ (vs : List Value). CallsTo m (on_first c.todo (record { function = c.function; from = c.from; arrays = c.arrays; cells = c.cells; values = vs; todo = c.todo } ∷ below) (λ i k. decide s.program own below (record { function = c.function; from = c.from; arrays = c.arrays; cells = c.cells; values = vs; todo = k }) i)) (start_at c.function) o (suc (weight c.todo))) (sym e)
        (decide_begins c.function q.back q.exit c.from c.arrays q.made sf.wants sf.arrays below sbelow b q.known q.names q.arrays waits fits c.todo own m c.cells sf.cells sf.place a o le same last alike all l)

    pub decided_goes : (own : ℕ) → own ≡ length m.own → CallsTo m (decided s.program own (c ∷ below)) (state (sf ∷ sbelow) (objects_of m)) o (suc (weight c.todo))
    decided_goes own last = subst (λ n. CallsTo m (decided s.program own (c ∷ below)) (start_at n) o (suc (weight c.todo))) (sym q.same) (decided_by own last q.place)

    turn_by : Place s p m c sf q.made q.back q.exit a → Does s p (turn s.program m (c ∷ below)) (start_at c.function) o 41 (weight c.todo)
    turn_by (Runs top whole tops l) = turn_lies c.function q.back q.exit c.from c.arrays q.made sf.wants sf.arrays below sbelow b q.known q.names q.arrays waits fits c.todo m c.cells c.values sf.cells sf.place a o top le whole same tops l
    turn_by (Begins e alike l all) =
        subst (λ (vs : List Value). Does s p (on_first c.todo stuck (λ i k. act s.program m below (record { function = c.function; from = c.from; arrays = c.arrays; cells = c.cells; values = vs; todo = k }) i)) (start_at c.function) o 41 (weight c.todo)) (sym e)
        (turn_begins c.function q.back q.exit c.from c.arrays q.made sf.wants sf.arrays below sbelow b q.known q.names q.arrays waits fits c.todo m c.cells sf.cells sf.place a o le same alike all l)

    pub turn_goes : Does s p (turn s.program m (c ∷ below)) (state (sf ∷ sbelow) (objects_of m)) o 41 (weight c.todo)
    turn_goes = subst (λ n. Does s p (turn s.program m (c ∷ below)) (start_at n) o 41 (weight c.todo)) (sym q.same) (turn_by q.place)

    light_by : FirstLight c.todo → Place s p m c sf q.made q.back q.exit a → Does s p (turn s.program m (c ∷ below)) (start_at c.function) o 34 (weight c.todo)
    light_by is (Runs top whole tops l) = light_lies c.function q.back q.exit c.from c.arrays q.made sf.wants sf.arrays below sbelow b q.known q.names q.arrays waits fits c.todo m c.cells c.values sf.cells sf.place a o top is le whole same tops l
    light_by is (Begins e alike l all) =
        subst (λ (vs : List Value). Does s p (on_first c.todo stuck (λ i k. act s.program m below (record { function = c.function; from = c.from; arrays = c.arrays; cells = c.cells; values = vs; todo = k }) i)) (start_at c.function) o 34 (weight c.todo)) (sym e)
        (light_begins c.function q.back q.exit c.from c.arrays q.made sf.wants sf.arrays below sbelow b q.known q.names q.arrays waits fits c.todo m c.cells sf.cells sf.place a o is le same alike all l)

    pub light_goes : FirstLight c.todo → Does s p (turn s.program m (c ∷ below)) (state (sf ∷ sbelow) (objects_of m)) o 34 (weight c.todo)
    light_goes is = subst (λ n. Does s p (turn s.program m (c ∷ below)) (start_at n) o 34 (weight c.todo)) (sym q.same) (light_by is q.place)
