-- Each step of C: the decisions that stand first, and then an item.
use Rattle.std.proofs.Common.{◌≡◌, ℕ, zero, suc, ◌+◌, ◌<◌, ◌≤◌, List, [], ◌∷◌, length, Some, refl, sym, ap, ◌∙◌, subst, arith}
use Rattle.std.specs.Prelude.{slice_get}
use Rattle.nx_checked.specs.declared.checked.UsedCall.{UsedCall}
use Rattle.nx_cobjects.specs.declared.value.Value.{Value}
use Rattle.nx_cobjects.specs.Memory.{Memory, memory}
use Rattle.nx_cmean.specs.Items.{Item, Enter, Start, Gap, Make, Rest, Fall}
use Rattle.nx_cmean.specs.Meaning.{Frame, Answer, Next, Asks, Ends, Wrong, stuck, on_first, fun_at, decide, decided, settled, act, turn}
use Rattle.nx_cmean.specs.Runs.{stack_need}
use Rattle.nx_slot.specs.Meaning.{Code, SlotFrame, SlotState, state, function_at}
use Rattle.nx_slot.specs.Runs.{dearer}
use Rattle.nx_lower.specs.Shown.{counts_of, objects_of}
use Rattle.nx_lower.specs.Code.{Source, counts}
use Rattle.nx_lower.specs.Bodies.{lower_fun}
use Rattle.nx_lower.specs.Sound.{SoundFun, SoundCall}
use Rattle.nx_lower.proofs.Steps.{Leads, leads_on}
use Rattle.nx_lower.proofs.Running.{Related, idle}
use Rattle.nx_lower.proofs.Answering.{IsLight, FirstLight, Does}
use Rattle.nx_lower.proofs.Calling.{IsFresh, NeverEnters, IsRefused, Fills, Calls, Enters, Refuses, Comes}
use Rattle.nx_lower.proofs.Stepped.{calls_then, decided_goes, turn_goes, light_goes}

module _ (s : Source) (p : Code) (is : (g : ℕ) → g < length s.program.functions → function_at p g ≡ lower_fun s (fun_at s.program g)) (sound : (g : ℕ) → g < length s.program.functions → SoundFun s (fun_at s.program g)) (kernel : (j : ℕ) (c : UsedCall) → slice_get s.program.calls j ≡ Some c → SoundCall p.rows c) where
  abbrev CallsTo : Memory → List Frame → SlotState → ℕ → ℕ → Type 0
  CallsTo m t start o room = Calls s p is sound m t start o room

  -- Calls that decide nothing stay.
  light_stays : (i : Item) (own : ℕ) (below : List Frame) (function from arrays : ℕ) (cells vs : List Value) (k : List Item) → IsLight i
      → decide s.program own below (record { function = function; from = from; arrays = arrays; cells = cells; values = vs; todo = k }) i ≡ record { function = function; from = from; arrays = arrays; cells = cells; values = vs; todo = i ∷ k } ∷ below
  light_stays (Start t) own below function from arrays cells vs k h = refl
  light_stays (Gap n) own below function from arrays cells vs k h = refl
  light_stays (Make a) own below function from arrays cells vs k h = refl
  light_stays (Rest ss) own below function from arrays cells vs k h = refl
  light_stays Fall own below function from arrays cells vs k h = refl
  light_stays i own below function from arrays cells vs k h = absurd h

  fresh_first : (todo : List Item) (own : ℕ) (below miss : List Frame) (function from arrays : ℕ) (cells vs : List Value) → FirstLight todo
      → on_first todo miss (λ i k. decide s.program own below (record { function = function; from = from; arrays = arrays; cells = cells; values = vs; todo = k }) i) ≡ record { function = function; from = from; arrays = arrays; cells = cells; values = vs; todo = todo } ∷ below
  fresh_first [] own below miss function from arrays cells vs h = absurd h
  fresh_first (i ∷ k) own below miss function from arrays cells vs h = light_stays i own below function from arrays cells vs k h

  pub fresh_stays : (t : List Frame) (own : ℕ) → IsFresh t → decided s.program own t ≡ t
  fresh_stays [] own h = absurd h
  fresh_stays (c ∷ below) own h = fresh_first c.todo own below (c ∷ below) c.function c.from c.arrays c.cells c.values h

  refused_first : (todo : List Item) (own : ℕ) (below miss : List Frame) (function from arrays : ℕ) (cells vs : List Value) → vs ≡ [] → NeverEnters todo
      → on_first todo miss (λ i k. decide s.program own below (record { function = function; from = from; arrays = arrays; cells = cells; values = vs; todo = k }) i) ≡ record { function = function; from = from; arrays = arrays; cells = cells; values = vs; todo = todo } ∷ below
  refused_first (Enter g (suc n) ∷ k) own below miss function from arrays cells [] e h = refl
  refused_first (Enter g (suc n) ∷ k) own below miss function from arrays cells (v ∷ vs) e h = absurd cc
  refused_first (Enter g zero ∷ k) own below miss function from arrays cells vs e h = absurd h
  refused_first [] own below miss function from arrays cells vs e h = absurd h
  refused_first (i ∷ k) own below miss function from arrays cells vs e h = absurd h

  refused_stays : (t : List Frame) (own : ℕ) → IsRefused t → decided s.program own t ≡ t
  refused_stays [] own h = absurd h
  refused_stays (c ∷ below) own h = refused_first c.todo own below (c ∷ below) c.function c.from c.arrays c.cells c.values h.0 h.1

  -- What is never entered is wrong.
  refused_does : (t : List Frame) (m : Memory) (start : SlotState) (o budget room : ℕ) → IsRefused t → Does s p (turn s.program m t) start o budget room
  refused_does [] m start o budget room h = absurd h
  refused_does (c ∷ below) m start o budget room h = go c.todo h.1
    where
      go : (todo : List Item) → NeverEnters todo → Does s p (on_first todo stuck (λ i k. act s.program m below (record { function = c.function; from = c.from; arrays = c.arrays; cells = c.cells; values = c.values; todo = k }) i)) start o budget room
      go (Enter g (suc n) ∷ k) h = tt
      go (Enter g zero ∷ k) h = absurd h
      go [] h = absurd h
      go (i ∷ k) h = absurd h

  -- One decision, and three.
  decides : (m : Memory) (t : List Frame) (fs : List SlotFrame) (own o : ℕ) → Related s p m t fs o → counts_of m.group ≡ counts s → own ≡ length m.own → stack_need s.program t ≤ p.stack → CallsTo m (decided s.program own t) (state fs (objects_of m)) o (suc (idle s p t))
  decides m [] fs own o r same last fits = absurd r
  decides m (c ∷ below) [] own o r same last fits = absurd r
  decides m (c ∷ below) (sf ∷ sbelow) own o r same last fits = decided_goes s p is sound kernel m c below sf sbelow r.0 r.1 o r.2 r.3 r.4 same fits own last

  decides_more : (m : Memory) (t : List Frame) (start : SlotState) (own o room : ℕ) → own ≡ length m.own → CallsTo m t start o room → CallsTo m (decided s.program own t) start o room
  decides_more m t start own o room last (Enters fresh fits full) = subst (λ t. CallsTo m t start o room) (sym (fresh_stays t own fresh)) (Enters fresh fits full)
  decides_more m t start own o room last (Refuses h fits) = subst (λ t. CallsTo m t start o room) (sym (refused_stays t own h)) (Refuses h fits)
  decides_more m t start own o room last (Comes w) =
      let paid = w.paid in
      calls_then s p is sound kernel m (decided s.program own t) start (state w.to (objects_of m)) w.cost w.owed w.turns o (suc (idle s p t)) room w.leads (omega (arith, paid)) (λ e. let h = w.moves_on e in omega (arith, h)) (decides m t w.to own w.owed w.related w.same last w.fits)

  settles : (m : Memory) (t : List Frame) (fs : List SlotFrame) (own o : ℕ) → Related s p m t fs o → counts_of m.group ≡ counts s → own ≡ length m.own → stack_need s.program t ≤ p.stack → CallsTo m (settled s.program own t) (state fs (objects_of m)) o (suc (idle s p t))
  settles m t fs own o r same last fits =
      let start = state fs (objects_of m) in let one = decided s.program own t in
      decides_more m (decided s.program own one) start own o (suc (idle s p t)) last (decides_more m one start own o (suc (idle s p t)) last (decides m t fs own o r same last fits))

  -- What is done after operations.
  does_then : (a : Answer) (start mid : SlotState) (c r turns o x y room wide : ℕ) → Leads p start mid c turns → c + r + x ≤ o + y → (turns ≡ 0 → room ≤ wide) → Does s p a mid r x room → Does s p a start o y wide
  does_then (Next g t) start mid c r turns o x y room wide l le less w =
      let paid = w.paid in
      record {
        to = w.to;
        cost = c + w.cost;
        owed = w.owed;
        turns = turns + w.turns;
        leads = leads_on p start mid (state w.to (objects_of (memory g t.own))) c w.cost turns w.turns l w.leads;
        moves_on = λ e. let a = less (omega (arith, e)) in let b = w.moves_on (omega (arith, e)) in omega (arith, a, b);
        same = w.same;
        related = w.related;
        fits = w.fits;
        paid = omega (arith, le, paid);
      }
  does_then (Asks call g t) start mid c r turns o x y room wide l le less w =
      let j = l.by w.turns in let paid = w.paid in
      record { to = w.to; pointers = w.pointers; cost = c + w.cost; owed = w.owed; turns = j.0; runs = j.2 ∙ ap (dearer c) w.runs; same = w.same; points = w.points; ready = w.ready; waits = w.waits; some = w.some; fits = w.fits; paid = omega (arith, le, paid) }
  does_then (Ends z g) start mid c r turns o x y room wide l le less d =
      let w = d.2 in let j = l.by w.turns in let paid = w.paid in
      (d.0, d.1, record { own = w.own; group = w.group; same = w.same; cost = c + w.cost; turns = j.0; runs = j.2 ∙ ap (dearer c) w.runs; paid = omega (arith, le, paid) })
  does_then (Wrong kind) start mid c r turns o x y room wide l le less w = tt

  turns_by : (m : Memory) (t : List Frame) (fs : List SlotFrame) (o : ℕ) → Related s p m t fs o → counts_of m.group ≡ counts s → stack_need s.program t ≤ p.stack → Does s p (turn s.program m t) (state fs (objects_of m)) o 41 (idle s p t)
  turns_by m [] fs o r same fits = absurd r
  turns_by m (c ∷ below) [] o r same fits = absurd r
  turns_by m (c ∷ below) (sf ∷ sbelow) o r same fits = turn_goes s p is sound kernel m c below sf sbelow r.0 r.1 o r.2 r.3 r.4 same fits

  pub turns_lightly : (m : Memory) (t : List Frame) (fs : List SlotFrame) (o : ℕ) → IsFresh t → Related s p m t fs o → counts_of m.group ≡ counts s → stack_need s.program t ≤ p.stack → Does s p (turn s.program m t) (state fs (objects_of m)) o 34 (idle s p t)
  turns_lightly m [] fs o fresh r same fits = absurd r
  turns_lightly m (c ∷ below) [] o fresh r same fits = absurd r
  turns_lightly m (c ∷ below) (sf ∷ sbelow) o fresh r same fits = light_goes s p is sound kernel m c below sf sbelow r.0 r.1 o r.2 r.3 r.4 same fits fresh

  -- A step takes at most 64 instructions, or the stack is full where C's is.
  pub record Steps (t : List Frame) (a : Answer) (start : SlotState) (o room : ℕ) : Type 0 where
    pub does : stack_need s.program t ≤ p.stack → Does s p a start o 64 room
    pub fills : p.stack < stack_need s.program t → Fills s p is sound (stack_need s.program t) start o 30

  steps_by : (m : Memory) (t : List Frame) (start : SlotState) (o room : ℕ) → CallsTo m t start o (suc room) → Steps t (turn s.program m t) start o room
  steps_by m t start o room (Refuses h fits) = record { does = λ e. refused_does t m start o 64 room h; fills = λ full. absurd (omega (arith, full, fits)) }
  steps_by m t start o room (Comes w) = record {
    does = λ fits.
        let paid = w.paid in
        does_then (turn s.program m t) start (state w.to (objects_of m)) w.cost w.owed w.turns o 41 64 (idle s p t) room w.leads (omega (arith, paid)) (λ e. let h = w.moves_on e in omega (arith, h)) (turns_by m t w.to w.owed w.related w.same w.fits);
    fills = λ full. let fits = w.fits in absurd (omega (arith, full, fits));
  }
  steps_by m t start o room (Enters fresh fits full) = record {
    does = λ h.
        let w = fits h in let paid = w.paid in
        does_then (turn s.program m t) start (state w.to (objects_of m)) w.cost w.owed w.turns o 34 64 (idle s p t) room w.leads (omega (arith, paid)) (λ e. let h = w.moves_on e in omega (arith, h)) (turns_lightly m t w.to w.owed fresh w.related w.same w.fits);
    fills = full;
  }

  pub step_does : (m : Memory) (t : List Frame) (fs : List SlotFrame) (o : ℕ) → Related s p m t fs o → counts_of m.group ≡ counts s → stack_need s.program t ≤ p.stack
      → Steps (settled s.program (length m.own) t) (turn s.program m (settled s.program (length m.own) t)) (state fs (objects_of m)) o (idle s p t)
  step_does m t fs o r same fits = steps_by m (settled s.program (length m.own) t) (state fs (objects_of m)) o (idle s p t) (settles m t fs (length m.own) o r same refl fits)
