-- What slot code does where C answers, and how a call ends.
use Rattle.std.proofs.Common.{◌≡◌, ℕ, ◌+◌, ◌≤◌, List, [], ◌∷◌, refl, ap, ◌∙◌, arith}
use Rattle.nx_base.specs.Arithmetic.{signed}
use Rattle.nx_base.specs.Calls.{Call}
use Rattle.nx_cobjects.specs.declared.value.Value.{Value}
use Rattle.nx_cobjects.specs.declared.value.Value.TheVariants as value
use Rattle.nx_cobjects.specs.Memory.{Memory, memory, end_arrays}
use Rattle.nx_cmean.specs.Items.{Item, Rest, Fall, Start, Gap, Make}
use Rattle.nx_cmean.specs.Meaning.{Frame, Answer, Next, Asks, Ends, Wrong, left}
use Rattle.nx_cmean.specs.Runs.{stack_need}
use Rattle.nx_slot.specs.Objects as slot
use Rattle.nx_slot.specs.Meaning.{Code, SlotFrame, SlotState, state, Goes, Requests, Finishes, delivered, step}
use Rattle.nx_slot.specs.Runs.{Requested, Finished, then_on, dearer, run}
use Rattle.nx_lower.specs.Shown.{counts_of, shown, objects_of}
use Rattle.nx_lower.specs.Code.{Source, counts}
use Rattle.nx_lower.proofs.Steps.{Leads, leads_on, leads_one}
use Rattle.nx_lower.proofs.Running.{AllWait, resume, Went, DoesAsk, DoesEnd}

-- What stands first where a call of a function is entered.
abbrev pub IsLight : Item → Type 0
IsLight (Start t) = Unit {0}
IsLight (Gap n) = Unit {0}
IsLight (Make a) = Unit {0}
IsLight (Rest ss) = Unit {0}
IsLight Fall = Unit {0}
IsLight i = ⊥

abbrev pub FirstLight : List Item → Type 0
FirstLight [] = ⊥
FirstLight (i ∷ k) = IsLight i

abbrev int_or : ℕ → Value → ℕ
int_or d (value.Int n) = n
int_or d (value.Point o at) = d
int_or d (value.Forged n) = d
int_or d (value.Entry g) = d

pub int_value : (a b : ℕ) → value.Int a ≡ value.Int b → a ≡ b
int_value a b e = ap (int_or a) e

module _ (s : Source) (p : Code) where
  -- What a step of C answers, slot code does.
  abbrev pub Does : Answer → SlotState → ℕ → ℕ → ℕ → Type 0
  Does (Next g t) start o budget room = Went s p (memory g t.own) t.frames start o budget room
  Does (Asks c g t) start o budget room = DoesAsk s p c (memory g t.own) t.outputs t.frames start o budget
  Does (Ends z g) start o budget room = (n : ℕ) × (signed n ≡ z) × DoesEnd s p n g start o budget
  Does (Wrong kind) start o budget room = Unit {0}

  -- The same from a place before, from which jumps lead on.
  pub went_after : (m : Memory) (t : List Frame) (start mid : SlotState) (c r o budget room : ℕ) → Leads p start mid c 0 → c + r ≤ o → Went s p m t mid r budget room → Went s p m t start o budget room
  went_after m t start mid c r o budget room l le w =
      let paid = w.paid in
      record {
        to = w.to;
        cost = c + w.cost;
        owed = w.owed;
        turns = 0 + w.turns;
        leads = leads_on p start mid (state w.to (objects_of m)) c w.cost 0 w.turns l w.leads;
        moves_on = λ e. w.moves_on (omega (arith, e));
        same = w.same;
        related = w.related;
        fits = w.fits;
        paid = omega (arith, le, paid);
      }

  pub does_after : (a : Answer) (start mid : SlotState) (c r o budget room : ℕ) → Leads p start mid c 0 → c + r ≤ o → Does a mid r budget room → Does a start o budget room
  does_after (Next g t) start mid c r o budget room l le w = went_after (memory g t.own) t.frames start mid c r o budget room l le w
  does_after (Asks call g t) start mid c r o budget room l le w =
      let x = l.by w.turns in let paid = w.paid in
      record {
        to = w.to;
        pointers = w.pointers;
        cost = c + w.cost;
        owed = w.owed;
        turns = x.0;
        runs = x.2 ∙ ap (dearer c) w.runs;
        same = w.same;
        points = w.points;
        ready = w.ready;
        waits = w.waits;
        some = w.some;
        fits = w.fits;
        paid = omega (arith, le, paid);
      }
  does_after (Ends z g) start mid c r o budget room l le d =
      let w = d.2 in let x = l.by w.turns in let paid = w.paid in (
        d.0,
        d.1,
        record {
          own = w.own;
          group = w.group;
          same = w.same;
          cost = c + w.cost;
          turns = x.0;
          runs = x.2 ∙ ap (dearer c) w.runs;
          paid = omega (arith, le, paid);
        },
      )
  does_after (Wrong kind) start mid c r o budget room l le w = tt

  -- A call alone is over, or makes a call of the kernel.
  pub finishes : (start : SlotState) (n : ℕ) (os : List slot.Object) (c : ℕ) → step p start ≡ Finishes n os c → run p 1 start ≡ Finished n os c
  unfolding run
  finishes start n os c e = ap (λ t. then_on t (run p 0)) e

  pub requests : (start to : SlotState) (call : Call) (pointers : List slot.Value) (c : ℕ) → step p start ≡ Requests call pointers to c → run p 1 start ≡ Requested call pointers to c
  unfolding run
  requests start to call pointers c e = ap (λ t. then_on t (run p 0)) e

  -- A value comes to the call below, or the thread is over.
  pub leaves : (m : Memory) (fr : Frame) (below : List Frame) (sbelow : List SlotFrame) (v : Value) (start : SlotState) (b o budget room : ℕ) → 20 + b ≤ o + budget → counts_of m.group ≡ counts s → AllWait s p below sbelow b → stack_need s.program below ≤ p.stack
      → ((caller : SlotFrame) (others : List SlotFrame) → sbelow ≡ caller ∷ others → step p start ≡ Goes (state (delivered (caller ∷ others) (shown (counts s) v)) (objects_of (memory m.group (end_arrays m.own fr.from fr.arrays)))) 20)
      → ((n : ℕ) → sbelow ≡ [] → v ≡ value.Int n → step p start ≡ Finishes n (objects_of (memory m.group (end_arrays m.own fr.from fr.arrays))) 20) → Does (left m fr below v) start o budget room
  leaves m fr [] (f ∷ fs) v start b o budget room paid same waits fits go over = absurd waits
  leaves m fr (c ∷ cs) [] v start b o budget room paid same waits fits go over = absurd waits
  leaves m fr [] [] (value.Int n) start b o budget room paid same waits fits go over =
      let after = memory m.group (end_arrays m.own fr.from fr.arrays) in (
        n,
        refl,
        record { own = after; group = refl; same = same; cost = 20; turns = 1; runs = finishes start n (objects_of after) 20 (over n refl refl); paid = omega (arith, paid) },
      )
  leaves m fr [] [] (value.Point a place) start b o budget room paid same waits fits go over = tt
  leaves m fr [] [] (value.Forged n) start b o budget room paid same waits fits go over = tt
  leaves m fr [] [] (value.Entry g) start b o budget room paid same waits fits go over = tt
  leaves m fr (c ∷ cs) (f ∷ fs) v start b o budget room paid same waits fits go over =
      let after = memory m.group (end_arrays m.own fr.from fr.arrays) in
      let to = delivered (f ∷ fs) (shown (counts s) v) in
      record {
        to = to;
        cost = 20;
        owed = b;
        turns = 1;
        leads = leads_one p start (state to (objects_of after)) 20 (go f fs refl);
        moves_on = λ e. absurd (omega (arith, e));
        same = same;
        related = resume s p after (c ∷ cs) (f ∷ fs) b v (omega arith) waits;
        fits = fits;
        paid = paid;
      }
