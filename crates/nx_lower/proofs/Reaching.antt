-- Slot code comes to where its program comes, for at most 64 instructions a step.
use Rattle.std.proofs.Common.{◌≡◌, ◌⊎◌, inl, inr, ℕ, zero, suc, ◌+◌, ◌*◌, ◌<◌, ◌≤◌, Bool, List, [], ◌∷◌, length, map, Some, refl, sym, ap, ◌∙◌, subst, arith}
use Rattle.std.specs.Prelude.{slice_get, if◌then◌else◌}
use Rattle.std.proofs.lemmas.Bool.{cases_lt}
use Rattle.std.proofs.lemmas.List.{length-map}
use Rattle.nx_base.specs.Arithmetic.{signed, word_of}
use Rattle.nx_checked.specs.declared.checked.UsedCall.{UsedCall}
use Rattle.nx_cobjects.specs.declared.value.Value.{Value}
use Rattle.nx_cobjects.specs.Groups.{Group}
use Rattle.nx_cobjects.specs.Memory.{memory}
use Rattle.nx_cmean.specs.Items.{entry_then}
use Rattle.nx_cmean.specs.Meaning.{Frame, Thread, thread, Answer, Next, Asks, Ends, Wrong, fun_at, opened, decided, settled, step, turn}
use Rattle.nx_cmean.specs.Meanings.{Reach, Still, Calls, Over, Full, Astray, later, go_on, within, run_of}
use Rattle.nx_cmean.specs.Runs.{stack_need, need, end_call, turn_of, Running, running, with_ending}
use Rattle.nx_slot.specs.Meaning.{Code, SlotFrame, SlotState, state, function_at}
use Rattle.nx_slot.specs.Meaning.{opened as slot_opened}
use Rattle.nx_slot.specs.Runs.{dearer}
use Rattle.nx_lower.specs.Shown.{counts_of, shown, objects_of}
use Rattle.nx_lower.specs.Code.{Source, counts}
use Rattle.nx_lower.specs.Bodies.{array_of, lower_fun}
use Rattle.nx_lower.specs.Sound.{SoundFun, SoundCall}
use Rattle.nx_lower.proofs.Steps.{Leads}
use Rattle.nx_lower.proofs.Lies.{EntryLies}
use Rattle.nx_lower.proofs.Entry.{opens}
use Rattle.nx_lower.proofs.Running.{Begins, Related, idle, DoesAsk, DoesEnd}
use Rattle.nx_lower.proofs.Answering.{Does}
use Rattle.nx_lower.proofs.Calling.{IsFresh, first_light, alike_params, within_stack, over_stack, Fills}
use Rattle.nx_lower.proofs.Advancing.{fresh_stays, turns_lightly, step_does}

pub within_over : (stack need : ℕ) (r : Reach Group Running) → stack < need → within stack need r ≡ Full need 1
within_over stack need r h = ap (λ (b : Bool). if b then Full need 1 else r) (over_stack stack need h)

pub within_fits : (stack need : ℕ) (r : Reach Group Running) → need ≤ stack → within stack need r ≡ r
within_fits stack need r h = ap (λ (b : Bool). if b then Full need 1 else r) (within_stack stack need h)

module _ (s : Source) (p : Code) (is : (g : ℕ) → g < length s.program.functions → function_at p g ≡ lower_fun s (fun_at s.program g)) (sound : (g : ℕ) → g < length s.program.functions → SoundFun s (fun_at s.program g)) (kernel : (j : ℕ) (c : UsedCall) → slice_get s.program.calls j ≡ Some c → SoundCall p.rows c) where
  -- The program's run.
  abbrev pub c_run : ℕ → Group → Running → Reach Group Running
  c_run n g r = run_of (λ g r. with_ending r.ending (turn_of r.ending (step s.program g r.thread))) (λ r. need s.program r.thread) p.stack n g r

  -- Slot code comes from a state to where the program comes in so many steps, of whose instructions some are spared.
  abbrev pub Reaches : SlotState → ℕ → ℕ → ℕ → Reach Group Running → Type 0
  Reaches start ending spare o (Still g r steps) = Unit {0}
  Reaches start ending spare o (Calls c g r steps) = (b : ℕ) × (spare + b ≤ 64 * steps) × DoesAsk s p c (memory g r.thread.own) r.thread.outputs r.thread.frames start o b × (r.ending ≡ ending)
  Reaches start ending spare o (Over c g steps) = (n : ℕ) × (b : ℕ) × (spare + b ≤ 64 * steps) × DoesEnd s p n g start o b × (c ≡ end_call ending (word_of (signed n)))
  Reaches start ending spare o (Full needed steps) = (b : ℕ) × (spare + b ≤ 64 * steps) × Fills s p is sound needed start o b
  Reaches start ending spare o (Astray steps) = Unit {0}

  reaches_then : (r : Reach Group Running) (start mid : SlotState) (ending c turns x y k spare : ℕ) → Leads p start mid c turns → c + x ≤ y + k → spare + k ≤ 64 → Reaches mid ending 0 x r → Reaches start ending spare y (later r)
  reaches_then (Still g r steps) start mid ending c turns x y k spare l le less d = tt
  reaches_then (Calls call g r steps) start mid ending c turns x y k spare l le less d =
      let small = d.1 in let w = d.2 in let j = l.by w.turns in let paid = w.paid in (
        k + d.0,
        omega (arith, less, small),
        record {
          to = w.to;
          pointers = w.pointers;
          cost = c + w.cost;
          owed = w.owed;
          turns = j.0;
          runs = j.2 ∙ ap (dearer c) w.runs;
          same = w.same;
          points = w.points;
          ready = w.ready;
          waits = w.waits;
          some = w.some;
          fits = w.fits;
          paid = omega (arith, le, paid);
        },
        d.3,
      )
  reaches_then (Over call g steps) start mid ending c turns x y k spare l le less d =
      let small = d.2 in let w = d.3 in let j = l.by w.turns in let paid = w.paid in (
        d.0,
        k + d.1,
        omega (arith, less, small),
        record { own = w.own; group = w.group; same = w.same; cost = c + w.cost; turns = j.0; runs = j.2 ∙ ap (dearer c) w.runs; paid = omega (arith, le, paid) },
        d.4,
      )
  reaches_then (Full needed steps) start mid ending c turns x y k spare l le less d =
      let small = d.1 in let w = d.2 in let j = l.by w.turns in let paid = w.paid in
      (k + d.0, omega (arith, less, small), record { cost = c + w.cost; turns = j.0; runs = j.2 ∙ ap (dearer c) w.runs; paid = omega (arith, le, paid) })
  reaches_then (Astray steps) start mid ending c turns x y k spare l le less d = tt

  -- Where slot code is alike, so many steps of the program are followed.
  abbrev Follows : ℕ → Type 0
  Follows n =
      (g : Group) (ending : ℕ) (t : Thread) (fs : List SlotFrame) (o : ℕ) → counts_of g ≡ counts s → Related s p (memory g t.own) t.frames fs o → stack_need s.program t.frames ≤ p.stack → Reaches (state fs (objects_of (memory g t.own))) ending 0 o (c_run n g (running ending t))

  answer_reaches : (a : Answer) (n : ℕ) (start : SlotState) (ending o k room spare : ℕ) → spare + k ≤ 64 → Does s p a start o k room → Follows n → Reaches start ending spare o (go_on (with_ending ending (turn_of ending a)) (c_run n))
  answer_reaches (Next g t) n start ending o k room spare less w more =
      let paid = w.paid in
      reaches_then (c_run n g (running ending t)) start (state w.to (objects_of (memory g t.own))) ending w.cost w.turns w.owed o k spare w.leads (omega (arith, paid)) less (more g ending t w.to w.owed w.same w.related w.fits)
  answer_reaches (Asks c g t) n start ending o k room spare less d more = (k, omega (arith, less), d, refl)
  answer_reaches (Ends z g) n start ending o k room spare less d more = (d.0, k, omega (arith, less), d.2, ap (λ z. end_call ending (word_of z)) (sym d.1))
  answer_reaches (Wrong kind) n start ending o k room spare less d more = tt

  pub reaches : (n : ℕ) → Follows n
  unfolding run_of
  reaches zero g ending t fs o same r fits = tt
  reaches (suc n) g ending t fs o same r fits = go (λ g ending t fs o same r fits. reaches n g ending t fs o same r fits) (cases_lt p.stack (need s.program t))
    where
      go : Follows n → (p.stack < need s.program t) ⊎ (need s.program t ≤ p.stack) → Reaches (state fs (objects_of (memory g t.own))) ending 0 o (within p.stack (need s.program t) (go_on (with_ending ending (turn_of ending (step s.program g t))) (c_run n)))
      go more (inl full) =
          let w = step_does s p is sound kernel (memory g t.own) t.frames fs o r same fits in
          subst (λ (q : Reach Group Running). Reaches (state fs (objects_of (memory g t.own))) ending 0 o q) (sym (within_over p.stack (need s.program t) _ full)) (30, omega arith, w.fills full)
      go more (inr room) =
          let w = step_does s p is sound kernel (memory g t.own) t.frames fs o r same fits in
          subst (λ (q : Reach Group Running). Reaches (state fs (objects_of (memory g t.own))) ending 0 o q) (sym (within_fits p.stack (need s.program t) _ room))
          (answer_reaches (step s.program g t) n (state fs (objects_of (memory g t.own))) ending o 64 (idle s p t.frames) 0 (omega arith) (w.does room) more)

  -- A thread begins.
  abbrev pub first_frames : ℕ → List Value → List Frame
  first_frames f args = opened s.program f 0 args ∷ []

  abbrev pub first_slots : ℕ → List Value → List SlotFrame
  first_slots f args = slot_opened f (map (shown (counts s)) args) ∷ []

  pub fresh_first : (f : ℕ) (args : List Value) → f < length s.program.functions → IsFresh (first_frames f args)
  fresh_first f args known = first_light (fun_at s.program f) (fun_at s.program f).locals refl (sound f known).locals

  pub first_related : (g : Group) (f : ℕ) (args : List Value) → f < length s.program.functions → length args ≡ length (fun_at s.program f).params → Related s p (memory g []) (first_frames f args) (first_slots f args) 0
  first_related g f args known count =
      let code = opens s p f (fun_at s.program f) (is f known) (sound f known) in (
        0,
        0,
        omega arith,
        record {
          same = refl;
          known = known;
          made = 0;
          names = refl;
          arrays = sym (length-map (fun_at s.program f).arrays array_of) ∙ sym (ap (λ x. length x.arrays) (is f known));
          back = code.end;
          exit = code.end;
          place = Begins refl (alike_params (counts s) args) (subst (λ n. EntryLies s p f code.end code.end (entry_then (fun_at s.program f) []) 0 (record { cells = n; made = 0 }) 0) (sym count) code.lies) refl;
        },
        tt,
      )

  settled_fresh : (t : List Frame) (own : ℕ) → IsFresh t → settled s.program own t ≡ t
  settled_fresh t own h =
      let e = fresh_stays s p is sound kernel t own h in
      ap (λ t. decided s.program own (decided s.program own t)) e ∙ ap (λ t. decided s.program own t) e ∙ e

  pub first_need : (f : ℕ) (args : List Value) → f < length s.program.functions → need s.program (thread [] (first_frames f args) []) ≡ stack_need s.program (first_frames f args)
  first_need f args known = ap (λ t. stack_need s.program t) (settled_fresh (first_frames f args) 0 (fresh_first f args known))

  pub first_reaches : (n : ℕ) (g : Group) (ending f : ℕ) (args : List Value) → counts_of g ≡ counts s → f < length s.program.functions → length args ≡ length (fun_at s.program f).params → stack_need s.program (first_frames f args) ≤ p.stack
      → Reaches (state (first_slots f args) (objects_of (memory g []))) ending 14 0 (c_run n g (running ending (thread [] (first_frames f args) [])))
  unfolding run_of
  first_reaches zero g ending f args same known count fits = tt
  first_reaches (suc n) g ending f args same known count fits =
      let t = thread [] (first_frames f args) [] in let m = memory g [] in
      let start = state (first_slots f args) (objects_of m) in
      let few = first_need f args known in
      let light = turns_lightly s p is sound kernel m (first_frames f args) (first_slots f args) 0 (fresh_first f args known) (first_related g f args known count) same fits in
      let does = subst (λ (t : List Frame). Does s p (turn s.program m t) start 0 34 (idle s p (first_frames f args))) (sym (settled_fresh (first_frames f args) 0 (fresh_first f args known))) light in
      subst (λ (q : Reach Group Running). Reaches start ending 14 0 q) (sym (within_fits p.stack (need s.program t) _ (omega (arith, few, fits))))
      (answer_reaches (step s.program g t) n start ending 0 34 (idle s p (first_frames f args)) 14 (omega arith) does (reaches n))
