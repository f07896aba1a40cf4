-- Slot code keeps its program.
use Rattle.std.proofs.Common.{◌≡◌, ℕ, zero, suc, ◌+◌, ◌-◌, ◌*◌, ◌<◌, ◌≤◌, true, false, List, [], ◌∷◌, ◌++◌, length, map, refl, sym, ap, ◌∙◌, subst, arith, length-append}
use Rattle.std.specs.Prelude.{take, drop}
use Rattle.std.proofs.lemmas.List.{length-map}
use Rattle.std.proofs.Math.Seq.{take-append_seam, drop-append_seam}
use Rattle.nx_base.specs.Arithmetic.{signed, word_of}
use Rattle.nx_base.specs.Calls.{Call, Reply, Rows, meant, Fits}
use Rattle.nx_checked.specs.declared.checked.Scalar.{Scalar}
use Rattle.nx_cobjects.specs.declared.value.Value.{Value}
use Rattle.nx_cobjects.specs.declared.value.Value.TheVariants as value
use Rattle.nx_cobjects.specs.Groups.{Group}
use Rattle.nx_cobjects.specs.Memory.{Memory, memory}
use Rattle.nx_cobjects.specs.Buffers.{replied}
use Rattle.nx_cmean.specs.Meaning.{Frame, Thread, thread, fun_at, given, first_args}
use Rattle.nx_cmean.specs.Meanings.{Both, Reach, Still, Calls, Over, Full, Astray, Meaning}
use Rattle.nx_cmean.specs.Runs.{stack_need, need, end_call, Running, running, output}
use Rattle.nx_cmean.specs.Lowered.{Agrees, Lowers, Lowered}
use Rattle.nx_slot.specs.Objects as slot
use Rattle.nx_slot.specs.Calls.{with_outputs}
use Rattle.nx_slot.specs.Meaning.{Code, SlotFrame, SlotState, state, function_at, delivered}
use Rattle.nx_slot.specs.Runs.{SlotReach, Going, Requested, Finished, Overflowed, Failed, dearer, run, globals_in}
use Rattle.nx_lower.specs.Shown.{Counts, counts_of, statics_in, shown, object_shown, scalar_shown, statics_of, objects_of}
use Rattle.nx_lower.specs.Code.{Source, counts}
use Rattle.nx_lower.specs.Bodies.{lower_fun, code_of}
use Rattle.nx_lower.specs.Sound.{SoundProgram}
use Rattle.nx_keeps.specs.Programs.{SlotThread, Runs, Waits, own_state, reach_of, thread_run, both_of, first_values, slot_program}
use Rattle.nx_lower.specs.Programs.{source_program, SameGlobals}
use Rattle.nx_lower.proofs.Entry.{function_is}
use Rattle.nx_lower.proofs.Telling.{all_told, all_counts}
use Rattle.nx_lower.proofs.Running.{Related, DoesAsk, resume}
use Rattle.nx_lower.proofs.Reaching.{c_run, Reaches, reaches}
use Rattle.nx_lower.proofs.Moving.{IsGoing, where_same, goes_on}

-- So many objects are a group's.
statics_length : (g : Group) → length (statics_of g) ≡ statics_in (counts_of g)
statics_length g =
    let a = map scalar_shown g.scalars in let b = map (object_shown false) g.arrays in let t = map (object_shown true) g.texts in
    omega (arith, length-append a (b ++ t), length-append b t, length-map g.scalars scalar_shown, length-map g.arrays (object_shown false), length-map g.texts (object_shown true))

pub same_length : (c : Counts) (x y : Group) → counts_of x ≡ c → counts_of y ≡ c → length (statics_of x) ≡ length (statics_of y)
same_length c x y e h = statics_length x ∙ ap (λ (c : Counts). statics_in c) (e ∙ sym h) ∙ sym (statics_length y)

-- A value that comes to a call changes no need.
given_need : (s : Source) (fs : List Frame) (v : Value) → stack_need s.program (given fs v) ≡ stack_need s.program fs
given_need s [] v = refl
given_need s (f ∷ fs) v = refl

-- The first values of a thread.
pub args_same : (c : Counts) (ts : List Scalar) (n : ℕ) → map (shown c) (first_args ts n) ≡ first_values (length ts) n
args_same c [] n = refl
args_same c (t ∷ ts) n = refl

pub args_length : (ts : List Scalar) (n : ℕ) → length ts ≤ 1 → length (first_args ts n) ≡ length ts
args_length [] n h = refl
args_length (t ∷ []) n h = refl
args_length (t ∷ u ∷ ts) n h = absurd (omega (arith, h))

-- A run that goes on is somewhere.
going_is : (count ending : ℕ) (c : ℕ) (r : SlotReach) → IsGoing r → (x : List slot.Object) × (y : SlotThread) × (cost : ℕ) × (reach_of count ending (dearer c r) ≡ Still x y cost)
going_is count ending c (Going s cost) h = (globals_in count s.objects, Runs ending (own_state count s), c + cost, refl)
going_is count ending c (Requested call pointers s cost) h = absurd h
going_is count ending c (Finished n os cost) h = absurd h
going_is count ending c (Overflowed need cost) h = absurd h
going_is count ending c (Failed fault) h = absurd h

abbrev both_at : ℕ → List slot.Object → List slot.Object → List SlotFrame → Both (List slot.Object) SlotThread
both_at ending g own fs = record { globals = g; thread = Runs ending (state fs own) }

dearer_none : (r : SlotReach) → dearer 0 r ≡ r
dearer_none (Going s cost) = ap (Going s) (omega arith)
dearer_none (Requested call outputs s cost) = ap (Requested call outputs s) (omega arith)
dearer_none (Finished n os cost) = ap (Finished n os) (omega arith)
dearer_none (Overflowed need cost) = ap (Overflowed need) (omega arith)
dearer_none (Failed fault) = refl

module _ (s : Source) (rows : Rows) (main stack : ℕ) (sound : SoundProgram s rows) where
  abbrev pub p : Code
  p = code_of s rows stack

  abbrev pub M : Meaning
  M = source_program s rows main stack

  abbrev pub N : Meaning
  N = slot_program (code_of s rows stack) main

  abbrev pub Entry : Call → Call → Type 0
  Entry c d = d ≡ c

  pub is : (g : ℕ) → g < length s.program.functions → function_at p g ≡ lower_fun s (fun_at s.program g)
  is g h = function_is s rows stack g h

  abbrev pub Keeps : ℕ → Running → SlotThread → ℕ → Type 0
  Keeps calls r u saved = Lowered M N rows (SameGlobals s) Entry 64 calls r u saved

  abbrev pub run_c : ℕ → Group → Running → Reach Group Running
  run_c n g r = c_run s p is sound.functions sound.calls n g r

  abbrev ReachesTo : SlotState → ℕ → ℕ → ℕ → Reach Group Running → Type 0
  ReachesTo start ending spare o r = Reaches s p is sound.functions sound.calls start ending spare o r

  -- A thread's runs are those of a state, which some instructions come before.
  abbrev pub ShowsAt : SlotThread → List slot.Object → ℕ → ℕ → SlotState → Type 0
  ShowsAt u gu ending spare start = (n : ℕ) → thread_run p n gu u ≡ reach_of (length gu) ending (dearer spare (run p n start))

  -- All that is kept of a thread that was called back.
  abbrev pub KeepsOn : ℕ → Type 0
  KeepsOn calls =
      (ending : ℕ) (t : Thread) (fs : List SlotFrame) (o saved : ℕ) → ((g : Group) → Related s p (memory g t.own) t.frames fs o) → stack_need s.program t.frames ≤ stack → o ≤ saved → Keeps calls (running ending t) (Runs ending (state fs (map (object_shown false) t.own))) saved

  -- The objects of a group and those of a thread.
  front : (gu : List slot.Object) (g : Group) (m : Memory) → SameGlobals s g gu → counts_of m.group ≡ counts s → take (length gu) (objects_of m) ≡ statics_of m.group
  front gu g m same e =
      let n : length gu ≡ length (statics_of m.group) = ap length same.objects ∙ same_length (counts s) g m.group same.counts e in
      ap (λ n. take n (objects_of m)) n ∙ take-append_seam (statics_of m.group) (map (object_shown false) m.own)

  behind : (gu : List slot.Object) (g : Group) (m : Memory) → SameGlobals s g gu → counts_of m.group ≡ counts s → drop (length gu) (objects_of m) ≡ map (object_shown false) m.own
  behind gu g m same e =
      let n : length gu ≡ length (statics_of m.group) = ap length same.objects ∙ same_length (counts s) g m.group same.counts e in
      ap (λ n. drop n (objects_of m)) n ∙ drop-append_seam (statics_of m.group) (map (object_shown false) m.own)

  -- A reply is the same in both.
  replied_is : (c : Call) (m : Memory) (outputs : List Value) (t : List Frame) (start : SlotState) (o b : ℕ) (w : DoesAsk s p c m outputs t start o b) (ending : ℕ) (x : Group) (y : List slot.Object) (a : Reply) → SameGlobals s x y → Fits rows (meant rows c) a
      → both_of (length y) ending (state (delivered w.to (slot.Int a.value)) (with_outputs (y ++ map (object_shown false) m.own) w.pointers a.outputs))
      ≡ record {
        globals = statics_of (replied (memory x m.own) outputs (output a.outputs 0) (output a.outputs 1)).group;
        thread = Runs ending (state (delivered w.to (slot.Int a.value)) (map (object_shown false) (replied (memory x m.own) outputs (output a.outputs 0) (output a.outputs 1)).own));
      }
  replied_is c m outputs t start o b w ending x y a same fits =
      let old = memory x m.own in
      let after = replied old outputs (output a.outputs 0) (output a.outputs 1) in
      let fs = delivered w.to (slot.Int a.value) in
      let e : counts_of after.group ≡ counts s = all_counts old outputs (output a.outputs 0) (output a.outputs 1) ∙ same.counts in
      let os : with_outputs (y ++ map (object_shown false) m.own) w.pointers a.outputs ≡ objects_of after =
      ap (λ (l : List slot.Object). with_outputs (l ++ map (object_shown false) m.own) w.pointers a.outputs) same.objects
      ∙ ap (λ (l : List slot.Value). with_outputs (objects_of old) l a.outputs) w.points
      ∙ all_told (counts s) old outputs a.outputs same.counts w.ready.few (w.ready.told a fits) in
      ap (λ (l : List slot.Object). both_of (length y) ending (state fs l)) os
      ∙ ap (λ (l : List slot.Object). both_at ending l (drop (length y) (objects_of after)) fs) (front y x after same e)
      ∙ ap (λ (l : List slot.Object). both_at ending (statics_of after.group) l fs) (behind y x after same e)

  agrees : (calls : ℕ) → KeepsOn calls → (r : Reach Group Running) (g : Group) (gu : List slot.Object) (u : SlotThread) (ending spare saved o : ℕ) (start : SlotState) → SameGlobals s g gu → ShowsAt u gu ending spare start → o ≤ saved → ReachesTo start ending spare o r
      → Agrees M N rows (SameGlobals s) Entry 64 (Keeps calls) u gu saved r
  agrees calls next (Still x t steps) g gu u ending spare saved o start same shows le d = tt
  agrees calls next (Calls c x t steps) g gu u ending spare saved o start same shows le d =
      let b = d.0 in let less = d.1 in let w = d.2 in let paid = w.paid in let m = memory x t.thread.own in let cost = spare + w.cost in (
        record {
          turns = w.turns;
          call = c;
          globals = statics_of x;
          thread = Waits ending w.pointers (state w.to (map (object_shown false) t.thread.own));
          cost = cost;
          runs = shows w.turns
              ∙ ap (λ (r : SlotReach). reach_of (length gu) ending (dearer spare r)) w.runs
              ∙ ap (λ (l : List slot.Object). Calls c l (Waits ending w.pointers (state w.to (drop (length gu) (objects_of m)))) cost) (front gu g m same w.same)
              ∙ ap (λ (l : List slot.Object). Calls c (statics_of x) (Waits ending w.pointers (state w.to l)) cost) (behind gu g m same w.same);
          cheap = omega (arith, paid, less, le);
          same = record { means = refl; entry = refl };
          alike = record { counts = w.same; objects = refl };
        },
        λ y z a alike fits.
            let e = replied_is c m t.thread.outputs t.thread.frames start o b w ending y z a alike fits in
            let after = replied (memory y t.thread.own) t.thread.outputs (output a.outputs 0) (output a.outputs 1) in
            let fs = delivered w.to (slot.Int a.value) in
            let t' = thread after.own (given t.thread.frames (value.Int a.value)) [] in
            let room : stack_need s.program t'.frames ≤ stack = let h = w.fits in let n = given_need s t.thread.frames (value.Int a.value) in omega (arith, h, n) in
            let counted : counts_of after.group ≡ counts s = all_counts (memory y t.thread.own) t.thread.outputs (output a.outputs 0) (output a.outputs 1) ∙ alike.counts in
            subst (λ (q : Both (List slot.Object) SlotThread). SameGlobals s after.group q.globals × Keeps calls (running t.ending t') q.thread (saved + 64 * steps - cost)) (sym e) (
              record { counts = counted; objects = refl },
              subst (λ (n : ℕ). Keeps calls (running t.ending t') (Runs n (state fs (map (object_shown false) after.own))) (saved + 64 * steps - cost)) d.3
                  (next t.ending t' fs w.owed (saved + 64 * steps - cost) (λ g. resume s p (memory g after.own) t.thread.frames w.to w.owed (value.Int a.value) w.some w.waits) room (omega (arith, paid, less, le))),
            ),
      )
  agrees calls next (Over c x steps) g gu u ending spare saved o start same shows le d =
      let n = d.0 in let less = d.2 in let w = d.3 in let paid = w.paid in
      let final : counts_of w.own.group ≡ counts s = ap (λ (g : Group). counts_of g) w.group ∙ w.same in
      record {
        turns = w.turns;
        call = c;
        globals = statics_of x;
        cost = spare + w.cost;
        runs = shows w.turns
            ∙ ap (λ (r : SlotReach). reach_of (length gu) ending (dearer spare r)) w.runs
            ∙ ap (λ (l : List slot.Object). Over (end_call ending (word_of (signed n))) l (spare + w.cost)) (front gu g w.own same final ∙ ap (λ (g : Group). statics_of g) w.group)
            ∙ ap (λ (c : Call). Over c (statics_of x) (spare + w.cost)) (sym d.4);
        cheap = omega (arith, paid, less, le);
        same = record { means = refl; entry = refl };
        alike = record { counts = w.same; objects = refl };
      }
  agrees calls next (Full needed steps) g gu u ending spare saved o start same shows le d =
      let less = d.1 in let w = d.2 in let paid = w.paid in
      record {
        turns = w.turns;
        cost = spare + w.cost;
        runs = shows w.turns ∙ ap (λ (r : SlotReach). reach_of (length gu) ending (dearer spare r)) w.runs;
        cheap = omega (arith, paid, less, le);
      }
  agrees calls next (Astray steps) g gu u ending spare saved o start same shows le d = tt

  -- From a state that is alike.
  pub lowers_by : (calls : ℕ) → KeepsOn calls → (g : Group) (gu : List slot.Object) (u : SlotThread) (ending spare saved o : ℕ) (t : Thread) (fs : List SlotFrame) → SameGlobals s g gu → ShowsAt u gu ending spare (state fs (objects_of (memory g t.own))) → o ≤ saved → Related s p (memory g t.own) t.frames fs o → stack_need s.program t.frames ≤ stack
      → ((n : ℕ) → ReachesTo (state fs (objects_of (memory g t.own))) ending spare o (run_c n g (running ending t))) → Lowers M N rows (SameGlobals s) Entry 64 (Keeps calls) g (running ending t) gu u saved
  lowers_by calls next g gu u ending spare saved o t fs same shows le r fits all =
      let start = state fs (objects_of (memory g t.own)) in
      record {
        follows = λ n. agrees calls next (run_c n g (running ending t)) g gu u ending spare saved o start same shows le (all n);
        waits = λ k.
            let h = goes_on s p is sound.functions sound.calls k g ending t fs o same.counts r fits in (
              h.0,
              where_same (run_c h.0 g (running ending t)) (IsGoing (run p k start)) ((x : List slot.Object) × (y : SlotThread) × (cost : ℕ) × (thread_run p k gu u ≡ Still x y cost))
                  (λ (going : IsGoing (run p k start)). subst (λ (r : Reach (List slot.Object) SlotThread). (x : List slot.Object) × (y : SlotThread) × (cost : ℕ) × (r ≡ Still x y cost)) (sym (shows k)) (going_is (length gu) ending spare (run p k start) going))
                  h.1,
            );
      }

  pub keeps_on : (calls : ℕ) → KeepsOn calls
  keeps_on zero ending t fs o saved r fits le = tt
  keeps_on (suc calls) ending t fs o saved r fits le = λ g gu same.
      lowers_by calls (keeps_on calls) g gu (Runs ending (state fs (map (object_shown false) t.own))) ending 0 saved o t fs same
      (λ n.
      ap (λ (l : List slot.Object). reach_of (length gu) ending (run p n (state fs (l ++ map (object_shown false) t.own)))) same.objects
      ∙ ap (λ (r : SlotReach). reach_of (length gu) ending r) (sym (dearer_none (run p n (state fs (objects_of (memory g t.own)))))))
      le (r g) fits (λ n. reaches s p is sound.functions sound.calls n g ending t fs o same.counts (r g) fits)
