-- Slot code goes on as long as its program does.
use Rattle.std.proofs.Common.{◌≡◌, ◌≢◌, ◌⊎◌, inl, inr, ℕ, zero, suc, ◌<◌, ◌≤◌, List, length, Some, sym, subst, arith}
use Rattle.std.specs.Prelude.{slice_get}
use Rattle.std.proofs.lemmas.Bool.{cases_lt, cases_eq}
use Rattle.nx_checked.specs.declared.checked.UsedCall.{UsedCall}
use Rattle.nx_cobjects.specs.Groups.{Group}
use Rattle.nx_cobjects.specs.Memory.{memory}
use Rattle.nx_cmean.specs.Meaning.{Thread, Answer, Next, Asks, Ends, Wrong, fun_at, step}
use Rattle.nx_cmean.specs.Meanings.{Reach, Still, Calls, Over, Full, Astray, later, go_on, run_of, WhereStill}
use Rattle.nx_cmean.specs.Runs.{stack_need, need, turn_of, Running, running, with_ending}
use Rattle.nx_slot.specs.Meaning.{Code, SlotFrame, SlotState, state, SlotTurn, Goes, Requests, Finishes, Overflows, Fails, function_at}
use Rattle.nx_slot.specs.Meaning.{step as slot_step}
use Rattle.nx_slot.specs.Runs.{SlotReach, Going, Requested, Finished, Overflowed, Failed, dearer, then_on, run}
use Rattle.nx_lower.specs.Shown.{counts_of, objects_of}
use Rattle.nx_lower.specs.Code.{Source, counts}
use Rattle.nx_lower.specs.Bodies.{lower_fun}
use Rattle.nx_lower.specs.Sound.{SoundFun, SoundCall}
use Rattle.nx_lower.proofs.Running.{Related, idle}
use Rattle.nx_lower.proofs.Answering.{Does}
use Rattle.nx_lower.proofs.Advancing.{step_does}
use Rattle.nx_lower.proofs.Reaching.{within_over, within_fits, c_run}

-- A run that goes on.
abbrev pub IsGoing : SlotReach → Type 0
IsGoing (Going s cost) = Unit {0}
IsGoing (Requested c pointers s cost) = ⊥
IsGoing (Finished n os cost) = ⊥
IsGoing (Overflowed need cost) = ⊥
IsGoing (Failed fault) = ⊥

going_dearer : (c : ℕ) (r : SlotReach) → IsGoing r → IsGoing (dearer c r)
going_dearer c (Going s cost) h = tt
going_dearer c (Requested call pointers s cost) h = absurd h
going_dearer c (Finished n os cost) h = absurd h
going_dearer c (Overflowed need cost) h = absurd h
going_dearer c (Failed fault) h = absurd h

going_under : (c : ℕ) (r : SlotReach) → IsGoing (dearer c r) → IsGoing r
going_under c (Going s cost) h = tt
going_under c (Requested call pointers s cost) h = absurd h
going_under c (Finished n os cost) h = absurd h
going_under c (Overflowed need cost) h = absurd h
going_under c (Failed fault) h = absurd h

-- What goes on so long goes on less long.
going_before : (p : Code) (k j : ℕ) (s : SlotState) → k ≤ j → IsGoing (run p j s) → IsGoing (run p k s)
unfolding run
going_before p zero j s le h = tt
going_before p (suc k) zero s le h = absurd (omega (arith, le))
going_before p (suc k) (suc j) s le h = go (λ s h. going_before p k j s (omega (arith, le)) h) (slot_step p s) h
  where
    go : ((s : SlotState) → IsGoing (run p j s) → IsGoing (run p k s)) → (t : SlotTurn) → IsGoing (then_on t (run p j)) → IsGoing (then_on t (run p k))
    go more (Goes s cost) h = going_dearer cost (run p k s) (more s (going_under cost (run p j s) h))
    go more (Requests c pointers s cost) h = absurd h
    go more (Finishes n os cost) h = absurd h
    go more (Overflows need cost) h = absurd h
    go more (Fails fault) h = absurd h

-- Where a program runs on, a step later too.
pub where_same : (r : Reach Group Running) (P Q : Type 0) → (P → Q) → WhereStill r P → WhereStill r Q
where_same (Still g t n) P Q go h = go h
where_same (Calls c g t n) P Q go h = tt
where_same (Over c g n) P Q go h = tt
where_same (Full need n) P Q go h = tt
where_same (Astray n) P Q go h = tt

where_later : (r : Reach Group Running) (P Q : Type 0) → (P → Q) → WhereStill r P → WhereStill (later r) Q
where_later (Still g t n) P Q go h = go h
where_later (Calls c g t n) P Q go h = tt
where_later (Over c g n) P Q go h = tt
where_later (Full need n) P Q go h = tt
where_later (Astray n) P Q go h = tt

module _ (s : Source) (p : Code) (is : (g : ℕ) → g < length s.program.functions → function_at p g ≡ lower_fun s (fun_at s.program g)) (sound : (g : ℕ) → g < length s.program.functions → SoundFun s (fun_at s.program g)) (kernel : (j : ℕ) (c : UsedCall) → slice_get s.program.calls j ≡ Some c → SoundCall p.rows c) where
  abbrev c_run_of : ℕ → Group → Running → Reach Group Running
  c_run_of n g r = c_run s p is sound kernel n g r

  -- So many steps of the program are enough for k operations.
  abbrev pub GoesOn : ℕ → Group → Running → SlotState → Type 0
  GoesOn k g r start = (n : ℕ) × WhereStill (c_run_of n g r) (IsGoing (run p k start))

  -- From all states that are alike, and where less than w remains that needs no operation.
  abbrev Always : ℕ → Type 0
  Always k =
      (g : Group) (ending : ℕ) (t : Thread) (fs : List SlotFrame) (o : ℕ) → counts_of g ≡ counts s → Related s p (memory g t.own) t.frames fs o → stack_need s.program t.frames ≤ p.stack → GoesOn k g (running ending t) (state fs (objects_of (memory g t.own)))

  abbrev Below : ℕ → ℕ → Type 0
  Below k w =
      (g : Group) (ending : ℕ) (t : Thread) (fs : List SlotFrame) (o : ℕ) → counts_of g ≡ counts s → Related s p (memory g t.own) t.frames fs o → stack_need s.program t.frames ≤ p.stack → idle s p t.frames < w → GoesOn k g (running ending t) (state fs (objects_of (memory g t.own)))

  -- Fewer operations remain, or less that needs none.
  answer_moves : (k room : ℕ) (a : Answer) (start : SlotState) (ending o x : ℕ) → Always k → Below (suc k) room → Does s p a start o x room → (n : ℕ) × WhereStill (go_on (with_ending ending (turn_of ending a)) (c_run_of n)) (IsGoing (run p (suc k) start))
  answer_moves k room (Next g t) start ending o x fast slow w = go (cases_eq w.turns 0)
    where
      go : (w.turns ≡ 0) ⊎ (w.turns ≢ 0) → (n : ℕ) × WhereStill (later (c_run_of n g (running ending t))) (IsGoing (run p (suc k) start))
      go (inl none) =
          let h = slow g ending t w.to w.owed w.same w.related w.fits (w.moves_on none) in
          let mid = state w.to (objects_of (memory g t.own)) in
          let y = w.leads.by (suc k) in (
            h.0,
            where_later (c_run_of h.0 g (running ending t)) (IsGoing (run p (suc k) mid)) (IsGoing (run p (suc k) start))
                (λ (still : IsGoing (run p (suc k) mid)). going_before p (suc k) y.0 start (omega (arith, y.1)) (subst IsGoing (sym y.2) (going_dearer w.cost (run p (suc k) mid) still)))
                h.1,
          )
      go (inr some) =
          let h = fast g ending t w.to w.owed w.same w.related w.fits in
          let mid = state w.to (objects_of (memory g t.own)) in
          let y = w.leads.by k in (
            h.0,
            where_later (c_run_of h.0 g (running ending t)) (IsGoing (run p k mid)) (IsGoing (run p (suc k) start))
                (λ (still : IsGoing (run p k mid)). going_before p (suc k) y.0 start (omega (arith, y.1, some)) (subst IsGoing (sym y.2) (going_dearer w.cost (run p k mid) still)))
                h.1,
          )
  answer_moves k room (Asks c g t) start ending o x fast slow w = (0, tt)
  answer_moves k room (Ends z g) start ending o x fast slow w = (0, tt)
  answer_moves k room (Wrong kind) start ending o x fast slow w = (0, tt)

  goes_slow : (k w : ℕ) → Always k → Below (suc k) w
  unfolding run_of
  goes_slow k zero fast g ending t fs o same r fits less = absurd (omega (arith, less))
  goes_slow k (suc w) fast g ending t fs o same r fits less = go (λ g ending t fs o same r fits less. goes_slow k w fast g ending t fs o same r fits less) (cases_lt p.stack (need s.program t))
    where
      go : Below (suc k) w → (p.stack < need s.program t) ⊎ (need s.program t ≤ p.stack) → GoesOn (suc k) g (running ending t) (state fs (objects_of (memory g t.own)))
      go slow (inl full) =
          (1, subst (λ (q : Reach Group Running). WhereStill q (IsGoing (run p (suc k) (state fs (objects_of (memory g t.own)))))) (sym (within_over p.stack (need s.program t) (go_on (with_ending ending (turn_of ending (step s.program g t))) (c_run_of 0)) full)) tt)
      go slow (inr room) =
          let d = step_does s p is sound kernel (memory g t.own) t.frames fs o r same fits in
          let x = answer_moves k (idle s p t.frames) (step s.program g t) (state fs (objects_of (memory g t.own))) ending o 64 fast (λ g ending t fs o same r fits h. slow g ending t fs o same r fits (omega (arith, h, less))) (d.does room) in (
            suc x.0,
            subst (λ (q : Reach Group Running). WhereStill q (IsGoing (run p (suc k) (state fs (objects_of (memory g t.own)))))) (sym (within_fits p.stack (need s.program t) (go_on (with_ending ending (turn_of ending (step s.program g t))) (c_run_of x.0)) room)) x.1,
          )

  pub goes_on : (k : ℕ) → Always k
  unfolding run run_of
  goes_on zero g ending t fs o same r fits = (0, tt)
  goes_on (suc k) g ending t fs o same r fits = goes_slow k (suc (idle s p t.frames)) (goes_on k) g ending t fs o same r fits (omega arith)
