-- A step of the run, and many.
use Rattle.std.proofs.Common.{◌≡◌, ◌⊎◌, inl, inr, ℕ, zero, suc, ◌+◌, ◌<◌, ◌≤◌, ◌==◌, Bool, true, false, if◌then◌else◌, List, Option, None, length, refl, sym, ap, ◌∙◌, subst, arith}
use Rattle.std.specs.Prelude.{◌≢◌}
use Rattle.std.proofs.lemmas.Bool.{eq-eqb, ne_eqb, eqb-true, eqb-false}
use Rattle.nx_base.specs.Calls.{Reply}
use Rattle.nx_ksys.specs.State.{KernelState}
use Rattle.nx_ksys.specs.declared.pick.Pick.{Pick}
use Rattle.nx_ksys.specs.declared.pick.Pick.TheVariants.{Run, Idle, Ended}
use Rattle.nx_ksys.specs.Soundness.{IsSound}
use Rattle.nx_ksys.specs.Picking.{Picked, picked}
use Rattle.nx_ksys.specs.ThreadTable.{threads}
use Rattle.nx_shtree.specs.Trees.{Item}
use Rattle.nx_shrun.specs.Systems.{System, shell_thread, next_call, told}
use Rattle.nx_shrun.specs.AbstractRuns as runs
use Rattle.nx_shrun.specs.AbstractRuns.{Programs, Threads, Abstract, Fine, Astray, run, run_step, IsEnded, IsIdle, IsOver}
use Rattle.nx_shrun.proofs.AbstractSteps.{steps_one_call}
use Rattle.nx_shell.specs.declared.shell.Shell.{Shell}
use Rattle.nx_shell.specs.Shells.{IsReady}
use Rattle.nx_abstract.specs.declared.turning.Wrong.{Wrong}
use Rattle.nx_abstract.specs.declared.stop.Stop.{Stop}
use Rattle.nx_abstract.specs.declared.stop.Stop.TheVariants as stop
use Rattle.nx_abstract.specs.Kernels.{IsChosen}
use Rattle.nx_abstract.specs.Standing.{StandsFor, Waits, lives}
use Rattle.nx_abstract.specs.Coming.{GoesOn, Comes}
use Rattle.nx_abstract.specs.Running.{Goes, MakesStep, IsPicked, is_going, WhereGoing, IsFineAt, StandsAt, HasCome, IsRunning}
use Rattle.nx_abstract.proofs.Beginning.{fewer_kept}
use Rattle.nx_abstract.proofs.Choosing.{Chosen, chosen}
use Rattle.nx_abstract.proofs.Formed.{stands_formed}

module _ {G T W : Type 0} (p : Programs G T W) (script : List Item) where
  pub turn_of_shell : (x : System (Threads G T)) (n : ℕ) → n ≡ shell_thread → runs.turn p script x n ≡ runs.shell_turn p script x (next_call script x.said)
  unfolding runs.turn
  turn_of_shell x n e = ap (λ t. if t then runs.shell_turn p script x (next_call script x.said) else runs.guest_turn p script x n (threads x.kernel n)) (eq-eqb n shell_thread e)

  pub turn_of_guest : (x : System (Threads G T)) (n : ℕ) → n ≢ shell_thread → runs.turn p script x n ≡ runs.guest_turn p script x n (threads x.kernel n)
  unfolding runs.turn
  turn_of_guest x n e = ap (λ t. if t then runs.shell_turn p script x (next_call script x.said) else runs.guest_turn p script x n (threads x.kernel n)) (ne_eqb n shell_thread e)

  pub step_runs : (x : System (Threads G T)) (k new : KernelState) (rs : List Reply) (n : ℕ) → x.kernel ≡ k → IsChosen k new (Run n) rs → run_step p script (Fine x) ≡ runs.turn p script (told (runs.guests p script) (runs.with_kernel p script x new) rs) n
  unfolding run_step
  step_runs x k new rs n e h = ap (λ (c : Picked). runs.chosen p script x c c.pick) (ap picked e ∙ h)

  pub step_stays : (x : System (Threads G T)) → IsOver x → run_step p script (Fine x) ≡ Fine x
  unfolding run_step
  step_stays x (inl e) = ap (λ k. runs.chosen p script x (picked x.kernel) k) e
  step_stays x (inr e) = ap (λ k. runs.chosen p script x (picked x.kernel) k) e

  pub run_more : (n : ℕ) (a : Abstract (System (Threads G T)) W) → run p script (suc n) a ≡ run p script n (run_step p script a)
  unfolding run
  run_more n a = refl

  pub run_none : (a : Abstract (System (Threads G T)) W) → run p script 0 a ≡ a
  unfolding run
  run_none a = refl

  astray_step : (why : W) (pid : ℕ) → run_step p script (Astray why pid) ≡ Astray why pid
  unfolding run_step
  astray_step why pid = refl

  pub astray_stays : (n : ℕ) (why : W) (pid : ℕ) → run p script n (Astray why pid) ≡ Astray why pid
  astray_stays zero why pid = run_none (Astray why pid)
  astray_stays (suc n) why pid = run_more n (Astray why pid) ∙ (ap (λ a. run p script n a) (astray_step why pid) ∙ astray_stays n why pid)

module _ {A B G T : Type 0} (thread_of : A → T) (globals_of : B → G) (script : List Item) where
  -- The kernel of a state that was chosen in.
  pub chosen_stands : {W : Type 0} (p : Programs G T W) (k new : KernelState) (shell : Shell) (kept : List (Option A)) (globals : List (Option B)) (x : System (Threads G T)) → ((i : ℕ) → lives new i ≡ true → lives k i ≡ true)
      → StandsFor thread_of globals_of script (lives k) k shell kept globals x → StandsFor thread_of globals_of script (lives new) new shell kept globals (runs.with_kernel p script x new)
  chosen_stands p k new shell kept globals x alive h = record { kernel = refl; shell = h.shell; fit = h.fit; guests = fewer_kept thread_of globals_of (lives k) (lives new) kept globals x.guests alive h.guests }

  -- One step where a thread was chosen.
  pub step_comes : {F W : Type 0} (fault_of : F → W) (p : Programs G T W) (k k1 k2 : KernelState) (old mid new : Shell) (kept mid_kept new_kept : List (Option A)) (globals mid_globals new_globals : List (Option B)) (n : ℕ) (pick : Pick) (rs ys : List Reply) (w : Option (Wrong F)) (s : System (Threads G T))
      → IsChosen k k1 pick rs → pick ≡ Run n → ys ≡ rs → ((i : ℕ) → lives k1 i ≡ true → lives k i ≡ true)
      → ((x : System (Threads G T)) → StandsFor thread_of globals_of script (lives k1) k1 old kept globals x → StandsFor thread_of globals_of script (lives k1) k1 mid mid_kept mid_globals (told (runs.guests p script) x ys))
      → ((x : System (Threads G T)) → StandsFor thread_of globals_of script (lives k1) k1 mid mid_kept mid_globals x → Comes thread_of globals_of fault_of script k2 new new_kept new_globals w (runs.turn p script x n))
      → StandsFor thread_of globals_of script (lives k) k old kept globals s
      → Comes thread_of globals_of fault_of script k2 new new_kept new_globals w (run_step p script (Fine s))
  step_comes fault_of p k k1 k2 old mid new kept mid_kept new_kept globals mid_globals new_globals n pick rs ys w s e is same alive tells turns h =
      let x = told (runs.guests p script) (runs.with_kernel p script s k1) rs in
      subst (λ z. Comes thread_of globals_of fault_of script k2 new new_kept new_globals w z) (sym (step_runs p script s k k1 rs n h.kernel (subst (λ c. IsChosen k k1 c rs) is e)))
      (turns x (subst (λ zs. StandsFor thread_of globals_of script (lives k1) k1 mid mid_kept mid_globals (told (runs.guests p script) (runs.with_kernel p script s k1) zs)) same (tells (runs.with_kernel p script s k1) (chosen_stands p k k1 old kept globals s alive h))))

  -- Where none was.
  pub over_comes : {W : Type 0} (p : Programs G T W) (k k1 : KernelState) (shell : Shell) (kept : List (Option A)) (globals : List (Option B)) (s : System (Threads G T)) → k1 ≡ k → ((picked k).pick ≡ Ended) ⊎ ((picked k).pick ≡ Idle)
      → StandsFor thread_of globals_of script (lives k) k shell kept globals s → GoesOn thread_of globals_of script k1 shell kept globals (run_step p script (Fine s))
  over_comes p k k1 shell kept globals s e o h = record {
    state = s;
    is = step_stays p script s (subst (λ l. ((picked l).pick ≡ Ended) ⊎ ((picked l).pick ≡ Idle)) (sym h.kernel) o);
    stands = subst (λ l. StandsFor thread_of globals_of script (lives l) l shell kept globals s) (sym e) h;
  }

  -- What the code keeps for the next step.
  pub running_after : {F W : Type 0} (fault_of : F → W) (p : Programs G T W) (k k2 : KernelState) (old shell : Shell) (kept new_kept : List (Option A)) (globals new_globals : List (Option B)) (most room made : ℕ) (s : System (Threads G T))
      → StandsFor thread_of globals_of script (lives k) k old kept globals s → Comes {F = F} thread_of globals_of fault_of script k2 shell new_kept new_globals None (run_step p script (Fine s))
      → Waits (threads k2) shell.walk.command.call → IsReady shell → length k2.sched.threads ≡ length k.sched.threads → length k.sched.threads ≤ most → room ≡ most → k.calls ≤ made
      → IsRunning thread_of globals_of k2 shell new_kept new_globals room (made + 1)
  running_after fault_of p k k2 old shell kept new_kept globals new_globals most room made s h comes waits ready slots least same calls =
      let one = steps_one_call p script s comes.state comes.is in
      let before : s.kernel.calls ≡ k.calls = ap (λ (l : KernelState). l.calls) h.kernel in
      let behind : comes.state.kernel.calls ≡ k2.calls = ap (λ (l : KernelState). l.calls) comes.stands.kernel in
      record {
        script = script;
        state = comes.state;
        stands = comes.stands;
        ready = ready;
        waits = waits;
        room = omega (arith, slots, least, same);
        calls = omega (arith, one.most, before, behind, calls);
      }

-- What is running, the shell's call is well formed, and a step may be made.
module _ {A B G T : Type 0} (thread_of : A → T) (globals_of : B → G) where
  pub running_words : (k : KernelState) (own : Shell) (kept : List (Option A)) (globals : List (Option B)) (most made : ℕ) → IsRunning thread_of globals_of k own kept globals most made → length own.walk.command.call.words ≡ 6
  running_words k own kept globals most made h = (stands_formed thread_of globals_of h.script (lives k) k own kept globals h.state h.stands).words

  pub running_chosen : (k new : KernelState) (n : ℕ) (pick : Pick) (own : Shell) (kept : List (Option A)) (globals : List (Option B)) (most made : ℕ) (rs : List Reply) → IsRunning thread_of globals_of k own kept globals most made → IsSound k → IsChosen k new pick rs → pick ≡ Run n → Chosen k new n own.walk.command.call rs
  running_chosen k new n pick own kept globals most made rs h sound e is = chosen k new n own.walk.command.call rs sound (subst (λ c. IsChosen k new c rs) is e) (running_words k own kept globals most made h) h.waits

  pub running_now : (k : KernelState) (own : Shell) (kept : List (Option A)) (globals : List (Option B)) (most made : ℕ) → IsRunning thread_of globals_of k own kept globals most made → IsRunning thread_of globals_of k own kept globals most k.calls
  running_now k own kept globals most made h = record { script = h.script; state = h.state; stands = h.stands; ready = h.ready; waits = h.waits; room = h.room; calls = omega arith }

-- Where the run goes on.
pub where_going : {F : Type 0} (a : Stop F) (P : Type 0) → is_going a ≡ true → WhereGoing a P → P
where_going stop.Steps P e h = h
where_going stop.Ended P e h = absurd cc
where_going stop.Idle P e h = absurd cc
where_going (stop.Wrong w) P e h = absurd cc

pub going_is : {F : Type 0} (a : Stop F) → is_going a ≡ true → a ≡ stop.Steps
going_is stop.Steps e = refl
going_is stop.Ended e = absurd cc
going_is stop.Idle e = absurd cc
going_is (stop.Wrong w) e = absurd cc

pub if_going : {F : Type 0} (a : Stop F) (P : Type 0) → P → WhereGoing a P
if_going stop.Steps P h = h
if_going stop.Ended P h = tt
if_going stop.Idle P h = tt
if_going (stop.Wrong w) P h = tt

module _ {F A B G T W : Type 0} (thread_of : A → T) (globals_of : B → G) (fault_of : F → W) (p : Programs G T W) (script : List Item) where
  pub stands_seen : (k : KernelState) (shell : Shell) (kept : List (Option A)) (globals : List (Option B)) (a : Stop F) (z : Abstract (System (Threads G T)) W) → IsPicked a (picked k).pick → GoesOn thread_of globals_of script k shell kept globals z → StandsAt thread_of globals_of fault_of script k shell kept globals a z
  stands_seen k shell kept globals stop.Steps z e h = record { state = h.state; is = h.is; stands = h.stands; picks = subst (λ l. IsPicked {F = F} stop.Steps (picked l).pick) (sym h.stands.kernel) e }
  stands_seen k shell kept globals stop.Ended z e h = record { state = h.state; is = h.is; stands = h.stands; picks = subst (λ l. IsPicked {F = F} stop.Ended (picked l).pick) (sym h.stands.kernel) e }
  stands_seen k shell kept globals stop.Idle z e h = record { state = h.state; is = h.is; stands = h.stands; picks = subst (λ l. IsPicked {F = F} stop.Idle (picked l).pick) (sym h.stands.kernel) e }
  stands_seen k shell kept globals (stop.Wrong w) z e h = absurd e

  run_last : (n : ℕ) (a : Abstract (System (Threads G T)) W) → run p script (suc n) a ≡ run_step p script (run p script n a)
  run_last zero a = run_more p script zero a ∙ (run_none p script (run_step p script a) ∙ ap (run_step p script) (sym (run_none p script a)))
  run_last (suc n) a = run_more p script (suc n) a ∙ (run_last n (run_step p script a) ∙ ap (run_step p script) (sym (run_more p script n a)))

  run_next : (n : ℕ) (a : Abstract (System (Threads G T)) W) → run p script (n + 1) a ≡ run_step p script (run p script n a)
  run_next n a = let e : n + 1 ≡ suc n = omega arith in rw e (run_last n a)

  goes_step : (z : Abstract (System (Threads G T)) W) (s : System (Threads G T)) → z ≡ Fine s → Goes s → MakesStep z
  goes_step z s e h = subst MakesStep (sym e) h

  -- One step more.
  pub come_more : (first : System (Threads G T)) (k k2 : KernelState) (old shell : Shell) (kept new_kept : List (Option A)) (globals new_globals : List (Option B)) (made : ℕ) (a b : Stop F)
      → is_going a ≡ true
      → ((s : System (Threads G T)) → StandsFor thread_of globals_of script (lives k) k old kept globals s → StandsAt thread_of globals_of fault_of script k2 shell new_kept new_globals b (run_step p script (Fine s)))
      → HasCome thread_of globals_of fault_of p script first k old kept globals made a → HasCome thread_of globals_of fault_of p script first k2 shell new_kept new_globals (made + 1) b
  come_more first k k2 old shell kept new_kept globals new_globals made a b going on h =
      let now : IsFineAt {F = F} thread_of globals_of script k old kept globals stop.Steps (run p script made (Fine first)) = subst (λ x. StandsAt thread_of globals_of fault_of script k old kept globals x (run p script made (Fine first))) (going_is a going) h.at in
      record {
        at = subst (λ z. StandsAt thread_of globals_of fault_of script k2 shell new_kept new_globals b z) (sym (run_next made (Fine first) ∙ ap (run_step p script) now.is)) (on now.state now.stands);
        earlier = λ i l. of i l (i == made) refl now;
      }
    where
      of : (i : ℕ) → i < made + 1 → (t : Bool) → (i == made) ≡ t → IsFineAt {F = F} thread_of globals_of script k old kept globals stop.Steps (run p script made (Fine first)) → MakesStep (run p script i (Fine first))
      of i l true e now = subst (λ j. MakesStep (run p script j (Fine first))) (sym (eqb-true i made e)) (goes_step (run p script made (Fine first)) now.state now.is now.picks)
      of i l false e now = let ne : i ≢ made = eqb-false i made e in h.earlier i (below i made l ne)
        where
          below : (i made : ℕ) → i < made + 1 → i ≢ made → i < made
          below i made l ne = omega (arith, l, ne)
