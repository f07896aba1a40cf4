-- What a call leaves for the shell's thread, and which threads live after it.
use Rattle.std.proofs.Common.{◌≡◌, ℕ, ◌≤◌, ◌==◌, Bool, true, false, if◌then◌else◌, List, [], ◌∷◌, Option, Some, None, length, refl, sym, ap, ◌∙◌, subst, arith}
use Rattle.std.specs.Prelude.{◌≢◌, nat_le}
use Rattle.std.specs.Option.{is_some}
use Rattle.std.proofs.lemmas.Bool.{eqb-true, eqb-false, leb-true}
use Rattle.nx_base.specs.Calls.{Reply}
use Rattle.nx_base.specs.KernelCalls.{kinds_of}
use Rattle.nx_base.specs.declared.calls.KCall.{KCall}
use Rattle.nx_base.specs.declared.calls.KCall.TheVariants as call
use Rattle.nx_ksys.specs.State.{KernelState}
use Rattle.nx_ksys.specs.Answers.{Effect, Stays, EndsGroup, Begins, Stepped}
use Rattle.nx_ksys.specs.Soundness.{IsSound}
use Rattle.nx_ksys.specs.declared.cooked.Cooked.{Cooked}
use Rattle.nx_ksys.specs.ThreadTable.{WaitingCall, ThreadRow, threads}
use Rattle.nx_ksys.specs.TableLaws.{Table, set_at, waiting, ready, made_ready, after_replies, unless_in, started_row, after_effect, is_last, waiting_call, asking, before_replies, kinds_in, IsStep}
use Rattle.nx_ksys.proofs.Tables.{set_at_same, set_at_other}
use Rattle.nx_ksys.proofs.Steps.{calls_change_threads}
use Rattle.nx_shrun.specs.Calls.{Call}
use Rattle.nx_shrun.specs.Systems.{shell_thread}
use Rattle.nx_abstract.specs.Kernels.{step_of, is_ready_at, is_ready_row, has_no_call}
use Rattle.nx_abstract.specs.Standing.{lives, Waits}
use Rattle.nx_abstract.specs.Living.{LivesAfter, IsBeside, Own, Other, Leaves}
use Rattle.nx_abstract.proofs.Waiting.{due_fits, after_waits, own_waits, other_waits, effect_waits, table_waits}

-- The row of a thread that is ready.
record HasRow (k : KernelState) (i : ℕ) : Type 0 where
  row : ThreadRow
  is : threads k i ≡ Some (ready row)

ready_is : (x : ThreadRow) → has_no_call x.waits ≡ true → x ≡ ready x
ready_is x e = of x.waits refl e
  where
    of : (o : Option WaitingCall) → x.waits ≡ o → has_no_call o ≡ true → x ≡ ready x
    of None w f = ap (λ o. record x { waits = o }) w
    of (Some c) w f = absurd cc

row_of : (k : KernelState) (i : ℕ) → is_ready_at k i ≡ true → HasRow k i
row_of k i e = of (threads k i) refl e
  where
    of : (o : Option ThreadRow) → threads k i ≡ o → is_ready_row o ≡ true → HasRow k i
    of None w f = absurd cc
    of (Some x) w f = record { row = x; is = w ∙ ap Some (ready_is x f) }

-- After replies the same threads live.
some_ready : (o : Option ThreadRow) → is_some (made_ready o) ≡ is_some o
some_ready None = refl
some_ready (Some x) = refl

pub alive_after : (rs : List Reply) (t : Table) (n : ℕ) → is_some (after_replies t rs n) ≡ is_some (t n)
unfolding after_replies
alive_after [] t n = refl
alive_after (a ∷ rs) t n = alive_after rs (set_at t a.thread (made_ready (t a.thread))) n ∙ of (n == a.thread) refl
  where
    of : (b : Bool) → (n == a.thread) ≡ b → is_some (set_at t a.thread (made_ready (t a.thread)) n) ≡ is_some (t n)
    of true e = let z = eqb-true n a.thread e in subst (λ j. is_some (set_at t a.thread (made_ready (t a.thread)) j) ≡ is_some (t j)) (sym z) (ap is_some (set_at_same t a.thread (made_ready (t a.thread))) ∙ some_ready (t a.thread))
    of false e = ap is_some (set_at_other t a.thread n (made_ready (t a.thread)) (eqb-false n a.thread e))

none_alive : {A : Type 0} (o : Option ThreadRow) → o ≡ None → is_some o ≡ true → A
none_alive o e f = let z : is_some o ≡ false = ap is_some e in absurd cc

-- Who lives while the caller waits, or is gone.
asking_alive : (t : Table) (i n : ℕ) (x : ThreadRow) (which : Option KCall) (words : List ℕ) → is_some (t i) ≡ true → is_some (asking t i x which words n) ≡ true → is_some (t n) ≡ true
asking_alive t i n x which words there h = of (n == i) refl
  where
    of : (b : Bool) → (n == i) ≡ b → is_some (t n) ≡ true
    of true e = subst (λ j. is_some (t j) ≡ true) (sym (eqb-true n i e)) there
    of false e = ap is_some (sym (set_at_other t i n (if is_last which then None else Some (waiting x (waiting_call which words))) (eqb-false n i e))) ∙ h

asking_last : (t : Table) (i n : ℕ) (x : ThreadRow) (which : Option KCall) (words : List ℕ) → is_last which ≡ true → is_some (asking t i x which words n) ≡ true → n ≢ i
asking_last t i n x which words l h e =
    none_alive (asking t i x which words i) (set_at_same t i (if is_last which then None else Some (waiting x (waiting_call which words))) ∙ ap (λ b. if b then None else Some (waiting x (waiting_call which words))) l) (subst (λ j. is_some (asking t i x which words j) ≡ true) e h)

module _ (k : KernelState) (i : ℕ) (which : Option KCall) (words : List ℕ) (x : ThreadRow) (s : Stepped) (is : threads k i ≡ Some (ready x)) (h : IsStep k i x which words s) where
  asked : Table
  asked = asking (threads k) i x which words

  before : Table
  before = before_replies k i x which words s

  -- A thread that lives after the call lived before its replies.
  alive_before : (n : ℕ) → lives s.to n ≡ true → is_some (after_effect asked s.effect n) ≡ true
  unfolding asked
  alive_before n e = sym (ap is_some (h.table n) ∙ alive_after s.replies (before_replies k i x which words s) n) ∙ e

  was_alive : (n : ℕ) → is_some (asked n) ≡ true → (lives k n ≡ true) × (is_last which ≡ true → n ≢ i)
  unfolding asked
  was_alive n e = (asking_alive (threads k) i n x which words (ap is_some is) e, λ l. asking_last (threads k) i n x which words l e)

  lives_after : (live : ℕ → Bool) → ((n : ℕ) → lives k n ≡ true → (is_last which ≡ true → n ≢ i) → live n ≡ true) → LivesAfter s.effect live (lives s.to)
  unfolding asked
  lives_after live on = of s.effect refl
    where
      go : (n : ℕ) → is_some (asked n) ≡ true → live n ≡ true
      go n e = let w = was_alive n e in on n w.0 w.1

      ended : (group n : ℕ) (o : Option ThreadRow) → asked n ≡ o → is_some (unless_in group o) ≡ true → live n ≡ true
      ended group n None e f = absurd cc
      ended group n (Some y) e f = go n (ap is_some e)

      of : (e : Effect) → s.effect ≡ e → LivesAfter e live (lives s.to)
      of Stays e = λ n l. go n (subst (λ f. is_some (after_effect asked f n) ≡ true) e (alive_before n l))
      of (EndsGroup group) e = λ n l. ended group n (asked n) refl (subst (λ f. is_some (after_effect asked f n) ≡ true) e (alive_before n l))
      of (Begins st) e = λ n ne l. go n (ap is_some (sym (set_at_other asked st.thread n (Some (started_row st)) ne)) ∙ subst (λ f. is_some (after_effect asked f n) ≡ true) e (alive_before n l))

  leaves : (q : Call) → length q.words ≡ 6 → Waits (asking (threads k) i x which words) q → (told : Cooked) → which ≡ told.call → Leaves k i told q s.to s.effect s.replies
  unfolding asked
  leaves q l w told e =
      let t : Waits (before_replies k i x which words s) q = effect_waits (asking (threads k) i x which words) q s.effect w in
      record {
        fits = due_fits s.to q s.replies (before_replies k i x which words s) l h.due t;
        waits = λ new on. table_waits (after_replies (before_replies k i x which words s) s.replies) (threads s.to) new h.table (after_waits s.to q new s.replies (before_replies k i x which words s) h.due t on);
        alive = subst (λ o. (live : ℕ → Bool) → ((n : ℕ) → lives k n ≡ true → (is_last o ≡ true → n ≢ i) → live n ≡ true) → LivesAfter s.effect live (lives s.to)) e lives_after;
      }

-- No call has more than six parameters.
few_kinds : (w : KCall) → nat_le (length (kinds_of w)) 6 ≡ true
few_kinds call.Write = refl
few_kinds call.Read = refl
few_kinds call.Open = refl
few_kinds call.Close = refl
few_kinds call.Lseek = refl
few_kinds call.Dup = refl
few_kinds call.Dup2 = refl
few_kinds call.Unlink = refl
few_kinds call.Mkdir = refl
few_kinds call.Rmdir = refl
few_kinds call.Rename = refl
few_kinds call.Chdir = refl
few_kinds call.NxGetcwd = refl
few_kinds call.NxReaddir = refl
few_kinds call.NxKind = refl
few_kinds call.NxSpawn = refl
few_kinds call.Exit = refl
few_kinds call.Getpid = refl
few_kinds call.Waitpid = refl
few_kinds call.NxArgc = refl
few_kinds call.NxArg = refl
few_kinds call.NxSetpriority = refl
few_kinds call.SchedYield = refl
few_kinds call.NxPs = refl
few_kinds call.NxThread = refl
few_kinds call.NxThreadExit = refl
few_kinds call.NxJoin = refl
few_kinds call.NxMqOpen = refl
few_kinds call.MqClose = refl
few_kinds call.MqUnlink = refl
few_kinds call.MqSend = refl
few_kinds call.MqReceive = refl
few_kinds call.NxMqTimedreceive = refl
few_kinds call.NxSemOpen = refl
few_kinds call.NxSemWait = refl
few_kinds call.NxSemTrywait = refl
few_kinds call.NxSemPost = refl
few_kinds call.NxSemClose = refl
few_kinds call.NxSleep = refl
few_kinds call.NxTicks = refl
few_kinds call.NxGetenv = refl
few_kinds call.Setenv = refl
few_kinds call.Unsetenv = refl
few_kinds call.NxEnv = refl
few_kinds call.GetErrno = refl

few : (o : Option KCall) → length (kinds_in o) ≤ 6
few None = omega arith
few (Some w) = leb-true (length (kinds_of w)) 6 (few_kinds w)

stepped : (k : KernelState) (i : ℕ) (told : Cooked) (sound : IsSound k) (r : is_ready_at k i ≡ true) → length told.words ≡ 6 → IsStep k i (row_of k i r).row told.call told.words (step_of k i told)
stepped k i told sound r l = calls_change_threads k i (row_of k i r).row told.call told.words (told.first ∷ told.second ∷ []) sound (row_of k i r).is (omega (arith, few told.call, l))

pub call_slots : (k new : KernelState) (i : ℕ) (told : Cooked) → IsSound k → is_ready_at k i ≡ true → length told.words ≡ 6 → (step_of k i told).to ≡ new → length new.sched.threads ≡ length k.sched.threads
call_slots k new i told sound r l e = subst (λ (n : KernelState). length n.sched.threads ≡ length k.sched.threads) e (stepped k i told sound r l).slots

pub call_leaves : (k new : KernelState) (i : ℕ) (told : Cooked) (rs : List Reply) → IsSound k → is_ready_at k i ≡ true → length told.words ≡ 6 → (step_of k i told).to ≡ new → (step_of k i told).replies ≡ rs
    → (q : Call) → length q.words ≡ 6 → IsBeside k i told q → Leaves k i told q new (step_of k i told).effect rs
call_leaves k new i told rs sound r l e f q six b =
    let x = row_of k i r in
    subst (λ n. Leaves k i told q n (step_of k i told).effect rs) e (subst (λ ys. Leaves k i told q (step_of k i told).to (step_of k i told).effect ys) f
    (leaves k i told.call told.words x.row (step_of k i told) x.is (stepped k i told sound r l) q six (beside x.row b) told refl))
  where
    beside : (x : ThreadRow) → IsBeside k i told q → Waits (asking (threads k) i x told.call told.words) q
    beside x (Own a b c) = subst (λ j. Waits (asking (threads k) j x told.call told.words) q) (sym a) (subst (λ o. Waits (asking (threads k) shell_thread x o told.words) q) (sym b) (subst (λ ws. Waits (asking (threads k) shell_thread x (Some q.which) ws) q) (sym c) (own_waits (threads k) q x)))
    beside x (Other a b) = other_waits (threads k) i x told.call told.words q a b
