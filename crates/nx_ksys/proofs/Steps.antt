-- Each call changes the table as its answers say, and leaves a sound state.
use Rattle.std.proofs.Common.{◌≡◌, ℕ, suc, ◌<◌, ◌≤◌, inl, inr, List, [], ◌∷◌, length, Option, Some, None, refl, sym, ap, ◌∙◌, subst, arith}
use mathlib.Core.Path.{fun_ext}
use Rattle.std.specs.Prelude.{slice_get, if◌then◌else◌}
use Rattle.nx_base.specs.KernelCalls.{kinds_of}
use Rattle.nx_base.proofs.ByteLemmas.{length-to_le}
use Rattle.nx_base.specs.declared.calls.Kind.{Kind}
use Rattle.nx_base.specs.declared.calls.KCall.{KCall}
use Rattle.nx_base.specs.declared.calls.KCall.TheVariants as call
use Rattle.nx_base.specs.declared.errno.Errno.TheVariants as errno
use Rattle.nx_ksys.specs.declared.thread.Thread.{Thread}
use Rattle.nx_ksys.specs.Threads.{flat, is_numbered, thread_of}
use Rattle.nx_ksys.specs.State.{Group, KernelState}
use Rattle.nx_ksys.specs.Answers.{Effect, Stays, EndsGroup, Begins, Stepped, Caller, place_of, silent, word_at, input_at}
use Rattle.nx_ksys.specs.Step.{without_pointers, meant_call, row_of, asked, counted, called_in, called_by, called, step}
use Rattle.nx_ksys.specs.ThreadTable.{ThreadRow, threads}
use Rattle.nx_ksys.specs.Soundness.{Stands, IsSound}
use Rattle.nx_ksys.specs.TableLaws.{Table, set_at, waiting, ready, waiting_call, is_last, asking, before_replies, after_effect, after_replies, kinds_in, IsStart, IsAllowed, IsStep, CallsStaySound, CallsChangeThreads, NumbersWereGiven, SlotsDiffer, SameMeaningSameStep, NobodysCallIsSilent}
use Rattle.nx_ksys.proofs.Meaning.{pointers_mean_nothing}
use Rattle.nx_ksys.proofs.Standing.{some_same, none_some, found_at, eq_from, within}
use Rattle.nx_ksys.proofs.Tables.{row_of as row_of_thread, row_in, table_of, threads_are, thread_only, group_only, Entry, entry_of}
use Rattle.nx_ksys.proofs.Waking.{AreFit, due_from}
use Rattle.nx_ksys.proofs.Owing.{tab, Calls, IsReady, Owes, Takes, plain, fails}
use Rattle.nx_ksys.proofs.FileRows.{write_lawful, read_lawful, open_lawful, close_lawful, lseek_lawful, dup_lawful, dup2_lawful}
use Rattle.nx_ksys.proofs.TreeRows.{unlink_lawful, mkdir_lawful, rmdir_lawful, rename_lawful, chdir_lawful, getcwd_lawful, readdir_lawful, kind_lawful}
use Rattle.nx_ksys.proofs.EndRows.{exit_owes, thread_exit_owes}
use Rattle.nx_ksys.proofs.StartRows.{spawn_lawful, thread_lawful}
use Rattle.nx_ksys.proofs.EnvironmentRows.{sleep_lawful, ticks_lawful, getenv_lawful, setenv_lawful, unsetenv_lawful, env_lawful}
use Rattle.nx_ksys.proofs.SemaphoreRows.{sem_open_lawful, sem_wait_lawful, sem_trywait_lawful, sem_post_lawful, sem_close_lawful}
use Rattle.nx_ksys.proofs.QueueRows.{TakesMessage, mq_open_lawful, mq_close_lawful, mq_unlink_lawful, mq_send_lawful, mq_receive_lawful, mq_timedreceive_lawful}
use Rattle.nx_ksys.proofs.ThreadRows.{waitpid_lawful, arg_lawful, ps_lawful, priority_lawful, yield_lawful, join_lawful, errno_lawful}

-- ---- what a call's words leave room for

length_plain : (kinds : List Kind) (words : List ℕ) → length (without_pointers kinds words) ≡ length words
length_plain [] words = refl
length_plain (kind ∷ kinds) [] = refl
length_plain (kind ∷ kinds) (word ∷ words) = ap suc (length_plain kinds words)

takes_first : (words : List ℕ) → 2 ≤ length words → Takes (meant_call (Some call.NxGetcwd) words) (word_at words 1)
takes_first [] le = absurd (omega (arith, le))
takes_first (a ∷ []) le = absurd (omega (arith, le))
takes_first (a ∷ b ∷ words) le = λ o fits. (fits, (refl, tt))

takes_read : (words : List ℕ) → 3 ≤ length words → Takes (meant_call (Some call.Read) words) (word_at words 2)
takes_read [] le = absurd (omega (arith, le))
takes_read (a ∷ []) le = absurd (omega (arith, le))
takes_read (a ∷ b ∷ []) le = absurd (omega (arith, le))
takes_read (a ∷ b ∷ c ∷ words) le = λ o fits. (fits, (refl, tt))

takes_arg : (words : List ℕ) → 3 ≤ length words → Takes (meant_call (Some call.NxArg) words) (word_at words 2)
takes_arg [] le = absurd (omega (arith, le))
takes_arg (a ∷ []) le = absurd (omega (arith, le))
takes_arg (a ∷ b ∷ []) le = absurd (omega (arith, le))
takes_arg (a ∷ b ∷ c ∷ words) le = λ o fits. (fits, (refl, tt))

takes_ps : (words : List ℕ) → 3 ≤ length words → Takes (meant_call (Some call.NxPs) words) (word_at words 2)
takes_ps [] le = absurd (omega (arith, le))
takes_ps (a ∷ []) le = absurd (omega (arith, le))
takes_ps (a ∷ b ∷ []) le = absurd (omega (arith, le))
takes_ps (a ∷ b ∷ c ∷ words) le = λ o fits. (fits, (refl, tt))

takes_name : (words : List ℕ) → 4 ≤ length words → Takes (meant_call (Some call.NxReaddir) words) (word_at words 3)
takes_name [] le = absurd (omega (arith, le))
takes_name (a ∷ []) le = absurd (omega (arith, le))
takes_name (a ∷ b ∷ []) le = absurd (omega (arith, le))
takes_name (a ∷ b ∷ c ∷ []) le = absurd (omega (arith, le))
takes_name (a ∷ b ∷ c ∷ d ∷ words) le = λ o fits. (fits, (refl, tt))

takes_value : (words : List ℕ) → 3 ≤ length words → Takes (meant_call (Some call.NxGetenv) words) (word_at words 2)
takes_value [] le = absurd (omega (arith, le))
takes_value (a ∷ []) le = absurd (omega (arith, le))
takes_value (a ∷ b ∷ []) le = absurd (omega (arith, le))
takes_value (a ∷ b ∷ c ∷ words) le = λ o fits. (fits, (refl, tt))

takes_variable : (words : List ℕ) → 3 ≤ length words → Takes (meant_call (Some call.NxEnv) words) (word_at words 2)
takes_variable [] le = absurd (omega (arith, le))
takes_variable (a ∷ []) le = absurd (omega (arith, le))
takes_variable (a ∷ b ∷ []) le = absurd (omega (arith, le))
takes_variable (a ∷ b ∷ c ∷ words) le = λ o fits. (fits, (refl, tt))

takes_message : (words : List ℕ) → 4 ≤ length words → TakesMessage (meant_call (Some call.MqReceive) words) (word_at words 2)
takes_message [] le = absurd (omega (arith, le))
takes_message (a ∷ []) le = absurd (omega (arith, le))
takes_message (a ∷ b ∷ []) le = absurd (omega (arith, le))
takes_message (a ∷ b ∷ c ∷ []) le = absurd (omega (arith, le))
takes_message (a ∷ b ∷ c ∷ d ∷ words) le = λ o n fits. (fits, (let e = length-to_le 4 n in omega (arith, e), tt))

takes_timed_message : (words : List ℕ) → 5 ≤ length words → TakesMessage (meant_call (Some call.NxMqTimedreceive) words) (word_at words 2)
takes_timed_message [] le = absurd (omega (arith, le))
takes_timed_message (a ∷ []) le = absurd (omega (arith, le))
takes_timed_message (a ∷ b ∷ []) le = absurd (omega (arith, le))
takes_timed_message (a ∷ b ∷ c ∷ []) le = absurd (omega (arith, le))
takes_timed_message (a ∷ b ∷ c ∷ d ∷ []) le = absurd (omega (arith, le))
takes_timed_message (a ∷ b ∷ c ∷ d ∷ f ∷ words) le = λ o n fits. (fits, (let e = length-to_le 4 n in omega (arith, e), tt))

-- ---- each row

abbrev pub caller : Thread → ℕ → Group → Option KCall → List ℕ → Caller
caller t place g which words = record { thread = t; place = place; group = g; asked = meant_call which words }

-- the table in which the caller waits in its call, or is gone
abbrev gone_or_waits : KernelState → ℕ → ThreadRow → Option KCall → List ℕ → Table
gone_or_waits k i x which words = set_at (tab k) i (if is_last which then None else Some (waiting x (waiting_call which words)))

module _ (k : KernelState) (t : Thread) (place : ℕ) (g : Group) (x : ThreadRow) (words : List ℕ) (inputs : List (List ℕ)) where
  row_owes : (which : KCall) → Calls k (caller t place g (Some which) words) → length (kinds_of which) ≤ length words → Owes k t.number x (Some which) (gone_or_waits k t.number x (Some which) words) (row_of which k (caller t place g (Some which) words) words inputs)
  row_owes call.Write h le = (write_lawful k (caller t place g (Some call.Write) words) x h (word_at words 0) (input_at inputs 0)).owes
  row_owes call.Read h le = (read_lawful k (caller t place g (Some call.Read) words) x h (word_at words 0) (word_at words 2) (takes_read words le)).owes
  row_owes call.Open h le = (open_lawful k (caller t place g (Some call.Open) words) x h (input_at inputs 0) (word_at words 1)).owes
  row_owes call.Close h le = (close_lawful k (caller t place g (Some call.Close) words) x h (word_at words 0)).owes
  row_owes call.Lseek h le = (lseek_lawful k (caller t place g (Some call.Lseek) words) x h (word_at words 0) (word_at words 1) (word_at words 2)).owes
  row_owes call.Dup h le = (dup_lawful k (caller t place g (Some call.Dup) words) x h (word_at words 0)).owes
  row_owes call.Dup2 h le = (dup2_lawful k (caller t place g (Some call.Dup2) words) x h (word_at words 0) (word_at words 1)).owes
  row_owes call.Unlink h le = (unlink_lawful k (caller t place g (Some call.Unlink) words) x h (input_at inputs 0)).owes
  row_owes call.Mkdir h le = (mkdir_lawful k (caller t place g (Some call.Mkdir) words) x h (input_at inputs 0)).owes
  row_owes call.Rmdir h le = (rmdir_lawful k (caller t place g (Some call.Rmdir) words) x h (input_at inputs 0)).owes
  row_owes call.Rename h le = (rename_lawful k (caller t place g (Some call.Rename) words) x h (input_at inputs 0) (input_at inputs 1)).owes
  row_owes call.Chdir h le = (chdir_lawful k (caller t place g (Some call.Chdir) words) x h (input_at inputs 0)).owes
  row_owes call.NxGetcwd h le = (getcwd_lawful k (caller t place g (Some call.NxGetcwd) words) x h (word_at words 1) (takes_first words le)).owes
  row_owes call.NxReaddir h le = (readdir_lawful k (caller t place g (Some call.NxReaddir) words) x h (input_at inputs 0) (word_at words 1) (word_at words 3) (takes_name words le)).owes
  row_owes call.NxKind h le = (kind_lawful k (caller t place g (Some call.NxKind) words) x h (input_at inputs 0)).owes
  row_owes call.NxSpawn h le = (spawn_lawful k (caller t place g (Some call.NxSpawn) words) x h (input_at inputs 0) (input_at inputs 1) (word_at words 2)).owes
  row_owes call.Exit h le = exit_owes k (caller t place g (Some call.Exit) words) x h (Some call.Exit) (word_at words 0) refl
  row_owes call.Getpid h le = (plain k (caller t place g (Some call.Getpid) words) x h k g.number (record { sound = λ s. s; table = refl; slots = refl })).owes
  row_owes call.Waitpid h le = (waitpid_lawful k (caller t place g (Some call.Waitpid) words) x h (word_at words 0) (word_at words 2) (record { call = refl; words = let e = length_plain (kinds_of call.Waitpid) words in omega (arith, e, le) })).owes
  row_owes call.NxArgc h le = (plain k (caller t place g (Some call.NxArgc) words) x h k (length g.arguments) (record { sound = λ s. s; table = refl; slots = refl })).owes
  row_owes call.NxArg h le = (arg_lawful k (caller t place g (Some call.NxArg) words) x h (word_at words 0) (word_at words 2) (takes_arg words le)).owes
  row_owes call.NxSetpriority h le = (priority_lawful k (caller t place g (Some call.NxSetpriority) words) x h (word_at words 0) (word_at words 1)).owes
  row_owes call.SchedYield h le = (yield_lawful k (caller t place g (Some call.SchedYield) words) x h).owes
  row_owes call.NxPs h le = (ps_lawful k (caller t place g (Some call.NxPs) words) x h (word_at words 0) (word_at words 2) (takes_ps words le)).owes
  row_owes call.NxThread h le = (thread_lawful k (caller t place g (Some call.NxThread) words) x h refl).owes
  row_owes call.NxThreadExit h le = thread_exit_owes k (caller t place g (Some call.NxThreadExit) words) x h (Some call.NxThreadExit) (word_at words 0) refl
  row_owes call.NxJoin h le = (join_lawful k (caller t place g (Some call.NxJoin) words) x h (word_at words 0) (record { call = refl; words = let e = length_plain (kinds_of call.NxJoin) words in omega (arith, e, le) })).owes
  row_owes call.GetErrno h le = (errno_lawful k (caller t place g (Some call.GetErrno) words) x h).owes
  row_owes call.NxMqOpen h le = (mq_open_lawful k (caller t place g (Some call.NxMqOpen) words) x h (input_at inputs 0) (word_at words 1) (word_at words 2) (word_at words 3)).owes
  row_owes call.MqClose h le = (mq_close_lawful k (caller t place g (Some call.MqClose) words) x h (word_at words 0)).owes
  row_owes call.MqUnlink h le = (mq_unlink_lawful k (caller t place g (Some call.MqUnlink) words) x h (input_at inputs 0)).owes
  row_owes call.MqSend h le = (mq_send_lawful k (caller t place g (Some call.MqSend) words) x h (word_at words 0) (input_at inputs 0) (word_at words 2) (word_at words 3)).owes
  row_owes call.MqReceive h le = (mq_receive_lawful k (caller t place g (Some call.MqReceive) words) x h (word_at words 0) (word_at words 2)
      (inl (record { call = refl; words = let e = length_plain (kinds_of call.MqReceive) words in omega (arith, e, le) })) (takes_message words le)).owes
  row_owes call.NxMqTimedreceive h le = (mq_timedreceive_lawful k (caller t place g (Some call.NxMqTimedreceive) words) x h (word_at words 0) (word_at words 2) (word_at words 4)
      (inr (record { call = refl; words = let e = length_plain (kinds_of call.NxMqTimedreceive) words in omega (arith, e, le) })) (takes_timed_message words le)).owes
  row_owes call.NxSemOpen h le = (sem_open_lawful k (caller t place g (Some call.NxSemOpen) words) x h (input_at inputs 0) (word_at words 1) (word_at words 2)).owes
  row_owes call.NxSemWait h le = (sem_wait_lawful k (caller t place g (Some call.NxSemWait) words) x h (word_at words 0)).owes
  row_owes call.NxSemTrywait h le = (sem_trywait_lawful k (caller t place g (Some call.NxSemTrywait) words) x h (word_at words 0)).owes
  row_owes call.NxSemPost h le = (sem_post_lawful k (caller t place g (Some call.NxSemPost) words) x h (word_at words 0)).owes
  row_owes call.NxSemClose h le = (sem_close_lawful k (caller t place g (Some call.NxSemClose) words) x h (word_at words 0)).owes
  row_owes call.NxSleep h le = (sleep_lawful k (caller t place g (Some call.NxSleep) words) x h (word_at words 0)).owes
  row_owes call.NxTicks h le = (ticks_lawful k (caller t place g (Some call.NxTicks) words) x h).owes
  row_owes call.NxGetenv h le = (getenv_lawful k (caller t place g (Some call.NxGetenv) words) x h (input_at inputs 0) (word_at words 2) (takes_value words le)).owes
  row_owes call.Setenv h le = (setenv_lawful k (caller t place g (Some call.Setenv) words) x h (input_at inputs 0) (input_at inputs 1) (word_at words 2)).owes
  row_owes call.Unsetenv h le = (unsetenv_lawful k (caller t place g (Some call.Unsetenv) words) x h (input_at inputs 0)).owes
  row_owes call.NxEnv h le = (env_lawful k (caller t place g (Some call.NxEnv) words) x h (word_at words 0) (word_at words 2) (takes_variable words le)).owes

  asked_owes : (which : Option KCall) → Calls k (caller t place g which words) → length (kinds_in which) ≤ length words → Owes k t.number x which (gone_or_waits k t.number x which words) (asked which k (caller t place g which words) words inputs)
  asked_owes None h le = (fails k (caller t place g None words) x h errno.Enosys).owes
  asked_owes (Some which) h le = row_owes which h le

-- ---- who calls

-- a thread of a number, with its slot, its place and its group
pub record Found (k : KernelState) (i : ℕ) (t : Thread) : Type 0 where
  pub slot : ℕ
  pub place : ℕ
  pub group : Group
  pub stands : Stands k.sched.threads slot t
  pub lives : Stands k.groups place group
  pub member : t.group ≡ group.number
  pub number : t.number ≡ i
  pub placed : place_of k.groups t.group ≡ Some place

pub found : (k : KernelState) (i : ℕ) (t : Thread) → IsSound k → thread_of k.sched.threads i ≡ Some t → Found k i t
unfolding thread_of
found k i t sound e =
    let f = found_at (is_numbered i) k.sched.threads t e in
    let s = sound.each_thread f.place t f.stands in
    record {
      slot = f.place;
      place = s.place;
      group = s.group;
      stands = f.stands;
      lives = s.lives;
      member = s.member;
      number = eq_from t.number i f.passes;
      placed = ap (place_of k.groups) s.member ∙ (group_only k.sched.threads k.groups k.numbers s.place s.group sound s.lives).1;
    }

pub step_is : (k : KernelState) (i : ℕ) (which : Option KCall) (words : List ℕ) (inputs : List (List ℕ)) (t : Thread) → thread_of k.sched.threads i ≡ Some t → (f : Found k i t) → step k i which words inputs ≡ asked which (counted k) (caller t f.place f.group which words) words inputs
unfolding step
step_is k i which words inputs t e f =
    ap (λ o. called (counted k) o which words inputs) e
    ∙ ap (λ o. called_by (counted k) t which words inputs o) f.placed
    ∙ ap (λ o. called_in (counted k) t which words inputs f.place (flat o)) f.lives

module _ (k : KernelState) (i : ℕ) (which : Option KCall) (words : List ℕ) (inputs : List (List ℕ)) (sound : IsSound k) (le : length (kinds_in which) ≤ length words) where
  step_owes : (x : ThreadRow) (t : Thread) → thread_of k.sched.threads i ≡ Some t → Owes (counted k) i x which (gone_or_waits k i x which words) (step k i which words inputs)
  step_owes x t e =
      let f = found k i t sound e in
      subst (λ s. Owes (counted k) i x which (gone_or_waits k i x which words) s) (sym (step_is k i which words inputs t e f))
      (subst (λ n. Owes (counted k) n x which (gone_or_waits k n x which words) (asked which (counted k) (caller t f.place f.group which words) words inputs)) f.number
      (asked_owes (counted k) t f.place f.group x words inputs which (record { sound = sound; slot = f.slot; stands = f.stands; lives = f.lives; member = f.member }) le))

pub nobody : (k : KernelState) (i : ℕ) (which : Option KCall) (words : List ℕ) (inputs : List (List ℕ)) → thread_of k.sched.threads i ≡ None → step k i which words inputs ≡ silent (counted k)
unfolding step
nobody k i which words inputs e = ap (λ o. called (counted k) o which words inputs) e

-- ---- the laws

pub calls_stay_sound : CallsStaySound
calls_stay_sound k i which words inputs sound le = by_thread (thread_of k.sched.threads i) refl
  where
    any : Thread → ThreadRow
    any t = record { group = t.group; program = 0; slot = 0; waits = None }

    by_thread : (o : Option Thread) → thread_of k.sched.threads i ≡ o → IsSound (step k i which words inputs).to
    by_thread None e = subst (λ s. IsSound s.to) (sym (nobody k i which words inputs e)) sound
    by_thread (Some t) e = (step_owes k i which words inputs sound le (any t) t e).sound

effect_is : (k : KernelState) (u v : Table) (x : ThreadRow) (which : Option KCall) (e : Effect) → u ≡ v → IsAllowed (counted k) u x which e → IsAllowed k v x which e
effect_is k u v x which Stays same h = tt
effect_is k u v x which (EndsGroup group) same h = h
effect_is k u v x which (Begins st) same h = subst (λ w. IsStart k w x which st) same (record { may = h.may; slot = h.slot; number = h.number; later = h.later; thread = h.thread; group = h.group; fresh = h.fresh })

table_is : (k : KernelState) → tab k ≡ threads k
table_is k = fun_ext (λ n. sym (threads_are k n))

pub calls_change_threads : CallsChangeThreads
calls_change_threads k i x which words inputs sound row le = law owes (sym (threads_are k i) ∙ row)
  where
    s : Stepped
    s = step k i which words inputs

    entry : Entry k.sched.threads k.groups i (ready x)
    entry = entry_of k.sched.threads k.groups k.numbers i (ready x) sound (sym (threads_are k i) ∙ row)

    owes : Owes (counted k) i x which (gone_or_waits k i x which words) (step k i which words inputs)
    owes = step_owes k i which words inputs sound le x entry.thread (ap (thread_of k.sched.threads) (sym entry.number) ∙ (thread_only k.sched.threads k.groups k.numbers entry.slot entry.thread sound entry.stands).0)

    same : gone_or_waits k i x which words ≡ asking (threads k) i x which words
    same = ap (λ u. set_at u i (if is_last which then None else Some (waiting x (waiting_call which words)))) (table_is k)

    law : Owes (counted k) i x which (gone_or_waits k i x which words) (step k i which words inputs) → IsReady (counted k) i x → IsStep k i x which words (step k i which words inputs)
    law o r =
        let table : (n : ℕ) → threads (step k i which words inputs).to n ≡ after_replies (before_replies k i x which words (step k i which words inputs)) (step k i which words inputs).replies n =
        λ n. threads_are (step k i which words inputs).to n ∙ ap (λ u. u n) (o.table r) ∙ ap (λ u. after_replies (after_effect u (step k i which words inputs).effect) (step k i which words inputs).replies n) same in
        record {
          effect = effect_is k (gone_or_waits k i x which words) (asking (threads k) i x which words) x which (step k i which words inputs).effect same (o.effect r);
          due = due_from (step k i which words inputs).to (step k i which words inputs).replies (before_replies k i x which words (step k i which words inputs))
              (subst (λ u. AreFit (after_effect u (step k i which words inputs).effect) (step k i which words inputs).replies) same (o.fit r)) table;
          table = table;
          slots = o.slots;
        }

pub numbers_were_given : NumbersWereGiven
numbers_were_given k i x sound row =
    let e = entry_of k.sched.threads k.groups k.numbers i x sound (sym (threads_are k i) ∙ row) in
    let t = sound.each_thread e.slot e.thread e.stands in
    let a = t.least in let b = t.most in let n = e.number in
    (omega (arith, a, n), omega (arith, b, n), subst (λ s. s < length k.sched.threads) (ap (λ r. r.slot) e.is) (within k.sched.threads e.slot (Some e.thread) e.stands))

pub slots_differ : SlotsDiffer
slots_differ k i j x y sound a b e =
    let f = entry_of k.sched.threads k.groups k.numbers i x sound (sym (threads_are k i) ∙ a) in
    let g = entry_of k.sched.threads k.groups k.numbers j y sound (sym (threads_are k j) ∙ b) in
    let slots : f.slot ≡ g.slot = ap (λ r. r.slot) f.is ∙ e ∙ sym (ap (λ r. r.slot) g.is) in
    let z : Some (Some f.thread) ≡ Some (Some g.thread) = sym f.stands ∙ ap (slice_get k.sched.threads) slots ∙ g.stands in
    sym f.number ∙ ap (λ t. t.number) (some_same f.thread g.thread (some_same (Some f.thread) (Some g.thread) z)) ∙ g.number

pub same_meaning_same_step : SameMeaningSameStep
same_meaning_same_step k thread which words other inputs e =
    sym (pointers_mean_nothing k thread which words inputs) ∙ ap (λ ws. step k thread which ws inputs) e ∙ pointers_mean_nothing k thread which other inputs

pub nobodys_call_is_silent : NobodysCallIsSilent
unfolding threads
nobodys_call_is_silent k thread which words inputs e = by_thread (thread_of k.sched.threads thread) refl (sym (threads_are k thread) ∙ e)
  where
    by_thread : (o : Option Thread) → thread_of k.sched.threads thread ≡ o → table_of k.sched.threads k.groups thread ≡ None → step k thread which words inputs ≡ silent (counted k)
    by_thread None q h = nobody k thread which words inputs q
    by_thread (Some t) q h = absurd (none_some (row_of_thread k.sched.threads k.groups t) (sym h ∙ ap (row_in k.sched.threads k.groups) q))
