-- The changes of which each call and each choice is made.
use Rattle.std.proofs.Common.{◌≡◌, ℕ, zero, suc, ◌+◌, Bool, true, false, List, [], length, drop, Option, Some, None, refl}
use Rattle.std.specs.Prelude.{if◌then◌else◌, slice_get, nat_le}
use Rattle.std.specs.List.{list_any}
use Rattle.std.specs.Option.{is_some}
use Rattle.nx_base.specs.Calls.{AreInputs}
use Rattle.nx_base.specs.KernelCalls.{kinds_of}
use Rattle.nx_base.specs.declared.calls.KCall.{KCall}
use Rattle.nx_base.specs.declared.calls.KCall.TheVariants as call
use Rattle.nx_base.specs.declared.errno.Errno.TheVariants as errno
use Rattle.nx_ksys.specs.declared.pick.Pick.TheVariants.{Ended}
use Rattle.nx_ksys.specs.declared.thread.Doing.{Doing}
use Rattle.nx_ksys.specs.declared.thread.Doing.TheVariants.{Ready, Waits, Until}
use Rattle.nx_ksys.specs.declared.thread.Thread.{Thread}
use Rattle.nx_ksys.specs.declared.thread.Wait.{Wait}
use Rattle.nx_ksys.specs.declared.thread.Wait.TheVariants as wait
use Rattle.nx_ksys.specs.declared.thread.Search.TheVariants as search
use Rattle.nx_ksys.specs.Threads.{Schedule, flat, awaited, is_ready, is_timed, is_numbered, deadline_of, first_of, thread_of, wake}
use Rattle.nx_ksys.specs.State.{Group, KernelState}
use Rattle.nx_ksys.specs.Answers.{Caller, place_of, word_at, input_at}
use Rattle.nx_ksys.specs.Step.{row_of, asked, counted, meant_call, called_in, called_by, called, step}
use Rattle.nx_ksys.specs.Picking.{Picked, timed_out, if_due, first_due, wake_first, wake_due, next_late, passed, passed_if, advanced, picked_after, picked}
use Rattle.nx_ksys.specs.Soundness.{Stands, IsSound}
use Rattle.nx_ksys.specs.TableLaws.{kinds_in}
use Rattle.nx_ksys.proofs.Standing.{none_some, found_at}
use Rattle.nx_ksys.proofs.Waking.{first_stands}
use Rattle.nx_kbounds.proofs.Changes.{Change, Same, Fails, Wakes, Idles, Passes}
use Rattle.nx_kbounds.proofs.Walking.{Made, followed, fails, same}
use Rattle.nx_kbounds.proofs.ShortTexts.{second_text, sent_bytes}
use Rattle.nx_kbounds.proofs.FileWalk.{write_made, read_made, open_made, close_made, lseek_made, dup_made, dup2_made}
use Rattle.nx_kbounds.proofs.TreeWalk.{unlink_made, mkdir_made, rmdir_made, rename_made, chdir_made, getcwd_made, readdir_made, kind_made}
use Rattle.nx_kbounds.proofs.GroupWalk.{exit_made, thread_exit_made, spawn_made, waitpid_made, arg_made, ps_made, priority_made, yield_made, thread_made, join_made, errno_made}
use Rattle.nx_kbounds.proofs.QueueWalk.{sem_open_made, sem_wait_made, sem_trywait_made, sem_post_made, sem_close_made, mq_open_made, mq_close_made, mq_unlink_made, mq_send_made, mq_receive_made, mq_timedreceive_made}
use Rattle.nx_kbounds.proofs.EnvironmentWalk.{sleep_made, ticks_made, getenv_made, setenv_made, unsetenv_made, env_made}

-- who calls: its thread stands in a slot, and its group at its place
pub record IsCaller (k : KernelState) (c : Caller) : Type 0 where
  pub sound : IsSound k
  pub slot : ℕ
  pub stands : Stands k.sched.threads slot c.thread
  pub lives : flat (slice_get k.groups c.place) ≡ Some c.group

row_made : (which : KCall) (k : KernelState) (c : Caller) (words : List ℕ) (inputs : List (List ℕ)) → IsCaller k c → AreInputs (kinds_of which) words inputs → Made k (row_of which k c words inputs)
row_made call.Write k c words inputs h a = write_made k c (word_at words 0) (input_at inputs 0)
row_made call.Read k c words inputs h a = read_made k c (word_at words 0) (word_at words 2)
row_made call.Open k c words inputs h a = open_made k c h.lives (input_at inputs 0) (word_at words 1)
row_made call.Close k c words inputs h a = close_made k c (word_at words 0)
row_made call.Lseek k c words inputs h a = lseek_made k c (word_at words 0) (word_at words 1) (word_at words 2)
row_made call.Dup k c words inputs h a = dup_made k c h.lives (word_at words 0)
row_made call.Dup2 k c words inputs h a = dup2_made k c h.lives (word_at words 0) (word_at words 1)
row_made call.Unlink k c words inputs h a = unlink_made k c (input_at inputs 0)
row_made call.Mkdir k c words inputs h a = mkdir_made k c (input_at inputs 0)
row_made call.Rmdir k c words inputs h a = rmdir_made k c (input_at inputs 0)
row_made call.Rename k c words inputs h a = rename_made k c (input_at inputs 0) (input_at inputs 1)
row_made call.Chdir k c words inputs h a = chdir_made k c h.lives (input_at inputs 0)
row_made call.NxGetcwd k c words inputs h a = getcwd_made k c (word_at words 1)
row_made call.NxReaddir k c words inputs h a = readdir_made k c (input_at inputs 0) (word_at words 1) (word_at words 3)
row_made call.NxKind k c words inputs h a = kind_made k c (input_at inputs 0)
row_made call.NxSpawn k c words inputs h a = spawn_made k c h.sound h.lives (input_at inputs 0) (input_at inputs 1) (word_at words 2) (second_text words inputs a)
row_made call.Exit k c words inputs h a = exit_made k c (word_at words 0)
row_made call.Getpid k c words inputs h a = same k _ refl
row_made call.Waitpid k c words inputs h a = waitpid_made k c h.sound.distinct (word_at words 0) (word_at words 2)
row_made call.NxArgc k c words inputs h a = same k _ refl
row_made call.NxArg k c words inputs h a = arg_made k c (word_at words 0) (word_at words 2)
row_made call.NxSetpriority k c words inputs h a = priority_made k c (word_at words 0) (word_at words 1)
row_made call.SchedYield k c words inputs h a = yield_made k c
row_made call.NxPs k c words inputs h a = ps_made k c (word_at words 0) (word_at words 2)
row_made call.NxThread k c words inputs h a = thread_made k c
row_made call.NxThreadExit k c words inputs h a = thread_exit_made k c h.slot h.stands (word_at words 0)
row_made call.NxJoin k c words inputs h a = join_made k c h.sound.distinct (word_at words 0)
row_made call.GetErrno k c words inputs h a = errno_made k c
row_made call.NxMqOpen k c words inputs h a = mq_open_made k c h.lives (input_at inputs 0) (word_at words 1) (word_at words 2) (word_at words 3)
row_made call.MqClose k c words inputs h a = mq_close_made k c (word_at words 0)
row_made call.MqUnlink k c words inputs h a = mq_unlink_made k c (input_at inputs 0)
row_made call.MqSend k c words inputs h a = mq_send_made k c h.sound.distinct (word_at words 0) (input_at inputs 0) (word_at words 2) (word_at words 3) (sent_bytes words inputs a)
row_made call.MqReceive k c words inputs h a = mq_receive_made k c h.sound.distinct (word_at words 0) (word_at words 2)
row_made call.NxMqTimedreceive k c words inputs h a = mq_timedreceive_made k c h.sound.distinct (word_at words 0) (word_at words 2) (word_at words 4)
row_made call.NxSemOpen k c words inputs h a = sem_open_made k c h.lives (input_at inputs 0) (word_at words 1) (word_at words 2)
row_made call.NxSemWait k c words inputs h a = sem_wait_made k c h.sound.distinct (word_at words 0)
row_made call.NxSemTrywait k c words inputs h a = sem_trywait_made k c (word_at words 0)
row_made call.NxSemPost k c words inputs h a = sem_post_made k c (word_at words 0)
row_made call.NxSemClose k c words inputs h a = sem_close_made k c (word_at words 0)
row_made call.NxSleep k c words inputs h a = sleep_made k c h.sound.distinct (word_at words 0)
row_made call.NxTicks k c words inputs h a = ticks_made k c
row_made call.NxGetenv k c words inputs h a = getenv_made k c (input_at inputs 0) (word_at words 2)
row_made call.Setenv k c words inputs h a = setenv_made k c h.lives (input_at inputs 0) (input_at inputs 1) (word_at words 2) (second_text words inputs a)
row_made call.Unsetenv k c words inputs h a = unsetenv_made k c h.lives (input_at inputs 0)
row_made call.NxEnv k c words inputs h a = env_made k c (word_at words 0) (word_at words 2)

thread_stands : (ts : List (Option Thread)) (number : ℕ) (t : Thread) → thread_of ts number ≡ Some t → (slot : ℕ) × Stands ts slot t
unfolding thread_of
thread_stands ts number t e = let f = found_at (is_numbered number) ts t e in (f.place, f.stands)

-- a call, behind its count
pub step_made : (k : KernelState) (thread : ℕ) (which : Option KCall) (words : List ℕ) (inputs : List (List ℕ)) → IsSound k → AreInputs (kinds_in which) words inputs → Made (counted k) (step k thread which words inputs)
unfolding step
step_made k thread which words inputs sound given = by_thread (thread_of k.sched.threads thread) refl
  where
    by_call : (w : Option KCall) → AreInputs (kinds_in w) words inputs → (c : Caller) → IsCaller (counted k) c → Made (counted k) (asked w (counted k) c words inputs)
    by_call None a c h = fails (counted k) c errno.Enosys
    by_call (Some w) a c h = row_made w (counted k) c words inputs h a

    by_group : (t : Thread) (slot : ℕ) → Stands k.sched.threads slot t → (place : ℕ) (g : Option Group) → flat (slice_get k.groups place) ≡ g → Made (counted k) (called_in (counted k) t which words inputs place g)
    by_group t slot s place None e = same (counted k) _ refl
    by_group t slot s place (Some g) e = by_call which given (record { thread = t; place = place; group = g; asked = meant_call which words }) (record { sound = sound; slot = slot; stands = s; lives = e })

    by_place : (t : Thread) (slot : ℕ) → Stands k.sched.threads slot t → (place : Option ℕ) → Made (counted k) (called_by (counted k) t which words inputs place)
    by_place t slot s None = same (counted k) _ refl
    by_place t slot s (Some place) = by_group t slot s place (flat (slice_get k.groups place)) refl

    by_thread : (t : Option Thread) → thread_of k.sched.threads thread ≡ t → Made (counted k) (called (counted k) t which words inputs)
    by_thread None e = same (counted k) _ refl
    by_thread (Some t) e = let s = thread_stands k.sched.threads thread t e in by_place t s.0 s.1 (place_of k.groups t.group)

-- ---- choices

timed_waits : (d : Doing) → is_timed d ≡ true → is_ready d ≡ false
timed_waits (Ready since) e = absurd cc
timed_waits (Waits for since) e = absurd cc
timed_waits (Until for since deadline) e = refl

abbrev with_sched : KernelState → Schedule → KernelState
with_sched k s = record k { sched = s }

timed_change : (k : KernelState) (t : Thread) (slot : ℕ) → Stands k.sched.threads slot t → is_ready t.doing ≡ false → (w : Option Wait) → Change 0 k (with_sched k (timed_out k.sched t w).sched)
timed_change k t slot s r None = followed k (with_sched k (wake k.sched t.number)) _ (Wakes t slot s r) (Fails t.number errno.Etimedout)
timed_change k t slot s r (Some wait.Sleep) = Wakes t slot s r
timed_change k t slot s r (Some (wait.Receive place)) = followed k (with_sched k (wake k.sched t.number)) _ (Wakes t slot s r) (Fails t.number errno.Etimedout)
timed_change k t slot s r (Some (wait.Send place)) = followed k (with_sched k (wake k.sched t.number)) _ (Wakes t slot s r) (Fails t.number errno.Etimedout)
timed_change k t slot s r (Some (wait.Semaphore place)) = followed k (with_sched k (wake k.sched t.number)) _ (Wakes t slot s r) (Fails t.number errno.Etimedout)
timed_change k t slot s r (Some (wait.Child number)) = followed k (with_sched k (wake k.sched t.number)) _ (Wakes t slot s r) (Fails t.number errno.Etimedout)
timed_change k t slot s r (Some wait.AnyChild) = followed k (with_sched k (wake k.sched t.number)) _ (Wakes t slot s r) (Fails t.number errno.Etimedout)
timed_change k t slot s r (Some (wait.Thread number)) = followed k (with_sched k (wake k.sched t.number)) _ (Wakes t slot s r) (Fails t.number errno.Etimedout)

due_first : (time : ℕ) (s : Schedule) (t : Thread) → first_due time s ≡ Some t → first_of search.Timed s.threads ≡ Some t
unfolding first_due
due_first time s t e = by_first (first_of search.Timed s.threads) e
  where
    by_first : (o : Option Thread) → if_due time o ≡ Some t → o ≡ Some t
    by_first None q = absurd (none_some t q)
    by_first (Some u) q = by_test (nat_le (deadline_of u.doing) time) q
      where
        by_test : (b : Bool) → (if b then Some u else None) ≡ Some t → Some u ≡ Some t
        by_test true r = r
        by_test false r = absurd (none_some t r)

due_change : (time n : ℕ) (k : KernelState) → Change 0 k (with_sched k (wake_due time n k.sched).sched)
due_change time zero k = Same
due_change time (suc n) k = by_first (first_due time k.sched) refl (λ l. due_change time n l)
  where
    by_first : (o : Option Thread) → first_due time k.sched ≡ o → ((l : KernelState) → Change 0 l (with_sched l (wake_due time n l.sched).sched)) → Change 0 k (with_sched k (wake_first k.sched (wake_due time n) o).sched)
    by_first None e more = Same
    by_first (Some t) e more =
        let f = first_stands search.Timed k.sched.threads t (due_first time k.sched t e) in
        let l = with_sched k (timed_out k.sched t (awaited t.doing)).sched in
        followed k l _ (timed_change k t f.slot f.stands (timed_waits t.doing f.passes) (awaited t.doing)) (more l)

advanced_change : (k : KernelState) → Change 0 k (advanced k).to
unfolding advanced
advanced_change k = by_ready (first_of search.Ready k.sched.threads)
  where
    by_timed : (t : Option Thread) → first_of search.Timed k.sched.threads ≡ t → Change 0 k (passed k t).to
    by_timed None e = Same
    by_timed (Some t) e =
        let f = first_stands search.Timed k.sched.threads t e in
        let time = deadline_of t.doing + next_late k.late in
        let l : KernelState = record k { time = time; late = drop 1 k.late } in
        let m = with_sched l (wake_due time (length k.sched.threads) k.sched).sched in
        followed k m _ (followed k l m (Passes t f.slot f.stands) (due_change time (length k.sched.threads) l)) Idles

    by_ready : (t : Option Thread) → Change 0 k (passed_if k t).to
    by_ready (Some t) = Same
    by_ready None = by_timed (first_of search.Timed k.sched.threads) refl

pub picked_change : (k : KernelState) → Change 0 k (picked k).to
unfolding picked
picked_change k = by_test (list_any is_some k.groups)
  where
    by_test : (b : Bool) → Change 0 k (let p : Picked = if b then picked_after (advanced k) else record { to = k; replies = []; pick = Ended } in p).to
    by_test true = advanced_change k
    by_test false = Same
