-- Children, arguments, reports and threads: who waits, and who is answered at once.
use Rattle.std.proofs.Common.{◌≡◌, ℕ, ◌==◌, ◌&&◌, ◌||◌, Bool, true, false, List, [], ◌∷◌, Option, Some, None, refl, sym, subst}
use mathlib.Core.Path.{fun_ext}
use Rattle.std.specs.Prelude.{not, nat_lt, slice_get, filter, nat_abs, if◌then◌else◌}
use Rattle.std.specs.List.{find}
use Rattle.nx_base.specs.declared.calls.KCall.TheVariants as call
use Rattle.nx_base.specs.declared.errno.Errno.TheVariants as errno
use Rattle.nx_ksys.specs.declared.thread.Doing.{Doing}
use Rattle.nx_ksys.specs.declared.thread.Doing.TheVariants.{Ready, Waits, Until}
use Rattle.nx_ksys.specs.declared.thread.Thread.{Thread}
use Rattle.nx_ksys.specs.declared.thread.Wait.{Wait}
use Rattle.nx_ksys.specs.declared.thread.Wait.TheVariants as wait
use Rattle.nx_ksys.specs.Telling.{minus_one}
use Rattle.nx_ksys.specs.Threads.{thread_of, changed, change_thread, awaited}
use Rattle.nx_ksys.specs.State.{Group, Code, ThreadValue, KernelState}
use Rattle.nx_ksys.specs.Answers.{Caller, int_out, is_negative}
use Rattle.nx_ksys.specs.Ends.{has_child, has_any_child, is_code, is_any_code}
use Rattle.nx_ksys.specs.GroupCalls.{without_code, wait_for, wait_child, waitpid_row, arg_out, arg_row, nth_group, status_of, ps_out, ps_row}
use Rattle.nx_ksys.specs.ThreadCalls.{at_the_end, prioritised, set_priority, setpriority_row, yielded, yield_row, is_value, may_join, join_live, join_value, join_row, errno_row}
use Rattle.nx_ksys.specs.ThreadTable.{ThreadRow, waits_in}
use Rattle.nx_ksys.specs.Soundness.{IsAsked, Agrees}
use Rattle.nx_ksys.proofs.Standing.{length_map}
use Rattle.nx_ksys.proofs.Tables.{table_kept, sound_changed}
use Rattle.nx_ksys.proofs.Waking.{nothing_fits, fits_waitpid, fits_join}
use Rattle.nx_ksys.proofs.Owing.{Same, Calls, Lawful, Takes, either, answers, plain, fails, texts, blocks}

-- ---- children, arguments and reports

pub waitpid_lawful : (k : KernelState) (c : Caller) (x : ThreadRow) (h : Calls k c) (pid option : ℕ) → IsAsked call.Waitpid c.asked → Lawful k c x (waitpid_row k c pid option)
unfolding waitpid_row
waitpid_lawful k c x h pid option asked =
    either k c x (pid == 0 || (is_negative pid && not (pid == minus_one)) || nat_lt 1 option) _ _ (fails k c x h errno.Einval)
    (either k c x (pid == minus_one) _ _ (by_code wait.AnyChild asked (has_any_child k.groups k.codes c.group.number) (find (is_any_code c.group.number) k.codes))
    (by_code (wait.Child pid) asked (has_child k.groups k.codes c.group.number pid) (find (is_code c.group.number pid) k.codes)))
  where
    waiting : (for : Wait) → Agrees (Some for) c.asked → Lawful k c x (wait_for k c for option)
    waiting for a = either k c x (option == 1) _ _ (answers k c x h k 0 ([] ∷ []) (record { sound = λ s. s; table = refl; slots = refl }) (nothing_fits c.asked)) (blocks k c x h for None a)

    by_code : (for : Wait) → Agrees (Some for) c.asked → (there : Bool) (code : Option Code) → Lawful k c x (wait_child k c for option there code)
    by_code for a there (Some code) =
        answers k c x h (record k { codes = without_code code k.codes }) code.child (int_out code.code ∷ []) (record { sound = λ s. s; table = refl; slots = refl }) (fits_waitpid c.asked code.code asked)
    by_code for a true None = waiting for a
    by_code for a false None = fails k c x h errno.Echild

pub arg_lawful : (k : KernelState) (c : Caller) (x : ThreadRow) (h : Calls k c) (index size : ℕ) → Takes c.asked size → Lawful k c x (arg_row k c index size)
unfolding arg_row
arg_lawful k c x h index size takes = by_argument (slice_get c.group.arguments index)
  where
    by_argument : (a : Option (List ℕ)) → Lawful k c x (arg_out k c size a)
    by_argument None = fails k c x h errno.Einval
    by_argument (Some a) = texts k c x h size a takes

pub ps_lawful : (k : KernelState) (c : Caller) (x : ThreadRow) (h : Calls k c) (index size : ℕ) → Takes c.asked size → Lawful k c x (ps_row k c index size)
unfolding ps_row
ps_lawful k c x h index size takes = either k c x (is_negative index) _ _ (fails k c x h errno.Einval) (by_group (nth_group k.groups index))
  where
    by_group : (g : Option Group) → Lawful k c x (ps_out k c size g)
    by_group None = answers k c x h k 0 ([] ∷ []) (record { sound = λ s. s; table = refl; slots = refl }) (nothing_fits c.asked)
    by_group (Some g) = texts k c x h size (status_of k g) takes

-- ---- priorities

ended_waits : (t : Thread) (priority moment : ℕ) (d : Doing) → waits_in (record t { priority = priority; doing = at_the_end moment d }) ≡ waits_in (record t { doing = d })
ended_waits t priority moment (Ready since) = refl
ended_waits t priority moment (Waits for since) = refl
ended_waits t priority moment (Until for since deadline) = refl

ended_awaits : (moment : ℕ) (d : Doing) → awaited (at_the_end moment d) ≡ awaited d
ended_awaits moment (Ready since) = refl
ended_awaits moment (Waits for since) = refl
ended_awaits moment (Until for since deadline) = refl

prioritised_same : (k : KernelState) (number priority : ℕ) → Same k (record k { sched = prioritised k.sched number priority })
unfolding change_thread
prioritised_same k number priority = record {
  sound = λ s. sound_changed (λ t. record t { priority = priority; doing = at_the_end k.sched.moments t.doing }) (λ t. refl) (λ t. refl) number k.sched.threads k.groups k.numbers s
      (λ r t a e. subst (λ w. Agrees w t.asked) (sym (ended_awaits k.sched.moments t.doing)) (let o = s.each_thread r t a in o.agrees));
  table = fun_ext (λ m. table_kept (λ t. record t { priority = priority; doing = at_the_end k.sched.moments t.doing }) (λ t. refl) (λ t. refl) number k.sched.threads k.groups (λ t. ended_waits t priority k.sched.moments t.doing) m);
  slots = length_map (changed number (λ t. record t { priority = priority; doing = at_the_end k.sched.moments t.doing })) k.sched.threads;
}

yielded_same : (k : KernelState) (number : ℕ) → Same k (record k { sched = yielded k.sched number })
unfolding change_thread
yielded_same k number = record {
  sound = λ s. sound_changed (λ t. record t { doing = at_the_end k.sched.moments t.doing }) (λ t. refl) (λ t. refl) number k.sched.threads k.groups k.numbers s
      (λ r t a e. subst (λ w. Agrees w t.asked) (sym (ended_awaits k.sched.moments t.doing)) (let o = s.each_thread r t a in o.agrees));
  table = fun_ext (λ m. table_kept (λ t. record t { doing = at_the_end k.sched.moments t.doing }) (λ t. refl) (λ t. refl) number k.sched.threads k.groups (λ t. ended_waits t t.priority k.sched.moments t.doing) m);
  slots = length_map (changed number (λ t. record t { doing = at_the_end k.sched.moments t.doing })) k.sched.threads;
}

pub priority_lawful : (k : KernelState) (c : Caller) (x : ThreadRow) (h : Calls k c) (thread priority : ℕ) → Lawful k c x (setpriority_row k c thread priority)
unfolding setpriority_row
priority_lawful k c x h thread priority = by_thread (thread_of k.sched.threads (if thread == 0 then c.thread.number else thread))
  where
    by_thread : (t : Option Thread) → Lawful k c x (set_priority k c priority t)
    by_thread None = fails k c x h errno.Einval
    by_thread (Some t) =
        either k c x (not (t.group == c.group.number) || priority == 0 || nat_lt 255 priority) _ _ (fails k c x h errno.Einval)
        (plain k c x h (record k { sched = prioritised k.sched t.number priority }) 0 (prioritised_same k t.number priority))

pub yield_lawful : (k : KernelState) (c : Caller) (x : ThreadRow) (h : Calls k c) → Lawful k c x (yield_row k c)
unfolding yield_row
yield_lawful k c x h = plain k c x h (record k { sched = yielded k.sched c.thread.number }) 0 (yielded_same k c.thread.number)

-- ---- joins and errors

pub join_lawful : (k : KernelState) (c : Caller) (x : ThreadRow) (h : Calls k c) (thread : ℕ) → IsAsked call.NxJoin c.asked → Lawful k c x (join_row k c thread)
unfolding join_row
join_lawful k c x h thread asked = by_value (find (is_value c.group.number thread) k.values)
  where
    by_thread : (t : Option Thread) → Lawful k c x (join_live k c t)
    by_thread None = fails k c x h errno.Einval
    by_thread (Some t) = either k c x (may_join k c t) _ _ (blocks k c x h (wait.Thread t.number) None asked) (fails k c x h errno.Einval)

    by_value : (v : Option ThreadValue) → Lawful k c x (join_value k c thread v)
    by_value None = by_thread (thread_of k.sched.threads thread)
    by_value (Some v) =
        answers k c x h (record k { values = filter (λ other. not (other.thread == v.thread)) k.values }) 0 (int_out v.value ∷ []) (record { sound = λ s. s; table = refl; slots = refl }) (fits_join c.asked v.value asked)

pub errno_lawful : (k : KernelState) (c : Caller) (x : ThreadRow) (h : Calls k c) → Lawful k c x (errno_row k c)
unfolding errno_row
errno_lawful k c x h = plain k c x h k (nat_abs c.thread.errno) (record { sound = λ s. s; table = refl; slots = refl })
