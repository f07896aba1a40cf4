-- Calls on threads: nx_setpriority, sched_yield, nx_thread, nx_join, get_errno.
use Rattle.nx_ksys.specs.Telling.{reply}
use Rattle.std.specs.Prelude.{ℕ, ◌+◌, ◌==◌, ◌&&◌, ◌||◌, nat_le, nat_lt, nat_abs, Bool, true, false, not, if◌then◌else◌, [], ◌∷◌, filter, Option, Some, None}
use Rattle.std.specs.List.{find, list_any}
use Rattle.nx_base.specs.declared.errno.Errno.TheVariants.{Eagain, Einval}
use Rattle.nx_ksys.specs.declared.thread.Wait.TheVariants as wait
use Rattle.nx_ksys.specs.declared.thread.Doing.{Doing}
use Rattle.nx_ksys.specs.declared.thread.Doing.TheVariants.{Ready, Waits, Until}
use Rattle.nx_ksys.specs.declared.thread.Thread.{Thread}
use Rattle.nx_ksys.specs.Threads.{Schedule, awaited, is_for_thread, change_thread, free_slot, thread_of}
use Rattle.nx_ksys.specs.State.{ThreadValue, KernelState}
use Rattle.nx_ksys.specs.GroupCalls.{most_numbers, with_new_thread}
use Rattle.nx_ksys.specs.Answers.{Begins, Stepped, Caller, replied, failed, waits, int_out}

-- ---- nx_setpriority, sched_yield

-- a ready thread stands after all that are ready
abbrev pub at_the_end : ℕ → Doing → Doing
at_the_end moment (Ready since) = Ready moment
at_the_end moment (Waits for since) = Waits for since
at_the_end moment (Until for since deadline) = Until for since deadline

abbrev pub prioritised : Schedule → ℕ → ℕ → Schedule
prioritised s thread priority =
    record { threads = change_thread thread (λ t. record t { priority = priority; doing = at_the_end s.moments t.doing }) s.threads; moments = s.moments + 1 }

abbrev pub set_priority : KernelState → Caller → ℕ → Option Thread → Stepped
set_priority k c priority None = failed k c Einval
set_priority k c priority (Some t) =
    if not (t.group == c.group.number) || priority == 0 || nat_lt 255 priority then failed k c Einval
    else replied (record k { sched = prioritised k.sched t.number priority }) c 0 []

-- thread 0 is the caller
unfoldable pub setpriority_row : KernelState → Caller → ℕ → ℕ → Stepped
setpriority_row k c thread priority = set_priority k c priority (thread_of k.sched.threads (if thread == 0 then c.thread.number else thread))

abbrev pub yielded : Schedule → ℕ → Schedule
yielded s thread = record { threads = change_thread thread (λ t. record t { doing = at_the_end s.moments t.doing }) s.threads; moments = s.moments + 1 }

unfoldable pub yield_row : KernelState → Caller → Stepped
yield_row k c = replied (record k { sched = yielded k.sched c.thread.number }) c 0 []

-- ---- nx_thread

abbrev pub thread_at : KernelState → Caller → Option ℕ → Stepped
thread_at k c None = failed k c Eagain
thread_at k c (Some slot) =
    if nat_le most_numbers k.numbers then failed k c Eagain
    else (let number = k.numbers + 1 in record {
      to = with_new_thread k slot c.group.number c.thread.priority;
      effect = Begins (record { thread = number; group = c.group.number; program = c.group.program; slot = slot; is_thread = true; fresh = false });
      replies = reply c.thread.number number [] ∷ [];
    })

unfoldable pub thread_row : KernelState → Caller → Stepped
thread_row k c = thread_at k c (free_slot k.sched.threads)

-- ---- nx_join

-- the value of a thread of the group
abbrev pub is_value : ℕ → ℕ → ThreadValue → Bool
is_value group thread v = v.group == group && v.thread == thread

abbrev pub is_joined_by : ℕ → Option Thread → Bool
is_joined_by number None = false
is_joined_by number (Some t) = is_for_thread number (awaited t.doing)

-- some thread waits for the end of this one
abbrev pub is_joined : KernelState → ℕ → Bool
is_joined k number = list_any (is_joined_by number) k.sched.threads

-- a live thread of the group that nx_thread made, not the caller, for whose end none waits
abbrev pub may_join : KernelState → Caller → Thread → Bool
may_join k c t = t.group == c.group.number && not (t.number == c.group.number) && not (t.number == c.thread.number) && not (is_joined k t.number)

abbrev pub join_live : KernelState → Caller → Option Thread → Stepped
join_live k c None = failed k c Einval
join_live k c (Some t) = if may_join k c t then waits k c (wait.Thread t.number) None else failed k c Einval

abbrev pub join_value : KernelState → Caller → ℕ → Option ThreadValue → Stepped
join_value k c thread None = join_live k c (thread_of k.sched.threads thread)
join_value k c thread (Some v) = replied (record k { values = filter (λ other. not (other.thread == v.thread)) k.values }) c 0 (int_out v.value ∷ [])

unfoldable pub join_row : KernelState → Caller → ℕ → Stepped
join_row k c thread = join_value k c thread (find (is_value c.group.number thread) k.values)

-- ---- get_errno

unfoldable pub errno_row : KernelState → Caller → Stepped
errno_row k c = replied k c (nat_abs c.thread.errno) []
