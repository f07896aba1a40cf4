-- Time, and which thread runs next.
use Rattle.std.specs.Prelude.{ℕ, zero, suc, ◌+◌, nat_le, if◌then◌else◌, List, [], ◌∷◌, length, drop, Option, Some, None}
use Rattle.std.specs.List.{list_any}
use Rattle.std.specs.Option.{is_some}
use Rattle.nx_base.specs.Calls.{Reply}
use Rattle.nx_base.specs.declared.errno.Errno.TheVariants.{Etimedout}
use Rattle.nx_ksys.specs.declared.thread.Wait.{Wait}
use Rattle.nx_ksys.specs.declared.thread.Wait.TheVariants as wait
use Rattle.nx_ksys.specs.declared.thread.Thread.{Thread}
use Rattle.nx_ksys.specs.declared.thread.Search.TheVariants as search
use Rattle.nx_ksys.specs.declared.pick.Pick.{Pick}
use Rattle.nx_ksys.specs.declared.pick.Pick.TheVariants.{Run, Idle, Ended}
use Rattle.nx_ksys.specs.Threads.{Schedule, awaited, deadline_of, first_of, Woken, none_woken, woken_then, woken_with, woken_failing}
use Rattle.nx_ksys.specs.State.{KernelState}
use Rattle.nx_ksys.specs.Descriptors.{without_idle}
use Rattle.nx_ksys.specs.Ends.{WithReplies, told_by}

-- a sleeping thread goes on; the wait of any other that has a deadline fails
abbrev pub timed_out : Schedule → Thread → Option Wait → Woken
timed_out s t (Some wait.Sleep) = woken_with s t 0 []
timed_out s t other = woken_failing s t Etimedout

-- the thread whose deadline is first, if it has come
abbrev pub if_due : ℕ → Option Thread → Option Thread
if_due time None = None
if_due time (Some t) = if nat_le (deadline_of t.doing) time then Some t else None

unfoldable pub first_due : ℕ → Schedule → Option Thread
first_due time s = if_due time (first_of search.Timed s.threads)

abbrev pub wake_first : Schedule → (Schedule → Woken) → Option Thread → Woken
wake_first s more None = none_woken s
wake_first s more (Some t) = woken_then (timed_out s t (awaited t.doing)) more

-- at most so many due threads wake, one after the other
abbrev pub wake_due : ℕ → ℕ → Schedule → Woken
wake_due time zero s = none_woken s
wake_due time (suc n) s = wake_first s (wake_due time n) (first_due time s)

abbrev pub next_late : List ℕ → ℕ
next_late [] = 0
next_late (n ∷ ns) = n

-- time becomes a deadline and the next lateness. A queue that lived by a wait alone ends with it
abbrev pub passed_to : KernelState → ℕ → WithReplies
passed_to k time =
    let told = told_by (record k { time = time; late = drop 1 k.late }) (wake_due time (length k.sched.threads) k.sched) in
    record { to = without_idle told.to; replies = told.replies }

abbrev pub passed : KernelState → Option Thread → WithReplies
passed k None = record { to = k; replies = [] }
passed k (Some t) = passed_to k (deadline_of t.doing + next_late k.late)

abbrev pub passed_if : KernelState → Option Thread → WithReplies
passed_if k (Some t) = record { to = k; replies = [] }
passed_if k None = passed k (first_of search.Timed k.sched.threads)

-- where no thread is ready, time passes to the first deadline
unfoldable pub advanced : KernelState → WithReplies
advanced k = passed_if k (first_of search.Ready k.sched.threads)

-- what runs next, in the kernel after the time passed, with the replies of those that woke
pub record Picked : Type 0 where
  pub to : KernelState
  pub replies : List Reply
  pub pick : Pick

abbrev pub runs : Option Thread → Pick
runs None = Idle
runs (Some t) = Run t.number

abbrev pub picked_after : WithReplies → Picked
picked_after told = record { to = told.to; replies = told.replies; pick = runs (first_of search.Ready told.to.sched.threads) }

-- with no group left the run is ended, before all else
unfoldable pub picked : KernelState → Picked
picked k = if list_any is_some k.groups then picked_after (advanced k) else record { to = k; replies = []; pick = Ended }
