-- What becomes of a thread, by what is done to it.
use Rattle.std.specs.Prelude.{ℕ, Option, Some, None}
use Rattle.nx_base.specs.ErrorNumbers.{number_of}
use Rattle.nx_ksys.specs.declared.thread.Doing.TheVariants.{Ready}
use Rattle.nx_ksys.specs.declared.thread.Thread.{Thread}
use Rattle.nx_ksys.specs.Threads.{begin_wait}
use Rattle.nx_ksys.specs.ThreadCalls.{at_the_end}
use Rattle.nx_ksys.specs.Ends.{without_group, without_thread}
use Rattle.nx_sched.specs.declared.change.Change.{Change}
use Rattle.nx_sched.specs.declared.change.Change.TheVariants as change
use Rattle.nx_sched.specs.declared.change.Removal.{Removal}
use Rattle.nx_sched.specs.declared.change.Removal.TheVariants as removal

-- at a moment
abbrev pub change_of : Change → ℕ → Thread → Thread
change_of change.Wake moment t = record t { doing = Ready moment }
change_of (change.Block asked for deadline) moment t = record t { doing = begin_wait moment for deadline; asked = asked }
change_of (change.Fail errno) moment t = record t { errno = number_of errno }
change_of (change.Prioritise priority) moment t = record t { priority = priority; doing = at_the_end moment t.doing }
change_of change.Yield moment t = record t { doing = at_the_end moment t.doing }

abbrev pub left_by : Removal → Option Thread → Option Thread
left_by (removal.Group group) t = without_group group t
left_by (removal.Thread number) t = without_thread number t
