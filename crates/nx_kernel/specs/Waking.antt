-- How time passes, and whom it wakes.
use Rattle.std.specs.Prelude.{◌≡◌, Bool, true, false, if◌then◌else◌, List, ◌++◌, Option, Some, None}
use Rattle.nx_base.specs.Calls.{Reply}
use Rattle.nx_ksys.specs.declared.thread.Wait.{Wait}
use Rattle.nx_ksys.specs.declared.thread.Wait.TheVariants as wait
use Rattle.nx_ksys.specs.Threads.{Schedule}
use Rattle.nx_ksys.specs.State.{KernelState}
use Rattle.nx_ksys.specs.Descriptors.{without_idle}
use Rattle.nx_ksys.specs.Ends.{WithReplies}
use Rattle.nx_kernel.specs.Parts.{Clocked, OnTerminal}

-- a wait that its deadline alone ends
abbrev pub is_sleep : Option Wait → Bool
is_sleep (Some wait.Sleep) = true
is_sleep other = false

-- a state with this clock and these threads
abbrev pub timed : KernelState → Clocked → Schedule → KernelState
timed k clock sched = record k { sched = sched; time = clock.time; late = clock.late }

abbrev pub scheduled : KernelState → Schedule → KernelState
scheduled k sched = record k { sched = sched }

-- and with this on the console, and this left to read
abbrev pub with_terminal : KernelState → OnTerminal → KernelState
with_terminal k t = record k { console = t.shown; input = t.input }

-- where time passed, what lived by a wait alone ends; and these threads were told
pub record HasPassed (now : KernelState) (passed : Bool) (before after : List Reply) (told : WithReplies) : Type 0 where
  pub state : (if passed then without_idle now else now) ≡ told.to
  pub replies : after ≡ before ++ told.replies
