-- A kernel with these threads, groups and codes, and what a step of it told.
use Rattle.std.specs.Prelude.{◌≡◌, List, ◌++◌, Option}
use Rattle.nx_base.specs.Calls.{Reply}
use Rattle.nx_ksys.specs.Threads.{Schedule}
use Rattle.nx_ksys.specs.State.{Group, Code, ThreadValue, KernelState}
use Rattle.nx_ksys.specs.Ends.{WithReplies}

abbrev pub living : KernelState → Schedule → List (Option Group) → List Code → KernelState
living k sched groups codes = record k { sched = sched; groups = groups; codes = codes }

-- and with these threads and values
abbrev pub with_values : KernelState → Schedule → List ThreadValue → KernelState
with_values k sched values = record k { sched = sched; values = values }

-- the state is that of a step, and the replies are those before it and its own
pub record IsTold (before after : List Reply) (now : KernelState) (step : WithReplies) : Type 0 where
  pub state : now ≡ step.to
  pub replies : after ≡ before ++ step.replies
