-- What a call leaves beside its replies.
use Rattle.std.specs.Prelude.{◌≡◌, ℕ, pos, List, ◌++◌}
use Rattle.nx_base.specs.Calls.{Reply}
use Rattle.nx_ksys.specs.declared.thread.Doing.TheVariants.{Ready}
use Rattle.nx_ksys.specs.declared.thread.Thread.{Thread}
use Rattle.nx_ksys.specs.State.{Group, KernelState}
use Rattle.nx_ksys.specs.GroupCalls.{nothing_asked}
use Rattle.nx_ksys.specs.Answers as answers
use Rattle.nx_ksys.specs.Answers.{Effect, Stays, EndsGroup, Begins, Stepped, Caller}
use Rattle.nx_env.specs.Joined.{variables_at, with_variables}
use Rattle.nx_kernel.specs.declared.calling.Calling.{Calling}
use Rattle.nx_kernel.specs.Doing.{caller_of}
use Rattle.nx_ktables.specs.declared.tables.Tables.{Tables}
use Rattle.nx_kgroups.specs.declared.outcome.Started.{Started}
use Rattle.nx_kgroups.specs.declared.outcome.Outcome.{Outcome}
use Rattle.nx_kgroups.specs.declared.outcome.Outcome.TheVariants as outcome

abbrev pub start_of : Started → answers.Start
start_of s = record { thread = s.thread; group = s.group; program = s.program; slot = s.slot; is_thread = s.is_thread; fresh = s.fresh }

abbrev pub effect_of : Outcome → Effect
effect_of outcome.Stays = Stays
effect_of (outcome.GroupEnded group) = EndsGroup group
effect_of (outcome.Began started) = Begins (start_of started)

-- the state is that of a row, the replies are those before it and its own, and so is what ends or begins
pub record Leaves (now : KernelState) (before after : List Reply) (left : Effect) (row : Stepped) : Type 0 where
  pub state : now ≡ row.to
  pub replies : after ≡ before ++ row.replies
  pub effect : row.effect ≡ left

-- who calls: a thread of the group at a place, with the variables that stand there
abbrev pub calls_at : Tables → Calling → ℕ → Group → Caller
calls_at t caller place g = caller_of caller place (with_variables g (variables_at t.environments place))

-- a thread that begins, ready from a moment on
abbrev pub ready_thread : ℕ → ℕ → ℕ → ℕ → Thread
ready_thread number group priority moment = record { number = number; group = group; priority = priority; errno = pos 0; doing = Ready moment; asked = nothing_asked }
