-- What a call does: the state that it leaves, and what it tells.
use Rattle.std.specs.Prelude.{◌≡◌, ℕ, List, ◌++◌}
use Rattle.nx_base.specs.Calls.{Reply}
use Rattle.nx_ksys.specs.State.{Group, KernelState}
use Rattle.nx_ksys.specs.Answers.{Stays, Stepped, Caller}
use Rattle.nx_kernel.specs.declared.calling.Calling.{Calling}

-- who calls, in a group at a place
abbrev pub caller_of : Calling → ℕ → Group → Caller
caller_of c place group = record { thread = c.thread; place = place; group = group; asked = c.asked }

-- the state is that of a row, the replies are those before it and its own, and no group ends and none begins
pub record Does (now : KernelState) (before after : List Reply) (row : Stepped) : Type 0 where
  pub state : now ≡ row.to
  pub replies : after ≡ before ++ row.replies
  pub effect : row.effect ≡ Stays
