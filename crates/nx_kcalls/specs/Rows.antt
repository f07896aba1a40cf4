-- The two calls that receive, as one.
use Rattle.std.specs.Prelude.{ℕ, Option, Some, None}
use Rattle.nx_ksys.specs.State.{KernelState}
use Rattle.nx_ksys.specs.Answers.{Stepped, Caller}
use Rattle.nx_ksys.specs.QueueCalls.{mq_receive_row, mq_timedreceive_row}

-- without ticks `mq_receive`, and with them `nx_mq_timedreceive`
abbrev pub receives : KernelState → Caller → ℕ → ℕ → Option ℕ → Stepped
receives k c fd size None = mq_receive_row k c fd size
receives k c fd size (Some ticks) = mq_timedreceive_row k c fd size ticks
