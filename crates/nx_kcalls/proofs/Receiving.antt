-- The two calls that receive are one.
use Rattle.std.proofs.Common.{◌≡◌, ℕ, refl}
use Rattle.std.specs.Prelude.{Option, Some, None}
use Rattle.nx_ksys.specs.State.{KernelState}
use Rattle.nx_ksys.specs.Answers.{Caller}
use Rattle.nx_ksys.specs.QueueCalls.{mq_receive_row, mq_timedreceive_row, receive_on, queue_of}
use Rattle.nx_kcalls.specs.Rows.{receives}

pub receives_on : (k : KernelState) (c : Caller) (fd size : ℕ) (ticks : Option ℕ) → receives k c fd size ticks ≡ receive_on k c size ticks (queue_of k c fd)
unfolding mq_receive_row mq_timedreceive_row
receives_on k c fd size None = refl
receives_on k c fd size (Some ticks) = refl
