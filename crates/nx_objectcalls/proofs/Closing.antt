-- A descriptor of a queue or a semaphore closes.
use Rattle.std.proofs.Common.{◌≡◌, ℕ, true, false, [], refl, sym, ap}
use Rattle.std.specs.Prelude.{Option, Some, None}
use Rattle.std.specs.Option.{is_some}
use Rattle.nx_base.specs.declared.errno.Errno.TheVariants.{Ebadf}
use Rattle.nx_ksys.specs.State.{KernelState, Queue, Semaphore}
use Rattle.nx_ksys.specs.Answers.{Caller, replied, failed}
use Rattle.nx_ksys.specs.Descriptors.{closed}
use Rattle.nx_ksys.specs.QueueCalls.{queue_there, close_queue}
use Rattle.nx_ksys.specs.SemaphoreCalls.{semaphore_there, close_semaphore}

pub queue_closes : (k now : KernelState) (c : Caller) (fd place flags : ℕ) (q : Option Queue) → is_some q ≡ true → now ≡ closed k c.place fd → close_queue k c fd (queue_there place flags q) ≡ replied now c 0 []
queue_closes k now c fd place flags None e h = absurd cc
queue_closes k now c fd place flags (Some q) e h = ap (λ x. replied x c 0 []) (sym h)

pub no_queue_closes : (k : KernelState) (c : Caller) (fd place flags : ℕ) (q : Option Queue) → is_some q ≡ false → close_queue k c fd (queue_there place flags q) ≡ failed k c Ebadf
no_queue_closes k c fd place flags None e = refl
no_queue_closes k c fd place flags (Some q) e = absurd cc

pub semaphore_closes : (k now : KernelState) (c : Caller) (fd place : ℕ) (s : Option Semaphore) → is_some s ≡ true → now ≡ closed k c.place fd → close_semaphore k c fd (semaphore_there place s) ≡ replied now c 0 []
semaphore_closes k now c fd place None e h = absurd cc
semaphore_closes k now c fd place (Some s) e h = ap (λ x. replied x c 0 []) (sym h)

pub no_semaphore_closes : (k : KernelState) (c : Caller) (fd place : ℕ) (s : Option Semaphore) → is_some s ≡ false → close_semaphore k c fd (semaphore_there place s) ≡ failed k c Ebadf
no_semaphore_closes k c fd place None e = refl
no_semaphore_closes k c fd place (Some s) e = absurd cc
