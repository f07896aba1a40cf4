-- A state without the queues, or the semaphores, that live no more.
use Rattle.nx_ksys.specs.State.{KernelState}
use Rattle.nx_ksys.specs.Descriptors.{queue_lives, semaphore_lives, living_from}

abbrev pub with_living_queues : KernelState → KernelState
with_living_queues k = record k { queues = living_from (queue_lives k) 0 k.queues }

abbrev pub with_living_semaphores : KernelState → KernelState
with_living_semaphores k = record k { semaphores = living_from (semaphore_lives k) 0 k.semaphores }
