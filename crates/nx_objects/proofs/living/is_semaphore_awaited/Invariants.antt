use Rattle.std.proofs.Common.{◌≡◌, drop}
use Rattle.std.specs.List.{list_any}
use Rattle.nx_ksys.specs.Descriptors.{awaits_semaphore}
use Rattle.nx_objects.proofs.living.is_semaphore_awaited.Given as goal

abbrev pub invariant-loop-thread : goal.invariant-loop-thread
invariant-loop-thread l = list_any (awaits_semaphore l.place) (drop l.thread-index l.threads) ≡ list_any (awaits_semaphore l.place) l.threads
