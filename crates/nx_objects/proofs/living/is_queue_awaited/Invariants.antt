use Rattle.std.proofs.Common.{◌≡◌, drop}
use Rattle.std.specs.List.{list_any}
use Rattle.nx_ksys.specs.Descriptors.{awaits_queue}
use Rattle.nx_objects.proofs.living.is_queue_awaited.Given as goal

abbrev pub invariant-loop-thread : goal.invariant-loop-thread
invariant-loop-thread l = list_any (awaits_queue l.place) (drop l.thread-index l.threads) ≡ list_any (awaits_queue l.place) l.threads
