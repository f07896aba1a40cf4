use Rattle.std.proofs.Common.{◌≡◌, drop}
use Rattle.std.specs.List.{list_any}
use Rattle.nx_ksys.specs.Descriptors.{is_open_semaphore}
use Rattle.nx_objects.proofs.living.is_semaphore_open.Given as goal

abbrev pub invariant-loop-at : goal.invariant-loop-at
invariant-loop-at l = list_any (is_open_semaphore l.place) (drop l.at l.descriptions) ≡ list_any (is_open_semaphore l.place) l.descriptions
