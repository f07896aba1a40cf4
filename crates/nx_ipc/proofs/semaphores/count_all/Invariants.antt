use Rattle.std.proofs.Common.{◌≡◌, ◌≤◌, take}
use Rattle.std.specs.List.{count_by}
use Rattle.std.specs.Option.{is_some}
use Rattle.nx_ipc.proofs.semaphores.count_all.Given as goal

abbrev pub invariant-loop-semaphore : goal.invariant-loop-semaphore
invariant-loop-semaphore l = record {
  count : l.count ≡ count_by is_some (take l.semaphore-index l.semaphores);
  few : l.count ≤ l.semaphore-index;
}
