use Rattle.std.proofs.Common.{◌≡◌, ◌≤◌, take}
use Rattle.std.specs.List.{count_by}
use Rattle.std.specs.Option.{is_some}
use Rattle.nx_ipc.proofs.table.count_queues.Given as goal

abbrev pub invariant-loop-queue : goal.invariant-loop-queue
invariant-loop-queue l = record {
  count : l.count ≡ count_by is_some (take l.queue-index l.queues);
  few : l.count ≤ l.queue-index;
}
