use Rattle.std.proofs.Common.{◌≡◌, drop}
use Rattle.std.specs.List.{list_any}
use Rattle.nx_ksys.specs.Descriptors.{is_queue_at}
use Rattle.nx_path.specs.Entries.{seen}
use Rattle.nx_path.proofs.entries.has_queue.Given as goal

abbrev pub invariant-loop-at : goal.invariant-loop-at
invariant-loop-at l = list_any (λ e. is_queue_at l.place e.1.kind) (drop l.at (seen l.tree)) ≡ list_any (λ e. is_queue_at l.place e.1.kind) (seen l.tree)
