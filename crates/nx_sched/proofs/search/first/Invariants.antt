use Rattle.std.proofs.Common.{◌≡◌, drop}
use Rattle.std.specs.Prelude.{None}
use Rattle.nx_ksys.specs.Threads.{best_from, is_sought, precedes}
use Rattle.nx_sched.proofs.search.first.Given as goal

abbrev pub invariant-loop-slot : goal.invariant-loop-slot
invariant-loop-slot l = best_from (is_sought l.search) (precedes l.search) l.best (drop l.slot-index l.slots) ≡ best_from (is_sought l.search) (precedes l.search) None l.slots
