use Rattle.std.proofs.Common.{◌≡◌, drop}
use Rattle.std.specs.List.{find}
use Rattle.nx_ksys.specs.Threads.{is_numbered}
use Rattle.nx_sched.proofs.search.find.Given as goal

abbrev pub invariant-loop-slot : goal.invariant-loop-slot
invariant-loop-slot l = find (is_numbered l.number) (drop l.slot-index l.slots) ≡ find (is_numbered l.number) l.slots
