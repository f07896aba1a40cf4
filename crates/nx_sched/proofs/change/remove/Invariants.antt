use Rattle.std.proofs.Common.{◌≡◌, ◌++◌, drop, take, map}
use Rattle.nx_sched.specs.Changes.{left_by}
use Rattle.nx_sched.proofs.change.remove.Given as goal

abbrev pub invariant-loop-i : goal.invariant-loop-i
invariant-loop-i l = l.slots ≡ map (left_by l.removal) (take l.i l.fn.slots) ++ drop l.i l.fn.slots
