use Rattle.std.proofs.Common.{◌≡◌, ◌++◌, drop, take, map}
use Rattle.nx_ksys.specs.Threads.{changed}
use Rattle.nx_sched.specs.Changes.{change_of}
use Rattle.nx_sched.proofs.change.change_one.Given as goal

abbrev pub invariant-loop-i : goal.invariant-loop-i
invariant-loop-i l = l.slots ≡ map (changed l.number (change_of l.change l.moment)) (take l.i l.fn.slots) ++ drop l.i l.fn.slots
