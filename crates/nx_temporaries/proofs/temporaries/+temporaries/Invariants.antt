use Rattle.std.proofs.Common.{◌≡◌, ◌≤◌, length, drop}
use Rattle.nx_checked.specs.Trees.{args_of}
use Rattle.nx_lower.specs.Bodies.{args_temps}
use Rattle.nx_temporaries.proofs.temporaries.+temporaries.Given as goal

abbrev pub invariant-of_args-loop-left : goal.invariant-of_args-loop-left
invariant-of_args-loop-left l = record { within : l.left ≤ length l.xs; rest : l.all ≡ args_temps (args_of (drop l.left l.xs)) }

abbrev pub decreases-of_args-loop-left : goal.decreases-of_args-loop-left
decreases-of_args-loop-left l = l.left
