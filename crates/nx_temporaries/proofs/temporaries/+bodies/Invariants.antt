use Rattle.std.proofs.Common.{◌≡◌, ◌≤◌, length, drop}
use Rattle.nx_checked.specs.Trees.{stmts_of}
use Rattle.nx_lower.specs.Bodies.{stmts_temps}
use Rattle.nx_temporaries.proofs.temporaries.+bodies.Given as goal

abbrev pub invariant-of_stmts-loop-left : goal.invariant-of_stmts-loop-left
invariant-of_stmts-loop-left l = record { within : l.left ≤ length l.ss; rest : l.all ≡ stmts_temps (stmts_of (drop l.left l.ss)) }

abbrev pub decreases-of_stmts-loop-left : goal.decreases-of_stmts-loop-left
decreases-of_stmts-loop-left l = l.left
