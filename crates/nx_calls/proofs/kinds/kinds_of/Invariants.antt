use Rattle.std.proofs.Common.{◌+◌, ◌≤◌, length}
use Rattle.nx_calls.proofs.KindLists.{Found}
use Rattle.nx_calls.proofs.kinds.kinds_of.Given as goal

abbrev pub invariant-loop-rest : goal.invariant-loop-rest
invariant-loop-rest l = record { found : Found l.after_buffer l.kinds.items l.rest l.types; fits : length l.kinds.items + length l.rest ≤ 6 }

abbrev pub decreases-loop-rest : goal.decreases-loop-rest
decreases-loop-rest l = length l.rest
