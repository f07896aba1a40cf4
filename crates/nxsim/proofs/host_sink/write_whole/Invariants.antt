use Rattle.std.proofs.Common.{length}
use Rattle.nxsim.specs.Host.{Takes}
use Rattle.nxsim.proofs.host_sink.write_whole.Given as goal

-- What is gone from the rest was taken.
abbrev pub invariant-loop-rest : goal.invariant-loop-rest
invariant-loop-rest g l = Takes (g.W.Write.contents l.initial.to) (g.W.Write.contents l.to) l.rest l.bytes

abbrev pub decreases-loop-rest : goal.decreases-loop-rest
decreases-loop-rest g l = length l.rest
