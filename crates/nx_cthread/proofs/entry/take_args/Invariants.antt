use Rattle.std.proofs.Common.{◌≡◌, []}
use Rattle.nx_cmean.specs.Meaning.{taken}
use Rattle.nx_cthread.proofs.entry.take_args.Given as goal

abbrev pub invariant-loop-left : goal.invariant-loop-left
invariant-loop-left l = taken l.left l.values l.args ≡ taken l.count l.fn.values []

abbrev pub decreases-loop-left : goal.decreases-loop-left
decreases-loop-left l = l.left
