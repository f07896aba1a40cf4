use Rattle.std.proofs.Common.{◌≡◌, false, length}
use Rattle.nx_config.specs.Quoted.{quoted, before}
use Rattle.nx_config.proofs.quoted.quoted_text.Given as goal

abbrev pub invariant-loop-rest : goal.invariant-loop-rest
invariant-loop-rest l = before l.text (quoted l.escaped l.rest) ≡ quoted false l.bytes

abbrev pub decreases-loop-rest : goal.decreases-loop-rest
decreases-loop-rest l = length l.rest
