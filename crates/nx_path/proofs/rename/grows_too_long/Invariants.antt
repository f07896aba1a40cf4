use Rattle.std.proofs.Common.{◌≡◌, drop}
use Rattle.nx_ksys.specs.TreeCalls.{is_too_long}
use Rattle.nx_path.specs.Entries.{seen}
use Rattle.nx_path.proofs.rename.grows_too_long.Given as goal

abbrev pub invariant-loop-at : goal.invariant-loop-at
invariant-loop-at l = is_too_long l.first l.second (drop l.at (seen l.tree)) ≡ is_too_long l.first l.second (seen l.tree)
