use Rattle.std.proofs.Common.{◌≡◌, drop}
use Rattle.nx_ksys.specs.TreeCalls.{is_taken}
use Rattle.nx_path.specs.Entries.{seen}
use Rattle.nx_path.proofs.rename.has_below.Given as goal

abbrev pub invariant-loop-at : goal.invariant-loop-at
invariant-loop-at l = is_taken l.path (drop l.at (seen l.tree)) ≡ is_taken l.path (seen l.tree)
