use Rattle.std.proofs.Common.{◌≡◌, drop}
use Rattle.nx_ksys.specs.Paths.{has_children}
use Rattle.nx_path.specs.Entries.{seen}
use Rattle.nx_path.proofs.lookups.has_child.Given as goal

abbrev pub invariant-loop-at : goal.invariant-loop-at
invariant-loop-at l = has_children l.directory (drop l.at (seen l.tree)) ≡ has_children l.directory (seen l.tree)
