use Rattle.std.proofs.Common.{◌≡◌, drop}
use Rattle.nx_ksys.specs.Paths.{nth_from}
use Rattle.nx_path.specs.Entries.{seen}
use Rattle.nx_path.proofs.lookups.nth_child.Given as goal

abbrev pub invariant-loop-at : goal.invariant-loop-at
invariant-loop-at l = nth_from (seen l.tree) l.directory l.index (drop l.at (seen l.tree)) ≡ nth_from (seen l.tree) l.directory l.index (seen l.tree)
