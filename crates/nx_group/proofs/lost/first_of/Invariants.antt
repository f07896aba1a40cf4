use Rattle.std.proofs.Common.{◌≡◌, drop}
use Rattle.std.specs.Prelude.{None}
use Rattle.nx_ksys.specs.Threads.{best_from, comes_before}
use Rattle.nx_ksys.specs.Ends.{is_lost}
use Rattle.nx_group.proofs.lost.first_of.Given as goal

abbrev pub invariant-loop-slot : goal.invariant-loop-slot
invariant-loop-slot l = best_from (is_lost l.groups l.codes.codes l.parent) comes_before l.best (drop l.slot-index l.slots) ≡ best_from (is_lost l.groups l.codes.codes l.parent) comes_before None l.slots
