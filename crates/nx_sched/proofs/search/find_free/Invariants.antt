use Rattle.std.proofs.Common.{◌≡◌, drop}
use Rattle.std.specs.Option.{is_none}
use Rattle.std.specs.List.{position_from}
use Rattle.nx_sched.proofs.search.find_free.Given as goal

abbrev pub invariant-loop-i : goal.invariant-loop-i
invariant-loop-i l = position_from is_none l.i (drop l.i l.slots) ≡ position_from is_none 0 l.slots
