use Rattle.std.proofs.Common.{◌≡◌, drop}
use Rattle.std.specs.List.{position_from}
use Rattle.nx_ksys.specs.Threads.{is_numbered}
use Rattle.nx_sched.proofs.search.find_slot.Given as goal

abbrev pub invariant-loop-i : goal.invariant-loop-i
invariant-loop-i l = position_from (is_numbered l.number) l.i (drop l.i l.slots) ≡ position_from (is_numbered l.number) 0 l.slots
