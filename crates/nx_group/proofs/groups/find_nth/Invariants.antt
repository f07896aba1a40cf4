use Rattle.std.proofs.Common.{◌≡◌, drop}
use Rattle.std.specs.List.{find}
use Rattle.nx_ksys.specs.Threads.{flat}
use Rattle.nx_ksys.specs.GroupCalls.{is_nth}
use Rattle.nx_group.proofs.groups.find_nth.Given as goal

abbrev pub invariant-loop-group : goal.invariant-loop-group
invariant-loop-group l = flat (find (is_nth l.groups l.index) (drop l.group-index l.groups)) ≡ flat (find (is_nth l.groups l.index) l.groups)
