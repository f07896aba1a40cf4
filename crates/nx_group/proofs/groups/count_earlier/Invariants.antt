use Rattle.std.proofs.Common.{◌≡◌, ◌≤◌, take}
use Rattle.std.specs.List.{count_by}
use Rattle.nx_ksys.specs.GroupCalls.{comes_earlier}
use Rattle.nx_group.proofs.groups.count_earlier.Given as goal

abbrev pub invariant-loop-group : goal.invariant-loop-group
invariant-loop-group l = record { count : l.count ≡ count_by (comes_earlier l.number) (take l.group-index l.groups); few : l.count ≤ l.group-index }
