use Rattle.std.proofs.Common.{◌≡◌, ◌++◌, drop, take, map}
use Rattle.nx_ksys.specs.Ends.{nobodys}
use Rattle.nx_group.proofs.groups.leave_children.Given as goal

abbrev pub invariant-loop-place : goal.invariant-loop-place
invariant-loop-place l = l.groups ≡ map (nobodys l.parent) (take l.place l.fn.groups) ++ drop l.place l.fn.groups
