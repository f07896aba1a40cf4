use Rattle.std.proofs.Common.{◌≡◌, drop}
use Rattle.std.specs.List.{position_from}
use Rattle.nx_ksys.specs.Answers.{is_group}
use Rattle.nx_group.proofs.groups.first_numbered.Given as goal

abbrev pub invariant-loop-place : goal.invariant-loop-place
invariant-loop-place l = position_from (is_group l.number) l.place (drop l.place l.groups) ≡ position_from (is_group l.number) 0 l.groups
