use Rattle.std.proofs.Common.{◌≡◌, ◌≤◌, ◌-◌, [], take, drop}
use Rattle.std.specs.Prelude.{slice_get}
use Rattle.nx_ksys.specs.GroupCalls.{lines_from}
use Rattle.nx_group.proofs.lines.line_at.Given as goal

abbrev pub invariant-loop-at : goal.invariant-loop-at
invariant-loop-at l = record { rest : slice_get (lines_from (take (l.at - l.start) (drop l.start l.text)) (drop l.at l.text)) l.left ≡ slice_get (lines_from [] l.text) l.index; within : l.start ≤ l.at }
