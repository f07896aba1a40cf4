use Rattle.std.proofs.Common.{◌≡◌, ◌+◌, ◌-◌}
use Rattle.nx_paged.specs.Walks.{all_walked}
use Rattle.nx_paged.proofs.walks.are_walked.Given as goal

-- what is left gives what all gives
abbrev pub invariant-loop-i : goal.invariant-loop-i
invariant-loop-i l = all_walked l.fn.ram l.fn.satp l.fn.access (l.fn.at + l.i) (l.fn.len - l.i) ≡ all_walked l.fn.ram l.fn.satp l.fn.access l.fn.at l.fn.len
