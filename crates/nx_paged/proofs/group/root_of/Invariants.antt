use Rattle.std.proofs.Common.{◌≡◌, drop}
use Rattle.nx_paged.specs.Tenants.{root_of}
use Rattle.nx_paged.proofs.group.root_of.Given as goal

-- what is left gives what all gives
abbrev pub invariant-loop-i : goal.invariant-loop-i
invariant-loop-i l = root_of (drop l.i l.fn.groups) l.fn.number ≡ root_of l.fn.groups l.fn.number
