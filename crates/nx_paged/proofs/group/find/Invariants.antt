use Rattle.std.proofs.Common.{◌≡◌, ◌+◌, drop}
use Rattle.nx_paged.specs.Tenants.{place_of}
use Rattle.nx_paged.proofs.group.find.Given as goal

-- what is left gives what all gives
abbrev pub invariant-loop-i : goal.invariant-loop-i
invariant-loop-i l = l.i + place_of (drop l.i l.fn.groups) l.fn.number ≡ place_of l.fn.groups l.fn.number
