use Rattle.std.proofs.Common.{◌≡◌, ◌++◌, drop}
use Rattle.nx_ccheck.specs.Defined.{heads}
use Rattle.nx_cfilecheck.proofs.heads.heads.Given as goal

-- The parameters so far, before those that are left, are all of them.
abbrev pub invariant-loop-param : goal.invariant-loop-param
invariant-loop-param l = l.heads ++ heads (drop l.param-index l.params) ≡ heads l.params
