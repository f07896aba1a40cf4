use Rattle.std.proofs.Common.{◌≡◌, drop}
use Rattle.nx_ccheck.specs.Files.{externals_verdict}
use Rattle.nx_cfilecheck.proofs.file.add_externals.Given as goal

-- What those that are left give is what all of them give.
abbrev pub invariant-loop-x : goal.invariant-loop-x
invariant-loop-x l = externals_verdict l.rows l.known (drop l.x-index l.externals) ≡ externals_verdict l.rows l.fn.known l.externals
