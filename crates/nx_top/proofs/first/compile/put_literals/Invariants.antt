use Rattle.std.proofs.Common.{◌≡◌, ◌++◌, drop}
use Rattle.nx_top.specs.first.Compiled.{literals}
use Rattle.nx_top.proofs.first.compile.put_literals.Given as goal

abbrev pub invariant-loop-string : goal.invariant-loop-string
invariant-loop-string l = l.text ++ literals (drop l.string-index l.strings) ≡ l.fn.text ++ literals l.strings
