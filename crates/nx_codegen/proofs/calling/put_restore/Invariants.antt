use Rattle.std.proofs.Common.{◌≡◌, ◌++◌}
use Rattle.nx_codegen.specs.Calling.{restore_code}
use Rattle.nx_codegen.proofs.calling.put_restore.Given as goal

abbrev pub invariant-loop-k : goal.invariant-loop-k
invariant-loop-k l = l.code.items ≡ l.initial.code.items ++ restore_code l.k
