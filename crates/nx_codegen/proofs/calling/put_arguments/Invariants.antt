use Rattle.std.proofs.Common.{◌≡◌, ◌++◌}
use Rattle.nx_codegen.specs.Calling.{arguments_code}
use Rattle.nx_codegen.proofs.calling.put_arguments.Given as goal

abbrev pub invariant-loop-k : goal.invariant-loop-k
invariant-loop-k l = l.code.items ≡ l.initial.code.items ++ arguments_code l.function l.first l.k
