use Rattle.std.proofs.Common.{◌≡◌, ◌++◌}
use Rattle.nx_codegen.specs.Calling.{parameters_code}
use Rattle.nx_codegen.proofs.calling.put_parameters.Given as goal

abbrev pub invariant-loop-k : goal.invariant-loop-k
invariant-loop-k l = l.code.items ≡ l.initial.code.items ++ parameters_code l.function l.k
