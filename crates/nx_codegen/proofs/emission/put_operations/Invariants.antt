use Rattle.nx_codegen.proofs.Emitting.{Emits}
use Rattle.nx_codegen.proofs.emission.put_operations.Given as goal

abbrev pub invariant-loop-k : goal.invariant-loop-k
invariant-loop-k l = Emits l.function l.k l.out.code.items l.out.refs.items
