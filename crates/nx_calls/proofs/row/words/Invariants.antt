use Rattle.std.proofs.Common.{◌≡◌, ◌++◌, length, drop, map}
use Rattle.nx_base.specs.declared.calls.Kind.TheVariants.{Word}
use Rattle.nx_calls.proofs.row.words.Given as goal

abbrev pub invariant-loop : goal.invariant-loop
invariant-loop l = (length l.kinds.items ≡ l.index) × (l.kinds.items ++ map (λ t. Word) (drop l.index l.types) ≡ map (λ t. Word) l.types)
