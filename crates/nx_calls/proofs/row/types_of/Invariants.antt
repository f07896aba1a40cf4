use Rattle.std.proofs.Common.{◌≡◌, ◌++◌, drop, map}
use Rattle.nx_calls.specs.Types.{type_of}
use Rattle.nx_calls.proofs.row.types_of.Given as goal

abbrev pub invariant-loop-field : goal.invariant-loop-field
invariant-loop-field l = l.types.items ++ map type_of (map (λ f. f.now) (drop l.field-index l.fields)) ≡ map type_of (map (λ f. f.now) l.fields)
