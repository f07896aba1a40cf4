use Rattle.std.proofs.Common.{◌≡◌, ◌++◌, drop, map}
use Rattle.nx_calls.specs.Rows.{parameters}
use Rattle.nx_calls.proofs.judge.parameters.Given as goal

abbrev pub invariant-loop-field : goal.invariant-loop-field
invariant-loop-field l = map (λ f. f.now) l.kept.items ++ parameters (map (λ f. f.now) (drop l.field-index l.fields)) ≡ parameters (map (λ f. f.now) l.fields)
