use Rattle.std.proofs.Common.{◌≡◌, drop, map}
use Rattle.std.specs.List.{list_any}
use Rattle.nx_calls.specs.Types.{is_union}
use Rattle.nx_calls.proofs.row.any_union.Given as goal

abbrev pub invariant-loop-field : goal.invariant-loop-field
invariant-loop-field l = list_any is_union (map (λ f. f.now) (drop l.field-index l.fields)) ≡ list_any is_union (map (λ f. f.now) l.fields)
