use Rattle.std.proofs.Common.{◌≡◌, ◌*◌, ◌≤◌}
use Rattle.nx_codegen.specs.Code.{offset}
use Rattle.nx_codegen.specs.Emitted.{ArePlaces}
use Rattle.nx_codegen.proofs.layout.places_of.Given as goal

abbrev pub invariant-loop-k : goal.invariant-loop-k
invariant-loop-k l = ArePlaces l.near l.function l.k l.places.items × (l.next ≡ offset l.near l.function l.function.ops l.k) × (l.next ≤ 160 * l.k)
