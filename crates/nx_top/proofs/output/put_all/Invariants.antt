use Rattle.std.proofs.Common.{◌≤◌, drop}
use Rattle.std.specs.List.{flat_map}
use Rattle.nx_outside.specs.Outside.{Left}
use Rattle.nx_top.proofs.output.put_all.Given as goal

abbrev pub invariant-loop-piece : goal.invariant-loop-piece
invariant-loop-piece g l = record {
  left : Left (g.S.Sink.told l.initial.out) (g.S.Sink.told l.out) (flat_map (λ p. p) (drop l.piece-index l.pieces)) (flat_map (λ p. p) l.pieces);
  later : g.S.Sink.faults l.initial.out ≤ g.S.Sink.faults l.out;
}
