use Rattle.std.proofs.Common.{◌≡◌}
use Rattle.nx_base.specs.Good.{shown_bytes}
use Rattle.nx_space.specs.World.{view_in}
use Rattle.nx_copy.proofs.buffer.take_buffer.Given as goal

abbrev pub invariant-loop-i : goal.invariant-loop-i
invariant-loop-i g l = record {
  same : g.S.Space.world l.space ≡ g.S.Space.world l.fn.space;
  bytes : l.into ≡ shown_bytes (view_in (g.S.Space.world l.fn.space)) l.fn.at l.i;
}
