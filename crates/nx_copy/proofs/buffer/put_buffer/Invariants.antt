use Rattle.std.proofs.Common.{◌≡◌, ◌+◌, drop}
use Rattle.nx_base.specs.Copying.{with_stored}
use Rattle.nx_space.specs.World.{view_in, IsEntered}
use Rattle.nx_space.specs.Lawful.{OnlyEntered}
use Rattle.nx_copy.proofs.buffer.put_buffer.Given as goal

abbrev pub invariant-loop-i : goal.invariant-loop-i
invariant-loop-i g l = record {
  entered : IsEntered (g.S.Space.world l.space);
  only : OnlyEntered (g.S.Space.world l.fn.space) (g.S.Space.world l.space);
  put : with_stored (view_in (g.S.Space.world l.fn.space)) l.fn.at l.fn.bytes ≡ with_stored (view_in (g.S.Space.world l.space)) (l.fn.at + l.i) (drop l.i l.fn.bytes);
}
