use Rattle.std.proofs.Common.{◌≡◌, ◌+◌, ◌-◌, length}
use Rattle.nx_base.specs.Good.{good_text}
use Rattle.nx_space.specs.World.{view_in}
use Rattle.nx_copy.proofs.Goods.{Reads}
use Rattle.nx_copy.proofs.buffer.take_text.Given as goal

abbrev pub invariant-loop-i : goal.invariant-loop-i
invariant-loop-i g l = record {
  same : g.S.Space.world l.space ≡ g.S.Space.world l.fn.space;
  long : length l.into ≡ l.i;
  read : Reads (view_in (g.S.Space.world l.fn.space)) (l.fn.at + l.i) (256 - l.i) l.into (good_text (view_in (g.S.Space.world l.fn.space)) l.fn.at 256);
}
