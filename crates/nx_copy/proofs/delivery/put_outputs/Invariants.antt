use Rattle.std.proofs.Common.{◌≡◌, ◌+◌, ◌≤◌, [], ◌∷◌, drop}
use Rattle.nx_base.specs.Copying.{with_outputs, words_from}
use Rattle.nx_base.specs.Replies.{FitsCall}
use Rattle.nx_space.specs.World.{view_in, IsEntered}
use Rattle.nx_space.specs.Lawful.{OnlyEntered}
use Rattle.nx_copy.specs.Copies.{AreGoodOutputs}
use Rattle.nx_copy.proofs.delivery.put_outputs.Given as goal

abbrev pub invariant-loop-i : goal.invariant-loop-i
invariant-loop-i g l = record {
  entered : IsEntered (g.S.Space.world l.space);
  only : OnlyEntered (g.S.Space.world l.fn.space) (g.S.Space.world l.space);
  few : l.put ≤ l.i;
  fits : FitsCall (drop l.i l.fn.kinds) (words_from l.fn.regs (11 + l.i) (drop l.i l.fn.kinds)) (drop l.put (l.fn.first ∷ l.fn.second ∷ []));
  good : AreGoodOutputs (view_in (g.S.Space.world l.space)) (drop l.i l.fn.kinds) (words_from l.fn.regs (11 + l.i) (drop l.i l.fn.kinds));
  view : with_outputs (view_in (g.S.Space.world l.fn.space)) l.fn.kinds (words_from l.fn.regs 11 l.fn.kinds) (l.fn.first ∷ l.fn.second ∷ [])
      ≡ with_outputs (view_in (g.S.Space.world l.space)) (drop l.i l.fn.kinds) (words_from l.fn.regs (11 + l.i) (drop l.i l.fn.kinds)) (drop l.put (l.fn.first ∷ l.fn.second ∷ []));
}
