use Rattle.std.proofs.Common.{◌+◌, refl, sym, ap, ◌∙◌, arith, add-zero, length}
use Rattle.nx_base.specs.declared.access.Access.TheVariants.{Store}
use Rattle.nx_base.specs.Copying.{with_stored}
use Rattle.nx_space.specs.World.{view_in}
use Rattle.nx_space.proofs.Stores.{only_refl, only_trans}
use Rattle.nx_space.proofs.Stays.{good_stays, entered_stays}
use Rattle.nx_copy.proofs.Goods.{good_byte, byte_fits, stored_more, stored_over}
use Rattle.nx_copy.proofs.buffer.put_buffer.Goals as goal

pub loop-i-init : goal.loop-i-init
loop-i-init g c = record {
  entered = c.requires.entered;
  only = only_refl (g.S.Space.world c.args.space.now);
  put = ap (λ k. with_stored (view_in (g.S.Space.world c.args.space.now)) k c.args.bytes.now) (sym (add-zero c.args.at));
}

pub overflow_cast-i : goal.overflow_cast-i
overflow_cast-i g c = let f = byte_fits (view_in (g.S.Space.world c.args.space.now)) c.args.at (length c.args.bytes.now) c.loop-i.i Store c.loop-i-test.true c.requires.good in omega (arith, f)

pub overflow_add-at : goal.overflow_add-at
overflow_add-at g c = let f = byte_fits (view_in (g.S.Space.world c.args.space.now)) c.args.at (length c.args.bytes.now) c.loop-i.i Store c.loop-i-test.true c.requires.good in omega (arith, f)

pub poke-requires-clause-good : goal.poke-requires-clause-good
poke-requires-clause-good g c =
    good_stays (g.S.Space.world c.args.space.now) (g.S.Space.world c.loop-i.space) (c.args.at + c.loop-i.i) 1 Store c.loop-i.invariant.only
    ∙ good_byte (view_in (g.S.Space.world c.args.space.now)) c.args.at (length c.args.bytes.now) c.loop-i.i Store c.loop-i-test.true c.requires.good

pub loop-i-preserved : goal.loop-i-preserved
loop-i-preserved g c = record {
  entered = entered_stays (g.S.Space.world c.loop-i.space) (g.S.Space.world c.poke.new.self) c.poke.ensures.only c.loop-i.invariant.entered;
  only = only_trans (g.S.Space.world c.args.space.now) (g.S.Space.world c.loop-i.space) (g.S.Space.world c.poke.new.self) c.loop-i.invariant.only c.poke.ensures.only;
  put = stored_more (view_in (g.S.Space.world c.args.space.now)) (view_in (g.S.Space.world c.loop-i.space)) (view_in (g.S.Space.world c.poke.new.self)) c.args.at (c.args.at + c.loop-i.i) c.loop-i.i c.args.bytes.now refl c.loop-i-test.true c.poke.ensures.answer c.loop-i.invariant.put;
}

pub returns-clause-view : goal.returns-clause-view
returns-clause-view g c = sym (c.loop-i.invariant.put ∙ stored_over (view_in (g.S.Space.world c.loop-i.space)) (c.args.at + c.loop-i.i) c.loop-i.i c.args.bytes.now (omega (arith, c.loop-i-test.false)))
