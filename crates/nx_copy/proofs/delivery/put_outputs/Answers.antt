use Rattle.std.proofs.Common.{[], ◌∷◌, drop, refl, sym, ◌∙◌, arith}
use Rattle.nx_base.specs.Copying.{with_outputs, words_from}
use Rattle.nx_space.specs.World.{view_in}
use Rattle.nx_space.proofs.Stores.{only_refl, only_trans}
use Rattle.nx_space.proofs.Stays.{entered_stays}
use Rattle.nx_copy.proofs.Outputs.{put_next, put_good, all_put}
use Rattle.nx_copy.proofs.delivery.put_outputs.Goals as goal

pub loop-i-init : goal.loop-i-init
loop-i-init g c = record {
  entered = c.requires.entered;
  only = only_refl (g.S.Space.world c.args.space.now);
  few = omega arith;
  fits = c.requires.fits;
  good = c.requires.good;
  view = refl;
}

pub put_one-put-requires-clause-good : goal.put_one-put-requires-clause-good
put_one-put-requires-clause-good g c = λ out.
    put_good (view_in (g.S.Space.world c.loop-i.space)) c.args.regs.now c.args.kinds.now c.loop-i.i c.loop-i.put c.args.first.now c.args.second.now c.get.result c.loop-i-test.true c.get.ensures out c.loop-i.invariant.fits c.loop-i.invariant.good

pub loop-i-preserved : goal.loop-i-preserved
loop-i-preserved g c =
    let start = g.S.Space.world c.args.space.now in
    let old = g.S.Space.world c.loop-i.space in
    let new = g.S.Space.world c.put_one-put.new.space in
    let e = c.put_one-put.ensures in
    let p = put_next old new (with_outputs (view_in start) c.args.kinds.now (words_from c.args.regs.now 11 c.args.kinds.now) (c.args.first.now ∷ c.args.second.now ∷ [])) c.args.regs.now c.args.kinds.now c.loop-i.i c.loop-i.put c.put_one-put.result c.args.first.now c.args.second.now c.get.result
    c.loop-i-test.true c.get.ensures e.only e.view e.put e.same e.kept c.loop-i.invariant.few c.loop-i.invariant.fits c.loop-i.invariant.good c.loop-i.invariant.view in
    record {
      entered = entered_stays old new e.only c.loop-i.invariant.entered;
      only = only_trans start old new c.loop-i.invariant.only e.only;
      few = p.few;
      fits = p.fits;
      good = p.good;
      view = p.view;
    }

pub returns-clause-view : goal.returns-clause-view
returns-clause-view g c = sym (c.loop-i.invariant.view ∙ all_put (view_in (g.S.Space.world c.loop-i.space)) c.args.regs.now c.args.kinds.now c.loop-i.i (drop c.loop-i.put (c.args.first.now ∷ c.args.second.now ∷ [])) (omega (arith, c.loop-i-test.false)))
