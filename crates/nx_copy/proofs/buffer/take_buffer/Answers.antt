use Rattle.std.proofs.Common.{◌+◌, refl, sym, ap, ◌∙◌, arith, length}
use Rattle.nx_base.specs.declared.access.Access.TheVariants.{Load}
use Rattle.nx_base.specs.Good.{is_good}
use Rattle.nx_base.specs.Views.{load_bytes}
use Rattle.nx_space.specs.World.{World, view_in}
use Rattle.nx_copy.proofs.Goods.{good_byte, byte_fits, byte_more, none_shown, shown_length}
use Rattle.nx_copy.proofs.buffer.take_buffer.Goals as goal

pub loop-i-init : goal.loop-i-init
loop-i-init g c = record { same = refl; bytes = c.clear.ensures ∙ sym (none_shown (view_in (g.S.Space.world c.args.space.now)) c.args.at) }

pub overflow_add-at : goal.overflow_add-at
overflow_add-at g c = let f = byte_fits (view_in (g.S.Space.world c.args.space.now)) c.args.at c.args.len c.loop-i.i Load c.loop-i-test.true c.requires.good in omega (arith, f)

pub peek-requires-clause-good : goal.peek-requires-clause-good
peek-requires-clause-good g c =
    ap (λ (w : World). is_good (view_in w) (c.args.at + c.loop-i.i) 1 Load) c.loop-i.invariant.same
    ∙ good_byte (view_in (g.S.Space.world c.args.space.now)) c.args.at c.args.len c.loop-i.i Load c.loop-i-test.true c.requires.good

pub push-requires : goal.push-requires
push-requires g c =
    let few = c.requires.few in
    let i = c.loop-i-test.true in
    let l = ap length c.loop-i.invariant.bytes ∙ shown_length (view_in (g.S.Space.world c.args.space.now)) c.args.at c.loop-i.i in
    omega (arith, few, i, l)

pub loop-i-preserved : goal.loop-i-preserved
loop-i-preserved g c = record {
  same = c.peek.ensures.same ∙ c.loop-i.invariant.same;
  bytes = c.push.ensures ∙ byte_more (view_in (g.S.Space.world c.args.space.now)) c.args.at c.loop-i.i c.peek.result c.loop-i.into c.loop-i.invariant.bytes
      (ap (λ (w : World). load_bytes (view_in w) (c.args.at + c.loop-i.i) 1) (sym c.loop-i.invariant.same) ∙ c.peek.ensures.answer);
}
