use Rattle.std.proofs.Common.{sym, ap, ◌∙◌, arith}
use Rattle.nx_base.specs.declared.access.Access.TheVariants.{Load}
use Rattle.nx_base.specs.Good.{is_good}
use Rattle.nx_space.specs.World.{World, view_in}
use Rattle.nx_copy.proofs.Goods.{good_part}
use Rattle.nx_copy.proofs.cooking.take_in.Goals as goal

pub take_buffer-requires-clause-good : goal.take_buffer-requires-clause-good
take_buffer-requires-clause-good g c =
    ap (λ (w : World). is_good (view_in w) c.args.at c.min.result Load) c.if-not-good.ensures.same
    ∙ good_part (view_in (g.S.Space.world c.args.space.now)) c.args.at c.args.len c.min.result Load (omega (arith, c.min.ensures)) (sym c.if-not-good.ensures.answer)
