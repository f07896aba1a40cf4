use Rattle.std.proofs.Common.{[], ◌∷◌, sym, ap, ◌∙◌}
use Rattle.nx_base.specs.Copying.{deliver}
use Rattle.nx_space.specs.World.{view_of}
use Rattle.nx_copy.proofs.Outputs.{delivered}
use Rattle.nx_copy.proofs.delivery.deliver.Goals as goal

pub returns-clause-view : goal.returns-clause-view
returns-clause-view g c = λ rows stands.
    let old = g.S.Space.world c.args.space.now in
    let first = c.as_slice-2.result.now in
    let second = c.as_slice-3.result.now in
    delivered rows old (g.S.Space.world c.enter.new.self) (g.S.Space.world c.put_outputs.new.space) c.args.group c.as_slice.result.now c.args.regs.now (first ∷ second ∷ [])
    c.enter.ensures c.put_outputs.ensures.only.entered (stands ∙ sym c.as_slice.ensures.value) c.put_outputs.ensures.view
    ∙ ap (λ bs. deliver rows (view_of old c.args.group) c.args.regs.now (bs ∷ second ∷ [])) c.as_slice-2.ensures
    ∙ ap (λ bs. deliver rows (view_of old c.args.group) c.args.regs.now (c.args.reply.now.first ∷ bs ∷ [])) c.as_slice-3.ensures
