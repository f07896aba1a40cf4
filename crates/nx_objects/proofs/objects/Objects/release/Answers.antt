use Rattle.std.proofs.Common.{sym, ap, ◌∙◌}
use Rattle.std.specs.Prelude.{None}
use Rattle.nx_ksys.specs.Descriptors.{swept_target}
use Rattle.nx_objects.specs.Tables.{with_objects}
use Rattle.nx_objects.proofs.Places.{placed_description, same_description}
use Rattle.nx_objects.proofs.Releasing.{released_held, released_none, released_open}
use Rattle.nx_objects.proofs.objects.Objects.release.Goals as goal

pub sweep_target-requires-clause-placed : goal.sweep_target-requires-clause-placed
sweep_target-requires-clause-placed g c = placed_description _ c.args.place c.args.self.now None c.remove.new.self c.remove.ensures c.requires.placed

pub returns-then-has-clause-state : goal.returns-then-has-clause-state
returns-then-has-clause-state g c = λ k. sym (released_held (with_objects k c.args.threads.now (g.B.BlockStore.content c.args.blocks.now) c.args.self.now) c.args.place (sym c.if-has.ensures))

pub returns-in-None-clause-state : goal.returns-in-None-clause-state
returns-in-None-clause-state g c = λ k. sym (released_none (with_objects k c.args.threads.now (g.B.BlockStore.content c.args.blocks.now) c.args.self.now) c.args.place (sym c.in-None.ensures))

pub returns-in-Some-clause-state : goal.returns-in-Some-clause-state
returns-in-Some-clause-state g c = λ k.
    let old = c.args.self.now in
    let content = g.B.BlockStore.content c.args.blocks.now in
    c.sweep_target.ensures.state k
    ∙ ap (λ ds. swept_target (with_objects k c.args.threads.now content (record old { descriptions = ds })) c.in-Some.description.target) c.remove.ensures
    ∙ sym (released_open (with_objects k c.args.threads.now content old) c.args.place c.in-Some.description (sym c.if-has.ensures) (sym c.in-Some.ensures))

pub returns-in-Some-clause-places : goal.returns-in-Some-clause-places
returns-in-Some-clause-places g c = same_description c.args.place c.args.self.now c.sweep_target.new.self None c.remove.new.self c.remove.ensures c.sweep_target.ensures.places
