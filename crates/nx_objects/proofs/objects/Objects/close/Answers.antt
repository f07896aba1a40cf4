use Rattle.std.proofs.Common.{◌+◌, ◌*◌, sym, ap, ◌∙◌}
use Rattle.std.specs.Prelude.{None}
use Rattle.nx_ksys.specs.Descriptors.{released}
use Rattle.nx_objects.specs.Tables.{with_objects}
use Rattle.nx_objects.proofs.Places.{placed_descriptor, same_descriptor}
use Rattle.nx_objects.proofs.Releasing.{closed_shut, closed_open}
use Rattle.nx_objects.proofs.objects.Objects.close.Goals as goal

pub release-requires-clause-placed : goal.release-requires-clause-placed
release-requires-clause-placed g c = placed_descriptor _ (32 * c.args.group + c.args.fd) c.args.self.now None c.set.new.self c.set.ensures c.requires.placed

pub returns-in-Some-clause-state : goal.returns-in-Some-clause-state
returns-in-Some-clause-state g c = λ k.
    let old = c.args.self.now in
    let content = g.B.BlockStore.content c.args.blocks.now in
    c.release.ensures.state k
    ∙ ap (λ ds. released (with_objects k c.args.threads.now content (record old { descriptors = ds })) c.in-Some.place) c.set.ensures
    ∙ sym (closed_open (with_objects k c.args.threads.now content old) c.args.group c.args.fd c.in-Some.place (sym c.in-Some.ensures))

pub returns-in-None-clause-state : goal.returns-in-None-clause-state
returns-in-None-clause-state g c = λ k. sym (closed_shut (with_objects k c.args.threads.now (g.B.BlockStore.content c.args.blocks.now) c.args.self.now) c.args.group c.args.fd (sym c.in-None.ensures))

pub returns-in-Some-clause-places : goal.returns-in-Some-clause-places
returns-in-Some-clause-places g c = same_descriptor (32 * c.args.group + c.args.fd) c.args.self.now c.release.new.self None c.set.new.self c.set.ensures c.release.ensures.places
