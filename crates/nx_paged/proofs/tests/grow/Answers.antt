use Rattle.std.proofs.Common.{◌≡◌, ◌∙◌, ◌<◌, ap, subst, sym}
use Rattle.nx_space.proofs.Growths.{grown_has_view, grown_plan}
use Rattle.nx_paged.specs.State.{state_of, world_of}
use Rattle.nx_paged.specs.Lawful.{paged_lawful}
use Rattle.nx_paged.proofs.tests.grow.Goals as goal

pub returns-in-Ok-clause-view : goal.returns-in-Ok-clause-view
returns-in-Ok-clause-view c =
    let s = c.args.space.now in
    grown_has_view (world_of s) _ 7 c.args.slot (paged_lawful (state_of s) s.placed) c.requires.view (subst (λ n. c.args.slot < n) (sym c.requires.threads) c.requires.slot) c.in-Ok.ensures.grown

pub returns-in-Ok-clause-threads : goal.returns-in-Ok-clause-threads
returns-in-Ok-clause-threads c =
    let s = c.args.space.now in
    ap (λ m. m.threads) (grown_plan (world_of s) _ 7 c.args.slot (paged_lawful (state_of s) s.placed) c.requires.view (subst (λ n. c.args.slot < n) (sym c.requires.threads) c.requires.slot) c.in-Ok.ensures.grown) ∙ c.requires.threads
