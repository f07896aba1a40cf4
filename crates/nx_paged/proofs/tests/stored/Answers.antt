use Rattle.std.proofs.Common.{◌≡◌, ◌∙◌, true, ap, subst, sym}
use Rattle.nx_space.specs.World.{has_view}
use Rattle.nx_space.proofs.Stays.{entered_stays}
use Rattle.nx_paged.specs.State.{world_of}
use Rattle.nx_paged.proofs.tests.stored.Goals as goal

pub returns-clause-view : goal.returns-clause-view
returns-clause-view c =
    let old = world_of c.args.space.now in
    let new = world_of c.store.new.self in
    let only = c.store.ensures.only in
    subst (λ n. has_view new.groups n ≡ true) (only.entered ∙ c.requires.entered) (entered_stays old new only (subst (λ n. has_view old.groups n ≡ true) (sym c.requires.entered) c.requires.view))
