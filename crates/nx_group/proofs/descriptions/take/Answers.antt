use Rattle.std.proofs.Common.{sym, subst}
use Rattle.std.specs.Prelude.{IsSome}
use Rattle.nx_group.proofs.Keys.{flat_some, kept_take, seen_take, on_some}
use Rattle.nx_group.proofs.descriptions.take.Goals as goal

pub returns-in-Some-clause-kept : goal.returns-in-Some-clause-kept
returns-in-Some-clause-kept c =
    let is = flat_some c.args.keys.now c.args.place c.in-Some.key (sym c.in-Some.ensures) in
    let some = subst IsSome (sym c.try_remove-description.ensures.value) (c.requires.kept.there _ _ is) in
    kept_take _ _ _ _ c.in-Some.key c.requires.kept is c.try_remove-description.ensures.updates (on_some _ _ some c.try_remove-description.ensures.len) c.try_remove-description.ensures.capacity

pub returns-in-Some-clause-seen : goal.returns-in-Some-clause-seen
returns-in-Some-clause-seen c =
    seen_take _ _ _ _ c.in-Some.key c.requires.kept (flat_some c.args.keys.now c.args.place c.in-Some.key (sym c.in-Some.ensures)) c.try_remove-description.ensures.updates
