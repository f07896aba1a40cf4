use Rattle.std.proofs.Common.{refl, arith}
use Rattle.nx_ktables.specs.State.{state_of}
use Rattle.nx_kgroups.proofs.Regrouped.{tells_joined}
use Rattle.nx_kgroups.proofs.Vanishing.{waiting_few}
use Rattle.nx_kgroups.proofs.ending.tell.Goals as goal

pub returns-clause-told : goal.returns-clause-told
returns-clause-told c = λ content.
    let old = c.args.tables.now in
    tells_joined _ _ _ (state_of content old) old.groups old.environments c.args.code refl (c.tell_parent.ensures.told (state_of content old))

pub tell_parent-requires-clause-moments : goal.tell_parent-requires-clause-moments
tell_parent-requires-clause-moments c = let w = waiting_few c.args.tables.now.threads.threads in omega (arith, w, c.requires.moments)

pub tell_parent-requires-clause-room : goal.tell_parent-requires-clause-room
tell_parent-requires-clause-room c = let w = waiting_few c.args.tables.now.threads.threads in omega (arith, w, c.requires.room)
