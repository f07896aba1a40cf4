use Rattle.std.proofs.Common.{arith}
use Rattle.nx_group.proofs.Keys.{kept_put, seen_put, one_fewer_free, below}
use Rattle.nx_group.proofs.descriptions.put.Goals as goal

pub returns-clause-kept : goal.returns-clause-kept
returns-clause-kept c = kept_put _ _ _ _ _ c.args.description c.requires.kept c.requires.free c.insert_reserved-key.ensures.was_vacant c.insert_reserved-key.ensures.updates c.insert_reserved-key.ensures.len c.insert_reserved-key.ensures.capacity

pub returns-clause-seen : goal.returns-clause-seen
returns-clause-seen c = seen_put _ _ _ _ _ c.args.description c.requires.kept c.requires.free c.insert_reserved-key.ensures.was_vacant c.insert_reserved-key.ensures.updates

pub insert_reserved-key-requires : goal.insert_reserved-key-requires
insert_reserved-key-requires c = omega (arith, c.requires.kept.room, one_fewer_free c.args.keys.now c.args.place 0 c.requires.free)

pub offset_bounds-keys-place : goal.offset_bounds-keys-place
offset_bounds-keys-place c = let b = below c.args.keys.now c.args.place _ c.requires.free in omega (arith, b)

pub bounds-keys-place : goal.bounds-keys-place
bounds-keys-place c = below c.args.keys.now c.args.place _ c.requires.free
