use Rattle.std.proofs.Common.{sym}
use Rattle.nx_group.proofs.Keys.{flat_some, seen_write, no_value}
use Rattle.nx_group.proofs.descriptions.replace.Goals as goal

pub returns-in-Some-get_mut-clause-seen : goal.returns-in-Some-get_mut-clause-seen
returns-in-Some-get_mut-clause-seen c = seen_write c.args.slab.now c.args.keys.now c.args.place c.in-Some.key c.args.description c.requires.kept (flat_some c.args.keys.now c.args.place c.in-Some.key (sym c.in-Some.ensures))

pub returns-in-None-clause-seen : goal.returns-in-None-clause-seen
returns-in-None-clause-seen c = absurd (no_value c.args.slab.now c.args.keys.now c.args.place c.in-Some.key c.requires.kept (flat_some c.args.keys.now c.args.place c.in-Some.key (sym c.in-Some.ensures)) (sym c.in-None.ensures.value))
