use Rattle.nx_group.proofs.Keys.{seen_free}
use Rattle.nx_group.proofs.descriptions.Descriptions.add.Goals as goal

pub put-requires-clause-free : goal.put-requires-clause-free
put-requires-clause-free c = rw c.deref_mut.ensures.value (seen_free c.self.inside.slab c.self.inside.keys.items c.args.place c.self.invariant.there (rw (← c.self.view_is) at c.requires))
