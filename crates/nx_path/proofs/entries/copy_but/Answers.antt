use Rattle.std.proofs.Common.{arith}
use Rattle.nx_path.specs.Entries.{seen}
use Rattle.nx_path.proofs.EntryLemmas.{but_absent, but_next, distinct_seen}
use Rattle.nx_path.proofs.entries.copy_but.Goals as goal

pub put_other-requires-clause-absent : goal.put_other-requires-clause-absent
put_other-requires-clause-absent c = but_absent c.args.path.now c.entry_at.result.0.now (seen c.args.from.now) (seen c.loop-at.into) c.loop-at.at c.entry_at.result.1 (distinct_seen c.args.from.now.entries c.len-at-end.ensures.unique) c.entry_at.ensures.entry c.loop-at.invariant.entries

pub loop-at-preserved : goal.loop-at-preserved
loop-at-preserved c = record {
  entries = but_next c.args.path.now c.entry_at.result.0.now (seen c.args.from.now) (seen c.loop-at.into) (seen c.put_other.new.into) c.loop-at.at c.entry_at.result.1 c.entry_at.ensures.entry c.loop-at.invariant.entries c.put_other.ensures.entries;
  room = omega (arith, c.loop-at.invariant.room, c.put_other.ensures.room);
  fewer = omega (arith, c.loop-at.invariant.fewer, c.put_other.ensures.len);
  capacity = omega (arith, c.loop-at.invariant.capacity, c.put_other.ensures.capacity);
}
