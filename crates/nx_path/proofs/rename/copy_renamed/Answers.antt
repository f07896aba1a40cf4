use Rattle.std.proofs.Common.{arith}
use Rattle.nx_path.specs.Entries.{seen}
use Rattle.nx_path.proofs.EntryLemmas.{distinct_seen}
use Rattle.nx_path.proofs.RenameLemmas.{fits_at, absent_renamed, renamed_next}
use Rattle.nx_path.proofs.rename.copy_renamed.Goals as goal

pub new_path-requires : goal.new_path-requires
new_path-requires c = fits_at c.args.first.now c.args.second.now (seen c.args.from.now) c.loop-at.at (c.entry_at.result.0.now, c.entry_at.result.1) c.requires.fits c.entry_at.ensures.entry

pub put-requires-clause-absent : goal.put-requires-clause-absent
put-requires-clause-absent c =
    absent_renamed c.args.first.now c.args.second.now c.entry_at.result.0.now c.new_path.result.items c.entry_at.result.1 (seen c.args.from.now) (seen c.loop-at.into) c.loop-at.at
    (distinct_seen c.args.from.now.entries c.len-at-end.ensures.unique) c.requires.free c.entry_at.ensures.entry c.new_path.ensures c.loop-at.invariant.entries

pub loop-at-preserved : goal.loop-at-preserved
loop-at-preserved c = record {
  entries = renamed_next c.args.first.now c.args.second.now c.entry_at.result.0.now c.new_path.result.items c.entry_at.result.1 (seen c.args.from.now) (seen c.loop-at.into) (seen c.put.new.tree) c.loop-at.at
      c.entry_at.ensures.entry c.new_path.ensures c.loop-at.invariant.entries c.put.ensures.entries;
  room = omega (arith, c.loop-at.invariant.room, c.put.ensures.room);
  capacity = omega (arith, c.loop-at.invariant.capacity, c.put.ensures.capacity);
}
