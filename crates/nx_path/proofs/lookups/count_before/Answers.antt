use Rattle.std.proofs.Common.{arith}
use Rattle.nx_path.specs.Entries.{seen}
use Rattle.nx_path.proofs.EntryLemmas.{before_next}
use Rattle.nx_path.proofs.lookups.count_before.Goals as goal

pub loop-at-preserved : goal.loop-at-preserved
loop-at-preserved c = record {
  count = before_next c.args.directory.now c.args.name.now (seen c.args.tree.now) c.loop-at.at c.loop-at.count c.count_name-count.result _ (c.entry_at.result.0.now, c.entry_at.result.1) c.entry_at.ensures.entry c.count_name-count.ensures.count c.loop-at.invariant.count;
  few = omega (arith, c.loop-at.invariant.few, c.count_name-count.ensures.few);
}
