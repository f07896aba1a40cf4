use Rattle.std.proofs.Common.{arith}
use Rattle.nx_ksys.specs.State.{is_made_directory}
use Rattle.nx_path.specs.Entries.{seen}
use Rattle.nx_path.proofs.EntryLemmas.{count_more}
use Rattle.nx_path.proofs.entries.made_directories.Goals as goal

pub loop-at-preserved : goal.loop-at-preserved
loop-at-preserved c = record {
  count = count_more is_made_directory (seen c.args.tree.now) c.loop-at.at c.loop-at.count c.count_made-count.result (c.entry_at.result.0.now, c.entry_at.result.1) c.entry_at.ensures.entry c.count_made-count.ensures.count c.loop-at.invariant.count;
  few = omega (arith, c.loop-at.invariant.few, c.count_made-count.ensures.few);
}
