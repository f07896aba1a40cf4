use Rattle.std.proofs.Common.{refl}
use Rattle.nx_ksys.specs.Paths.{nth_name}
use Rattle.nx_path.specs.Entries.{seen}
use Rattle.nx_path.proofs.EntryLemmas.{nth_listed, nth_next}
use Rattle.nx_path.proofs.lookups.nth_child.Goals as goal

pub returns-in-Some : goal.returns-in-Some
unfolding nth_name
returns-in-Some c =
    nth_listed (seen c.args.tree.now) c.args.directory.now c.args.index c.loop-at.at (c.entry_at.result.0.now, c.entry_at.result.1) _ c.in-Some.name.items c.entry_at.ensures.entry c.in-Some.ensures.some c.loop-at.invariant

pub loop-at-preserved : goal.loop-at-preserved
loop-at-preserved c =
    nth_next (seen c.args.tree.now) c.args.directory.now c.args.index c.loop-at.at (c.entry_at.result.0.now, c.entry_at.result.1) _ c.entry_at.ensures.entry (c.in-None.ensures.none refl) c.loop-at.invariant
