use Rattle.std.proofs.Common.{sym}
use Rattle.nx_ksys.specs.Paths.{is_in}
use Rattle.nx_path.specs.Entries.{seen}
use Rattle.nx_path.proofs.EntryLemmas.{any_found, any_next}
use Rattle.nx_path.proofs.rename.has_below.Goals as goal

pub returns-then-is_within : goal.returns-then-is_within
returns-then-is_within c = any_found (λ e. is_in c.args.path.now e.0) (seen c.args.tree.now) c.loop-at.at (c.entry_at.result.0.now, c.entry_at.result.1) _ c.entry_at.ensures.entry (sym c.if-is_within.ensures) c.loop-at.invariant

pub loop-at-preserved : goal.loop-at-preserved
loop-at-preserved c = any_next (λ e. is_in c.args.path.now e.0) (seen c.args.tree.now) c.loop-at.at (c.entry_at.result.0.now, c.entry_at.result.1) _ c.entry_at.ensures.entry (sym c.if-is_within.ensures) c.loop-at.invariant
