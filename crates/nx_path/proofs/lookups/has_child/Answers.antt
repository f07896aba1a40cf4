use Rattle.std.proofs.Common.{sym}
use Rattle.std.specs.Option.{is_some}
use Rattle.nx_ksys.specs.Paths.{child_name}
use Rattle.nx_path.specs.Entries.{seen}
use Rattle.nx_path.proofs.EntryLemmas.{any_found, any_next}
use Rattle.nx_path.proofs.lookups.has_child.Goals as goal

pub returns-then-is_child : goal.returns-then-is_child
returns-then-is_child c = any_found (λ e. is_some (child_name c.args.directory.now e.0)) (seen c.args.tree.now) c.loop-at.at (c.entry_at.result.0.now, c.entry_at.result.1) _ c.entry_at.ensures.entry (sym c.if-is_child.ensures) c.loop-at.invariant

pub loop-at-preserved : goal.loop-at-preserved
loop-at-preserved c = any_next (λ e. is_some (child_name c.args.directory.now e.0)) (seen c.args.tree.now) c.loop-at.at (c.entry_at.result.0.now, c.entry_at.result.1) _ c.entry_at.ensures.entry (sym c.if-is_child.ensures) c.loop-at.invariant
