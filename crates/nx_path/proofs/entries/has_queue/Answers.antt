use Rattle.std.proofs.Common.{sym}
use Rattle.nx_ksys.specs.Descriptors.{is_queue_at}
use Rattle.nx_path.specs.Entries.{seen}
use Rattle.nx_path.proofs.EntryLemmas.{any_found, any_next}
use Rattle.nx_path.proofs.entries.has_queue.Goals as goal

pub returns-then-leads_to_queue : goal.returns-then-leads_to_queue
returns-then-leads_to_queue c = any_found (λ e. is_queue_at c.args.place e.1.kind) (seen c.args.tree.now) c.loop-at.at (c.entry_at.result.0.now, c.entry_at.result.1) _ c.entry_at.ensures.entry (sym c.if-leads_to_queue.ensures) c.loop-at.invariant

pub loop-at-preserved : goal.loop-at-preserved
loop-at-preserved c = any_next (λ e. is_queue_at c.args.place e.1.kind) (seen c.args.tree.now) c.loop-at.at (c.entry_at.result.0.now, c.entry_at.result.1) _ c.entry_at.ensures.entry (sym c.if-leads_to_queue.ensures) c.loop-at.invariant
