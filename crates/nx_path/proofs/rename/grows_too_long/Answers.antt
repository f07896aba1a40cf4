use Rattle.std.specs.Prelude.{nat_le, length}
use Rattle.nx_ksys.specs.Paths.{renamed}
use Rattle.nx_path.proofs.WalkLemmas.{at_most, not_at_most}
use Rattle.nx_path.specs.Entries.{seen}
use Rattle.nx_path.proofs.EntryLemmas.{any_found, any_next}
use Rattle.nx_path.proofs.rename.grows_too_long.Goals as goal

pub returns-then-new_length-ge256 : goal.returns-then-new_length-ge256
returns-then-new_length-ge256 c = any_found (λ e. nat_le 256 (length (renamed c.args.first.now c.args.second.now e.0))) (seen c.args.tree.now) c.loop-at.at (c.entry_at.result.0.now, c.entry_at.result.1) _ c.entry_at.ensures.entry (at_most _ _ (rw c.new_length.ensures at c.if-new_length-ge256.true)) c.loop-at.invariant

pub loop-at-preserved : goal.loop-at-preserved
loop-at-preserved c = any_next (λ e. nat_le 256 (length (renamed c.args.first.now c.args.second.now e.0))) (seen c.args.tree.now) c.loop-at.at (c.entry_at.result.0.now, c.entry_at.result.1) _ c.entry_at.ensures.entry (not_at_most _ _ (rw c.new_length.ensures at c.if-new_length-ge256.false)) c.loop-at.invariant
