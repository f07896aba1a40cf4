use Rattle.std.proofs.Common.{◌∙◌}
use Rattle.nx_path.proofs.EntryLemmas.{find_seen}
use Rattle.nx_path.proofs.entries.find.Goals as goal

pub returns : goal.returns
returns c = c.copied.ensures ∙ c.get.ensures.value ∙ find_seen c.args.path.now.items c.args.tree.now.entries
