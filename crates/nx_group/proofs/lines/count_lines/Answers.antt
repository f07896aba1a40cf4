use Rattle.std.proofs.Common.{◌∙◌}
use Rattle.nx_group.proofs.LineLemmas.{lines_counted}
use Rattle.nx_group.proofs.lines.count_lines.Goals as goal

pub returns-clause-count : goal.returns-clause-count
returns-clause-count c = c.count_newlines.ensures.count ∙ lines_counted c.args.text.now
