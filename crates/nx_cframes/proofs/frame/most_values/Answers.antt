use Rattle.std.proofs.Common.{ap, ◌∙◌}
use Rattle.nx_checked.specs.Frames.{all_initials, all_values}
use Rattle.nx_cframes.specs.Counts.{capped, block_values}
use Rattle.nx_cframes.proofs.Lists.{all_statements}
use Rattle.nx_cframes.proofs.frame.most_values.Goals as goal

pub returns : goal.returns
returns c =
    let f = c.args.function.now in
    c.greater.ensures (all_initials f.initials) (all_values f.body)
    (c.initial_values-initials.ensures ∙ ap (λ es. capped (all_initials es)) c.as_slice.ensures)
    (c.block_values-body.ensures ∙ ap (λ ss. capped (block_values ss)) (c.as_slice-2.ensures ∙ c.get.ensures) ∙ ap capped (all_statements f.body))
