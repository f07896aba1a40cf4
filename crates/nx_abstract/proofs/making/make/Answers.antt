use Rattle.std.proofs.Common.{ap, sym, ◌∙◌}
use Rattle.nx_shrun.specs.AbstractRuns.{wrong_start}
use Rattle.nx_abstract.proofs.making.make.Goals as goal

pub returns-clause-wrong : goal.returns-clause-wrong
returns-clause-wrong g c = λ script.
    c.in_ok-wrong.ensures.wrong script ∙ ap (λ e. wrong_start (g.P.Programs.meaning c.args.guests.now.programs) script e) (sym c.ask-effect.ensures.effect)
