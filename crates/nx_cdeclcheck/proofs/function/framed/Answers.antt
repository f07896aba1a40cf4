use Rattle.std.proofs.Common.{ap, ◌∙◌}
use Rattle.nx_cbody.specs.Functions.{function_of, within_frame}
use Rattle.nx_cdeclcheck.proofs.Functions.{given_exact}
use Rattle.nx_cdeclcheck.proofs.function.framed.Goals as goal

pub returns : goal.returns
returns c names =
    let l = c.args.locals in
    given_exact c.within.result _ (c.within.ensures ∙ ap (λ b. within_frame c.args.line (function_of l.params l.scalars l.arrays l.initials b)) c.in_ok-body.ensures)
