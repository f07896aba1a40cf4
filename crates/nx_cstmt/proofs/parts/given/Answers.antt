use Rattle.std.proofs.Common.{ap, ◌∙◌, sym}
use Rattle.std.specs.Prelude.{Ok, Some}
use Rattle.nx_cstmt.proofs.Expressions.{given_on}
use Rattle.nx_cstmt.proofs.parts.given.Goals as goal

pub returns-clause-gives : goal.returns-clause-gives
returns-clause-gives g c =
    given_on c.args.depth c.args.end c.args.tokens.now c.in_ok-expr.rest.now c.in_ok-rest.rest.now c.in_ok-expr.expr c.in_ok-rest.field-0-0.now c.in_ok-expr.ensures.gives c.in_ok-rest.ensures.gives
    ∙ ap (λ x. Ok (Some x, c.in_ok-rest.rest.now)) (sym c.in_ok-new.ensures)
