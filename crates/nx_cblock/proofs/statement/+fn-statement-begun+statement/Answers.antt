use Rattle.std.proofs.Common.{◌≡◌, ◌-◌, suc, arith, subst, sym}
use Rattle.nx_cexpr.specs.Answers.{Gives}
use Rattle.nx_cstmt.proofs.Steps.{stmt_step}
use Rattle.nx_cblock.proofs.statement.+fn-statement-begun+statement.Goals as goal

pub returns-else-depth-eq0-clause-gives : goal.returns-else-depth-eq0-clause-gives
returns-else-depth-eq0-clause-gives g t c =
    let more : c.args.depth ≡ suc (c.args.depth - 1) = omega (arith, c.if-depth-eq0.false) in
    subst (λ o. Gives (λ x. (x.0, x.1.now)) c.begun.result o) (sym (stmt_step c.args.depth (c.args.depth - 1) c.args.in_loop c.args.tokens.now more)) c.begun.ensures.gives
