use Rattle.std.proofs.Common.{List, arith, sym, subst, Bor}
use Rattle.nx_ctree.specs.declared.sign.Signed.{Signed}
use Rattle.nx_cexpr.specs.declared.operand.Operand.{Operand}
use Rattle.nx_cexpr.specs.Answers.{Gives}
use Rattle.nx_clevels.proofs.Rising.{choice_rest, assignment_rest}
use Rattle.nx_clevels.proofs.levels.level_rest.Goals as goal

pub returns-then-n-eq11-clause-gives : goal.returns-then-n-eq11-clause-gives
returns-then-n-eq11-clause-gives g c =
    let same = choice_rest c.args.lower c.args.n c.args.left c.args.tokens.now (omega (arith, c.if-n-eq11.true)) in
    subst (λ o. Gives {X = Operand × Bor (List Signed)} {Y = Operand} (λ x. (x.0, x.1.now)) c.conditional_at.result o) (sym same) c.conditional_at.ensures.gives

pub returns-then-n-eq12-clause-gives : goal.returns-then-n-eq12-clause-gives
returns-then-n-eq12-clause-gives g c =
    let same = assignment_rest c.args.lower c.args.n c.args.left c.args.tokens.now (omega (arith, c.if-n-eq12.true)) in
    subst (λ o. Gives {X = Operand × Bor (List Signed)} {Y = Operand} (λ x. (x.0, x.1.now)) c.assigned.result o) (sym same) c.assigned.ensures.gives
