use Rattle.std.proofs.Common.{List, suc, sym, ap, ◌∙◌, subst, Bor}
use Rattle.nx_grammar.specs.Reading.{bind}
use Rattle.nx_ctree.specs.declared.sign.Signed.{Signed}
use Rattle.nx_cexpr.specs.declared.operand.Operand.{Operand}
use Rattle.nx_cexpr.specs.Reading.{within, has_node, post}
use Rattle.nx_cexpr.specs.Answers.{Gives}
use Rattle.nx_cexpr.proofs.Steps.{primary_then}
use Rattle.nx_cunary.proofs.unary.posted.Goals as goal

pub returns-clause-gives : goal.returns-clause-gives
returns-clause-gives g c =
    let same = primary_then c.args.lower (post (within c.args.lower) (has_node c.args.lower) (suc c.args.lower)) c.args.tokens.now
    ∙ ap (λ o. bind o (post (within c.args.lower) (has_node c.args.lower) (suc c.args.lower))) c.in_ok-operand.ensures.gives in
    subst (λ o. Gives {X = Operand × Bor (List Signed)} {Y = Operand} (λ x. (x.0, x.1.now)) c.post.result o) (sym same) c.post.ensures.gives
