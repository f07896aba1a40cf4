use Rattle.std.proofs.Common.{◌≡◌, ◌-◌, List, suc, arith, subst, sym, Bor}
use Rattle.nx_ctree.specs.declared.sign.Signed.{Signed}
use Rattle.nx_cexpr.specs.declared.operand.Operand.{Operand}
use Rattle.nx_cexpr.specs.Answers.{Gives, GivesFault}
use Rattle.nx_cexpr.proofs.Steps.{level_down, level_full}
use Rattle.nx_cwhole.proofs.whole.+fn-read-level+read.Goals as goal

pub returns-then-depth-eq0-clause-gives : goal.returns-then-depth-eq0-clause-gives
returns-then-depth-eq0-clause-gives t c =
    subst (λ o. GivesFault c.full.result o) (sym (level_full c.args.depth c.args.n c.args.tokens.now (omega (arith, c.if-depth-eq0.true)))) c.full.ensures

pub returns-else-depth-eq0-clause-gives : goal.returns-else-depth-eq0-clause-gives
returns-else-depth-eq0-clause-gives t c =
    let more : c.args.depth ≡ suc (c.args.depth - 1) = omega (arith, c.if-depth-eq0.false) in
    subst (λ o. Gives {X = Operand × Bor (List Signed)} {Y = Operand} (λ x. (x.0, x.1.now)) c.level.result o) (sym (level_down c.args.depth (c.args.depth - 1) c.args.n c.args.tokens.now more)) c.level.ensures.gives
