-- The parts of a conditional expression.
use Rattle.nx_grammar.specs.Reading.{Reading, dispatch, seq, done, expect}
use Rattle.nx_ctree.specs.declared.sign.Sign.TheVariants as sign
use Rattle.nx_ctree.specs.declared.sign.Signed.{Signed}
use Rattle.nx_ctree.specs.Expressions.{whole}
use Rattle.nx_cexpr.specs.declared.operand.Operand.{Operand}
use Rattle.nx_cexpr.specs.Signs.{is_sign}
use Rattle.nx_cexpr.specs.Operands
use Rattle.nx_cexpr.specs.Reading.{Below}

-- The first of the two expressions, and the ":" after it.
unfoldable pub then_rest : Below → Reading Signed Operand
then_rest low = seq (dispatch (low.level whole)) (λ b. seq (expect (is_sign sign.Colon)) (λ c. done b))

-- The second one, after a test and the first.
unfoldable pub otherwise_rest : Below → Operand → Operand → Reading Signed Operand
otherwise_rest low a b = seq (dispatch (low.level 12)) (λ e. done (Operands.conditional a b e))
