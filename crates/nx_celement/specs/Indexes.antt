-- What stands between "[" and "]".
use Rattle.nx_grammar.specs.Reading.{Reading, dispatch, seq, done, expect}
use Rattle.nx_ctree.specs.declared.sign.Sign.TheVariants as sign
use Rattle.nx_ctree.specs.declared.sign.Signed.{Signed}
use Rattle.nx_ctree.specs.Expressions.{whole}
use Rattle.nx_cexpr.specs.declared.operand.Operand.{Operand}
use Rattle.nx_cexpr.specs.Signs.{is_sign}
use Rattle.nx_cexpr.specs.Reading.{Below}

-- An index and the "]" after it.
unfoldable pub index_rest : Below → Reading Signed Operand
index_rest low = seq (dispatch (low.level whole)) (λ i. seq (expect (is_sign sign.CloseBracket)) (λ c. done i))
