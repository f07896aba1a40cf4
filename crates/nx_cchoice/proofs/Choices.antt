-- A conditional expression by its parts.
use Rattle.std.proofs.Common.{◌≡◌, ℕ, List, refl}
use Rattle.std.specs.Prelude.{Ok, Err}
use Rattle.nx_grammar.specs.Reading.{Out, Reading, bind, done, expect}
use Rattle.nx_ctree.specs.declared.sign.Sign.TheVariants as sign
use Rattle.nx_ctree.specs.declared.sign.Signed.{Signed}
use Rattle.nx_ctree.specs.Expressions.{whole}
use Rattle.nx_cexpr.specs.declared.operand.Operand.{Operand}
use Rattle.nx_cexpr.specs.Signs.{is_sign}
use Rattle.nx_cexpr.specs.Reading.{conditional_rest, within, level_at}
use Rattle.nx_cchoice.specs.Parts.{then_rest, otherwise_rest}

colon_by : (b : Operand) (next : Operand → Reading Signed Operand) (o : Out Signed Signed) → bind o (λ c. next b) ≡ bind (bind o (λ c. done b)) next
colon_by b next (Ok x) = refl
colon_by b next (Err e) = refl

then_by : (next : Operand → Reading Signed Operand) (o : Out Signed Operand) →
    bind o (λ b us. bind (expect (is_sign sign.Colon) us) (λ c. next b)) ≡ bind (bind o (λ b us. bind (expect (is_sign sign.Colon) us) (λ c. done b))) next
then_by next (Ok x) = colon_by x.0 next (expect (is_sign sign.Colon) x.1)
then_by next (Err e) = refl

-- The first expression and its ":" are read, and then the second.
pub choice_by : (d : ℕ) (a : Operand) (ts : List Signed) → conditional_rest (within d) a ts ≡ bind (then_rest (within d) ts) (otherwise_rest (within d) a)
unfolding conditional_rest then_rest otherwise_rest
choice_by d a ts = then_by (otherwise_rest (within d) a) (level_at d whole ts)
