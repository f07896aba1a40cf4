-- Indexes.
use Rattle.std.proofs.Common.{◌≡◌, ℕ, suc, List, sym, ap, refl, ◌∙◌}
use Rattle.std.specs.Prelude.{Some, Ok, Err, ◌&&◌, nat_lt}
use Rattle.nx_grammar.specs.Reading.{Out, bind, done, expect}
use Rattle.nx_grammar.specs.Chains.{after_first}
use Rattle.nx_ctree.specs.declared.sign.Sign.TheVariants as sign
use Rattle.nx_ctree.specs.declared.sign.Signed.{Signed}
use Rattle.nx_ctree.specs.Expressions.{whole}
use Rattle.nx_cexpr.specs.declared.operand.Operand.{Operand}
use Rattle.nx_cexpr.specs.declared.operand.Element.{Element}
use Rattle.nx_cexpr.specs.Signs.{is_sign}
use Rattle.nx_cexpr.specs.Operands
use Rattle.nx_cexpr.specs.Answers.{part_at}
use Rattle.nx_cexpr.specs.Reading.{element_rest, elements, has_node, within, level_at}
use Rattle.nx_celement.specs.Indexes.{index_rest}
use Rattle.nx_cexpr.proofs.Chains.{elements_on}

-- A bracket takes an index more, from what the code has as the tokens.
pub elements_step : (d : ℕ) (x : Element) (ts us vs : List Signed) → after_first (is_sign sign.OpenBracket) ts ≡ Some us → vs ≡ ts →
    elements (within d) (has_node d) (suc d) x ts
    ≡ bind (part_at (element_rest (within d) (Operands.element_operand x)) (has_node d && nat_lt x.height (suc d)) vs us) (elements (within d) (has_node d) (suc d))
elements_step d x ts us vs e s = elements_on d x ts us e
    ∙ ap (λ ws. bind (part_at (element_rest (within d) (Operands.element_operand x)) (has_node d && nat_lt x.height (suc d)) ws us) (elements (within d) (has_node d) (suc d))) (sym s)

closed_by : (a i : Operand) (o : Out Signed Signed) → bind o (λ c. done (Operands.element a i)) ≡ bind (bind o (λ c. done i)) (λ j. done (Operands.element a j))
closed_by a i (Ok x) = refl
closed_by a i (Err e) = refl

index_by : (a : Operand) (o : Out Signed Operand) →
    bind o (λ i us. bind (expect (is_sign sign.CloseBracket) us) (λ c. done (Operands.element a i)))
    ≡ bind (bind o (λ i us. bind (expect (is_sign sign.CloseBracket) us) (λ c. done i))) (λ j. done (Operands.element a j))
index_by a (Ok x) = closed_by a x.0 (expect (is_sign sign.CloseBracket) x.1)
index_by a (Err e) = refl

-- An element is its base and an index.
pub element_by : (d : ℕ) (a : Operand) (ts : List Signed) → element_rest (within d) a ts ≡ bind (index_rest (within d) ts) (λ i. done (Operands.element a i))
unfolding element_rest index_rest
element_by d a ts = index_by a (level_at d whole ts)
