-- A round of the operators of a level.
use Rattle.std.proofs.Common.{◌≡◌, ℕ, suc, List, sym, ap, ◌∙◌}
use Rattle.std.specs.Prelude.{Some, ◌&&◌, nat_lt}
use Rattle.nx_grammar.specs.Reading.{bind, loop}
use Rattle.nx_ctree.specs.declared.sign.Signed.{Signed}
use Rattle.nx_ctree.specs.declared.expression.BinaryOperator.{BinaryOperator}
use Rattle.nx_cexpr.specs.declared.operand.Operand.{Operand}
use Rattle.nx_cexpr.specs.Answers.{part_at, operator_after}
use Rattle.nx_cexpr.specs.Reading.{right_rest, operator_pick, has_node, within}
use Rattle.nx_cexpr.proofs.Chains.{operators_on}

-- An operator takes its right side, from what the code has as the tokens.
pub operators_step : (d n : ℕ) (a : Operand) (ts us vs : List Signed) (op : BinaryOperator) → operator_after (suc n) ts ≡ Some (op, us) → vs ≡ ts →
    loop (operator_pick (within d) (has_node d) (suc d) n) a ts
    ≡ bind (part_at (right_rest (within d) n op a) (has_node d && nat_lt a.height (suc d)) vs us) (loop (operator_pick (within d) (has_node d) (suc d) n))
operators_step d n a ts us vs op e s = operators_on d n a ts us op e
    ∙ ap (λ ws. bind (part_at (right_rest (within d) n op a) (has_node d && nat_lt a.height (suc d)) ws us) (loop (operator_pick (within d) (has_node d) (suc d) n))) (sym s)
