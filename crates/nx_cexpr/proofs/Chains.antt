-- A round of arguments, of indexes, and of the operators of a level.
use Rattle.std.proofs.Common.{◌≡◌, ℕ, zero, suc, ◌≤◌, Bool, true, false, List, [], ◌∷◌, length, refl, ap, ◌∙◌, arith}
use Rattle.std.specs.Prelude.{Ok, Option, Some, None, if◌then◌else◌, ◌&&◌, nat_lt}
use Rattle.nx_grammar.specs.declared.kind.Kind.TheVariants.{Limit}
use Rattle.nx_grammar.specs.Reading.{Reading, Refuse, Pass, Take, bind, round, turn, loop}
use Rattle.nx_grammar.specs.Lawful.{Any}
use Rattle.nx_grammar.specs.Chains.{after_first, closed}
use Rattle.nx_grammar.proofs.Results.{bound, ok_same}
use Rattle.nx_grammar.proofs.Loops.{passed_shorter, shorter, loop_turn}
use Rattle.nx_grammar.proofs.Chains.{chain_on, chain_closed}
use Rattle.nx_ctree.specs.declared.sign.Sign.TheVariants as sign
use Rattle.nx_ctree.specs.declared.sign.Signed.{Signed}
use Rattle.nx_ctree.specs.declared.expression.BinaryOperator.{BinaryOperator}
use Rattle.nx_ctree.specs.Expressions.{binary_of, whole}
use Rattle.nx_cexpr.specs.declared.operand.Operand.{Operand}
use Rattle.nx_cexpr.specs.declared.operand.Element.{Element}
use Rattle.nx_cexpr.specs.declared.operand.Arguments.{Arguments}
use Rattle.nx_cexpr.specs.Signs.{is_sign, Stops, operator_at}
use Rattle.nx_cexpr.specs.Operands
use Rattle.nx_cexpr.specs.Answers.{part_at, with_rest, operator_after}
use Rattle.nx_cexpr.specs.Reading.{next_rest, comma_pick, element_rest, element_pick, elements, right_rest, operator_by, operator_pick, has_node, within, level_at}
use Rattle.nx_cexpr.proofs.SignLaws.{Is}
use Rattle.nx_cexpr.proofs.PrimaryLaws
use Rattle.nx_cexpr.proofs.Laws
use Rattle.nx_cexpr.proofs.Laws.{lows}
use Rattle.nx_cexpr.proofs.Steps.{round_part}

-- ---- What stands at the front.

front_case : (t : Signed) (ts us : List Signed) (b : Bool) → (let o : Option (List Signed) = if b then Some ts else None in o) ≡ Some us → (b ≡ true) × (ts ≡ us)
front_case t ts us true e = (refl, cc)
front_case t ts us false e = absurd cc

none_case : (ts : List Signed) (b : Bool) → (let o : Option (List Signed) = if b then Some ts else None in o) ≡ None → b ≡ false
none_case ts true e = absurd cc
none_case ts false e = refl

operator_case : (o : Option BinaryOperator) (ts us : List Signed) (op : BinaryOperator) → with_rest o ts ≡ Some (op, us) → (o ≡ Some op) × (ts ≡ us)
operator_case None ts us op e = absurd cc
operator_case (Some x) ts us op e = let p : (x, ts) ≡ (op, us) = cc in (ap (λ (z : BinaryOperator × List Signed). Some z.0) p, ap (λ (z : BinaryOperator × List Signed). z.1) p)

no_operator_case : (o : Option BinaryOperator) (ts : List Signed) → with_rest o ts ≡ None → o ≡ None
no_operator_case None ts e = refl
no_operator_case (Some x) ts e = absurd cc

-- ---- Arguments.

-- Where no node fits, no expression is read.
none_read : (n : ℕ) (ts : List Signed) (a : Operand) (rest : List Signed) → level_at 0 n ts ≡ Ok (a, rest) → ⊥
unfolding within
none_read n [] a rest e = cc
none_read n (t ∷ ts) a rest e = cc

-- An expression leaves no more tokens than there were.
level_short : (d n : ℕ) (ts : List Signed) (a : Operand) (rest : List Signed) → level_at d n ts ≡ Ok (a, rest) → length rest ≤ length ts
level_short zero n ts a rest e = absurd (none_read n ts a rest e)
level_short (suc d) n ts a rest e = passed_shorter (level_at (suc d) n) (Stops n) (Is sign.Number) ts (level_at (suc d) n ts) a rest (((lows (suc d)).level refl n).lives.on ts) e

module _ (d : ℕ) where
  next_short : (xs : Arguments) (ts : List Signed) (ys : Arguments) (rest : List Signed) → next_rest (within d) xs ts ≡ Ok (ys, rest) → length rest ≤ length ts
  unfolding next_rest
  next_short xs ts ys rest e =
      let z = bound (level_at d whole ts) _ (ys, rest) e in
      let o = ok_same (Operands.next_argument xs z.0) ys z.1 rest z.3 in
      let s = level_short d whole ts z.0 z.1 z.2 in
      omega (arith, ap length o.1)

  -- A comma takes an argument more.
  pub arguments_on : (xs : Arguments) (ts us : List Signed) → after_first (is_sign sign.Comma) ts ≡ Some us → loop (comma_pick (within d)) xs ts ≡ bind (next_rest (within d) xs us) (loop (comma_pick (within d)))
  arguments_on xs ts us e = chain_on (is_sign sign.Comma) (next_rest (within d)) next_short xs ts us e

  pub arguments_closed : (xs : Arguments) (ts : List Signed) → after_first (is_sign sign.Comma) ts ≡ None → loop (comma_pick (within d)) xs ts ≡ closed xs ts
  arguments_closed xs ts e = chain_closed (is_sign sign.Comma) (next_rest (within d)) next_short xs ts e

  -- ---- Indexes.

  indexes_turn : (x : Element) (ts : List Signed) →
      elements (within d) (has_node d) (suc d) x ts ≡ turn (element_pick (within d) (has_node d) (suc d)) x ts (elements (within d) (has_node d) (suc d))
  indexes_turn x ts = loop_turn (element_pick (within d) (has_node d) (suc d)) (shorter (element_pick (within d) (has_node d) (suc d)) (Stops 1) Any (PrimaryLaws.element_rounds (within d) (has_node d) (lows d) (suc d))) x ts

  -- A bracket takes an index more, where what stands before it may go down by a node.
  pub elements_on : (x : Element) (ts us : List Signed) → after_first (is_sign sign.OpenBracket) ts ≡ Some us →
      elements (within d) (has_node d) (suc d) x ts
      ≡ bind (part_at (element_rest (within d) (Operands.element_operand x)) (has_node d && nat_lt x.height (suc d)) ts us) (elements (within d) (has_node d) (suc d))
  elements_on x [] us e = absurd cc
  elements_on x (t ∷ ts) us e =
      let f = front_case t ts us (is_sign sign.OpenBracket t) e in
      let read : Reading Signed Element = element_rest (within d) (Operands.element_operand x) in
      let on : Element → Reading Signed Element = elements (within d) (has_node d) (suc d) in
      let fits : Bool = has_node d && nat_lt x.height (suc d) in
      indexes_turn x (t ∷ ts) ∙ ap (λ b. round {T = Signed} {A = Element} (if b then (if fits then Take read else Refuse Limit) else Pass x) t ts on) f.0
      ∙ round_part read fits t ts on ∙ ap (λ vs. bind (part_at read fits (t ∷ ts) vs) on) f.1

  pub elements_closed : (x : Element) (ts : List Signed) → after_first (is_sign sign.OpenBracket) ts ≡ None → elements (within d) (has_node d) (suc d) x ts ≡ closed x ts
  elements_closed x [] e = indexes_turn x []
  elements_closed x (t ∷ ts) e =
      let read : Reading Signed Element = element_rest (within d) (Operands.element_operand x) in
      let fits : Bool = has_node d && nat_lt x.height (suc d) in
      indexes_turn x (t ∷ ts)
      ∙ ap (λ b. round {T = Signed} {A = Element} (if b then (if fits then Take read else Refuse Limit) else Pass x) t ts (elements (within d) (has_node d) (suc d))) (none_case ts (is_sign sign.OpenBracket t) e)

  -- ---- Operators.

  module _ (n : ℕ) where
    operators_turn : (a : Operand) (ts : List Signed) →
        loop (operator_pick (within d) (has_node d) (suc d) n) a ts ≡ turn (operator_pick (within d) (has_node d) (suc d) n) a ts (loop (operator_pick (within d) (has_node d) (suc d) n))
    operators_turn a ts = loop_turn (operator_pick (within d) (has_node d) (suc d) n) (shorter (operator_pick (within d) (has_node d) (suc d) n) (Stops (suc n)) (Stops n) (Laws.operator_rounds (within d) (has_node d) (lows d) (suc d) n)) a ts

    -- An operator takes its right side, where its left side may go down by a node.
    pub operators_on : (a : Operand) (ts us : List Signed) (op : BinaryOperator) → operator_after (suc n) ts ≡ Some (op, us) →
        loop (operator_pick (within d) (has_node d) (suc d) n) a ts
        ≡ bind (part_at (right_rest (within d) n op a) (has_node d && nat_lt a.height (suc d)) ts us) (loop (operator_pick (within d) (has_node d) (suc d) n))
    operators_on a [] us op e = absurd cc
    operators_on a (t ∷ ts) us op e =
        let f = operator_case (operator_at (suc n) (binary_of t.sign)) ts us op e in
        let read : Reading Signed Operand = right_rest (within d) n op a in
        let on : Operand → Reading Signed Operand = loop (operator_pick (within d) (has_node d) (suc d) n) in
        let fits : Bool = has_node d && nat_lt a.height (suc d) in
        operators_turn a (t ∷ ts) ∙ ap (λ o. round (operator_by (within d) (has_node d) (suc d) n a o) t ts on) f.0
        ∙ round_part read fits t ts on ∙ ap (λ vs. bind (part_at read fits (t ∷ ts) vs) on) f.1

    pub operators_closed : (a : Operand) (ts : List Signed) → operator_after (suc n) ts ≡ None → loop (operator_pick (within d) (has_node d) (suc d) n) a ts ≡ closed a ts
    operators_closed a [] e = operators_turn a []
    operators_closed a (t ∷ ts) e =
        operators_turn a (t ∷ ts)
        ∙ ap (λ o. round (operator_by (within d) (has_node d) (suc d) n a o) t ts (loop (operator_pick (within d) (has_node d) (suc d) n))) (no_operator_case (operator_at (suc n) (binary_of t.sign)) ts e)
