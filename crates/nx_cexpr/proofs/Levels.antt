-- From one level of expressions to the next.
use Rattle.std.proofs.Common.{◌≡◌, ℕ, suc, ◌<◌, Bool, true, false, List, ◌∷◌, refl, ap, ◌∙◌, arith, subst}
use Rattle.std.specs.Prelude.{Ok, Some, if◌then◌else◌, ◌==◌}
use Rattle.std.proofs.lemmas.Bool.{eqb-true, ne_eqb, lt-ltb}
use Rattle.nx_ctree.specs.declared.sign.Signed.{Signed}
use Rattle.nx_ctree.specs.declared.expression.BinaryOperator.{BinaryOperator}
use Rattle.nx_ctree.specs.Expressions.{binary_of}
use Rattle.nx_grammar.specs.Reading.{dispatch, bind, loop}
use Rattle.nx_grammar.specs.Lawful.{Heads}
use Rattle.nx_grammar.proofs.Loops.{shorter, loop_takes}
use Rattle.nx_grammar.proofs.LoopLaws.{loop_stops}
use Rattle.nx_cexpr.specs.declared.operand.Operand.{Operand}
use Rattle.nx_cexpr.specs.Signs.{Stops}
use Rattle.nx_cexpr.specs.Reading.{Below, right_rest, operator_by, operator_pick, conditional_pick, assign_pick, level_rest, level_pick}
use Rattle.nx_cexpr.proofs.SignLaws.{operator_on}
use Rattle.nx_cexpr.proofs.Laws
use Rattle.nx_cexpr.proofs.PrimaryLaws.{Lows}

module _ (low : Below) (fits : Bool) (law : Lows low fits) (d : ℕ) where
  -- What was read of a level goes on as one of the next.
  pub level_step : (n : ℕ) (ts : List Signed) (a : Operand) (rest : List Signed) → dispatch (level_pick low fits d (suc n)) ts ≡ Ok (a, rest) → dispatch (level_pick low fits d (suc (suc n))) ts ≡ level_rest low fits d (suc n) a rest
  level_step n ts a rest e = Laws.level_then low fits law d n ts ∙ ap (λ o. bind o (level_rest low fits d (suc n))) e

  rest_case : (n : ℕ) (b c : Bool) → (n == 11) ≡ b → (n == 12) ≡ c → (a : Operand) (r : List Signed) → Heads (Stops (suc n)) r →
      (if b then dispatch (conditional_pick low fits d a) else if c then dispatch (assign_pick low fits d a) else loop (operator_pick low fits d n) a) r ≡ Ok (a, r)
  rest_case n true c e g a r h = Laws.conditional_ends low fits law d a r (subst (λ k. Heads (Stops (suc k)) r) (eqb-true n 11 e) h)
  rest_case n false true e g a r h = Laws.assign_ends low fits law d a r (subst (λ k. Heads (Stops (suc k)) r) (eqb-true n 12 g) h)
  rest_case n false false e g a r h = loop_stops (operator_pick low fits d n) (Stops (suc n)) (Stops n) (Laws.operator_rounds low fits law d n) a r h

  -- At a token that stops the next level, nothing is added.
  pub rest_stops : (n : ℕ) (a : Operand) (r : List Signed) → Heads (Stops (suc n)) r → level_rest low fits d n a r ≡ Ok (a, r)
  unfolding level_rest
  rest_stops n a r h = rest_case n (n == 11) (n == 12) refl refl a r h

  -- So an expression of a level is one of the next.
  pub level_up : (n : ℕ) (ts : List Signed) (a : Operand) (rest : List Signed) → dispatch (level_pick low fits d (suc n)) ts ≡ Ok (a, rest) → Heads (Stops (suc (suc n))) rest → dispatch (level_pick low fits d (suc (suc n))) ts ≡ Ok (a, rest)
  level_up n ts a rest e h = level_step n ts a rest e ∙ rest_stops (suc n) a rest h

  -- The levels below 11 are chains of operators.
  pub rest_is_loop : (n : ℕ) (a : Operand) (r : List Signed) → n < 11 → level_rest low fits d n a r ≡ loop (operator_pick low fits d n) a r
  unfolding level_rest
  rest_is_loop n a r l = rw (ne_eqb n 11 (λ e. absurd (omega (arith, l, e))), ne_eqb n 12 (λ e. absurd (omega (arith, l, e)))) refl

  -- An operator takes its right side, and the chain goes on from there.
  pub chain_on : (n : ℕ) (t : Signed) (op : BinaryOperator) → binary_of t.sign ≡ Some (op, suc n) → fits ≡ true → (a : Operand) → a.height < d → (us : List Signed) (b : Operand) (rest : List Signed) → right_rest low n op a us ≡ Ok (b, rest) →
      loop (operator_pick low fits d n) a (t ∷ us) ≡ loop (operator_pick low fits d n) b rest
  chain_on n t op e f a l us b rest h =
      loop_takes (operator_pick low fits d n) (shorter (operator_pick low fits d n) (Stops (suc n)) (Stops n) (Laws.operator_rounds low fits law d n)) a t us (right_rest low n op a) (Ok (b, rest))
      (ap (operator_by low fits d n a) (operator_on (suc n) (binary_of t.sign) op e) ∙ rw (f, lt-ltb a.height d l) refl) h
