-- What is read has its tree by the grammar.
use Rattle.std.proofs.Common.{◌≡◌, ℕ, zero, suc, ◌<◌, ◌≤◌, Bool, true, false, List, [], ◌∷◌, refl, sym, ap, ◌∙◌, arith, subst}
use Rattle.std.specs.Prelude.{Ok, Option, None, Some, if◌then◌else◌, ◌==◌, ◌&&◌, nat_lt}
use Rattle.std.proofs.lemmas.Bool.{eqb-true, ltb-true}
use Rattle.nx_ctree.specs.declared.sign.Sign.{Sign}
use Rattle.nx_ctree.specs.declared.sign.Sign.TheVariants as sign
use Rattle.nx_ctree.specs.declared.sign.Signed.{Signed}
use Rattle.nx_ctree.specs.declared.program.Base.{Base}
use Rattle.nx_ctree.specs.declared.expression.PlaceKind.TheVariants as place
use Rattle.nx_ctree.specs.declared.expression.UnaryOperator.{UnaryOperator}
use Rattle.nx_ctree.specs.declared.expression.UnaryOperator.TheVariants as unary
use Rattle.nx_ctree.specs.declared.expression.StepOperator.{StepOperator}
use Rattle.nx_ctree.specs.declared.expression.StepOperator.TheVariants as step
use Rattle.nx_ctree.specs.declared.expression.BinaryOperator.{BinaryOperator}
use Rattle.nx_ctree.specs.declared.expression.AssignOperator.{AssignOperator}
use Rattle.nx_ctree.specs.Expressions.{expr, at, unary_of, step_of, binary_of, assign_of, written, whole, IsBase, IsStar, IsExpr, IsPlace}
use Rattle.nx_ctree.specs.Expressions as grammar
use Rattle.nx_grammar.specs.declared.kind.Kind.TheVariants.{Limit}
use Rattle.nx_grammar.specs.Reading.{Reading, Pick, Refuse, Pass, Take, picked, dispatch, done, expect, then_pick, loop}
use Rattle.nx_grammar.proofs.Results.{bound, ok_same}
use Rattle.nx_grammar.proofs.Loops.{shorter, loop_keeps}
use Rattle.nx_grammar.proofs.Thens.{picked_then}
use Rattle.nx_cexpr.specs.declared.operand.Tall.{Tall}
use Rattle.nx_cexpr.specs.declared.operand.Form.{Form}
use Rattle.nx_cexpr.specs.declared.operand.Form.TheVariants as form
use Rattle.nx_cexpr.specs.declared.operand.Target.TheVariants as target
use Rattle.nx_cexpr.specs.declared.operand.Operand.{Operand}
use Rattle.nx_cexpr.specs.declared.operand.Lvalue.{Lvalue}
use Rattle.nx_cexpr.specs.Signs.{is_sign, is_prefix, Stops, operator_at}
use Rattle.nx_cexpr.specs.Types.{begins_base, base_pick, star_at}
use Rattle.nx_cexpr.specs.Operands
use Rattle.nx_cexpr.specs.Operands.{expr_of, place_of}
use Rattle.nx_cexpr.specs.Reading.{Below, primary_pick, indexed, post, unary_rest, address_rest, before_rest, cast_rest, group_rest, group, size_of_name_rest, size_of_type_rest, size_of_pick, size_of_rest, prefix_pick, unary_pick, right_rest, operator_by, operator_pick, conditional_rest, conditional_pick, assign_rest, assign_by, assign_pick, level_rest, level_pick, has_node, within, level_at, expr_at}
use Rattle.nx_cexpr.specs.Laws.{WasThere}
use Rattle.nx_cexpr.proofs.SignLaws.{true_is, operator_found}
use Rattle.nx_cexpr.proofs.PrimaryLaws.{Lows, both, primary_passes, base_passes}
use Rattle.nx_cexpr.proofs.Laws.{lows, operator_rounds, level_then, level_at_passes, expr_then}
use Rattle.nx_cexpr.proofs.PrimarySound.{IsTarget, Found, moved, found_sign, if_took, base_found, star_sound, Sounds, found_value, found_call, paren_found, found_primary, found_indexed, raised, found_post, found_place}

module _ (low : Below) (fits : Bool) (law : Lows low fits) (d : ℕ) (sounds : Sounds low d) where
  -- ---- Unary expressions.

  unary_found : (t : Signed) (op : UnaryOperator) → unary_of t.sign ≡ Some op → (ts : List Signed) (a : Operand) (rest : List Signed) → Found 1 d ts a rest → IsTarget (t ∷ ts) t.line (Operands.unary_form op (expr_of a)) (suc a.height) rest → IsExpr 1 (t ∷ ts) (expr t.line (Operands.form_kind (Operands.unary_form op (expr_of a)))) (suc a.height) rest → Found 1 (suc d) (t ∷ ts) (Operands.unary_operand t op a) rest
  unary_found t op e ts a rest f w x = record { has = x; place = w; within = omega (arith, f.within) }

  unary_by : (t : Signed) (op : UnaryOperator) (s : Sign) → t.sign ≡ s → unary_of s ≡ Some op → (op ≡ unary.Deref → t.sign ≡ sign.Star) → (ts : List Signed) (a : Operand) (rest : List Signed) → Found 1 d ts a rest → Found 1 (suc d) (t ∷ ts) (Operands.unary_operand t op a) rest
  unary_by t unary.Minus s e u g ts a rest f = unary_found t unary.Minus (ap unary_of e ∙ u) ts a rest f tt (grammar.Unary t ts rest unary.Minus (expr_of a) a.height (ap unary_of e ∙ u) f.has)
  unary_by t unary.Not s e u g ts a rest f = unary_found t unary.Not (ap unary_of e ∙ u) ts a rest f tt (grammar.Unary t ts rest unary.Not (expr_of a) a.height (ap unary_of e ∙ u) f.has)
  unary_by t unary.Complement s e u g ts a rest f = unary_found t unary.Complement (ap unary_of e ∙ u) ts a rest f tt (grammar.Unary t ts rest unary.Complement (expr_of a) a.height (ap unary_of e ∙ u) f.has)
  unary_by t unary.Deref s e u g ts a rest f =
      unary_found t unary.Deref (ap unary_of e ∙ u) ts a rest f (grammar.DerefPlace t ts rest (expr_of a) a.height (g refl) f.has) (grammar.Unary t ts rest unary.Deref (expr_of a) a.height (ap unary_of e ∙ u) f.has)

  found_unary : (t : Signed) (op : UnaryOperator) (s : Sign) → t.sign ≡ s → unary_of s ≡ Some op → (op ≡ unary.Deref → t.sign ≡ sign.Star) → (ts : List Signed) (x : Operand) (rest : List Signed) → unary_rest low op t ts ≡ Ok (x, rest) → Found 1 (suc d) (t ∷ ts) x rest
  unfolding unary_rest
  found_unary t op s e u g ts x rest h =
      let a = bound (dispatch (low.level 1) ts) _ (x, rest) h in
      found_value 1 (suc d) (t ∷ ts) (Operands.unary_operand t op a.0) x a.1 rest a.3 (unary_by t op s e u g ts a.0 a.1 (sounds.level 1 (omega arith) ts a.0 a.1 a.2))

  found_address : (t : Signed) → t.sign ≡ sign.BitAnd → (ts : List Signed) (x : Operand) (rest : List Signed) → address_rest low fits (suc d) t ts ≡ Ok (x, rest) → Found 1 (suc d) (t ∷ ts) x rest
  unfolding address_rest
  found_address t e ts x rest h =
      let a = bound (dispatch (low.level 0) ts) _ (x, rest) h in
      let y = bound (indexed low fits (suc d) a.0 a.1) _ (x, rest) a.3 in
      let f = sounds.level 0 (omega arith) ts a.0 a.1 a.2 in
      let g = (found_indexed low fits law d sounds) ts a.0 a.1 y.0 y.1 f.has f.within y.2 in
      found_value 1 (suc d) (t ∷ ts) (Operands.address t y.0) x y.1 rest y.3 (record { has = g.address t e; place = tt; within = g.within })

  found_before : (t : Signed) (op : StepOperator) → step_of t.sign ≡ Some op → (ts : List Signed) (x : Operand) (rest : List Signed) → before_rest low op t ts ≡ Ok (x, rest) → Found 1 (suc d) (t ∷ ts) x rest
  unfolding before_rest
  found_before t op e ts x rest h =
      let p = bound (dispatch low.place ts) _ (x, rest) h in
      let f = sounds.place ts p.0 p.1 p.2 in
      found_value 1 (suc d) (t ∷ ts) (Operands.before t op p.0) x p.1 rest p.3 (record { has = grammar.Before t ts p.1 op (place_of p.0) p.0.height e f.has; place = tt; within = omega (arith, f.within) })

  found_cast : (t : Signed) → t.sign ≡ sign.OpenParen → (start us : List Signed) (b : Base) → IsBase start b us → (x : Operand) (rest : List Signed) → cast_rest low t b us ≡ Ok (x, rest) → Found 1 (suc d) (t ∷ start) x rest
  unfolding cast_rest
  found_cast t e start us b w x rest h =
      let s = bound (star_at us) _ (x, rest) h in
      let c = bound (expect (is_sign sign.CloseParen) s.1) _ (x, rest) s.3 in
      let k = found_sign sign.CloseParen s.1 c.0 c.1 c.2 in
      let a = bound (dispatch (low.level 1) c.1) _ (x, rest) c.3 in
      let f = sounds.level 1 (omega arith) c.1 a.0 a.1 a.2 in
      found_value 1 (suc d) (t ∷ start) (Operands.cast t b s.0 a.0) x a.1 rest a.3
      (record {
        has = grammar.Cast t c.0 start us c.1 a.1 b s.0 (expr_of a.0) a.0.height e w (subst (λ z. IsStar us s.0 z) k.0 (star_sound us s.0 s.1 s.2)) k.1 f.has;
        place = tt;
        within = omega (arith, f.within);
      })

  found_group_rest : (t : Signed) → t.sign ≡ sign.OpenParen → (start : List Signed) (a : Operand) (us : List Signed) (x : Operand) (rest : List Signed) → Found 13 d start a us → group_rest low fits (suc d) t a us ≡ Ok (x, rest) → Found 1 (suc d) (t ∷ start) x rest
  unfolding group_rest
  found_group_rest t e start a us x rest f h =
      let c = bound (expect (is_sign sign.CloseParen) us) _ (x, rest) h in
      let k = found_sign sign.CloseParen us c.0 c.1 c.2 in
      (found_post low fits law d sounds) (t ∷ start) (Operands.paren t a) c.1 x rest ((paren_found low fits law d sounds) t c.0 e k.1 start a c.1 (subst (λ z. Found 13 d start a z) k.0 f)) c.3

  group_case : (b : Bool) (t : Signed) → t.sign ≡ sign.OpenParen → (u : Signed) (us : List Signed) (x : Operand) (rest : List Signed) →
      picked (if b then then_pick (base_pick u) (cast_rest low t) else then_pick (low.level whole u) (group_rest low fits (suc d) t)) u us ≡ Ok (x, rest) → Found 1 (suc d) (t ∷ u ∷ us) x rest
  group_case true t e u us x rest h =
      let b = bound (picked (base_pick u) u us) (cast_rest low t) (x, rest) (sym (picked_then (base_pick u) (cast_rest low t) u us (base_passes u)) ∙ h) in
      found_cast t e (u ∷ us) b.1 b.0 (base_found u us b.0 b.1 b.2) x rest b.3
  group_case false t e u us x rest h =
      let a = bound (picked (low.level whole u) u us) (group_rest low fits (suc d) t) (x, rest) (sym (picked_then (low.level whole u) (group_rest low fits (suc d) t) u us (sounds.passes whole u)) ∙ h) in
      found_group_rest t e (u ∷ us) a.0 a.1 x rest (sounds.level 13 (omega arith) (u ∷ us) a.0 a.1 a.2) a.3

  found_group : (t : Signed) → t.sign ≡ sign.OpenParen → (ts : List Signed) (x : Operand) (rest : List Signed) → group low fits (suc d) t ts ≡ Ok (x, rest) → Found 1 (suc d) (t ∷ ts) x rest
  unfolding group
  found_group t e [] x rest h = absurd cc
  found_group t e (u ∷ us) x rest h = group_case (begins_base u.sign) t e u us x rest h

  -- ---- Sizes.

  found_size_name : (t o n : Signed) → t.sign ≡ sign.SizeOf → o.sign ≡ sign.OpenParen → n.sign ≡ sign.Name → (ts : List Signed) (x : Operand) (rest : List Signed) → size_of_name_rest t n ts ≡ Ok (x, rest) → Found 1 (suc d) (t ∷ o ∷ n ∷ ts) x rest
  unfolding size_of_name_rest
  found_size_name t o n e g k ts x rest h =
      let c = bound (expect (is_sign sign.CloseParen) ts) _ (x, rest) h in
      let j = found_sign sign.CloseParen ts c.0 c.1 c.2 in
      found_value 1 (suc d) (t ∷ o ∷ n ∷ ts) (Operands.size_of_name t n) x c.1 rest c.3
      (subst (λ z. Found 1 (suc d) (t ∷ o ∷ n ∷ z) (Operands.size_of_name t n) c.1) (sym j.0) (record { has = grammar.SizeOfName t o n c.0 c.1 e g k j.1; place = tt; within = omega arith }))

  found_size_type : (t o : Signed) → t.sign ≡ sign.SizeOf → o.sign ≡ sign.OpenParen → (start us : List Signed) (b : Base) → IsBase start b us → (x : Operand) (rest : List Signed) → size_of_type_rest t b us ≡ Ok (x, rest) → Found 1 (suc d) (t ∷ o ∷ start) x rest
  unfolding size_of_type_rest
  found_size_type t o e g start us b w x rest h =
      let c = bound (expect (is_sign sign.CloseParen) us) _ (x, rest) h in
      let j = found_sign sign.CloseParen us c.0 c.1 c.2 in
      found_value 1 (suc d) (t ∷ o ∷ start) (Operands.size_of_type t b) x c.1 rest c.3
      (record { has = grammar.SizeOfType t o c.0 start c.1 b e g (subst (λ z. IsBase start b z) j.0 w) j.1; place = tt; within = omega arith })

  size_case : (b : Bool) (t o : Signed) → t.sign ≡ sign.SizeOf → o.sign ≡ sign.OpenParen → (u : Signed) → is_sign sign.Name u ≡ b → (us : List Signed) (x : Operand) (rest : List Signed) →
      picked (if b then Take (size_of_name_rest t u) else then_pick (base_pick u) (size_of_type_rest t)) u us ≡ Ok (x, rest) → Found 1 (suc d) (t ∷ o ∷ u ∷ us) x rest
  size_case true t o e g u k us x rest h = found_size_name t o u e g (true_is sign.Name u k) us x rest h
  size_case false t o e g u k us x rest h =
      let b = bound (picked (base_pick u) u us) (size_of_type_rest t) (x, rest) (sym (picked_then (base_pick u) (size_of_type_rest t) u us (base_passes u)) ∙ h) in
      found_size_type t o e g (u ∷ us) b.1 b.0 (base_found u us b.0 b.1 b.2) x rest b.3

  size_part : (t o : Signed) → t.sign ≡ sign.SizeOf → o.sign ≡ sign.OpenParen → (us : List Signed) (x : Operand) (rest : List Signed) → dispatch (size_of_pick t) us ≡ Ok (x, rest) → Found 1 (suc d) (t ∷ o ∷ us) x rest
  size_part t o e g [] x rest h = absurd cc
  size_part t o e g (u ∷ us) x rest h = size_case (is_sign sign.Name u) t o e g u refl us x rest h

  found_size : (t : Signed) → t.sign ≡ sign.SizeOf → (ts : List Signed) (x : Operand) (rest : List Signed) → size_of_rest t ts ≡ Ok (x, rest) → Found 1 (suc d) (t ∷ ts) x rest
  unfolding size_of_rest
  found_size t e ts x rest h =
      let o = bound (expect (is_sign sign.OpenParen) ts) _ (x, rest) h in
      let k = found_sign sign.OpenParen ts o.0 o.1 o.2 in
      subst (λ z. Found 1 (suc d) (t ∷ z) x rest) (sym k.0) (size_part t o.0 e k.1 o.1 x rest o.3)

  prefix_case : (t : Signed) (s : Sign) → t.sign ≡ s → (ts : List Signed) (x : Operand) (rest : List Signed) → picked (prefix_pick low fits (suc d) t s) t ts ≡ Ok (x, rest) → Found 1 (suc d) (t ∷ ts) x rest
  prefix_case t sign.Minus e ts x rest h = found_unary t unary.Minus sign.Minus e refl (λ k. absurd cc) ts x rest (if_took fits Limit (unary_rest low unary.Minus t) t ts x rest h).1
  prefix_case t sign.Not e ts x rest h = found_unary t unary.Not sign.Not e refl (λ k. absurd cc) ts x rest (if_took fits Limit (unary_rest low unary.Not t) t ts x rest h).1
  prefix_case t sign.Complement e ts x rest h = found_unary t unary.Complement sign.Complement e refl (λ k. absurd cc) ts x rest (if_took fits Limit (unary_rest low unary.Complement t) t ts x rest h).1
  prefix_case t sign.Star e ts x rest h = found_unary t unary.Deref sign.Star e refl (λ k. e) ts x rest (if_took fits Limit (unary_rest low unary.Deref t) t ts x rest h).1
  prefix_case t sign.BitAnd e ts x rest h = found_address t e ts x rest (if_took fits Limit (address_rest low fits (suc d) t) t ts x rest h).1
  prefix_case t sign.Increment e ts x rest h = found_before t step.Increment (ap step_of e) ts x rest (if_took fits Limit (before_rest low step.Increment t) t ts x rest h).1
  prefix_case t sign.Decrement e ts x rest h = found_before t step.Decrement (ap step_of e) ts x rest (if_took fits Limit (before_rest low step.Decrement t) t ts x rest h).1
  prefix_case t sign.SizeOf e ts x rest h = found_size t e ts x rest h
  prefix_case t sign.OpenParen e ts x rest h = found_group t e ts x rest (if_took fits Limit (group low fits (suc d) t) t ts x rest h).1
  prefix_case t _ e ts x rest h = absurd cc

  unary_case : (b : Bool) (t : Signed) (ts : List Signed) (x : Operand) (rest : List Signed) → picked (if b then prefix_pick low fits (suc d) t t.sign else then_pick (primary_pick low fits t t.sign) (post low fits (suc d))) t ts ≡ Ok (x, rest) → Found 1 (suc d) (t ∷ ts) x rest
  unary_case true t ts x rest h = prefix_case t t.sign refl ts x rest h
  unary_case false t ts x rest h =
      let a = bound (picked (primary_pick low fits t t.sign) t ts) (post low fits (suc d)) (x, rest) (sym (picked_then (primary_pick low fits t t.sign) (post low fits (suc d)) t ts (primary_passes low fits law t t.sign)) ∙ h) in
      (found_post low fits law d sounds) (t ∷ ts) a.0 a.1 x rest ((found_primary low fits law d sounds) (t ∷ ts) a.0 a.1 a.2) a.3

  found_unary_at : (ts : List Signed) (x : Operand) (rest : List Signed) → dispatch (unary_pick low fits (suc d)) ts ≡ Ok (x, rest) → Found 1 (suc d) ts x rest
  found_unary_at [] x rest h = absurd cc
  found_unary_at (t ∷ ts) x rest h = unary_case (is_prefix t.sign) t ts x rest h

  -- ---- Operators between operands.

  pub operator_taken : (n : ℕ) (a : Operand) (o : Option BinaryOperator) (q : Reading Signed Operand) → operator_by low fits (suc d) n a o ≡ Take q →
      (op : BinaryOperator) × (o ≡ Some op) × ((fits && nat_lt a.height (suc d)) ≡ true) × (right_rest low n op a ≡ q)
  operator_taken n a None q e = absurd cc
  operator_taken n a (Some op) q e = let j = by (fits && nat_lt a.height (suc d)) e in (op, refl, j.0, j.1)
    where
      by : (b : Bool) → (let z : Pick Signed Operand = if b then Take (right_rest low n op a) else Refuse Limit in z) ≡ Take q → (b ≡ true) × (right_rest low n op a ≡ q)
      by true k = (refl, cc)
      by false k = absurd cc

  operator_passed : (n : ℕ) (a b : Operand) (o : Option BinaryOperator) → operator_by low fits (suc d) n a o ≡ Pass b → a ≡ b
  operator_passed n a b None e = cc
  operator_passed n a b (Some op) e = absurd (by (fits && nat_lt a.height (suc d)) e)
    where
      by : (c : Bool) → (let z : Pick Signed Operand = if c then Take (right_rest low n op a) else Refuse Limit in z) ≡ Pass b → ⊥
      by true k = cc
      by false k = cc

  right_found : (n : ℕ) → n ≤ 13 → (start : List Signed) (t : Signed) (op : BinaryOperator) → binary_of t.sign ≡ Some (op, suc n) → (us : List Signed) (a x : Operand) (rest : List Signed) → a.height ≤ d → Found (suc n) (suc d) start a (t ∷ us) → right_rest low n op a us ≡ Ok (x, rest) → Found (suc n) (suc d) start x rest
  unfolding right_rest
  right_found n m start t op e us a x rest l f h =
      let b = bound (dispatch (low.level n) us) _ (x, rest) h in
      let g = sounds.level n m us b.0 b.1 b.2 in
      found_value (suc n) (suc d) start (Operands.binary op a b.0) x b.1 rest b.3
      (record { has = grammar.Binary n t start us b.1 op (expr_of a) (expr_of b.0) a.height b.0.height e f.has g.has; place = tt; within = omega (arith, g.within) })

  found_operators : (n : ℕ) → n ≤ 12 → (start : List Signed) (a : Operand) (us : List Signed) (x : Operand) (rest : List Signed) → Found (suc n) (suc d) start a us → loop (operator_pick low fits (suc d) n) a us ≡ Ok (x, rest) → Found (suc n) (suc d) start x rest
  found_operators n m start a us x rest f h =
      loop_keeps (operator_pick low fits (suc d) n) (shorter (operator_pick low fits (suc d) n) (Stops (suc n)) (Stops n) (operator_rounds low fits law (suc d) n)) (λ z r. Found (suc n) (suc d) start z r) (λ z r. Found (suc n) (suc d) start z r)
      (λ z t vs q w mid p g v.
      let j = operator_taken n z (operator_at (suc n) (binary_of t.sign)) q p in
      let l : z.height < suc d = ltb-true z.height (suc d) (both fits (nat_lt z.height (suc d)) j.2).1 in
      right_found n (omega (arith, m)) start t j.0 (operator_found (suc n) (binary_of t.sign) j.0 j.1) vs z w mid (omega arith) v (ap (λ (r : Reading Signed Operand). r vs) j.3 ∙ g))
      (λ z w t vs p v. subst (λ s. Found (suc n) (suc d) start s (t ∷ vs)) (operator_passed n z w (operator_at (suc n) (binary_of t.sign)) p) v)
      a us x rest h f

  -- ---- Conditional expressions and assignments.

  found_conditional : (start : List Signed) (q : Signed) → q.sign ≡ sign.Question → (us : List Signed) (a x : Operand) (rest : List Signed) → a.height ≤ d → Found 11 (suc d) start a (q ∷ us) → conditional_rest low a us ≡ Ok (x, rest) → Found 12 (suc d) start x rest
  unfolding conditional_rest
  found_conditional start q e us a x rest l f h =
      let b = bound (dispatch (low.level whole) us) _ (x, rest) h in
      let c = bound (expect (is_sign sign.Colon) b.1) _ (x, rest) b.3 in
      let k = found_sign sign.Colon b.1 c.0 c.1 c.2 in
      let m = bound (dispatch (low.level 12) c.1) _ (x, rest) c.3 in
      let g = sounds.level 13 (omega arith) us b.0 b.1 b.2 in
      let j = sounds.level 12 (omega arith) c.1 m.0 m.1 m.2 in
      found_value 12 (suc d) start (Operands.conditional a b.0 m.0) x m.1 rest m.3
      (record {
        has = grammar.Conditional q c.0 start us c.1 m.1 (expr_of a) (expr_of b.0) (expr_of m.0) a.height b.0.height m.0.height f.has e (subst (λ z. IsExpr 13 us (expr_of b.0) b.0.height z) k.0 g.has) k.1 j.has;
        place = tt;
        within = omega (arith, g.within, j.within);
      })

  conditional_case : (b c : Bool) → (start : List Signed) (a : Operand) (t : Signed) → is_sign sign.Question t ≡ b → (fits && nat_lt a.height (suc d)) ≡ c → (us : List Signed) (x : Operand) (rest : List Signed) → Found 11 (suc d) start a (t ∷ us) →
      picked (if b then (if c then Take (conditional_rest low a) else Refuse Limit) else Pass a) t us ≡ Ok (x, rest) → Found 12 (suc d) start x rest
  conditional_case true c start a t e g us x rest f h =
      let j = if_took c Limit (conditional_rest low a) t us x rest h in
      let l : a.height < suc d = ltb-true a.height (suc d) (both fits (nat_lt a.height (suc d)) (g ∙ j.0)).1 in
      found_conditional start t (true_is sign.Question t e) us a x rest (omega arith) f j.1
  conditional_case false c start a t e g us x rest f h = found_value 12 (suc d) start a x (t ∷ us) rest h ((raised low fits law d sounds) 11 (omega arith) (suc d) start a (t ∷ us) f)

  found_conditional_at : (start : List Signed) (a : Operand) (us : List Signed) (x : Operand) (rest : List Signed) → Found 11 (suc d) start a us → dispatch (conditional_pick low fits (suc d) a) us ≡ Ok (x, rest) → Found 12 (suc d) start x rest
  found_conditional_at start a [] x rest f h = absurd cc
  found_conditional_at start a (t ∷ us) x rest f h = conditional_case (is_sign sign.Question t) (fits && nat_lt a.height (suc d)) start a t refl refl us x rest f h

  target_place : (ts : List Signed) (a : Operand) (p : Lvalue) (rest : List Signed) → Operands.lvalue_of a ≡ Some p → IsTarget ts a.line a.form a.height rest → IsPlace ts (place_of p) p.height rest
  target_place ts a p rest e h = by a.form e h
    where
      by : (f : Form) → Operands.lvalue_by a.line f a.height ≡ Some p → IsTarget ts a.line f a.height rest → IsPlace ts (place_of p) p.height rest
      by (form.Target (target.Name name)) k w =
          let q : Lvalue = record { line = a.line; target = target.Name name; height = a.height } in
          let s : q ≡ p = cc in
          subst (λ (z : Lvalue). IsPlace ts (place_of z) z.height rest) s (grammar.PostPlace ts rest (at a.line (place.Name name)) a.height w)
      by (form.Target (target.Index b i)) k w =
          let q : Lvalue = record { line = a.line; target = target.Index b i; height = a.height } in
          let s : q ≡ p = cc in
          subst (λ (z : Lvalue). IsPlace ts (place_of z) z.height rest) s (grammar.PostPlace ts rest (at a.line (place.Index b i)) a.height w)
      by (form.Target (target.Deref b)) k w =
          let q : Lvalue = record { line = a.line; target = target.Deref b; height = a.height } in
          let s : q ≡ p = cc in
          subst (λ (z : Lvalue). IsPlace ts (place_of z) z.height rest) s w
      by (form.Value v) k w = absurd cc

  assign_found : (start : List Signed) (t : Signed) (op : AssignOperator) → assign_of t.sign ≡ Some op → (us : List Signed) (p : Lvalue) (x : Operand) (rest : List Signed) → written op (Operands.place_kind p.target) p.height ≤ d → IsPlace start (place_of p) p.height (t ∷ us) → assign_rest low op p us ≡ Ok (x, rest) → Found 13 (suc d) start x rest
  unfolding assign_rest
  assign_found start t op e us p x rest l f h =
      let b = bound (dispatch (low.level whole) us) _ (x, rest) h in
      let g = sounds.level 13 (omega arith) us b.0 b.1 b.2 in
      found_value 13 (suc d) start (Operands.assign op p b.0) x b.1 rest b.3
      (record { has = grammar.Assign t start us b.1 op (place_of p) (expr_of b.0) p.height b.0.height f e g.has; place = tt; within = omega (arith, g.within) })

  assign_case : (start : List Signed) (a : Operand) (o : Option AssignOperator) (p : Option Lvalue) → Operands.lvalue_of a ≡ p → (t : Signed) → assign_of t.sign ≡ o → (us : List Signed) (x : Operand) (rest : List Signed) → Found 12 (suc d) start a (t ∷ us) →
      picked (assign_by low fits (suc d) a o p) t us ≡ Ok (x, rest) → Found 13 (suc d) start x rest
  assign_case start a None p q t e us x rest f h = found_value 13 (suc d) start a x (t ∷ us) rest h ((raised low fits law d sounds) 12 (omega arith) (suc d) start a (t ∷ us) f)
  assign_case start a (Some op) None q t e us x rest f h = absurd cc
  assign_case start a (Some op) (Some p) q t e us x rest f h =
      let n = written op (Operands.place_kind p.target) p.height in
      let j = if_took (fits && nat_lt n (suc d)) Limit (assign_rest low op p) t us x rest h in
      let l : n < suc d = ltb-true n (suc d) (both fits (nat_lt n (suc d)) j.0).1 in
      assign_found start t op e us p x rest (omega arith) (target_place start a p (t ∷ us) q f.place) j.1

  found_assign : (start : List Signed) (a : Operand) (us : List Signed) (x : Operand) (rest : List Signed) → Found 12 (suc d) start a us → dispatch (assign_pick low fits (suc d) a) us ≡ Ok (x, rest) → Found 13 (suc d) start x rest
  found_assign start a [] x rest f h = absurd cc
  found_assign start a (t ∷ us) x rest f h = assign_case start a (assign_of t.sign) (Operands.lvalue_of a) refl t refl us x rest f h

  -- ---- Levels.

  rest_case : (n : ℕ) → n ≤ 12 → (b c : Bool) → (n == 11) ≡ b → (n == 12) ≡ c → (start : List Signed) (a : Operand) (us : List Signed) (x : Operand) (rest : List Signed) → Found n (suc d) start a us →
      (if b then dispatch (conditional_pick low fits (suc d) a) else if c then dispatch (assign_pick low fits (suc d) a) else loop (operator_pick low fits (suc d) n) a) us ≡ Ok (x, rest) → Found (suc n) (suc d) start x rest
  rest_case n m true c e g start a us x rest f h =
      let s : n ≡ 11 = eqb-true n 11 e in
      subst (λ k. Found (suc k) (suc d) start x rest) (sym s) (found_conditional_at start a us x rest (subst (λ k. Found k (suc d) start a us) s f) h)
  rest_case n m false true e g start a us x rest f h =
      let s : n ≡ 12 = eqb-true n 12 g in
      subst (λ k. Found (suc k) (suc d) start x rest) (sym s) (found_assign start a us x rest (subst (λ k. Found k (suc d) start a us) s f) h)
  rest_case n m false false e g start a us x rest f h = found_operators n m start a us x rest ((raised low fits law d sounds) n (omega (arith, m)) (suc d) start a us f) h

  found_rest : (n : ℕ) → n ≤ 12 → (start : List Signed) (a : Operand) (us : List Signed) (x : Operand) (rest : List Signed) → Found n (suc d) start a us → level_rest low fits (suc d) n a us ≡ Ok (x, rest) → Found (suc n) (suc d) start x rest
  unfolding level_rest
  found_rest n m start a us x rest f h = rest_case n m (n == 11) (n == 12) refl refl start a us x rest f h

  pub level_sound : (n : ℕ) → n ≤ 13 → (ts : List Signed) (x : Operand) (rest : List Signed) → dispatch (level_pick low fits (suc d) n) ts ≡ Ok (x, rest) → Found n (suc d) ts x rest
  unfolding level_pick
  level_sound zero m ts x rest h = (found_primary low fits law d sounds) ts x rest h
  level_sound (suc zero) m ts x rest h = found_unary_at ts x rest h
  level_sound (suc (suc n)) m ts x rest h =
      let a = bound (dispatch (level_pick low fits (suc d) (suc n)) ts) (level_rest low fits (suc d) (suc n)) (x, rest) (sym (level_then low fits law (suc d) n ts) ∙ h) in
      found_rest (suc n) (omega (arith, m)) ts a.0 a.1 x rest (level_sound (suc n) (omega (arith, m)) ts a.0 a.1 a.2) a.3

-- At each limit.
none_read : (n : ℕ) (ts : List Signed) (x : Operand) (rest : List Signed) → level_at zero n ts ≡ Ok (x, rest) → ⊥
unfolding within
none_read n [] x rest h = cc
none_read n (t ∷ ts) x rest h = cc

none_placed : (ts : List Signed) (p : Lvalue) (rest : List Signed) → dispatch (within zero).place ts ≡ Ok (p, rest) → ⊥
unfolding within
none_placed [] p rest h = cc
none_placed (t ∷ ts) p rest h = cc

none_called : (t : Signed) (ts : List Signed) (x : Operand) (rest : List Signed) → (within zero).call t ts ≡ Ok (x, rest) → ⊥
unfolding within
none_called t [] x rest h = cc
none_called t (u ∷ ts) x rest h = cc

one_fits : (d : ℕ) → has_node d ≡ true → 1 ≤ d
one_fits zero e = absurd cc
one_fits (suc d) e = omega arith

pub sounds : (d : ℕ) → Sounds (within d) d
unfolding within
sounds zero = record {
  level = λ n m ts x rest h. absurd (none_read n ts x rest h);
  passes = λ n t. level_at_passes zero n t;
  place = λ ts p rest h. absurd (none_placed ts p rest h);
  call = λ t o e g ts x rest h. absurd (none_called t ts x rest h);
}
sounds (suc d) = record {
  level = λ n m ts x rest h. level_sound (within d) (has_node d) (lows d) d (sounds d) n m ts x rest h;
  passes = λ n t. level_at_passes (suc d) n t;
  place = λ ts p rest h. found_place (within d) (has_node d) (lows d) d (sounds d) (one_fits d) ts p rest h;
  call = λ t o e g ts x rest h. found_call (within d) (has_node d) (lows d) d (sounds d) t o e g ts x rest h;
}

-- ---- Whole expressions.

pub expr_sound : (d : ℕ) (ts : List Signed) (x : Tall) (rest : List Signed) → expr_at d ts ≡ Ok (x, rest) → WasThere d ts x rest
expr_sound d ts x rest h =
    let a = bound (level_at d whole ts) (λ y. done (Operands.tall y)) (x, rest) (sym (expr_then d ts) ∙ h) in
    let f = (sounds d).level 13 (omega arith) ts a.0 a.1 a.2 in
    moved (λ z r. WasThere d ts z r) (Operands.tall a.0) x a.1 rest (ok_same (Operands.tall a.0) x a.1 rest a.3) (record { has = f.has; within = f.within })
