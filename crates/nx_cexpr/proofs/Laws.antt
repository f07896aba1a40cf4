-- The laws of reading expressions of each level.
use Rattle.std.proofs.Common.{◌≡◌, ℕ, zero, suc, Bool, true, false, List, [], ◌∷◌, refl, sym, ap, ◌∙◌, arith, subst, lit<}
use Rattle.std.specs.Prelude.{Ok, Option, None, Some, if◌then◌else◌, ◌==◌, ◌&&◌, nat_lt}
use Rattle.std.proofs.lemmas.Bool.{eqb-true}
use Rattle.nx_ctree.specs.declared.sign.Sign.{Sign}
use Rattle.nx_ctree.specs.declared.sign.Sign.TheVariants as sign
use Rattle.nx_ctree.specs.declared.sign.Signed.{Signed}
use Rattle.nx_ctree.specs.declared.program.Base.{Base}
use Rattle.nx_ctree.specs.declared.program.Base.TheVariants as base
use Rattle.nx_ctree.specs.declared.expression.UnaryOperator.{UnaryOperator}
use Rattle.nx_ctree.specs.declared.expression.UnaryOperator.TheVariants as unary
use Rattle.nx_ctree.specs.declared.expression.StepOperator.{StepOperator}
use Rattle.nx_ctree.specs.declared.expression.StepOperator.TheVariants as step
use Rattle.nx_ctree.specs.declared.expression.BinaryOperator.{BinaryOperator}
use Rattle.nx_ctree.specs.declared.expression.AssignOperator.{AssignOperator}
use Rattle.nx_ctree.specs.Expressions.{binary_of, assign_of, written, whole}
use Rattle.nx_grammar.specs.declared.kind.Kind.TheVariants.{Limit}
use Rattle.nx_grammar.specs.Reading.{Reading, Refuse, Pass, Take, picked, dispatch, bind, done, expect, then_pick, loop}
use Rattle.nx_grammar.specs.Lawful.{Heads, Any, Lives, Opens, Law, Rounds}
use Rattle.nx_grammar.proofs.Sequences.{law_seq, law_done, opens_seq}
use Rattle.nx_grammar.proofs.Choices.{law_dispatch}
use Rattle.nx_grammar.proofs.LoopLaws.{law_loop}
use Rattle.nx_grammar.proofs.Thens.{Takes, picked_then, then_takes, then_passes}
use Rattle.nx_cexpr.specs.declared.operand.Tall.{Tall}
use Rattle.nx_cexpr.specs.declared.operand.Operand.{Operand}
use Rattle.nx_cexpr.specs.declared.operand.Lvalue.{Lvalue}
use Rattle.nx_cexpr.specs.Signs.{is_sign, is_prefix, Stops, operator_at}
use Rattle.nx_cexpr.specs.Types.{begins_base, base_pick, base_at, star_at}
use Rattle.nx_cexpr.specs.Operands
use Rattle.nx_cexpr.specs.Reading.{Below, primary_pick, indexed, post, unary_rest, address_rest, before_rest, cast_rest, group_rest, group_pick, group, size_of_name_rest, size_of_type_rest, size_of_pick, size_of_rest, prefix_pick, unary_pick, right_rest, operator_by, operator_pick, conditional_rest, conditional_pick, assign_rest, assign_by, assign_pick, level_rest, level_pick, has_node, within, level_at, expr_pick, expr_at}
use Rattle.nx_cexpr.proofs.SignLaws.{Is, tok, differs, other_rank, stops_at, sign_law, no_operator, no_assign}
use Rattle.nx_cexpr.proofs.PrimaryLaws.{Num, Close, took, took_if, if_passes, both, close_stops, base_takes, base_law, star_law, Lows, call_law, primary_takes, primary_passes, primary_law, indexed_law, post_ends, post_law, primary_fits, place_law}

module _ (low : Below) (fits : Bool) (lows : Lows low fits) where
  module _ (d : ℕ) where
    -- ---- Operators before an operand.

    pub unary_rest_law : fits ≡ true → (op : UnaryOperator) (t : Signed) → Law (unary_rest low op t) (Stops 1) Num
    unfolding unary_rest
    unary_rest_law f op t = law_seq (dispatch (low.level 1)) _ (Stops 1) Num (Stops 1) (Stops 1) (lows.level f 1) (λ a. law_done (Operands.unary_operand t op a) (Stops 1)) (λ u i. i)

    pub address_law : fits ≡ true → (t : Signed) → Law (address_rest low fits d t) (Stops 1) Num
    unfolding address_rest
    address_law f t =
        law_seq (dispatch (low.level 0)) _ (Stops 0) Num (Stops 1) (Is sign.OpenBracket) (lows.level f 0)
        (λ a. law_seq (indexed low fits d a) _ (Stops 1) (Is sign.OpenBracket) (Stops 1) (Stops 1) ((indexed_law low fits lows d) f a) (λ x. law_done (Operands.address t x) (Stops 1)) (λ u i. i)) (primary_fits low fits lows d)

    pub before_law : fits ≡ true → (op : StepOperator) (t : Signed) → Law (before_rest low op t) (Stops 1) (Is sign.Name)
    unfolding before_rest
    before_law f op t = law_seq (dispatch low.place) _ (Stops 1) (Is sign.Name) (Stops 1) (Stops 1) (lows.place f) (λ p. law_done (Operands.before t op p) (Stops 1)) (λ u i. i)

    close_no_star : (t : Signed) → Close t → is_sign sign.Star t ≡ false
    close_no_star t h = differs sign.Star t (λ k. let x : sign.CloseParen ≡ sign.Star = sym h ∙ k in absurd cc)

    pub cast_law : fits ≡ true → (t : Signed) (b : Base) → Law (cast_rest low t b) (Stops 1) Close
    unfolding cast_rest
    cast_law f t b =
        law_seq star_at _ Close Close (Stops 1) Close (star_law Close close_no_star)
        (λ s. law_seq (expect (is_sign sign.CloseParen)) _ Any Close (Stops 1) Num (sign_law sign.CloseParen)
        (λ c. law_seq (dispatch (low.level 1)) _ (Stops 1) Num (Stops 1) (Stops 1) (lows.level f 1) (λ a. law_done (Operands.cast t b s a) (Stops 1)) (λ u i. i)) (λ u i. tt)) (λ u i. i)

    pub group_rest_law : (t : Signed) (a : Operand) → Law (group_rest low fits d t a) (Stops 1) Close
    unfolding group_rest
    group_rest_law t a = law_seq (expect (is_sign sign.CloseParen)) _ Any Close (Stops 1) (Stops 1) (sign_law sign.CloseParen) (λ c. (post_law low fits lows d) (Operands.paren t a)) (λ u i. tt)

    group_takes : fits ≡ true → (b : Bool) (t u : Signed) (q : Reading Signed Operand) → (if b then then_pick (base_pick u) (cast_rest low t) else then_pick (low.level whole u) (group_rest low fits d t)) ≡ Take q → Lives q (Stops 1) Any
    group_takes f true t u q e = then_takes (base_pick u) (cast_rest low t) Any (Stops 1) Close (λ r k. base_takes u r k) (λ b. cast_law f t b) (λ v i. tt) q e
    group_takes f false t u q e = then_takes (low.level whole u) (group_rest low fits d t) (Stops 13) (Stops 1) Close (λ r k. lows.takes f 13 u r k) (λ a. group_rest_law t a) (close_stops 13 (lit< tt)) q e

    group_passes : (b : Bool) (t u : Signed) (a : Operand) → (if b then then_pick (base_pick u) (cast_rest low t) else then_pick (low.level whole u) (group_rest low fits d t)) ≡ Pass a → ⊥
    group_passes true t u a e = then_passes (base_pick u) (cast_rest low t) a e
    group_passes false t u a e = then_passes (low.level whole u) (group_rest low fits d t) a e

    pub group_law : fits ≡ true → (t : Signed) → Law (group low fits d t) (Stops 1) (Is sign.Int)
    unfolding group
    group_law f t =
        let o = (law_seq base_at (cast_rest low t) Any (Is sign.Int) (Stops 1) Close base_law (λ b. cast_law f t b) (λ v i. tt)).opens in
        law_dispatch (group_pick low fits d t) (Stops 1) (Is sign.Int)
        (record { takes = λ u q e. group_takes f (begins_base u.sign) t u q e; passes = λ u a e. absurd (group_passes (begins_base u.sign) t u a e) })
        (record {
          value = ((cast_law f t base.Int).opens).value;
          words = λ r. tok sign.Int ∷ ((cast_law f t base.Int).opens).words r;
          ends = λ r h. ((cast_law f t base.Int).opens).ends r h;
          first = λ r h. refl;
        })

    -- ---- Sizes.

    pub size_of_name_law : (t n : Signed) → Law (size_of_name_rest t n) Any Close
    unfolding size_of_name_rest
    size_of_name_law t n = law_seq (expect (is_sign sign.CloseParen)) _ Any Close Any Any (sign_law sign.CloseParen) (λ c. law_done (Operands.size_of_name t n) Any) (λ u i. tt)

    pub size_of_type_law : (t : Signed) (b : Base) → Law (size_of_type_rest t b) Any Close
    unfolding size_of_type_rest
    size_of_type_law t b = law_seq (expect (is_sign sign.CloseParen)) _ Any Close Any Any (sign_law sign.CloseParen) (λ c. law_done (Operands.size_of_type t b) Any) (λ u i. tt)

    size_of_takes : (b : Bool) (t u : Signed) (q : Reading Signed Operand) → (if b then Take (size_of_name_rest t u) else then_pick (base_pick u) (size_of_type_rest t)) ≡ Take q → Lives q Any Any
    size_of_takes true t u q e = took (size_of_name_rest t u) q Any Any Close (λ v i. i) (size_of_name_law t u) e
    size_of_takes false t u q e = then_takes (base_pick u) (size_of_type_rest t) Any Any Close (λ r k. base_takes u r k) (size_of_type_law t) (λ v i. tt) q e

    size_of_passes : (b : Bool) (t u : Signed) (a : Operand) → (if b then Take (size_of_name_rest t u) else then_pick (base_pick u) (size_of_type_rest t)) ≡ Pass a → ⊥
    size_of_passes true t u a e = cc
    size_of_passes false t u a e = then_passes (base_pick u) (size_of_type_rest t) a e

    pub size_of_part_law : (t : Signed) → Law (dispatch (size_of_pick t)) Any (Is sign.Name)
    size_of_part_law t =
        let o = (size_of_name_law t (tok sign.Name)).opens in
        law_dispatch (size_of_pick t) Any (Is sign.Name)
        (record { takes = λ u q e. size_of_takes (is_sign sign.Name u) t u q e; passes = λ u a e. absurd (size_of_passes (is_sign sign.Name u) t u a e) })
        (record {
          value = o.value;
          words = λ r. tok sign.Name ∷ o.words r;
          ends = λ r h. o.ends r h;
          first = λ r h. refl;
        })

    pub size_of_law : (t : Signed) → Law (size_of_rest t) Any (Is sign.OpenParen)
    unfolding size_of_rest
    size_of_law t = law_seq (expect (is_sign sign.OpenParen)) _ Any (Is sign.OpenParen) Any (Is sign.Name) (sign_law sign.OpenParen) (λ o. size_of_part_law t) (λ u i. tt)

    -- ---- Unary expressions.

    prefix_takes : (t : Signed) (s : Sign) (q : Reading Signed Operand) → prefix_pick low fits d t s ≡ Take q → Lives q (Stops 1) Any
    prefix_takes t sign.Minus q e = took_if fits Limit (unary_rest low unary.Minus t) q (Stops 1) (Stops 1) Num (λ u i. i) (λ f. unary_rest_law f unary.Minus t) e
    prefix_takes t sign.Not q e = took_if fits Limit (unary_rest low unary.Not t) q (Stops 1) (Stops 1) Num (λ u i. i) (λ f. unary_rest_law f unary.Not t) e
    prefix_takes t sign.Complement q e = took_if fits Limit (unary_rest low unary.Complement t) q (Stops 1) (Stops 1) Num (λ u i. i) (λ f. unary_rest_law f unary.Complement t) e
    prefix_takes t sign.Star q e = took_if fits Limit (unary_rest low unary.Deref t) q (Stops 1) (Stops 1) Num (λ u i. i) (λ f. unary_rest_law f unary.Deref t) e
    prefix_takes t sign.BitAnd q e = took_if fits Limit (address_rest low fits d t) q (Stops 1) (Stops 1) Num (λ u i. i) (λ f. address_law f t) e
    prefix_takes t sign.Increment q e = took_if fits Limit (before_rest low step.Increment t) q (Stops 1) (Stops 1) (Is sign.Name) (λ u i. i) (λ f. before_law f step.Increment t) e
    prefix_takes t sign.Decrement q e = took_if fits Limit (before_rest low step.Decrement t) q (Stops 1) (Stops 1) (Is sign.Name) (λ u i. i) (λ f. before_law f step.Decrement t) e
    prefix_takes t sign.SizeOf q e = took (size_of_rest t) q Any (Stops 1) (Is sign.OpenParen) (λ u i. tt) (size_of_law t) e
    prefix_takes t sign.OpenParen q e = took_if fits Limit (group low fits d t) q (Stops 1) (Stops 1) (Is sign.Int) (λ u i. i) (λ f. group_law f t) e
    prefix_takes t _ q e = absurd cc

    prefix_passes : (t : Signed) (s : Sign) (a : Operand) → prefix_pick low fits d t s ≡ Pass a → ⊥
    prefix_passes t sign.Minus a e = if_passes fits Limit (unary_rest low unary.Minus t) a e
    prefix_passes t sign.Not a e = if_passes fits Limit (unary_rest low unary.Not t) a e
    prefix_passes t sign.Complement a e = if_passes fits Limit (unary_rest low unary.Complement t) a e
    prefix_passes t sign.Star a e = if_passes fits Limit (unary_rest low unary.Deref t) a e
    prefix_passes t sign.BitAnd a e = if_passes fits Limit (address_rest low fits d t) a e
    prefix_passes t sign.Increment a e = if_passes fits Limit (before_rest low step.Increment t) a e
    prefix_passes t sign.Decrement a e = if_passes fits Limit (before_rest low step.Decrement t) a e
    prefix_passes t sign.SizeOf a e = cc
    prefix_passes t sign.OpenParen a e = if_passes fits Limit (group low fits d t) a e
    prefix_passes t _ a e = cc

    unary_takes : (b : Bool) (t : Signed) (q : Reading Signed Operand) → (if b then prefix_pick low fits d t t.sign else then_pick (primary_pick low fits t t.sign) (post low fits d)) ≡ Take q → Lives q (Stops 1) Any
    unary_takes true t q e = prefix_takes t t.sign q e
    unary_takes false t q e = then_takes (primary_pick low fits t t.sign) (post low fits d) (Stops 0) (Stops 1) (Stops 1) (λ r k. (primary_takes low fits lows) t t.sign r k) (post_law low fits lows d) (λ u i. omega (arith, i)) q e

    unary_passes : (b : Bool) (t : Signed) (a : Operand) → (if b then prefix_pick low fits d t t.sign else then_pick (primary_pick low fits t t.sign) (post low fits d)) ≡ Pass a → ⊥
    unary_passes true t a e = prefix_passes t t.sign a e
    unary_passes false t a e = then_passes (primary_pick low fits t t.sign) (post low fits d) a e

    unary_opens : Opens (dispatch (unary_pick low fits d)) (Stops 1) Num
    unary_opens = record { value = Operands.number (tok sign.Number); words = λ r. tok sign.Number ∷ r; ends = λ r h. (post_ends low fits lows d) (Operands.number (tok sign.Number)) r h; first = λ r h. refl }

    -- ---- Operators between operands.

    pub right_law : fits ≡ true → (n : ℕ) (op : BinaryOperator) (a : Operand) → Law (right_rest low n op a) (Stops n) Num
    unfolding right_rest
    right_law f n op a = law_seq (dispatch (low.level n)) _ (Stops n) Num (Stops n) (Stops n) (lows.level f n) (λ b. law_done (Operands.binary op a b) (Stops n)) (λ u i. i)

    operator_takes : (c : Bool) → (c ≡ true → fits ≡ true) → (n : ℕ) (a : Operand) (op : BinaryOperator) (q : Reading Signed Operand) → (if c then Take (right_rest low n op a) else Refuse Limit) ≡ Take q → Lives q (Stops n) Any
    operator_takes c f n a op q e = took_if c Limit (right_rest low n op a) q (Stops n) (Stops n) Num (λ u i. i) (λ k. right_law (f k) n op a) e

    operator_by_takes : (n : ℕ) (a : Operand) (o : Option BinaryOperator) (q : Reading Signed Operand) → operator_by low fits d n a o ≡ Take q → Lives q (Stops n) Any
    operator_by_takes n a None q e = absurd cc
    operator_by_takes n a (Some op) q e = operator_takes (fits && nat_lt a.height d) (λ k. (both fits (nat_lt a.height d) k).0) n a op q e

    operator_same : (n : ℕ) (a b : Operand) (o : Option BinaryOperator) → operator_by low fits d n a o ≡ Pass b → b ≡ a
    operator_same n a b None e = cc
    operator_same n a b (Some op) e = absurd (if_passes (fits && nat_lt a.height d) Limit (right_rest low n op a) b e)

    pub operator_rounds : (n : ℕ) → Rounds (operator_pick low fits d n) (Stops (suc n)) (Stops n)
    operator_rounds n = record {
      takes = λ a t q e. operator_by_takes n a (operator_at (suc n) (binary_of t.sign)) q e;
      stops = λ a t h. ap (operator_by low fits d n a) (no_operator (suc n) t h);
      same = λ a b t e. operator_same n a b (operator_at (suc n) (binary_of t.sign)) e;
      fits = λ t h. omega (arith, h);
    }

    pub conditional_law : fits ≡ true → (a : Operand) → Law (conditional_rest low a) (Stops 12) Num
    unfolding conditional_rest
    conditional_law f a =
        law_seq (dispatch (low.level whole)) _ (Stops 13) Num (Stops 12) (Is sign.Colon) (lows.level f 13)
        (λ b. law_seq (expect (is_sign sign.Colon)) _ Any (Is sign.Colon) (Stops 12) Num (sign_law sign.Colon)
        (λ c. law_seq (dispatch (low.level 12)) _ (Stops 12) Num (Stops 12) (Stops 12) (lows.level f 12) (λ e. law_done (Operands.conditional a b e) (Stops 12)) (λ u i. i)) (λ u i. tt)) (λ u i. stops_at sign.Colon 13 u (lit< tt) i)

    conditional_takes : (b c : Bool) → (c ≡ true → fits ≡ true) → (a : Operand) (q : Reading Signed Operand) → (if b then (if c then Take (conditional_rest low a) else Refuse Limit) else Pass a) ≡ Take q → Lives q (Stops 12) Any
    conditional_takes true c f a q e = took_if c Limit (conditional_rest low a) q (Stops 12) (Stops 12) Num (λ u i. i) (λ k. conditional_law (f k) a) e
    conditional_takes false c f a q e = absurd cc

    conditional_passes : (b c : Bool) (a x : Operand) → (if b then (if c then Take (conditional_rest low a) else Refuse Limit) else Pass a) ≡ Pass x → a ≡ x
    conditional_passes true c a x e = absurd (if_passes c Limit (conditional_rest low a) x e)
    conditional_passes false c a x e = cc

    pub conditional_stops : (a : Operand) (t : Signed) → Stops 12 t → conditional_pick low fits d a t ≡ Pass a
    conditional_stops a t h = rw (other_rank sign.Question 12 t refl h) refl

    pub conditional_ends : (a : Operand) (r : List Signed) → Heads (Stops 12) r → dispatch (conditional_pick low fits d a) r ≡ Ok (a, r)
    conditional_ends a [] h = absurd h
    conditional_ends a (t ∷ ts) h = ap (λ x. picked x t ts) (conditional_stops a t h)

    pub conditional_at_law : (a : Operand) → Law (dispatch (conditional_pick low fits d a)) (Stops 12) (Stops 12)
    conditional_at_law a = law_dispatch (conditional_pick low fits d a) (Stops 12) (Stops 12)
        (record {
          takes = λ t q e. conditional_takes (is_sign sign.Question t) (fits && nat_lt a.height d) (λ k. (both fits (nat_lt a.height d) k).0) a q e;
          passes = λ t b e u f. (conditional_stops a u f ∙ ap Pass (conditional_passes (is_sign sign.Question t) (fits && nat_lt a.height d) a b e), f);
        })
        (record { value = a; words = λ r. r; ends = conditional_ends a; first = λ r h. h })

    pub assign_law : fits ≡ true → (op : AssignOperator) (p : Lvalue) → Law (assign_rest low op p) (Stops 13) Num
    unfolding assign_rest
    assign_law f op p = law_seq (dispatch (low.level whole)) _ (Stops 13) Num (Stops 13) (Stops 13) (lows.level f 13) (λ e. law_done (Operands.assign op p e) (Stops 13)) (λ u i. i)

    assign_takes : (a : Operand) (o : Option AssignOperator) (p : Option Lvalue) (q : Reading Signed Operand) → assign_by low fits d a o p ≡ Take q → Lives q (Stops 13) Any
    assign_takes a None p q e = absurd cc
    assign_takes a (Some op) None q e = absurd cc
    assign_takes a (Some op) (Some p) q e =
        let n = written op (Operands.place_kind p.target) p.height in
        took_if (fits && nat_lt n d) Limit (assign_rest low op p) q (Stops 13) (Stops 13) Num (λ u i. i) (λ k. assign_law (both fits (nat_lt n d) k).0 op p) e

    assign_passes : (a b : Operand) (o : Option AssignOperator) (p : Option Lvalue) → assign_by low fits d a o p ≡ Pass b → a ≡ b
    assign_passes a b None p e = cc
    assign_passes a b (Some op) None e = absurd cc
    assign_passes a b (Some op) (Some p) e = absurd (if_passes (fits && nat_lt (written op (Operands.place_kind p.target) p.height) d) Limit (assign_rest low op p) b e)

    pub assign_stops : (a : Operand) (t : Signed) → Stops 13 t → assign_pick low fits d a t ≡ Pass a
    assign_stops a t h = ap (λ o. assign_by low fits d a o (Operands.lvalue_of a)) (no_assign t h)

    pub assign_ends : (a : Operand) (r : List Signed) → Heads (Stops 13) r → dispatch (assign_pick low fits d a) r ≡ Ok (a, r)
    assign_ends a [] h = absurd h
    assign_ends a (t ∷ ts) h = ap (λ x. picked x t ts) (assign_stops a t h)

    pub assign_at_law : (a : Operand) → Law (dispatch (assign_pick low fits d a)) (Stops 13) (Stops 13)
    assign_at_law a = law_dispatch (assign_pick low fits d a) (Stops 13) (Stops 13)
        (record {
          takes = λ t q e. assign_takes a (assign_of t.sign) (Operands.lvalue_of a) q e;
          passes = λ t b e u f. (assign_stops a u f ∙ ap Pass (assign_passes a b (assign_of t.sign) (Operands.lvalue_of a) e), f);
        })
        (record { value = a; words = λ r. r; ends = assign_ends a; first = λ r h. h })

    -- ---- Levels.

    rest_case : (n : ℕ) (b c : Bool) → (n == 11) ≡ b → (n == 12) ≡ c → (a : Operand) →
        Law {T = Signed} {A = Operand} (if b then dispatch (conditional_pick low fits d a) else if c then dispatch (assign_pick low fits d a) else loop (operator_pick low fits d n) a) (Stops (suc n)) (Stops (suc n))
    rest_case n true c e f a = let s : n ≡ 11 = eqb-true n 11 e in subst (λ k. Law (dispatch (conditional_pick low fits d a)) (Stops (suc k)) (Stops (suc k))) (sym s) (conditional_at_law a)
    rest_case n false true e f a = let s : n ≡ 12 = eqb-true n 12 f in subst (λ k. Law (dispatch (assign_pick low fits d a)) (Stops (suc k)) (Stops (suc k))) (sym s) (assign_at_law a)
    rest_case n false false e f a = law_loop (operator_pick low fits d n) (Stops (suc n)) (Stops n) (operator_rounds n) a

    pub rest_law : (n : ℕ) (a : Operand) → Law (level_rest low fits d n a) (Stops (suc n)) (Stops (suc n))
    unfolding level_rest
    rest_law n a = rest_case n (n == 11) (n == 12) refl refl a

    pub level_passes : (n : ℕ) (t : Signed) → Takes (level_pick low fits d n t)
    unfolding level_pick
    level_passes zero t a e = (primary_passes low fits lows) t t.sign a e
    level_passes (suc zero) t a e = unary_passes (is_prefix t.sign) t a e
    level_passes (suc (suc n)) t a e = then_passes (level_pick low fits d (suc n) t) (level_rest low fits d (suc n)) a e

    pub level_takes : (n : ℕ) (t : Signed) (q : Reading Signed Operand) → level_pick low fits d n t ≡ Take q → Lives q (Stops n) Any
    unfolding level_pick
    level_takes zero t q e = (primary_takes low fits lows) t t.sign q e
    level_takes (suc zero) t q e = unary_takes (is_prefix t.sign) t q e
    level_takes (suc (suc n)) t q e =
        then_takes (level_pick low fits d (suc n) t) (level_rest low fits d (suc n)) (Stops (suc n)) (Stops (suc (suc n))) (Stops (suc (suc n))) (λ r k. level_takes (suc n) t r k) (rest_law (suc n)) (λ u i. omega (arith, i)) q e

    -- A level is the one below and what stands after it.
    pub level_then : (n : ℕ) (ts : List Signed) → dispatch (level_pick low fits d (suc (suc n))) ts ≡ bind (dispatch (level_pick low fits d (suc n)) ts) (level_rest low fits d (suc n))
    unfolding level_pick
    level_then n [] = refl
    level_then n (t ∷ ts) = picked_then (level_pick low fits d (suc n) t) (level_rest low fits d (suc n)) t ts (level_passes (suc n) t)

    level_opens : (n : ℕ) → Opens (dispatch (level_pick low fits d n)) (Stops n) Num
    unfolding level_pick
    level_opens zero = (primary_law low fits lows).opens
    level_opens (suc zero) = unary_opens
    level_opens (suc (suc n)) =
        let o = opens_seq (dispatch (level_pick low fits d (suc n))) (level_rest low fits d (suc n)) (Stops (suc n)) Num (Stops (suc (suc n))) (Stops (suc (suc n))) (level_opens (suc n)) (rest_law (suc n)) (λ u i. omega (arith, i)) in
        record { value = o.value; words = o.words; ends = λ r h. level_then n (o.words r) ∙ o.ends r h; first = o.first }

    -- Every level, by its number.
    pub level_law : (n : ℕ) → Law (dispatch (level_pick low fits d n)) (Stops n) Num
    level_law n = law_dispatch (level_pick low fits d n) (Stops n) Num (record { takes = level_takes n; passes = λ t a e. absurd (level_passes n t a e) }) (level_opens n)

-- At each limit.
pub lows : (d : ℕ) → Lows (within d) (has_node d)
unfolding within
lows zero = record { level = λ f n. absurd cc; takes = λ f n t q e. absurd cc; place = λ f. absurd cc; call = λ f t. absurd cc }
lows (suc d) = record {
  level = λ f n. level_law (within d) (has_node d) (lows d) (suc d) n;
  takes = λ f n t q e. level_takes (within d) (has_node d) (lows d) (suc d) n t q e;
  place = λ f. place_law (within d) (has_node d) (lows d) (suc d);
  call = λ f t. call_law (within d) (has_node d) (lows d) t;
}

pub level_at_passes : (d n : ℕ) (t : Signed) → Takes ((within d).level n t)
unfolding within
level_at_passes zero n t a e = cc
level_at_passes (suc d) n t a e = level_passes (within d) (has_node d) (lows d) (suc d) n t a e

pub level_at_takes : (d n : ℕ) (t : Signed) (q : Reading Signed Operand) → (within d).level n t ≡ Take q → Lives q (Stops n) Any
unfolding within
level_at_takes zero n t q e = absurd cc
level_at_takes (suc d) n t q e = level_takes (within d) (has_node d) (lows d) (suc d) n t q e

-- ---- Whole expressions.

pub expr_passes : (d : ℕ) (t : Signed) → Takes (expr_pick d t)
expr_passes d t a e = then_passes ((within d).level whole t) (λ x. done (Operands.tall x)) a e

pub expr_takes : (d : ℕ) (t : Signed) (read : Reading Signed Tall) → expr_pick d t ≡ Take read → Lives read (Stops whole) Any
expr_takes d t q e = then_takes ((within d).level whole t) (λ x. done (Operands.tall x)) (Stops whole) (Stops whole) (Stops whole) (λ r k. level_at_takes d whole t r k) (λ x. law_done (Operands.tall x) (Stops whole)) (λ u i. i) q e

pub expr_then : (d : ℕ) (ts : List Signed) → expr_at d ts ≡ bind (level_at d whole ts) (λ x. done (Operands.tall x))
expr_then d [] = refl
expr_then d (t ∷ ts) = picked_then ((within d).level whole t) (λ x. done (Operands.tall x)) t ts (level_at_passes d whole t)

pub expr_law : (d : ℕ) → Law (expr_at (suc d)) (Stops whole) (Is sign.Number)
expr_law d =
    let o = opens_seq (level_at (suc d) whole) (λ x. done (Operands.tall x)) (Stops whole) Num (Stops whole) (Stops whole) ((lows (suc d)).level refl whole).opens (λ x. law_done (Operands.tall x) (Stops whole)) (λ u i. i) in
    law_dispatch (expr_pick (suc d)) (Stops whole) Num
    (record { takes = expr_takes (suc d); passes = λ t a e. absurd (expr_passes (suc d) t a e) })
    (record { value = o.value; words = o.words; ends = λ r h. expr_then (suc d) (o.words r) ∙ o.ends r h; first = o.first })
