-- The reading of expressions against one within a wider limit.
use Rattle.std.proofs.Common.{◌≡◌, ℕ, zero, suc, ◌+◌, ◌<◌, ◌≤◌, Bool, true, false, List, ◌∷◌, refl, ap, ◌∙◌, arith}
use Rattle.std.specs.Prelude.{Ok, Option, None, Some, max, if◌then◌else◌, ◌==◌, ◌&&◌, nat_lt}
use Rattle.std.proofs.lemmas.Bool.{lt-ltb}
use Rattle.nx_ctree.specs.declared.sign.Sign.{Sign}
use Rattle.nx_ctree.specs.declared.sign.Sign.TheVariants as sign
use Rattle.nx_ctree.specs.declared.sign.Signed.{Signed}
use Rattle.nx_ctree.specs.declared.program.Base.{Base}
use Rattle.nx_ctree.specs.declared.program.Base.TheVariants as base
use Rattle.nx_ctree.specs.declared.expression.UnaryOperator.{UnaryOperator}
use Rattle.nx_ctree.specs.declared.expression.UnaryOperator.TheVariants as unary
use Rattle.nx_ctree.specs.declared.expression.StepOperator.{StepOperator}
use Rattle.nx_ctree.specs.declared.expression.StepOperator.TheVariants as step
use Rattle.nx_ctree.specs.declared.expression.BinaryOperator.{BinaryOperator}
use Rattle.nx_ctree.specs.declared.expression.AssignOperator.{AssignOperator}
use Rattle.nx_ctree.specs.declared.expression.AssignOperator.TheVariants as assign
use Rattle.nx_ctree.specs.Expressions.{binary_of, assign_of, written, whole}
use Rattle.nx_grammar.specs.declared.kind.Kind.TheVariants.{Limit}
use Rattle.nx_grammar.specs.Reading.{Reading, Refuse, Pass, Take, picked, dispatch, seq, done, expect, then_pick, loop}
use Rattle.nx_grammar.specs.Lawful.{Any, Law}
use Rattle.nx_grammar.specs.Growing.{Grows, Shortens, Wider, RefusalGrown, PickGrown}
use Rattle.nx_grammar.proofs.Results.{bound, ok_same}
use Rattle.nx_grammar.proofs.Sequences.{law_done}
use Rattle.nx_grammar.proofs.Growth.{shortens, shortens_seq, grows_seq, grows_seq_by, grows_done, grows_dispatch, wider_seq, wider_done, wider_expect}
use Rattle.nx_grammar.proofs.LoopGrowth.{grows_loop_by}
use Rattle.nx_grammar.proofs.Thens.{then_grown}
use Rattle.nx_cexpr.specs.declared.operand.Form.{Form}
use Rattle.nx_cexpr.specs.declared.operand.Form.TheVariants as form
use Rattle.nx_cexpr.specs.declared.operand.Target.{Target}
use Rattle.nx_cexpr.specs.declared.operand.Target.TheVariants as target
use Rattle.nx_cexpr.specs.declared.operand.Operand.{Operand}
use Rattle.nx_cexpr.specs.declared.operand.Lvalue.{Lvalue}
use Rattle.nx_cexpr.specs.Signs.{is_sign, is_prefix, operator_at, begins, begins_primary, full_fault, Stops}
use Rattle.nx_cexpr.specs.Types.{begins_base, const_rest, base_by, base_pick, star_pick, star_at}
use Rattle.nx_cexpr.specs.Operands
use Rattle.nx_cexpr.specs.Reading.{Below, name_rest, paren_rest, primary_pick, indexed, post, unary_rest, address_rest, before_rest, cast_rest, group_rest, group_pick, group, size_of_name_rest, size_of_type_rest, size_of_pick, size_of_rest, prefix_pick, right_rest, operator_by, operator_pick, conditional_rest, conditional_pick, assign_rest, assign_by, assign_pick, level_rest, level_pick, has_node, within, expr_pick, expr_at}
use Rattle.nx_cexpr.proofs.SignLaws.{Is, tok, is_true}
use Rattle.nx_cexpr.proofs.PrimaryLaws
use Rattle.nx_cexpr.proofs.Laws
use Rattle.nx_cexpr.proofs.PrimaryLaws.{Lows, both}
use Rattle.nx_cexpr.proofs.Laws.{lows}
use Rattle.nx_cexpr.proofs.PrimarySound.{Sounds, found_primary}
use Rattle.nx_cexpr.proofs.Sound.{sounds, operator_taken, level_sound}
use Rattle.nx_cexpr.proofs.PrimaryGrowth.{Num, Close, fit_grown, same_done, then_refused, then_grown_by, More, part, call_wider, primary_grown, indexed_grows, down, post_grows, post_short, place_grown}

module _ (one two : Below) (fits : Bool) (law1 : Lows one fits) (law2 : Lows two true) (d e : ℕ) (lt : suc d < e) (sound : Sounds one d) (more : More one two fits) where
  module _ (called : (t : Signed) → t.sign ≡ sign.Name → (ts : List Signed) (x : Operand) (rest : List Signed) → one.call t ts ≡ Ok (x, rest) → x.height ≤ d) (one_fits : fits ≡ true → 1 ≤ d) where
    -- ---- Unary expressions.

    unary_wider : fits ≡ true → (op : UnaryOperator) (t : Signed) → Wider (unary_rest one op t) (unary_rest two op t)
    unfolding unary_rest
    unary_wider f op t = wider_seq (dispatch (one.level 1)) (dispatch (two.level 1)) _ _ ((part one two fits law1 law2 d e lt sound more) f 1 (omega arith)) (λ a. wider_done (Operands.unary_operand t op a))

    indexed_short : (a : Operand) → Shortens (indexed two true e a)
    indexed_short a = shortens (indexed two true e a) (Stops 1) (Is sign.OpenBracket) (PrimaryLaws.indexed_law two true law2 e refl a)

    address_grows : fits ≡ true → (t : Signed) → Grows (address_rest one fits (suc d) t) (address_rest two true e t)
    unfolding address_rest
    address_grows f t =
        grows_seq_by (λ a. seq (indexed two true e a) (λ x. done (Operands.address t x))) (λ a. shortens_seq (λ x. done (Operands.address t x)) (λ x. (wider_done (Operands.address t x)).short) (indexed two true e a) (indexed_short a))
        (dispatch (one.level 0)) (dispatch (two.level 0)) (λ a. seq (indexed one fits (suc d) a) (λ x. done (Operands.address t x))) ((part one two fits law1 law2 d e lt sound more) f 0 (omega arith)).grows (λ a. a.height ≤ d) (λ ts a rest h. (sound.level 0 (omega arith) ts a rest h).within)
        (λ a l. grows_seq (λ x. done (Operands.address t x)) (λ x. (wider_done (Operands.address t x)).short) (indexed one fits (suc d) a) (indexed two true e a) (λ x. done (Operands.address t x)) ((indexed_grows one two fits law1 law2 d e lt sound more) f a l) (λ x. grows_done (Operands.address t x)))

    before_wider : fits ≡ true → (op : StepOperator) (t : Signed) → Wider (before_rest one op t) (before_rest two op t)
    unfolding before_rest
    before_wider f op t =
        wider_seq (dispatch one.place) (dispatch two.place) _ _ (record { grows = grows_dispatch one.place two.place (more.place f); short = shortens (dispatch two.place) (Stops 1) (Is sign.Name) (law2.place refl) }) (λ p. wider_done (Operands.before t op p))

    star_same : (b : Bool) → PickGrown {T = Signed} {A = Bool} (if b then Take (done true) else Pass false) (if b then Take (done true) else Pass false)
    star_same true = same_done true
    star_same false = refl

    star_wider : Wider star_at star_at
    star_wider = record { grows = grows_dispatch star_pick star_pick (λ t. star_same (is_sign sign.Star t)); short = shortens star_at (λ t. is_sign sign.Star t ≡ false) (λ t. is_sign sign.Star t ≡ false) (PrimaryLaws.star_law (λ t. is_sign sign.Star t ≡ false) (λ t h. h)) }

    const_wider : Wider const_rest const_rest
    unfolding const_rest
    const_wider = wider_seq (expect (is_sign sign.CharWord)) (expect (is_sign sign.CharWord)) _ _ (wider_expect (is_sign sign.CharWord)) (λ c. wider_done base.ConstChar)

    base_same : (s : Sign) → PickGrown (base_by s) (base_by s)
    base_same sign.Int = same_done base.Int
    base_same sign.CharWord = same_done base.Char
    base_same sign.Const = (const_rest, refl, const_wider.grows)
    base_same _ = refl

    cast_wider : fits ≡ true → (t : Signed) (b : Base) → Wider (cast_rest one t b) (cast_rest two t b)
    unfolding cast_rest
    cast_wider f t b =
        wider_seq star_at star_at _ _ star_wider
        (λ s. wider_seq (expect (is_sign sign.CloseParen)) (expect (is_sign sign.CloseParen)) _ _ (wider_expect (is_sign sign.CloseParen)) (λ c. wider_seq (dispatch (one.level 1)) (dispatch (two.level 1)) _ _ ((part one two fits law1 law2 d e lt sound more) f 1 (omega arith)) (λ a. wider_done (Operands.cast t b s a))))

    group_rest_grows : (t : Signed) (a : Operand) → a.height ≤ d → Grows (group_rest one fits (suc d) t a) (group_rest two true e t a)
    unfolding group_rest
    group_rest_grows t a l =
        grows_seq (λ c. post two true e (Operands.paren t a)) (λ c. (post_short one two fits law1 law2 d e lt sound more) (Operands.paren t a)) (expect (is_sign sign.CloseParen)) (expect (is_sign sign.CloseParen)) (λ c. post one fits (suc d) (Operands.paren t a))
        (wider_expect (is_sign sign.CloseParen)).grows (λ c. (post_grows one two fits law1 law2 d e lt sound more) (Operands.paren t a) (omega arith))

    group_rest_short : (t : Signed) (a : Operand) → Shortens (group_rest two true e t a)
    group_rest_short t a = shortens (group_rest two true e t a) (Stops 1) Close (Laws.group_rest_law two true law2 e t a)

    level_within : (n : ℕ) → n ≤ 13 → (t : Signed) (q : Reading Signed Operand) → one.level n t ≡ Take q → (ts : List Signed) (a : Operand) (rest : List Signed) → q ts ≡ Ok (a, rest) → a.height ≤ d
    level_within n m t q h ts a rest g = (sound.level n m (t ∷ ts) a rest (ap (λ x. picked x t ts) h ∙ g)).within

    group_grown : fits ≡ true → (b : Bool) (t u : Signed) →
        PickGrown {T = Signed} {A = Operand} (if b then then_pick (base_pick u) (cast_rest one t) else then_pick (one.level whole u) (group_rest one fits (suc d) t)) (if b then then_pick (base_pick u) (cast_rest two t) else then_pick (two.level whole u) (group_rest two true e t))
    group_grown f true t u = then_grown (cast_rest one t) (cast_rest two t) (λ b. (cast_wider f t b).short) (base_pick u) (base_pick u) (base_same u.sign) (λ b. (cast_wider f t b).grows)
    group_grown f false t u = then_grown_by (group_rest one fits (suc d) t) (group_rest two true e t) (group_rest_short t) (λ a. a.height ≤ d) (one.level whole u) (two.level whole u) (level_within 13 (omega arith) u) (more.level f 13 (omega arith) u) (group_rest_grows t)

    group_grows : fits ≡ true → (t : Signed) → Grows (group one fits (suc d) t) (group two true e t)
    unfolding group
    group_grows f t = grows_dispatch (group_pick one fits (suc d) t) (group_pick two true e t) (λ u. group_grown f (begins_base u.sign) t u)

    size_name_wider : (t n : Signed) → Wider (size_of_name_rest t n) (size_of_name_rest t n)
    unfolding size_of_name_rest
    size_name_wider t n = wider_seq (expect (is_sign sign.CloseParen)) (expect (is_sign sign.CloseParen)) _ _ (wider_expect (is_sign sign.CloseParen)) (λ c. wider_done (Operands.size_of_name t n))

    size_type_wider : (t : Signed) (b : Base) → Wider (size_of_type_rest t b) (size_of_type_rest t b)
    unfolding size_of_type_rest
    size_type_wider t b = wider_seq (expect (is_sign sign.CloseParen)) (expect (is_sign sign.CloseParen)) _ _ (wider_expect (is_sign sign.CloseParen)) (λ c. wider_done (Operands.size_of_type t b))

    size_same : (b : Bool) (t u : Signed) → PickGrown {T = Signed} {A = Operand} (if b then Take (size_of_name_rest t u) else then_pick (base_pick u) (size_of_type_rest t)) (if b then Take (size_of_name_rest t u) else then_pick (base_pick u) (size_of_type_rest t))
    size_same true t u = (size_of_name_rest t u, refl, (size_name_wider t u).grows)
    size_same false t u = then_grown (size_of_type_rest t) (size_of_type_rest t) (λ b. (size_type_wider t b).short) (base_pick u) (base_pick u) (base_same u.sign) (λ b. (size_type_wider t b).grows)

    size_grows : (t : Signed) → Grows (size_of_rest t) (size_of_rest t)
    unfolding size_of_rest
    size_grows t =
        grows_seq (λ o. dispatch (size_of_pick t)) (λ o. shortens (dispatch (size_of_pick t)) Any (Is sign.Name) (Laws.size_of_part_law two true law2 e t)) (expect (is_sign sign.OpenParen)) (expect (is_sign sign.OpenParen)) (λ o. dispatch (size_of_pick t))
        (wider_expect (is_sign sign.OpenParen)).grows (λ o. grows_dispatch (size_of_pick t) (size_of_pick t) (λ u. size_same (is_sign sign.Name u) t u))

    unary_grown : (op : UnaryOperator) (t : Signed) → PickGrown {T = Signed} {A = Operand} (if fits then Take (unary_rest one op t) else Refuse Limit) (Take (unary_rest two op t))
    unary_grown op t = fit_grown fits (unary_rest one op t) (unary_rest two op t) (λ f. (unary_wider f op t).grows) (shortens (unary_rest two op t) (Stops 1) Num (Laws.unary_rest_law two true law2 e refl op t))

    before_grown : (op : StepOperator) (t : Signed) → PickGrown {T = Signed} {A = Operand} (if fits then Take (before_rest one op t) else Refuse Limit) (Take (before_rest two op t))
    before_grown op t = fit_grown fits (before_rest one op t) (before_rest two op t) (λ f. (before_wider f op t).grows) (shortens (before_rest two op t) (Stops 1) (Is sign.Name) (Laws.before_law two true law2 e refl op t))

    prefix_grown : (t : Signed) (s : Sign) → PickGrown (prefix_pick one fits (suc d) t s) (prefix_pick two true e t s)
    prefix_grown t sign.Minus = unary_grown unary.Minus t
    prefix_grown t sign.Not = unary_grown unary.Not t
    prefix_grown t sign.Complement = unary_grown unary.Complement t
    prefix_grown t sign.Star = unary_grown unary.Deref t
    prefix_grown t sign.BitAnd = fit_grown fits (address_rest one fits (suc d) t) (address_rest two true e t) (λ f. address_grows f t) (shortens (address_rest two true e t) (Stops 1) Num (Laws.address_law two true law2 e refl t))
    prefix_grown t sign.Increment = before_grown step.Increment t
    prefix_grown t sign.Decrement = before_grown step.Decrement t
    prefix_grown t sign.SizeOf = (size_of_rest t, refl, size_grows t)
    prefix_grown t sign.OpenParen = fit_grown fits (group one fits (suc d) t) (group two true e t) (λ f. group_grows f t) (shortens (group two true e t) (Stops 1) (Is sign.Int) (Laws.group_law two true law2 e refl t))
    prefix_grown t _ = refl

    primary_low : (t : Signed) (q : Reading Signed Operand) → primary_pick one fits t t.sign ≡ Take q → (ts : List Signed) (a : Operand) (rest : List Signed) → q ts ≡ Ok (a, rest) → a.height ≤ suc d
    primary_low t q h ts a rest g = (found_primary one fits law1 d sound (t ∷ ts) a rest (ap (λ x. picked x t ts) h ∙ g)).within

    unary_pick_case : (b : Bool) (t : Signed) → PickGrown {T = Signed} {A = Operand} (if b then prefix_pick one fits (suc d) t t.sign else then_pick (primary_pick one fits t t.sign) (post one fits (suc d))) (if b then prefix_pick two true e t t.sign else then_pick (primary_pick two true t t.sign) (post two true e))
    unary_pick_case true t = prefix_grown t t.sign
    unary_pick_case false t = then_grown_by (post one fits (suc d)) (post two true e) (post_short one two fits law1 law2 d e lt sound more) (λ a. a.height ≤ suc d) (primary_pick one fits t t.sign) (primary_pick two true t t.sign) (primary_low t) ((primary_grown one two fits law1 law2 d e lt sound more) t t.sign) (post_grows one two fits law1 law2 d e lt sound more)

    -- ---- Operators between operands.

    right_wider : fits ≡ true → (n : ℕ) → n ≤ 13 → (op : BinaryOperator) (a : Operand) → Wider (right_rest one n op a) (right_rest two n op a)
    unfolding right_rest
    right_wider f n m op a = wider_seq (dispatch (one.level n)) (dispatch (two.level n)) _ _ ((part one two fits law1 law2 d e lt sound more) f n m) (λ b. wider_done (Operands.binary op a b))

    right_within : (n : ℕ) → n ≤ 13 → (op : BinaryOperator) (a : Operand) (us : List Signed) (x : Operand) (rest : List Signed) → a.height ≤ d → right_rest one n op a us ≡ Ok (x, rest) → x.height ≤ suc d
    unfolding right_rest
    right_within n m op a us x rest l h =
        let b = bound (dispatch (one.level n) us) _ (x, rest) h in
        let g = sound.level n m us b.0 b.1 b.2 in
        let o = ok_same (Operands.binary op a b.0) x b.1 rest b.3 in
        let s : suc (max a.height b.0.height) ≡ x.height = ap (λ (z : Operand). z.height) o.0 in
        omega (arith, g.within, s)

    operator_case : (n : ℕ) → n ≤ 13 → (a : Operand) → a.height ≤ suc d → (o : Option BinaryOperator) → PickGrown (operator_by one fits (suc d) n a o) (operator_by two true e n a o)
    operator_case n m a l None = refl
    operator_case n m a l (Some op) =
        rw (lt-ltb a.height e (omega arith)) (fit_grown (fits && nat_lt a.height (suc d)) (right_rest one n op a) (right_rest two n op a) (λ k. (right_wider (both fits (nat_lt a.height (suc d)) k).0 n m op a).grows)
        (shortens (right_rest two n op a) (Stops n) Num (Laws.right_law two true law2 e refl n op a)))

    operators_grows : (n : ℕ) → n ≤ 13 → (a : Operand) → a.height ≤ suc d → Grows (loop (operator_pick one fits (suc d) n) a) (loop (operator_pick two true e n) a)
    operators_grows n m a l =
        grows_loop_by (operator_pick one fits (suc d) n) (operator_pick two true e n) (Stops (suc n)) (Stops n) (λ z. z.height ≤ suc d) (Laws.operator_rounds one fits law1 (suc d) n) (Laws.operator_rounds two true law2 e n)
        (λ z t us q y mid p k g. let j = operator_taken one fits law1 d sound n z (operator_at (suc n) (binary_of t.sign)) q k in right_within n m j.0 z us y mid ((down one two fits law1 law2 d e lt sound more) z.height j.2) (ap (λ (r : Reading Signed Operand). r us) j.3 ∙ g))
        (λ z t p. operator_case n m z p (operator_at (suc n) (binary_of t.sign))) a l

    conditional_wider : fits ≡ true → (a : Operand) → Wider (conditional_rest one a) (conditional_rest two a)
    unfolding conditional_rest
    conditional_wider f a =
        wider_seq (dispatch (one.level whole)) (dispatch (two.level whole)) _ _ ((part one two fits law1 law2 d e lt sound more) f 13 (omega arith))
        (λ b. wider_seq (expect (is_sign sign.Colon)) (expect (is_sign sign.Colon)) _ _ (wider_expect (is_sign sign.Colon)) (λ c. wider_seq (dispatch (one.level 12)) (dispatch (two.level 12)) _ _ ((part one two fits law1 law2 d e lt sound more) f 12 (omega arith)) (λ x. wider_done (Operands.conditional a b x))))

    conditional_case : (b c : Bool) → (c ≡ true → fits ≡ true) → (a : Operand) → PickGrown {T = Signed} {A = Operand} (if b then (if c then Take (conditional_rest one a) else Refuse Limit) else Pass a) (if b then Take (conditional_rest two a) else Pass a)
    conditional_case true c f a = fit_grown c (conditional_rest one a) (conditional_rest two a) (λ k. (conditional_wider (f k) a).grows) (shortens (conditional_rest two a) (Stops 12) Num (Laws.conditional_law two true law2 e refl a))
    conditional_case false c f a = refl

    conditional_grown : (a : Operand) (t : Signed) → a.height ≤ suc d → PickGrown (conditional_pick one fits (suc d) a t) (conditional_pick two true e a t)
    conditional_grown a t l = rw (lt-ltb a.height e (omega arith)) (conditional_case (is_sign sign.Question t) (fits && nat_lt a.height (suc d)) (λ k. (both fits (nat_lt a.height (suc d)) k).0) a)

    assign_wider : fits ≡ true → (op : AssignOperator) (p : Lvalue) → Wider (assign_rest one op p) (assign_rest two op p)
    unfolding assign_rest
    assign_wider f op p = wider_seq (dispatch (one.level whole)) (dispatch (two.level whole)) _ _ ((part one two fits law1 law2 d e lt sound more) f 13 (omega arith)) (λ x. wider_done (Operands.assign op p x))

    written_le : (op : AssignOperator) (p : Target) (h : ℕ) → written op (Operands.place_kind p) h ≤ h
    written_le assign.Set (target.Name name) h = omega arith
    written_le assign.Set (target.Index a i) h = omega arith
    written_le assign.Set (target.Deref a) h = omega arith
    written_le assign.Add p h = omega arith
    written_le assign.Subtract p h = omega arith
    written_le assign.Multiply p h = omega arith
    written_le assign.Divide p h = omega arith
    written_le assign.Remainder p h = omega arith

    lvalue_height : (a : Operand) (p : Lvalue) → Operands.lvalue_of a ≡ Some p → a.height ≡ p.height
    lvalue_height a p h = by a.form h
      where
        by : (f : Form) → Operands.lvalue_by a.line f a.height ≡ Some p → a.height ≡ p.height
        by (form.Target w) k = let q : Lvalue = record { line = a.line; target = w; height = a.height } in let s : q ≡ p = cc in ap (λ (z : Lvalue). z.height) s
        by (form.Value v) k = absurd cc

    assign_case : (a : Operand) → a.height ≤ suc d → (o : Option AssignOperator) (p : Option Lvalue) → Operands.lvalue_of a ≡ p → PickGrown (assign_by one fits (suc d) a o p) (assign_by two true e a o p)
    assign_case a l None p q = refl
    assign_case a l (Some op) None q = refl
    assign_case a l (Some op) (Some p) q =
        let n = written op (Operands.place_kind p.target) p.height in
        let s : a.height ≡ p.height = lvalue_height a p q in
        let w : n ≤ p.height = written_le op p.target p.height in
        rw (lt-ltb n e (omega arith)) (fit_grown (fits && nat_lt n (suc d)) (assign_rest one op p) (assign_rest two op p) (λ k. (assign_wider (both fits (nat_lt n (suc d)) k).0 op p).grows)
        (shortens (assign_rest two op p) (Stops 13) Num (Laws.assign_law two true law2 e refl op p)))

    -- ---- Levels.

    rest_case : (n : ℕ) → n ≤ 13 → (b c : Bool) (a : Operand) → a.height ≤ suc d →
        Grows {T = Signed} {A = Operand} (if b then dispatch (conditional_pick one fits (suc d) a) else if c then dispatch (assign_pick one fits (suc d) a) else loop (operator_pick one fits (suc d) n) a)
        (if b then dispatch (conditional_pick two true e a) else if c then dispatch (assign_pick two true e a) else loop (operator_pick two true e n) a)
    rest_case n m true c a l = grows_dispatch (conditional_pick one fits (suc d) a) (conditional_pick two true e a) (λ t. conditional_grown a t l)
    rest_case n m false true a l = grows_dispatch (assign_pick one fits (suc d) a) (assign_pick two true e a) (λ t. assign_case a l (assign_of t.sign) (Operands.lvalue_of a) refl)
    rest_case n m false false a l = operators_grows n m a l

    rest_grows : (n : ℕ) → n ≤ 13 → (a : Operand) → a.height ≤ suc d → Grows (level_rest one fits (suc d) n a) (level_rest two true e n a)
    unfolding level_rest
    rest_grows n m a l = rest_case n m (n == 11) (n == 12) a l

    rest_short : (n : ℕ) (a : Operand) → Shortens (level_rest two true e n a)
    rest_short n a = shortens (level_rest two true e n a) (Stops (suc n)) (Stops (suc n)) (Laws.rest_law two true law2 e n a)

    level_low : (n : ℕ) → n ≤ 13 → (t : Signed) (q : Reading Signed Operand) → level_pick one fits (suc d) n t ≡ Take q → (ts : List Signed) (a : Operand) (rest : List Signed) → q ts ≡ Ok (a, rest) → a.height ≤ suc d
    level_low n m t q h ts a rest g = (level_sound one fits law1 d sound n m (t ∷ ts) a rest (ap (λ x. picked x t ts) h ∙ g)).within

    pub level_grown : (n : ℕ) → n ≤ 13 → (t : Signed) → PickGrown (level_pick one fits (suc d) n t) (level_pick two true e n t)
    unfolding level_pick
    level_grown zero m t = (primary_grown one two fits law1 law2 d e lt sound more) t t.sign
    level_grown (suc zero) m t = unary_pick_case (is_prefix t.sign) t
    level_grown (suc (suc n)) m t =
        then_grown_by (level_rest one fits (suc d) (suc n)) (level_rest two true e (suc n)) (rest_short (suc n)) (λ a. a.height ≤ suc d) (level_pick one fits (suc d) (suc n) t) (level_pick two true e (suc n) t)
        (level_low (suc n) (omega (arith, m)) t) (level_grown (suc n) (omega (arith, m)) t) (rest_grows (suc n) (omega (arith, m)))

-- ---- What no node fits, at a wider limit.

-- Where nodes fit, a token that begins an expression is taken, and each other is refused.
module _ (low : Below) (law : Lows low true) (d : ℕ) where
  taken : (q : Reading Signed Operand) (F I : Signed → Type 0) → Law q F I → RefusalGrown {T = Signed} {A = Operand} Limit (Take q)
  taken q F I l = (q, refl, shortens q F I l)

  then_taken : (p : Reading Signed Operand) (F I : Signed → Type 0) → Law p F I → (next : Operand → Reading Signed Operand) → ((a : Operand) → Shortens (next a)) → RefusalGrown {T = Signed} {A = Operand} Limit (then_pick (Take p) next)
  then_taken p F I l next short = (seq p next, refl, shortens_seq next short p (shortens p F I l))

  post_shorts : (a : Operand) → Shortens (post low true d a)
  post_shorts a = shortens (post low true d a) (Stops 1) (Stops 1) (PrimaryLaws.post_law low true law d a)

  unary_full_by : (t : Signed) (s : Sign) → RefusalGrown (full_fault (begins s)) (if is_prefix s then prefix_pick low true d t s else then_pick (primary_pick low true t s) (post low true d))
  unary_full_by t sign.Name = then_taken (name_rest low true t) (Stops 0) (Stops 0) (PrimaryLaws.name_law low true law t) (post low true d) post_shorts
  unary_full_by t sign.Number = then_taken (done (Operands.number t)) Any Any (law_done (Operands.number t) Any) (post low true d) post_shorts
  unary_full_by t sign.Char = then_taken (done (Operands.character t)) Any Any (law_done (Operands.character t) Any) (post low true d) post_shorts
  unary_full_by t sign.Text = then_taken (done (Operands.text t)) Any Any (law_done (Operands.text t) Any) (post low true d) post_shorts
  unary_full_by t sign.OpenParen = taken (group low true d t) (Stops 1) (Is sign.Int) (Laws.group_law low true law d refl t)
  unary_full_by t sign.Minus = taken (unary_rest low unary.Minus t) (Stops 1) Num (Laws.unary_rest_law low true law d refl unary.Minus t)
  unary_full_by t sign.Not = taken (unary_rest low unary.Not t) (Stops 1) Num (Laws.unary_rest_law low true law d refl unary.Not t)
  unary_full_by t sign.Complement = taken (unary_rest low unary.Complement t) (Stops 1) Num (Laws.unary_rest_law low true law d refl unary.Complement t)
  unary_full_by t sign.Star = taken (unary_rest low unary.Deref t) (Stops 1) Num (Laws.unary_rest_law low true law d refl unary.Deref t)
  unary_full_by t sign.BitAnd = taken (address_rest low true d t) (Stops 1) Num (Laws.address_law low true law d refl t)
  unary_full_by t sign.Increment = taken (before_rest low step.Increment t) (Stops 1) (Is sign.Name) (Laws.before_law low true law d refl step.Increment t)
  unary_full_by t sign.Decrement = taken (before_rest low step.Decrement t) (Stops 1) (Is sign.Name) (Laws.before_law low true law d refl step.Decrement t)
  unary_full_by t sign.SizeOf = taken (size_of_rest t) Any (Is sign.OpenParen) (Laws.size_of_law low true law d t)
  unary_full_by t _ = refl

  rest_shorts : (n : ℕ) (a : Operand) → Shortens (level_rest low true d n a)
  rest_shorts n a = shortens (level_rest low true d n a) (Stops (suc n)) (Stops (suc n)) (Laws.rest_law low true law d n a)

  level_full : (n : ℕ) → 1 ≤ n → (t : Signed) → RefusalGrown (full_fault (begins t.sign)) (level_pick low true d n t)
  unfolding level_pick
  level_full zero m t = absurd (omega (arith, m))
  level_full (suc zero) m t = unary_full_by t t.sign
  level_full (suc (suc n)) m t = then_refused (level_rest low true d (suc n)) (level_rest low true d (suc n)) (rest_shorts (suc n)) (full_fault (begins t.sign)) (level_pick low true d (suc n) t) (level_full (suc n) (omega arith) t)

  primary_full_by : (t : Signed) (s : Sign) → (s ≡ sign.Name → ⊥) → RefusalGrown (full_fault (begins_primary s)) (primary_pick low true t s)
  primary_full_by t sign.Name h = absurd (h refl)
  primary_full_by t sign.Number h = taken (done (Operands.number t)) Any Any (law_done (Operands.number t) Any)
  primary_full_by t sign.Char h = taken (done (Operands.character t)) Any Any (law_done (Operands.character t) Any)
  primary_full_by t sign.Text h = taken (done (Operands.text t)) Any Any (law_done (Operands.text t) Any)
  primary_full_by t sign.OpenParen h = taken (paren_rest low t) Any Num (PrimaryLaws.paren_law low true law refl t)
  primary_full_by t _ h = refl

  primary_full : (t : Signed) → is_sign sign.Name t ≡ false → RefusalGrown (full_fault (begins_primary t.sign)) (level_pick low true d 0 t)
  unfolding level_pick
  primary_full t h = primary_full_by t t.sign (λ k. let y = is_true sign.Name t k in absurd cc)

-- ---- At each two limits.

called_within : (d : ℕ) (t : Signed) → t.sign ≡ sign.Name → (ts : List Signed) (x : Operand) (rest : List Signed) → (within d).call t ts ≡ Ok (x, rest) → x.height ≤ d
called_within d t e ts x rest h = ((sounds d).call t (tok sign.OpenParen) e refl ts x rest h).within

one_fits : (d : ℕ) → has_node d ≡ true → 1 ≤ d
one_fits zero e = absurd cc
one_fits (suc d) e = omega arith

pub more_at : (d e : ℕ) → d + 2 ≤ e → More (within d) (within e) (has_node d)
unfolding within
more_at d zero lt = absurd (omega (arith, lt))
more_at d (suc zero) lt = absurd (omega (arith, lt))
more_at zero (suc (suc e)) lt = record {
  level = λ f n m t. absurd cc;
  place = λ f t. absurd cc;
  call = λ f t. absurd cc;
  full = λ n m t. level_full (within (suc e)) (lows (suc e)) (suc (suc e)) n m t;
  primary = λ t h. primary_full (within (suc e)) (lows (suc e)) (suc (suc e)) t h;
}
more_at (suc d) (suc (suc e)) lt = record {
  level = λ f n m t.
      level_grown (within d) (within (suc e)) (has_node d) (lows d) (lows (suc e)) d (suc (suc e)) (omega (arith, lt)) (sounds d) (more_at d (suc e) (omega (arith, lt))) (called_within d) (one_fits d) n m t;
  place = λ f t.
      place_grown (within d) (within (suc e)) (has_node d) (lows d) (lows (suc e)) d (suc (suc e)) (omega (arith, lt)) (sounds d) (more_at d (suc e) (omega (arith, lt))) (called_within d) (one_fits d) t;
  call = λ f t. (call_wider (within d) (within (suc e)) (has_node d) (lows d) (lows (suc e)) d (suc (suc e)) (omega (arith, lt)) (sounds d) (more_at d (suc e) (omega (arith, lt))) t).grows;
  full = λ n m t. level_full (within (suc e)) (lows (suc e)) (suc (suc e)) n m t;
  primary = λ t h. primary_full (within (suc e)) (lows (suc e)) (suc (suc e)) t h;
}

tall_short : (a : Operand) → Shortens {T = Signed} (done (Operands.tall a))
tall_short a = (wider_done (Operands.tall a)).short

-- A whole expression against one within a limit that is wider by two.
pub expr_grown : (d e : ℕ) → d + 2 ≤ e → (t : Signed) → PickGrown (expr_pick d t) (expr_pick e t)
unfolding within
expr_grown zero e lt t = then_refused (λ x. done (Operands.tall x)) (λ x. done (Operands.tall x)) tall_short (full_fault (begins t.sign)) ((within e).level whole t) ((more_at zero e lt).full 13 (omega arith) t)
expr_grown (suc d) e lt t =
    then_grown (λ x. done (Operands.tall x)) (λ x. done (Operands.tall x)) tall_short ((within (suc d)).level whole t) ((within e).level whole t) ((more_at (suc d) e lt).level refl 13 (omega arith) t) (λ x. grows_done (Operands.tall x))

pub expr_grows : (d e : ℕ) → d + 2 ≤ e → Grows (expr_at d) (expr_at e)
expr_grows d e lt = grows_dispatch (expr_pick d) (expr_pick e) (expr_grown d e lt)
