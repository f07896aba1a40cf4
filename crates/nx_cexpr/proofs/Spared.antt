-- No expression takes the end of a list, so each fault has a token.
use Rattle.std.proofs.Common.{◌≡◌, ℕ, zero, suc, Bool, true, false, refl, sym, ap, ◌∙◌, subst}
use Rattle.std.specs.Prelude.{Option, None, Some, if◌then◌else◌, ◌==◌, ◌&&◌, nat_lt}
use Rattle.nx_ctree.specs.declared.sign.Sign.{Sign}
use Rattle.nx_ctree.specs.declared.sign.Sign.TheVariants as sign
use Rattle.nx_ctree.specs.declared.sign.Signed.{Signed}
use Rattle.nx_ctree.specs.declared.program.Base.{Base}
use Rattle.nx_ctree.specs.declared.program.Base.TheVariants as base
use Rattle.nx_ctree.specs.declared.expression.UnaryOperator.{UnaryOperator}
use Rattle.nx_ctree.specs.declared.expression.UnaryOperator.TheVariants as unary
use Rattle.nx_ctree.specs.declared.expression.StepOperator.{StepOperator}
use Rattle.nx_ctree.specs.declared.expression.StepOperator.TheVariants as step
use Rattle.nx_ctree.specs.declared.expression.BinaryOperator.{BinaryOperator}
use Rattle.nx_ctree.specs.declared.expression.AssignOperator.{AssignOperator}
use Rattle.nx_ctree.specs.Expressions.{step_of, binary_of, assign_of, written, whole}
use Rattle.nx_grammar.specs.declared.kind.Kind.{Kind}
use Rattle.nx_grammar.specs.declared.kind.Kind.TheVariants.{Limit}
use Rattle.nx_grammar.specs.Reading.{Reading, Pick, Refuse, Pass, Take, dispatch, seq, done, expect, then_pick, loop}
use Rattle.nx_grammar.specs.Sparing.{Spares, SparesPick}
use Rattle.nx_grammar.proofs.Spares.{spares_seq, spares_done, spares_dispatch, spares_loop}
use Rattle.nx_cexpr.specs.declared.operand.Operand.{Operand}
use Rattle.nx_cexpr.specs.declared.operand.Lvalue.{Lvalue}
use Rattle.nx_cexpr.specs.declared.operand.Element.{Element}
use Rattle.nx_cexpr.specs.declared.operand.Arguments.{Arguments}
use Rattle.nx_cexpr.specs.Signs.{is_sign, is_prefix, operator_at, begins, begins_primary, full_fault, Stops}
use Rattle.nx_cexpr.specs.Types.{begins_base, const_rest, base_by, base_pick, star_pick, star_at}
use Rattle.nx_cexpr.specs.Operands
use Rattle.nx_cexpr.specs.Reading.{Below, next_rest, comma_pick, arguments_rest, call_pick, call_rest, name_pick, name_rest, paren_rest, primary_pick, element_rest, element_pick, elements, indexed, step_by, step_pick, post_element, post_pick, post, place_rest, place_element, place_call, place_name_pick, place_name, deref_rest, place_pick, unary_rest, address_rest, before_rest, cast_rest, group_rest, group_pick, group, size_of_name_rest, size_of_type_rest, size_of_pick, size_of_rest, prefix_pick, right_rest, operator_by, operator_pick, conditional_rest, conditional_pick, assign_rest, assign_by, assign_pick, level_rest, level_pick, has_node, within, expr_pick}
use Rattle.nx_cexpr.proofs.SignLaws.{Is, true_is, sign_spares}
use Rattle.nx_cexpr.proofs.PrimaryLaws.{Lows, comma_rounds, element_rounds}
use Rattle.nx_cexpr.proofs.Laws.{lows, operator_rounds}

abbrev E : Signed → Type 0
E = Is sign.End

-- ---- What is taken, by tests.

took : {A : Type 0} (t : Signed) (p q : Reading Signed A) → (E t → ⊥) → Spares E p → (let x : Pick Signed A = Take p in x) ≡ Take q → (E t → ⊥) × Spares E q
took t p q n s e = (n, subst (λ z. Spares E z) (let y : p ≡ q = cc in y) s)

took_if : {A : Type 0} (b : Bool) (k : Kind) (t : Signed) (p q : Reading Signed A) → (E t → ⊥) → (b ≡ true → Spares E p) → (let x : Pick Signed A = if b then Take p else Refuse k in x) ≡ Take q → (E t → ⊥) × Spares E q
took_if true k t p q n s e = took t p q n (s refl) e
took_if false k t p q n s e = absurd cc

-- A token of another sign is no end.
no_end : (s : Sign) (t : Signed) → t.sign ≡ s → (s ≡ sign.End → ⊥) → E t → ⊥
no_end s t e n h = n (sym e ∙ h)

signed_no_end : (s : Sign) (t : Signed) → is_sign s t ≡ true → (s ≡ sign.End → ⊥) → E t → ⊥
signed_no_end s t e n = no_end s t (true_is s t e) n

pub then_spares : {A B : Type 0} (t : Signed) (x : Pick Signed A) (next : A → Reading Signed B) → SparesPick E t x → ((a : A) → Spares E (next a)) → (q : Reading Signed B) → then_pick x next ≡ Take q → (E t → ⊥) × Spares E q
then_spares t (Refuse k) next s more q e = absurd cc
then_spares t (Pass a) next s more q e = absurd cc
then_spares {A = A} {B = B} t (Take p) next s more q e =
    let r : Reading Signed B = seq p next in
    let y : r ≡ q = cc in
    ((s.takes p refl).0, subst (λ z. Spares E z) y (spares_seq E p next (s.takes p refl).1 more))

-- ---- Base types and stars.

const_spares : Spares E const_rest
unfolding const_rest
const_spares = spares_seq E (expect (is_sign sign.CharWord)) _ (sign_spares sign.CharWord (λ e. cc)) (λ c. spares_done E base.ConstChar)

base_by_spares : (t : Signed) (s : Sign) → t.sign ≡ s → (q : Reading Signed Base) → base_by s ≡ Take q → (E t → ⊥) × Spares E q
base_by_spares t sign.Int e q h = took t (done base.Int) q (no_end sign.Int t e (λ k. cc)) (spares_done E base.Int) h
base_by_spares t sign.CharWord e q h = took t (done base.Char) q (no_end sign.CharWord t e (λ k. cc)) (spares_done E base.Char) h
base_by_spares t sign.Const e q h = took t const_rest q (no_end sign.Const t e (λ k. cc)) const_spares h
base_by_spares t _ e q h = absurd cc

pub base_spares : (t : Signed) → SparesPick E t (base_pick t)
base_spares t = record { takes = λ q h. base_by_spares t t.sign refl q h }

star_case : (t : Signed) (b : Bool) → is_sign sign.Star t ≡ b → (q : Reading Signed Bool) → (let x : Pick Signed Bool = if b then Take (done true) else Pass false in x) ≡ Take q → (E t → ⊥) × Spares E q
star_case t true e q h = took t (done true) q (signed_no_end sign.Star t e (λ k. cc)) (spares_done E true) h
star_case t false e q h = absurd cc

pub star_spares : Spares E star_at
star_spares = spares_dispatch E star_pick (λ t. record { takes = λ q h. star_case t (is_sign sign.Star t) refl q h })

-- ---- One node further down.

pub record Spared (low : Below) : Type 0 where
  pub level : (n : ℕ) (t : Signed) → SparesPick E t (low.level n t)
  pub place : (t : Signed) → SparesPick E t (low.place t)
  pub call : (t : Signed) → Spares E (low.call t)

module _ (low : Below) (fits : Bool) (law : Lows low fits) (low_spares : Spared low) where
  part : (n : ℕ) → Spares E (dispatch (low.level n))
  part n = spares_dispatch E (low.level n) (low_spares.level n)

  closing : Spares E (expect (is_sign sign.CloseParen))
  closing = sign_spares sign.CloseParen (λ e. cc)

  next_spares : (xs : Arguments) → Spares E (next_rest low xs)
  unfolding next_rest
  next_spares xs = spares_seq E (dispatch (low.level whole)) _ (part whole) (λ a. spares_done E (Operands.next_argument xs a))

  comma_case : (b : Bool) (xs : Arguments) (t : Signed) → is_sign sign.Comma t ≡ b → (q : Reading Signed Arguments) → (if b then Take (next_rest low xs) else Pass xs) ≡ Take q → (E t → ⊥) × Spares E q
  comma_case true xs t e q h = took t (next_rest low xs) q (signed_no_end sign.Comma t e (λ k. cc)) (next_spares xs) h
  comma_case false xs t e q h = absurd cc

  arguments_spares : fits ≡ true → (t : Signed) (a : Operand) → Spares E (arguments_rest low t a)
  unfolding arguments_rest
  arguments_spares f t a =
      spares_seq E (loop (comma_pick low) (Operands.first_argument a)) _
      (spares_loop E (comma_pick low) (Is sign.CloseParen) (Stops 13) (comma_rounds low fits law f) (λ xs u. record { takes = λ q h. comma_case (is_sign sign.Comma u) xs u refl q h }) (Operands.first_argument a))
      (λ xs. spares_seq E (expect (is_sign sign.CloseParen)) _ closing (λ c. spares_done E (Operands.call t xs)))

  call_case : (b c : Bool) → (c ≡ true → fits ≡ true) → (k : Kind) (t u : Signed) → is_sign sign.CloseParen u ≡ b → (q : Reading Signed Operand) →
      (if b then Take (done (Operands.call t Operands.no_arguments)) else if c then then_pick (low.level whole u) (arguments_rest low t) else Refuse k) ≡ Take q → (E u → ⊥) × Spares E q
  call_case true c f k t u e q h = took u (done (Operands.call t Operands.no_arguments)) q (signed_no_end sign.CloseParen u e (λ x. cc)) (spares_done E (Operands.call t Operands.no_arguments)) h
  call_case false true f k t u e q h = then_spares u (low.level whole u) (arguments_rest low t) (low_spares.level whole u) (arguments_spares (f refl) t) q h
  call_case false false f k t u e q h = absurd cc

  call_spares : (t : Signed) → Spares E (call_rest low fits t)
  unfolding call_rest
  call_spares t = spares_dispatch E (call_pick low fits t) (λ u. record { takes = λ q h. call_case (is_sign sign.CloseParen u) fits (λ f. f) (full_fault (begins u.sign)) t u refl q h })

  name_case : (b : Bool) (t u : Signed) → is_sign sign.OpenParen u ≡ b → (q : Reading Signed Operand) → (if b then Take (call_rest low fits t) else Pass (Operands.name t)) ≡ Take q → (E u → ⊥) × Spares E q
  name_case true t u e q h = took u (call_rest low fits t) q (signed_no_end sign.OpenParen u e (λ x. cc)) (call_spares t) h
  name_case false t u e q h = absurd cc

  name_spares : (t : Signed) → Spares E (name_rest low fits t)
  unfolding name_rest
  name_spares t = spares_dispatch E (name_pick low fits t) (λ u. record { takes = λ q h. name_case (is_sign sign.OpenParen u) t u refl q h })

  paren_spares : (t : Signed) → Spares E (paren_rest low t)
  unfolding paren_rest
  paren_spares t = spares_seq E (dispatch (low.level whole)) _ (part whole) (λ a. spares_seq E (expect (is_sign sign.CloseParen)) _ closing (λ c. spares_done E (Operands.paren t a)))

  primary_case : (t : Signed) (s : Sign) → t.sign ≡ s → (q : Reading Signed Operand) → primary_pick low fits t s ≡ Take q → (E t → ⊥) × Spares E q
  primary_case t sign.Name e q h = took t (name_rest low fits t) q (no_end sign.Name t e (λ k. cc)) (name_spares t) h
  primary_case t sign.Number e q h = took t (done (Operands.number t)) q (no_end sign.Number t e (λ k. cc)) (spares_done E (Operands.number t)) h
  primary_case t sign.Char e q h = took t (done (Operands.character t)) q (no_end sign.Char t e (λ k. cc)) (spares_done E (Operands.character t)) h
  primary_case t sign.Text e q h = took t (done (Operands.text t)) q (no_end sign.Text t e (λ k. cc)) (spares_done E (Operands.text t)) h
  primary_case t sign.OpenParen e q h = took_if fits Limit t (paren_rest low t) q (no_end sign.OpenParen t e (λ k. cc)) (λ f. paren_spares t) h
  primary_case t _ e q h = absurd cc

  element_spares : (a : Operand) → Spares E (element_rest low a)
  unfolding element_rest
  element_spares a =
      spares_seq E (dispatch (low.level whole)) _ (part whole) (λ i. spares_seq E (expect (is_sign sign.CloseBracket)) _ (sign_spares sign.CloseBracket (λ e. cc)) (λ c. spares_done E (Operands.element a i)))

  module _ (d : ℕ) where
    element_case : (b c : Bool) (x : Element) (t : Signed) → is_sign sign.OpenBracket t ≡ b → (q : Reading Signed Element) → (if b then (if c then Take (element_rest low (Operands.element_operand x)) else Refuse Limit) else Pass x) ≡ Take q → (E t → ⊥) × Spares E q
    element_case true c x t e q h = took_if c Limit t (element_rest low (Operands.element_operand x)) q (signed_no_end sign.OpenBracket t e (λ k. cc)) (λ f. element_spares (Operands.element_operand x)) h
    element_case false c x t e q h = absurd cc

    elements_spares : (x : Element) → Spares E (elements low fits d x)
    elements_spares x = spares_loop E (element_pick low fits d) (Stops 1) (λ t. Unit {0}) (element_rounds low fits law d) (λ y t. record { takes = λ q h. element_case (is_sign sign.OpenBracket t) (fits && nat_lt y.height d) y t refl q h }) x

    indexed_spares : (a : Operand) → Spares E (indexed low fits d a)
    unfolding indexed
    indexed_spares a = spares_seq E (expect (is_sign sign.OpenBracket)) _ (sign_spares sign.OpenBracket (λ e. cc)) (λ o. spares_seq E (element_rest low a) _ (element_spares a) elements_spares)

    step_case : (a : Operand) (t : Signed) (s : Sign) → t.sign ≡ s → (p : Option Lvalue) (q : Reading Signed Operand) → step_by d a (step_of s) p ≡ Take q → (E t → ⊥) × Spares E q
    step_case a t sign.Increment e None q h = absurd cc
    step_case a t sign.Increment e (Some p) q h = took_if (nat_lt p.height d) Limit t (done (Operands.after step.Increment p)) q (no_end sign.Increment t e (λ k. cc)) (λ f. spares_done E (Operands.after step.Increment p)) h
    step_case a t sign.Decrement e None q h = absurd cc
    step_case a t sign.Decrement e (Some p) q h = took_if (nat_lt p.height d) Limit t (done (Operands.after step.Decrement p)) q (no_end sign.Decrement t e (λ k. cc)) (λ f. spares_done E (Operands.after step.Decrement p)) h
    step_case a t _ e p q h = absurd cc

    step_spares : (a : Operand) → Spares E (dispatch (step_pick d a))
    step_spares a = spares_dispatch E (step_pick d a) (λ t. record { takes = λ q h. step_case a t t.sign refl (Operands.post_lvalue a) q h })

    post_element_spares : (a : Operand) → Spares E (post_element low fits d a)
    unfolding post_element
    post_element_spares a = spares_seq E (element_rest low a) _ (element_spares a) (λ x. spares_seq E (elements low fits d x) _ (elements_spares x) (λ y. step_spares (Operands.element_operand y)))

    post_case : (b c : Bool) (a : Operand) (t : Signed) → is_sign sign.OpenBracket t ≡ b → (q : Reading Signed Operand) → (if b then (if c then Take (post_element low fits d a) else Refuse Limit) else step_pick d a t) ≡ Take q → (E t → ⊥) × Spares E q
    post_case true c a t e q h = took_if c Limit t (post_element low fits d a) q (signed_no_end sign.OpenBracket t e (λ k. cc)) (λ f. post_element_spares a) h
    post_case false c a t e q h = step_case a t t.sign refl (Operands.post_lvalue a) q h

    post_spares : (a : Operand) → Spares E (post low fits d a)
    post_spares a = spares_dispatch E (post_pick low fits d a) (λ t. record { takes = λ q h. post_case (is_sign sign.OpenBracket t) (fits && nat_lt a.height d) a t refl q h })

    place_rest_spares : (a : Operand) → Spares E (place_rest low fits d a)
    unfolding place_rest
    place_rest_spares a = spares_seq E (indexed low fits d a) _ (indexed_spares a) (λ x. spares_done E (Operands.element_lvalue x))

    place_element_spares : (a : Operand) → Spares E (place_element low fits d a)
    unfolding place_element
    place_element_spares a = spares_seq E (element_rest low a) _ (element_spares a) (λ x. spares_seq E (elements low fits d x) _ (elements_spares x) (λ y. spares_done E (Operands.element_lvalue y)))

    place_call_spares : (t : Signed) → Spares E (place_call low fits d t)
    unfolding place_call
    place_call_spares t = spares_seq E (low.call t) _ (low_spares.call t) place_rest_spares

    place_name_case : (b c : Bool) (t u : Signed) → is_sign sign.OpenBracket u ≡ b → is_sign sign.OpenParen u ≡ c → (q : Reading Signed Lvalue) →
        (if b then (if fits then Take (place_element low fits d (Operands.name t)) else Refuse Limit) else if c then (if fits then Take (place_call low fits d t) else Refuse Limit) else Pass (Operands.name_lvalue t)) ≡ Take q → (E u → ⊥) × Spares E q
    place_name_case true c t u e g q h = took_if fits Limit u (place_element low fits d (Operands.name t)) q (signed_no_end sign.OpenBracket u e (λ k. cc)) (λ f. place_element_spares (Operands.name t)) h
    place_name_case false true t u e g q h = took_if fits Limit u (place_call low fits d t) q (signed_no_end sign.OpenParen u g (λ k. cc)) (λ f. place_call_spares t) h
    place_name_case false false t u e g q h = absurd cc

    place_name_spares : (t : Signed) → Spares E (place_name low fits d t)
    unfolding place_name
    place_name_spares t = spares_dispatch E (place_name_pick low fits d t) (λ u. record { takes = λ q h. place_name_case (is_sign sign.OpenBracket u) (is_sign sign.OpenParen u) t u refl refl q h })

    deref_spares : (t : Signed) → Spares E (deref_rest low t)
    unfolding deref_rest
    deref_spares t = spares_seq E (dispatch (low.level 1)) _ (part 1) (λ a. spares_done E (Operands.deref_lvalue t a))

    place_case : (b c e : Bool) (k : Kind) (t : Signed) → is_sign sign.Name t ≡ b → is_sign sign.Star t ≡ c → (q : Reading Signed Lvalue) →
        (if b then Take (place_name low fits d t) else if c then (if e then Take (deref_rest low t) else Refuse Limit) else if e then then_pick (low.level 0 t) (place_rest low fits d) else Refuse k) ≡ Take q → (E t → ⊥) × Spares E q
    place_case true c e k t g j q h = took t (place_name low fits d t) q (signed_no_end sign.Name t g (λ x. cc)) (place_name_spares t) h
    place_case false true e k t g j q h = took_if e Limit t (deref_rest low t) q (signed_no_end sign.Star t j (λ x. cc)) (λ f. deref_spares t) h
    place_case false false true k t g j q h = then_spares t (low.level 0 t) (place_rest low fits d) (low_spares.level 0 t) place_rest_spares q h
    place_case false false false k t g j q h = absurd cc

    pub place_spares : (t : Signed) → SparesPick E t (place_pick low fits d t)
    place_spares t = record { takes = λ q h. place_case (is_sign sign.Name t) (is_sign sign.Star t) fits (full_fault (begins_primary t.sign)) t refl refl q h }

    unary_rest_spares : (op : UnaryOperator) (t : Signed) → Spares E (unary_rest low op t)
    unfolding unary_rest
    unary_rest_spares op t = spares_seq E (dispatch (low.level 1)) _ (part 1) (λ a. spares_done E (Operands.unary_operand t op a))

    address_spares : (t : Signed) → Spares E (address_rest low fits d t)
    unfolding address_rest
    address_spares t = spares_seq E (dispatch (low.level 0)) _ (part 0) (λ a. spares_seq E (indexed low fits d a) _ (indexed_spares a) (λ x. spares_done E (Operands.address t x)))

    before_spares : (op : StepOperator) (t : Signed) → Spares E (before_rest low op t)
    unfolding before_rest
    before_spares op t = spares_seq E (dispatch low.place) _ (spares_dispatch E low.place low_spares.place) (λ p. spares_done E (Operands.before t op p))

    cast_spares : (t : Signed) (b : Base) → Spares E (cast_rest low t b)
    unfolding cast_rest
    cast_spares t b = spares_seq E star_at _ star_spares (λ s. spares_seq E (expect (is_sign sign.CloseParen)) _ closing (λ c. spares_seq E (dispatch (low.level 1)) _ (part 1) (λ a. spares_done E (Operands.cast t b s a))))

    group_rest_spares : (t : Signed) (a : Operand) → Spares E (group_rest low fits d t a)
    unfolding group_rest
    group_rest_spares t a = spares_seq E (expect (is_sign sign.CloseParen)) _ closing (λ c. post_spares (Operands.paren t a))

    group_case : (b : Bool) (t u : Signed) (q : Reading Signed Operand) → (if b then then_pick (base_pick u) (cast_rest low t) else then_pick (low.level whole u) (group_rest low fits d t)) ≡ Take q → (E u → ⊥) × Spares E q
    group_case true t u q h = then_spares u (base_pick u) (cast_rest low t) (base_spares u) (cast_spares t) q h
    group_case false t u q h = then_spares u (low.level whole u) (group_rest low fits d t) (low_spares.level whole u) (group_rest_spares t) q h

    group_spares : (t : Signed) → Spares E (group low fits d t)
    unfolding group
    group_spares t = spares_dispatch E (group_pick low fits d t) (λ u. record { takes = λ q h. group_case (begins_base u.sign) t u q h })

    size_name_spares : (t n : Signed) → Spares E (size_of_name_rest t n)
    unfolding size_of_name_rest
    size_name_spares t n = spares_seq E (expect (is_sign sign.CloseParen)) _ closing (λ c. spares_done E (Operands.size_of_name t n))

    size_type_spares : (t : Signed) (b : Base) → Spares E (size_of_type_rest t b)
    unfolding size_of_type_rest
    size_type_spares t b = spares_seq E (expect (is_sign sign.CloseParen)) _ closing (λ c. spares_done E (Operands.size_of_type t b))

    size_case : (b : Bool) (t u : Signed) → is_sign sign.Name u ≡ b → (q : Reading Signed Operand) → (if b then Take (size_of_name_rest t u) else then_pick (base_pick u) (size_of_type_rest t)) ≡ Take q → (E u → ⊥) × Spares E q
    size_case true t u e q h = took u (size_of_name_rest t u) q (signed_no_end sign.Name u e (λ k. cc)) (size_name_spares t u) h
    size_case false t u e q h = then_spares u (base_pick u) (size_of_type_rest t) (base_spares u) (size_type_spares t) q h

    size_spares : (t : Signed) → Spares E (size_of_rest t)
    unfolding size_of_rest
    size_spares t = spares_seq E (expect (is_sign sign.OpenParen)) _ (sign_spares sign.OpenParen (λ e. cc)) (λ o. spares_dispatch E (size_of_pick t) (λ u. record { takes = λ q h. size_case (is_sign sign.Name u) t u refl q h }))

    prefix_case : (t : Signed) (s : Sign) → t.sign ≡ s → (q : Reading Signed Operand) → prefix_pick low fits d t s ≡ Take q → (E t → ⊥) × Spares E q
    prefix_case t sign.Minus e q h = took_if fits Limit t (unary_rest low unary.Minus t) q (no_end sign.Minus t e (λ k. cc)) (λ f. unary_rest_spares unary.Minus t) h
    prefix_case t sign.Not e q h = took_if fits Limit t (unary_rest low unary.Not t) q (no_end sign.Not t e (λ k. cc)) (λ f. unary_rest_spares unary.Not t) h
    prefix_case t sign.Complement e q h = took_if fits Limit t (unary_rest low unary.Complement t) q (no_end sign.Complement t e (λ k. cc)) (λ f. unary_rest_spares unary.Complement t) h
    prefix_case t sign.Star e q h = took_if fits Limit t (unary_rest low unary.Deref t) q (no_end sign.Star t e (λ k. cc)) (λ f. unary_rest_spares unary.Deref t) h
    prefix_case t sign.BitAnd e q h = took_if fits Limit t (address_rest low fits d t) q (no_end sign.BitAnd t e (λ k. cc)) (λ f. address_spares t) h
    prefix_case t sign.Increment e q h = took_if fits Limit t (before_rest low step.Increment t) q (no_end sign.Increment t e (λ k. cc)) (λ f. before_spares step.Increment t) h
    prefix_case t sign.Decrement e q h = took_if fits Limit t (before_rest low step.Decrement t) q (no_end sign.Decrement t e (λ k. cc)) (λ f. before_spares step.Decrement t) h
    prefix_case t sign.SizeOf e q h = took t (size_of_rest t) q (no_end sign.SizeOf t e (λ k. cc)) (size_spares t) h
    prefix_case t sign.OpenParen e q h = took_if fits Limit t (group low fits d t) q (no_end sign.OpenParen t e (λ k. cc)) (λ f. group_spares t) h
    prefix_case t _ e q h = absurd cc

    unary_case : (b : Bool) (t : Signed) (q : Reading Signed Operand) → (if b then prefix_pick low fits d t t.sign else then_pick (primary_pick low fits t t.sign) (post low fits d)) ≡ Take q → (E t → ⊥) × Spares E q
    unary_case true t q h = prefix_case t t.sign refl q h
    unary_case false t q h = then_spares t (primary_pick low fits t t.sign) (post low fits d) (record { takes = λ r k. primary_case t t.sign refl r k }) post_spares q h

    right_spares : (n : ℕ) (op : BinaryOperator) (a : Operand) → Spares E (right_rest low n op a)
    unfolding right_rest
    right_spares n op a = spares_seq E (dispatch (low.level n)) _ (part n) (λ b. spares_done E (Operands.binary op a b))

    no_operator_end : (n : ℕ) (t : Signed) (op : BinaryOperator) → operator_at n (binary_of t.sign) ≡ Some op → E t → ⊥
    no_operator_end n t op e h = let x : operator_at n (binary_of t.sign) ≡ None = ap (λ s. operator_at n (binary_of s)) h in absurd cc

    operator_case : (n : ℕ) (a : Operand) (t : Signed) (o : Option BinaryOperator) → operator_at (suc n) (binary_of t.sign) ≡ o → (q : Reading Signed Operand) → operator_by low fits d n a o ≡ Take q → (E t → ⊥) × Spares E q
    operator_case n a t None e q h = absurd cc
    operator_case n a t (Some op) e q h = took_if (fits && nat_lt a.height d) Limit t (right_rest low n op a) q (no_operator_end (suc n) t op e) (λ f. right_spares n op a) h

    conditional_spares : (a : Operand) → Spares E (conditional_rest low a)
    unfolding conditional_rest
    conditional_spares a =
        spares_seq E (dispatch (low.level whole)) _ (part whole)
        (λ b. spares_seq E (expect (is_sign sign.Colon)) _ (sign_spares sign.Colon (λ e. cc)) (λ c. spares_seq E (dispatch (low.level 12)) _ (part 12) (λ x. spares_done E (Operands.conditional a b x))))

    conditional_case : (b c : Bool) (a : Operand) (t : Signed) → is_sign sign.Question t ≡ b → (q : Reading Signed Operand) → (if b then (if c then Take (conditional_rest low a) else Refuse Limit) else Pass a) ≡ Take q → (E t → ⊥) × Spares E q
    conditional_case true c a t e q h = took_if c Limit t (conditional_rest low a) q (signed_no_end sign.Question t e (λ k. cc)) (λ f. conditional_spares a) h
    conditional_case false c a t e q h = absurd cc

    assign_spares : (op : AssignOperator) (p : Lvalue) → Spares E (assign_rest low op p)
    unfolding assign_rest
    assign_spares op p = spares_seq E (dispatch (low.level whole)) _ (part whole) (λ x. spares_done E (Operands.assign op p x))

    no_assign_end : (t : Signed) (op : AssignOperator) → assign_of t.sign ≡ Some op → E t → ⊥
    no_assign_end t op e h = let x : assign_of t.sign ≡ None = ap assign_of h in absurd cc

    assign_case : (a : Operand) (t : Signed) (o : Option AssignOperator) → assign_of t.sign ≡ o → (p : Option Lvalue) (q : Reading Signed Operand) → assign_by low fits d a o p ≡ Take q → (E t → ⊥) × Spares E q
    assign_case a t None e p q h = absurd cc
    assign_case a t (Some op) e None q h = absurd cc
    assign_case a t (Some op) e (Some p) q h = took_if (fits && nat_lt (written op (Operands.place_kind p.target) p.height) d) Limit t (assign_rest low op p) q (no_assign_end t op e) (λ f. assign_spares op p) h

    rest_case : (n : ℕ) (b c : Bool) (a : Operand) → Spares {T = Signed} {A = Operand} E (if b then dispatch (conditional_pick low fits d a) else if c then dispatch (assign_pick low fits d a) else loop (operator_pick low fits d n) a)
    rest_case n true c a = spares_dispatch E (conditional_pick low fits d a) (λ t. record { takes = λ q h. conditional_case (is_sign sign.Question t) (fits && nat_lt a.height d) a t refl q h })
    rest_case n false true a = spares_dispatch E (assign_pick low fits d a) (λ t. record { takes = λ q h. assign_case a t (assign_of t.sign) refl (Operands.lvalue_of a) q h })
    rest_case n false false a = spares_loop E (operator_pick low fits d n) (Stops (suc n)) (Stops n) (operator_rounds low fits law d n) (λ b t. record { takes = λ q h. operator_case n b t (operator_at (suc n) (binary_of t.sign)) refl q h }) a

    rest_spares : (n : ℕ) (a : Operand) → Spares E (level_rest low fits d n a)
    unfolding level_rest
    rest_spares n a = rest_case n (n == 11) (n == 12) a

    pub level_spares : (n : ℕ) (t : Signed) → SparesPick E t (level_pick low fits d n t)
    unfolding level_pick
    level_spares zero t = record { takes = λ q h. primary_case t t.sign refl q h }
    level_spares (suc zero) t = record { takes = λ q h. unary_case (is_prefix t.sign) t q h }
    level_spares (suc (suc n)) t = record { takes = λ q h. then_spares t (level_pick low fits d (suc n) t) (level_rest low fits d (suc n)) (level_spares (suc n) t) (rest_spares (suc n)) q h }

    pub called_spares : (t : Signed) → Spares E (call_rest low fits t)
    called_spares t = call_spares t

-- At each limit.
refused : {A : Type 0} (k : Kind) (t : Signed) → SparesPick {A = A} E t (Refuse k)
refused k t = record { takes = λ q h. absurd cc }

pub spared : (d : ℕ) → Spared (within d)
unfolding within
spared zero = record {
  level = λ n t. refused (full_fault (begins t.sign)) t;
  place = λ t. refused Limit t;
  call = λ t. spares_dispatch E (λ u. Refuse Limit) (λ u. refused Limit u);
}
spared (suc d) = record {
  level = λ n t. level_spares (within d) (has_node d) (lows d) (spared d) (suc d) n t;
  place = λ t. place_spares (within d) (has_node d) (lows d) (spared d) (suc d) t;
  call = λ t. called_spares (within d) (has_node d) (lows d) (spared d) (suc d) t;
}

pub expr_spares : (d : ℕ) (t : Signed) → SparesPick (Is sign.End) t (expr_pick d t)
expr_spares d t = record { takes = λ q h. then_spares t ((within d).level whole t) (λ x. done (Operands.tall x)) ((spared d).level whole t) (λ x. spares_done E (Operands.tall x)) q h }
