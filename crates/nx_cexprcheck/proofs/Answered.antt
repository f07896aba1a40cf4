-- What is answered for the form of an expression or place is answered for it.
use Rattle.std.proofs.Common.{◌≡◌, ℕ, Bool, true, false, List, refl, sym, ap, ◌∙◌, subst}
use Rattle.std.specs.Prelude.{Option, None, Some, Result, Ok}
use Rattle.nx_calls.specs.declared.row.CallRow.{CallRow}
use Rattle.nx_ctok.specs.declared.fault.CFault.{CFault}
use Rattle.nx_ctree.specs.declared.program.Base.{Base}
use Rattle.nx_ctree.specs.declared.expression.AssignOperator.{AssignOperator}
use Rattle.nx_ctree.specs.declared.expression.BinaryOperator.{BinaryOperator}
use Rattle.nx_ctree.specs.declared.expression.StepOperator.{StepOperator}
use Rattle.nx_ctree.specs.declared.expression.UnaryOperator.{UnaryOperator}
use Rattle.nx_ctree.specs.declared.expression.Expr.{Expr}
use Rattle.nx_ctree.specs.declared.expression.ExprKind.TheVariants as kind
use Rattle.nx_ctree.specs.declared.expression.Place.{Place}
use Rattle.nx_ctree.specs.declared.expression.PlaceKind.TheVariants as place
use Rattle.nx_checked.specs.declared.checked.StepValue.TheVariants as value
use Rattle.nx_crules.specs.declared.types.Target.{Target}
use Rattle.nx_crules.specs.declared.types.Typed.{Typed}
use Rattle.nx_crules.specs.Answers.{at}
use Rattle.nx_crules.specs.Rules.{paren_rule, unary_rule, cast_rule, index_rule, address_rule, binary_rule, conditional_rule, step_rule, assign_rule, index_place, deref_place}
use Rattle.nx_ctype.specs.declared.names.Names.{Names}
use Rattle.nx_ctype.specs.declared.used.Used.{Used}
use Rattle.nx_ctype.specs.Lookups.{found, missing, variable_of, value_of, target_of, bytes_in, number, entry_rule}
use Rattle.nx_ctyping.specs.Checks.{IsGivenUsing, one, two, three}
use Rattle.nx_ctyping.specs.Trees as tree
use Rattle.nx_ctyping.specs.Trees.{expr_of, place_of, args_of}
use Rattle.nx_ctyping.specs.Verdicts.{verdict, place_verdict, text_check, base_bytes, entry_check, argument_check, call_check, function_named, place_named, starts_named}
use Rattle.nx_cleaves.specs.NameAlone.{alone}
use Rattle.nx_cleaves.proofs.Forms.{at_name, at_number, at_char, at_text, at_size_of_name, at_size_of_type, at_paren, at_unary, at_cast, at_index, at_address, at_binary, at_conditional, at_before, at_after, at_assign, at_call, at_named, at_element, at_pointed}
use Rattle.nx_cleaves.proofs.Given.{leaf_exact}
use Rattle.nx_cexprcheck.specs.Code.{expression_check, place_check, one_argument_check, arguments_check}

-- A form of parts is that of the same parts.
same_two : {A B C : Type 0} (f : A → B → C) (a x : A) (b y : B) → x ≡ a → y ≡ b → f a b ≡ f x y
same_two f a x b y h g = sym (ap (λ x. f x y) h ∙ ap (λ y. f a y) g)

same_three : {A B C D : Type 0} (f : A → B → C → D) (a x : A) (b y : B) (c z : C) → x ≡ a → y ≡ b → z ≡ c → f a b c ≡ f x y z
same_three f a x b y c z h g k = sym (ap (λ x. f x y z) h ∙ (ap (λ y. f a y z) g ∙ ap (λ z. f a b z) k))

abbrev given : Typed → Result Typed CFault
given x = Ok x

abbrev no_name : Option (ℕ × List ℕ)
no_name = None

module _ (names : Names) (rows : List CallRow) where
  by_form : (e : Expr) (q : tree.Expr) (r : Result Typed CFault) (s t : Used) → expr_of e ≡ q → IsGivenUsing r t (verdict names rows q s) → IsGivenUsing r t (expression_check names rows e s)
  unfolding expression_check
  by_form e q r s t h g = subst (λ x. IsGivenUsing r t (verdict names rows x s)) (sym h) g

  by_place : (p : Place) (q : tree.Place) (r : Result Target CFault) (s t : Used) → place_of p ≡ q → IsGivenUsing r t (place_verdict names rows q s) → IsGivenUsing r t (place_check names rows p s)
  unfolding place_check
  by_place p q r s t h g = subst (λ x. IsGivenUsing r t (place_verdict names rows x s)) (sym h) g

  -- The leaves. The name is that of a slice.
  pub name_answered : (e : Expr) (name n : List ℕ) (r : Result Typed CFault) (s : Used) → e.kind ≡ kind.Name name → n ≡ name → r ≡ at e.line (found value_of (missing names n) (variable_of names n)) → IsGivenUsing r s (expression_check names rows e s)
  name_answered e name n r s k h g = by_form e (tree.Name e.line name) r s s (at_name e name k) (leaf_exact r _ s (g ∙ ap (λ n. at e.line (found value_of (missing names n) (variable_of names n))) h))

  pub size_answered : (e : Expr) (name n : List ℕ) (r : Result Typed CFault) (s : Used) → e.kind ≡ kind.SizeOfName name → n ≡ name → r ≡ at e.line (found (λ v. number (bytes_in v)) (missing names n) (variable_of names n)) → IsGivenUsing r s (expression_check names rows e s)
  size_answered e name n r s k h g = by_form e (tree.SizeOfName e.line name) r s s (at_size_of_name e name k) (leaf_exact r _ s (g ∙ ap (λ n. at e.line (found (λ v. number (bytes_in v)) (missing names n) (variable_of names n))) h))

  pub text_answered : (e : Expr) (text n : List ℕ) (r : Result Typed CFault) (s t : Used) → e.kind ≡ kind.Text text → n ≡ text → IsGivenUsing r t (text_check n s) → IsGivenUsing r t (expression_check names rows e s)
  text_answered e text n r s t k h g = by_form e (tree.Text e.line text) r s t (at_text e text k) (subst (λ n. IsGivenUsing r t (text_check n s)) h g)

  pub number_answered : (e : Expr) (n : ℕ) (x : Typed) (s : Used) → e.kind ≡ kind.Number n → x ≡ number n → IsGivenUsing (given x) s (expression_check names rows e s)
  number_answered e n x s k h = by_form e (tree.Number e.line n) (given x) s s (at_number e n k) (ap (λ x. Ok (x, s)) (sym h))

  pub char_answered : (e : Expr) (c n : ℕ) (x : Typed) (s : Used) → e.kind ≡ kind.Char c → n ≡ c → x ≡ number n → IsGivenUsing (given x) s (expression_check names rows e s)
  char_answered e c n x s k m h = by_form e (tree.Char e.line c) (given x) s s (at_char e c k) (ap (λ x. Ok (x, s)) (sym (h ∙ ap number m)))

  pub type_answered : (e : Expr) (b : Base) (n : ℕ) (x : Typed) (s : Used) → e.kind ≡ kind.SizeOfType b → n ≡ base_bytes b → x ≡ number n → IsGivenUsing (given x) s (expression_check names rows e s)
  type_answered e b n x s k m h = by_form e (tree.SizeOfType e.line b) (given x) s s (at_size_of_type e b k) (ap (λ x. Ok (x, s)) (sym (h ∙ ap number m)))

  -- One operand. It is behind a pointer.
  module _ (e a x : Expr) (r : Result Typed CFault) (s t : Used) (g : x ≡ a) where
    pub paren_answered : e.kind ≡ kind.Paren a → IsGivenUsing r t (one paren_rule e.line (expression_check names rows x) s) → IsGivenUsing r t (expression_check names rows e s)
    unfolding expression_check
    paren_answered k h = by_form e _ r s t (at_paren e a k ∙ ap (λ a. tree.Paren e.line (expr_of a)) (sym g)) h

    pub unary_answered : (op : UnaryOperator) → e.kind ≡ kind.Unary op a → IsGivenUsing r t (one (unary_rule op) e.line (expression_check names rows x) s) → IsGivenUsing r t (expression_check names rows e s)
    unfolding expression_check
    unary_answered op k h = by_form e _ r s t (at_unary e op a k ∙ ap (λ a. tree.Unary e.line op (expr_of a)) (sym g)) h

    pub cast_answered : (b : Base) (star : Bool) → e.kind ≡ kind.Cast b star a → IsGivenUsing r t (one (cast_rule b star) e.line (expression_check names rows x) s) → IsGivenUsing r t (expression_check names rows e s)
    unfolding expression_check
    cast_answered b star k h = by_form e _ r s t (at_cast e b star a k ∙ ap (λ a. tree.Cast e.line b star (expr_of a)) (sym g)) h

  -- Two operands.
  module _ (e a x b y : Expr) (r : Result Typed CFault) (s t : Used) (g : x ≡ a) (f : y ≡ b) where
    pub index_answered : e.kind ≡ kind.Index a b → IsGivenUsing r t (two index_rule e.line (expression_check names rows x) (expression_check names rows y) s) → IsGivenUsing r t (expression_check names rows e s)
    unfolding expression_check
    index_answered k h = by_form e _ r s t (at_index e a b k ∙ same_two (λ a b. tree.Index e.line (expr_of a) (expr_of b)) a x b y g f) h

    pub address_answered : e.kind ≡ kind.AddressOf a b → IsGivenUsing r t (two address_rule e.line (expression_check names rows x) (expression_check names rows y) s) → IsGivenUsing r t (expression_check names rows e s)
    unfolding expression_check
    address_answered k h = by_form e _ r s t (at_address e a b k ∙ same_two (λ a b. tree.AddressOf e.line (expr_of a) (expr_of b)) a x b y g f) h

    pub binary_answered : (op : BinaryOperator) → e.kind ≡ kind.Binary op a b → IsGivenUsing r t (two (binary_rule op) e.line (expression_check names rows x) (expression_check names rows y) s) → IsGivenUsing r t (expression_check names rows e s)
    unfolding expression_check
    binary_answered op k h = by_form e _ r s t (at_binary e op a b k ∙ same_two (λ a b. tree.Binary e.line op (expr_of a) (expr_of b)) a x b y g f) h

  pub conditional_answered : (e c w a x b y : Expr) (r : Result Typed CFault) (s t : Used) → w ≡ c → x ≡ a → y ≡ b → e.kind ≡ kind.Conditional c a b →
      IsGivenUsing r t (three conditional_rule e.line (expression_check names rows w) (expression_check names rows x) (expression_check names rows y) s) → IsGivenUsing r t (expression_check names rows e s)
  unfolding expression_check
  conditional_answered e c w a x b y r s t i g f k h = by_form e _ r s t (at_conditional e c a b k ∙ same_three (λ c a b. tree.Conditional e.line (expr_of c) (expr_of a) (expr_of b)) c w a x b y i g f) h

  -- A place, and a place and an expression.
  module _ (e : Expr) (p q : Place) (r : Result Typed CFault) (s t : Used) (g : q ≡ p) where
    pub before_answered : (op : StepOperator) → e.kind ≡ kind.Before op p → IsGivenUsing r t (one (step_rule value.New op) e.line (place_check names rows q) s) → IsGivenUsing r t (expression_check names rows e s)
    unfolding expression_check place_check
    before_answered op k h = by_form e _ r s t (at_before e op p k ∙ ap (λ p. tree.Step e.line value.New op (place_of p)) (sym g)) h

    pub after_answered : (op : StepOperator) → e.kind ≡ kind.After op p → IsGivenUsing r t (one (step_rule value.Old op) e.line (place_check names rows q) s) → IsGivenUsing r t (expression_check names rows e s)
    unfolding expression_check place_check
    after_answered op k h = by_form e _ r s t (at_after e op p k ∙ ap (λ p. tree.Step e.line value.Old op (place_of p)) (sym g)) h

    pub assign_answered : (a x : Expr) (op : AssignOperator) → x ≡ a → e.kind ≡ kind.Assign op p a → IsGivenUsing r t (two (assign_rule op) e.line (place_check names rows q) (expression_check names rows x) s) → IsGivenUsing r t (expression_check names rows e s)
    unfolding expression_check place_check
    assign_answered a x op f k h = by_form e _ r s t (at_assign e op p a k ∙ same_two (λ p a. tree.Assign e.line op (place_of p) (expr_of a)) p q a x g f) h

  -- A call.
  pub call_answered : (e : Expr) (name : List ℕ) (xs ys : List Expr) (r : Result Typed CFault) (s t : Used) → ys ≡ xs → e.kind ≡ kind.Call name xs →
      IsGivenUsing r t (call_check rows (function_named names name) (place_named rows name) e.line (arguments_check names rows (starts_named names rows name) ys) s) → IsGivenUsing r t (expression_check names rows e s)
  unfolding expression_check arguments_check
  call_answered e name xs ys r s t g k h = by_form e _ r s t (at_call e name xs k ∙ ap (λ xs. tree.Call e.line name (args_of xs)) (sym g)) h

  -- Places.
  pub named_answered : (p : Place) (name n : List ℕ) (r : Result Target CFault) (s : Used) → p.kind ≡ place.Name name → n ≡ name → r ≡ at p.line (found target_of (missing names n) (variable_of names n)) → IsGivenUsing r s (place_check names rows p s)
  named_answered p name n r s k h g = by_place p (tree.Named p.line name) r s s (at_named p name k) (leaf_exact r _ s (g ∙ ap (λ n. at p.line (found target_of (missing names n) (variable_of names n))) h))

  pub element_answered : (p : Place) (a x b y : Expr) (r : Result Target CFault) (s t : Used) → x ≡ a → y ≡ b → p.kind ≡ place.Index a b → IsGivenUsing r t (two index_place p.line (expression_check names rows x) (expression_check names rows y) s) →
      IsGivenUsing r t (place_check names rows p s)
  unfolding expression_check
  element_answered p a x b y r s t g f k h = by_place p _ r s t (at_element p a b k ∙ same_two (λ a b. tree.Element p.line (expr_of a) (expr_of b)) a x b y g f) h

  pub pointed_answered : (p : Place) (a x : Expr) (r : Result Target CFault) (s t : Used) → x ≡ a → p.kind ≡ place.Deref a → IsGivenUsing r t (one deref_place p.line (expression_check names rows x) s) → IsGivenUsing r t (place_check names rows p s)
  unfolding expression_check
  pointed_answered p a x r s t g k h = by_place p _ r s t (at_pointed p a k ∙ ap (λ a. tree.Pointed p.line (expr_of a)) (sym g)) h

  -- Arguments: of a call that starts no thread, a name alone, and any other.
  pub plain_answered : (b : Bool) (e : Expr) (r : Result Typed CFault) (s t : Used) → b ≡ false → IsGivenUsing r t (expression_check names rows e s) → IsGivenUsing r t (one_argument_check names rows b e s)
  unfolding expression_check one_argument_check
  plain_answered b e r s t h g = subst (λ b. IsGivenUsing r t (argument_check names b (expr_of e) (verdict names rows (expr_of e)) s)) (sym h) g

  pub entry_answered : (b : Bool) (e : Expr) (line : ℕ) (name n : List ℕ) (r : Result Typed CFault) (s : Used) → b ≡ true → Some (line, name) ≡ alone e → n ≡ name → r ≡ at line (entry_rule names n) → IsGivenUsing r s (one_argument_check names rows b e s)
  unfolding one_argument_check alone
  entry_answered b e line name n r s h k m g =
      subst (λ b. IsGivenUsing r s (argument_check names b (expr_of e) (verdict names rows (expr_of e)) s)) (sym h)
      (subst (λ o. IsGivenUsing r s (entry_check names o (verdict names rows (expr_of e)) s)) k (leaf_exact r _ s (g ∙ ap (λ n. at line (entry_rule names n)) m)))

  pub other_answered : (b : Bool) (e : Expr) (r : Result Typed CFault) (s t : Used) → b ≡ true → no_name ≡ alone e → IsGivenUsing r t (expression_check names rows e s) → IsGivenUsing r t (one_argument_check names rows b e s)
  unfolding expression_check one_argument_check alone
  other_answered b e r s t h k g =
      subst (λ b. IsGivenUsing r t (argument_check names b (expr_of e) (verdict names rows (expr_of e)) s)) (sym h) (subst (λ o. IsGivenUsing r t (entry_check names o (verdict names rows (expr_of e)) s)) k g)
