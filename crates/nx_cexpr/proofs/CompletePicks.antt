-- What is read at the first token of each form.
use Rattle.std.proofs.Common.{◌≡◌, ℕ, ◌<◌, Bool, true, false, List, [], ◌∷◌, refl, sym, ap, ◌∙◌, arith}
use Rattle.std.specs.Prelude.{Ok, Err, Option, Some, if◌then◌else◌, ◌&&◌, nat_lt}
use Rattle.std.proofs.lemmas.Bool.{lt-ltb}
use Rattle.nx_ctree.specs.declared.sign.Sign.{Sign}
use Rattle.nx_ctree.specs.declared.sign.Sign.TheVariants as sign
use Rattle.nx_ctree.specs.declared.sign.Signed.{Signed}
use Rattle.nx_ctree.specs.declared.program.Base.{Base}
use Rattle.nx_ctree.specs.declared.expression.UnaryOperator.{UnaryOperator}
use Rattle.nx_ctree.specs.declared.expression.UnaryOperator.TheVariants as unary
use Rattle.nx_ctree.specs.declared.expression.StepOperator.{StepOperator}
use Rattle.nx_ctree.specs.declared.expression.StepOperator.TheVariants as step
use Rattle.nx_ctree.specs.Expressions.{unary_of, step_of, whole, IsBase, IsStar}
use Rattle.nx_grammar.specs.declared.kind.Kind.{Kind}
use Rattle.nx_grammar.specs.declared.kind.Kind.TheVariants.{Limit}
use Rattle.nx_grammar.specs.Reading.{Out, Reading, Pick, Refuse, Pass, Take, picked, dispatch, bind, then_pick}
use Rattle.nx_grammar.specs.Lawful.{Heads}
use Rattle.nx_grammar.proofs.Thens.{Takes, picked_then}
use Rattle.nx_cexpr.specs.declared.operand.Operand.{Operand}
use Rattle.nx_cexpr.specs.declared.operand.Lvalue.{Lvalue}
use Rattle.nx_cexpr.specs.declared.operand.Element.{Element}
use Rattle.nx_cexpr.specs.Signs.{is_sign, is_prefix, begins_primary, full_fault, Stops}
use Rattle.nx_cexpr.specs.Types.{begins_base, base_pick, base_at}
use Rattle.nx_cexpr.specs.Operands
use Rattle.nx_cexpr.specs.Reading.{Below, arguments_rest, call_rest, name_rest, primary_pick, element_rest, elements, step_pick, post_element, post, place_rest, place_element, place_call, place_name, place_pick, unary_rest, address_rest, before_rest, cast_rest, group_rest, group, size_of_name_rest, size_of_type_rest, size_of_pick, size_of_rest, prefix_pick, level_pick}
use Rattle.nx_cexpr.proofs.SignLaws.{is_true, differs, other_rank}
use Rattle.nx_cexpr.proofs.PrimaryLaws.{Lows, primary_passes, base_passes}
use Rattle.nx_cexpr.proofs.Forms.{base_complete, star_complete, paren_on, indexed_on, place_call_on, deref_on, unary_on, address_on, before_on, cast_on, group_on, size_name_on, size_type_on}
use Rattle.nx_cexpr.proofs.CompleteStarts.{Starts, no_base, no_close, base_begins, base_no_name}

-- A token that goes on with no index and no call.
pub record Closed (t : Signed) : Type 0 where
  pub call : is_sign sign.OpenParen t ≡ false
  pub index : is_sign sign.OpenBracket t ≡ false

pub stop_closes : (t : Signed) → Stops 1 t → Closed t
stop_closes t h = record { call = other_rank sign.OpenParen 0 t refl (omega (arith, h)); index = other_rank sign.OpenBracket 1 t refl h }

pub stops_close : (r : List Signed) → Heads (Stops 1) r → Heads Closed r
stops_close [] h = h
stops_close (t ∷ ts) h = stop_closes t h

pub sign_closes : (s : Sign) (t : Signed) → t.sign ≡ s → (s ≡ sign.OpenParen → ⊥) → (s ≡ sign.OpenBracket → ⊥) → Closed t
sign_closes s t e f g = record { call = differs sign.OpenParen t (λ k. f (sym e ∙ k)); index = differs sign.OpenBracket t (λ k. g (sym e ∙ k)) }

-- A reading after two others.
pub bind_bind : {A B C : Type 0} (o : Out Signed A) (f : A → Reading Signed B) (g : B → Reading Signed C) → bind o (λ x ts. bind (f x ts) g) ≡ bind (bind o f) g
bind_bind (Ok x) f g = refl
bind_bind (Err e) f g = refl

-- What fits is taken.
fit_taken : {A : Type 0} (b : Bool) (k : Kind) (p : Reading Signed A) (t : Signed) (us : List Signed) → b ≡ true → picked (if b then Take p else Refuse k) t us ≡ p us
fit_taken true k p t us e = refl
fit_taken false k p t us e = absurd cc

module _ (low : Below) (fits : Bool) (law : Lows low fits) (passes : (n : ℕ) (t : Signed) → Takes (low.level n t)) (d : ℕ) where
  -- ---- Primary expressions.

  pub primary_on : (t : Signed) (us : List Signed) (s : Sign) (o : Out Signed Operand) → t.sign ≡ s → picked (primary_pick low fits t s) t us ≡ o → dispatch (level_pick low fits d 0) (t ∷ us) ≡ o
  unfolding level_pick
  primary_on t us s o e h = ap (λ x. picked (primary_pick low fits t x) t us) e ∙ h

  pub post_on : (t : Signed) (us : List Signed) (s : Sign) (x : Operand) (mid : List Signed) → t.sign ≡ s → is_prefix s ≡ false → picked (primary_pick low fits t s) t us ≡ Ok (x, mid) → dispatch (level_pick low fits d 1) (t ∷ us) ≡ post low fits d x mid
  unfolding level_pick
  post_on t us s x mid e g h =
      ap (λ m. picked (if is_prefix m then prefix_pick low fits d t m else then_pick (primary_pick low fits t m) (post low fits d)) t us) e
      ∙ ap (λ (b : Bool). picked (if b then prefix_pick low fits d t s else then_pick (primary_pick low fits t s) (post low fits d)) t us) g
      ∙ picked_then (primary_pick low fits t s) (post low fits d) t us (primary_passes low fits law t s)
      ∙ ap (λ o. bind o (post low fits d)) h

  pub prefix_on : (t : Signed) (us : List Signed) (s : Sign) (o : Out Signed Operand) → t.sign ≡ s → is_prefix s ≡ true → picked (prefix_pick low fits d t s) t us ≡ o → dispatch (level_pick low fits d 1) (t ∷ us) ≡ o
  unfolding level_pick
  prefix_on t us s o e g h =
      ap (λ m. picked (if is_prefix m then prefix_pick low fits d t m else then_pick (primary_pick low fits t m) (post low fits d)) t us) e
      ∙ ap (λ (b : Bool). picked (if b then prefix_pick low fits d t s else then_pick (primary_pick low fits t s) (post low fits d)) t us) g
      ∙ h

  pub name_on : (t : Signed) (r : List Signed) → Heads (λ u. is_sign sign.OpenParen u ≡ false) r → name_rest low fits t r ≡ Ok (Operands.name t, r)
  unfolding name_rest
  name_on t [] h = absurd h
  name_on t (u ∷ us) h = rw h refl

  pub called_on : (t o : Signed) (us : List Signed) → o.sign ≡ sign.OpenParen → name_rest low fits t (o ∷ us) ≡ call_rest low fits t us
  unfolding name_rest
  called_on t o us e = rw (is_true sign.OpenParen o e) refl

  -- ---- Calls.

  pub call_none_on : (t c : Signed) (rest : List Signed) → c.sign ≡ sign.CloseParen → call_rest low fits t (c ∷ rest) ≡ Ok (Operands.call t Operands.no_arguments, rest)
  unfolding call_rest
  call_none_on t c rest e = rw (is_true sign.CloseParen c e) refl

  pub call_some_on : fits ≡ true → (t : Signed) (ts : List Signed) → Starts ts → (a : Operand) (mid : List Signed) → dispatch (low.level whole) ts ≡ Ok (a, mid) → call_rest low fits t ts ≡ arguments_rest low t a mid
  unfolding call_rest
  call_some_on f t [] h a mid e = absurd h
  call_some_on f t (u ∷ us) h a mid e =
      rw (no_close u h, f) (picked_then (low.level whole u) (arguments_rest low t) u us (passes whole u) ∙ ap (λ o. bind o (arguments_rest low t)) e)

  -- ---- Expressions in parentheses, and casts.

  pub group_expr_on : (t c : Signed) (ts : List Signed) → Starts ts → (a : Operand) (rest : List Signed) → dispatch (low.level whole) ts ≡ Ok (a, c ∷ rest) → c.sign ≡ sign.CloseParen → group low fits d t ts ≡ post low fits d (Operands.paren t a) rest
  unfolding group
  group_expr_on t c [] h a rest e g = absurd h
  group_expr_on t c (u ∷ us) h a rest e g =
      ap (λ (b : Bool). picked (if b then then_pick (base_pick u) (cast_rest low t) else then_pick (low.level whole u) (group_rest low fits d t)) u us) (no_base u.sign h)
      ∙ picked_then (low.level whole u) (group_rest low fits d t) u us (passes whole u)
      ∙ ap (λ o. bind o (group_rest low fits d t)) e
      ∙ group_on low fits d t c a rest g

  cast_begun : (t : Signed) (ts us : List Signed) (b : Base) → Heads (λ u. begins_base u.sign ≡ true) ts → base_at ts ≡ Ok (b, us) → group low fits d t ts ≡ cast_rest low t b us
  unfolding group
  cast_begun t [] us b h e = absurd h
  cast_begun t (u ∷ vs) us b h e =
      ap (λ (b : Bool). picked (if b then then_pick (base_pick u) (cast_rest low t) else then_pick (low.level whole u) (group_rest low fits d t)) u vs) h
      ∙ picked_then (base_pick u) (cast_rest low t) u vs (base_passes u)
      ∙ ap (λ o. bind o (cast_rest low t)) e

  pub group_cast_on : (t c : Signed) (ts us vs : List Signed) (b : Base) (s : Bool) → IsBase ts b us → IsStar us s (c ∷ vs) → c.sign ≡ sign.CloseParen → (a : Operand) (rest : List Signed) → dispatch (low.level 1) vs ≡ Ok (a, rest) → group low fits d t ts ≡ Ok (Operands.cast t b s a, rest)
  group_cast_on t c ts us vs b s x y e a rest g =
      cast_begun t ts us b (base_begins x) (base_complete x)
      ∙ cast_on low fits d t c b s us vs a rest (star_complete y (differs sign.Star c (λ k. let z : sign.CloseParen ≡ sign.Star = sym e ∙ k in absurd cc))) e g

  -- ---- Sizes.

  pub size_name_read : (t o n c : Signed) (rest : List Signed) → o.sign ≡ sign.OpenParen → n.sign ≡ sign.Name → c.sign ≡ sign.CloseParen → size_of_rest t (o ∷ n ∷ c ∷ rest) ≡ Ok (Operands.size_of_name t n, rest)
  unfolding size_of_rest
  size_name_read t o n c rest e f g = rw (is_true sign.OpenParen o e, is_true sign.Name n f) (size_name_on low fits d t n c rest g)

  size_begun : (t : Signed) (ts us : List Signed) (b : Base) → Heads (λ u. begins_base u.sign ≡ true) ts → base_at ts ≡ Ok (b, us) → dispatch (size_of_pick t) ts ≡ size_of_type_rest t b us
  size_begun t [] us b h e = absurd h
  size_begun t (u ∷ vs) us b h e =
      ap (λ (b : Bool). picked (if b then Take (size_of_name_rest t u) else then_pick (base_pick u) (size_of_type_rest t)) u vs) (base_no_name u h)
      ∙ picked_then (base_pick u) (size_of_type_rest t) u vs (base_passes u)
      ∙ ap (λ o. bind o (size_of_type_rest t)) e

  pub size_type_read : (t o c : Signed) (ts rest : List Signed) (b : Base) → o.sign ≡ sign.OpenParen → IsBase ts b (c ∷ rest) → c.sign ≡ sign.CloseParen → size_of_rest t (o ∷ ts) ≡ Ok (Operands.size_of_type t b, rest)
  unfolding size_of_rest
  size_type_read t o c ts rest b e x g =
      rw (is_true sign.OpenParen o e) (size_begun t ts (c ∷ rest) b (base_begins x) (base_complete x) ∙ size_type_on low fits d t c b rest g)

  -- ---- Indexes after an operand.

  pub post_goes : fits ≡ true → (a : Operand) → a.height < d → (o : Signed) (us : List Signed) → o.sign ≡ sign.OpenBracket →
      post low fits d a (o ∷ us) ≡ bind (bind (element_rest low a us) (elements low fits d)) (λ y. dispatch (step_pick d (Operands.element_operand y)))
  unfolding post_element
  post_goes f a l o us e =
      ap (λ (c : Bool). picked (if c then (if fits && nat_lt a.height d then Take (post_element low fits d a) else Refuse Limit) else step_pick d a o) o us) (is_true sign.OpenBracket o e)
      ∙ fit_taken (fits && nat_lt a.height d) Limit (post_element low fits d a) o us (rw (f, lt-ltb a.height d l) refl)
      ∙ (bind_bind (element_rest low a us) (elements low fits d) (λ y. dispatch (step_pick d (Operands.element_operand y))))

  pub post_closed : (a : Operand) (r : List Signed) → Heads Closed r → post low fits d a r ≡ dispatch (step_pick d a) r
  post_closed a [] h = absurd h
  post_closed a (u ∷ us) h = let g = h.index in rw g refl

  -- ---- What can be written to.

  pub place_goes : (a : Operand) (o : Signed) (us : List Signed) → o.sign ≡ sign.OpenBracket →
      place_rest low fits d a (o ∷ us) ≡ bind (bind (element_rest low a us) (elements low fits d)) (λ y ts. Ok (Operands.element_lvalue y, ts))
  unfolding place_rest
  place_goes a o us e = ap (λ z. bind z (λ y ts. Ok (Operands.element_lvalue y, ts))) (indexed_on low fits d a o us e)

  pub place_name_on : (t : Signed) (us : List Signed) (o : Out Signed Lvalue) → t.sign ≡ sign.Name → place_name low fits d t us ≡ o → dispatch (place_pick low fits d) (t ∷ us) ≡ o
  place_name_on t us o e h = rw (is_true sign.Name t e) h

  pub name_place_on : (t : Signed) (r : List Signed) → Heads Closed r → place_name low fits d t r ≡ Ok (Operands.name_lvalue t, r)
  unfolding place_name
  name_place_on t [] h = absurd h
  name_place_on t (u ∷ us) h = let g = h.index in let k = h.call in rw (g, k) refl

  pub name_index_on : fits ≡ true → (t o : Signed) (us : List Signed) → o.sign ≡ sign.OpenBracket → place_name low fits d t (o ∷ us) ≡ place_rest low fits d (Operands.name t) (o ∷ us)
  unfolding place_name place_element
  name_index_on f t o us e =
      ap (λ (c : Bool). picked (if c then (if fits then Take (place_element low fits d (Operands.name t)) else Refuse Limit) else if is_sign sign.OpenParen o then (if fits then Take (place_call low fits d t) else Refuse Limit) else Pass (Operands.name_lvalue t)) o us) (is_true sign.OpenBracket o e)
      ∙ fit_taken fits Limit (place_element low fits d (Operands.name t)) o us f
      ∙ bind_bind (element_rest low (Operands.name t) us) (elements low fits d) (λ y ts. Ok (Operands.element_lvalue y, ts))
      ∙ sym (place_goes (Operands.name t) o us e)

  pub name_call_on : fits ≡ true → (t o : Signed) (us : List Signed) (a : Operand) (rest : List Signed) → o.sign ≡ sign.OpenParen → low.call t us ≡ Ok (a, rest) → place_name low fits d t (o ∷ us) ≡ place_rest low fits d a rest
  unfolding place_name
  name_call_on f t o us a rest e h =
      ap (λ (c : Bool). picked (if c then (if fits then Take (place_element low fits d (Operands.name t)) else Refuse Limit) else if is_sign sign.OpenParen o then (if fits then Take (place_call low fits d t) else Refuse Limit) else Pass (Operands.name_lvalue t)) o us)
      (differs sign.OpenBracket o (λ k. let z : sign.OpenParen ≡ sign.OpenBracket = sym e ∙ k in absurd cc))
      ∙ ap (λ (c : Bool). picked (if c then (if fits then Take (place_call low fits d t) else Refuse Limit) else Pass (Operands.name_lvalue t)) o us) (is_true sign.OpenParen o e)
      ∙ fit_taken fits Limit (place_call low fits d t) o us f
      ∙ place_call_on low fits d t us a rest h

  pub place_deref_on : fits ≡ true → (t : Signed) (us : List Signed) (a : Operand) (rest : List Signed) → t.sign ≡ sign.Star → dispatch (low.level 1) us ≡ Ok (a, rest) → dispatch (place_pick low fits d) (t ∷ us) ≡ Ok (Operands.deref_lvalue t a, rest)
  place_deref_on f t us a rest e h =
      rw (differs sign.Name t (λ k. let z : sign.Star ≡ sign.Name = sym e ∙ k in absurd cc), is_true sign.Star t e, f) (deref_on low fits d t us a rest h)

  -- A primary expression that is no name, with an index.
  pub place_value_on : fits ≡ true → (t : Signed) (us : List Signed) (s : Sign) → t.sign ≡ s → (s ≡ sign.Name → ⊥) → (s ≡ sign.Star → ⊥) → (a : Operand) (mid : List Signed) → dispatch (low.level 0) (t ∷ us) ≡ Ok (a, mid) →
      dispatch (place_pick low fits d) (t ∷ us) ≡ place_rest low fits d a mid
  place_value_on f t us s e g k a mid h =
      rw (differs sign.Name t (λ x. g (sym e ∙ x)), differs sign.Star t (λ x. k (sym e ∙ x)))
      (ap (λ (c : Bool). picked (if c then then_pick (low.level 0 t) (place_rest low fits d) else Refuse (full_fault (begins_primary t.sign))) t us) f
      ∙ picked_then (low.level 0 t) (place_rest low fits d) t us (passes 0 t) ∙ ap (λ o. bind o (place_rest low fits d)) h)

  -- ---- Operators before an operand.

  pub unary_read : fits ≡ true → (t : Signed) (op : UnaryOperator) → unary_of t.sign ≡ Some op → (us : List Signed) (a : Operand) (rest : List Signed) → dispatch (low.level 1) us ≡ Ok (a, rest) → dispatch (level_pick low fits d 1) (t ∷ us) ≡ Ok (Operands.unary_operand t op a, rest)
  unary_read f t op e us a rest h = by t.sign refl e
    where
      one : (s : Sign) (p : UnaryOperator) → t.sign ≡ s → is_prefix s ≡ true → (let x : Pick Signed Operand = Take (unary_rest low p t) in prefix_pick low fits d t s ≡ x) → (let x : Option UnaryOperator = Some p in x) ≡ Some op → dispatch (level_pick low fits d 1) (t ∷ us) ≡ Ok (Operands.unary_operand t op a, rest)
      one s p k g m j = let same : p ≡ op = cc in prefix_on t us s (Ok (Operands.unary_operand t op a, rest)) k g (ap (λ x. picked x t us) m ∙ ap (λ x. unary_rest low x t us) same ∙ unary_on low fits d op t us a rest h)

      by : (s : Sign) → t.sign ≡ s → unary_of s ≡ Some op → dispatch (level_pick low fits d 1) (t ∷ us) ≡ Ok (Operands.unary_operand t op a, rest)
      by sign.Minus k g = one sign.Minus unary.Minus k refl (rw f refl) g
      by sign.Not k g = one sign.Not unary.Not k refl (rw f refl) g
      by sign.Complement k g = one sign.Complement unary.Complement k refl (rw f refl) g
      by sign.Star k g = one sign.Star unary.Deref k refl (rw f refl) g
      by _ k g = absurd cc

  pub before_read : fits ≡ true → (t : Signed) (op : StepOperator) → step_of t.sign ≡ Some op → (us : List Signed) (p : Lvalue) (rest : List Signed) → dispatch low.place us ≡ Ok (p, rest) → dispatch (level_pick low fits d 1) (t ∷ us) ≡ Ok (Operands.before t op p, rest)
  before_read f t op e us p rest h = by t.sign refl e
    where
      one : (s : Sign) (q : StepOperator) → t.sign ≡ s → is_prefix s ≡ true → (let x : Pick Signed Operand = Take (before_rest low q t) in prefix_pick low fits d t s ≡ x) → (let x : Option StepOperator = Some q in x) ≡ Some op → dispatch (level_pick low fits d 1) (t ∷ us) ≡ Ok (Operands.before t op p, rest)
      one s q k g m j = let same : q ≡ op = cc in prefix_on t us s (Ok (Operands.before t op p, rest)) k g (ap (λ x. picked x t us) m ∙ ap (λ x. before_rest low x t us) same ∙ before_on low fits d op t us p rest h)

      by : (s : Sign) → t.sign ≡ s → step_of s ≡ Some op → dispatch (level_pick low fits d 1) (t ∷ us) ≡ Ok (Operands.before t op p, rest)
      by sign.Increment k g = one sign.Increment step.Increment k refl (rw f refl) g
      by sign.Decrement k g = one sign.Decrement step.Decrement k refl (rw f refl) g
      by _ k g = absurd cc

  pub address_read : fits ≡ true → (t o : Signed) (ts us : List Signed) (a : Operand) (x : Element) (rest : List Signed) → t.sign ≡ sign.BitAnd → dispatch (low.level 0) ts ≡ Ok (a, o ∷ us) → o.sign ≡ sign.OpenBracket →
      bind (element_rest low a us) (elements low fits d) ≡ Ok (x, rest) → dispatch (level_pick low fits d 1) (t ∷ ts) ≡ Ok (Operands.address t x, rest)
  address_read f t o ts us a x rest e g k h =
      prefix_on t ts sign.BitAnd (Ok (Operands.address t x, rest)) e refl
      (fit_taken fits Limit (address_rest low fits d t) t ts f ∙ address_on low fits d t ts (o ∷ us) a x rest g (indexed_on low fits d a o us k ∙ h))

  pub group_read : fits ≡ true → (t : Signed) (ts : List Signed) (o : Out Signed Operand) → t.sign ≡ sign.OpenParen → group low fits d t ts ≡ o → dispatch (level_pick low fits d 1) (t ∷ ts) ≡ o
  group_read f t ts o e h = prefix_on t ts sign.OpenParen o e refl (fit_taken fits Limit (group low fits d t) t ts f ∙ h)

  pub size_read : (t : Signed) (ts : List Signed) (o : Out Signed Operand) → t.sign ≡ sign.SizeOf → size_of_rest t ts ≡ o → dispatch (level_pick low fits d 1) (t ∷ ts) ≡ o
  size_read t ts o e h = prefix_on t ts sign.SizeOf o e refl h

  pub paren_read : fits ≡ true → (t c : Signed) (ts : List Signed) (a : Operand) (rest : List Signed) → t.sign ≡ sign.OpenParen → dispatch (low.level whole) ts ≡ Ok (a, c ∷ rest) → c.sign ≡ sign.CloseParen → dispatch (level_pick low fits d 0) (t ∷ ts) ≡ Ok (Operands.paren t a, rest)
  paren_read f t c ts a rest e g h = primary_on t ts sign.OpenParen (Ok (Operands.paren t a, rest)) e (rw f (paren_on low fits d t c ts a rest g h))
