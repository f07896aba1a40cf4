-- The reading of primary expressions, and of what can be written to, against one within a wider limit.
use Rattle.std.proofs.Common.{◌≡◌, ℕ, suc, ◌<◌, ◌≤◌, Bool, true, false, List, ◌∷◌, refl, sym, ap, ◌∙◌, arith, subst}
use Rattle.std.specs.Prelude.{Ok, Option, None, Some, max, if◌then◌else◌, ◌&&◌, nat_lt}
use Rattle.std.proofs.lemmas.Bool.{lt-ltb, ltb-true}
use Rattle.nx_ctree.specs.declared.sign.Sign.{Sign}
use Rattle.nx_ctree.specs.declared.sign.Sign.TheVariants as sign
use Rattle.nx_ctree.specs.declared.sign.Signed.{Signed}
use Rattle.nx_ctree.specs.declared.expression.StepOperator.{StepOperator}
use Rattle.nx_ctree.specs.Expressions.{step_of, whole}
use Rattle.nx_grammar.specs.declared.kind.Kind.{Kind}
use Rattle.nx_grammar.specs.declared.kind.Kind.TheVariants.{Syntax, Limit}
use Rattle.nx_grammar.specs.Reading.{Reading, Pick, Refuse, Pass, Take, picked, dispatch, seq, done, expect, then_pick, loop}
use Rattle.nx_grammar.specs.Lawful.{Any}
use Rattle.nx_grammar.specs.Growing.{Grows, Shortens, Wider, RefusalGrown, PickGrown}
use Rattle.nx_grammar.proofs.LoopLaws.{law_loop}
use Rattle.nx_grammar.proofs.Results.{bound, ok_same}
use Rattle.nx_grammar.proofs.Growth.{shortens, shortens_seq, grows_seq, grows_seq_by, grows_done, grows_dispatch, wider_seq, wider_done, wider_expect}
use Rattle.nx_grammar.proofs.Loops.{shorter, loop_keeps}
use Rattle.nx_grammar.proofs.LoopGrowth.{grows_loop, grows_loop_by}
use Rattle.nx_grammar.proofs.Thens.{then_grown}
use Rattle.nx_cexpr.specs.declared.operand.Form.{Form}
use Rattle.nx_cexpr.specs.declared.operand.Form.TheVariants as form
use Rattle.nx_cexpr.specs.declared.operand.Target.TheVariants as target
use Rattle.nx_cexpr.specs.declared.operand.Operand.{Operand}
use Rattle.nx_cexpr.specs.declared.operand.Lvalue.{Lvalue}
use Rattle.nx_cexpr.specs.declared.operand.Element.{Element}
use Rattle.nx_cexpr.specs.declared.operand.Arguments.{Arguments}
use Rattle.nx_cexpr.specs.Signs.{is_sign, begins, begins_primary, full_fault, Stops}
use Rattle.nx_cexpr.specs.Operands
use Rattle.nx_cexpr.specs.Reading.{Below, next_rest, comma_pick, arguments_rest, call_pick, call_rest, name_pick, name_rest, paren_rest, primary_pick, element_rest, element_pick, elements, indexed, step_by, step_pick, post_element, post_pick, post, place_rest, place_element, place_call, place_name_pick, place_name, deref_rest, place_pick}
use Rattle.nx_cexpr.proofs.SignLaws.{Is, true_is}
use Rattle.nx_cexpr.proofs.PrimaryLaws
use Rattle.nx_cexpr.proofs.PrimaryLaws.{Lows, both}
use Rattle.nx_cexpr.proofs.PrimarySound.{Sounds, element_taken}

abbrev pub Num : Signed → Type 0
Num = Is sign.Number

abbrev pub Close : Signed → Type 0
Close = Is sign.CloseParen

-- What fits here or not, against what fits.
pub fit_grown : {A : Type 0} (b : Bool) (p q : Reading Signed A) → (b ≡ true → Grows p q) → Shortens q → PickGrown {T = Signed} {A = A} (if b then Take p else Refuse Limit) (Take q)
fit_grown true p q g s = (q, refl, g refl)
fit_grown false p q g s = (q, refl, s)

pub same_done : {A : Type 0} (a : A) → PickGrown {T = Signed} {A = A} (Take (done a)) (Take (done a))
same_done a = (done a, refl, grows_done a)

-- A refused token against what became of it, with more after it.
pub then_refused : {A B : Type 0} (before next : A → Reading Signed B) → ((a : A) → Shortens (next a)) → (k : Kind) (y : Pick Signed A) → RefusalGrown k y → RefusalGrown k (then_pick y next)
then_refused before next short Syntax y h = ap (λ z. then_pick z next) h
then_refused before next short Limit y h = (seq h.0 next, ap (λ z. then_pick z next) h.1, shortens_seq next short h.0 h.2)

-- A pick's reading and more after it, where that is asked of what was read alone.
pub then_grown_by : {A B : Type 0} (before next : A → Reading Signed B) → ((a : A) → Shortens (next a)) → (P : A → Type 0) → (x y : Pick Signed A) → ((q : Reading Signed A) → x ≡ Take q → (ts : List Signed) (a : A) (rest : List Signed) → q ts ≡ Ok (a, rest) → P a) →
    PickGrown x y → ((a : A) → P a → Grows (before a) (next a)) → PickGrown (then_pick x before) (then_pick y next)
then_grown_by before next short P (Refuse k) y told h more = then_refused before next short k y h
then_grown_by before next short P (Pass a) y told h more = ap (λ z. then_pick z next) h
then_grown_by before next short P (Take q) y told h more = (seq h.0 next, ap (λ z. then_pick z next) h.1, grows_seq_by next short q h.0 before h.2 P (told q refl) more)

-- What of two limits is known one node further down.
pub record More (one two : Below) (fits : Bool) : Type 0 where
  pub level : fits ≡ true → (n : ℕ) → n ≤ 13 → (t : Signed) → PickGrown (one.level n t) (two.level n t)
  pub place : fits ≡ true → (t : Signed) → PickGrown (one.place t) (two.place t)
  pub call : fits ≡ true → (t : Signed) → Grows (one.call t) (two.call t)
  pub full : (n : ℕ) → 1 ≤ n → (t : Signed) → RefusalGrown (full_fault (begins t.sign)) (two.level n t)
  pub primary : (t : Signed) → is_sign sign.Name t ≡ false → RefusalGrown (full_fault (begins_primary t.sign)) (two.level 0 t)

module _ (one two : Below) (fits : Bool) (law1 : Lows one fits) (law2 : Lows two true) (d e : ℕ) (lt : suc d < e) (sound : Sounds one d) (more : More one two fits) where
  pub part : fits ≡ true → (n : ℕ) → n ≤ 13 → Wider (dispatch (one.level n)) (dispatch (two.level n))
  part f n m = record { grows = grows_dispatch (one.level n) (two.level n) (more.level f n m); short = shortens (dispatch (two.level n)) (Stops n) Num (law2.level refl n) }

  -- ---- Calls and primary expressions.

  next_wider : fits ≡ true → (xs : Arguments) → Wider (next_rest one xs) (next_rest two xs)
  unfolding next_rest
  next_wider f xs = wider_seq (dispatch (one.level whole)) (dispatch (two.level whole)) _ _ (part f 13 (omega arith)) (λ a. wider_done (Operands.next_argument xs a))

  comma_grown : fits ≡ true → (b : Bool) (xs : Arguments) → PickGrown {T = Signed} {A = Arguments} (if b then Take (next_rest one xs) else Pass xs) (if b then Take (next_rest two xs) else Pass xs)
  comma_grown f true xs = (next_rest two xs, refl, (next_wider f xs).grows)
  comma_grown f false xs = refl

  arguments_wider : fits ≡ true → (t : Signed) (a : Operand) → Wider (arguments_rest one t a) (arguments_rest two t a)
  unfolding arguments_rest
  arguments_wider f t a =
      wider_seq (loop (comma_pick one) (Operands.first_argument a)) (loop (comma_pick two) (Operands.first_argument a)) _ _
      (record {
        grows = grows_loop (comma_pick one) (comma_pick two) Close (Stops 13) (PrimaryLaws.comma_rounds one fits law1 f) (PrimaryLaws.comma_rounds two true law2 refl) (λ xs u. comma_grown f (is_sign sign.Comma u) xs) (Operands.first_argument a);
        short = shortens (loop (comma_pick two) (Operands.first_argument a)) Close Close (law_loop (comma_pick two) Close (Stops 13) (PrimaryLaws.comma_rounds two true law2 refl) (Operands.first_argument a));
      })
      (λ xs. wider_seq (expect (is_sign sign.CloseParen)) (expect (is_sign sign.CloseParen)) _ _ (wider_expect (is_sign sign.CloseParen)) (λ c. wider_done (Operands.call t xs)))

  arguments_short : (t : Signed) (a : Operand) → Shortens (arguments_rest two t a)
  arguments_short t a = shortens (arguments_rest two t a) Any Close (PrimaryLaws.arguments_law two true law2 refl t a)

  call_grown : (b c : Bool) → (c ≡ true → fits ≡ true) → (t u : Signed) →
      PickGrown {T = Signed} {A = Operand} (if b then Take (done (Operands.call t Operands.no_arguments)) else if c then then_pick (one.level whole u) (arguments_rest one t) else Refuse (full_fault (begins u.sign)))
      (if b then Take (done (Operands.call t Operands.no_arguments)) else then_pick (two.level whole u) (arguments_rest two t))
  call_grown true c f t u = same_done (Operands.call t Operands.no_arguments)
  call_grown false true f t u = then_grown (arguments_rest one t) (arguments_rest two t) (arguments_short t) (one.level whole u) (two.level whole u) (more.level (f refl) 13 (omega arith) u) (λ a. (arguments_wider (f refl) t a).grows)
  call_grown false false f t u = then_refused (arguments_rest one t) (arguments_rest two t) (arguments_short t) (full_fault (begins u.sign)) (two.level whole u) (more.full 13 (omega arith) u)

  pub call_wider : (t : Signed) → Wider (call_rest one fits t) (call_rest two true t)
  unfolding call_rest
  call_wider t = record {
    grows = grows_dispatch (call_pick one fits t) (call_pick two true t) (λ u. call_grown (is_sign sign.CloseParen u) fits (λ f. f) t u);
    short = shortens (call_rest two true t) Any Close (PrimaryLaws.call_law two true law2 t);
  }

  name_grown : (b : Bool) (t : Signed) → PickGrown {T = Signed} {A = Operand} (if b then Take (call_rest one fits t) else Pass (Operands.name t)) (if b then Take (call_rest two true t) else Pass (Operands.name t))
  name_grown true t = (call_rest two true t, refl, (call_wider t).grows)
  name_grown false t = refl

  name_grows : (t : Signed) → Grows (name_rest one fits t) (name_rest two true t)
  unfolding name_rest
  name_grows t = grows_dispatch (name_pick one fits t) (name_pick two true t) (λ u. name_grown (is_sign sign.OpenParen u) t)

  paren_wider : fits ≡ true → (t : Signed) → Wider (paren_rest one t) (paren_rest two t)
  unfolding paren_rest
  paren_wider f t =
      wider_seq (dispatch (one.level whole)) (dispatch (two.level whole)) _ _ (part f 13 (omega arith))
      (λ a. wider_seq (expect (is_sign sign.CloseParen)) (expect (is_sign sign.CloseParen)) _ _ (wider_expect (is_sign sign.CloseParen)) (λ c. wider_done (Operands.paren t a)))

  pub primary_grown : (t : Signed) (s : Sign) → PickGrown (primary_pick one fits t s) (primary_pick two true t s)
  primary_grown t sign.Name = (name_rest two true t, refl, name_grows t)
  primary_grown t sign.Number = same_done (Operands.number t)
  primary_grown t sign.Char = same_done (Operands.character t)
  primary_grown t sign.Text = same_done (Operands.text t)
  primary_grown t sign.OpenParen = fit_grown fits (paren_rest one t) (paren_rest two t) (λ f. (paren_wider f t).grows) (shortens (paren_rest two t) Any Num (PrimaryLaws.paren_law two true law2 refl t))
  primary_grown t _ = refl

  -- ---- Indexes.

  element_wider : fits ≡ true → (a : Operand) → Wider (element_rest one a) (element_rest two a)
  unfolding element_rest
  element_wider f a =
      wider_seq (dispatch (one.level whole)) (dispatch (two.level whole)) _ _ (part f 13 (omega arith))
      (λ i. wider_seq (expect (is_sign sign.CloseBracket)) (expect (is_sign sign.CloseBracket)) _ _ (wider_expect (is_sign sign.CloseBracket)) (λ c. wider_done (Operands.element a i)))

  element_short : (a : Operand) → Shortens (element_rest two a)
  element_short a = shortens (element_rest two a) Any Num (PrimaryLaws.element_law two true law2 refl a)

  element_within : (a : Operand) (us : List Signed) (x : Element) (rest : List Signed) → a.height ≤ d → element_rest one a us ≡ Ok (x, rest) → x.height ≤ suc d
  unfolding element_rest
  element_within a us x rest l h =
      let i = bound (dispatch (one.level whole) us) _ (x, rest) h in
      let c = bound (expect (is_sign sign.CloseBracket) i.1) _ (x, rest) i.3 in
      let g = sound.level 13 (omega arith) us i.0 i.1 i.2 in
      let o = ok_same (Operands.element a i.0) x c.1 rest c.3 in
      let s : suc (max a.height i.0.height) ≡ x.height = ap (λ (z : Element). z.height) o.0 in
      omega (arith, g.within, s)

  element_grown : (b c : Bool) → (c ≡ true → fits ≡ true) → (x : Element) → PickGrown {T = Signed} {A = Element} (if b then (if c then Take (element_rest one (Operands.element_operand x)) else Refuse Limit) else Pass x) (if b then Take (element_rest two (Operands.element_operand x)) else Pass x)
  element_grown true c f x = fit_grown c (element_rest one (Operands.element_operand x)) (element_rest two (Operands.element_operand x)) (λ k. (element_wider (f k) (Operands.element_operand x)).grows) (element_short (Operands.element_operand x))
  element_grown false c f x = refl

  element_pick_grown : (x : Element) (t : Signed) → x.height ≤ suc d → PickGrown (element_pick one fits (suc d) x t) (element_pick two true e x t)
  element_pick_grown x t l = rw (lt-ltb x.height e (omega arith)) (element_grown (is_sign sign.OpenBracket t) (fits && nat_lt x.height (suc d)) (λ k. (both fits (nat_lt x.height (suc d)) k).0) x)

  element_keeps : (x : Element) (t : Signed) (us : List Signed) (q : Reading Signed Element) (y : Element) (mid : List Signed) → x.height ≤ suc d → element_pick one fits (suc d) x t ≡ Take q → q us ≡ Ok (y, mid) → y.height ≤ suc d
  element_keeps x t us q y mid p k g =
      let j = element_taken one fits law1 d sound (is_sign sign.OpenBracket t) (fits && nat_lt x.height (suc d)) x q k in
      let l : x.height < suc d = ltb-true x.height (suc d) (both fits (nat_lt x.height (suc d)) j.1).1 in
      element_within (Operands.element_operand x) us y mid (omega arith) (ap (λ (r : Reading Signed Element). r us) j.2 ∙ g)

  elements_grows : (x : Element) → x.height ≤ suc d → Grows (elements one fits (suc d) x) (elements two true e x)
  elements_grows x l =
      grows_loop_by (element_pick one fits (suc d)) (element_pick two true e) (Stops 1) (λ t. Unit {0}) (λ z. z.height ≤ suc d) (PrimaryLaws.element_rounds one fits law1 (suc d)) (PrimaryLaws.element_rounds two true law2 e)
      (λ z t us q y mid p k g. element_keeps z t us q y mid p k g) (λ z t p. element_pick_grown z t p) x l

  elements_short : (x : Element) → Shortens (elements two true e x)
  elements_short x = shortens (elements two true e x) (Stops 1) (Stops 1) (PrimaryLaws.elements_law two true law2 e x)

  -- One index and those after it.
  first_grows : fits ≡ true → (a : Operand) → a.height ≤ d → Grows (seq (element_rest one a) (elements one fits (suc d))) (seq (element_rest two a) (elements two true e))
  first_grows f a l =
      grows_seq_by (elements two true e) elements_short (element_rest one a) (element_rest two a) (elements one fits (suc d)) (element_wider f a).grows (λ x. x.height ≤ suc d) (λ ts x rest h. element_within a ts x rest l h) elements_grows

  first_short : (a : Operand) → Shortens (seq (element_rest two a) (elements two true e))
  first_short a = shortens (seq (element_rest two a) (elements two true e)) (Stops 1) Num
      (PrimaryLaws.law_first two true law2 e refl a)

  pub indexed_grows : fits ≡ true → (a : Operand) → a.height ≤ d → Grows (indexed one fits (suc d) a) (indexed two true e a)
  unfolding indexed
  indexed_grows f a l =
      grows_seq (λ o. seq (element_rest two a) (elements two true e)) (λ o. first_short a) (expect (is_sign sign.OpenBracket)) (expect (is_sign sign.OpenBracket)) (λ o. seq (element_rest one a) (elements one fits (suc d)))
      (wider_expect (is_sign sign.OpenBracket)).grows (λ o. first_grows f a l)

  -- ---- "++" and "--" after an operand.

  post_height : (a : Operand) (p : Lvalue) → Operands.post_lvalue a ≡ Some p → a.height ≡ p.height
  post_height a p h = by a.form h
    where
      by : (f : Form) → Operands.post_lvalue_by a.line f a.height ≡ Some p → a.height ≡ p.height
      by (form.Target (target.Name name)) k = let q : Lvalue = record { line = a.line; target = target.Name name; height = a.height } in let s : q ≡ p = cc in ap (λ (z : Lvalue). z.height) s
      by (form.Target (target.Index b i)) k = let q : Lvalue = record { line = a.line; target = target.Index b i; height = a.height } in let s : q ≡ p = cc in ap (λ (z : Lvalue). z.height) s
      by (form.Target (target.Deref b)) k = absurd cc
      by (form.Value v) k = absurd cc

  step_case : (a : Operand) (o : Option StepOperator) (p : Option Lvalue) → Operands.post_lvalue a ≡ p → a.height ≤ suc d → PickGrown (step_by (suc d) a o p) (step_by e a o p)
  step_case a None p q l = refl
  step_case a (Some op) None q l = refl
  step_case a (Some op) (Some p) q l =
      let s : a.height ≡ p.height = post_height a p q in
      rw (lt-ltb p.height e (omega arith)) (fit_grown (nat_lt p.height (suc d)) (done (Operands.after op p)) (done (Operands.after op p)) (λ k. grows_done (Operands.after op p)) (wider_done (Operands.after op p)).short)

  step_grown : (a : Operand) (t : Signed) → a.height ≤ suc d → PickGrown (step_pick (suc d) a t) (step_pick e a t)
  step_grown a t l = step_case a (step_of t.sign) (Operands.post_lvalue a) refl l

  step_grows : (a : Operand) → a.height ≤ suc d → Grows (dispatch (step_pick (suc d) a)) (dispatch (step_pick e a))
  step_grows a l = grows_dispatch (step_pick (suc d) a) (step_pick e a) (λ t. step_grown a t l)

  step_short : (a : Operand) → Shortens (dispatch (step_pick e a))
  step_short a = shortens (dispatch (step_pick e a)) (Stops 1) (Stops 1) (PrimaryLaws.step_law two true law2 e a)

  elements_within : (x : Element) (us : List Signed) (y : Element) (rest : List Signed) → x.height ≤ suc d → elements one fits (suc d) x us ≡ Ok (y, rest) → y.height ≤ suc d
  elements_within x us y rest l h =
      loop_keeps (element_pick one fits (suc d)) (shorter (element_pick one fits (suc d)) (Stops 1) (λ t. Unit {0}) (PrimaryLaws.element_rounds one fits law1 (suc d))) (λ z r. z.height ≤ suc d) (λ z r. z.height ≤ suc d)
      (λ z t vs q w mid k g p. element_keeps z t vs q w mid p k g)
      (λ z w t vs k p. let s : w ≡ z = (PrimaryLaws.element_rounds one fits law1 (suc d)).same z w t k in subst (λ (v : Element). v.height ≤ suc d) (sym s) p)
      x us y rest h l

  -- Indexes after a first one, and then a step.
  after_grows : (x : Element) → x.height ≤ suc d → Grows (seq (elements one fits (suc d) x) (λ f. dispatch (step_pick (suc d) (Operands.element_operand f)))) (seq (elements two true e x) (λ f. dispatch (step_pick e (Operands.element_operand f))))
  after_grows x l =
      grows_seq_by (λ f. dispatch (step_pick e (Operands.element_operand f))) (λ f. step_short (Operands.element_operand f)) (elements one fits (suc d) x) (elements two true e x) (λ f. dispatch (step_pick (suc d) (Operands.element_operand f)))
      (elements_grows x l) (λ y. y.height ≤ suc d) (λ ts y rest h. elements_within x ts y rest l h) (λ y m. step_grows (Operands.element_operand y) m)

  after_short : (x : Element) → Shortens (seq (elements two true e x) (λ f. dispatch (step_pick e (Operands.element_operand f))))
  after_short x = shortens_seq (λ f. dispatch (step_pick e (Operands.element_operand f))) (λ f. step_short (Operands.element_operand f)) (elements two true e x) (elements_short x)

  post_element_grows : fits ≡ true → (a : Operand) → a.height ≤ d → Grows (post_element one fits (suc d) a) (post_element two true e a)
  unfolding post_element
  post_element_grows f a l =
      grows_seq_by (λ x. seq (elements two true e x) (λ g. dispatch (step_pick e (Operands.element_operand g)))) after_short (element_rest one a) (element_rest two a) (λ x. seq (elements one fits (suc d) x) (λ g. dispatch (step_pick (suc d) (Operands.element_operand g))))
      (element_wider f a).grows (λ x. x.height ≤ suc d) (λ ts x rest h. element_within a ts x rest l h) after_grows

  post_element_short : (a : Operand) → Shortens (post_element two true e a)
  post_element_short a = shortens (post_element two true e a) (Stops 1) Num (PrimaryLaws.post_element_law two true law2 e refl a)

  post_case : (b c : Bool) (a : Operand) (t : Signed) → (c ≡ true → fits ≡ true) → (c ≡ true → a.height ≤ d) → a.height ≤ suc d →
      PickGrown {T = Signed} {A = Operand} (if b then (if c then Take (post_element one fits (suc d) a) else Refuse Limit) else step_pick (suc d) a t) (if b then Take (post_element two true e a) else step_pick e a t)
  post_case true c a t f m l = fit_grown c (post_element one fits (suc d) a) (post_element two true e a) (λ k. post_element_grows (f k) a (m k)) (post_element_short a)
  post_case false c a t f m l = step_grown a t l

  pub down : (h : ℕ) → (fits && nat_lt h (suc d)) ≡ true → h ≤ d
  down h k = let l : h < suc d = ltb-true h (suc d) (both fits (nat_lt h (suc d)) k).1 in omega arith

  post_grown : (a : Operand) (t : Signed) → a.height ≤ suc d → PickGrown (post_pick one fits (suc d) a t) (post_pick two true e a t)
  post_grown a t l = rw (lt-ltb a.height e (omega arith)) (post_case (is_sign sign.OpenBracket t) (fits && nat_lt a.height (suc d)) a t (λ k. (both fits (nat_lt a.height (suc d)) k).0) (down a.height) l)

  pub post_grows : (a : Operand) → a.height ≤ suc d → Grows (post one fits (suc d) a) (post two true e a)
  post_grows a l = grows_dispatch (post_pick one fits (suc d) a) (post_pick two true e a) (λ t. post_grown a t l)

  pub post_short : (a : Operand) → Shortens (post two true e a)
  post_short a = shortens (post two true e a) (Stops 1) (Stops 1) (PrimaryLaws.post_law two true law2 e a)

  -- ---- What can be written to.

  place_rest_grows : fits ≡ true → (a : Operand) → a.height ≤ d → Grows (place_rest one fits (suc d) a) (place_rest two true e a)
  unfolding place_rest
  place_rest_grows f a l = grows_seq (λ x. done (Operands.element_lvalue x)) (λ x. (wider_done (Operands.element_lvalue x)).short) (indexed one fits (suc d) a) (indexed two true e a) (λ x. done (Operands.element_lvalue x)) (indexed_grows f a l) (λ x. grows_done (Operands.element_lvalue x))

  place_rest_short : (a : Operand) → Shortens (place_rest two true e a)
  place_rest_short a = shortens (place_rest two true e a) (Stops 1) (Is sign.OpenBracket) (PrimaryLaws.place_rest_law two true law2 e refl a)

  after_place_grows : (x : Element) → x.height ≤ suc d → Grows (seq (elements one fits (suc d) x) (λ g. done (Operands.element_lvalue g))) (seq (elements two true e x) (λ g. done (Operands.element_lvalue g)))
  after_place_grows x l = grows_seq (λ g. done (Operands.element_lvalue g)) (λ g. (wider_done (Operands.element_lvalue g)).short) (elements one fits (suc d) x) (elements two true e x) (λ g. done (Operands.element_lvalue g)) (elements_grows x l) (λ g. grows_done (Operands.element_lvalue g))

  after_place_short : (x : Element) → Shortens (seq (elements two true e x) (λ g. done (Operands.element_lvalue g)))
  after_place_short x = shortens_seq (λ g. done (Operands.element_lvalue g)) (λ g. (wider_done (Operands.element_lvalue g)).short) (elements two true e x) (elements_short x)

  place_element_grows : fits ≡ true → (a : Operand) → a.height ≤ d → Grows (place_element one fits (suc d) a) (place_element two true e a)
  unfolding place_element
  place_element_grows f a l =
      grows_seq_by (λ x. seq (elements two true e x) (λ g. done (Operands.element_lvalue g))) after_place_short (element_rest one a) (element_rest two a) (λ x. seq (elements one fits (suc d) x) (λ g. done (Operands.element_lvalue g)))
      (element_wider f a).grows (λ x. x.height ≤ suc d) (λ ts x rest h. element_within a ts x rest l h) after_place_grows

  place_element_short : (a : Operand) → Shortens (place_element two true e a)
  place_element_short a = shortens (place_element two true e a) (Stops 1) Num (PrimaryLaws.place_element_law two true law2 e refl a)

  -- A call one node further down has at most d nodes.
  module _ (called : (t : Signed) → t.sign ≡ sign.Name → (ts : List Signed) (x : Operand) (rest : List Signed) → one.call t ts ≡ Ok (x, rest) → x.height ≤ d) (one_fits : fits ≡ true → 1 ≤ d) where
    place_call_grows : fits ≡ true → (t : Signed) → t.sign ≡ sign.Name → Grows (place_call one fits (suc d) t) (place_call two true e t)
    unfolding place_call
    place_call_grows f t k = grows_seq_by (place_rest two true e) place_rest_short (one.call t) (two.call t) (place_rest one fits (suc d)) (more.call f t) (λ a. a.height ≤ d) (called t k) (place_rest_grows f)

    place_call_short : (t : Signed) → Shortens (place_call two true e t)
    place_call_short t = shortens (place_call two true e t) (Stops 1) Close (PrimaryLaws.place_call_law two true law2 e refl t)

    place_name_grown : (b c : Bool) (t : Signed) → t.sign ≡ sign.Name →
        PickGrown {T = Signed} {A = Lvalue} (if b then (if fits then Take (place_element one fits (suc d) (Operands.name t)) else Refuse Limit) else if c then (if fits then Take (place_call one fits (suc d) t) else Refuse Limit) else Pass (Operands.name_lvalue t))
        (if b then Take (place_element two true e (Operands.name t)) else if c then Take (place_call two true e t) else Pass (Operands.name_lvalue t))
    place_name_grown true c t k = fit_grown fits (place_element one fits (suc d) (Operands.name t)) (place_element two true e (Operands.name t)) (λ f. place_element_grows f (Operands.name t) (one_fits f)) (place_element_short (Operands.name t))
    place_name_grown false true t k = fit_grown fits (place_call one fits (suc d) t) (place_call two true e t) (λ f. place_call_grows f t k) (place_call_short t)
    place_name_grown false false t k = refl

    place_name_grows : (t : Signed) → t.sign ≡ sign.Name → Grows (place_name one fits (suc d) t) (place_name two true e t)
    unfolding place_name
    place_name_grows t k = grows_dispatch (place_name_pick one fits (suc d) t) (place_name_pick two true e t) (λ u. place_name_grown (is_sign sign.OpenBracket u) (is_sign sign.OpenParen u) t k)

    deref_wider : fits ≡ true → (t : Signed) → Wider (deref_rest one t) (deref_rest two t)
    unfolding deref_rest
    deref_wider f t = wider_seq (dispatch (one.level 1)) (dispatch (two.level 1)) _ _ (part f 1 (omega arith)) (λ a. wider_done (Operands.deref_lvalue t a))

    -- What a primary expression's token begins has at most d nodes.
    primary_within : (t : Signed) (q : Reading Signed Operand) → one.level 0 t ≡ Take q → (ts : List Signed) (a : Operand) (rest : List Signed) → q ts ≡ Ok (a, rest) → a.height ≤ d
    primary_within t q h ts a rest g = (sound.level 0 (omega arith) (t ∷ ts) a rest (ap (λ x. picked x t ts) h ∙ g)).within

    place_case : (b c f : Bool) → f ≡ fits → (t : Signed) → is_sign sign.Name t ≡ b →
        PickGrown {T = Signed} {A = Lvalue} (if b then Take (place_name one fits (suc d) t) else if c then (if f then Take (deref_rest one t) else Refuse Limit) else if f then then_pick (one.level 0 t) (place_rest one fits (suc d)) else Refuse (full_fault (begins_primary t.sign)))
        (if b then Take (place_name two true e t) else if c then Take (deref_rest two t) else then_pick (two.level 0 t) (place_rest two true e))
    place_case true c f k t g = (place_name two true e t, refl, place_name_grows t (true_is sign.Name t g))
    place_case false true f k t g = fit_grown f (deref_rest one t) (deref_rest two t) (λ x. (deref_wider (sym k ∙ x) t).grows) (shortens (deref_rest two t) (Stops 1) Num (PrimaryLaws.deref_law two true law2 e refl t))
    place_case false false true k t g = then_grown_by (place_rest one fits (suc d)) (place_rest two true e) place_rest_short (λ a. a.height ≤ d) (one.level 0 t) (two.level 0 t) (primary_within t) (more.level (sym k) 0 (omega arith) t) (place_rest_grows (sym k))
    place_case false false false k t g = then_refused (place_rest one fits (suc d)) (place_rest two true e) place_rest_short (full_fault (begins_primary t.sign)) (two.level 0 t) (more.primary t g)

    pub place_grown : (t : Signed) → PickGrown (place_pick one fits (suc d) t) (place_pick two true e t)
    place_grown t = place_case (is_sign sign.Name t) (is_sign sign.Star t) fits refl t refl
