-- The laws of reading primary expressions, what stands after them, and what can be written to.
use Rattle.std.proofs.Common.{◌≡◌, ℕ, ◌<◌, Bool, true, false, List, [], ◌∷◌, refl, sym, ap, ◌∙◌, arith, subst, lit<}
use Rattle.std.specs.Prelude.{Ok, Option, None, Some, if◌then◌else◌, ◌&&◌, nat_lt}
use Rattle.nx_ctree.specs.declared.sign.Sign.{Sign}
use Rattle.nx_ctree.specs.declared.sign.Sign.TheVariants as sign
use Rattle.nx_ctree.specs.declared.sign.Signed.{Signed}
use Rattle.nx_ctree.specs.declared.program.Base.{Base}
use Rattle.nx_ctree.specs.declared.program.Base.TheVariants as base
use Rattle.nx_ctree.specs.declared.expression.StepOperator.{StepOperator}
use Rattle.nx_ctree.specs.Expressions.{step_of, whole}
use Rattle.nx_grammar.specs.declared.kind.Kind.{Kind}
use Rattle.nx_grammar.specs.declared.kind.Kind.TheVariants.{Limit}
use Rattle.nx_grammar.specs.Reading.{Reading, Pick, Refuse, Pass, Take, picked, dispatch, seq, done, expect, then_pick, loop}
use Rattle.nx_grammar.specs.Lawful.{Heads, Any, Lives, Law, Rounds}
use Rattle.nx_grammar.proofs.Sequences.{law_seq, law_done}
use Rattle.nx_grammar.proofs.Choices.{law_dispatch, taken_by}
use Rattle.nx_grammar.proofs.LoopLaws.{law_loop}
use Rattle.nx_grammar.proofs.Thens.{Takes, then_takes, then_passes}
use Rattle.nx_cexpr.specs.declared.operand.Operand.{Operand}
use Rattle.nx_cexpr.specs.declared.operand.Lvalue.{Lvalue}
use Rattle.nx_cexpr.specs.declared.operand.Element.{Element}
use Rattle.nx_cexpr.specs.declared.operand.Arguments.{Arguments}
use Rattle.nx_cexpr.specs.Signs.{is_sign, Stops, begins, begins_primary, full_fault}
use Rattle.nx_cexpr.specs.Types.{const_rest, base_by, base_pick, base_at, star_pick, star_at}
use Rattle.nx_cexpr.specs.Operands
use Rattle.nx_cexpr.specs.Reading.{Below, next_rest, comma_pick, arguments_rest, call_pick, call_rest, name_pick, name_rest, paren_rest, primary_pick, element_rest, element_pick, elements, indexed, step_by, step_pick, post_element, post_pick, post, place_rest, place_element, place_call, place_name_pick, place_name, deref_rest, place_pick}
use Rattle.nx_cexpr.proofs.SignLaws.{Is, tok, differs, other_rank, stops_at, sign_law, no_step}

abbrev pub Num : Signed → Type 0
Num = Is sign.Number

abbrev pub Close : Signed → Type 0
Close = Is sign.CloseParen

-- ---- What is taken, by tests.

pub took : {A : Type 0} (p q : Reading Signed A) (F G I : Signed → Type 0) → ((t : Signed) → G t → F t) → Law p F I → (let x : Pick Signed A = Take p in x) ≡ Take q → Lives q G Any
took p q F G I fits law e = let s : p ≡ q = cc in subst (λ x. Lives x G Any) s (taken_by p F G I fits law)

pub took_if : {A : Type 0} (b : Bool) (k : Kind) (p q : Reading Signed A) (F G I : Signed → Type 0) → ((t : Signed) → G t → F t) → (b ≡ true → Law p F I) → (let x : Pick Signed A = if b then Take p else Refuse k in x) ≡ Take q → Lives q G Any
took_if true k p q F G I fits law e = took p q F G I fits (law refl) e
took_if false k p q F G I fits law e = absurd cc

pub if_passes : {A : Type 0} (b : Bool) (k : Kind) (p : Reading Signed A) (a : A) → (let x : Pick Signed A = if b then Take p else Refuse k in x) ≡ Pass a → ⊥
if_passes true k p a e = cc
if_passes false k p a e = cc

pub both : (a b : Bool) → (a && b) ≡ true → (a ≡ true) × (b ≡ true)
both true b e = (refl, e)
both false b e = absurd cc

pub close_stops : (n : ℕ) → n < 14 → (t : Signed) → Close t → Stops n t
close_stops n l t e = stops_at sign.CloseParen n t l e

bracket_stops : (n : ℕ) → n < 14 → (t : Signed) → Is sign.CloseBracket t → Stops n t
bracket_stops n l t e = stops_at sign.CloseBracket n t l e

-- ---- Base types and stars.

const_law : Law const_rest Any (Is sign.CharWord)
unfolding const_rest
const_law = law_seq (expect (is_sign sign.CharWord)) _ Any (Is sign.CharWord) Any Any (sign_law sign.CharWord) (λ c. law_done base.ConstChar Any) (λ t i. i)

base_takes_by : (s : Sign) (q : Reading Signed Base) → base_by s ≡ Take q → Lives q Any Any
base_takes_by sign.Int q e = took (done base.Int) q Any Any Any (λ t i. i) (law_done base.Int Any) e
base_takes_by sign.CharWord q e = took (done base.Char) q Any Any Any (λ t i. i) (law_done base.Char Any) e
base_takes_by sign.Const q e = took const_rest q Any Any (Is sign.CharWord) (λ t i. i) const_law e
base_takes_by _ q e = absurd cc

pub base_takes : (t : Signed) (q : Reading Signed Base) → base_pick t ≡ Take q → Lives q Any Any
base_takes t q e = base_takes_by t.sign q e

base_passes_by : (s : Sign) (b : Base) → base_by s ≡ Pass b → ⊥
base_passes_by sign.Int b e = cc
base_passes_by sign.CharWord b e = cc
base_passes_by sign.Const b e = cc
base_passes_by _ b e = cc

pub base_passes : (t : Signed) → Takes (base_pick t)
base_passes t b e = base_passes_by t.sign b e

pub base_law : Law base_at Any (Is sign.Int)
base_law = law_dispatch base_pick Any (Is sign.Int) (record { takes = base_takes; passes = λ t a e. absurd (base_passes t a e) })
    (record { value = base.Int; words = λ r. tok sign.Int ∷ r; ends = λ r h. refl; first = λ r h. refl })

star_takes : (b : Bool) (F : Signed → Type 0) (q : Reading Signed Bool) → (let x : Pick Signed Bool = if b then Take (done true) else Pass false in x) ≡ Take q → Lives q F Any
star_takes true F q e = took (done true) q Any F Any (λ t i. tt) (law_done true Any) e
star_takes false F q e = absurd cc

star_passes : (b a : Bool) → (let x : Pick Signed Bool = if b then Take (done true) else Pass false in x) ≡ Pass a → false ≡ a
star_passes true a e = absurd cc
star_passes false a e = cc

star_ends : (F : Signed → Type 0) → ((t : Signed) → F t → is_sign sign.Star t ≡ false) → (r : List Signed) → Heads F r → star_at r ≡ Ok (false, r)
star_ends F stops [] h = absurd h
star_ends F stops (t ∷ ts) h = rw (stops t h) refl

-- A "*" or none, before tokens that are none.
pub star_law : (F : Signed → Type 0) → ((t : Signed) → F t → is_sign sign.Star t ≡ false) → Law star_at F F
star_law F stops = law_dispatch star_pick F F
    (record { takes = λ t q e. star_takes (is_sign sign.Star t) F q e; passes = λ t a e u f. (rw (stops u f) (ap Pass (star_passes (is_sign sign.Star t) a e)), f) })
    (record { value = false; words = λ r. r; ends = star_ends F stops; first = λ r h. h })

-- ---- What can be read one node further down, where there is a node.

pub record Lows (low : Below) (fits : Bool) : Type 0 where
  pub level : fits ≡ true → (n : ℕ) → Law (dispatch (low.level n)) (Stops n) Num
  pub takes : fits ≡ true → (n : ℕ) (t : Signed) (read : Reading Signed Operand) → low.level n t ≡ Take read → Lives read (Stops n) Any
  pub place : fits ≡ true → Law (dispatch low.place) (Stops 1) (Is sign.Name)
  pub call : fits ≡ true → (t : Signed) → Law (low.call t) Any Close

module _ (low : Below) (fits : Bool) (lows : Lows low fits) where
  -- ---- Primary expressions.

  pub next_law : fits ≡ true → (xs : Arguments) → Law (next_rest low xs) (Stops 13) Num
  unfolding next_rest
  next_law f xs = law_seq (dispatch (low.level whole)) _ (Stops 13) Num (Stops 13) (Stops 13) (lows.level f 13) (λ a. law_done (Operands.next_argument xs a) (Stops 13)) (λ t i. i)

  comma_takes : fits ≡ true → (b : Bool) (xs : Arguments) (q : Reading Signed Arguments) → (if b then Take (next_rest low xs) else Pass xs) ≡ Take q → Lives q (Stops 13) Any
  comma_takes f true xs q e = took (next_rest low xs) q (Stops 13) (Stops 13) Num (λ t i. i) (next_law f xs) e
  comma_takes f false xs q e = absurd cc

  comma_same : (b : Bool) (q : Reading Signed Arguments) (xs ys : Arguments) → (let z : Pick Signed Arguments = if b then Take q else Pass xs in z) ≡ Pass ys → ys ≡ xs
  comma_same true q xs ys e = absurd cc
  comma_same false q xs ys e = cc

  pub comma_rounds : fits ≡ true → Rounds (comma_pick low) Close (Stops 13)
  comma_rounds f = record {
    takes = λ xs t q e. comma_takes f (is_sign sign.Comma t) xs q e;
    stops = λ xs t h. rw (differs sign.Comma t (λ k. let x : sign.CloseParen ≡ sign.Comma = sym h ∙ k in absurd cc)) refl;
    same = λ xs ys t e. comma_same (is_sign sign.Comma t) (next_rest low xs) xs ys e;
    fits = λ t h. close_stops 13 (lit< tt) t h;
  }

  pub arguments_law : fits ≡ true → (t : Signed) (a : Operand) → Law (arguments_rest low t a) Any Close
  unfolding arguments_rest
  arguments_law f t a =
      law_seq (loop (comma_pick low) (Operands.first_argument a)) _ Close Close Any Close (law_loop (comma_pick low) Close (Stops 13) (comma_rounds f) (Operands.first_argument a))
      (λ xs. law_seq (expect (is_sign sign.CloseParen)) _ Any Close Any Any (sign_law sign.CloseParen) (λ c. law_done (Operands.call t xs) Any) (λ u i. tt)) (λ u i. i)

  call_takes : (b c : Bool) → (c ≡ true → fits ≡ true) → (t u : Signed) (q : Reading Signed Operand) →
      (if b then Take (done (Operands.call t Operands.no_arguments)) else if c then then_pick (low.level whole u) (arguments_rest low t) else Refuse (full_fault (begins u.sign))) ≡ Take q → Lives q Any Any
  call_takes true c f t u q e = took (done (Operands.call t Operands.no_arguments)) q Any Any Any (λ v i. i) (law_done (Operands.call t Operands.no_arguments) Any) e
  call_takes false true f t u q e = then_takes (low.level whole u) (arguments_rest low t) (Stops 13) Any Close (λ r k. lows.takes (f refl) 13 u r k) (λ a. arguments_law (f refl) t a) (close_stops 13 (lit< tt)) q e
  call_takes false false f t u q e = absurd cc

  call_passes : (b c : Bool) (t u : Signed) (a : Operand) →
      (if b then Take (done (Operands.call t Operands.no_arguments)) else if c then then_pick (low.level whole u) (arguments_rest low t) else Refuse (full_fault (begins u.sign))) ≡ Pass a → ⊥
  call_passes true c t u a e = cc
  call_passes false true t u a e = then_passes (low.level whole u) (arguments_rest low t) a e
  call_passes false false t u a e = cc

  pub call_law : (t : Signed) → Law (call_rest low fits t) Any Close
  unfolding call_rest
  call_law t = law_dispatch (call_pick low fits t) Any Close
      (record { takes = λ u q e. call_takes (is_sign sign.CloseParen u) fits (λ f. f) t u q e; passes = λ u a e. absurd (call_passes (is_sign sign.CloseParen u) fits t u a e) })
      (record { value = Operands.call t Operands.no_arguments; words = λ r. tok sign.CloseParen ∷ r; ends = λ r h. refl; first = λ r h. refl })

  name_takes : (b : Bool) (t : Signed) (q : Reading Signed Operand) → (if b then Take (call_rest low fits t) else Pass (Operands.name t)) ≡ Take q → Lives q (Stops 0) Any
  name_takes true t q e = took (call_rest low fits t) q Any (Stops 0) Close (λ u i. tt) (call_law t) e
  name_takes false t q e = absurd cc

  name_passes : (b : Bool) (q : Reading Signed Operand) (x a : Operand) → (let z : Pick Signed Operand = if b then Take q else Pass x in z) ≡ Pass a → x ≡ a
  name_passes true q x a e = absurd cc
  name_passes false q x a e = cc

  name_ends : (t : Signed) (r : List Signed) → Heads (Stops 0) r → dispatch (name_pick low fits t) r ≡ Ok (Operands.name t, r)
  name_ends t [] h = absurd h
  name_ends t (u ∷ us) h = rw (other_rank sign.OpenParen 0 u refl h) refl

  pub name_law : (t : Signed) → Law (name_rest low fits t) (Stops 0) (Stops 0)
  unfolding name_rest
  name_law t = law_dispatch (name_pick low fits t) (Stops 0) (Stops 0)
      (record {
        takes = λ u q e. name_takes (is_sign sign.OpenParen u) t q e;
        passes = λ u a e v f. (rw (other_rank sign.OpenParen 0 v refl f) (ap Pass (name_passes (is_sign sign.OpenParen u) (call_rest low fits t) (Operands.name t) a e)), f);
      })
      (record { value = Operands.name t; words = λ r. r; ends = name_ends t; first = λ r h. h })

  pub paren_law : fits ≡ true → (t : Signed) → Law (paren_rest low t) Any Num
  unfolding paren_rest
  paren_law f t =
      law_seq (dispatch (low.level whole)) _ (Stops 13) Num Any Close (lows.level f 13)
      (λ a. law_seq (expect (is_sign sign.CloseParen)) _ Any Close Any Any (sign_law sign.CloseParen) (λ c. law_done (Operands.paren t a) Any) (λ u i. tt)) (close_stops 13 (lit< tt))

  pub primary_takes : (t : Signed) (s : Sign) (q : Reading Signed Operand) → primary_pick low fits t s ≡ Take q → Lives q (Stops 0) Any
  primary_takes t sign.Name q e = took (name_rest low fits t) q (Stops 0) (Stops 0) (Stops 0) (λ u i. i) (name_law t) e
  primary_takes t sign.Number q e = took (done (Operands.number t)) q Any (Stops 0) Any (λ u i. tt) (law_done (Operands.number t) Any) e
  primary_takes t sign.Char q e = took (done (Operands.character t)) q Any (Stops 0) Any (λ u i. tt) (law_done (Operands.character t) Any) e
  primary_takes t sign.Text q e = took (done (Operands.text t)) q Any (Stops 0) Any (λ u i. tt) (law_done (Operands.text t) Any) e
  primary_takes t sign.OpenParen q e = took_if fits Limit (paren_rest low t) q Any (Stops 0) Num (λ u i. tt) (λ f. paren_law f t) e
  primary_takes t _ q e = absurd cc

  pub primary_passes : (t : Signed) (s : Sign) (a : Operand) → primary_pick low fits t s ≡ Pass a → ⊥
  primary_passes t sign.Name a e = cc
  primary_passes t sign.Number a e = cc
  primary_passes t sign.Char a e = cc
  primary_passes t sign.Text a e = cc
  primary_passes t sign.OpenParen a e = if_passes fits Limit (paren_rest low t) a e
  primary_passes t _ a e = cc

  pub primary_law : Law (dispatch (λ t. primary_pick low fits t t.sign)) (Stops 0) Num
  primary_law = law_dispatch (λ t. primary_pick low fits t t.sign) (Stops 0) Num
      (record { takes = λ t q e. primary_takes t t.sign q e; passes = λ t a e. absurd (primary_passes t t.sign a e) })
      (record { value = Operands.number (tok sign.Number); words = λ r. tok sign.Number ∷ r; ends = λ r h. refl; first = λ r h. refl })

  -- ---- Indexes.

  pub element_law : fits ≡ true → (a : Operand) → Law (element_rest low a) Any Num
  unfolding element_rest
  element_law f a =
      law_seq (dispatch (low.level whole)) _ (Stops 13) Num Any (Is sign.CloseBracket) (lows.level f 13)
      (λ i. law_seq (expect (is_sign sign.CloseBracket)) _ Any (Is sign.CloseBracket) Any Any (sign_law sign.CloseBracket) (λ c. law_done (Operands.element a i) Any) (λ u i. tt)) (bracket_stops 13 (lit< tt))

  module _ (d : ℕ) where
    element_takes : (b c : Bool) → (c ≡ true → fits ≡ true) → (x : Element) (q : Reading Signed Element) → (if b then (if c then Take (element_rest low (Operands.element_operand x)) else Refuse Limit) else Pass x) ≡ Take q → Lives q Any Any
    element_takes true c f x q e = took_if c Limit (element_rest low (Operands.element_operand x)) q Any Any Num (λ u i. i) (λ k. element_law (f k) (Operands.element_operand x)) e
    element_takes false c f x q e = absurd cc

    element_same : (b c : Bool) (q : Reading Signed Element) (x y : Element) → (let z : Pick Signed Element = if b then (if c then Take q else Refuse Limit) else Pass x in z) ≡ Pass y → y ≡ x
    element_same true true q x y e = absurd cc
    element_same true false q x y e = absurd cc
    element_same false c q x y e = cc

    pub element_rounds : Rounds (element_pick low fits d) (Stops 1) Any
    element_rounds = record {
      takes = λ x t q e. element_takes (is_sign sign.OpenBracket t) (fits && nat_lt x.height d) (λ k. (both fits (nat_lt x.height d) k).0) x q e;
      stops = λ x t h. rw (other_rank sign.OpenBracket 1 t refl h) refl;
      same = λ x y t e. element_same (is_sign sign.OpenBracket t) (fits && nat_lt x.height d) (element_rest low (Operands.element_operand x)) x y e;
      fits = λ t h. tt;
    }

    pub elements_law : (x : Element) → Law (elements low fits d x) (Stops 1) (Stops 1)
    elements_law x = law_loop (element_pick low fits d) (Stops 1) Any element_rounds x

    -- One index and those after it.
    pub law_first : fits ≡ true → (a : Operand) → Law (seq (element_rest low a) (elements low fits d)) (Stops 1) Num
    law_first f a = law_seq (element_rest low a) (elements low fits d) Any Num (Stops 1) (Stops 1) (element_law f a) elements_law (λ u i. tt)

    pub indexed_law : fits ≡ true → (a : Operand) → Law (indexed low fits d a) (Stops 1) (Is sign.OpenBracket)
    unfolding indexed
    indexed_law f a =
        law_seq (expect (is_sign sign.OpenBracket)) _ Any (Is sign.OpenBracket) (Stops 1) Num (sign_law sign.OpenBracket)
        (λ o. law_seq (element_rest low a) _ Any Num (Stops 1) (Stops 1) (element_law f a) elements_law (λ u i. tt)) (λ u i. tt)

    -- ---- "++" and "--" after an operand.

    step_takes : (a : Operand) (o : Option StepOperator) (p : Option Lvalue) (q : Reading Signed Operand) → step_by d a o p ≡ Take q → Lives q (Stops 1) Any
    step_takes a None p q e = absurd cc
    step_takes a (Some op) None q e = absurd cc
    step_takes a (Some op) (Some p) q e = took_if (nat_lt p.height d) Limit (done (Operands.after op p)) q Any (Stops 1) Any (λ u i. tt) (λ k. law_done (Operands.after op p) Any) e

    step_passes : (a b : Operand) (o : Option StepOperator) (p : Option Lvalue) → step_by d a o p ≡ Pass b → a ≡ b
    step_passes a b None p e = cc
    step_passes a b (Some op) None e = absurd cc
    step_passes a b (Some op) (Some p) e = absurd (if_passes (nat_lt p.height d) Limit (done (Operands.after op p)) b e)

    pub step_stops : (a : Operand) (t : Signed) → Stops 1 t → step_pick d a t ≡ Pass a
    step_stops a t h = ap (λ o. step_by d a o (Operands.post_lvalue a)) (no_step t h)

    step_ends : (a : Operand) (r : List Signed) → Heads (Stops 1) r → dispatch (step_pick d a) r ≡ Ok (a, r)
    step_ends a [] h = absurd h
    step_ends a (t ∷ ts) h = ap (λ x. picked x t ts) (step_stops a t h)

    pub step_law : (a : Operand) → Law (dispatch (step_pick d a)) (Stops 1) (Stops 1)
    step_law a = law_dispatch (step_pick d a) (Stops 1) (Stops 1)
        (record {
          takes = λ t q e. step_takes a (step_of t.sign) (Operands.post_lvalue a) q e;
          passes = λ t b e u f. (step_stops a u f ∙ ap Pass (step_passes a b (step_of t.sign) (Operands.post_lvalue a) e), f);
        })
        (record { value = a; words = λ r. r; ends = step_ends a; first = λ r h. h })

    pub post_element_law : fits ≡ true → (a : Operand) → Law (post_element low fits d a) (Stops 1) Num
    unfolding post_element
    post_element_law f a =
        law_seq (element_rest low a) _ Any Num (Stops 1) (Stops 1) (element_law f a)
        (λ x. law_seq (elements low fits d x) _ (Stops 1) (Stops 1) (Stops 1) (Stops 1) (elements_law x) (λ y. step_law (Operands.element_operand y)) (λ u i. i)) (λ u i. tt)

    post_takes : (b c : Bool) → (c ≡ true → fits ≡ true) → (a : Operand) (t : Signed) (q : Reading Signed Operand) → (if b then (if c then Take (post_element low fits d a) else Refuse Limit) else step_pick d a t) ≡ Take q → Lives q (Stops 1) Any
    post_takes true c f a t q e = took_if c Limit (post_element low fits d a) q (Stops 1) (Stops 1) Num (λ u i. i) (λ k. post_element_law (f k) a) e
    post_takes false c f a t q e = step_takes a (step_of t.sign) (Operands.post_lvalue a) q e

    post_passes : (b c : Bool) (a x : Operand) (t : Signed) → (if b then (if c then Take (post_element low fits d a) else Refuse Limit) else step_pick d a t) ≡ Pass x → a ≡ x
    post_passes true c a x t e = absurd (if_passes c Limit (post_element low fits d a) x e)
    post_passes false c a x t e = step_passes a x (step_of t.sign) (Operands.post_lvalue a) e

    pub post_stops : (a : Operand) (t : Signed) → Stops 1 t → post_pick low fits d a t ≡ Pass a
    post_stops a t h = rw (other_rank sign.OpenBracket 1 t refl h) (step_stops a t h)

    pub post_ends : (a : Operand) (r : List Signed) → Heads (Stops 1) r → post low fits d a r ≡ Ok (a, r)
    post_ends a [] h = absurd h
    post_ends a (t ∷ ts) h = ap (λ x. picked x t ts) (post_stops a t h)

    pub post_law : (a : Operand) → Law (post low fits d a) (Stops 1) (Stops 1)
    post_law a = law_dispatch (post_pick low fits d a) (Stops 1) (Stops 1)
        (record {
          takes = λ t q e. post_takes (is_sign sign.OpenBracket t) (fits && nat_lt a.height d) (λ k. (both fits (nat_lt a.height d) k).0) a t q e;
          passes = λ t b e u f. (post_stops a u f ∙ ap Pass (post_passes (is_sign sign.OpenBracket t) (fits && nat_lt a.height d) a b t e), f);
        })
        (record { value = a; words = λ r. r; ends = post_ends a; first = λ r h. h })

    -- ---- What can be written to.

    pub place_rest_law : fits ≡ true → (a : Operand) → Law (place_rest low fits d a) (Stops 1) (Is sign.OpenBracket)
    unfolding place_rest
    place_rest_law f a = law_seq (indexed low fits d a) _ (Stops 1) (Is sign.OpenBracket) (Stops 1) (Stops 1) (indexed_law f a) (λ x. law_done (Operands.element_lvalue x) (Stops 1)) (λ u i. i)

    pub place_element_law : fits ≡ true → (a : Operand) → Law (place_element low fits d a) (Stops 1) Num
    unfolding place_element
    place_element_law f a =
        law_seq (element_rest low a) _ Any Num (Stops 1) (Stops 1) (element_law f a)
        (λ x. law_seq (elements low fits d x) _ (Stops 1) (Stops 1) (Stops 1) (Stops 1) (elements_law x) (λ y. law_done (Operands.element_lvalue y) (Stops 1)) (λ u i. i)) (λ u i. tt)

    pub place_call_law : fits ≡ true → (t : Signed) → Law (place_call low fits d t) (Stops 1) Close
    unfolding place_call
    place_call_law f t = law_seq (low.call t) _ Any Close (Stops 1) (Is sign.OpenBracket) (lows.call f t) (place_rest_law f) (λ u i. tt)

    place_name_takes : (b c : Bool) (t : Signed) (q : Reading Signed Lvalue) →
        (if b then (if fits then Take (place_element low fits d (Operands.name t)) else Refuse Limit) else if c then (if fits then Take (place_call low fits d t) else Refuse Limit) else Pass (Operands.name_lvalue t)) ≡ Take q → Lives q (Stops 1) Any
    place_name_takes true c t q e = took_if fits Limit (place_element low fits d (Operands.name t)) q (Stops 1) (Stops 1) Num (λ u i. i) (λ f. place_element_law f (Operands.name t)) e
    place_name_takes false true t q e = took_if fits Limit (place_call low fits d t) q (Stops 1) (Stops 1) Close (λ u i. i) (λ f. place_call_law f t) e
    place_name_takes false false t q e = absurd cc

    place_name_passes : (b c : Bool) (t : Signed) (p : Lvalue) →
        (if b then (if fits then Take (place_element low fits d (Operands.name t)) else Refuse Limit) else if c then (if fits then Take (place_call low fits d t) else Refuse Limit) else Pass (Operands.name_lvalue t)) ≡ Pass p → Operands.name_lvalue t ≡ p
    place_name_passes true c t p e = absurd (if_passes fits Limit (place_element low fits d (Operands.name t)) p e)
    place_name_passes false true t p e = absurd (if_passes fits Limit (place_call low fits d t) p e)
    place_name_passes false false t p e = cc

    place_name_stops : (t u : Signed) → Stops 1 u → place_name_pick low fits d t u ≡ Pass (Operands.name_lvalue t)
    place_name_stops t u h = rw (other_rank sign.OpenBracket 1 u refl h, other_rank sign.OpenParen 0 u refl (omega (arith, h))) refl

    place_name_ends : (t : Signed) (r : List Signed) → Heads (Stops 1) r → dispatch (place_name_pick low fits d t) r ≡ Ok (Operands.name_lvalue t, r)
    place_name_ends t [] h = absurd h
    place_name_ends t (u ∷ us) h = ap (λ x. picked x u us) (place_name_stops t u h)

    pub place_name_law : (t : Signed) → Law (place_name low fits d t) (Stops 1) (Stops 1)
    unfolding place_name
    place_name_law t = law_dispatch (place_name_pick low fits d t) (Stops 1) (Stops 1)
        (record {
          takes = λ u q e. place_name_takes (is_sign sign.OpenBracket u) (is_sign sign.OpenParen u) t q e;
          passes = λ u p e v f. (place_name_stops t v f ∙ ap Pass (place_name_passes (is_sign sign.OpenBracket u) (is_sign sign.OpenParen u) t p e), f);
        })
        (record { value = Operands.name_lvalue t; words = λ r. r; ends = place_name_ends t; first = λ r h. h })

    pub deref_law : fits ≡ true → (t : Signed) → Law (deref_rest low t) (Stops 1) Num
    unfolding deref_rest
    deref_law f t = law_seq (dispatch (low.level 1)) _ (Stops 1) Num (Stops 1) (Stops 1) (lows.level f 1) (λ a. law_done (Operands.deref_lvalue t a) (Stops 1)) (λ u i. i)

    pub primary_fits : (t : Signed) → Is sign.OpenBracket t → Stops 0 t
    primary_fits t e = stops_at sign.OpenBracket 0 t (lit< tt) e

    place_takes : (b c e : Bool) → (e ≡ true → fits ≡ true) → (k : Kind) (t : Signed) (q : Reading Signed Lvalue) →
        (if b then Take (place_name low fits d t) else if c then (if e then Take (deref_rest low t) else Refuse Limit) else if e then then_pick (low.level 0 t) (place_rest low fits d) else Refuse k) ≡ Take q → Lives q (Stops 1) Any
    place_takes true c e f k t q h = took (place_name low fits d t) q (Stops 1) (Stops 1) (Stops 1) (λ u i. i) (place_name_law t) h
    place_takes false true e f k t q h = took_if e Limit (deref_rest low t) q (Stops 1) (Stops 1) Num (λ u i. i) (λ x. deref_law (f x) t) h
    place_takes false false true f k t q h = then_takes (low.level 0 t) (place_rest low fits d) (Stops 0) (Stops 1) (Is sign.OpenBracket) (λ r x. lows.takes (f refl) 0 t r x) (place_rest_law (f refl)) primary_fits q h
    place_takes false false false f k t q h = absurd cc

    pub place_passes : (b c e : Bool) (k : Kind) (t : Signed) (p : Lvalue) →
        (if b then Take (place_name low fits d t) else if c then (if e then Take (deref_rest low t) else Refuse Limit) else if e then then_pick (low.level 0 t) (place_rest low fits d) else Refuse k) ≡ Pass p → ⊥
    place_passes true c e k t p h = cc
    place_passes false true e k t p h = if_passes e Limit (deref_rest low t) p h
    place_passes false false true k t p h = then_passes (low.level 0 t) (place_rest low fits d) p h
    place_passes false false false k t p h = cc

    place_opens : (r : List Signed) → Heads (Stops 1) r → dispatch (place_pick low fits d) (tok sign.Name ∷ r) ≡ Ok (Operands.name_lvalue (tok sign.Name), r)
    unfolding place_name
    place_opens r h = place_name_ends (tok sign.Name) r h

    pub place_law : Law (dispatch (place_pick low fits d)) (Stops 1) (Is sign.Name)
    place_law = law_dispatch (place_pick low fits d) (Stops 1) (Is sign.Name)
        (record {
          takes = λ t q e. place_takes (is_sign sign.Name t) (is_sign sign.Star t) fits (λ f. f) (full_fault (begins_primary t.sign)) t q e;
          passes = λ t p e. absurd (place_passes (is_sign sign.Name t) (is_sign sign.Star t) fits (full_fault (begins_primary t.sign)) t p e);
        })
        (record { value = Operands.name_lvalue (tok sign.Name); words = λ r. tok sign.Name ∷ r; ends = place_opens; first = λ r h. refl })
