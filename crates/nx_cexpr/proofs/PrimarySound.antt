-- What is read of a primary expression, or to be written to, has its tree by the grammar.
use Rattle.std.proofs.Common.{◌≡◌, ℕ, suc, ◌<◌, ◌≤◌, Bool, true, false, List, [], ◌∷◌, ◌++◌, refl, sym, ap, ◌∙◌, arith, subst}
use Rattle.std.specs.Prelude.{Ok, Option, None, Some, if◌then◌else◌, ◌&&◌, nat_lt}
use Rattle.std.proofs.lemmas.Bool.{ltb-true}
use Rattle.nx_ctree.specs.declared.sign.Sign.{Sign}
use Rattle.nx_ctree.specs.declared.sign.Sign.TheVariants as sign
use Rattle.nx_ctree.specs.declared.sign.Signed.{Signed}
use Rattle.nx_ctree.specs.declared.program.Base.{Base}
use Rattle.nx_ctree.specs.declared.program.Base.TheVariants as base
use Rattle.nx_ctree.specs.declared.expression.Expr.{Expr}
use Rattle.nx_ctree.specs.declared.expression.ExprKind.TheVariants as kind
use Rattle.nx_ctree.specs.declared.expression.PlaceKind.TheVariants as place
use Rattle.nx_ctree.specs.declared.expression.StepOperator.{StepOperator}
use Rattle.nx_ctree.specs.Expressions.{expr, at, step_of, written, whole, IsBase, IntBase, CharBase, ConstCharBase, IsStar, Plain, Pointer, IsExpr, IsArgs, IsPostPlace, IsPlace}
use Rattle.nx_ctree.specs.Expressions as grammar
use Rattle.nx_grammar.specs.declared.kind.Kind.{Kind}
use Rattle.nx_grammar.specs.declared.kind.Kind.TheVariants.{Limit}
use Rattle.nx_grammar.specs.Reading.{Out, Reading, Pick, Refuse, Pass, Take, picked, dispatch, done, expect, then_pick, loop}
use Rattle.nx_grammar.proofs.Results.{bound, ok_same, found}
use Rattle.nx_grammar.proofs.Loops.{shorter, loop_keeps}
use Rattle.nx_grammar.proofs.Thens.{Takes, picked_then}
use Rattle.nx_cexpr.specs.declared.operand.Form.{Form}
use Rattle.nx_cexpr.specs.declared.operand.Form.TheVariants as form
use Rattle.nx_cexpr.specs.declared.operand.Target.TheVariants as target
use Rattle.nx_cexpr.specs.declared.operand.Operand.{Operand}
use Rattle.nx_cexpr.specs.declared.operand.Lvalue.{Lvalue}
use Rattle.nx_cexpr.specs.declared.operand.Element.{Element}
use Rattle.nx_cexpr.specs.declared.operand.Arguments.{Arguments}
use Rattle.nx_cexpr.specs.Signs.{is_sign, Stops, begins, begins_primary, full_fault}
use Rattle.nx_cexpr.specs.Types.{const_rest, base_by, base_pick, base_at, star_at}
use Rattle.nx_cexpr.specs.Operands
use Rattle.nx_cexpr.specs.Operands.{expr_of, place_of}
use Rattle.nx_cexpr.specs.Reading.{Below, next_rest, comma_pick, arguments_rest, call_rest, name_rest, paren_rest, primary_pick, element_rest, element_pick, elements, indexed, step_by, step_pick, post_element, post, place_rest, place_element, place_call, place_name, deref_rest, place_pick}
use Rattle.nx_cexpr.proofs.SignLaws.{Is, true_is}
use Rattle.nx_cexpr.proofs.PrimaryLaws.{Lows, both, comma_rounds, element_rounds}

-- What can be written to, by the form of its operand.
abbrev pub IsTarget : List Signed → ℕ → Form → ℕ → List Signed → Type 0
IsTarget ts line (form.Target (target.Name name)) h rest = IsPostPlace ts (at line (place.Name name)) h rest
IsTarget ts line (form.Target (target.Index a i)) h rest = IsPostPlace ts (at line (place.Index a i)) h rest
IsTarget ts line (form.Target (target.Deref a)) h rest = IsPlace ts (at line (place.Deref a)) h rest
IsTarget ts line (form.Value k) h rest = Unit {0}

-- An expression of a level was there, within d nodes.
pub record Found (n d : ℕ) (ts : List Signed) (x : Operand) (rest : List Signed) : Type 0 where
  pub has : IsExpr n ts (expr_of x) x.height rest
  pub place : IsTarget ts x.line x.form x.height rest
  pub within : x.height ≤ d

pub record FoundPlace (d : ℕ) (ts : List Signed) (p : Lvalue) (rest : List Signed) : Type 0 where
  pub has : IsPlace ts (place_of p) p.height rest
  pub within : p.height ≤ d

pub record FoundElement (d : ℕ) (ts : List Signed) (e : Element) (rest : List Signed) : Type 0 where
  pub has : IsExpr 0 ts (expr e.line (kind.Index e.base e.index)) e.height rest
  pub place : IsPostPlace ts (at e.line (place.Index e.base e.index)) e.height rest
  pub address : (t : Signed) → t.sign ≡ sign.BitAnd → IsExpr 1 (t ∷ ts) (expr t.line (kind.AddressOf e.base e.index)) e.height rest
  pub within : e.height ≤ d

pub record FoundArguments (d : ℕ) (ts : List Signed) (xs : Arguments) (rest : List Signed) : Type 0 where
  pub first : Expr
  pub more : List Expr
  pub is : xs.list ≡ first ∷ more
  pub has : IsArgs ts (first ∷ more) xs.height rest
  pub within : xs.height ≤ d

pub moved : {A : Type 0} (P : A → List Signed → Type 0) (x y : A) (r s : List Signed) → (x ≡ y) × (r ≡ s) → P x r → P y s
moved P x y r s e h = subst (λ z. P y z) e.1 (subst (λ z. P z r) e.0 h)

pub found_sign : (s : Sign) (ts : List Signed) (c : Signed) (rest : List Signed) → expect (is_sign s) ts ≡ Ok (c, rest) → (ts ≡ c ∷ rest) × (c.sign ≡ s)
found_sign s ts c rest h = let f = found (is_sign s) ts c rest h in (f.is, true_is s c f.good)

pub if_took : {A : Type 0} (b : Bool) (k : Kind) (q : Reading Signed A) (t : Signed) (ts : List Signed) (x : A) (rest : List Signed) → picked (if b then Take q else Refuse k) t ts ≡ Ok (x, rest) → (b ≡ true) × (q ts ≡ Ok (x, rest))
if_took true k q t ts x rest h = (refl, h)
if_took false k q t ts x rest h = absurd cc

-- ---- Base types and stars.

base_found_by : (t : Signed) (s : Sign) → t.sign ≡ s → (ts : List Signed) (b : Base) (rest : List Signed) → picked (base_by s) t ts ≡ Ok (b, rest) → IsBase (t ∷ ts) b rest
unfolding const_rest
base_found_by t sign.Int e ts b rest h = moved (λ x r. IsBase (t ∷ ts) x r) base.Int b ts rest (ok_same base.Int b ts rest h) (IntBase t ts e)
base_found_by t sign.CharWord e ts b rest h = moved (λ x r. IsBase (t ∷ ts) x r) base.Char b ts rest (ok_same base.Char b ts rest h) (CharBase t ts e)
base_found_by t sign.Const e ts b rest h =
    let c = bound (expect (is_sign sign.CharWord) ts) _ (b, rest) h in
    let f = found_sign sign.CharWord ts c.0 c.1 c.2 in
    moved (λ x r. IsBase (t ∷ ts) x r) base.ConstChar b c.1 rest (ok_same base.ConstChar b c.1 rest c.3) (subst (λ z. IsBase (t ∷ z) base.ConstChar c.1) (sym f.0) (ConstCharBase t c.0 c.1 e f.1))
base_found_by t _ e ts b rest h = absurd cc

pub base_found : (t : Signed) (ts : List Signed) (b : Base) (rest : List Signed) → picked (base_pick t) t ts ≡ Ok (b, rest) → IsBase (t ∷ ts) b rest
base_found t ts b rest h = base_found_by t t.sign refl ts b rest h

pub base_sound : (ts : List Signed) (b : Base) (rest : List Signed) → base_at ts ≡ Ok (b, rest) → IsBase ts b rest
base_sound [] b rest h = absurd cc
base_sound (t ∷ ts) b rest h = base_found t ts b rest h

star_case : (t : Signed) (ts : List Signed) (c : Bool) → is_sign sign.Star t ≡ c → (s : Bool) (rest : List Signed) → picked (if c then Take (done true) else Pass false) t ts ≡ Ok (s, rest) → IsStar (t ∷ ts) s rest
star_case t ts true e s rest h = moved (λ x r. IsStar (t ∷ ts) x r) true s ts rest (ok_same true s ts rest h) (Pointer t ts (true_is sign.Star t e))
star_case t ts false e s rest h = moved (λ x r. IsStar (t ∷ ts) x r) false s (t ∷ ts) rest (ok_same false s (t ∷ ts) rest h) (Plain (t ∷ ts))

pub star_sound : (ts : List Signed) (s : Bool) (rest : List Signed) → star_at ts ≡ Ok (s, rest) → IsStar ts s rest
star_sound [] s rest h = absurd cc
star_sound (t ∷ ts) s rest h = star_case t ts (is_sign sign.Star t) refl s rest h

-- ---- One node further down.

pub record Sounds (low : Below) (d : ℕ) : Type 0 where
  pub level : (n : ℕ) → n ≤ 13 → (ts : List Signed) (x : Operand) (rest : List Signed) → dispatch (low.level n) ts ≡ Ok (x, rest) → Found n d ts x rest
  pub passes : (n : ℕ) (t : Signed) → Takes (low.level n t)
  pub place : (ts : List Signed) (p : Lvalue) (rest : List Signed) → dispatch low.place ts ≡ Ok (p, rest) → FoundPlace d ts p rest
  pub call : (t o : Signed) → t.sign ≡ sign.Name → o.sign ≡ sign.OpenParen → (ts : List Signed) (x : Operand) (rest : List Signed) → low.call t ts ≡ Ok (x, rest) → Found 0 d (t ∷ o ∷ ts) x rest

-- A value, which nothing can be written to.
pub found_value : (n d : ℕ) (ts : List Signed) (x y : Operand) (r s : List Signed) → (let o : Out Signed Operand = Ok (x, r) in o) ≡ Ok (y, s) → Found n d ts x r → Found n d ts y s
found_value n d ts x y r s e f = moved (λ z q. Found n d ts z q) x y r s (ok_same x y r s e) f

module _ (low : Below) (fits : Bool) (law : Lows low fits) (d : ℕ) (sounds : Sounds low d) where
  -- ---- Calls.

  first_found : (ts : List Signed) (a : Operand) (rest : List Signed) → Found 13 d ts a rest → FoundArguments d ts (Operands.first_argument a) rest
  first_found ts a rest f = record { first = expr_of a; more = []; is = refl; has = grammar.FirstArg ts rest (expr_of a) a.height f.has; within = f.within }

  next_found : (start : List Signed) (c : Signed) → c.sign ≡ sign.Comma → (us : List Signed) (xs ys : Arguments) (mid : List Signed) → FoundArguments d start xs (c ∷ us) → next_rest low xs us ≡ Ok (ys, mid) → FoundArguments d start ys mid
  unfolding next_rest
  next_found start c e us xs ys mid f h =
      let a = bound (dispatch (low.level whole) us) _ (ys, mid) h in
      let g = sounds.level 13 (omega arith) us a.0 a.1 a.2 in
      moved (λ z r. FoundArguments d start z r) (Operands.next_argument xs a.0) ys a.1 mid (ok_same (Operands.next_argument xs a.0) ys a.1 mid a.3)
      (record {
        first = f.first;
        more = f.more ++ expr_of a.0 ∷ [];
        is = ap (λ z. z ++ expr_of a.0 ∷ []) f.is;
        has = grammar.NextArg c start us a.1 f.first f.more (expr_of a.0) xs.height a.0.height f.has e g.has;
        within = omega (arith, f.within, g.within);
      })

  comma_taken : (b : Bool) (xs : Arguments) (q : Reading Signed Arguments) → (if b then Take (next_rest low xs) else Pass xs) ≡ Take q → (b ≡ true) × (next_rest low xs ≡ q)
  comma_taken true xs q e = (refl, cc)
  comma_taken false xs q e = absurd cc

  comma_passed : (b : Bool) (q : Reading Signed Arguments) (xs ys : Arguments) → (let z : Pick Signed Arguments = if b then Take q else Pass xs in z) ≡ Pass ys → xs ≡ ys
  comma_passed true q xs ys e = absurd cc
  comma_passed false q xs ys e = cc

  found_arguments : fits ≡ true → (t o : Signed) → t.sign ≡ sign.Name → o.sign ≡ sign.OpenParen → (start : List Signed) (a : Operand) (us : List Signed) (x : Operand) (rest : List Signed) → Found 13 d start a us → arguments_rest low t a us ≡ Ok (x, rest) → Found 0 (suc d) (t ∷ o ∷ start) x rest
  unfolding arguments_rest
  found_arguments fit t o e g start a us x rest f h =
      let xs = bound (loop (comma_pick low) (Operands.first_argument a) us) _ (x, rest) h in
      let c = bound (expect (is_sign sign.CloseParen) xs.1) _ (x, rest) xs.3 in
      let k = found_sign sign.CloseParen xs.1 c.0 c.1 c.2 in
      let w = loop_keeps (comma_pick low) (shorter (comma_pick low) (Is sign.CloseParen) (Stops 13) (comma_rounds low fits law fit)) (λ y r. FoundArguments d start y r) (λ y r. FoundArguments d start y r)
      (λ y u vs q z mid p r v. let j = comma_taken (is_sign sign.Comma u) y q p in next_found start u (true_is sign.Comma u j.0) vs y z mid v (ap (λ (s : Reading Signed Arguments). s vs) j.1 ∙ r))
      (λ y z u vs p v. subst (λ s. FoundArguments d start s (u ∷ vs)) (comma_passed (is_sign sign.Comma u) (next_rest low y) y z p) v)
      (Operands.first_argument a) us xs.0 xs.1 xs.2 (first_found start a us f) in
      found_value 0 (suc d) (t ∷ o ∷ start) (Operands.call t xs.0) x c.1 rest c.3
      (record {
        has = subst (λ l. IsExpr 0 (t ∷ o ∷ start) (expr t.line (kind.Call t.text l)) (suc xs.0.height) c.1) (sym w.is)
            (grammar.Call t o c.0 start c.1 (w.first ∷ w.more) xs.0.height e g (subst (λ z. IsArgs start (w.first ∷ w.more) xs.0.height z) k.0 w.has) k.1);
        place = tt;
        within = omega (arith, w.within);
      })

  call_case : (b c : Bool) → (c ≡ true → fits ≡ true) → (k : Kind) (t o : Signed) → t.sign ≡ sign.Name → o.sign ≡ sign.OpenParen → (u : Signed) (us : List Signed) → is_sign sign.CloseParen u ≡ b → (x : Operand) (rest : List Signed) →
      picked (if b then Take (done (Operands.call t Operands.no_arguments)) else if c then then_pick (low.level whole u) (arguments_rest low t) else Refuse k) u us ≡ Ok (x, rest) → Found 0 (suc d) (t ∷ o ∷ u ∷ us) x rest
  call_case true c fit k t o e g u us s x rest h =
      found_value 0 (suc d) (t ∷ o ∷ u ∷ us) (Operands.call t Operands.no_arguments) x us rest h
      (record { has = grammar.Call t o u (u ∷ us) us [] 0 e g (grammar.NoArgs (u ∷ us)) (true_is sign.CloseParen u s); place = tt; within = omega arith })
  call_case false true fit k t o e g u us s x rest h =
      let a = bound (picked (low.level whole u) u us) (arguments_rest low t) (x, rest) (sym (picked_then (low.level whole u) (arguments_rest low t) u us (sounds.passes whole u)) ∙ h) in
      found_arguments (fit refl) t o e g (u ∷ us) a.0 a.1 x rest (sounds.level 13 (omega arith) (u ∷ us) a.0 a.1 a.2) a.3
  call_case false false fit k t o e g u us s x rest h = absurd cc

  pub found_call : (t o : Signed) → t.sign ≡ sign.Name → o.sign ≡ sign.OpenParen → (ts : List Signed) (x : Operand) (rest : List Signed) → call_rest low fits t ts ≡ Ok (x, rest) → Found 0 (suc d) (t ∷ o ∷ ts) x rest
  unfolding call_rest
  found_call t o e g [] x rest h = absurd cc
  found_call t o e g (u ∷ us) x rest h = call_case (is_sign sign.CloseParen u) fits (λ f. f) (full_fault (begins u.sign)) t o e g u us refl x rest h

  -- ---- Primary expressions.

  name_found : (t : Signed) (ts : List Signed) → t.sign ≡ sign.Name → Found 0 (suc d) (t ∷ ts) (Operands.name t) ts
  name_found t ts e = record { has = grammar.Name t ts e; place = grammar.NamePlace t ts e; within = omega arith }

  name_case : (b : Bool) (t : Signed) → t.sign ≡ sign.Name → (u : Signed) (us : List Signed) → is_sign sign.OpenParen u ≡ b → (x : Operand) (rest : List Signed) →
      picked (if b then Take (call_rest low fits t) else Pass (Operands.name t)) u us ≡ Ok (x, rest) → Found 0 (suc d) (t ∷ u ∷ us) x rest
  name_case true t e u us s x rest h = found_call t u e (true_is sign.OpenParen u s) us x rest h
  name_case false t e u us s x rest h = found_value 0 (suc d) (t ∷ u ∷ us) (Operands.name t) x (u ∷ us) rest h (name_found t (u ∷ us) e)

  pub found_name : (t : Signed) → t.sign ≡ sign.Name → (ts : List Signed) (x : Operand) (rest : List Signed) → name_rest low fits t ts ≡ Ok (x, rest) → Found 0 (suc d) (t ∷ ts) x rest
  unfolding name_rest
  found_name t e [] x rest h = absurd cc
  found_name t e (u ∷ us) x rest h = name_case (is_sign sign.OpenParen u) t e u us refl x rest h

  pub paren_found : (t c : Signed) → t.sign ≡ sign.OpenParen → c.sign ≡ sign.CloseParen → (ts : List Signed) (a : Operand) (rest : List Signed) → Found 13 d ts a (c ∷ rest) → Found 0 (suc d) (t ∷ ts) (Operands.paren t a) rest
  paren_found t c e g ts a rest f = record { has = grammar.Paren t c ts rest (expr_of a) a.height e f.has g; place = tt; within = omega (arith, f.within) }

  found_paren : (t : Signed) → t.sign ≡ sign.OpenParen → (ts : List Signed) (x : Operand) (rest : List Signed) → paren_rest low t ts ≡ Ok (x, rest) → Found 0 (suc d) (t ∷ ts) x rest
  unfolding paren_rest
  found_paren t e ts x rest h =
      let a = bound (dispatch (low.level whole) ts) _ (x, rest) h in
      let c = bound (expect (is_sign sign.CloseParen) a.1) _ (x, rest) a.3 in
      let k = found_sign sign.CloseParen a.1 c.0 c.1 c.2 in
      let f = sounds.level 13 (omega arith) ts a.0 a.1 a.2 in
      found_value 0 (suc d) (t ∷ ts) (Operands.paren t a.0) x c.1 rest c.3 (paren_found t c.0 e k.1 ts a.0 c.1 (subst (λ z. Found 13 d ts a.0 z) k.0 f))

  primary_case : (t : Signed) (s : Sign) → t.sign ≡ s → (ts : List Signed) (x : Operand) (rest : List Signed) → picked (primary_pick low fits t s) t ts ≡ Ok (x, rest) → Found 0 (suc d) (t ∷ ts) x rest
  primary_case t sign.Name e ts x rest h = found_name t e ts x rest h
  primary_case t sign.Number e ts x rest h = found_value 0 (suc d) (t ∷ ts) (Operands.number t) x ts rest h (record { has = grammar.Number t ts e; place = tt; within = omega arith })
  primary_case t sign.Char e ts x rest h = found_value 0 (suc d) (t ∷ ts) (Operands.character t) x ts rest h (record { has = grammar.Char t ts e; place = tt; within = omega arith })
  primary_case t sign.Text e ts x rest h = found_value 0 (suc d) (t ∷ ts) (Operands.text t) x ts rest h (record { has = grammar.Text t ts e; place = tt; within = omega arith })
  primary_case t sign.OpenParen e ts x rest h = found_paren t e ts x rest (if_took fits Limit (paren_rest low t) t ts x rest h).1
  primary_case t _ e ts x rest h = absurd cc

  pub found_primary : (ts : List Signed) (x : Operand) (rest : List Signed) → dispatch (λ t. primary_pick low fits t t.sign) ts ≡ Ok (x, rest) → Found 0 (suc d) ts x rest
  found_primary [] x rest h = absurd cc
  found_primary (t ∷ ts) x rest h = primary_case t t.sign refl ts x rest h

  -- ---- Indexes.

  -- What stands before the index has at most d nodes.
  element_found : (start : List Signed) (o : Signed) → o.sign ≡ sign.OpenBracket → (us : List Signed) (a : Operand) (x : Element) (rest : List Signed) → IsExpr 0 start (expr_of a) a.height (o ∷ us) → a.height ≤ d → element_rest low a us ≡ Ok (x, rest) → FoundElement (suc d) start x rest
  unfolding element_rest
  element_found start o e us a x rest f l h =
      let i = bound (dispatch (low.level whole) us) _ (x, rest) h in
      let c = bound (expect (is_sign sign.CloseBracket) i.1) _ (x, rest) i.3 in
      let k = found_sign sign.CloseBracket i.1 c.0 c.1 c.2 in
      let g = sounds.level 13 (omega arith) us i.0 i.1 i.2 in
      let j = subst (λ z. IsExpr 13 us (expr_of i.0) i.0.height z) k.0 g.has in
      moved (λ z r. FoundElement (suc d) start z r) (Operands.element a i.0) x c.1 rest (ok_same (Operands.element a i.0) x c.1 rest c.3)
      (record {
        has = grammar.Index o c.0 start us c.1 (expr_of a) (expr_of i.0) a.height i.0.height f e j k.1;
        place = grammar.IndexPlace o c.0 start us c.1 (expr_of a) (expr_of i.0) a.height i.0.height f e j k.1;
        address = λ t b. grammar.AddressOf t o c.0 start us c.1 (expr_of a) (expr_of i.0) a.height i.0.height b f e j k.1;
        within = omega (arith, g.within);
      })

  pub element_taken : (b c : Bool) (x : Element) (q : Reading Signed Element) → (if b then (if c then Take (element_rest low (Operands.element_operand x)) else Refuse Limit) else Pass x) ≡ Take q → (b ≡ true) × (c ≡ true) × (element_rest low (Operands.element_operand x) ≡ q)
  element_taken true true x q e = (refl, refl, cc)
  element_taken true false x q e = absurd cc
  element_taken false c x q e = absurd cc

  element_passed : (b c : Bool) (q : Reading Signed Element) (x y : Element) → (let z : Pick Signed Element = if b then (if c then Take q else Refuse Limit) else Pass x in z) ≡ Pass y → x ≡ y
  element_passed true true q x y e = absurd cc
  element_passed true false q x y e = absurd cc
  element_passed false c q x y e = cc

  pub found_elements : (start : List Signed) (x : Element) (us : List Signed) (y : Element) (rest : List Signed) → FoundElement (suc d) start x us → elements low fits (suc d) x us ≡ Ok (y, rest) → FoundElement (suc d) start y rest
  found_elements start x us y rest f h =
      loop_keeps (element_pick low fits (suc d)) (shorter (element_pick low fits (suc d)) (Stops 1) (λ t. Unit {0}) (element_rounds low fits law (suc d))) (λ z r. FoundElement (suc d) start z r) (λ z r. FoundElement (suc d) start z r)
      (λ z t vs q w mid p g v.
      let j = element_taken (is_sign sign.OpenBracket t) (fits && nat_lt z.height (suc d)) z q p in
      let l : z.height < suc d = ltb-true z.height (suc d) (both fits (nat_lt z.height (suc d)) j.1).1 in
      element_found start t (true_is sign.OpenBracket t j.0) vs (Operands.element_operand z) w mid v.has (omega arith) (ap (λ (r : Reading Signed Element). r vs) j.2 ∙ g))
      (λ z w t vs p v. subst (λ s. FoundElement (suc d) start s (t ∷ vs)) (element_passed (is_sign sign.OpenBracket t) (fits && nat_lt z.height (suc d)) (element_rest low (Operands.element_operand z)) z w p) v)
      x us y rest h f

  pub found_indexed : (start : List Signed) (a : Operand) (us : List Signed) (y : Element) (rest : List Signed) → IsExpr 0 start (expr_of a) a.height us → a.height ≤ d → indexed low fits (suc d) a us ≡ Ok (y, rest) → FoundElement (suc d) start y rest
  unfolding indexed
  found_indexed start a us y rest f l h =
      let o = bound (expect (is_sign sign.OpenBracket) us) _ (y, rest) h in
      let k = found_sign sign.OpenBracket us o.0 o.1 o.2 in
      let x = bound (element_rest low a o.1) _ (y, rest) o.3 in
      found_elements start x.0 x.1 y rest (element_found start o.0 k.1 o.1 a x.0 x.1 (subst (λ z. IsExpr 0 start (expr_of a) a.height z) k.0 f) l x.2) x.3

  -- ---- "++" and "--" after an operand.

  post_target : (ts : List Signed) (a : Operand) (p : Lvalue) (rest : List Signed) → Operands.post_lvalue a ≡ Some p → IsTarget ts a.line a.form a.height rest → (IsPostPlace ts (place_of p) p.height rest) × (a.height ≡ p.height)
  post_target ts a p rest e h = by a.form e h
    where
      by : (f : Form) → Operands.post_lvalue_by a.line f a.height ≡ Some p → IsTarget ts a.line f a.height rest → (IsPostPlace ts (place_of p) p.height rest) × (a.height ≡ p.height)
      by (form.Target (target.Name name)) k w =
          let q : Lvalue = record { line = a.line; target = target.Name name; height = a.height } in
          let s : q ≡ p = cc in
          (subst (λ (z : Lvalue). IsPostPlace ts (place_of z) z.height rest) s w, ap (λ (z : Lvalue). z.height) s)
      by (form.Target (target.Index b i)) k w =
          let q : Lvalue = record { line = a.line; target = target.Index b i; height = a.height } in
          let s : q ≡ p = cc in
          (subst (λ (z : Lvalue). IsPostPlace ts (place_of z) z.height rest) s w, ap (λ (z : Lvalue). z.height) s)
      by (form.Target (target.Deref b)) k w = absurd cc
      by (form.Value v) k w = absurd cc

  -- An expression of level 0 is one of level 1.
  pub raised : (n : ℕ) → n < 13 → (e : ℕ) (ts : List Signed) (x : Operand) (rest : List Signed) → Found n e ts x rest → Found (suc n) e ts x rest
  raised n l e ts x rest f = record { has = grammar.Up n ts rest (expr_of x) x.height l f.has; place = f.place; within = f.within }

  step_case : (start : List Signed) (a : Operand) (o : Option StepOperator) (p : Option Lvalue) → Operands.post_lvalue a ≡ p → (t : Signed) → step_of t.sign ≡ o → (us : List Signed) (x : Operand) (rest : List Signed) → Found 0 (suc d) start a (t ∷ us) →
      picked (step_by (suc d) a o p) t us ≡ Ok (x, rest) → Found 1 (suc d) start x rest
  step_case start a None p q t e us x rest f h = found_value 1 (suc d) start a x (t ∷ us) rest h (raised 0 (omega arith) (suc d) start a (t ∷ us) f)
  step_case start a (Some op) None q t e us x rest f h = absurd cc
  step_case start a (Some op) (Some p) q t e us x rest f h =
      let j = if_took (nat_lt p.height (suc d)) Limit (done (Operands.after op p)) t us x rest h in
      let l : p.height < suc d = ltb-true p.height (suc d) j.0 in
      let w = post_target start a p (t ∷ us) q f.place in
      found_value 1 (suc d) start (Operands.after op p) x us rest j.1 (record { has = grammar.After t start us op (place_of p) p.height w.0 e; place = tt; within = omega (arith, l) })

  pub found_step : (start : List Signed) (a : Operand) (us : List Signed) (x : Operand) (rest : List Signed) → Found 0 (suc d) start a us → dispatch (step_pick (suc d) a) us ≡ Ok (x, rest) → Found 1 (suc d) start x rest
  found_step start a [] x rest f h = absurd cc
  found_step start a (t ∷ us) x rest f h = step_case start a (step_of t.sign) (Operands.post_lvalue a) refl t refl us x rest f h

  element_operand_found : (start : List Signed) (e : Element) (rest : List Signed) → FoundElement (suc d) start e rest → Found 0 (suc d) start (Operands.element_operand e) rest
  element_operand_found start e rest f = record { has = f.has; place = f.place; within = f.within }

  post_element_found : (start : List Signed) (o : Signed) → o.sign ≡ sign.OpenBracket → (us : List Signed) (a x : Operand) (rest : List Signed) → IsExpr 0 start (expr_of a) a.height (o ∷ us) → a.height ≤ d → post_element low fits (suc d) a us ≡ Ok (x, rest) → Found 1 (suc d) start x rest
  unfolding post_element
  post_element_found start o e us a x rest f l h =
      let m = bound (element_rest low a us) _ (x, rest) h in
      let k = bound (elements low fits (suc d) m.0 m.1) _ (x, rest) m.3 in
      found_step start (Operands.element_operand k.0) k.1 x rest (element_operand_found start k.0 k.1 (found_elements start m.0 m.1 k.0 k.1 (element_found start o e us a m.0 m.1 f l m.2) k.2)) k.3

  post_case : (b c : Bool) → (start : List Signed) (a : Operand) (t : Signed) → is_sign sign.OpenBracket t ≡ b → (fits && nat_lt a.height (suc d)) ≡ c → (us : List Signed) (x : Operand) (rest : List Signed) → Found 0 (suc d) start a (t ∷ us) →
      picked (if b then (if c then Take (post_element low fits (suc d) a) else Refuse Limit) else step_pick (suc d) a t) t us ≡ Ok (x, rest) → Found 1 (suc d) start x rest
  post_case true c start a t e g us x rest f h =
      let j = if_took c Limit (post_element low fits (suc d) a) t us x rest h in
      let l : a.height < suc d = ltb-true a.height (suc d) (both fits (nat_lt a.height (suc d)) (g ∙ j.0)).1 in
      post_element_found start t (true_is sign.OpenBracket t e) us a x rest f.has (omega arith) j.1
  post_case false c start a t e g us x rest f h = found_step start a (t ∷ us) x rest f h

  pub found_post : (start : List Signed) (a : Operand) (us : List Signed) (x : Operand) (rest : List Signed) → Found 0 (suc d) start a us → post low fits (suc d) a us ≡ Ok (x, rest) → Found 1 (suc d) start x rest
  found_post start a [] x rest f h = absurd cc
  found_post start a (t ∷ us) x rest f h = post_case (is_sign sign.OpenBracket t) (fits && nat_lt a.height (suc d)) start a t refl refl us x rest f h

  -- ---- What can be written to.

  element_place_found : (start : List Signed) (e : Element) (rest : List Signed) → FoundElement (suc d) start e rest → FoundPlace (suc d) start (Operands.element_lvalue e) rest
  element_place_found start e rest f = record { has = grammar.PostPlace start rest (at e.line (place.Index e.base e.index)) e.height f.place; within = f.within }

  place_value : (ts : List Signed) (x y : Lvalue) (r s : List Signed) → (let o : Out Signed Lvalue = Ok (x, r) in o) ≡ Ok (y, s) → FoundPlace (suc d) ts x r → FoundPlace (suc d) ts y s
  place_value ts x y r s e f = moved (λ z q. FoundPlace (suc d) ts z q) x y r s (ok_same x y r s e) f

  found_place_rest : (start : List Signed) (a : Operand) (us : List Signed) (p : Lvalue) (rest : List Signed) → Found 0 d start a us → place_rest low fits (suc d) a us ≡ Ok (p, rest) → FoundPlace (suc d) start p rest
  unfolding place_rest
  found_place_rest start a us p rest f h =
      let e = bound (indexed low fits (suc d) a us) _ (p, rest) h in
      place_value start (Operands.element_lvalue e.0) p e.1 rest e.3 (element_place_found start e.0 e.1 (found_indexed start a us e.0 e.1 f.has f.within e.2))

  found_place_element : (start : List Signed) (o : Signed) → o.sign ≡ sign.OpenBracket → (us : List Signed) (a : Operand) (p : Lvalue) (rest : List Signed) → IsExpr 0 start (expr_of a) a.height (o ∷ us) → a.height ≤ d → place_element low fits (suc d) a us ≡ Ok (p, rest) → FoundPlace (suc d) start p rest
  unfolding place_element
  found_place_element start o e us a p rest f l h =
      let m = bound (element_rest low a us) _ (p, rest) h in
      let k = bound (elements low fits (suc d) m.0 m.1) _ (p, rest) m.3 in
      place_value start (Operands.element_lvalue k.0) p k.1 rest k.3 (element_place_found start k.0 k.1 (found_elements start m.0 m.1 k.0 k.1 (element_found start o e us a m.0 m.1 f l m.2) k.2))

  found_place_call : (t o : Signed) → t.sign ≡ sign.Name → o.sign ≡ sign.OpenParen → (us : List Signed) (p : Lvalue) (rest : List Signed) → place_call low fits (suc d) t us ≡ Ok (p, rest) → FoundPlace (suc d) (t ∷ o ∷ us) p rest
  unfolding place_call
  found_place_call t o e g us p rest h =
      let a = bound (low.call t us) _ (p, rest) h in
      found_place_rest (t ∷ o ∷ us) a.0 a.1 p rest (sounds.call t o e g us a.0 a.1 a.2) a.3

  place_name_case : (b c : Bool) → (fits ≡ true → 1 ≤ d) → (t : Signed) → t.sign ≡ sign.Name → (u : Signed) → is_sign sign.OpenBracket u ≡ b → is_sign sign.OpenParen u ≡ c → (us : List Signed) (p : Lvalue) (rest : List Signed) →
      picked (if b then (if fits then Take (place_element low fits (suc d) (Operands.name t)) else Refuse Limit) else if c then (if fits then Take (place_call low fits (suc d) t) else Refuse Limit) else Pass (Operands.name_lvalue t)) u us ≡ Ok (p, rest) →
      FoundPlace (suc d) (t ∷ u ∷ us) p rest
  place_name_case true c one t e u g k us p rest h =
      let j = if_took fits Limit (place_element low fits (suc d) (Operands.name t)) u us p rest h in
      found_place_element (t ∷ u ∷ us) u (true_is sign.OpenBracket u g) us (Operands.name t) p rest (grammar.Name t (u ∷ us) e) (one j.0) j.1
  place_name_case false true one t e u g k us p rest h = found_place_call t u e (true_is sign.OpenParen u k) us p rest (if_took fits Limit (place_call low fits (suc d) t) u us p rest h).1
  place_name_case false false one t e u g k us p rest h =
      place_value (t ∷ u ∷ us) (Operands.name_lvalue t) p (u ∷ us) rest h
      (record { has = grammar.PostPlace (t ∷ u ∷ us) (u ∷ us) (at t.line (place.Name t.text)) 1 (grammar.NamePlace t (u ∷ us) e); within = omega arith })

  found_place_name : (fits ≡ true → 1 ≤ d) → (t : Signed) → t.sign ≡ sign.Name → (us : List Signed) (p : Lvalue) (rest : List Signed) → place_name low fits (suc d) t us ≡ Ok (p, rest) → FoundPlace (suc d) (t ∷ us) p rest
  unfolding place_name
  found_place_name one t e [] p rest h = absurd cc
  found_place_name one t e (u ∷ us) p rest h = place_name_case (is_sign sign.OpenBracket u) (is_sign sign.OpenParen u) one t e u refl refl us p rest h

  found_deref : (t : Signed) → t.sign ≡ sign.Star → (us : List Signed) (p : Lvalue) (rest : List Signed) → deref_rest low t us ≡ Ok (p, rest) → FoundPlace (suc d) (t ∷ us) p rest
  unfolding deref_rest
  found_deref t e us p rest h =
      let a = bound (dispatch (low.level 1) us) _ (p, rest) h in
      let f = sounds.level 1 (omega arith) us a.0 a.1 a.2 in
      place_value (t ∷ us) (Operands.deref_lvalue t a.0) p a.1 rest a.3 (record { has = grammar.DerefPlace t us a.1 (expr_of a.0) a.0.height e f.has; within = omega (arith, f.within) })

  place_case : (b c e : Bool) → (e ≡ true → 1 ≤ d) → e ≡ fits → (k : Kind) (t : Signed) → is_sign sign.Name t ≡ b → is_sign sign.Star t ≡ c → (us : List Signed) (p : Lvalue) (rest : List Signed) →
      picked (if b then Take (place_name low fits (suc d) t) else if c then (if e then Take (deref_rest low t) else Refuse Limit) else if e then then_pick (low.level 0 t) (place_rest low fits (suc d)) else Refuse k) t us ≡ Ok (p, rest) → FoundPlace (suc d) (t ∷ us) p rest
  place_case true c e one s k t g j us p rest h = found_place_name (λ f. one (s ∙ f)) t (true_is sign.Name t g) us p rest h
  place_case false true e one s k t g j us p rest h = found_deref t (true_is sign.Star t j) us p rest (if_took e Limit (deref_rest low t) t us p rest h).1
  place_case false false true one s k t g j us p rest h =
      let a = bound (picked (low.level 0 t) t us) (place_rest low fits (suc d)) (p, rest) (sym (picked_then (low.level 0 t) (place_rest low fits (suc d)) t us (sounds.passes 0 t)) ∙ h) in
      found_place_rest (t ∷ us) a.0 a.1 p rest (sounds.level 0 (omega arith) (t ∷ us) a.0 a.1 a.2) a.3
  place_case false false false one s k t g j us p rest h = absurd cc

  pub found_place : (fits ≡ true → 1 ≤ d) → (ts : List Signed) (p : Lvalue) (rest : List Signed) → dispatch (place_pick low fits (suc d)) ts ≡ Ok (p, rest) → FoundPlace (suc d) ts p rest
  found_place one [] p rest h = absurd cc
  found_place one (t ∷ us) p rest h = place_case (is_sign sign.Name t) (is_sign sign.Star t) fits one refl (full_fault (begins_primary t.sign)) t refl refl us p rest h
