-- With which tokens an expression begins.
use Rattle.std.proofs.Common.{◌≡◌, ℕ, ◌<◌, true, false, List, refl, ap, ◌∙◌, arith}
use Rattle.std.specs.Prelude.{Some}
use Rattle.nx_grammar.specs.Lawful.{Heads}
use Rattle.nx_ctree.specs.declared.sign.Sign.{Sign}
use Rattle.nx_ctree.specs.declared.sign.Sign.TheVariants as sign
use Rattle.nx_ctree.specs.declared.sign.Signed.{Signed}
use Rattle.nx_ctree.specs.declared.program.Base.{Base}
use Rattle.nx_ctree.specs.declared.expression.Expr.{Expr}
use Rattle.nx_ctree.specs.declared.expression.Place.{Place}
use Rattle.nx_ctree.specs.declared.expression.UnaryOperator.{UnaryOperator}
use Rattle.nx_ctree.specs.declared.expression.StepOperator.{StepOperator}
use Rattle.nx_ctree.specs.Expressions.{unary_of, step_of, IsBase, IntBase, CharBase, ConstCharBase, IsExpr, IsPostPlace, IsPlace, Name, Number, Char, Text, Paren, Call, Index, Unary, AddressOf, Before, Cast, SizeOfName, SizeOfType, After, Binary, Conditional, Assign, Up, NamePlace, IndexPlace, PostPlace, DerefPlace}
use Rattle.nx_cexpr.specs.Signs.{is_sign, begins}
use Rattle.nx_cexpr.specs.Types.{begins_base}
use Rattle.nx_cexpr.proofs.SignLaws.{differs}

-- A list that an expression may begin.
abbrev pub Starts : List Signed → Type 0
Starts ts = Heads (λ t. begins t.sign ≡ true) ts

by_sign : (t : Signed) (s : Sign) → t.sign ≡ s → begins s ≡ true → begins t.sign ≡ true
by_sign t s e h = ap begins e ∙ h

unary_begins : (s : Sign) (op : UnaryOperator) → unary_of s ≡ Some op → begins s ≡ true
unary_begins sign.Minus op e = refl
unary_begins sign.Not op e = refl
unary_begins sign.Complement op e = refl
unary_begins sign.Star op e = refl
unary_begins m op e = absurd cc

step_begins : (s : Sign) (op : StepOperator) → step_of s ≡ Some op → begins s ≡ true
step_begins sign.Increment op e = refl
step_begins sign.Decrement op e = refl
step_begins m op e = absurd cc

mutual
  -- An expression begins with one of its tokens.
  pub starts : {n : ℕ} {ts : List Signed} {a : Expr} {h : ℕ} {rest : List Signed} → IsExpr n ts a h rest → Starts ts
  starts (Name t r e) = by_sign t sign.Name e refl
  starts (Number t r e) = by_sign t sign.Number e refl
  starts (Char t r e) = by_sign t sign.Char e refl
  starts (Text t r e) = by_sign t sign.Text e refl
  starts (Paren t c ts r a h e x f) = by_sign t sign.OpenParen e refl
  starts (Call t o c ts r xs h e f x g) = by_sign t sign.Name e refl
  starts (Index o c ts us r a i h k x e y f) = starts x
  starts (Unary t ts r op a h e x) = unary_begins t.sign op e
  starts (AddressOf t o c ts us r a i h k e x f y g) = by_sign t sign.BitAnd e refl
  starts (Before t ts r op p h e x) = step_begins t.sign op e
  starts (Cast t c ts us vs r b star a h e x y f z) = by_sign t sign.OpenParen e refl
  starts (SizeOfName t o n c r e f g h) = by_sign t sign.SizeOf e refl
  starts (SizeOfType t o c ts r b e f x g) = by_sign t sign.SizeOf e refl
  starts (After t ts r op p h x e) = post_starts x
  starts (Binary n t ts us r op a b h k e x y) = starts x
  starts (Conditional q c ts us vs r a b d h k m x e y f z) = starts x
  starts (Assign t ts us r op p d h k x e y) = place_starts x
  starts (Up n ts r a h l x) = starts x

  post_starts : {ts : List Signed} {p : Place} {h : ℕ} {rest : List Signed} → IsPostPlace ts p h rest → Starts ts
  post_starts (NamePlace t r e) = by_sign t sign.Name e refl
  post_starts (IndexPlace o c ts us r a i h k x e y f) = starts x

  place_starts : {ts : List Signed} {p : Place} {h : ℕ} {rest : List Signed} → IsPlace ts p h rest → Starts ts
  place_starts (PostPlace ts r p h x) = post_starts x
  place_starts (DerefPlace t ts r a h e x) = by_sign t sign.Star e refl

-- An expression has a node.
pub positive : {n : ℕ} {ts : List Signed} {a : Expr} {h : ℕ} {rest : List Signed} → IsExpr n ts a h rest → 0 < h
positive (Name t r e) = omega arith
positive (Number t r e) = omega arith
positive (Char t r e) = omega arith
positive (Text t r e) = omega arith
positive (Paren t c ts r a h e x f) = omega arith
positive (Call t o c ts r xs h e f x g) = omega arith
positive (Index o c ts us r a i h k x e y f) = omega arith
positive (Unary t ts r op a h e x) = omega arith
positive (AddressOf t o c ts us r a i h k e x f y g) = omega arith
positive (Before t ts r op p h e x) = omega arith
positive (Cast t c ts us vs r b star a h e x y f z) = omega arith
positive (SizeOfName t o n c r e f g h) = omega arith
positive (SizeOfType t o c ts r b e f x g) = omega arith
positive (After t ts r op p h x e) = omega arith
positive (Binary n t ts us r op a b h k e x y) = omega arith
positive (Conditional q c ts us vs r a b d h k m x e y f z) = omega arith
positive (Assign t ts us r op p d h k x e y) = omega arith
positive (Up n ts r a h l x) = positive x

-- What begins an expression begins no base type, and closes no parenthesis.
pub no_base : (s : Sign) → begins s ≡ true → begins_base s ≡ false
no_base sign.Int h = absurd cc
no_base sign.CharWord h = absurd cc
no_base sign.Const h = absurd cc
no_base s h = refl

pub no_close : (t : Signed) → begins t.sign ≡ true → is_sign sign.CloseParen t ≡ false
no_close t h = differs sign.CloseParen t (λ k. let x : begins t.sign ≡ begins sign.CloseParen = ap begins k in absurd cc)

-- A base type begins with one of its tokens.
pub base_begins : {ts : List Signed} {b : Base} {rest : List Signed} → IsBase ts b rest → Heads (λ t. begins_base t.sign ≡ true) ts
base_begins (IntBase t r e) = ap begins_base e
base_begins (CharBase t r e) = ap begins_base e
base_begins (ConstCharBase t u r e g) = ap begins_base e

pub base_no_name : (t : Signed) → begins_base t.sign ≡ true → is_sign sign.Name t ≡ false
base_no_name t h = differs sign.Name t (λ k. let x : begins_base t.sign ≡ begins_base sign.Name = ap begins_base k in absurd cc)
