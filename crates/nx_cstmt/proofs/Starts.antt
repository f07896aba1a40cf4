-- With which tokens expressions and statements begin.
use Rattle.std.proofs.Common.{◌≡◌, ℕ, ◌<◌, Bool, true, false, List, [], ◌∷◌, refl, ap, ◌∙◌, arith}
use Rattle.std.specs.Prelude.{Some}
use Rattle.nx_grammar.specs.Lawful.{Heads}
use Rattle.nx_ctree.specs.declared.sign.Sign.{Sign}
use Rattle.nx_ctree.specs.declared.sign.Sign.TheVariants as sign
use Rattle.nx_ctree.specs.declared.sign.Signed.{Signed}
use Rattle.nx_ctree.specs.declared.expression.Expr.{Expr}
use Rattle.nx_ctree.specs.declared.expression.Place.{Place}
use Rattle.nx_ctree.specs.declared.expression.UnaryOperator.{UnaryOperator}
use Rattle.nx_ctree.specs.declared.expression.StepOperator.{StepOperator}
use Rattle.nx_ctree.specs.declared.statement.Stmt.{Stmt}
use Rattle.nx_ctree.specs.Expressions.{unary_of, step_of, IsExpr, IsPostPlace, IsPlace, Name, Number, Char, Text, Paren, Call, Index, Unary, AddressOf, Before, Cast, SizeOfName, SizeOfType, After, Binary, Conditional, Assign, Up, NamePlace, IndexPlace, PostPlace, DerefPlace}
use Rattle.nx_ctree.specs.Statements.{IsPart, IsStmt, Empty, Expression, Block, If, IfElse, While, Do, For, Break, Continue, Return}

-- The signs that begin an expression.
abbrev pub begins_expression : Sign → Bool
begins_expression sign.Name = true
begins_expression sign.Number = true
begins_expression sign.Char = true
begins_expression sign.Text = true
begins_expression sign.OpenParen = true
begins_expression sign.Minus = true
begins_expression sign.Not = true
begins_expression sign.Complement = true
begins_expression sign.Star = true
begins_expression sign.BitAnd = true
begins_expression sign.Increment = true
begins_expression sign.Decrement = true
begins_expression sign.SizeOf = true
begins_expression m = false

-- The signs that begin a statement.
abbrev pub begins_statement : Sign → Bool
begins_statement sign.Semicolon = true
begins_statement sign.OpenBrace = true
begins_statement sign.If = true
begins_statement sign.While = true
begins_statement sign.Do = true
begins_statement sign.For = true
begins_statement sign.Break = true
begins_statement sign.Continue = true
begins_statement sign.Return = true
begins_statement m = begins_expression m

-- A list that an expression may begin.
abbrev pub Starts : List Signed → Type 0
Starts ts = Heads (λ t. begins_expression t.sign ≡ true) ts

-- A list that a statement may begin.
abbrev pub StartsStatement : List Signed → Type 0
StartsStatement ts = Heads (λ t. begins_statement t.sign ≡ true) ts

by_sign : (t : Signed) (s : Sign) → t.sign ≡ s → begins_expression s ≡ true → begins_expression t.sign ≡ true
by_sign t s e h = ap begins_expression e ∙ h

unary_begins : (s : Sign) (op : UnaryOperator) → unary_of s ≡ Some op → begins_expression s ≡ true
unary_begins sign.Minus op e = refl
unary_begins sign.Not op e = refl
unary_begins sign.Complement op e = refl
unary_begins sign.Star op e = refl
unary_begins m op e = absurd cc

step_begins : (s : Sign) (op : StepOperator) → step_of s ≡ Some op → begins_expression s ≡ true
step_begins sign.Increment op e = refl
step_begins sign.Decrement op e = refl
step_begins m op e = absurd cc

mutual
  -- An expression begins with one of its tokens.
  pub starts : {n : ℕ} {ts : List Signed} {a : Expr} {h : ℕ} {rest : List Signed} → IsExpr n ts a h rest → Starts ts
  starts (Name t r e) = by_sign t sign.Name e refl
  starts (Number t r e) = by_sign t sign.Number e refl
  starts (Char t r e) = by_sign t sign.Char e refl
  starts (Text t r e) = by_sign t sign.Text e refl
  starts (Paren t c ts r a h e x f) = by_sign t sign.OpenParen e refl
  starts (Call t o c ts r xs h e f x g) = by_sign t sign.Name e refl
  starts (Index o c ts us r a i h k x e y f) = starts x
  starts (Unary t ts r op a h e x) = unary_begins t.sign op e
  starts (AddressOf t o c ts us r a i h k e x f y g) = by_sign t sign.BitAnd e refl
  starts (Before t ts r op p h e x) = step_begins t.sign op e
  starts (Cast t c ts us vs r b star a h e x y f z) = by_sign t sign.OpenParen e refl
  starts (SizeOfName t o n c r e f g h) = by_sign t sign.SizeOf e refl
  starts (SizeOfType t o c ts r b e f x g) = by_sign t sign.SizeOf e refl
  starts (After t ts r op p h x e) = post_starts x
  starts (Binary n t ts us r op a b h k e x y) = starts x
  starts (Conditional q c ts us vs r a b d h k m x e y f z) = starts x
  starts (Assign t ts us r op p d h k x e y) = place_starts x
  starts (Up n ts r a h l x) = starts x

  post_starts : {ts : List Signed} {p : Place} {h : ℕ} {rest : List Signed} → IsPostPlace ts p h rest → Starts ts
  post_starts (NamePlace t r e) = by_sign t sign.Name e refl
  post_starts (IndexPlace o c ts us r a i h k x e y f) = starts x

  place_starts : {ts : List Signed} {p : Place} {h : ℕ} {rest : List Signed} → IsPlace ts p h rest → Starts ts
  place_starts (PostPlace ts r p h x) = post_starts x
  place_starts (DerefPlace t ts r a h e x) = by_sign t sign.Star e refl

-- An expression has a node.
pub positive : {n : ℕ} {ts : List Signed} {a : Expr} {h : ℕ} {rest : List Signed} → IsExpr n ts a h rest → 0 < h
positive (Name t r e) = omega arith
positive (Number t r e) = omega arith
positive (Char t r e) = omega arith
positive (Text t r e) = omega arith
positive (Paren t c ts r a h e x f) = omega arith
positive (Call t o c ts r xs h e f x g) = omega arith
positive (Index o c ts us r a i h k x e y f) = omega arith
positive (Unary t ts r op a h e x) = omega arith
positive (AddressOf t o c ts us r a i h k e x f y g) = omega arith
positive (Before t ts r op p h e x) = omega arith
positive (Cast t c ts us vs r b star a h e x y f z) = omega arith
positive (SizeOfName t o n c r e f g h) = omega arith
positive (SizeOfType t o c ts r b e f x g) = omega arith
positive (After t ts r op p h x e) = omega arith
positive (Binary n t ts us r op a b h k e x y) = omega arith
positive (Conditional q c ts us vs r a b d h k m x e y f z) = omega arith
positive (Assign t ts us r op p d h k x e y) = omega arith
positive (Up n ts r a h l x) = positive x

-- So there is none of no nodes.
pub no_part : (ts : List Signed) (a : Expr) (rest : List Signed) → IsPart 0 ts a rest → ⊥
no_part ts a rest p = let l : 0 < p.height = positive p.has in omega (arith, p.within)

-- What begins an expression begins a statement.
begins_more : (s : Sign) → begins_expression s ≡ true → begins_statement s ≡ true
begins_more sign.Semicolon e = refl
begins_more sign.OpenBrace e = refl
begins_more sign.If e = refl
begins_more sign.While e = refl
begins_more sign.Do e = refl
begins_more sign.For e = refl
begins_more sign.Break e = refl
begins_more sign.Continue e = refl
begins_more sign.Return e = refl
begins_more m e = e

starts_more : (ts : List Signed) → Starts ts → StartsStatement ts
starts_more [] h = h
starts_more (t ∷ ts) h = begins_more t.sign h

as_sign : (t : Signed) (s : Sign) → t.sign ≡ s → begins_statement s ≡ true → begins_statement t.sign ≡ true
as_sign t s e h = ap begins_statement e ∙ h

-- A statement begins with one of its tokens.
pub stmt_starts : {l : Bool} {d : ℕ} {bare : Bool} {ts : List Signed} {a : Stmt} {rest : List Signed} → IsStmt l d bare ts a rest → StartsStatement ts
stmt_starts (Empty l d t r e) = as_sign t sign.Semicolon e refl
stmt_starts (Expression l d s ts r a p e) = starts_more ts (starts p.has)
stmt_starts (Block l d t c ts r xs e x f) = as_sign t sign.OpenBrace e refl
stmt_starts (If l d b t ts us r a x e p h) = as_sign t sign.If e refl
stmt_starts (IfElse l d b t e ts us vs r a x y f p g h i) = as_sign t sign.If f refl
stmt_starts (While l d b t ts us r a x e p h) = as_sign t sign.While e refl
stmt_starts (Do l d b t w s ts us r x a e h f p g) = as_sign t sign.Do e refl
stmt_starts (For l d b t o ts us vs ws r a b2 c x e f p q s h) = as_sign t sign.For e refl
stmt_starts (Break d t s r e f) = as_sign t sign.Break e refl
stmt_starts (Continue d t s r e f) = as_sign t sign.Continue e refl
stmt_starts (Return l d t ts r a e p) = as_sign t sign.Return e refl

-- Where one sign begins a statement and the other doesn't, they differ.
pub not_same : (s r : Sign) → begins_statement s ≡ true → begins_statement r ≡ false → s ≡ r → ⊥
not_same s r h k e = let same : begins_statement s ≡ begins_statement r = ap begins_statement e in absurd cc

-- Each that begins an expression begins a statement, so the same holds of it.
pub part_not_same : (s r : Sign) → begins_expression s ≡ true → begins_expression r ≡ false → s ≡ r → ⊥
part_not_same s r h k e = let same : begins_expression s ≡ begins_expression r = ap begins_expression e in absurd cc
