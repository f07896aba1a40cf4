-- What has a tree by the grammar is read, with that tree.
use Rattle.std.proofs.Common.{◌≡◌, ℕ, zero, suc, ◌≤◌, List, ◌∷◌, refl, ap, ◌∙◌, arith}
use Rattle.std.specs.Prelude.{Ok, Some, max}
use Rattle.nx_ctree.specs.declared.sign.Signed.{Signed}
use Rattle.nx_ctree.specs.declared.expression.Expr.{Expr}
use Rattle.nx_ctree.specs.declared.expression.ExprKind.TheVariants as kind
use Rattle.nx_ctree.specs.declared.expression.Place.{Place}
use Rattle.nx_ctree.specs.declared.expression.BinaryOperator.{BinaryOperator}
use Rattle.nx_ctree.specs.Expressions.{expr, binary_of, whole, IsExpr, IsArgs, IsPostPlace, IsPlace, Name, Number, Char, Text, Paren, Call, Index, Unary, AddressOf, Before, Cast, SizeOfName, SizeOfType, After, Binary, Conditional, Assign, Up, NoArgs, FirstArg, NextArg, NamePlace, IndexPlace, PostPlace, DerefPlace}
use Rattle.nx_grammar.specs.Reading.{bind, done}
use Rattle.nx_grammar.specs.Lawful.{Heads}
use Rattle.nx_cexpr.specs.declared.operand.Tall.{Tall}
use Rattle.nx_cexpr.specs.declared.operand.Operand.{Operand}
use Rattle.nx_cexpr.specs.Signs.{Stops}
use Rattle.nx_cexpr.specs.Operands
use Rattle.nx_cexpr.specs.Operands.{expr_of}
use Rattle.nx_cexpr.specs.Reading.{expr_at}
use Rattle.nx_cexpr.proofs.Laws.{expr_then}
use Rattle.nx_cexpr.proofs.CompleteStarts.{starts, positive}
use Rattle.nx_cexpr.proofs.CompleteClaims.{Primary, Chain, One, Many, Reads, Claim, Given, Placed, Posted}
use Rattle.nx_cexpr.proofs.CompletePrimary.{number_read, character_read, text_read, name_read, call_read, first_read, next_read, parens_read}
use Rattle.nx_cexpr.proofs.CompleteIndexes.{index_read, chain_up, address_of}
use Rattle.nx_cexpr.proofs.CompletePlaces.{name_posted, index_posted, posted_placed, deref_placed, after_read, step_before}
use Rattle.nx_cexpr.proofs.CompleteUnary.{operator_before, cast_read, size_of_name, size_of_type}
use Rattle.nx_cexpr.proofs.CompleteLevels.{Ranked, operator_rank, next_level, binary_read, conditional_read, assign_read}

-- A primary expression of one token.
value_alone : (ts rest : List Signed) (x : Operand) → Primary ts x rest → Chain ts (expr_of x) x.height rest
value_alone ts rest x p = One ts (expr_of x) x.height rest (record { operand = x; shows = refl; tall = refl; primary = p })

-- An expression of a level is one of the next.
up : (n : ℕ) (ts rest : List Signed) (a : Expr) (h : ℕ) → 1 ≤ h → Claim n ts a h rest → Claim (suc n) ts a h rest
up zero ts rest a h one r = chain_up r
up (suc n) ts rest a h one r = next_level n ts a h rest one r

-- An operator has a level from 2 on.
between : (n : ℕ) (t : Signed) (ts us rest : List Signed) (op : BinaryOperator) (a b : Expr) (h k : ℕ) → binary_of t.sign ≡ Some (op, suc n) → 1 ≤ k → Claim (suc n) ts a h (t ∷ us) → Claim n us b k rest →
    Claim (suc n) ts (expr a.line (kind.Binary op a b)) (suc (max h k)) rest
between zero t ts us rest op a b h k g one r q = let w : Ranked t.sign 1 = operator_rank t op 1 g in absurd (omega (arith, w.least))
between (suc n) t ts us rest op a b h k g one r q = binary_read n t ts us rest op a b h k g one r q

mutual
  -- Every expression of the grammar is read.
  pub complete : {n : ℕ} {ts : List Signed} {a : Expr} {h : ℕ} {rest : List Signed} → IsExpr n ts a h rest → Claim n ts a h rest
  complete (Name t r e) = value_alone (t ∷ r) r (Operands.name t) (name_read t r e)
  complete (Number t r e) = value_alone (t ∷ r) r (Operands.number t) (number_read t r e)
  complete (Char t r e) = value_alone (t ∷ r) r (Operands.character t) (character_read t r e)
  complete (Text t r e) = value_alone (t ∷ r) r (Operands.text t) (text_read t r e)
  complete (Paren t c ts r a h e x f) = One (t ∷ ts) (expr t.line (kind.Paren a)) (suc h) r (parens_read t c ts r a h (positive x) e (starts x) (complete x) f)
  complete (Call t o c ts r xs h e f x g) = One (t ∷ o ∷ ts) (expr t.line (kind.Call t.text xs)) (suc h) r (call_read t o c ts r xs h e f (complete_args x) g)
  complete (Index o c ts us r a i h k x e y f) = Many ts a i (suc (max h k)) r (index_read (complete x) o c us r i k refl e (positive y) (complete y) f)
  complete (Unary t ts r op a h e x) = operator_before t ts r op a h e (positive x) (complete x)
  complete (AddressOf t o c ts us r a i h k e x f y g) = address_of t ts a i (suc (max h k)) r e (index_read (complete x) o c us r i k refl f (positive y) (complete y) g)
  complete (Before t ts r op p h e x) = step_before t ts r op p h e (complete_place x)
  complete (Cast t c ts us vs r b star a h e x y f z) = cast_read t c ts us vs r b star a h e x y f (positive z) (complete z)
  complete (SizeOfName t o n c r e f g h) = size_of_name t o n c r e f g h
  complete (SizeOfType t o c ts r b e f x g) = size_of_type t o c ts r b e f x g
  complete (After t ts r op p h x e) = after_read t ts r op p h e (complete_post x)
  complete (Binary n t ts us r op a b h k e x y) = between n t ts us r op a b h k e (positive y) (complete x) (complete y)
  complete (Conditional q c ts us vs r a b d h k m x e y f z) = conditional_read q c ts us vs r a b d h k m (positive y) (complete x) e (complete y) f (complete z)
  complete (Assign t ts us r op p d h k x e y) = assign_read t ts us r op p d h k (positive y) (complete_place x) e (complete y)
  complete (Up n ts r a h l x) = up n ts r a h (positive x) (complete x)

  -- So are arguments.
  complete_args : {ts : List Signed} {xs : List Expr} {h : ℕ} {rest : List Signed} → IsArgs ts xs h rest → Given ts xs h rest
  complete_args (NoArgs ts) = (refl, refl)
  complete_args (FirstArg ts r a h x) = first_read ts r a h (positive x) (starts x) (complete x)
  complete_args (NextArg c ts us r x xs a h k l e y) = next_read c ts us r (x ∷ xs) a h k (positive y) (complete_args l) e (complete y)

  -- So is what "++" and "--" may stand after.
  complete_post : {ts : List Signed} {p : Place} {h : ℕ} {rest : List Signed} → IsPostPlace ts p h rest → Posted ts p h rest
  complete_post (NamePlace t r e) = name_posted t r e
  complete_post (IndexPlace o c ts us r a i h k x e y f) = index_posted ts a i (suc (max h k)) r (index_read (complete x) o c us r i k refl e (positive y) (complete y) f)

  -- So is what can be written to.
  complete_place : {ts : List Signed} {p : Place} {h : ℕ} {rest : List Signed} → IsPlace ts p h rest → Placed ts p h rest
  complete_place (PostPlace ts r p h x) = posted_placed ts p h r (complete_post x)
  complete_place (DerefPlace t ts r a h e x) = deref_placed t ts a h r e (positive x) (complete x)

tall_same : (x : Operand) (a : Expr) (h : ℕ) → expr_of x ≡ a → x.height ≡ h → Operands.tall x ≡ record { expr = a; height = h }
tall_same x a h e g =
    let one : (e : Expr) (n : ℕ) → Tall = λ e n. record { expr = e; height = n } in
    ap (λ z. one z x.height) e ∙ ap (λ z. one a z) g

-- An expression within the limit, before a token that stops it, is read to its tree, and leaves what stands after it.
pub expr_complete : {d : ℕ} {ts : List Signed} {a : Expr} {h : ℕ} {rest : List Signed} → IsExpr whole ts a h rest → h ≤ d → Heads (Stops whole) rest → expr_at d ts ≡ Ok (record { expr = a; height = h }, rest)
expr_complete {d = d} {ts = ts} {a = a} {h = h} {rest = rest} x l s = by (complete x)
  where
    by : Reads 12 ts a h rest → expr_at d ts ≡ Ok (record { expr = a; height = h }, rest)
    by r = expr_then d ts ∙ ap (λ o. bind o (λ y. done (Operands.tall y))) (r.reads d l s) ∙ ap (λ z. Ok (z, rest)) (tall_same r.operand a h r.shows r.tall)
