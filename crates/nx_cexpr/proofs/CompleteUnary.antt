-- Expressions with an operator, a cast or a size before them are read.
use Rattle.std.proofs.Common.{◌≡◌, ℕ, suc, ◌≤◌, Bool, List, ◌∷◌, refl, ap, ◌∙◌, arith}
use Rattle.std.specs.Prelude.{Ok, Some}
use Rattle.nx_ctree.specs.declared.sign.Sign.TheVariants as sign
use Rattle.nx_ctree.specs.declared.sign.Signed.{Signed}
use Rattle.nx_ctree.specs.declared.program.Base.{Base}
use Rattle.nx_ctree.specs.declared.expression.Expr.{Expr}
use Rattle.nx_ctree.specs.declared.expression.ExprKind.TheVariants as kind
use Rattle.nx_ctree.specs.declared.expression.UnaryOperator.{UnaryOperator}
use Rattle.nx_ctree.specs.declared.expression.UnaryOperator.TheVariants as unary
use Rattle.nx_ctree.specs.Expressions.{expr, unary_of, IsBase, IsStar}
use Rattle.nx_grammar.specs.Reading.{dispatch}
use Rattle.nx_grammar.specs.Lawful.{Heads}
use Rattle.nx_cexpr.specs.declared.operand.Operand.{Operand}
use Rattle.nx_cexpr.specs.Signs.{Stops}
use Rattle.nx_cexpr.specs.Operands
use Rattle.nx_cexpr.specs.Operands.{expr_of}
use Rattle.nx_cexpr.specs.Reading.{has_node, within}
use Rattle.nx_cexpr.proofs.Laws.{lows, level_at_passes}
use Rattle.nx_cexpr.proofs.CompletePicks.{unary_read, group_read, group_cast_on, size_read, size_name_read, size_type_read}
use Rattle.nx_cexpr.proofs.CompleteClaims.{from_node, node_fits, Reads}
use Rattle.nx_cexpr.proofs.CompletePrimary.{level_is}

-- What an operator before an operand makes.
unary_shows : (t : Signed) (op : UnaryOperator) (x : Operand) → expr_of (Operands.unary_operand t op x) ≡ expr t.line (kind.Unary op (expr_of x))
unary_shows t unary.Minus x = refl
unary_shows t unary.Not x = refl
unary_shows t unary.Complement x = refl
unary_shows t unary.Deref x = refl

pub operator_before : (t : Signed) (ts rest : List Signed) (op : UnaryOperator) (a : Expr) (h : ℕ) → unary_of t.sign ≡ Some op → 1 ≤ h → Reads 0 ts a h rest → Reads 0 (t ∷ ts) (expr t.line (kind.Unary op a)) (suc h) rest
operator_before t ts rest op a h g one r = record {
  operand = Operands.unary_operand t op r.operand;
  shows = unary_shows t op r.operand ∙ ap (λ z. expr t.line (kind.Unary op z)) r.shows;
  tall = ap suc r.tall;
  reads = from_node (λ d. Heads (Stops 1) rest → dispatch ((within d).level 1) (t ∷ ts) ≡ Ok (Operands.unary_operand t op r.operand, rest)) (suc h) (omega arith)
      (λ e l s. level_is e 1 (t ∷ ts) (Ok (Operands.unary_operand t op r.operand, rest))
      (unary_read (within e) (has_node e) (lows e) (level_at_passes e) (suc e) (node_fits e (omega (arith, one, l))) t op g ts r.operand rest (r.reads e (omega (arith, l)) s)));
  loops = λ e l below m s. absurd (omega (arith, below));
}

pub cast_read : (t c : Signed) (ts us vs rest : List Signed) (b : Base) (star : Bool) (a : Expr) (h : ℕ) → t.sign ≡ sign.OpenParen → IsBase ts b us → IsStar us star (c ∷ vs) → c.sign ≡ sign.CloseParen → 1 ≤ h → Reads 0 vs a h rest →
    Reads 0 (t ∷ ts) (expr t.line (kind.Cast b star a)) (suc h) rest
cast_read t c ts us vs rest b star a h g x y k one r = record {
  operand = Operands.cast t b star r.operand;
  shows = ap (λ z. expr t.line (kind.Cast b star z)) r.shows;
  tall = ap suc r.tall;
  reads = from_node (λ d. Heads (Stops 1) rest → dispatch ((within d).level 1) (t ∷ ts) ≡ Ok (Operands.cast t b star r.operand, rest)) (suc h) (omega arith)
      (λ e l s. level_is e 1 (t ∷ ts) (Ok (Operands.cast t b star r.operand, rest))
      (group_read (within e) (has_node e) (lows e) (level_at_passes e) (suc e) (node_fits e (omega (arith, one, l))) t ts (Ok (Operands.cast t b star r.operand, rest)) g
      (group_cast_on (within e) (has_node e) (lows e) (level_at_passes e) (suc e) t c ts us vs b star x y k r.operand rest (r.reads e (omega (arith, l)) s))));
  loops = λ e l below m s. absurd (omega (arith, below));
}

pub size_of_name : (t o n c : Signed) (rest : List Signed) → t.sign ≡ sign.SizeOf → o.sign ≡ sign.OpenParen → n.sign ≡ sign.Name → c.sign ≡ sign.CloseParen → Reads 0 (t ∷ o ∷ n ∷ c ∷ rest) (expr t.line (kind.SizeOfName n.text)) 1 rest
size_of_name t o n c rest g h k m = record {
  operand = Operands.size_of_name t n;
  shows = refl;
  tall = refl;
  reads = from_node (λ d. Heads (Stops 1) rest → dispatch ((within d).level 1) (t ∷ o ∷ n ∷ c ∷ rest) ≡ Ok (Operands.size_of_name t n, rest)) 1 (omega arith)
      (λ e l s. level_is e 1 (t ∷ o ∷ n ∷ c ∷ rest) (Ok (Operands.size_of_name t n, rest))
      (size_read (within e) (has_node e) (lows e) (level_at_passes e) (suc e) t (o ∷ n ∷ c ∷ rest) (Ok (Operands.size_of_name t n, rest)) g
      (size_name_read (within e) (has_node e) (lows e) (level_at_passes e) (suc e) t o n c rest h k m)));
  loops = λ e l below j s. absurd (omega (arith, below));
}

pub size_of_type : (t o c : Signed) (ts rest : List Signed) (b : Base) → t.sign ≡ sign.SizeOf → o.sign ≡ sign.OpenParen → IsBase ts b (c ∷ rest) → c.sign ≡ sign.CloseParen → Reads 0 (t ∷ o ∷ ts) (expr t.line (kind.SizeOfType b)) 1 rest
size_of_type t o c ts rest b g h x k = record {
  operand = Operands.size_of_type t b;
  shows = refl;
  tall = refl;
  reads = from_node (λ d. Heads (Stops 1) rest → dispatch ((within d).level 1) (t ∷ o ∷ ts) ≡ Ok (Operands.size_of_type t b, rest)) 1 (omega arith)
      (λ e l s. level_is e 1 (t ∷ o ∷ ts) (Ok (Operands.size_of_type t b, rest))
      (size_read (within e) (has_node e) (lows e) (level_at_passes e) (suc e) t (o ∷ ts) (Ok (Operands.size_of_type t b, rest)) g
      (size_type_read (within e) (has_node e) (lows e) (level_at_passes e) (suc e) t o c ts rest b h x k)));
  loops = λ e l below j s. absurd (omega (arith, below));
}
