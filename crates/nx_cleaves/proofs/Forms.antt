-- What stands for an expression, and for a place, of each form.
use Rattle.std.proofs.Common.{◌≡◌, ℕ, Bool, List, sym, ap, ◌∙◌}
use Rattle.nx_ctree.specs.declared.program.Base.{Base}
use Rattle.nx_ctree.specs.declared.expression.UnaryOperator.{UnaryOperator}
use Rattle.nx_ctree.specs.declared.expression.StepOperator.{StepOperator}
use Rattle.nx_ctree.specs.declared.expression.BinaryOperator.{BinaryOperator}
use Rattle.nx_ctree.specs.declared.expression.AssignOperator.{AssignOperator}
use Rattle.nx_ctree.specs.declared.expression.Expr.{Expr}
use Rattle.nx_ctree.specs.declared.expression.ExprKind.{ExprKind}
use Rattle.nx_ctree.specs.declared.expression.ExprKind.TheVariants as kind
use Rattle.nx_ctree.specs.declared.expression.ExprKind.TheOpen as form
use Rattle.nx_ctree.specs.declared.expression.ExprKind.TheFolds.{fold-ExprKind, fold-PlaceKind, fold-roll-Expr, fold-roll-ExprKind, fold-roll-Place, fold-roll-PlaceKind}
use Rattle.nx_ctree.specs.declared.expression.Place.{Place}
use Rattle.nx_ctree.specs.declared.expression.PlaceKind.{PlaceKind}
use Rattle.nx_ctree.specs.declared.expression.PlaceKind.TheVariants as place
use Rattle.nx_checked.specs.declared.checked.StepValue.TheVariants as value
use Rattle.nx_ctyping.specs.Trees as tree
use Rattle.nx_ctyping.specs.Trees.{expr_of, place_of, args_of, kind_layer, place_layer}

abbrev kind_of : ExprKind → ℕ → tree.Expr
kind_of k = fold-ExprKind (ℕ → tree.Expr) (ℕ → tree.Place) tree.Expr tree.Place kind_layer place_layer (λ x. x.kind x.line) (λ x. x.kind x.line) k

abbrev place_kind_of : PlaceKind → ℕ → tree.Place
place_kind_of k = fold-PlaceKind (ℕ → tree.Expr) (ℕ → tree.Place) tree.Expr tree.Place kind_layer place_layer (λ x. x.kind x.line) (λ x. x.kind x.line) k

on_line : (e : Expr) (k : ExprKind) → e.kind ≡ k → expr_of e ≡ kind_of k e.line
on_line e k h = fold-roll-Expr (ℕ → tree.Expr) (ℕ → tree.Place) tree.Expr tree.Place kind_layer place_layer (λ x. x.kind x.line) (λ x. x.kind x.line) (record { line = e.line; kind = e.kind }) ∙ ap (λ x. kind_of x e.line) h

place_on_line : (p : Place) (k : PlaceKind) → p.kind ≡ k → place_of p ≡ place_kind_of k p.line
place_on_line p k h = fold-roll-Place (ℕ → tree.Expr) (ℕ → tree.Place) tree.Expr tree.Place kind_layer place_layer (λ x. x.kind x.line) (λ x. x.kind x.line) (record { line = p.line; kind = p.kind }) ∙ ap (λ x. place_kind_of x p.line) h

pub at_assign : (e : Expr) (op : AssignOperator) (p : Place) (a : Expr) → e.kind ≡ kind.Assign op p a → expr_of e ≡ tree.Assign e.line op (place_of p) (expr_of a)
at_assign e op p a h = on_line e (kind.Assign op p a) h ∙ ap (λ k. kind_of k e.line) (sym (kind.rolls-Assign op p a))
    ∙ ap (λ f. f e.line) (fold-roll-ExprKind (ℕ → tree.Expr) (ℕ → tree.Place) tree.Expr tree.Place kind_layer place_layer (λ x. x.kind x.line) (λ x. x.kind x.line) (form.Assign op p a))

pub at_conditional : (e : Expr) (c a b : Expr) → e.kind ≡ kind.Conditional c a b → expr_of e ≡ tree.Conditional e.line (expr_of c) (expr_of a) (expr_of b)
at_conditional e c a b h = on_line e (kind.Conditional c a b) h ∙ ap (λ k. kind_of k e.line) (sym (kind.rolls-Conditional c a b))
    ∙ ap (λ f. f e.line) (fold-roll-ExprKind (ℕ → tree.Expr) (ℕ → tree.Place) tree.Expr tree.Place kind_layer place_layer (λ x. x.kind x.line) (λ x. x.kind x.line) (form.Conditional c a b))

pub at_binary : (e : Expr) (op : BinaryOperator) (a b : Expr) → e.kind ≡ kind.Binary op a b → expr_of e ≡ tree.Binary e.line op (expr_of a) (expr_of b)
at_binary e op a b h = on_line e (kind.Binary op a b) h ∙ ap (λ k. kind_of k e.line) (sym (kind.rolls-Binary op a b))
    ∙ ap (λ f. f e.line) (fold-roll-ExprKind (ℕ → tree.Expr) (ℕ → tree.Place) tree.Expr tree.Place kind_layer place_layer (λ x. x.kind x.line) (λ x. x.kind x.line) (form.Binary op a b))

pub at_unary : (e : Expr) (op : UnaryOperator) (a : Expr) → e.kind ≡ kind.Unary op a → expr_of e ≡ tree.Unary e.line op (expr_of a)
at_unary e op a h = on_line e (kind.Unary op a) h ∙ ap (λ k. kind_of k e.line) (sym (kind.rolls-Unary op a))
    ∙ ap (λ f. f e.line) (fold-roll-ExprKind (ℕ → tree.Expr) (ℕ → tree.Place) tree.Expr tree.Place kind_layer place_layer (λ x. x.kind x.line) (λ x. x.kind x.line) (form.Unary op a))

pub at_address : (e : Expr) (a i : Expr) → e.kind ≡ kind.AddressOf a i → expr_of e ≡ tree.AddressOf e.line (expr_of a) (expr_of i)
at_address e a i h = on_line e (kind.AddressOf a i) h ∙ ap (λ k. kind_of k e.line) (sym (kind.rolls-AddressOf a i))
    ∙ ap (λ f. f e.line) (fold-roll-ExprKind (ℕ → tree.Expr) (ℕ → tree.Place) tree.Expr tree.Place kind_layer place_layer (λ x. x.kind x.line) (λ x. x.kind x.line) (form.AddressOf a i))

pub at_before : (e : Expr) (op : StepOperator) (p : Place) → e.kind ≡ kind.Before op p → expr_of e ≡ tree.Step e.line value.New op (place_of p)
at_before e op p h = on_line e (kind.Before op p) h ∙ ap (λ k. kind_of k e.line) (sym (kind.rolls-Before op p))
    ∙ ap (λ f. f e.line) (fold-roll-ExprKind (ℕ → tree.Expr) (ℕ → tree.Place) tree.Expr tree.Place kind_layer place_layer (λ x. x.kind x.line) (λ x. x.kind x.line) (form.Before op p))

pub at_after : (e : Expr) (op : StepOperator) (p : Place) → e.kind ≡ kind.After op p → expr_of e ≡ tree.Step e.line value.Old op (place_of p)
at_after e op p h = on_line e (kind.After op p) h ∙ ap (λ k. kind_of k e.line) (sym (kind.rolls-After op p))
    ∙ ap (λ f. f e.line) (fold-roll-ExprKind (ℕ → tree.Expr) (ℕ → tree.Place) tree.Expr tree.Place kind_layer place_layer (λ x. x.kind x.line) (λ x. x.kind x.line) (form.After op p))

pub at_cast : (e : Expr) (b : Base) (star : Bool) (a : Expr) → e.kind ≡ kind.Cast b star a → expr_of e ≡ tree.Cast e.line b star (expr_of a)
at_cast e b star a h = on_line e (kind.Cast b star a) h ∙ ap (λ k. kind_of k e.line) (sym (kind.rolls-Cast b star a))
    ∙ ap (λ f. f e.line) (fold-roll-ExprKind (ℕ → tree.Expr) (ℕ → tree.Place) tree.Expr tree.Place kind_layer place_layer (λ x. x.kind x.line) (λ x. x.kind x.line) (form.Cast b star a))

pub at_size_of_name : (e : Expr) (name : List ℕ) → e.kind ≡ kind.SizeOfName name → expr_of e ≡ tree.SizeOfName e.line name
at_size_of_name e name h = on_line e (kind.SizeOfName name) h ∙ ap (λ k. kind_of k e.line) (sym (kind.rolls-SizeOfName name))
    ∙ ap (λ f. f e.line) (fold-roll-ExprKind (ℕ → tree.Expr) (ℕ → tree.Place) tree.Expr tree.Place kind_layer place_layer (λ x. x.kind x.line) (λ x. x.kind x.line) (form.SizeOfName name))

pub at_size_of_type : (e : Expr) (b : Base) → e.kind ≡ kind.SizeOfType b → expr_of e ≡ tree.SizeOfType e.line b
at_size_of_type e b h = on_line e (kind.SizeOfType b) h ∙ ap (λ k. kind_of k e.line) (sym (kind.rolls-SizeOfType b))
    ∙ ap (λ f. f e.line) (fold-roll-ExprKind (ℕ → tree.Expr) (ℕ → tree.Place) tree.Expr tree.Place kind_layer place_layer (λ x. x.kind x.line) (λ x. x.kind x.line) (form.SizeOfType b))

pub at_name : (e : Expr) (name : List ℕ) → e.kind ≡ kind.Name name → expr_of e ≡ tree.Name e.line name
at_name e name h = on_line e (kind.Name name) h ∙ ap (λ k. kind_of k e.line) (sym (kind.rolls-Name name))
    ∙ ap (λ f. f e.line) (fold-roll-ExprKind (ℕ → tree.Expr) (ℕ → tree.Place) tree.Expr tree.Place kind_layer place_layer (λ x. x.kind x.line) (λ x. x.kind x.line) (form.ExprKind::Name name))

pub at_number : (e : Expr) (n : ℕ) → e.kind ≡ kind.Number n → expr_of e ≡ tree.Number e.line n
at_number e n h = on_line e (kind.Number n) h ∙ ap (λ k. kind_of k e.line) (sym (kind.rolls-Number n))
    ∙ ap (λ f. f e.line) (fold-roll-ExprKind (ℕ → tree.Expr) (ℕ → tree.Place) tree.Expr tree.Place kind_layer place_layer (λ x. x.kind x.line) (λ x. x.kind x.line) (form.Number n))

pub at_char : (e : Expr) (c : ℕ) → e.kind ≡ kind.Char c → expr_of e ≡ tree.Char e.line c
at_char e c h = on_line e (kind.Char c) h ∙ ap (λ k. kind_of k e.line) (sym (kind.rolls-Char c))
    ∙ ap (λ f. f e.line) (fold-roll-ExprKind (ℕ → tree.Expr) (ℕ → tree.Place) tree.Expr tree.Place kind_layer place_layer (λ x. x.kind x.line) (λ x. x.kind x.line) (form.Char c))

pub at_text : (e : Expr) (text : List ℕ) → e.kind ≡ kind.Text text → expr_of e ≡ tree.Text e.line text
at_text e text h = on_line e (kind.Text text) h ∙ ap (λ k. kind_of k e.line) (sym (kind.rolls-Text text))
    ∙ ap (λ f. f e.line) (fold-roll-ExprKind (ℕ → tree.Expr) (ℕ → tree.Place) tree.Expr tree.Place kind_layer place_layer (λ x. x.kind x.line) (λ x. x.kind x.line) (form.Text text))

pub at_paren : (e : Expr) (a : Expr) → e.kind ≡ kind.Paren a → expr_of e ≡ tree.Paren e.line (expr_of a)
at_paren e a h = on_line e (kind.Paren a) h ∙ ap (λ k. kind_of k e.line) (sym (kind.rolls-Paren a))
    ∙ ap (λ f. f e.line) (fold-roll-ExprKind (ℕ → tree.Expr) (ℕ → tree.Place) tree.Expr tree.Place kind_layer place_layer (λ x. x.kind x.line) (λ x. x.kind x.line) (form.Paren a))

pub at_call : (e : Expr) (name : List ℕ) (xs : List Expr) → e.kind ≡ kind.Call name xs → expr_of e ≡ tree.Call e.line name (args_of xs)
at_call e name xs h = on_line e (kind.Call name xs) h ∙ ap (λ k. kind_of k e.line) (sym (kind.rolls-Call name xs))
    ∙ ap (λ f. f e.line) (fold-roll-ExprKind (ℕ → tree.Expr) (ℕ → tree.Place) tree.Expr tree.Place kind_layer place_layer (λ x. x.kind x.line) (λ x. x.kind x.line) (form.Call name xs))

pub at_index : (e : Expr) (a i : Expr) → e.kind ≡ kind.Index a i → expr_of e ≡ tree.Index e.line (expr_of a) (expr_of i)
at_index e a i h = on_line e (kind.Index a i) h ∙ ap (λ k. kind_of k e.line) (sym (kind.rolls-Index a i))
    ∙ ap (λ f. f e.line) (fold-roll-ExprKind (ℕ → tree.Expr) (ℕ → tree.Place) tree.Expr tree.Place kind_layer place_layer (λ x. x.kind x.line) (λ x. x.kind x.line) (form.ExprKind::Index a i))

pub at_named : (p : Place) (name : List ℕ) → p.kind ≡ place.Name name → place_of p ≡ tree.Named p.line name
at_named p name h = place_on_line p (place.Name name) h ∙ ap (λ k. place_kind_of k p.line) (sym (place.rolls-Name name))
    ∙ ap (λ f. f p.line) (fold-roll-PlaceKind (ℕ → tree.Expr) (ℕ → tree.Place) tree.Expr tree.Place kind_layer place_layer (λ x. x.kind x.line) (λ x. x.kind x.line) (form.PlaceKind::Name name))

pub at_element : (p : Place) (a i : Expr) → p.kind ≡ place.Index a i → place_of p ≡ tree.Element p.line (expr_of a) (expr_of i)
at_element p a i h = place_on_line p (place.Index a i) h ∙ ap (λ k. place_kind_of k p.line) (sym (place.rolls-Index a i))
    ∙ ap (λ f. f p.line) (fold-roll-PlaceKind (ℕ → tree.Expr) (ℕ → tree.Place) tree.Expr tree.Place kind_layer place_layer (λ x. x.kind x.line) (λ x. x.kind x.line) (form.PlaceKind::Index a i))

pub at_pointed : (p : Place) (a : Expr) → p.kind ≡ place.Deref a → place_of p ≡ tree.Pointed p.line (expr_of a)
at_pointed p a h = place_on_line p (place.Deref a) h ∙ ap (λ k. place_kind_of k p.line) (sym (place.rolls-Deref a))
    ∙ ap (λ f. f p.line) (fold-roll-PlaceKind (ℕ → tree.Expr) (ℕ → tree.Place) tree.Expr tree.Place kind_layer place_layer (λ x. x.kind x.line) (λ x. x.kind x.line) (form.Deref a))
