-- The values that code keeps are as many by the code's trees as by those without pointers.
use Rattle.std.proofs.Common.{◌≡◌, ℕ, max, List, [], ◌∷◌, map, Option, None, Some, refl, sym, ap, ◌∙◌, subst, arith}
use Rattle.std.specs.Prelude.{option_map}
use Rattle.nx_checked.specs.declared.checked.CheckedExpr.{CheckedExpr, map-CheckedExpr}
use Rattle.nx_checked.specs.declared.checked.CheckedPlace.{CheckedPlace, fold-CheckedPlace, map-CheckedPlace}
use Rattle.nx_checked.specs.declared.checked.CheckedExpr.TheOpen as form
use Rattle.nx_checked.specs.declared.checked.CheckedExpr.TheFolds.{fold-roll-CheckedExpr, fold-roll-CheckedPlace, ind-CheckedExpr}
use Rattle.nx_checked.specs.declared.checked.CheckedStmt.{CheckedStmt, map-CheckedStmt}
use Rattle.nx_checked.specs.declared.checked.CheckedStmt.TheOpen as stmt_form
use Rattle.nx_checked.specs.declared.checked.CheckedStmt.TheFolds.{fold-roll-CheckedStmt, ind-CheckedStmt}
use Rattle.nx_checked.specs.Frames.{arguments, greatest, expr_values, place_values, values_of, option_values, stmt_values, values_in, all_initials, all_values}
use Rattle.nx_checked.specs.Trees.{Expr, Place, Stmt, args, stmts, expr_of, place_of, expr_layer, place_layer, stmt_of, stmt_layer, stmts_of}
use Rattle.nx_lower.specs.Bodies.{temps_of, place_temps, args_temps, option_temps, all_temps, stmt_temps, stmts_temps}

abbrev IsSame : CheckedExpr → Type 0
IsSame e = values_of e ≡ temps_of (expr_of e)

abbrev values_at : CheckedPlace → ℕ
values_at p = fold-CheckedPlace ℕ ℕ expr_values place_values p

abbrev IsSamePlace : CheckedPlace → Type 0
IsSamePlace p = values_at p ≡ place_temps (place_of p)

abbrev E : Type 0
E = (e : CheckedExpr) × IsSame e

abbrev Q : Type 0
Q = (p : CheckedPlace) × IsSamePlace p

args_same : (xs : List E) → arguments (map values_of (map (λ e. e.0) xs)) ≡ args_temps (args (map expr_of (map (λ e. e.0) xs)))
args_same [] = refl
args_same (x ∷ xs) = omega (arith, x.1, args_same xs)

abbrev bare : form.CheckedExpr-F E Q → form.CheckedExpr-F CheckedExpr CheckedPlace
bare y = map-CheckedExpr E Q CheckedExpr CheckedPlace (λ e. e.0) (λ e. e.0) y

abbrev IsSameLayer : form.CheckedExpr-F CheckedExpr CheckedPlace → Type 0
IsSameLayer x = expr_values (map-CheckedExpr CheckedExpr CheckedPlace ℕ ℕ values_of values_at x) ≡ temps_of (expr_layer (map-CheckedExpr CheckedExpr CheckedPlace Expr Place expr_of place_of x))

layer_same : (y : form.CheckedExpr-F E Q) → IsSameLayer (bare y)
layer_same (form.Constant n) = refl
layer_same (form.Literal n) = refl
layer_same (form.Function f) = refl
layer_same (form.Read x) = refl
layer_same (form.Array a) = refl
layer_same (form.Load w p) = p.1
layer_same (form.AddressOf w a i) = omega (arith, a.1, i.1)
layer_same (form.Unary o a) = a.1
layer_same (form.Binary o a b) = omega (arith, a.1, b.1)
layer_same (form.And a b) = omega (arith, a.1, b.1)
layer_same (form.Or a b) = omega (arith, a.1, b.1)
layer_same (form.Conditional c a b) = omega (arith, c.1, a.1, b.1)
layer_same (form.Convert to a) = a.1
layer_same (form.Advance w a i) = omega (arith, a.1, i.1)
layer_same (form.AdvanceBy w i a) = omega (arith, a.1, i.1)
layer_same (form.Retreat w a i) = omega (arith, a.1, i.1)
layer_same (form.Assign t x a) = a.1
layer_same (form.AssignElement w p a) = omega (arith, p.1, a.1)
layer_same (form.Compound o t x a) = omega (arith, a.1)
layer_same (form.CompoundElement o w p a) = omega (arith, p.1, a.1)
layer_same (form.Step v up t x) = refl
layer_same (form.StepElement v up w p) = omega (arith, p.1)
layer_same (form.Kernel n xs) = ap (λ (n : ℕ). max 1 n) (args_same xs)
layer_same (form.Call f xs) = ap (λ (n : ℕ). max 1 n) (args_same xs)

abbrev bare_place : form.CheckedPlace-F E Q → form.CheckedPlace-F CheckedExpr CheckedPlace
bare_place y = map-CheckedPlace E Q CheckedExpr CheckedPlace (λ e. e.0) (λ e. e.0) y

abbrev IsSamePart : form.CheckedPlace-F CheckedExpr CheckedPlace → Type 0
IsSamePart x = place_values (map-CheckedPlace CheckedExpr CheckedPlace ℕ ℕ values_of values_at x) ≡ place_temps (place_layer (map-CheckedPlace CheckedExpr CheckedPlace Expr Place expr_of place_of x))

part_same : (y : form.CheckedPlace-F E Q) → IsSamePart (bare_place y)
part_same (form.Index a i) = omega (arith, a.1, i.1)
part_same (form.Deref a) = a.1

pub values_same : (e : CheckedExpr) → values_of e ≡ temps_of (expr_of e)
values_same = ind-CheckedExpr IsSame IsSamePlace
    (λ x y is. fold-roll-CheckedExpr ℕ ℕ expr_values place_values x ∙ subst (λ x. IsSameLayer x) is (layer_same y) ∙ sym (ap (λ e. temps_of e) (fold-roll-CheckedExpr Expr Place expr_layer place_layer x)))
    (λ x y is. fold-roll-CheckedPlace ℕ ℕ expr_values place_values x ∙ subst (λ x. IsSamePart x) is (part_same y) ∙ sym (ap (λ p. place_temps p) (fold-roll-CheckedPlace Expr Place expr_layer place_layer x)))

option_same : (e : Option CheckedExpr) → option_values e ≡ option_temps (option_map expr_of e)
option_same None = refl
option_same (Some e) = values_same e

pub initials_same : (es : List CheckedExpr) → all_initials es ≡ all_temps (map expr_of es)
initials_same [] = refl
initials_same (e ∷ es) = omega (arith, values_same e, initials_same es)

-- Statements.
abbrev IsSameStmt : CheckedStmt → Type 0
IsSameStmt a = values_in a ≡ stmt_temps (stmt_of a)

abbrev A : Type 0
A = (a : CheckedStmt) × IsSameStmt a

block_same : (xs : List A) → greatest (map values_in (map (λ e. e.0) xs)) ≡ stmts_temps (stmts (map stmt_of (map (λ e. e.0) xs)))
block_same [] = refl
block_same (x ∷ xs) = omega (arith, x.1, block_same xs)

abbrev IsSameForm : stmt_form.CheckedStmt-F CheckedStmt → Type 0
IsSameForm x = stmt_values (map-CheckedStmt CheckedStmt ℕ values_in x) ≡ stmt_temps (stmt_layer (map-CheckedStmt CheckedStmt Stmt stmt_of x))

form_same : (y : stmt_form.CheckedStmt-F A) → IsSameForm (map-CheckedStmt A CheckedStmt (λ e. e.0) y)
form_same stmt_form.Empty = refl
form_same (stmt_form.Expr e) = values_same e
form_same (stmt_form.Block xs) = block_same xs
form_same (stmt_form.If c a) = omega (arith, values_same c, a.1)
form_same (stmt_form.IfElse c a b) = omega (arith, values_same c, a.1, b.1)
form_same (stmt_form.While c a) = omega (arith, values_same c, a.1)
form_same (stmt_form.Do a c) = omega (arith, values_same c, a.1)
form_same (stmt_form.For a b c x) = omega (arith, option_same a, option_same b, option_same c, x.1)
form_same stmt_form.Break = refl
form_same stmt_form.Continue = refl
form_same (stmt_form.Return e) = option_same e

stmt_same : (a : CheckedStmt) → values_in a ≡ stmt_temps (stmt_of a)
stmt_same = ind-CheckedStmt IsSameStmt
    (λ x y is. fold-roll-CheckedStmt ℕ stmt_values x ∙ subst (λ x. IsSameForm x) is (form_same y) ∙ sym (ap (λ a. stmt_temps a) (fold-roll-CheckedStmt Stmt stmt_layer x)))

pub body_same : (ss : List CheckedStmt) → all_values ss ≡ stmts_temps (stmts_of ss)
body_same [] = refl
body_same (a ∷ ss) = omega (arith, stmt_same a, body_same ss)
