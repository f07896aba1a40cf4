-- What is read of each part that the grammar has.
use Rattle.std.proofs.Common.{◌≡◌, ℕ, zero, suc, ◌<◌, ◌≤◌, true, List, [], ◌∷◌, refl, arith}
use Rattle.std.specs.Prelude.{Ok, Some, max}
use Rattle.nx_ctree.specs.declared.sign.Sign.TheVariants as sign
use Rattle.nx_ctree.specs.declared.sign.Signed.{Signed}
use Rattle.nx_ctree.specs.declared.expression.Expr.{Expr}
use Rattle.nx_ctree.specs.declared.expression.ExprKind.TheVariants as kind
use Rattle.nx_ctree.specs.declared.expression.Place.{Place}
use Rattle.nx_ctree.specs.declared.expression.AssignOperator.{AssignOperator}
use Rattle.nx_ctree.specs.Expressions.{expr, whole, written}
use Rattle.nx_grammar.specs.Reading.{dispatch, bind, loop}
use Rattle.nx_grammar.specs.Lawful.{Heads}
use Rattle.nx_cexpr.specs.declared.operand.Operand.{Operand}
use Rattle.nx_cexpr.specs.declared.operand.Lvalue.{Lvalue}
use Rattle.nx_cexpr.specs.declared.operand.Element.{Element}
use Rattle.nx_cexpr.specs.declared.operand.Arguments.{Arguments}
use Rattle.nx_cexpr.specs.Signs.{Stops}
use Rattle.nx_cexpr.specs.Operands
use Rattle.nx_cexpr.specs.Operands.{expr_of, place_of}
use Rattle.nx_cexpr.specs.Reading.{comma_pick, element_rest, elements, step_pick, post, place_rest, place_pick, operator_pick, level_pick, has_node, within}
use Rattle.nx_cexpr.proofs.SignLaws.{Is}
use Rattle.nx_cexpr.proofs.CompleteStarts.{Starts}
use Rattle.nx_cexpr.proofs.CompletePicks.{Closed}

-- At every limit from a number of nodes on.
pub from_node : (P : ℕ → Type 0) (h : ℕ) → 1 ≤ h → ((e : ℕ) → h ≤ suc e → P (suc e)) → (d : ℕ) → h ≤ d → P d
from_node P h one step zero l = absurd (omega arith)
from_node P h one step (suc e) l = step e l

pub node_fits : (d : ℕ) → 1 ≤ d → has_node d ≡ true
node_fits zero l = absurd (omega arith)
node_fits (suc d) l = refl

-- What stops a level stops those below it.
pub stops_less : (m n : ℕ) → m ≤ n → (r : List Signed) → Heads (Stops n) r → Heads (Stops m) r
stops_less m n l [] h = h
stops_less m n l (t ∷ ts) h = omega (arith, l, h)

-- A primary expression without an index: as one, before more of a unary one, and with indexes as what is written to.
pub record Primary (ts : List Signed) (x : Operand) (rest : List Signed) : Type 0 where
  pub some : 1 ≤ x.height
  pub level : (d : ℕ) → x.height ≤ d → Heads (Stops 0) rest → dispatch ((within d).level 0) ts ≡ Ok (x, rest)
  pub unary : (e : ℕ) → x.height ≤ suc e → Heads (Stops 0) rest → dispatch (level_pick (within e) (has_node e) (suc e) 1) ts ≡ post (within e) (has_node e) (suc e) x rest
  pub place : (e : ℕ) → x.height ≤ e → Heads (Is sign.OpenBracket) rest → dispatch (place_pick (within e) (has_node e) (suc e)) ts ≡ place_rest (within e) (has_node e) (suc e) x rest

-- A primary expression with an index at its end: what the first index stands after, and what all of them make.
pub record Indexed (ts : List Signed) (a i : Expr) (h : ℕ) (rest : List Signed) : Type 0 where
  pub first : Operand
  pub bracket : Signed
  pub mid : List Signed
  pub element : Element
  pub line : element.line ≡ a.line
  pub base : element.base ≡ a
  pub index : element.index ≡ i
  pub tall : element.height ≡ h
  pub lower : first.height < h
  pub opens : bracket.sign ≡ sign.OpenBracket
  pub primary : Primary ts first (bracket ∷ mid)
  pub goes : (e : ℕ) → h ≤ suc e → bind (element_rest (within e) first mid) (elements (within e) (has_node e) (suc e)) ≡ elements (within e) (has_node e) (suc e) element rest

pub record Alone (ts : List Signed) (a : Expr) (h : ℕ) (rest : List Signed) : Type 0 where
  pub operand : Operand
  pub shows : expr_of operand ≡ a
  pub tall : operand.height ≡ h
  pub primary : Primary ts operand rest

-- A primary expression.
pub data Chain : List Signed → Expr → ℕ → List Signed → Type 0 where
  One : (ts : List Signed) (a : Expr) (h : ℕ) (rest : List Signed) → Alone ts a h rest → Chain ts a h rest
  Many : (ts : List Signed) (a i : Expr) (h : ℕ) (rest : List Signed) → Indexed ts a i h rest → Chain ts (expr a.line (kind.Index a i)) h rest

-- An expression of level n + 1: before what stops its level, and as what the operators of its level go on from.
pub record Reads (n : ℕ) (ts : List Signed) (a : Expr) (h : ℕ) (rest : List Signed) : Type 0 where
  pub operand : Operand
  pub shows : expr_of operand ≡ a
  pub tall : operand.height ≡ h
  pub reads : (d : ℕ) → h ≤ d → Heads (Stops (suc n)) rest → dispatch ((within d).level (suc n)) ts ≡ Ok (operand, rest)
  pub loops : (e : ℕ) → h ≤ suc e → 1 ≤ n → n < 11 → Heads (Stops n) rest → dispatch (level_pick (within e) (has_node e) (suc e) (suc n)) ts ≡ loop (operator_pick (within e) (has_node e) (suc e) n) operand rest

-- An expression of each level.
abbrev pub Claim : ℕ → List Signed → Expr → ℕ → List Signed → Type 0
Claim zero ts a h rest = Chain ts a h rest
Claim (suc n) ts a h rest = Reads n ts a h rest

-- Arguments: the first, and what the commas after it go on from.
pub record Listed (ts : List Signed) (xs : List Expr) (h : ℕ) (rest : List Signed) : Type 0 where
  pub first : Operand
  pub mid : List Signed
  pub last : Arguments
  pub list : last.list ≡ xs
  pub tall : last.height ≡ h
  pub some : 1 ≤ h
  pub start : Starts ts
  pub begins : (e : ℕ) → h ≤ e → Heads (Stops 13) rest → dispatch ((within e).level whole) ts ≡ Ok (first, mid)
  pub goes : (e : ℕ) → h ≤ e → Heads (Stops 13) rest → loop (comma_pick (within e)) (Operands.first_argument first) mid ≡ loop (comma_pick (within e)) last rest

abbrev pub Given : List Signed → List Expr → ℕ → List Signed → Type 0
Given ts [] h rest = (ts ≡ rest) × (h ≡ 0)
Given ts (x ∷ xs) h rest = Listed ts (x ∷ xs) h rest

-- What can be written to: as the operand it is, and as a place.
pub record Placed (ts : List Signed) (p : Place) (h : ℕ) (rest : List Signed) : Type 0 where
  pub operand : Operand
  pub lvalue : Lvalue
  pub is : Operands.lvalue_of operand ≡ Some lvalue
  pub shows : place_of lvalue ≡ p
  pub tall : lvalue.height ≡ h
  pub some : 1 ≤ h
  pub low : (op : AssignOperator) → h ≤ max 1 (written op p.kind h)
  pub reads : (e : ℕ) → h ≤ suc e → Heads (Stops 1) rest → dispatch (level_pick (within e) (has_node e) (suc e) 1) ts ≡ Ok (operand, rest)
  pub places : (e : ℕ) → h ≤ suc e → Heads (Stops 1) rest → dispatch (place_pick (within e) (has_node e) (suc e)) ts ≡ Ok (lvalue, rest)

-- What a "++" or "--" may stand after.
pub record Posted (ts : List Signed) (p : Place) (h : ℕ) (rest : List Signed) : Type 0 where
  pub operand : Operand
  pub lvalue : Lvalue
  pub is : Operands.lvalue_of operand ≡ Some lvalue
  pub post_is : Operands.post_lvalue operand ≡ Some lvalue
  pub shows : place_of lvalue ≡ p
  pub tall : lvalue.height ≡ h
  pub some : 1 ≤ h
  pub low : (op : AssignOperator) → h ≤ max 1 (written op p.kind h)
  pub steps : (e : ℕ) → h ≤ suc e → Heads Closed rest → dispatch (level_pick (within e) (has_node e) (suc e) 1) ts ≡ dispatch (step_pick (suc e) operand) rest
  pub places : (e : ℕ) → h ≤ suc e → Heads Closed rest → dispatch (place_pick (within e) (has_node e) (suc e)) ts ≡ Ok (lvalue, rest)
