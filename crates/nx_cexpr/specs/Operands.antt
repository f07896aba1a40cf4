-- The trees of operands.
use Rattle.std.specs.Prelude.{ℕ, suc, max, ◌%◌, ◌^◌, Bool, [], ◌∷◌, ◌++◌, Option, None, Some}
use Rattle.nx_ctok.specs.Values.{number_of, character_of, text_of}
use Rattle.nx_ctree.specs.declared.sign.Signed.{Signed}
use Rattle.nx_ctree.specs.declared.program.Base.{Base}
use Rattle.nx_ctree.specs.declared.expression.UnaryOperator.{UnaryOperator}
use Rattle.nx_ctree.specs.declared.expression.UnaryOperator.TheVariants as unary
use Rattle.nx_ctree.specs.declared.expression.StepOperator.{StepOperator}
use Rattle.nx_ctree.specs.declared.expression.BinaryOperator.{BinaryOperator}
use Rattle.nx_ctree.specs.declared.expression.AssignOperator.{AssignOperator}
use Rattle.nx_ctree.specs.declared.expression.Expr.{Expr}
use Rattle.nx_ctree.specs.declared.expression.ExprKind.{ExprKind}
use Rattle.nx_ctree.specs.declared.expression.ExprKind.TheVariants as kind
use Rattle.nx_ctree.specs.declared.expression.Place.{Place}
use Rattle.nx_ctree.specs.declared.expression.PlaceKind.{PlaceKind}
use Rattle.nx_ctree.specs.declared.expression.PlaceKind.TheVariants as place
use Rattle.nx_ctree.specs.Expressions.{expr, at, written}
use Rattle.nx_cexpr.specs.declared.operand.Tall.{Tall}
use Rattle.nx_cexpr.specs.declared.operand.Target.{Target}
use Rattle.nx_cexpr.specs.declared.operand.Target.TheVariants as target
use Rattle.nx_cexpr.specs.declared.operand.Form.{Form}
use Rattle.nx_cexpr.specs.declared.operand.Form.TheVariants as form
use Rattle.nx_cexpr.specs.declared.operand.Operand.{Operand}
use Rattle.nx_cexpr.specs.declared.operand.Lvalue.{Lvalue}
use Rattle.nx_cexpr.specs.declared.operand.Element.{Element}
use Rattle.nx_cexpr.specs.declared.operand.Arguments.{Arguments}

-- What can be written to, as an expression.
abbrev pub target_kind : Target → ExprKind
target_kind (target.Name name) = kind.Name name
target_kind (target.Index a i) = kind.Index a i
target_kind (target.Deref a) = kind.Unary unary.Deref a

abbrev pub form_kind : Form → ExprKind
form_kind (form.Target t) = target_kind t
form_kind (form.Value k) = k

-- An operand's tree.
abbrev pub expr_of : Operand → Expr
expr_of x = expr x.line (form_kind x.form)

abbrev pub tall : Operand → Tall
tall x = record { expr = expr_of x; height = x.height }

-- What can be written to, as a place.
abbrev pub place_kind : Target → PlaceKind
place_kind (target.Name name) = place.Name name
place_kind (target.Index a i) = place.Index a i
place_kind (target.Deref a) = place.Deref a

abbrev pub place_of : Lvalue → Place
place_of p = at p.line (place_kind p.target)

-- An operand that can be written to.
abbrev pub lvalue_by : ℕ → Form → ℕ → Option Lvalue
lvalue_by line (form.Target t) height = Some (record { line = line; target = t; height = height })
lvalue_by line (form.Value k) height = None

abbrev pub lvalue_of : Operand → Option Lvalue
lvalue_of x = lvalue_by x.line x.form x.height

-- One that "++" or "--" may stand after.
abbrev pub post_lvalue_by : ℕ → Form → ℕ → Option Lvalue
post_lvalue_by line (form.Target (target.Name name)) height = Some (record { line = line; target = target.Name name; height = height })
post_lvalue_by line (form.Target (target.Index a i)) height = Some (record { line = line; target = target.Index a i; height = height })
post_lvalue_by line (form.Target (target.Deref a)) height = None
post_lvalue_by line (form.Value k) height = None

abbrev pub post_lvalue : Operand → Option Lvalue
post_lvalue x = post_lvalue_by x.line x.form x.height

-- A value.
abbrev pub value : ℕ → ExprKind → ℕ → Operand
value line k height = record { line = line; form = form.Value k; height = height }

abbrev pub number : Signed → Operand
number t = value t.line (kind.Number (number_of t.text % 2 ^ 32)) 1

abbrev pub character : Signed → Operand
character t = value t.line (kind.Char (character_of t.text)) 1

abbrev pub text : Signed → Operand
text t = value t.line (kind.Text (text_of t.text)) 1

-- A name, as an operand and as something to write to.
abbrev pub name : Signed → Operand
name t = record { line = t.line; form = form.Target (target.Name t.text); height = 1 }

abbrev pub name_lvalue : Signed → Lvalue
name_lvalue t = record { line = t.line; target = target.Name t.text; height = 1 }

abbrev pub paren : Signed → Operand → Operand
paren t a = value t.line (kind.Paren (expr_of a)) (suc a.height)

-- Arguments.
abbrev pub no_arguments : Arguments
no_arguments = record { list = []; height = 0 }

abbrev pub first_argument : Operand → Arguments
first_argument a = record { list = expr_of a ∷ []; height = a.height }

abbrev pub next_argument : Arguments → Operand → Arguments
next_argument xs a = record { list = xs.list ++ expr_of a ∷ []; height = max xs.height a.height }

abbrev pub call : Signed → Arguments → Operand
call t xs = value t.line (kind.Call t.text xs.list) (suc xs.height)

-- An index.
abbrev pub element : Operand → Operand → Element
element a i = record { line = a.line; base = expr_of a; index = expr_of i; height = suc (max a.height i.height) }

abbrev pub element_operand : Element → Operand
element_operand e = record { line = e.line; form = form.Target (target.Index e.base e.index); height = e.height }

abbrev pub element_lvalue : Element → Lvalue
element_lvalue e = record { line = e.line; target = target.Index e.base e.index; height = e.height }

-- Expressions with an operator before them. What a minus sign or the like stands before is a value, what a "*" does can be written to.
abbrev pub unary_form : UnaryOperator → Expr → Form
unary_form unary.Deref a = form.Target (target.Deref a)
unary_form op a = form.Value (kind.Unary op a)

abbrev pub unary_operand : Signed → UnaryOperator → Operand → Operand
unary_operand t op a = record { line = t.line; form = unary_form op (expr_of a); height = suc a.height }

abbrev pub deref_lvalue : Signed → Operand → Lvalue
deref_lvalue t a = record { line = t.line; target = target.Deref (expr_of a); height = suc a.height }

abbrev pub address : Signed → Element → Operand
address t e = value t.line (kind.AddressOf e.base e.index) e.height

abbrev pub before : Signed → StepOperator → Lvalue → Operand
before t op p = value t.line (kind.Before op (place_of p)) (suc p.height)

abbrev pub after : StepOperator → Lvalue → Operand
after op p = value p.line (kind.After op (place_of p)) (suc p.height)

abbrev pub cast : Signed → Base → Bool → Operand → Operand
cast t b star a = value t.line (kind.Cast b star (expr_of a)) (suc a.height)

abbrev pub size_of_name : Signed → Signed → Operand
size_of_name t n = value t.line (kind.SizeOfName n.text) 1

abbrev pub size_of_type : Signed → Base → Operand
size_of_type t b = value t.line (kind.SizeOfType b) 1

-- Expressions with an operator between their parts.
abbrev pub binary : BinaryOperator → Operand → Operand → Operand
binary op a b = value a.line (kind.Binary op (expr_of a) (expr_of b)) (suc (max a.height b.height))

abbrev pub conditional : Operand → Operand → Operand → Operand
conditional a b e = value a.line (kind.Conditional (expr_of a) (expr_of b) (expr_of e)) (suc (max a.height (max b.height e.height)))

abbrev pub assign : AssignOperator → Lvalue → Operand → Operand
assign op p e = value p.line (kind.Assign op (place_of p) (expr_of e)) (suc (max (written op (place_kind p.target) p.height) e.height))
