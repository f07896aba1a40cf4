-- What the declarations at a function's head give, or their first fault (C11 6.7).
use Rattle.std.specs.Prelude.{ℕ, ◌+◌, ◌-◌, ◌%◌, ◌^◌, Bool, true, false, ◌&&◌, ◌||◌, not, nat_lt, List, [], ◌∷◌, ◌++◌, length, Option, None, Some, Result, Ok, Err, is_some}
use Rattle.std.specs.Map.{lookup}
use Rattle.std.specs.Str.{bytes_eq}
use Rattle.indexmap.specs.IndexMap.{insert_entry}
use Rattle.nx_calls.specs.declared.row.CallRow.{CallRow}
use Rattle.nx_ctok.specs.declared.fault.CKind.{CKind}
use Rattle.nx_ctok.specs.declared.fault.CKind.TheVariants as kind
use Rattle.nx_ctok.specs.declared.fault.CFault.{CFault}
use Rattle.nx_ctok.specs.declared.fault.CFault.TheVariants as fault
use Rattle.nx_ctree.specs.declared.expression.AssignOperator.TheVariants as assign
use Rattle.nx_ctree.specs.declared.program.Base.{Base}
use Rattle.nx_ctree.specs.declared.program.Base.TheVariants as base
use Rattle.nx_ctree.specs.declared.program.ConstantKind.{ConstantKind}
use Rattle.nx_ctree.specs.declared.program.ConstantKind.TheVariants as constant
use Rattle.nx_ctree.specs.declared.program.Param.{Param}
use Rattle.nx_ctree.specs.declared.statement.Decl.{Decl}
use Rattle.nx_ctree.specs.declared.statement.Item.{Item}
use Rattle.nx_ctree.specs.declared.statement.ItemKind.{ItemKind}
use Rattle.nx_ctree.specs.declared.statement.ItemKind.TheVariants as item
use Rattle.nx_ctree.specs.declared.expression.Expr.{Expr}
use Rattle.nx_checked.specs.declared.checked.Element.{Element}
use Rattle.nx_checked.specs.declared.checked.Element.TheVariants as element
use Rattle.nx_checked.specs.declared.checked.Scalar.TheVariants as scalar
use Rattle.nx_checked.specs.declared.checked.Shape.{Shape}
use Rattle.nx_checked.specs.declared.checked.Cell.{Cell}
use Rattle.nx_checked.specs.declared.checked.Cell.TheVariants as cell
use Rattle.nx_checked.specs.declared.checked.ArrayName.TheVariants as array
use Rattle.nx_checked.specs.declared.checked.CheckedExpr.{CheckedExpr}
use Rattle.nx_crules.specs.declared.types.Held.{Held}
use Rattle.nx_crules.specs.declared.types.Target.TheVariants as target
use Rattle.nx_crules.specs.Rules.{assign_rule}
use Rattle.nx_ctype.specs.declared.names.Names.{Names}
use Rattle.nx_ctype.specs.declared.names.Variable.{Variable}
use Rattle.nx_ctype.specs.declared.names.Variable.TheVariants as variable
use Rattle.nx_ctyping.specs.Checks.{◌>>=◌, Check, leaf, one}
use Rattle.nx_ctyping.specs.Trees.{expr_of}
use Rattle.nx_ctyping.specs.Verdicts.{verdict}
use Rattle.nx_cbody.specs.declared.locals.Locals.{Locals}

-- What a scalar of a base type holds, with a "*" or not: there is no const scalar.
abbrev pub held_of : Base → Bool → Option Held
held_of base.Int false = Some (record { scalar = scalar.Int; constant = false })
held_of base.Int true = Some (record { scalar = scalar.Pointer element.Int; constant = false })
held_of base.Char false = Some (record { scalar = scalar.Char; constant = false })
held_of base.Char true = Some (record { scalar = scalar.Pointer element.Char; constant = false })
held_of base.ConstChar false = None
held_of base.ConstChar true = Some (record { scalar = scalar.Pointer element.Char; constant = true })

-- What an array's elements are: no pointers, and none that is const.
abbrev pub element_of : Base → Bool → Option Element
element_of base.Int false = Some element.Int
element_of base.Char false = Some element.Char
element_of _ _ = None

-- A constant as a number of 32 bits.
abbrev pub constant_of : ConstantKind → ℕ
constant_of (constant.Number n) = n
constant_of (constant.Minus n) = (2 ^ 32 - n) % 2 ^ 32
constant_of (constant.Char c) = c

-- An array's length is 1 or more, as an int.
abbrev pub is_length : ℕ → Bool
is_length n = nat_lt 0 n && nat_lt n (2 ^ 31)

-- Of several faults of one declaration: a name twice, then a type, then a limit.
abbrev pub first_of : Bool → Bool → Bool → Option CKind
first_of true mismatch beyond = Some kind.NameTwice
first_of false true beyond = Some kind.TypeMismatch
first_of false false true = Some kind.Limit
first_of false false false = None

abbrev pub unless : {A : Type 0} → Option CKind → ℕ → Result A CFault → Result A CFault
unless None line r = r
unless (Some k) line r = Err (fault.Text line k)

-- A name has at most 64 bytes.
abbrev pub is_long : List ℕ → Bool
is_long name = nat_lt 64 (length name)

-- What is known of a function after some of its declarations.
pub record Declared : Type 0 where
  pub names : Names
  pub locals : Locals

abbrev pub is_taken : Declared → List ℕ → Bool
is_taken f name = is_some (lookup (bytes_eq name) f.names.locals)

abbrev pub with_local : Names → List ℕ → Variable → Names
with_local names name v = record names { locals = insert_entry bytes_eq names.locals name v }

-- Before its parameters a function has no locals.
abbrev pub opening : Names → Declared
opening names = record { names = record names { locals = [] }; locals = record { params = []; scalars = []; arrays = []; initials = [] } }

-- A function has at most 6 parameters.
abbrev pub has_six : Declared → Bool
has_six f = nat_lt 5 (length f.locals.params)

-- A parameter.
abbrev pub with_param : Declared → List ℕ → Held → Declared
with_param f name h = record {
  names = with_local f.names name (variable.Scalar (cell.Local (length f.locals.params)) h);
  locals = record f.locals { params = f.locals.params ++ h.scalar ∷ [] };
}

abbrev pub param_given : Declared → Param → Option Held → Result Declared CFault
param_given f p None = unless (first_of (is_taken f p.name) true false) p.line (Ok f)
param_given f p (Some h) = unless (first_of (is_taken f p.name) false (is_long p.name || has_six f)) p.line (Ok (with_param f p.name h))

abbrev pub param_verdict : Declared → Param → Result Declared CFault
param_verdict f p = param_given f p (held_of p.base p.pointer)

abbrev pub params_verdict : Declared → List Param → Result Declared CFault
params_verdict f [] = Ok f
params_verdict f (p ∷ ps) = param_verdict f p >>= (λ g. params_verdict g ps)

-- The cell of the next local that is no array: locals stand behind the parameters.
abbrev pub next_cell : Declared → Cell
next_cell f = cell.Local (length f.locals.params + length f.locals.scalars)

-- A local that is no array, known from its name on.
abbrev pub with_scalar : Declared → List ℕ → Held → Declared
with_scalar f name h = record {
  names = with_local f.names name (variable.Scalar (next_cell f) h);
  locals = record f.locals { scalars = f.locals.scalars ++ h.scalar ∷ [] };
}

-- An array, of a length.
abbrev pub with_array : Declared → List ℕ → Shape → Declared
with_array f name z = record {
  names = with_local f.names name (variable.Array (array.Local (length f.locals.arrays)) z);
  locals = record f.locals { arrays = f.locals.arrays ++ z ∷ [] };
}

-- A local's value is assigned to its cell.
abbrev pub with_initial : Declared → CheckedExpr → Declared
with_initial f t = record f { locals = record f.locals { initials = f.locals.initials ++ t ∷ [] } }

abbrev pub valued : List CallRow → ℕ → Cell → Held → Expr → Declared → Check Declared
valued rows line x h e f = one (λ y. Ok (with_initial f y.tree)) line (one (assign_rule assign.Set (target.Cell x h)) line (verdict f.names rows (expr_of e)))

-- What stands after a local's name.
abbrev pub scalar_given : Declared → Item → Option Held → Result Declared CFault
scalar_given f i None = unless (first_of (is_taken f i.name) true false) i.line (Ok f)
scalar_given f i (Some h) = unless (first_of (is_taken f i.name) false (is_long i.name)) i.line (Ok (with_scalar f i.name h))

abbrev pub array_given : Declared → Item → Option Element → ℕ → Result Declared CFault
array_given f i None n = unless (first_of (is_taken f i.name) true false) i.line (Ok f)
array_given f i (Some w) n =
    unless (first_of (is_taken f i.name) (not (is_length n)) (is_long i.name)) i.line (Ok (with_array f i.name (record { element = w; count = n })))

abbrev pub value_given : List CallRow → ℕ → Cell → Option Held → Expr → Declared → Check Declared
value_given rows line x None e f = leaf (Ok f)
value_given rows line x (Some h) e f = valued rows line x h e f

abbrev pub item_kind : List CallRow → Base → Declared → Item → ItemKind → Check Declared
item_kind rows b f i item.Plain s = leaf (scalar_given f i (held_of b i.pointer)) s
item_kind rows b f i (item.Array c) s = leaf (array_given f i (element_of b i.pointer) (constant_of c.kind)) s
item_kind rows b f i (item.Valued e) s = scalar_given f i (held_of b i.pointer) >>= (λ g. value_given rows i.line (next_cell f) (held_of b i.pointer) e g s)

abbrev pub item_verdict : List CallRow → Base → Declared → Item → Check Declared
item_verdict rows b f i = item_kind rows b f i i.kind

abbrev pub items_verdict : List CallRow → Base → Declared → List Item → Check Declared
items_verdict rows b f [] s = Ok (f, s)
items_verdict rows b f (i ∷ is) s = item_verdict rows b f i s >>= (λ r. items_verdict rows b r.0 is r.1)

abbrev pub decls_verdict : List CallRow → Declared → List Decl → Check Declared
decls_verdict rows f [] s = Ok (f, s)
decls_verdict rows f (d ∷ ds) s = items_verdict rows d.base f d.items s >>= (λ r. decls_verdict rows r.0 ds r.1)
