-- When declarations and a function are well typed, and what they do (C11 6.7, 6.9.1). A declaration is over the context before it and the one behind it.
use Rattle.std.specs.Prelude.{◌≡◌, Bool, true, false, List, [], ◌∷◌, ◌++◌, length, drop, Some}
use Rattle.nx_calls.specs.declared.row.CallRow.{CallRow}
use Rattle.nx_ctree.specs.declared.expression.Expr.{Expr}
use Rattle.nx_ctree.specs.declared.program.Base.{Base}
use Rattle.nx_ctree.specs.declared.program.Constant.{Constant}
use Rattle.nx_ctree.specs.declared.program.Param.{Param}
use Rattle.nx_ctree.specs.declared.program.Function.{Function}
use Rattle.nx_ctree.specs.declared.statement.Decl.{Decl}
use Rattle.nx_ctree.specs.declared.statement.Item.{Item}
use Rattle.nx_ctree.specs.declared.statement.ItemKind.TheVariants as item
use Rattle.nx_checked.specs.declared.checked.Element.{Element}
use Rattle.nx_checked.specs.declared.checked.CheckedExpr.{CheckedExpr}
use Rattle.nx_checked.specs.declared.checked.CheckedExpr.TheVariants as expr
use Rattle.nx_checked.specs.declared.checked.CheckedStmt.{CheckedStmt}
use Rattle.nx_checked.specs.declared.checked.CheckedFunction.{CheckedFunction}
use Rattle.nx_crules.specs.declared.types.Held.{Held}
use Rattle.nx_crules.specs.declared.types.Typed.{Typed}
use Rattle.nx_crules.specs.Types.{type_of, takes}
use Rattle.nx_ctype.specs.declared.names.Names.{Names}
use Rattle.nx_ctype.specs.declared.used.Used.{Used}
use Rattle.nx_ctyping.specs.Trees.{expr_of}
use Rattle.nx_ctyping.specs.HasTypes.{HasType}
use Rattle.nx_cbody.specs.Trees.{stmts_of}
use Rattle.nx_cbody.specs.TypedStatements.{AreTyped}
use Rattle.nx_cbody.specs.Contexts.{scalars_in, shapes_in, is_local, has_six_scalars, free_cell, behind_scalar, behind_array}
use Rattle.nx_cbody.specs.Declarations.{held_of, element_of, constant_of, is_length, is_long}
use Rattle.nx_cbody.specs.Functions.{function_of, is_large}

-- A parameter is no const scalar, has a name that no other has, and is the sixth at most.
pub data IsParam : Names → Param → Names → Type 0 where
  Parameter : (names : Names) (p : Param) (h : Held) → held_of p.base p.pointer ≡ Some h → is_local names p.name ≡ false → is_long p.name ≡ false → has_six_scalars names ≡ false → IsParam names p (behind_scalar names p.name h)

pub data AreParams : Names → List Param → Names → Type 0 where
  NoParams : (names : Names) → AreParams names [] names
  MoreParams : (names next last : Names) (p : Param) (ps : List Param) → IsParam names p next → AreParams next ps last → AreParams names (p ∷ ps) last

-- A local has a name that no parameter and no local before it has. It is known from its name on, so in its own value too, which is assigned to it.
pub data IsItem (rows : List CallRow) (b : Base) : Names → Item → Used → List CheckedExpr → Names → Used → Type 0 where
  ScalarItem : (names : Names) (i : Item) (h : Held) (s : Used) → i.kind ≡ item.Plain → held_of b i.pointer ≡ Some h → is_local names i.name ≡ false → is_long i.name ≡ false → IsItem rows b names i s [] (behind_scalar names i.name h) s
  ArrayItem : (names : Names) (i : Item) (c : Constant) (w : Element) (s : Used) → i.kind ≡ item.Array c → element_of b i.pointer ≡ Some w → is_length (constant_of c.kind) ≡ true → is_local names i.name ≡ false → is_long i.name ≡ false →
      IsItem rows b names i s [] (behind_array names i.name (record { element = w; count = constant_of c.kind })) s
  ValuedItem : (names : Names) (i : Item) (e : Expr) (h : Held) (s t : Used) (y : Typed) → i.kind ≡ item.Valued e → held_of b i.pointer ≡ Some h → is_local names i.name ≡ false → is_long i.name ≡ false →
      HasType (behind_scalar names i.name h) rows (expr_of e) s y t → takes (type_of h) y.gives ≡ true →
      IsItem rows b names i s (expr.Assign h.scalar (free_cell names) y.tree ∷ []) (behind_scalar names i.name h) t

pub data AreItems (rows : List CallRow) (b : Base) : Names → List Item → Used → List CheckedExpr → Names → Used → Type 0 where
  NoItems : (names : Names) (s : Used) → AreItems rows b names [] s [] names s
  MoreItems : (names next last : Names) (i : Item) (is : List Item) (s t u : Used) (xs ys : List CheckedExpr) → IsItem rows b names i s xs next t → AreItems rows b next is t ys last u → AreItems rows b names (i ∷ is) s (xs ++ ys) last u

pub data AreDecls (rows : List CallRow) : Names → List Decl → Used → List CheckedExpr → Names → Used → Type 0 where
  NoDecls : (names : Names) (s : Used) → AreDecls rows names [] s [] names s
  MoreDecls : (names next last : Names) (d : Decl) (ds : List Decl) (s t u : Used) (xs ys : List CheckedExpr) → AreItems rows d.base names d.items s xs next t → AreDecls rows next ds t ys last u → AreDecls rows names (d ∷ ds) s (xs ++ ys) last u

-- What a function does by the contexts behind its parameters and behind its declarations: its locals are those that its parameters aren't.
abbrev pub typed_function : Names → Names → List CheckedExpr → List CheckedStmt → CheckedFunction
typed_function p d initials body = function_of (scalars_in p.locals) (drop (length (scalars_in p.locals)) (scalars_in d.locals)) (shapes_in d.locals) initials body

-- A function's parameters, declarations and statements are well typed, each behind those before it, and its frame isn't too large.
pub data IsFunction (rows : List CallRow) (names : Names) (returns : Bool) (ps : List Param) (f : Function) : Used → CheckedFunction → Used → Type 0 where
  Definition : (p d : Names) (initials : List CheckedExpr) (body : List CheckedStmt) (s t u : Used) → AreParams (record names { locals = [] }) ps p → AreDecls rows p f.decls s initials d t → AreTyped d rows returns (stmts_of f.body) t body u →
      is_large (typed_function p d initials body) ≡ false → IsFunction rows names returns ps f s (typed_function p d initials body) u
