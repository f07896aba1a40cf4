-- The same rules over what is known of a function so far, as its declarations are checked one after another.
use Rattle.std.specs.Prelude.{◌≡◌, Bool, true, false, List, [], ◌∷◌, Some}
use Rattle.nx_calls.specs.declared.row.CallRow.{CallRow}
use Rattle.nx_ctree.specs.declared.expression.Expr.{Expr}
use Rattle.nx_ctree.specs.declared.program.Base.{Base}
use Rattle.nx_ctree.specs.declared.program.Constant.{Constant}
use Rattle.nx_ctree.specs.declared.program.Param.{Param}
use Rattle.nx_ctree.specs.declared.program.Function.{Function}
use Rattle.nx_ctree.specs.declared.statement.Decl.{Decl}
use Rattle.nx_ctree.specs.declared.statement.Item.{Item}
use Rattle.nx_ctree.specs.declared.statement.ItemKind.TheVariants as item
use Rattle.nx_checked.specs.declared.checked.Element.{Element}
use Rattle.nx_checked.specs.declared.checked.CheckedExpr.TheVariants as expr
use Rattle.nx_checked.specs.declared.checked.CheckedStmt.{CheckedStmt}
use Rattle.nx_checked.specs.declared.checked.CheckedFunction.{CheckedFunction}
use Rattle.nx_crules.specs.declared.types.Held.{Held}
use Rattle.nx_crules.specs.declared.types.Typed.{Typed}
use Rattle.nx_crules.specs.Types.{type_of, takes}
use Rattle.nx_ctype.specs.declared.names.Names.{Names}
use Rattle.nx_ctype.specs.declared.used.Used.{Used}
use Rattle.nx_ctyping.specs.Trees.{expr_of}
use Rattle.nx_ctyping.specs.HasTypes.{HasType}
use Rattle.nx_cbody.specs.Trees.{stmts_of}
use Rattle.nx_cbody.specs.TypedStatements.{AreTyped}
use Rattle.nx_cbody.specs.Declarations.{Declared, opening, held_of, element_of, constant_of, is_length, is_long, is_taken, has_six, with_param, with_scalar, with_array, with_initial, next_cell}
use Rattle.nx_cbody.specs.Functions.{checked_function, is_large}

-- A parameter is no const scalar, has a name that no other has, and is the sixth at most.
pub data IsParam : Declared → Param → Declared → Type 0 where
  Parameter : (f : Declared) (p : Param) (h : Held) → held_of p.base p.pointer ≡ Some h → is_taken f p.name ≡ false → is_long p.name ≡ false → has_six f ≡ false → IsParam f p (with_param f p.name h)

pub data AreParams : Declared → List Param → Declared → Type 0 where
  NoParams : (f : Declared) → AreParams f [] f
  MoreParams : (f g k : Declared) (p : Param) (ps : List Param) → IsParam f p g → AreParams g ps k → AreParams f (p ∷ ps) k

-- A local has a name that no parameter and no local before it has. It is known from its name on, so in its own value too.
pub data IsItem (rows : List CallRow) (b : Base) : Declared → Item → Used → Declared → Used → Type 0 where
  ScalarItem : (f : Declared) (i : Item) (h : Held) (s : Used) → i.kind ≡ item.Plain → held_of b i.pointer ≡ Some h → is_taken f i.name ≡ false → is_long i.name ≡ false → IsItem rows b f i s (with_scalar f i.name h) s
  ArrayItem : (f : Declared) (i : Item) (c : Constant) (w : Element) (s : Used) → i.kind ≡ item.Array c → element_of b i.pointer ≡ Some w → is_length (constant_of c.kind) ≡ true → is_taken f i.name ≡ false → is_long i.name ≡ false →
      IsItem rows b f i s (with_array f i.name (record { element = w; count = constant_of c.kind })) s
  ValuedItem : (f : Declared) (i : Item) (e : Expr) (h : Held) (s t : Used) (y : Typed) → i.kind ≡ item.Valued e → held_of b i.pointer ≡ Some h → is_taken f i.name ≡ false → is_long i.name ≡ false →
      HasType (with_scalar f i.name h).names rows (expr_of e) s y t → takes (type_of h) y.gives ≡ true →
      IsItem rows b f i s (with_initial (with_scalar f i.name h) (expr.Assign h.scalar (next_cell f) y.tree)) t

pub data AreItems (rows : List CallRow) (b : Base) : Declared → List Item → Used → Declared → Used → Type 0 where
  NoItems : (f : Declared) (s : Used) → AreItems rows b f [] s f s
  MoreItems : (f g k : Declared) (i : Item) (is : List Item) (s t u : Used) → IsItem rows b f i s g t → AreItems rows b g is t k u → AreItems rows b f (i ∷ is) s k u

pub data AreDecls (rows : List CallRow) : Declared → List Decl → Used → Declared → Used → Type 0 where
  NoDecls : (f : Declared) (s : Used) → AreDecls rows f [] s f s
  MoreDecls : (f g k : Declared) (d : Decl) (ds : List Decl) (s t u : Used) → AreItems rows d.base f d.items s g t → AreDecls rows g ds t k u → AreDecls rows f (d ∷ ds) s k u

-- A function's parameters, declarations and statements are well typed, and its frame isn't too large.
pub data IsFunction (rows : List CallRow) (names : Names) (returns : Bool) (ps : List Param) (f : Function) : Used → CheckedFunction → Used → Type 0 where
  Definition : (p d : Declared) (body : List CheckedStmt) (s t u : Used) → AreParams (opening names) ps p → AreDecls rows p f.decls s d t → AreTyped d.names rows returns (stmts_of f.body) t body u → is_large (checked_function d body) ≡ false →
      IsFunction rows names returns ps f s (checked_function d body) u
