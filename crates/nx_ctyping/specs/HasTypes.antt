-- When an expression is well typed, with which type and what it does (C11 6.5). Each relation is over what was used before and what is used then.
use Rattle.std.specs.Prelude.{◌≡◌, ℕ, Bool, true, false, ◌&&◌, List, [], ◌∷◌, map, Option, None, Some}
use Rattle.std.specs.Map.{lookup}
use Rattle.std.specs.Str.{bytes_eq}
use Rattle.nx_calls.specs.declared.row.CallRow.{CallRow}
use Rattle.nx_ctree.specs.declared.program.Base.{Base}
use Rattle.nx_ctree.specs.declared.program.Base.TheVariants as base
use Rattle.nx_ctree.specs.declared.expression.UnaryOperator.TheVariants as unary
use Rattle.nx_ctree.specs.declared.expression.StepOperator.{StepOperator}
use Rattle.nx_ctree.specs.declared.expression.BinaryOperator.{BinaryOperator}
use Rattle.nx_ctree.specs.declared.expression.AssignOperator.{AssignOperator}
use Rattle.nx_ctree.specs.declared.expression.AssignOperator.TheVariants as assign
use Rattle.nx_checked.specs.declared.checked.Element.{Element}
use Rattle.nx_checked.specs.declared.checked.Shape.{Shape}
use Rattle.nx_checked.specs.declared.checked.ArrayName.{ArrayName}
use Rattle.nx_checked.specs.declared.checked.Cell.{Cell}
use Rattle.nx_checked.specs.declared.checked.Conversion.TheVariants as convert
use Rattle.nx_checked.specs.declared.checked.IntPrefix.TheVariants as prefix
use Rattle.nx_checked.specs.declared.checked.IntOperator.{IntOperator}
use Rattle.nx_checked.specs.declared.checked.StepValue.{StepValue}
use Rattle.nx_checked.specs.declared.checked.CheckedExpr.{CheckedExpr}
use Rattle.nx_checked.specs.declared.checked.CheckedExpr.TheVariants as expr
use Rattle.nx_checked.specs.declared.checked.CheckedPlace.{CheckedPlace}
use Rattle.nx_checked.specs.declared.checked.CheckedPlace.TheVariants as place
use Rattle.nx_crules.specs.declared.types.CType.{CType}
use Rattle.nx_crules.specs.declared.types.CType.TheVariants as type
use Rattle.nx_crules.specs.declared.types.Held.{Held}
use Rattle.nx_crules.specs.declared.types.Function.{Function}
use Rattle.nx_crules.specs.declared.types.Typed.{Typed}
use Rattle.nx_crules.specs.declared.types.Target.{Target}
use Rattle.nx_crules.specs.declared.types.Target.TheVariants as target
use Rattle.nx_crules.specs.Types.{type_of, takes}
use Rattle.nx_crules.specs.Rules.{numbers, direction, are_one_type, pointer_to, compound_of, compounds_number, is_up, fits_params, returned, fits_row, starts_thread, is_one_int}
use Rattle.nx_ctype.specs.declared.names.Names.{Names}
use Rattle.nx_ctype.specs.declared.names.Variable.{Variable}
use Rattle.nx_ctype.specs.declared.names.Variable.TheVariants as variable
use Rattle.nx_ctype.specs.declared.used.Used.{Used}
use Rattle.nx_ctype.specs.Lookups.{variable_of, bytes_in, enter}
use Rattle.nx_ctyping.specs.Trees as tree
use Rattle.nx_ctyping.specs.Trees.{Expr, Place, Args}
use Rattle.nx_ctyping.specs.Verdicts.{with_text, literal, base_bytes, with_call, function_named, place_named, row_at}

-- A number, and a pointer to elements that may perhaps only be read.
abbrev pub int : CheckedExpr → Typed
int t = record { gives = type.Int; tree = t }

abbrev pub pointer : Element → Bool → CheckedExpr → Typed
pointer w c t = record { gives = type.Pointer w c; tree = t }

abbrev pub of_type : CType → CheckedExpr → Typed
of_type g t = record { gives = g; tree = t }

-- A type that has values.
abbrev pub has_values : CType → Bool
has_values type.Void = false
has_values _ = true

-- A function `int f(int)`.
abbrev pub is_entry : Function → Bool
is_entry f = f.returns && is_one_int f.params

-- An expression that is not a name alone.
abbrev pub is_name : Expr → Bool
is_name (tree.Name line name) = true
is_name _ = false

mutual
  pub data HasType (names : Names) (rows : List CallRow) : Expr → Used → Typed → Used → Type 0 where
    -- Primary expressions (6.5.1): an array is the pointer to its first element, a text one to its first byte.
    Scalar : (line : ℕ) (name : List ℕ) (x : Cell) (h : Held) (s : Used) → variable_of names name ≡ Some (variable.Scalar x h) → HasType names rows (tree.Name line name) s (of_type (type_of h) (expr.Read x)) s
    Array : (line : ℕ) (name : List ℕ) (a : ArrayName) (z : Shape) (s : Used) → variable_of names name ≡ Some (variable.Array a z) → HasType names rows (tree.Name line name) s (pointer z.element false (expr.Array a)) s
    Number : (line n : ℕ) (s : Used) → HasType names rows (tree.Number line n) s (int (expr.Constant n)) s
    Char : (line c : ℕ) (s : Used) → HasType names rows (tree.Char line c) s (int (expr.Constant c)) s
    Text : (line : ℕ) (text : List ℕ) (s : Used) → HasType names rows (tree.Text line text) s (literal s) (with_text text s)
    Paren : (line : ℕ) (a : Expr) (s t : Used) (x : Typed) → HasType names rows a s x t → has_values x.gives ≡ true → HasType names rows (tree.Paren line a) s x t
    -- Postfix operators (6.5.2).
    Index : (line : ℕ) (a i : Expr) (s t u : Used) (w : Element) (c : Bool) (p n : CheckedExpr) → HasType names rows a s (pointer w c p) t → HasType names rows i t (int n) u →
        HasType names rows (tree.Index line a i) s (int (expr.Load w (place.Index p n))) u
    Call : (line : ℕ) (name : List ℕ) (xs : Args) (s t : Used) (f : Function) (ys : List Typed) → function_named names name ≡ Some f → HaveTypes names rows false xs s ys t → fits_params f.params ys ≡ true →
        HasType names rows (tree.Call line name xs) s (of_type (returned f.returns) (expr.Call f.place (map (λ y. y.tree) ys))) t
    KernelCall : (line : ℕ) (name : List ℕ) (xs : Args) (s t : Used) (i : ℕ) (row : CallRow) (ys : List Typed) → function_named names name ≡ None → place_named rows name ≡ Some i →
        row_at rows (Some i) ≡ Some row → HaveTypes names rows (starts_thread row.kernel) xs s ys t → fits_row row ys ≡ true →
        HasType names rows (tree.Call line name xs) s (of_type (returned row.returns) (expr.Kernel (enter i t.calls).0 (map (λ y. y.tree) ys))) (with_call i t)
    -- Steps, before or after their place (6.5.2.4, 6.5.3.1).
    StepCell : (line : ℕ) (v : StepValue) (op : StepOperator) (p : Place) (s t : Used) (x : Cell) (h : Held) → HasPlace names rows p s (target.Cell x h) t →
        HasType names rows (tree.Step line v op p) s (of_type (type_of h) (expr.Step v (is_up op) h.scalar x)) t
    StepElement : (line : ℕ) (v : StepValue) (op : StepOperator) (p : Place) (s t : Used) (w : Element) (q : CheckedPlace) → HasPlace names rows p s (target.Element w false q) t →
        HasType names rows (tree.Step line v op p) s (int (expr.StepElement v (is_up op) w q)) t
    -- Unary operators (6.5.3).
    Minus : (line : ℕ) (a : Expr) (s t : Used) (n : CheckedExpr) → HasType names rows a s (int n) t → HasType names rows (tree.Unary line unary.Minus a) s (int (expr.Unary prefix.Minus n)) t
    Not : (line : ℕ) (a : Expr) (s t : Used) (n : CheckedExpr) → HasType names rows a s (int n) t → HasType names rows (tree.Unary line unary.Not a) s (int (expr.Unary prefix.Not n)) t
    Complement : (line : ℕ) (a : Expr) (s t : Used) (n : CheckedExpr) → HasType names rows a s (int n) t → HasType names rows (tree.Unary line unary.Complement a) s (int (expr.Unary prefix.Complement n)) t
    Deref : (line : ℕ) (a : Expr) (s t : Used) (w : Element) (c : Bool) (p : CheckedExpr) → HasType names rows a s (pointer w c p) t →
        HasType names rows (tree.Unary line unary.Deref a) s (int (expr.Load w (place.Deref p))) t
    AddressOf : (line : ℕ) (a i : Expr) (s t u : Used) (w : Element) (c : Bool) (p n : CheckedExpr) → HasType names rows a s (pointer w c p) t → HasType names rows i t (int n) u →
        HasType names rows (tree.AddressOf line a i) s (pointer w c (expr.AddressOf w p n)) u
    SizeOfName : (line : ℕ) (name : List ℕ) (v : Variable) (s : Used) → variable_of names name ≡ Some v → HasType names rows (tree.SizeOfName line name) s (int (expr.Constant (bytes_in v))) s
    SizeOfType : (line : ℕ) (b : Base) (s : Used) → HasType names rows (tree.SizeOfType line b) s (int (expr.Constant (base_bytes b))) s
    -- Casts of a number (6.5.4).
    CastToInt : (line : ℕ) (a : Expr) (s t : Used) (n : CheckedExpr) → HasType names rows a s (int n) t → HasType names rows (tree.Cast line base.Int false a) s (int (expr.Convert convert.ToInt n)) t
    CastToChar : (line : ℕ) (a : Expr) (s t : Used) (n : CheckedExpr) → HasType names rows a s (int n) t → HasType names rows (tree.Cast line base.Char false a) s (int (expr.Convert convert.ToChar n)) t
    CastToPointer : (line : ℕ) (b : Base) (a : Expr) (s t : Used) (n : CheckedExpr) → HasType names rows a s (int n) t →
        HasType names rows (tree.Cast line b true a) s (of_type (pointer_to b) (expr.Convert convert.ToPointer n)) t
    -- Operators between two numbers (6.5.5 to 6.5.14), and pointers that a number moves (6.5.6).
    Binary : (line : ℕ) (op : BinaryOperator) (a b : Expr) (s t u : Used) (m n : CheckedExpr) → HasType names rows a s (int m) t → HasType names rows b t (int n) u →
        HasType names rows (tree.Binary line op a b) s (int (numbers op m n)) u
    Advance : (line : ℕ) (op : BinaryOperator) (a b : Expr) (s t u : Used) (w : Element) (c : Bool) (p n : CheckedExpr) → direction op ≡ Some true → HasType names rows a s (pointer w c p) t → HasType names rows b t (int n) u →
        HasType names rows (tree.Binary line op a b) s (pointer w c (expr.Advance w p n)) u
    AdvanceBy : (line : ℕ) (op : BinaryOperator) (a b : Expr) (s t u : Used) (w : Element) (c : Bool) (n p : CheckedExpr) → direction op ≡ Some true → HasType names rows a s (int n) t → HasType names rows b t (pointer w c p) u →
        HasType names rows (tree.Binary line op a b) s (pointer w c (expr.AdvanceBy w n p)) u
    Retreat : (line : ℕ) (op : BinaryOperator) (a b : Expr) (s t u : Used) (w : Element) (c : Bool) (p n : CheckedExpr) → direction op ≡ Some false → HasType names rows a s (pointer w c p) t → HasType names rows b t (int n) u →
        HasType names rows (tree.Binary line op a b) s (pointer w c (expr.Retreat w p n)) u
    -- A choice between two numbers, or two pointers of one type (6.5.15).
    Conditional : (line : ℕ) (c a b : Expr) (s t u v : Used) (n : CheckedExpr) (x y : Typed) → HasType names rows c s (int n) t → HasType names rows a t x u → HasType names rows b u y v → are_one_type x.gives y.gives ≡ true →
        HasType names rows (tree.Conditional line c a b) s (of_type x.gives (expr.Conditional n x.tree y.tree)) v
    -- Assignments (6.5.16): what is written may be written.
    Assign : (line : ℕ) (p : Place) (e : Expr) (s t u : Used) (x : Cell) (h : Held) (y : Typed) → HasPlace names rows p s (target.Cell x h) t → HasType names rows e t y u → takes (type_of h) y.gives ≡ true →
        HasType names rows (tree.Assign line assign.Set p e) s (of_type (type_of h) (expr.Assign h.scalar x y.tree)) u
    AssignElement : (line : ℕ) (p : Place) (e : Expr) (s t u : Used) (w : Element) (q : CheckedPlace) (n : CheckedExpr) → HasPlace names rows p s (target.Element w false q) t → HasType names rows e t (int n) u →
        HasType names rows (tree.Assign line assign.Set p e) s (int (expr.AssignElement w q n)) u
    Compound : (line : ℕ) (op : AssignOperator) (o : IntOperator) (p : Place) (e : Expr) (s t u : Used) (x : Cell) (h : Held) (n : CheckedExpr) → compound_of op ≡ Some o → HasPlace names rows p s (target.Cell x h) t →
        HasType names rows e t (int n) u → compounds_number o h.scalar ≡ true → HasType names rows (tree.Assign line op p e) s (of_type (type_of h) (expr.Compound o h.scalar x n)) u
    CompoundElement : (line : ℕ) (op : AssignOperator) (o : IntOperator) (p : Place) (e : Expr) (s t u : Used) (w : Element) (q : CheckedPlace) (n : CheckedExpr) → compound_of op ≡ Some o →
        HasPlace names rows p s (target.Element w false q) t → HasType names rows e t (int n) u → HasType names rows (tree.Assign line op p e) s (int (expr.CompoundElement o w q n)) u

  -- What can be written to: a variable that is no array, or what a pointer points to.
  pub data HasPlace (names : Names) (rows : List CallRow) : Place → Used → Target → Used → Type 0 where
    NamePlace : (line : ℕ) (name : List ℕ) (x : Cell) (h : Held) (s : Used) → variable_of names name ≡ Some (variable.Scalar x h) → HasPlace names rows (tree.Named line name) s (target.Cell x h) s
    IndexPlace : (line : ℕ) (a i : Expr) (s t u : Used) (w : Element) (c : Bool) (p n : CheckedExpr) → HasType names rows a s (pointer w c p) t → HasType names rows i t (int n) u →
        HasPlace names rows (tree.Element line a i) s (target.Element w c (place.Index p n)) u
    DerefPlace : (line : ℕ) (a : Expr) (s t : Used) (w : Element) (c : Bool) (p : CheckedExpr) → HasType names rows a s (pointer w c p) t → HasPlace names rows (tree.Pointed line a) s (target.Element w c (place.Deref p)) t

  -- Arguments from left to right. The first one of a call that starts a thread is the name of a function `int f(int)`, which no local hides.
  pub data HaveTypes (names : Names) (rows : List CallRow) : Bool → Args → Used → List Typed → Used → Type 0 where
    NoArguments : (b : Bool) (s : Used) → HaveTypes names rows b tree.NoMore s [] s
    Entry : (line : ℕ) (name : List ℕ) (xs : Args) (s t : Used) (f : Function) (ys : List Typed) → lookup (bytes_eq name) names.locals ≡ None → function_named names name ≡ Some f → is_entry f ≡ true →
        HaveTypes names rows false xs s ys t → HaveTypes names rows true (tree.More (tree.Name line name) xs) s (of_type type.Entry (expr.Function f.place) ∷ ys) t
    First : (e : Expr) (xs : Args) (s t u : Used) (y : Typed) (ys : List Typed) → is_name e ≡ false → HasType names rows e s y t → HaveTypes names rows false xs t ys u →
        HaveTypes names rows true (tree.More e xs) s (y ∷ ys) u
    Argument : (e : Expr) (xs : Args) (s t u : Used) (y : Typed) (ys : List Typed) → HasType names rows e s y t → HaveTypes names rows false xs t ys u →
        HaveTypes names rows false (tree.More e xs) s (y ∷ ys) u
