-- The typing rules, one for each operator: what it gives and does, by the types of its operands.
use Rattle.std.specs.Prelude.{ℕ, ◌==◌, Bool, true, false, ◌&&◌, List, [], ◌∷◌, length, map, Option, None, Some, Result, Ok, Err, if◌then◌else◌}
use Rattle.std.specs.List.{list_all, zip}
use Rattle.nx_base.specs.declared.calls.Kind.{Kind}
use Rattle.nx_base.specs.declared.calls.Kind.TheVariants as kind
use Rattle.nx_base.specs.declared.calls.KCall.{KCall}
use Rattle.nx_base.specs.declared.calls.KCall.TheVariants as kcall
use Rattle.nx_calls.specs.declared.row.CallRow.{CallRow}
use Rattle.nx_ctok.specs.declared.fault.CKind.{CKind}
use Rattle.nx_ctok.specs.declared.fault.CKind.TheVariants as fault
use Rattle.nx_ctree.specs.declared.program.Base.{Base}
use Rattle.nx_ctree.specs.declared.program.Base.TheVariants as base
use Rattle.nx_ctree.specs.declared.expression.UnaryOperator.{UnaryOperator}
use Rattle.nx_ctree.specs.declared.expression.UnaryOperator.TheVariants as unary
use Rattle.nx_ctree.specs.declared.expression.StepOperator.{StepOperator}
use Rattle.nx_ctree.specs.declared.expression.StepOperator.TheVariants as step
use Rattle.nx_ctree.specs.declared.expression.BinaryOperator.{BinaryOperator}
use Rattle.nx_ctree.specs.declared.expression.BinaryOperator.TheVariants as binary
use Rattle.nx_ctree.specs.declared.expression.AssignOperator.{AssignOperator}
use Rattle.nx_ctree.specs.declared.expression.AssignOperator.TheVariants as assign
use Rattle.nx_checked.specs.declared.checked.Element.{Element}
use Rattle.nx_checked.specs.declared.checked.Element.TheVariants as element
use Rattle.nx_checked.specs.declared.checked.Scalar.{Scalar}
use Rattle.nx_checked.specs.declared.checked.Scalar.TheVariants as scalar
use Rattle.nx_checked.specs.declared.checked.Cell.{Cell}
use Rattle.nx_checked.specs.declared.checked.Conversion.{Conversion}
use Rattle.nx_checked.specs.declared.checked.Conversion.TheVariants as convert
use Rattle.nx_checked.specs.declared.checked.IntPrefix.{IntPrefix}
use Rattle.nx_checked.specs.declared.checked.IntPrefix.TheVariants as prefix
use Rattle.nx_checked.specs.declared.checked.IntOperator.{IntOperator}
use Rattle.nx_checked.specs.declared.checked.IntOperator.TheVariants as operator
use Rattle.nx_checked.specs.declared.checked.StepValue.{StepValue}
use Rattle.nx_checked.specs.declared.checked.CheckedExpr.{CheckedExpr}
use Rattle.nx_checked.specs.declared.checked.CheckedExpr.TheVariants as expr
use Rattle.nx_checked.specs.declared.checked.CheckedPlace.{CheckedPlace}
use Rattle.nx_checked.specs.declared.checked.CheckedPlace.TheVariants as place
use Rattle.nx_crules.specs.declared.types.CType.{CType}
use Rattle.nx_crules.specs.declared.types.CType.TheVariants as type
use Rattle.nx_crules.specs.declared.types.Held.{Held}
use Rattle.nx_crules.specs.declared.types.Function.{Function}
use Rattle.nx_crules.specs.declared.types.Typed.{Typed}
use Rattle.nx_crules.specs.declared.types.Target.{Target}
use Rattle.nx_crules.specs.declared.types.Target.TheVariants as target
use Rattle.nx_crules.specs.Types.{is_same, takes, type_of}

-- A rule that doesn't take its operands.
abbrev pub wrong : {A : Type 0} → Result A CKind
wrong = Err fault.TypeMismatch

abbrev pub typed : CType → CheckedExpr → Result Typed CKind
typed g t = Ok (record { gives = g; tree = t })

-- Parentheses take what has a value.
abbrev pub valued : CType → Typed → Result Typed CKind
valued type.Void x = wrong
valued _ x = Ok x

abbrev pub paren_rule : Typed → Result Typed CKind
paren_rule x = valued x.gives x

-- "-", "!" and "~" take a number, "*" a pointer (C11 6.5.3).
abbrev pub prefix_typed : IntPrefix → CType → CheckedExpr → Result Typed CKind
prefix_typed p type.Int t = typed type.Int (expr.Unary p t)
prefix_typed p _ t = wrong

abbrev pub deref_typed : CType → CheckedExpr → Result Typed CKind
deref_typed (type.Pointer w c) t = typed type.Int (expr.Load w (place.Deref t))
deref_typed _ t = wrong

abbrev pub unary_typed : UnaryOperator → CType → CheckedExpr → Result Typed CKind
unary_typed unary.Minus g t = prefix_typed prefix.Minus g t
unary_typed unary.Not g t = prefix_typed prefix.Not g t
unary_typed unary.Complement g t = prefix_typed prefix.Complement g t
unary_typed unary.Deref g t = deref_typed g t

abbrev pub unary_rule : UnaryOperator → Typed → Result Typed CKind
unary_rule op x = unary_typed op x.gives x.tree

-- What an operator does with two numbers.
abbrev pub numbers : BinaryOperator → CheckedExpr → CheckedExpr → CheckedExpr
numbers binary.Or a b = expr.Or a b
numbers binary.And a b = expr.And a b
numbers binary.BitOr a b = expr.Binary operator.BitOr a b
numbers binary.BitXor a b = expr.Binary operator.BitXor a b
numbers binary.BitAnd a b = expr.Binary operator.BitAnd a b
numbers binary.Equal a b = expr.Binary operator.Equal a b
numbers binary.NotEqual a b = expr.Binary operator.NotEqual a b
numbers binary.Less a b = expr.Binary operator.Less a b
numbers binary.AtMost a b = expr.Binary operator.AtMost a b
numbers binary.Greater a b = expr.Binary operator.Greater a b
numbers binary.AtLeast a b = expr.Binary operator.AtLeast a b
numbers binary.ShiftLeft a b = expr.Binary operator.ShiftLeft a b
numbers binary.ShiftRight a b = expr.Binary operator.ShiftRight a b
numbers binary.Add a b = expr.Binary operator.Add a b
numbers binary.Subtract a b = expr.Binary operator.Subtract a b
numbers binary.Multiply a b = expr.Binary operator.Multiply a b
numbers binary.Divide a b = expr.Binary operator.Divide a b
numbers binary.Remainder a b = expr.Binary operator.Remainder a b

-- Which way an operator moves a pointer, if it does: up for "+".
abbrev pub direction : BinaryOperator → Option Bool
direction binary.Add = Some true
direction binary.Subtract = Some false
direction _ = None

-- A pointer and a number after it: "+" and "-" move it.
abbrev pub moved : Option Bool → Element → Bool → CheckedExpr → CheckedExpr → Result Typed CKind
moved (Some true) w c a b = typed (type.Pointer w c) (expr.Advance w a b)
moved (Some false) w c a b = typed (type.Pointer w c) (expr.Retreat w a b)
moved None w c a b = wrong

abbrev pub pointer_first : BinaryOperator → Element → Bool → CType → CheckedExpr → CheckedExpr → Result Typed CKind
pointer_first op w c type.Int a b = moved (direction op) w c a b
pointer_first op w c _ a b = wrong

-- A number and a pointer after it: "+" moves it.
abbrev pub moved_by : Option Bool → Element → Bool → CheckedExpr → CheckedExpr → Result Typed CKind
moved_by (Some true) w c a b = typed (type.Pointer w c) (expr.AdvanceBy w a b)
moved_by (Some false) w c a b = wrong
moved_by None w c a b = wrong

abbrev pub number_first : BinaryOperator → CType → CheckedExpr → CheckedExpr → Result Typed CKind
number_first op type.Int a b = typed type.Int (numbers op a b)
number_first op (type.Pointer w c) a b = moved_by (direction op) w c a b
number_first op _ a b = wrong

-- All operators take two numbers (C11 6.5.5 to 6.5.14).
abbrev pub binary_typed : BinaryOperator → CType → CType → CheckedExpr → CheckedExpr → Result Typed CKind
binary_typed op type.Int h a b = number_first op h a b
binary_typed op (type.Pointer w c) h a b = pointer_first op w c h a b
binary_typed op _ h a b = wrong

abbrev pub binary_rule : BinaryOperator → Typed → Typed → Result Typed CKind
binary_rule op x y = binary_typed op x.gives y.gives x.tree y.tree

-- Two numbers, or two pointers of one type.
abbrev pub is_equal : Bool → Bool → Bool
is_equal true c = c
is_equal false true = false
is_equal false false = true

abbrev pub are_one_type : CType → CType → Bool
are_one_type type.Int type.Int = true
are_one_type (type.Pointer w c) (type.Pointer v d) = is_same w v && is_equal c d
are_one_type _ _ = false

-- "?:" takes a number, and two values of one type, which is its own (C11 6.5.15).
abbrev pub choice : CType → CType → CType → Option CType
choice type.Int g h = if are_one_type g h then Some g else None
choice _ g h = None

abbrev pub conditional_typed : Option CType → CheckedExpr → CheckedExpr → CheckedExpr → Result Typed CKind
conditional_typed (Some g) c a b = typed g (expr.Conditional c a b)
conditional_typed None c a b = wrong

abbrev pub conditional_rule : Typed → Typed → Typed → Result Typed CKind
conditional_rule c x y = conditional_typed (choice c.gives x.gives y.gives) c.tree x.tree y.tree

-- An index takes a pointer and a number; so does its address (C11 6.5.2.1, 6.5.3.2).
abbrev pub pointed : CType → CType → Option (Element × Bool)
pointed (type.Pointer w c) type.Int = Some (w, c)
pointed _ _ = None

abbrev pub index_typed : Option (Element × Bool) → CheckedExpr → CheckedExpr → Result Typed CKind
index_typed (Some p) a i = typed type.Int (expr.Load p.0 (place.Index a i))
index_typed None a i = wrong

abbrev pub index_rule : Typed → Typed → Result Typed CKind
index_rule x i = index_typed (pointed x.gives i.gives) x.tree i.tree

abbrev pub address_typed : Option (Element × Bool) → CheckedExpr → CheckedExpr → Result Typed CKind
address_typed (Some p) a i = typed (type.Pointer p.0 p.1) (expr.AddressOf p.0 a i)
address_typed None a i = wrong

abbrev pub address_rule : Typed → Typed → Result Typed CKind
address_rule x i = address_typed (pointed x.gives i.gives) x.tree i.tree

-- A number may be cast to a number, to a char or to a pointer (C11 6.5.4).
abbrev pub pointer_to : Base → CType
pointer_to base.Int = type.Pointer element.Int false
pointer_to base.Char = type.Pointer element.Char false
pointer_to base.ConstChar = type.Pointer element.Char true

abbrev pub number_to : Base → Option (CType × Conversion)
number_to base.Int = Some (type.Int, convert.ToInt)
number_to base.Char = Some (type.Int, convert.ToChar)
number_to base.ConstChar = None

abbrev pub conversion : Base → Bool → Option (CType × Conversion)
conversion b star = if star then Some (pointer_to b, convert.ToPointer) else number_to b

abbrev pub converted : Option (CType × Conversion) → CheckedExpr → Result Typed CKind
converted (Some p) t = typed p.0 (expr.Convert p.1 t)
converted None t = wrong

abbrev pub cast_typed : Base → Bool → CType → CheckedExpr → Result Typed CKind
cast_typed b star type.Int t = converted (conversion b star) t
cast_typed b star _ t = wrong

abbrev pub cast_rule : Base → Bool → Typed → Result Typed CKind
cast_rule b star x = cast_typed b star x.gives x.tree

-- The places "a[i]" and "*p".
abbrev pub index_target : Option (Element × Bool) → CheckedExpr → CheckedExpr → Result Target CKind
index_target (Some p) a i = Ok (target.Element p.0 p.1 (place.Index a i))
index_target None a i = wrong

abbrev pub index_place : Typed → Typed → Result Target CKind
index_place x i = index_target (pointed x.gives i.gives) x.tree i.tree

abbrev pub deref_target : CType → CheckedExpr → Result Target CKind
deref_target (type.Pointer w c) a = Ok (target.Element w c (place.Deref a))
deref_target _ a = wrong

abbrev pub deref_place : Typed → Result Target CKind
deref_place x = deref_target x.gives x.tree

-- The operator before "=".
abbrev pub compound_of : AssignOperator → Option IntOperator
compound_of assign.Set = None
compound_of assign.Add = Some operator.Add
compound_of assign.Subtract = Some operator.Subtract
compound_of assign.Multiply = Some operator.Multiply
compound_of assign.Divide = Some operator.Divide
compound_of assign.Remainder = Some operator.Remainder

-- "+=" and "-=" take a pointer, and all such operators a number; the right side is a number (C11 6.5.16.2).
abbrev pub moves : IntOperator → Bool
moves operator.Add = true
moves operator.Subtract = true
moves _ = false

abbrev pub compounds_number : IntOperator → Scalar → Bool
compounds_number op scalar.Int = true
compounds_number op scalar.Char = true
compounds_number op (scalar.Pointer w) = moves op

abbrev pub compounds : IntOperator → Scalar → CType → Bool
compounds op s type.Int = compounds_number op s
compounds op s _ = false

-- An assignment to a variable.
abbrev pub cell_takes : Option IntOperator → Held → CType → Bool
cell_takes None h g = takes (type_of h) g
cell_takes (Some op) h g = compounds op h.scalar g

abbrev pub cell_set : Option IntOperator → Scalar → Cell → CheckedExpr → CheckedExpr
cell_set None s x e = expr.Assign s x e
cell_set (Some op) s x e = expr.Compound op s x e

abbrev pub cell_assign : Option IntOperator → Cell → Held → Typed → Result Typed CKind
cell_assign op x h e = if cell_takes op h e.gives then typed (type_of h) (cell_set op h.scalar x e.tree) else wrong

-- An assignment to an element, which is a number.
abbrev pub element_set : Option IntOperator → Element → CheckedPlace → CheckedExpr → CheckedExpr
element_set None w p e = expr.AssignElement w p e
element_set (Some op) w p e = expr.CompoundElement op w p e

abbrev pub element_assign : Option IntOperator → Element → CheckedPlace → CType → CheckedExpr → Result Typed CKind
element_assign op w p type.Int e = typed type.Int (element_set op w p e)
element_assign op w p _ e = wrong

-- Nothing is stored where one may only read, nor to an array as a whole (C11 6.5.16).
abbrev pub assign_rule : AssignOperator → Target → Typed → Result Typed CKind
assign_rule op (target.Cell x h) e = cell_assign (compound_of op) x h e
assign_rule op (target.Element w false p) e = element_assign (compound_of op) w p e.gives e.tree
assign_rule op (target.Element w true p) e = wrong
assign_rule op target.Array e = wrong

abbrev pub is_up : StepOperator → Bool
is_up step.Increment = true
is_up step.Decrement = false

-- "++" and "--" take a number or a pointer (C11 6.5.2.4, 6.5.3.1).
abbrev pub step_rule : StepValue → StepOperator → Target → Result Typed CKind
step_rule v op (target.Cell x h) = typed (type_of h) (expr.Step v (is_up op) h.scalar x)
step_rule v op (target.Element w false p) = typed type.Int (expr.StepElement v (is_up op) w p)
step_rule v op (target.Element w true p) = wrong
step_rule v op target.Array = wrong

-- A call of a function of the file takes as many arguments as it has parameters, of their types (C11 6.5.2.2).
abbrev pub all_taken : List Held → List Typed → Bool
all_taken hs xs = list_all (λ p. takes (type_of p.0) p.1.gives) (zip hs xs)

abbrev pub fits_params : List Held → List Typed → Bool
fits_params hs xs = if length hs == length xs then all_taken hs xs else false

abbrev pub returned : Bool → CType
returned true = type.Int
returned false = type.Void

abbrev pub file_rule : Function → List Typed → Result Typed CKind
file_rule f xs = if fits_params f.params xs then typed (returned f.returns) (expr.Call f.place (map (λ x. x.tree) xs)) else wrong

-- What a call of the table takes for a parameter.
abbrev pub is_number : CType → Bool
is_number type.Int = true
is_number _ = false

abbrev pub is_pointer : CType → Bool
is_pointer (type.Pointer w c) = true
is_pointer _ = false

abbrev pub is_text : CType → Bool
is_text (type.Pointer element.Char c) = true
is_text _ = false

abbrev pub is_written : CType → Bool
is_written (type.Pointer w false) = true
is_written _ = false

abbrev pub is_number_written : CType → Bool
is_number_written (type.Pointer element.Int false) = true
is_number_written _ = false

abbrev pub kind_takes : Kind → CType → Bool
kind_takes kind.Word g = is_number g
kind_takes kind.Len g = is_number g
kind_takes kind.In g = is_pointer g
kind_takes kind.Text g = is_text g
kind_takes kind.Out g = is_written g
kind_takes kind.Out4 g = is_number_written g
kind_takes kind.Out8 g = is_number_written g

abbrev pub all_kinds_take : List Kind → List Typed → Bool
all_kinds_take ks xs = list_all (λ p. kind_takes p.0 p.1.gives) (zip ks xs)

abbrev pub fits_kinds : List Kind → List Typed → Bool
fits_kinds ks xs = if length ks == length xs then all_kinds_take ks xs else false

-- Whether a row is that of the call that starts a thread.
abbrev pub starts_thread : Option KCall → Bool
starts_thread (Some kcall.NxThread) = true
starts_thread _ = false

-- That call takes a function's name and a number.
abbrev pub entry_takes : CType → CType → Bool
entry_takes type.Entry g = is_number g
entry_takes _ g = false

abbrev pub fits_entry : List Typed → Bool
fits_entry [] = false
fits_entry (x ∷ []) = false
fits_entry (x ∷ y ∷ []) = entry_takes x.gives y.gives
fits_entry (x ∷ y ∷ z ∷ xs) = false

abbrev pub fits_row : CallRow → List Typed → Bool
fits_row row xs = if starts_thread row.kernel then fits_entry xs else fits_kinds row.kinds.items xs

-- A call by the table, by its place among the calls that are used.
abbrev pub row_rule : CallRow → ℕ → List Typed → Result Typed CKind
row_rule row k xs = if fits_row row xs then typed (returned row.returns) (expr.Kernel k (map (λ x. x.tree) xs)) else wrong

-- The function that a thread starts with has one parameter, an int, and returns an int.
abbrev pub is_int : Scalar → Bool
is_int scalar.Int = true
is_int scalar.Char = false
is_int (scalar.Pointer w) = false

abbrev pub is_one_int : List Held → Bool
is_one_int [] = false
is_one_int (h ∷ []) = is_int h.scalar
is_one_int (h ∷ g ∷ hs) = false

abbrev pub entry_function : Function → Result Typed CKind
entry_function f = if f.returns && is_one_int f.params then typed type.Entry (expr.Function f.place) else wrong
