-- Which type an expression has and what it does, or its first fault: operands from left to right, then their operator.
use Rattle.std.specs.Prelude.{ℕ, Bool, true, false, List, [], ◌∷◌, ◌++◌, length, position, slice_get, Option, None, Some, Result, Ok, Err}
use Rattle.std.specs.Map.{lookup}
use Rattle.std.specs.Str.{bytes_eq}
use Rattle.nx_calls.specs.declared.row.CallRow.{CallRow}
use Rattle.nx_ctok.specs.declared.fault.CKind.{CKind}
use Rattle.nx_ctok.specs.declared.fault.CKind.TheVariants as fault
use Rattle.nx_ctree.specs.declared.program.Base.{Base}
use Rattle.nx_ctree.specs.declared.program.Base.TheVariants as base
use Rattle.nx_checked.specs.declared.checked.Element.TheVariants as element
use Rattle.nx_checked.specs.declared.checked.CheckedExpr.{CheckedExpr}
use Rattle.nx_checked.specs.declared.checked.CheckedExpr.TheVariants as expr
use Rattle.nx_crules.specs.declared.types.CType.{CType}
use Rattle.nx_crules.specs.declared.types.CType.TheVariants as type
use Rattle.nx_crules.specs.declared.types.Function.{Function}
use Rattle.nx_crules.specs.declared.types.Typed.{Typed}
use Rattle.nx_crules.specs.declared.types.Target.{Target}
use Rattle.nx_crules.specs.Answers.{at}
use Rattle.nx_crules.specs.Rules.{paren_rule, unary_rule, binary_rule, conditional_rule, index_rule, address_rule, cast_rule, index_place, deref_place, assign_rule, step_rule, file_rule, row_rule, starts_thread}
use Rattle.nx_ctype.specs.declared.names.Names.{Names}
use Rattle.nx_ctype.specs.declared.used.Used.{Used}
use Rattle.nx_ctype.specs.Lookups.{found, missing, variable_of, value_of, target_of, bytes_in, number, entry_rule, enter}
use Rattle.nx_ctyping.specs.Checks.{◌>>=◌, Check, leaf, one, two, three, before}
use Rattle.nx_ctyping.specs.Trees.{Expr, Name, Number, Char, Text, Paren, Index, Call, Step, Unary, AddressOf, SizeOfName, SizeOfType, Cast, Binary, Conditional, Assign, Place, Named, Element, Pointed, Args, NoMore, More}

-- A text is a place of its own, and has a zero byte at its end.
abbrev pub with_text : List ℕ → Used → Used
with_text text s = record s { texts = s.texts ++ (text ++ 0 ∷ []) ∷ [] }

abbrev pub literal : Used → Typed
literal s = record { gives = type.Pointer element.Char true; tree = expr.Literal (length s.texts) }

abbrev pub text_check : List ℕ → Check Typed
text_check text s = Ok (literal s, with_text text s)

-- The bytes of a type in "sizeof".
abbrev pub base_bytes : Base → ℕ
base_bytes base.Int = 4
base_bytes base.Char = 1
base_bytes base.ConstChar = 1

-- A name as a value, as the operand of "sizeof", and as a place.
abbrev pub name_check : Names → List ℕ → ℕ → Check Typed
name_check names name line = leaf (at line (found value_of (missing names name) (variable_of names name)))

abbrev pub size_check : Names → List ℕ → ℕ → Check Typed
size_check names name line = leaf (at line (found (λ v. number (bytes_in v)) (missing names name) (variable_of names name)))

abbrev pub target_check : Names → List ℕ → ℕ → Check Target
target_check names name line = leaf (at line (found target_of (missing names name) (variable_of names name)))

-- The place of a name in the call table, and the row there.
abbrev pub place_named : List CallRow → List ℕ → Option ℕ
place_named rows name = position (λ row. bytes_eq name row.name) rows

abbrev pub row_at : List CallRow → Option ℕ → Option CallRow
row_at rows None = None
row_at rows (Some i) = slice_get rows i

-- Whether a call starts a thread: one by the table alone, where the file has no function of its name.
abbrev pub starts_by : Option CallRow → Bool
starts_by None = false
starts_by (Some row) = starts_thread row.kernel

abbrev pub starts : Option Function → Option CallRow → Bool
starts (Some f) row = false
starts None row = starts_by row

-- The line and the name of an expression that is a name alone.
abbrev pub name_of : Expr → Option (ℕ × List ℕ)
name_of (Name line name) = Some (line, name)
name_of _ = None

-- The first argument of a call that starts a thread: a name alone is a function's.
abbrev pub entry_check : Names → Option (ℕ × List ℕ) → Check Typed → Check Typed
entry_check names None check = check
entry_check names (Some n) check = leaf (at n.0 (entry_rule names n.1))

abbrev pub argument_check : Names → Bool → Expr → Check Typed → Check Typed
argument_check names true e check = entry_check names (name_of e) check
argument_check names false e check = check

-- A call by a row of the table, once its arguments are known.
abbrev pub with_call : ℕ → Used → Used
with_call i s = record s { calls = (enter i s.calls).1 }

abbrev pub row_called : Option CallRow → ℕ → ℕ → List Typed → Check Typed
row_called (Some row) i line xs s = do
  z ← at line (row_rule row (enter i s.calls).0 xs)
  Ok (z, with_call i s)
row_called None i line xs s = at line (Err fault.UnknownName)

abbrev pub table_called : List CallRow → Option ℕ → ℕ → List Typed → Check Typed
table_called rows (Some i) line xs s = row_called (slice_get rows i) i line xs s
table_called rows None line xs s = at line (Err fault.UnknownName)

-- A call: a function of the file hides a row of the table of its name.
abbrev pub called : List CallRow → Option Function → Option ℕ → ℕ → List Typed → Check Typed
called rows (Some f) i line xs s = leaf (at line (file_rule f xs)) s
called rows None i line xs s = table_called rows i line xs s

-- Arguments, and then their call.
abbrev pub call_check : List CallRow → Option Function → Option ℕ → ℕ → Check (List Typed) → Check Typed
call_check rows f i line arguments s = do
  xs ← arguments s
  called rows f i line xs.0 xs.1

-- The function and the place in the table of a called name.
abbrev pub function_named : Names → List ℕ → Option Function
function_named names name = lookup (bytes_eq name) names.functions

abbrev pub starts_named : Names → List CallRow → List ℕ → Bool
starts_named names rows name = starts (function_named names name) (row_at rows (place_named rows name))

abbrev mutual
  -- An expression.
  pub verdict : Names → List CallRow → Expr → Check Typed
  verdict names rows (Name line name) = name_check names name line
  verdict names rows (Number line n) = leaf (Ok (number n))
  verdict names rows (Char line c) = leaf (Ok (number c))
  verdict names rows (Text line text) = text_check text
  verdict names rows (Paren line a) = one paren_rule line (verdict names rows a)
  verdict names rows (Index line a i) = two index_rule line (verdict names rows a) (verdict names rows i)
  verdict names rows (Call line name xs) =
      call_check rows (function_named names name) (place_named rows name) line (arguments_verdict names rows (starts_named names rows name) xs)
  verdict names rows (Step line v op p) = one (step_rule v op) line (place_verdict names rows p)
  verdict names rows (Unary line op a) = one (unary_rule op) line (verdict names rows a)
  verdict names rows (AddressOf line a i) = two address_rule line (verdict names rows a) (verdict names rows i)
  verdict names rows (SizeOfName line name) = size_check names name line
  verdict names rows (SizeOfType line b) = leaf (Ok (number (base_bytes b)))
  verdict names rows (Cast line b star a) = one (cast_rule b star) line (verdict names rows a)
  verdict names rows (Binary line op a b) = two (binary_rule op) line (verdict names rows a) (verdict names rows b)
  verdict names rows (Conditional line c a b) = three conditional_rule line (verdict names rows c) (verdict names rows a) (verdict names rows b)
  verdict names rows (Assign line op p e) = two (assign_rule op) line (place_verdict names rows p) (verdict names rows e)

  -- A place.
  pub place_verdict : Names → List CallRow → Place → Check Target
  place_verdict names rows (Named line name) = target_check names name line
  place_verdict names rows (Element line a i) = two index_place line (verdict names rows a) (verdict names rows i)
  place_verdict names rows (Pointed line a) = one deref_place line (verdict names rows a)

  -- Arguments from left to right, of a call that starts a thread or not.
  pub arguments_verdict : Names → List CallRow → Bool → Args → Check (List Typed)
  arguments_verdict names rows b NoMore = leaf (Ok [])
  arguments_verdict names rows b (More e xs) = before (argument_check names b e (verdict names rows e)) (arguments_verdict names rows false xs)
