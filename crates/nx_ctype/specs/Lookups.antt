-- What a name stands for.
use Rattle.std.specs.Prelude.{ℕ, ◌==◌, ◌%◌, ◌^◌, Bool, true, false, List, [], ◌∷◌, ◌++◌, length, position, Option, None, Some, Result, Ok, Err, is_some, if◌then◌else◌}
use Rattle.std.specs.Map.{lookup}
use Rattle.std.specs.Option.{option_or}
use Rattle.std.specs.Str.{bytes_eq}
use Rattle.nx_ctok.specs.declared.fault.CKind.{CKind}
use Rattle.nx_ctok.specs.declared.fault.CKind.TheVariants as fault
use Rattle.nx_checked.specs.declared.checked.Scalar.{Scalar}
use Rattle.nx_checked.specs.declared.checked.Scalar.TheVariants as scalar
use Rattle.nx_checked.specs.declared.checked.CheckedExpr.TheVariants as expr
use Rattle.nx_checked.specs.Frames.{bytes_of}
use Rattle.nx_crules.specs.declared.types.CType.TheVariants as type
use Rattle.nx_crules.specs.declared.types.Function.{Function}
use Rattle.nx_crules.specs.declared.types.Typed.{Typed}
use Rattle.nx_crules.specs.declared.types.Target.{Target}
use Rattle.nx_crules.specs.declared.types.Target.TheVariants as target
use Rattle.nx_crules.specs.Types.{type_of}
use Rattle.nx_crules.specs.Rules.{wrong, entry_function}
use Rattle.nx_ctype.specs.declared.names.Variable.{Variable}
use Rattle.nx_ctype.specs.declared.names.Variable.TheVariants as variable
use Rattle.nx_ctype.specs.declared.names.Names.{Names}

-- The variable that a name stands for: a parameter or local, else one of the file so far.
abbrev pub variable_of : Names → List ℕ → Option Variable
variable_of names name = option_or (lookup (bytes_eq name) names.locals) (lookup (bytes_eq name) names.globals)

-- A name of no variable: that of a function has no value, any other is unknown.
abbrev pub missing : Names → List ℕ → CKind
missing names name = if is_some (lookup (bytes_eq name) names.functions) then fault.TypeMismatch else fault.UnknownName

abbrev pub found : {A : Type 0} → (Variable → A) → CKind → Option Variable → Result A CKind
found view kind None = Err kind
found view kind (Some v) = Ok (view v)

-- A variable as a value: an array is the pointer to its first element.
abbrev pub value_of : Variable → Typed
value_of (variable.Scalar x h) = record { gives = type_of h; tree = expr.Read x }
value_of (variable.Array a s) = record { gives = type.Pointer s.element false; tree = expr.Array a }

-- A variable as what is written to.
abbrev pub target_of : Variable → Target
target_of (variable.Scalar x h) = target.Cell x h
target_of (variable.Array a s) = target.Array

-- A number.
abbrev pub number : ℕ → Typed
number n = record { gives = type.Int; tree = expr.Constant n }

-- The bytes of a variable, as a number of 32 bits.
abbrev pub scalar_bytes : Scalar → ℕ
scalar_bytes scalar.Int = 4
scalar_bytes scalar.Char = 1
scalar_bytes (scalar.Pointer w) = 4

abbrev pub bytes_in : Variable → ℕ
bytes_in (variable.Scalar x h) = scalar_bytes h.scalar
bytes_in (variable.Array a s) = bytes_of s % 2 ^ 32

-- A name as that argument: a local hides the function, and a variable of the file is none.
abbrev pub entry_named : Bool → Option Function → Bool → Result Typed CKind
entry_named true f global = wrong
entry_named false (Some f) global = entry_function f
entry_named false None true = wrong
entry_named false None false = Err fault.UnknownName

abbrev pub entry_rule : Names → List ℕ → Result Typed CKind
entry_rule names name =
    entry_named (is_some (lookup (bytes_eq name) names.locals)) (lookup (bytes_eq name) names.functions) (is_some (lookup (bytes_eq name) names.globals))

-- The place of a call among those that are used, and these with it.
abbrev pub with_call : Option ℕ → ℕ → List ℕ → ℕ × List ℕ
with_call (Some k) row calls = (k, calls)
with_call None row calls = (length calls, calls ++ row ∷ [])

abbrev pub enter : ℕ → List ℕ → ℕ × List ℕ
enter row calls = with_call (position (λ c. c == row) calls) row calls
