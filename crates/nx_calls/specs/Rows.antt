-- What a row of the call table says.
use Rattle.std.specs.Prelude.{◌≡◌, ℕ, ◌+◌, ◌<◌, ◌≤◌, Bool, true, false, not, ◌&&◌, ◌||◌, nat_le, nat_lt, if◌then◌else◌, List, [], ◌∷◌, All, length, map, codes, Option, None, Some, Result, Ok, Err}
use Rattle.std.specs.List.{filter, list_any}
use Rattle.std.specs.Str.{bytes_eq}
use lib.Pointwise.{pointwise}
use denote.Enum.Bare.{sameb}
use Rattle.nx_base.specs.contracts.calls.Kind.{the_type}
use Rattle.nx_base.specs.declared.calls.Kind.{Kind}
use Rattle.nx_base.specs.declared.calls.Kind.TheVariants.{Word, Text}
use Rattle.nx_base.specs.declared.calls.KCall.{KCall}
use Rattle.nx_base.specs.declared.calls.KCall.TheVariants.{Open}
use Rattle.nx_base.specs.KernelCalls.{kinds_of as kinds_of_call, call_named}
use Rattle.nx_conditions.specs.declared.condition.Condition.{Condition}
use Rattle.nx_conditions.specs.declared.meaning.Meaning.{Meaning}
use Rattle.nx_conditions.specs.Grammar.{IsCondition}
use Rattle.nx_conditions.specs.Value.{holds}
use Rattle.nx_base.specs.TextBytes.{is_identifier}
use Rattle.nx_calls.specs.declared.fault.CallsKind.{CallsKind}
use Rattle.nx_calls.specs.declared.fault.CallsKind.TheVariants.{FewFields, BadName, BadCondition, UnionType, BadType, TooManyParameters, NameTwice, Signature, Limit}
use Rattle.nx_calls.specs.declared.row.CallRow.{CallRow}
use Rattle.nx_calls.specs.declared.types.CallType.{CallType}
use Rattle.nx_calls.specs.Types.{is_union, type_of, is_bad}
use Rattle.nx_calls.specs.Kinds.{has_star, kinds_of}

-- a row or none, or what is wrong with it
abbrev pub Verdict : Type 0
Verdict = Result (Option CallRow) CallsKind

-- a name of C of at most 64 bytes
abbrev pub is_c_name : List ℕ → Bool
is_c_name name = is_identifier name && nat_le (length name) 64

-- a field that is no parameter
abbrev pub is_ellipsis : List ℕ → Bool
is_ellipsis field = bytes_eq field (codes "...")

-- the fields of parameters among those after the return type
abbrev pub parameters : List (List ℕ) → List (List ℕ)
parameters fields = filter (λ f. not (is_ellipsis f)) fields

abbrev pub same_kinds : List Kind → List Kind → Bool
same_kinds = pointwise (sameb the_type)

-- the kinds of a call's parameters: `open` may lack its third
unfoldable pub fits : KCall → List Kind → Bool
fits Open kinds = same_kinds kinds (kinds_of_call Open) || same_kinds kinds (Text ∷ Word ∷ [])
fits other kinds = same_kinds kinds (kinds_of_call other)

-- these kinds, where they are those of the call
abbrev pub fitting : KCall → Option (List Kind) → Option (List Kind)
fitting call None = None
fitting call (Some kinds) = if fits call kinds then Some kinds else None

-- the kinds of a row's parameters: each is a word where the kernel lacks the call; else they are by their types, and the row gives no pointer
unfoldable pub kinds_in : Option KCall → CallType → List CallType → Option (List Kind)
kinds_in None return_type types = Some (map (λ t. Word) types)
kinds_in (Some call) return_type types = if has_star return_type.actual then None else fitting call (kinds_of types)

-- a row of these kinds after others: the numbers begin with 16, and there are at most 512
abbrev pub numbered : List CallRow → List ℕ → CallType → Option (List Kind) → Verdict
numbered rows name return_type None = Err Signature
numbered rows name return_type (Some kinds) =
    if nat_lt (length rows) 512
    then Ok (Some (record {
      name = name;
      number = 16 + length rows;
      kinds = record { items = kinds };
      returns = not (bytes_eq return_type.actual (codes "void"));
      kernel = call_named name;
    }))
    else Err Limit

-- a row of these types after others
unfoldable pub typed : List CallRow → List ℕ → CallType → List CallType → Verdict
typed rows name return_type types =
    if is_bad return_type || list_any is_bad types then Err BadType
    else if nat_lt 6 (length types) then Err TooManyParameters
    else if list_any (λ row. bytes_eq name row.name) rows then Err NameTwice
    else numbered rows name return_type (kinds_in (call_named name) return_type types)

-- a row of this return type and these parameters, as fields, after others
unfoldable pub declared_row : List CallRow → List ℕ → List ℕ → List (List ℕ) → Verdict
declared_row rows name return_type types =
    if is_union return_type || list_any is_union types then Err UnionType
    else typed rows name (type_of return_type) (map type_of types)

-- what holds of the kinds of a row: they are those of the kernel's call, or all words where it has none
abbrev pub HasKinds : Option KCall → List Kind → Type 0
HasKinds None kinds = All (λ kind. kind ≡ Word) kinds
HasKinds (Some call) kinds = fits call kinds ≡ true

-- what holds of every row: its call is the kernel's of its name, and its kinds fit that call
pub record IsRow (row : CallRow) : Type 0 where
  pub kernel : row.kernel ≡ call_named row.name
  pub kinds : HasKinds row.kernel row.kinds.items

-- a text of at most 1,024 bytes is a condition that holds or not
pub record IsWorth (means : List ℕ → Option Meaning) (text : List ℕ) (b : Bool) : Type 0 where
  pub short : length text ≤ 1024
  pub tree : Condition
  pub read : IsCondition text tree
  pub holds : holds means tree ≡ b

-- a text is no condition
abbrev pub IsNoCondition : List ℕ → Type 0
IsNoCondition text = length text ≤ 1024 → (a : Condition) → IsCondition text a → ⊥

-- what the fields of a row say after other rows: name, header, condition, return type, parameters
pub data Says (means : List ℕ → Option Meaning) (rows : List CallRow) : List (List ℕ) → Verdict → Type 0 where
  FewerFields : (fields : List (List ℕ)) → length fields < 4 → Says means rows fields (Err FewFields)
  NoName : (name header condition return_type : List ℕ) (types : List (List ℕ)) → is_c_name name ≡ false →
      Says means rows (name ∷ header ∷ condition ∷ return_type ∷ types) (Err BadName)
  NoCondition : (name header condition return_type : List ℕ) (types : List (List ℕ)) → is_c_name name ≡ true → IsNoCondition condition →
      Says means rows (name ∷ header ∷ condition ∷ return_type ∷ types) (Err BadCondition)
  Left : (name header condition return_type : List ℕ) (types : List (List ℕ)) → is_c_name name ≡ true → IsWorth means condition false →
      Says means rows (name ∷ header ∷ condition ∷ return_type ∷ types) (Ok None)
  Taken : (name header condition return_type : List ℕ) (types : List (List ℕ)) → is_c_name name ≡ true → IsWorth means condition true →
      Says means rows (name ∷ header ∷ condition ∷ return_type ∷ types) (declared_row rows name return_type (parameters types))
