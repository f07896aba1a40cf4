-- The functions that a file defines, each known in the whole file by its first definition.
use Rattle.std.specs.Prelude.{ℕ, suc, Bool, true, false, List, [], ◌∷◌, map, Option, None, Some, is_some, if◌then◌else◌}
use Rattle.std.specs.Map.{lookup}
use Rattle.std.specs.Str.{bytes_eq}
use Rattle.indexmap.specs.IndexMap.{insert_entry}
use Rattle.nx_ctree.specs.declared.program.TypeWord.{TypeWord}
use Rattle.nx_ctree.specs.declared.program.TypeWord.TheVariants as word
use Rattle.nx_ctree.specs.declared.program.Param.{Param}
use Rattle.nx_ctree.specs.declared.program.Params.{Params}
use Rattle.nx_ctree.specs.declared.program.Params.TheVariants as params
use Rattle.nx_ctree.specs.declared.program.Rest.{Rest}
use Rattle.nx_ctree.specs.declared.program.Rest.TheVariants as form
use Rattle.nx_ctree.specs.declared.program.External.{External}
use Rattle.nx_checked.specs.declared.checked.Scalar.TheVariants as scalar
use Rattle.nx_crules.specs.declared.types.Held.{Held}
use Rattle.nx_crules.specs.declared.types.Function.{Function}
use Rattle.nx_cbody.specs.Declarations.{held_of}

abbrev pub listed : Params → List Param
listed params.Empty = []
listed params.Void = []
listed (params.Listed ps) = ps

abbrev pub returns_of : TypeWord → Bool
returns_of word.Void = false
returns_of _ = true

-- A parameter as the function's callers see it. One that is refused stands for a char.
abbrev pub seen : Option Held → Held
seen None = record { scalar = scalar.Char; constant = false }
seen (Some h) = h

abbrev pub heads : List Param → List Held
heads ps = map (λ p. seen (held_of p.base p.pointer)) ps

abbrev pub definition_of : Rest → Option (List Param)
definition_of (form.Function ps f) = Some (listed ps)
definition_of _ = None

abbrev pub with_function : ℕ → List (List ℕ × Function) → External → Option (List Param) → List (List ℕ × Function)
with_function n fs x None = fs
with_function n fs x (Some ps) =
    if is_some (lookup (bytes_eq x.name) fs) then fs else insert_entry bytes_eq fs x.name (record { place = n; returns = returns_of x.result; params = heads ps })

abbrev pub counted : ℕ → Option (List Param) → ℕ
counted n None = n
counted n (Some ps) = suc n

abbrev pub functions_from : ℕ → List (List ℕ × Function) → List External → List (List ℕ × Function)
functions_from n fs [] = fs
functions_from n fs (x ∷ xs) = functions_from (counted n (definition_of x.rest)) (with_function n fs x (definition_of x.rest)) xs
