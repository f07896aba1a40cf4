-- A table of names.
use Rattle.std.specs.Prelude.{ℕ, List, map, Option}
use Rattle.std.specs.Global.{Vec}
use Rattle.std.specs.Map.{lookup}
use Rattle.std.specs.Str.{bytes_eq}

-- the entries by their names' bytes
abbrev pub named : {V : Type 0} → List (Vec ℕ × V) → List (List ℕ × V)
named es = map (λ e. (e.0.items, e.1)) es

-- what a table has for a name
abbrev pub value_in : {V : Type 0} → List (List ℕ × V) → List ℕ → Option V
value_in es name = lookup (bytes_eq name) es
