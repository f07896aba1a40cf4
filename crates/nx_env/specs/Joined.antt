-- Groups with their environments, which stand in a table of their own.
use Rattle.std.specs.Prelude.{ℕ, List, [], ◌∷◌, Option, Some, None, slice_get, unwrap_or}
use Rattle.nx_ksys.specs.State.{Group, KernelState}
use Rattle.nx_ksys.specs.Answers.{Caller}

-- variables, each a name with its value, in the order in which the names came
abbrev pub Variables : Type 0
Variables = List (List ℕ × List ℕ)

-- the variables of the group at a place
abbrev pub variables_at : List Variables → ℕ → Variables
variables_at table place = unwrap_or (slice_get table place) []

abbrev pub with_variables : Group → Variables → Group
with_variables g variables = record g { environment = variables }

abbrev pub joined_one : Variables → Option Group → Option Group
joined_one variables None = None
joined_one variables (Some g) = Some (with_variables g variables)

-- each group has the variables at its place
abbrev pub joined : List (Option Group) → List Variables → List (Option Group)
joined [] table = []
joined (g ∷ gs) [] = joined_one [] g ∷ joined gs []
joined (g ∷ gs) (v ∷ vs) = joined_one v g ∷ joined gs vs

-- a state with these groups
abbrev pub with_groups : KernelState → List (Option Group) → KernelState
with_groups k groups = record k { groups = groups }

-- a caller whose group has these variables
abbrev pub with_environment : Caller → Variables → Caller
with_environment c variables = record c { group = with_variables c.group variables }

-- a caller in a group at a place
abbrev pub in_group : Caller → ℕ → Group → Caller
in_group c place g = record c { place = place; group = g }
