-- What the names of a configuration mean in conditions.
use Rattle.std.specs.Prelude.{ℕ, List, Option, None, Some}
use Rattle.nx_conditions.specs.declared.meaning.Meaning.{Meaning}
use Rattle.nx_conditions.specs.declared.meaning.Meaning.TheVariants as meaning
use Rattle.nx_config.specs.declared.value.Value.{Value}
use Rattle.nx_config.specs.declared.value.Value.TheVariants as value
use Rattle.nx_config.specs.Configuration.{Configuration, last_in, value_kept}
use Rattle.nx_config.specs.Tables.{value_in}

-- what a value means
abbrev pub meaning_of : Option Value → Option Meaning
meaning_of None = None
meaning_of (Some value.Yes) = Some meaning.Yes
meaning_of (Some (value.Number n)) = Some (meaning.Number n)
meaning_of (Some (value.Text text)) = Some meaning.Other

-- what a name means
abbrev pub meaning_in : Configuration → List ℕ → Option Meaning
meaning_in configuration name = meaning_of (value_kept (value_in configuration.values name))

-- what a name means by the text of a configuration
abbrev pub meaning_by : List ℕ → List ℕ → Option Meaning
meaning_by text name = meaning_of (value_kept (last_in text name))
