-- What a call on what is open is told, as the state and the replies that it leaves.
use Rattle.std.specs.Prelude.{ℕ, Option, Some, None}
use Rattle.nx_ksys.specs.Descriptors.{Opened}
use Rattle.nx_ksys.specs.Answers.{Caller}
use Rattle.nx_objects.specs.declared.descriptors.Found.{Found}

-- a caller whose group stands at a place
abbrev pub at_place : Caller → ℕ → Caller
at_place c place = record c { place = place }

abbrev pub found_as : Option Found → Option Opened
found_as None = None
found_as (Some f) = Some (record { place = f.place; description = f.description })
