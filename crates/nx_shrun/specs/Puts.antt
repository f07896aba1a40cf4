-- What the code puts of a command's plan.
use Rattle.std.specs.Prelude.{List, [], ◌∷◌, Option, None, Some}
use Rattle.nx_shrun.specs.declared.step.Ending.{Ending}
use Rattle.nx_shrun.specs.declared.step.Step.{Step}
use Rattle.nx_shrun.specs.Table.{Body}

-- How a command ends, if its arguments aren't bad, and its steps.
abbrev pub ending_of : Option Body → Option Ending
ending_of None = None
ending_of (Some b) = Some b.ending

abbrev pub steps_of : Option Body → List Step
steps_of None = []
steps_of (Some b) = b.steps
