-- The build that a configuration chooses.
use Rattle.std.specs.Prelude.{ℕ, codes, nat_le, if◌then◌else◌, List, [], ◌∷◌, ◌++◌, Option, None, Some, Result, Ok, Err}
use Rattle.nx_base.specs.declared.build.Build.{Build}
use Rattle.nx_base.specs.declared.build.Build.TheVariants.{Flat, Protected, Kernel}
use Rattle.nx_config.specs.declared.fault.ConfigKind.TheVariants.{TwoBuilds, NoBuild}
use Rattle.nx_config.specs.declared.fault.ConfigFault.{ConfigFault}
use Rattle.nx_config.specs.declared.fault.ConfigFault.TheVariants as fault
use Rattle.nx_config.specs.declared.value.Value.{Value}
use Rattle.nx_config.specs.declared.value.Value.TheVariants.{Yes, Number, Text}
use Rattle.nx_config.specs.declared.value.Kept.{Kept}

-- a line, if its value is `y`
abbrev pub yes_at : ℕ → Option Value → Option ℕ
yes_at line (Some Yes) = Some line
yes_at line (Some (Number n)) = None
yes_at line (Some (Text text)) = None
yes_at line None = None

-- the line that gives a name `y`, if its last line does
abbrev pub yes_line : Option Kept → Option ℕ
yes_line None = None
yes_line (Some kept) = yes_at kept.line kept.value

-- a build with the line that chooses it, if one does
abbrev pub choice : Option ℕ → Build → List (ℕ × Build)
choice None build = []
choice (Some line) build = (line, build) ∷ []

-- the builds that are chosen, each with its line
abbrev pub choices : Option ℕ → Option ℕ → Option ℕ → List (ℕ × Build)
choices flat protected kernel = choice flat Flat ++ choice protected Protected ++ choice kernel Kernel

-- a choice among choices in order of lines
abbrev pub placed : ℕ × Build → List (ℕ × Build) → List (ℕ × Build)
placed c [] = c ∷ []
placed c (d ∷ ds) = if nat_le c.0 d.0 then c ∷ d ∷ ds else d ∷ placed c ds

-- choices in order of lines
abbrev pub in_order : List (ℕ × Build) → List (ℕ × Build)
in_order [] = []
in_order (c ∷ cs) = placed c (in_order cs)

-- the only choice; else the fault, at the second
abbrev pub only : List (ℕ × Build) → Result Build ConfigFault
only [] = Err (fault.Text 0 NoBuild)
only (c ∷ []) = Ok c.1
only (c ∷ d ∷ cs) = Err (fault.Text d.0 TwoBuilds)

-- the build that the last lines of the three names choose
unfoldable pub build_by : (List ℕ → Option Kept) → Result Build ConfigFault
build_by last =
    only (in_order (choices (yes_line (last (codes "CONFIG_BUILD_FLAT"))) (yes_line (last (codes "CONFIG_BUILD_PROTECTED"))) (yes_line (last (codes "CONFIG_BUILD_KERNEL")))))
