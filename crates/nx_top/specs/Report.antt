-- The report of a run.
use Rattle.std.specs.Prelude.{ℕ, Bool, List, [], ◌∷◌, ◌++◌, length, codes, if◌then◌else◌}
use Rattle.std.specs.List.{flat_map}
use Rattle.std.specs.Fmt.{decimal}
use Rattle.sha2.specs.Sha256.{sha256}
use Rattle.hex.specs.Hex.{encode_lower}
use Rattle.nx_base.specs.declared.build.Build.{Build}
use Rattle.nx_base.specs.declared.build.Build.TheVariants.{Flat, Protected, Kernel}
use Rattle.nx_top.specs.declared.report.RunStop.{RunStop}
use Rattle.nx_top.specs.declared.report.RunStop.TheVariants.{Ended, Fuel, Stack, Pages, Idle}
use Rattle.nx_top.specs.declared.report.EndedGroup.{EndedGroup}
use Rattle.nx_top.specs.declared.report.Report.{Report}

abbrev pub build_name : Build → List ℕ
build_name Flat = codes "flat"
build_name Protected = codes "protected"
build_name Kernel = codes "kernel"

-- why a run stopped: its groups ended, the fuel, a stack and what it needs, page frames needed and free, nothing to wait for
abbrev pub stop_text : RunStop → List ℕ
stop_text Ended = codes "ended"
stop_text Fuel = codes "fuel"
stop_text (Stack group need) = codes "stack " ++ decimal group ++ 32 ∷ decimal need
stop_text (Pages need free) = codes "pages " ++ decimal need ++ 32 ∷ decimal free
stop_text Idle = codes "idle"

-- the exit status of a run that stopped so
abbrev pub stop_status : RunStop → ℕ
stop_status Ended = 0
stop_status Fuel = 5
stop_status (Stack group need) = 6
stop_status (Pages need free) = 7
stop_status Idle = 8

-- a line of the report that gives a number
abbrev pub number_line : List ℕ → ℕ → List ℕ
number_line name n = name ++ decimal n ++ 10 ∷ []

-- the image's bytes, where they are asked for
unfoldable pub hex_line : Bool → List ℕ → List ℕ
hex_line shown image = if shown then codes "image hex " ++ encode_lower image ++ 10 ∷ [] else []

-- the lines up to the console's bytes
unfoldable pub report_head : Report → List ℕ
report_head r =
    codes "build " ++ build_name r.build ++ 10 ∷ codes "image " ++ encode_lower (sha256 r.image) ++ 10 ∷ hex_line r.shown r.image
    ++ number_line (codes "console ") (length r.console)

-- the line of a group that ended: its number, its program's name, its status
unfoldable pub status_line : EndedGroup → List ℕ
status_line group = codes "status " ++ decimal group.number ++ 32 ∷ group.name ++ 32 ∷ decimal group.status ++ 10 ∷ []

-- the lines after the console's bytes
unfoldable pub report_tail : Report → List ℕ
report_tail r =
    10 ∷ codes "stop: " ++ stop_text r.stop ++ 10 ∷ number_line (codes "calls ") r.calls ++ number_line (codes "instructions ") r.instructions
    ++ flat_map status_line r.ended.items

-- a report is put in three pieces
abbrev pub report_pieces : Report → List (List ℕ)
report_pieces r = report_head r ∷ r.console ∷ report_tail r ∷ []
