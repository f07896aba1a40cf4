-- The command `run`, of the programs that are built so far.
use Rattle.std.specs.Prelude.{◌≡◌, ℕ, List, [], ◌∷◌, Option}
use Rattle.nx_top.specs.declared.answer.Answer.{Answer}
use Rattle.nx_top.specs.declared.answer.Answer.TheVariants.{Done}
use Rattle.nx_top.specs.declared.report.Report.{Report}
use Rattle.nx_top.specs.CommandLine.{RunForm}
use Rattle.nx_top.specs.Examining.{Must, FlatConfiguration, WriteTable, WriteProgram, OneCommand}
use Rattle.nx_top.specs.Report.{report_pieces, stop_status}
use Rattle.nx_top.specs.first.Inputs.{HasProgram}
use Rattle.nx_top.specs.first.Program.{Program}
use Rattle.nx_top.specs.first.ReportOf.{IsReportOf}

-- the files are examined in the order config, calls, program, script
abbrev pub run_musts : RunForm → List (Option (List ℕ)) → List Must
run_musts form (config ∷ calls ∷ script ∷ program ∷ []) =
    FlatConfiguration form.config config ∷ WriteTable form.calls calls ∷ WriteProgram form.file program ∷ OneCommand form.name form.script script ∷ []
run_musts form _ = []

-- the report of a program, in three pieces
abbrev pub IsReportAnswer : List ℕ → Program → Answer → Type 0
IsReportAnswer name p a = (report : Report) × IsReportOf name p report × (a ≡ Done (stop_status report.stop) (report_pieces report))

abbrev pub Reports : RunForm → List (Option (List ℕ)) → Answer → Type 0
Reports form (config ∷ calls ∷ script ∷ program ∷ []) a = (p : Program) × HasProgram program p × IsReportAnswer form.name p a
Reports form _ a = ⊥
