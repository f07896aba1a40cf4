-- What a report tells of its program. nx_system will take its place.
use Rattle.std.specs.Prelude.{◌≡◌, ℕ, ◌+◌, ◌*◌, false, List, [], ◌∷◌, length, map, codes, Ok}
use Rattle.nx_base.specs.declared.build.Build.TheVariants.{Flat}
use Rattle.nx_calls.specs.declared.row.CallRow.{CallRow}
use Rattle.nx_calls.specs.Meanings.{meaning_by}
use Rattle.nx_calls.specs.Table.{IsTable}
use Rattle.nx_gate.specs.declared.gate.Gate.{Gate}
use Rattle.nx_gate.specs.Gates.{gate_of}
use Rattle.nx_ram.specs.declared.prog_image.ProgImage.{ProgImage}
use Rattle.nx_top.specs.declared.first.guest.GuestRun.{GuestRun}
use Rattle.nx_top.specs.declared.report.Report.{Report}
use Rattle.nx_top.specs.declared.report.RunStop.TheVariants.{Ended}
use Rattle.nx_top.specs.first.Layout.{ram_bytes}
use Rattle.nx_top.specs.first.Inputs.{config_text, calls_text}
use Rattle.nx_top.specs.first.Program.{Program}
use Rattle.nx_top.specs.first.IsCompiled.{IsLaidOut}
use Rattle.nx_top.specs.Image.{bytes_of_image}
use Rattle.nx_top.specs.first.BootedRuns.{IsBooted, Keeps}
use Rattle.nx_top.specs.first.ExpectedRuns.{joined}

-- the run of an image's words: it wrote the program's strings, and ended with its status
pub record IsRunOf (image : ProgImage) (p : Program) (run : GuestRun) : Type 0 where
  pub ram : List ℕ
  pub booted : IsBooted image ram
  pub console : run.console ≡ joined p.writes
  pub writes : run.writes ≡ length p.writes
  pub status : run.status ≡ p.status
  pub instructions : run.instructions ≡ 6 + 11 * length p.writes

-- the gates of the table that was read
abbrev pub AreGatesRead : List Gate → Type 0
AreGatesRead gates = (rows : List CallRow) × IsTable (meaning_by config_text) calls_text (Ok rows) × (gates ≡ map gate_of rows)

-- the report is that of an image whose words keep the program. The shell makes four calls, of one
-- instruction each: it asks for its number, starts the program, waits for it, and ends; the
-- program makes its writes, and ends. The program is group 2, and the shell, group 1, ends with its status
pub record IsReportOf (name : List ℕ) (p : Program) (report : Report) : Type 0 where
  pub image : ProgImage
  pub laid_out : IsLaidOut image name
  pub gates : List Gate
  pub read : AreGatesRead gates
  pub built : report.build ≡ Flat
  pub unshown : report.shown ≡ false
  pub bytes : report.image ≡ bytes_of_image Flat ram_bytes gates (image ∷ [])
  pub made : ℕ
  pub keeps : Keeps image p made
  pub ram : List ℕ
  pub booted : IsBooted image ram
  pub console : report.console ≡ joined p.writes
  pub stopped : report.stop ≡ Ended
  pub calls : report.calls ≡ 5 + length p.writes
  pub instructions : report.instructions ≡ made + 4
  pub groups : report.ended.items ≡ record { number = 2; name = name; status = p.status } ∷ record { number = 1; name = codes "nsh"; status = p.status } ∷ []
