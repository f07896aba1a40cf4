-- The words of a compiled program keep the program.
use Rattle.std.specs.Prelude.{◌≡◌, ℕ, ◌<◌, length}
use Rattle.nx_cobjects.specs.Groups.{Group}
use Rattle.nx_cmean.specs.Meaning.{fun_at}
use Rattle.nx_cmean.specs.Homes.{Home}
use Rattle.nx_cmean.specs.Lowered.{home_of}
use Rattle.nx_shown.specs.Bytes.{Bytes}
use Rattle.nx_keeps.specs.Keeps.{KeepsProgram}
use Rattle.nx_lower.specs.Shown.{counts_of, statics_of}
use Rattle.nx_lower.specs.Code.{Source, counts}
use Rattle.nx_lower.specs.Bodies.{code_of}
use Rattle.nx_lower.specs.Sound.{SoundProgram}
use Rattle.nx_lower.specs.Programs.{source_program}
use Rattle.nx_placed.specs.Placing.{Placing, rows_of, Holds, home_of_slots, IsPlaced}

-- Bytes hold a group's globals where they hold them as objects of slot code.
pub record HoldsGlobals (s : Source) (d : Placing) (g : Group) (b : Bytes) : Type 0 where
  pub counts : counts_of g ≡ counts s
  pub holds : Holds d (statics_of g) b

abbrev pub home_of_source : Source → Placing → Home Group
home_of_source s d = home_of (home_of_slots d) (HoldsGlobals s d) (home_of_slots d).SameEntry

-- A checked program, whose slot code a link has placed, is kept: 64 instructions for each of its steps suffice.
abbrev pub WordsKeepPrograms : Type 0
WordsKeepPrograms =
    (s : Source) (d : Placing) (stack : ℕ) → SoundProgram s (rows_of d) → IsPlaced d → code_of s (rows_of d) stack ≡ d.program.code → d.main < length s.program.functions → length (fun_at s.program d.main).params ≡ 0
    → KeepsProgram (source_program s (rows_of d) d.main stack) (home_of_source s d) 64
