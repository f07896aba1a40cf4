-- What is said of well-typed files and the slot code that they are lowered to.
use Rattle.std.specs.Prelude.{◌≡◌, ℕ, ◌<◌, ◌≤◌, All, List, length, Option}
use Rattle.nx_conditions.specs.declared.meaning.Meaning.{Meaning}
use Rattle.nx_calls.specs.declared.row.CallRow.{CallRow}
use Rattle.nx_calls.specs.Table.{AreRows, HaveRows}
use Rattle.nx_ctree.specs.declared.program.Unit.{Unit as File}
use Rattle.nx_checked.specs.declared.checked.Checked.{Checked}
use Rattle.nx_checked.specs.Frames.{bytes_of}
use Rattle.nx_ccheck.specs.TypedFiles.{IsFile}
use Rattle.nx_cmean.specs.Meaning.{fun_at}
use Rattle.nx_cmean.specs.Lowered.{LowersProgram}
use Rattle.nx_slot.specs.Meaning.{Code}
use Rattle.nx_keeps.specs.Programs.{slot_program}
use Rattle.nx_lower.specs.Sound.{SoundProgram}
use Rattle.nx_lower.specs.Programs.{source_program, SameGlobals}
use Rattle.nx_lowerexpr.specs.Sources.{source_of}
use Rattle.nx_lowering.specs.Programs.{HasFrames, lowered_program}
use Rattle.nx_sound.specs.Tables.{table_rows, HasFewParameters}

-- A table that was read has at most six parameters a row.
abbrev pub TablesHaveFewParameters : Type 0
TablesHaveFewParameters = (means : List ℕ → Option Meaning) (records : List (List (List ℕ))) (rows : List CallRow) → HaveRows means records rows → HasFewParameters rows

-- The bytes of each array are as many as its elements take.
abbrev pub HasBytes : Checked → Type 0
HasBytes p = All (λ a. length a.bytes ≡ bytes_of a.shape) p.arrays

-- What of a program its lowering rests on.
pub record IsSound (table : List CallRow) (p : Checked) : Type 0 where
  pub sound : SoundProgram (source_of p) (table_rows table)
  pub main : p.main < length p.functions
  pub no_parameters : length (fun_at (source_of p).program p.main).params ≡ 0
  pub frames : HasFrames p
  pub small : All (λ g. g.frame ≤ 1048576) p.functions
  pub bytes : HasBytes p

abbrev pub WellTypedFilesAreSound : Type 0
WellTypedFilesAreSound = (table : List CallRow) (file : File) (p : Checked) → AreRows table → HasFewParameters table → IsFile table file p → IsSound table p

-- The functions that a file is lowered to, with a table and a stack of so many bytes.
abbrev pub lowered_code : List CallRow → Checked → ℕ → Code
lowered_code table p stack = record { functions = (lowered_program p).functions; rows = table_rows table; stack = stack }

-- The slot code of a well-typed file keeps it: the same calls with the same words and bytes, the same end, the same need
-- of stack, at 64 instructions for each step at most.
abbrev pub WellTypedFilesAreKept : Type 0
WellTypedFilesAreKept = (table : List CallRow) (file : File) (p : Checked) (stack : ℕ) → AreRows table → HasFewParameters table → IsFile table file p
    → LowersProgram (source_program (source_of p) (table_rows table) p.main stack) (slot_program (lowered_code table p stack) (lowered_program p).main) (table_rows table) (SameGlobals (source_of p)) (λ c d. d ≡ c) 64
