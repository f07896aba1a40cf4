-- A program and its slot code, each by what its threads do.
use Rattle.std.specs.Prelude.{◌≡◌, ℕ, ◌<◌, if◌then◌else◌, List, [], length}
use Rattle.nx_base.specs.Calls.{Call, Rows}
use Rattle.nx_cobjects.specs.Groups.{Group}
use Rattle.nx_cmean.specs.Meaning.{thread, fun_at, first_thread}
use Rattle.nx_cmean.specs.Meanings.{Meaning}
use Rattle.nx_cmean.specs.Lowered.{LowersProgram}
use Rattle.nx_cmean.specs.Runs.{Running, running, first_word, second_word, meaning_of}
use Rattle.nx_slot.specs.Objects.{Object}
use Rattle.nx_keeps.specs.Programs.{may_begin, slot_program}
use Rattle.nx_lower.specs.Shown.{counts_of, statics_of}
use Rattle.nx_lower.specs.Code.{Source, counts}
use Rattle.nx_lower.specs.Bodies.{code_of}
use Rattle.nx_lower.specs.Sound.{SoundProgram}

-- The program that it is made of. A thread that begins by another call has no open call, and so is wrong.
abbrev pub source_thread : Source → Rows → Call → Running
source_thread s rows c =
    let f = first_word c.words in
    if may_begin (rows c.number).enters f (length s.program.functions) (length (fun_at s.program f).params) then running 2 (first_thread s.program f (second_word c.words)) else running 2 (thread [] [] [])

abbrev pub source_program : Source → Rows → ℕ → ℕ → Meaning
source_program s rows main stack = record (meaning_of s.program main stack) { thread = source_thread s rows }

-- The same globals: those of the program, as objects of slot code.
pub record SameGlobals (s : Source) (g : Group) (os : List Object) : Type 0 where
  pub counts : counts_of g ≡ counts s
  pub objects : os ≡ statics_of g

-- The slot code of a program makes the same calls, with the same words and bytes, and ends or fills its stack where the
-- program does, at costs of at most 64 times the steps. It makes no call that the program doesn't make.
abbrev pub LowersPrograms : Type 0
LowersPrograms =
    (s : Source) (rows : Rows) (main stack : ℕ) → SoundProgram s rows → main < length s.program.functions → length (fun_at s.program main).params ≡ 0
    → LowersProgram (source_program s rows main stack) (slot_program (code_of s rows stack) main) rows (SameGlobals s) (λ c d. d ≡ c) 64
