-- What slot code asks of its function's cells.
use Rattle.std.specs.Prelude.{◌≡◌, ℕ, ◌%◌, ◌<◌, ◌≤◌, length}
use Rattle.nx_base.specs.Calls.{Rows}
use Rattle.nx_checked.specs.declared.checked.CheckedFunction.{CheckedFunction}
use Rattle.nx_checked.specs.Trees.{fun_of}
use Rattle.nx_cmean.specs.Meaning.{fun_at}
use Rattle.nx_slot.specs.declared.program.SlotFunction.{SlotFunction}
use Rattle.nx_codegen.specs.Cells.{AllHaveCells}
use Rattle.nx_codegen.specs.Frames.{array_from, words_end}
use Rattle.nx_lower.specs.Code.{Source}
use Rattle.nx_lower.specs.Bodies.{lower_fun}
use Rattle.nx_lower.specs.Sound.{SoundProgram}

-- A function's operations name its cells, at most six of which it hands on at once; its parameters are six cells at most.
pub record NamesItsCells (g : SlotFunction) : Type 0 where
  pub operations : AllHaveCells g g.ops
  pub params : g.params ≤ 6
  pub has_params : g.params ≤ g.locals

abbrev pub FunctionsNameTheirCells : Type 0
FunctionsNameTheirCells = (s : Source) (rows : Rows) (f : ℕ) → SoundProgram s rows → f < length s.program.functions → NamesItsCells (lower_fun s (fun_at s.program f))

-- A function's frame holds its cells and arrays, and is a multiple of 16 bytes.
pub record HoldsItsCells (g : SlotFunction) : Type 0 where
  pub aligned : g.frame % 16 ≡ 0
  pub holds : array_from g.arrays (words_end g) (length g.arrays) ≤ g.frame

abbrev pub FramesHoldTheirCells : Type 0
FramesHoldTheirCells = (s : Source) (f : CheckedFunction) → HoldsItsCells (lower_fun s (fun_of f))
