-- What is said of a function's code.
use Rattle.std.specs.Prelude.{◌≡◌, ℕ, ◌*◌, Bool, List, [], ◌∷◌, length}
use Rattle.nx_rv.specs.declared.inst.Inst.{Inst}
use Rattle.nx_rv.specs.Table.{IsInRange}
use Rattle.nx_slot.specs.declared.op.SlotOp.{SlotOp}
use Rattle.nx_slot.specs.declared.program.SlotFunction.{SlotFunction}
use Rattle.nx_codegen.specs.Addresses.{Links, no_links}
use Rattle.nx_codegen.specs.Frames.{IsFunction}
use Rattle.nx_codegen.specs.Code.{operation_code, size_of, code_of}
use Rattle.nx_codegen.specs.Refs.{refs_of, filled}
use Rattle.nx_codegen.specs.Cells.{AllHaveCells}

abbrev pub AllFit : List Inst → Type 0
AllFit [] = Unit {0}
AllFit (i ∷ is) = IsInRange i × AllFit is

-- An operation takes as many instructions wherever it stands, and whatever a link gives.
abbrev pub TakesTheSame : Type 0
TakesTheSame = (l : Links) (near : Bool) (g : SlotFunction) (there : ℕ → ℕ) (here at : ℕ) (o : SlotOp) → 4 * length (operation_code l near g there here at o) ≡ size_of near g o

-- Each instruction's fields fit its word.
abbrev pub FitTheirWords : Type 0
FitTheirWords = (l : Links) (g : SlotFunction) → IsFunction g → AllHaveCells g g.ops → AllFit (code_of l g)

-- What is emitted, with its refs filled in, is the code.
abbrev pub FilledIn : Type 0
FilledIn = (l : Links) (g : SlotFunction) → filled l (refs_of g) (code_of no_links g) ≡ code_of l g
