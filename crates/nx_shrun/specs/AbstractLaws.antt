-- What holds of each step of an abstract run.
use Rattle.std.specs.Prelude.{◌≡◌, ℕ, ◌+◌, ◌≤◌, List}
use Rattle.nx_ksys.specs.State.{KernelState}
use Rattle.nx_ksys.specs.Laws.{Begins}
use Rattle.nx_shtree.specs.Trees.{Item}
use Rattle.nx_shrun.specs.Systems.{System}
use Rattle.nx_shrun.specs.AbstractRuns.{Programs, Threads, Fine, run, run_step, IsOver}

-- At most one call was made, and what the console showed stays.
pub record IsOneCall (before after : KernelState) : Type 0 where
  pub least : before.calls ≤ after.calls
  pub most : after.calls ≤ before.calls + 1
  pub console : Begins before.console after.console

abbrev pub StepsMakeOneCall : (G T W : Type 0) → Type 0
StepsMakeOneCall G T W = (p : Programs G T W) (script : List Item) (s t : System (Threads G T)) → run_step p script (Fine s) ≡ Fine t → IsOneCall s.kernel t.kernel

-- A run that is ended or idle stays as it is.
abbrev pub OverRunsStay : (G T W : Type 0) → Type 0
OverRunsStay G T W = (p : Programs G T W) (script : List Item) (s : System (Threads G T)) (n : ℕ) → IsOver s → run p script n (Fine s) ≡ Fine s
