-- What a step of the code comes to.
use Rattle.std.specs.Prelude.{◌≡◌, List, Option, Some, None}
use Rattle.nx_ksys.specs.State.{KernelState}
use Rattle.nx_shtree.specs.Trees.{Item}
use Rattle.nx_shrun.specs.Systems.{System}
use Rattle.nx_shrun.specs.AbstractRuns.{Threads, Abstract, Fine, Astray}
use Rattle.nx_shell.specs.declared.shell.Shell.{Shell}
use Rattle.nx_abstract.specs.declared.turning.Wrong.{Wrong}
use Rattle.nx_abstract.specs.Standing.{StandsFor, lives}

-- The definition goes on to a state for which the code stands.
pub record GoesOn {A B G T W : Type 0} (thread_of : A → T) (globals_of : B → G) (script : List Item) (k : KernelState) (shell : Shell) (kept : List (Option A)) (globals : List (Option B)) (a : Abstract (System (Threads G T)) W) : Type 0 where
  pub state : System (Threads G T)
  pub is : a ≡ Fine state
  pub stands : StandsFor thread_of globals_of script (lives k) k shell kept globals state

-- So it does, or it goes wrong there and for that reason.
abbrev pub Comes : {F A B G T W : Type 0} → (A → T) → (B → G) → (F → W) → List Item → KernelState → Shell → List (Option A) → List (Option B) → Option (Wrong F) → Abstract (System (Threads G T)) W → Type 0
Comes thread_of globals_of fault_of script k shell kept globals None a = GoesOn thread_of globals_of script k shell kept globals a
Comes thread_of globals_of fault_of script k shell kept globals (Some w) a = a ≡ Astray (fault_of w.why) w.pid
