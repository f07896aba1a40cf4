-- An abstract run of the code, step by step.
use Rattle.std.specs.Prelude.{◌≡◌, ◌≤◌, ◌<◌, ℕ, Bool, true, false, List, [], Option, length}
use Rattle.nx_ksys.specs.State.{Limits, KernelState}
use Rattle.nx_ksys.specs.Boot.{booted}
use Rattle.nx_ksys.specs.Picking.{picked}
use Rattle.nx_ksys.specs.ThreadTable.{threads}
use Rattle.nx_ksys.specs.declared.pick.Pick.{Pick}
use Rattle.nx_ksys.specs.declared.pick.Pick.TheVariants.{Run, Idle, Ended}
use Rattle.nx_shtree.specs.Trees.{Item}
use Rattle.nx_shrun.specs.Systems.{System}
use Rattle.nx_shrun.specs.AbstractRuns.{Programs, Threads, Abstract, Fine, Astray, no_threads, run}
use Rattle.nx_shell.specs.declared.shell.Shell.{Shell}
use Rattle.nx_shell.specs.Shells.{IsReady}
use Rattle.nx_abstract.specs.declared.stop.Stop.{Stop}
use Rattle.nx_abstract.specs.declared.stop.Stop.TheVariants as stop
use Rattle.nx_abstract.specs.Standing.{StandsFor, Waits, lives}

-- A state in which a thread is chosen, so that a step is made.
abbrev pub Goes : {M : Type 0} → System M → Type 0
Goes s = (n : ℕ) × ((picked s.kernel).pick ≡ Run n)

abbrev pub MakesStep : {M W : Type 0} → Abstract (System M) W → Type 0
MakesStep (Fine s) = Goes s
MakesStep (Astray why pid) = ⊥

-- A run goes on where a thread is chosen; else it ended, or is idle.
abbrev pub IsPicked : {F : Type 0} → Stop F → Pick → Type 0
IsPicked stop.Steps pick = (n : ℕ) × (pick ≡ Run n)
IsPicked stop.Ended pick = pick ≡ Ended
IsPicked stop.Idle pick = pick ≡ Idle
IsPicked (stop.Wrong w) pick = ⊥

abbrev pub is_going : {F : Type 0} → Stop F → Bool
is_going stop.Steps = true
is_going stop.Ended = false
is_going stop.Idle = false
is_going (stop.Wrong w) = false

abbrev pub WhereGoing : {F : Type 0} → Stop F → Type 0 → Type 0
WhereGoing stop.Steps P = P
WhereGoing other P = Unit {0}

-- The definition has come to a state for which the code stands, and what is said of it holds.
pub record IsFineAt {F A B G T W : Type 0} (thread_of : A → T) (globals_of : B → G) (script : List Item) (k : KernelState) (shell : Shell) (kept : List (Option A)) (globals : List (Option B)) (stop : Stop F) (a : Abstract (System (Threads G T)) W) : Type 0 where
  pub state : System (Threads G T)
  pub is : a ≡ Fine state
  pub stands : StandsFor thread_of globals_of script (lives k) k shell kept globals state
  pub picks : IsPicked stop (picked state.kernel).pick

-- It has, or it went wrong there, in that group and for that reason.
abbrev pub StandsAt : {F A B G T W : Type 0} → (A → T) → (B → G) → (F → W) → List Item → KernelState → Shell → List (Option A) → List (Option B) → Stop F → Abstract (System (Threads G T)) W → Type 0
StandsAt thread_of globals_of fault_of script k shell kept globals (stop.Wrong w) a = a ≡ Astray (fault_of w.why) w.pid
StandsAt thread_of globals_of fault_of script k shell kept globals other a = IsFineAt thread_of globals_of script k shell kept globals other a

-- The code has come where the definition is after so many steps from a first state, and each earlier state made a step: so a run that ended, is idle or went wrong is there for the first time.
pub record HasCome {F A B G T W : Type 0} (thread_of : A → T) (globals_of : B → G) (fault_of : F → W) (p : Programs G T W) (script : List Item) (first : System (Threads G T)) (k : KernelState) (shell : Shell) (kept : List (Option A)) (globals : List (Option B)) (made : ℕ) (stop : Stop F) : Type 0 where
  pub at : StandsAt thread_of globals_of fault_of script k shell kept globals stop (run p script made (Fine first))
  pub earlier : (i : ℕ) → i < made → MakesStep (run p script i (Fine first))

-- The code stands for a state of a run, and has room for what comes. It made no more calls than steps.
pub record IsRunning {A B G T : Type 0} (thread_of : A → T) (globals_of : B → G) (k : KernelState) (shell : Shell) (kept : List (Option A)) (globals : List (Option B)) (most made : ℕ) : Type 0 where
  pub script : List Item
  pub state : System (Threads G T)
  pub stands : StandsFor thread_of globals_of script (lives k) k shell kept globals state
  pub ready : IsReady shell
  pub waits : Waits (threads k) shell.walk.command.call
  pub room : length k.sched.threads ≤ most
  pub calls : k.calls ≤ made

-- The kernel as it is at boot, and the first state of a run over it.
pub record IsBooted (k : KernelState) : Type 0 where
  pub limits : Limits
  pub others : ℕ
  pub input : List ℕ
  pub late : List ℕ
  pub is : k ≡ booted limits others input late

abbrev pub first_over : {G T : Type 0} → KernelState → System (Threads G T)
first_over k = record { kernel = k; said = []; effects = []; guests = no_threads }
