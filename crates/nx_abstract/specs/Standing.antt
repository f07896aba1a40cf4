-- The code stands for a state of the definition.
use Rattle.std.specs.Prelude.{◌≡◌, ◌≢◌, ℕ, Bool, List, Option, Some, slice_get}
use Rattle.std.specs.Option.{is_some}
use Rattle.nx_base.specs.Calls.{Reply}
use Rattle.nx_base.specs.Replies.{FitsCall}
use Rattle.nx_base.specs.KernelCalls.{kinds_of}
use Rattle.nx_ksys.specs.State.{KernelState}
use Rattle.nx_ksys.specs.ThreadTable.{WaitingCall, ThreadRow, threads}
use Rattle.nx_ksys.specs.TableLaws.{Table, waiting, waiting_call}
use Rattle.nx_shtree.specs.Trees.{Item}
use Rattle.nx_shrun.specs.Calls.{Call}
use Rattle.nx_shrun.specs.ShellCalls.{started, after}
use Rattle.nx_shrun.specs.Laws.{AllFit}
use Rattle.nx_shrun.specs.Systems.{System, shell_thread}
use Rattle.nx_shrun.specs.AbstractRuns.{Threads}
use Rattle.nx_shell.specs.declared.shell.Shell.{Shell}
use Rattle.nx_shell.specs.Shells.{IsAt}
use Rattle.nx_guests.specs.Guests.{AreKept}

-- The numbers of the threads that there are.
abbrev pub lives : KernelState → ℕ → Bool
lives k n = is_some (threads k n)

-- Kernel, shell and threads of the code are those of a state: the shell got replies that fit, and the threads that live are kept.
pub record StandsFor {A B G T : Type 0} (thread_of : A → T) (globals_of : B → G) (script : List Item) (live : ℕ → Bool) (k : KernelState) (own : Shell) (kept : List (Option A)) (globals : List (Option B)) (s : System (Threads G T)) : Type 0 where
  pub kernel : s.kernel ≡ k
  pub shell : IsAt own (after (started script) s.said)
  pub fit : AllFit (started script) s.said
  pub guests : AreKept thread_of globals_of live kept globals s.guests

-- The shell's call has room for a reply.
abbrev pub HasRoom : Call → Reply → Type 0
HasRoom q r = FitsCall (kinds_of q.which) q.words r.outputs

-- The shell gets at most one of the replies, for which its call has room.
pub record FitShell (q : Call) (rs : List Reply) : Type 0 where
  pub room : (i : ℕ) (r : Reply) → slice_get rs i ≡ Some r → r.thread ≡ shell_thread → HasRoom q r
  pub once : (i j : ℕ) (r other : Reply) → slice_get rs i ≡ Some r → slice_get rs j ≡ Some other → r.thread ≡ shell_thread → other.thread ≡ shell_thread → i ≡ j

-- Where the shell's thread waits, it waits in the call that the shell made last.
abbrev pub Waits : Table → Call → Type 0
Waits t q = (x : ThreadRow) (c : WaitingCall) → t shell_thread ≡ Some (waiting x c) → c ≡ waiting_call (Some q.which) q.words

-- None of the replies is for the shell.
abbrev pub NoneForShell : List Reply → Type 0
NoneForShell rs = (i : ℕ) (r : Reply) → slice_get rs i ≡ Some r → r.thread ≢ shell_thread
