-- What a call of a thread leaves: which threads live, and the shell's call.
use Rattle.std.specs.Prelude.{◌≡◌, ◌≢◌, ℕ, Bool, true, List, Some}
use Rattle.nx_base.specs.Calls.{Reply}
use Rattle.nx_ksys.specs.State.{KernelState}
use Rattle.nx_ksys.specs.Answers.{Effect, Stays, EndsGroup, Begins}
use Rattle.nx_ksys.specs.ThreadTable.{threads}
use Rattle.nx_ksys.specs.TableLaws.{is_last}
use Rattle.nx_ksys.specs.declared.cooked.Cooked.{Cooked}
use Rattle.nx_shrun.specs.Calls.{Call}
use Rattle.nx_shrun.specs.Systems.{shell_thread}
use Rattle.nx_guests.specs.Guests.{LivesBut}
use Rattle.nx_abstract.specs.Standing.{FitShell, Waits, NoneForShell, lives}

-- But for the thread that begins, each that is live was live before.
abbrev pub LivesAfter : Effect → (ℕ → Bool) → (ℕ → Bool) → Type 0
LivesAfter Stays before after = (n : ℕ) → after n ≡ true → before n ≡ true
LivesAfter (EndsGroup group) before after = (n : ℕ) → after n ≡ true → before n ≡ true
LivesAfter (Begins start) before after = LivesBut start.thread before after

-- A call is the shell's, or another thread's; then the shell's thread waits, if it does, in the call that the shell made last.
pub data IsBeside (k : KernelState) (thread : ℕ) (told : Cooked) (q : Call) : Type 0 where
  Own : thread ≡ shell_thread → told.call ≡ Some q.which → told.words ≡ q.words → IsBeside k thread told q
  Other : thread ≢ shell_thread → Waits (threads k) q → IsBeside k thread told q

-- The call's replies have room in the shell's call, in which the shell's thread waits after them, if it does; and each thread that lives was live before, but for one that begins, or whose last call it was.
pub record Leaves (old : KernelState) (thread : ℕ) (told : Cooked) (q : Call) (new : KernelState) (e : Effect) (rs : List Reply) : Type 0 where
  pub fits : FitShell q rs
  pub waits : (call : Call) → (NoneForShell rs → call ≡ q) → Waits (threads new) call
  pub alive : (live : ℕ → Bool) → ((n : ℕ) → lives old n ≡ true → (is_last told.call ≡ true → n ≢ thread) → live n ≡ true) → LivesAfter e live (lives new)
