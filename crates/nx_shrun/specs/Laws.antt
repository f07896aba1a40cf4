-- What holds of the calls of each script.
use Rattle.std.specs.Prelude.{◌≡◌, ℕ, Bool, true, false, List, [], ◌∷◌, ◌++◌}
use Rattle.std.specs.List.{All}
use Rattle.nx_base.specs.Calls.{Reply}
use Rattle.nx_base.specs.declared.calls.KCall.{KCall}
use Rattle.nx_base.specs.declared.calls.KCall.TheVariants as kernel
use Rattle.nx_shtree.specs.Trees.{Item}
use Rattle.nx_shrun.specs.Calls.{Call, Fits, IsWellFormed, getpid, exit}
use Rattle.nx_shrun.specs.ShellCalls.{Shell, started, answered, after, call_made, shell_calls}

-- One list is another with more after it.
abbrev pub Begins : List Call → List Call → Type 0
Begins front whole = (more : List Call) × (whole ≡ front ++ more)

-- The last of a list of calls.
abbrev pub EndsIn : Call → List Call → Type 0
EndsIn q qs = (front : List Call) × (qs ≡ front ++ q ∷ [])

-- A reply brings one call, or the last call was the shell's end.
pub data Grows : List Call → List Call → Type 0 where
  OneMore : (qs : List Call) (q : Call) → Grows qs (qs ++ q ∷ [])
  HasEnded : (qs : List Call) (value : ℕ) → EndsIn (exit value) qs → Grows qs qs

-- The list begins with `getpid`, unless the script is empty.
abbrev pub FirstCallIsGetpid : Type 0
FirstCallIsGetpid = (x : Item) (xs : List Item) → shell_calls (x ∷ xs) [] ≡ getpid ∷ []

abbrev pub EmptyScriptsEnd : Type 0
EmptyScriptsEnd = (rs : List Reply) → shell_calls [] rs ≡ exit 0 ∷ []

-- Each reply brings one call.
abbrev pub OneCallForEachReply : Type 0
OneCallForEachReply = (script : List Item) (rs : List Reply) (r : Reply) → Grows (shell_calls script rs) (shell_calls script (rs ++ r ∷ []))

-- What was called stays.
abbrev pub EarlierCallsStay : Type 0
EarlierCallsStay = (script : List Item) (rs more : List Reply) → Begins (shell_calls script rs) (shell_calls script (rs ++ more))

-- The last call of the list is the one that the shell made last.
abbrev pub LastIsMade : Type 0
LastIsMade = (script : List Item) (rs : List Reply) → EndsIn (call_made (after (started script) rs)) (shell_calls script rs)

-- A call after which its thread goes on, and which starts no thread in its group.
abbrev pub goes_on_after : KCall → Bool
goes_on_after kernel.Exit = false
goes_on_after kernel.NxThreadExit = false
goes_on_after kernel.NxThread = false
goes_on_after other = true

pub record IsOrdinary (q : Call) : Type 0 where
  pub formed : IsWellFormed q
  pub returns : goes_on_after q.which ≡ true

-- Each reply fits the call that it answers.
abbrev pub AllFit : Shell → List Reply → Type 0
AllFit s [] = Unit {0}
AllFit s (r ∷ rs) = Fits (call_made s) r × AllFit (answered s r) rs

-- A call is ordinary, or the shell's end.
pub data IsShellCall : Call → Type 0 where
  Goes : (q : Call) → IsOrdinary q → IsShellCall q
  Ends : (value : ℕ) → IsShellCall (exit value)

-- Each call is well formed, and no call but the last is the end.
pub record AreShellCalls (qs : List Call) : Type 0 where
  pub front : List Call
  pub last : Call
  pub whole : qs ≡ front ++ last ∷ []
  pub before : All IsOrdinary front
  pub at_last : IsShellCall last

abbrev pub CallsAreWellFormed : Type 0
CallsAreWellFormed = (script : List Item) (rs : List Reply) → AllFit (started script) rs → AreShellCalls (shell_calls script rs)
