-- A simple command as the code goes through it: it asks for the shell's number, expands the words, and makes the calls of its steps.
use Rattle.std.specs.Prelude.{◌≡◌, ℕ, Bool, List, [], map, Option, None, Some}
use Rattle.nx_base.specs.Calls.{Reply}
use Rattle.nx_shtree.specs.declared.tree.Mode.{Mode}
use Rattle.nx_shtree.specs.declared.tree.Redirection.{Redirection}
use Rattle.nx_shtree.specs.declared.tree.Simple.{Simple}
use Rattle.nx_shrun.specs.declared.step.Ending.{Ending}
use Rattle.nx_shrun.specs.Calls.{getpid, getenv}
use Rattle.nx_shrun.specs.Texts.{all_but_last, last_of}
use Rattle.nx_shrun.specs.Expansion.{Piece}
use Rattle.nx_shrun.specs.Steps.{Doing, Starts, Asks, Does, Outcome, Over, Goes}
use Rattle.nx_shrun.specs.ShellCalls.{command}
use Rattle.nx_shstep.specs.Held.{doing_of, IsUnderWay}
use Rattle.nx_shell.specs.declared.walk.Walk.{Walk}
use Rattle.nx_shell.specs.declared.walk.Stage.{Stage}
use Rattle.nx_shell.specs.declared.walk.Stage.TheVariants as stage
use Rattle.nx_shell.specs.Kept.{cut, rest_in, IsKept}

-- The code asks for the value of a name, where the definition does.
pub record IsAsking (c : Simple) (x : Walk) (name : List ℕ) (ws : List (List ℕ)) (w : List ℕ) (ps : List Piece) : Type 0 where
  pub at : x.stage ≡ stage.Asks
  pub call : x.command.call ≡ getenv name
  pub words : x.filling.words.words ≡ map cut ws
  pub word : x.filling.text ≡ cut w
  pub rest : rest_in c x.filling ≡ ps

pub record IsStarting (x : Walk) : Type 0 where
  pub at : x.stage ≡ stage.Starts
  pub call : x.command.call ≡ getpid

pub record IsDoing (x : Walk) (d : Doing) : Type 0 where
  pub at : x.stage ≡ stage.Does
  pub doing : doing_of x.command ≡ d

-- Where the code is, where the definition is.
abbrev pub IsThere : Simple → Walk → Doing → Type 0
IsThere c x Starts = IsStarting x
IsThere c x (Asks name words word rest) = IsAsking c x name words word rest
IsThere c x (Does q g a k) = IsDoing x (Does q g a k)

abbrev pub Comes : Simple → Option Ending → Walk → Outcome → Type 0
Comes c result x (Over ending) = result ≡ Some ending
Comes c result x (Goes d) = (result ≡ None) × IsThere c x d

-- The command that is under way has room.
abbrev pub IsFit : Stage → Walk → Type 0
IsFit stage.Starts x = Unit {0}
IsFit stage.Asks x = Unit {0}
IsFit stage.Does x = IsUnderWay x.command

pub record IsSteady (x : Walk) : Type 0 where
  pub kept : IsKept x.filling
  pub room : x.command.room ≡ x.filling.words.room

-- Where a command isn't over, the reply to its call has room.
abbrev pub StaysFit : Option Ending → Walk → Type 0
StaysFit None x = IsFit x.stage x
StaysFit (Some ending) x = Unit {0}

-- A reply leads the code to where it leads the definition.
abbrev pub Follows : Simple → Bool → ℕ → Walk → Option Ending → Walk → Reply → Type 0
Follows c background status old result new r = (d : Doing) → IsThere c old d → Comes c result new (command c background status d r)

-- The words that a command takes: with a redirection the last is that of its file.
abbrev pub handed_words : Option Redirection → List (List ℕ) → List (List ℕ)
handed_words None ws = ws
handed_words (Some r) ws = all_but_last ws

abbrev pub handed_file : Option Redirection → List (List ℕ) → List ℕ
handed_file None ws = []
handed_file (Some r) ws = last_of ws

abbrev pub mode_in : Option Redirection → Option Mode
mode_in None = None
mode_in (Some r) = Some r.mode
