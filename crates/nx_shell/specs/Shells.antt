-- A shell of the code, where the definition's shell is.
use Rattle.std.specs.Prelude.{◌≡◌, ℕ, zero, suc, ◌≤◌, ◌==◌, if◌then◌else◌, List, length, map, Option, None, Some}
use Rattle.nx_base.specs.Calls.{Reply}
use Rattle.nx_shtree.specs.declared.tree.Simple.{Simple}
use Rattle.nx_shrun.specs.declared.step.Ending.{Ending}
use Rattle.nx_shrun.specs.declared.step.Ending.TheVariants.{Status, Exit}
use Rattle.nx_shrun.specs.Calls.{Call, getpid, exit}
use Rattle.nx_shrun.specs.Places.{Node, place_of, node_at, Has, Coded}
use Rattle.nx_shrun.specs.ShellCalls as s
use Rattle.nx_shrun.specs.ShellCalls.{Shell, Ended, answered, call_made}
use Rattle.nx_ksys.specs.declared.cooked.Cooked.{Cooked}
use Rattle.nx_shstep.specs.Made.{Tells}
use Rattle.nx_shell.specs.declared.shell.Shell as rust_shell
use Rattle.nx_shell.specs.declared.walk.Stage.TheVariants as stage
use Rattle.nx_shell.specs.Kept.{all_words}
use Rattle.nx_shell.specs.Walks.{IsThere, IsSteady, IsFit}

-- The nodes of a table.
abbrev pub table_of : rust_shell.Shell → List (Option Node)
table_of x = map place_of x.nodes.items

-- The code stands at the command under way, with what remains behind it, or it has ended.
abbrev pub IsAt : rust_shell.Shell → Shell → Type 0
IsAt x (s.At status c background a b d) =
    (u : ℕ) × (v : ℕ) × Has (table_of x) x.at c background u v × Coded (table_of x) a u 0 × Coded (table_of x) b v 0 × (x.status ≡ status) × IsThere c x.walk d
IsAt x (Ended value) = (x.at ≡ 0) × (x.walk.command.call ≡ exit value)

-- Where the definition's shell was, it is after a reply where the definition says.
abbrev pub Answers : rust_shell.Shell → rust_shell.Shell → Reply → Type 0
Answers old new r = (x : Shell) → IsAt old x → IsAt new (answered x r)

-- The kernel is told the call that the definition's shell made last.
abbrev pub Shows : rust_shell.Shell → Cooked → Type 0
Shows x told = (y : Shell) → IsAt x y → Tells (call_made y) told

-- There is room for the words of each command of a table.
abbrev pub HaveRoom : List (Option Node) → ℕ → Type 0
HaveRoom ns room = (t : ℕ) (n : Node) → node_at ns t ≡ Some n → length (all_words n.c) ≤ room

abbrev pub command_in : Option Node → Option Simple
command_in None = None
command_in (Some n) = Some n.c

-- A shell has room for what it does.
pub record IsReady (x : rust_shell.Shell) : Type 0 where
  pub steady : IsSteady x.walk
  pub fit : IsFit x.walk.stage x.walk
  pub room : HaveRoom (table_of x) x.walk.filling.words.room

-- The call of a shell that has come to a place.
abbrev pub came_call : ℕ → ℕ → Call
came_call zero status = exit status
came_call (suc i) status = getpid

-- A shell came to a place with a status.
pub record Came (old new : rust_shell.Shell) (to now : ℕ) : Type 0 where
  pub nodes : new.nodes.items ≡ old.nodes.items
  pub at : new.at ≡ to
  pub status : new.status ≡ now
  pub call : new.walk.command.call ≡ came_call to now
  pub starts : new.walk.stage ≡ stage.Starts

-- It left with a value.
pub record Left (old new : rust_shell.Shell) (value : ℕ) : Type 0 where
  pub nodes : new.nodes.items ≡ old.nodes.items
  pub at : new.at ≡ 0
  pub call : new.walk.command.call ≡ exit value
  pub starts : new.walk.stage ≡ stage.Starts

-- The place behind a command.
abbrev pub place_after : ℕ → Node → ℕ
place_after status n = if status == 0 then n.at_zero else n.at_other

-- What the end of the command at a node leads to.
abbrev pub Ends : rust_shell.Shell → rust_shell.Shell → Ending → Type 0
Ends old new (Status status) = (n : Node) → node_at (table_of old) old.at ≡ Some n → Came old new (place_after status n) status
Ends old new (Exit value) = Left old new value
