-- What the code keeps of threads and groups, and what the definition keeps.
use Rattle.std.specs.Prelude.{◌≡◌, ◌≢◌, ℕ, Bool, true, false, ◌&&◌, ◌||◌, not, ◌==◌, List, Option, Some, None}
use Rattle.std.specs.Option.{is_some}
use Rattle.nx_ksys.specs.Answers as answers
use Rattle.nx_ksys.specs.declared.cooked.Cooked.{Cooked}
use Rattle.nx_shtree.specs.Trees.{Item}
use Rattle.nx_shrun.specs.AbstractRuns as runs
use Rattle.nx_shrun.specs.AbstractRuns.{Answer, Next, Asks, Ends, Wrong, Entry, Programs, Threads, at_number, put}
use Rattle.nx_guests.specs.declared.start.Start.{Start}
use Rattle.nx_guests.specs.declared.turn.Turn.{Turn}
use Rattle.nx_guests.specs.declared.turn.Turn.TheVariants as turn
use Rattle.nx_guests.specs.Kept.{found, seen}
use Rattle.nx_guests.specs.Turns.{IsTold}

abbrev pub start_of : Start → answers.Start
start_of s = record { thread = s.thread; group = s.group; program = s.program; slot = s.slot; is_thread = s.is_thread; fresh = s.fresh }

-- Under each number the code keeps what the definition keeps. Of threads it need not where the number isn't live.
pub record AreKept {A B G T : Type 0} (thread_of : A → T) (globals_of : B → G) (live : ℕ → Bool) (threads : List (Option A)) (globals : List (Option B)) (m : Threads G T) : Type 0 where
  pub thread : (n : ℕ) → live n ≡ true → at_number m.threads n ≡ seen thread_of (found threads n)
  pub group : (n : ℕ) → at_number m.globals n ≡ seen globals_of (found globals n)

-- But for one number, each that is live was live before.
abbrev pub LivesBut : ℕ → (ℕ → Bool) → (ℕ → Bool) → Type 0
LivesBut number before after = (n : ℕ) → n ≢ number → after n ≡ true → before n ≡ true

-- What a step leaves of the threads and the globals.
abbrev pub after_step : {G T W : Type 0} → Programs G T W → List Item → Threads G T → ℕ → ℕ → Answer G T W → Threads G T
after_step p script m number group (Next g t) = runs.moved p script m number group g t
after_step p script m number group (Asks c g t) = runs.moved p script m number group g t
after_step p script m number group (Ends value g) = record { threads = m.threads; globals = put group g m.globals }
after_step p script m number group (Wrong why) = m

-- A thread whose function ended isn't kept.
abbrev pub is_left : {F : Type 0} → Turn F → Bool
is_left turn.Next = true
is_left turn.Calls = true
is_left (turn.Ends value) = false
is_left (turn.Wrong why) = false

abbrev pub left_by : {F : Type 0} → Turn F → ℕ → (ℕ → Bool) → ℕ → Bool
left_by a number live n = live n && (is_left a || not (n == number))

-- Where the run goes on.
abbrev pub UnlessWrong : {F : Type 0} → Turn F → Type 0 → Type 0
UnlessWrong (turn.Wrong why) P = Unit {0}
UnlessWrong other P = P

-- A thread made the step of the definition.
pub record Stepped {F A B G T W : Type 0} (p : Programs G T W) (script : List Item) (thread_of : A → T) (globals_of : B → G) (fault_of : F → W) (live : ℕ → Bool) (number group program : ℕ) (m : Threads G T) (threads : List (Option A)) (globals : List (Option B)) (told : Cooked) (a : Turn F) : Type 0 where
  pub globals_before : G
  pub thread_before : T
  pub group_kept : at_number m.globals group ≡ Some globals_before
  pub thread_kept : at_number m.threads number ≡ Some thread_before
  pub globals_after : G
  pub thread_after : T
  pub answer : IsTold p.which fault_of a told globals_after thread_after (p.step program globals_before thread_before)
  pub kept : UnlessWrong a (AreKept thread_of globals_of (left_by a number live) threads globals (after_step p script m number group (p.step program globals_before thread_before)))

-- A thread, or its group, isn't kept.
pub record IsMissing {A B G T : Type 0} (thread_of : A → T) (globals_of : B → G) (live : ℕ → Bool) (number group : ℕ) (m : Threads G T) (threads : List (Option A)) (globals : List (Option B)) : Type 0 where
  pub missing : (is_some (at_number m.globals group) && is_some (at_number m.threads number)) ≡ false
  pub kept : AreKept thread_of globals_of live threads globals m

abbrev pub Steps : {F A B G T W : Type 0} → Programs G T W → List Item → (A → T) → (B → G) → (F → W) → (ℕ → Bool) → ℕ → ℕ → ℕ → Threads G T → List (Option A) → List (Option B) → Cooked → Option (Turn F) → Type 0
Steps p script thread_of globals_of fault_of live number group program m threads globals told None = IsMissing thread_of globals_of live number group m threads globals
Steps p script thread_of globals_of fault_of live number group program m threads globals told (Some a) = Stepped p script thread_of globals_of fault_of live number group program m threads globals told a
