-- The abstract run: each program's thread makes the steps of its meaning, each the step of one thread.
use Rattle.std.specs.Prelude.{◌≡◌, ◌⊎◌, ℕ, zero, suc, ◌<◌, ◌==◌, Bool, true, false, ◌&&◌, not, if◌then◌else◌, List, [], ◌∷◌, Option, Some, None}
use Rattle.nx_base.specs.Calls.{Reply}
use Rattle.nx_base.specs.Calls as base
use Rattle.nx_base.specs.declared.calls.KCall.{KCall}
use Rattle.nx_base.specs.declared.calls.KCall.TheVariants as kernel
use Rattle.nx_ksys.specs.State.{Limits, KernelState}
use Rattle.nx_ksys.specs.Boot.{booted}
use Rattle.nx_ksys.specs.Answers.{Start, Effect, Stays, EndsGroup, Begins}
use Rattle.nx_ksys.specs.Step.{step}
use Rattle.nx_ksys.specs.Picking.{Picked, picked}
use Rattle.nx_ksys.specs.declared.pick.Pick.{Pick}
use Rattle.nx_ksys.specs.declared.pick.Pick.TheVariants.{Run, Idle, Ended}
use Rattle.nx_ksys.specs.ThreadTable.{ThreadRow, threads}
use Rattle.nx_shtree.specs.Trees.{Item}
use Rattle.nx_shrun.specs.Calls.{Call}
use Rattle.nx_shrun.specs.Systems.{shell_thread, next_call, Guests, System, with_guests, told, responded}

-- What one step of a program's thread answers: it runs on, makes a call of the call table, ends its function, or is wrong for a reason.
pub data Answer (G T W : Type 0) : Type 0 where
  Next : (globals : G) (thread : T) → Answer G T W
  Asks : (call : base.Call) (globals : G) (thread : T) → Answer G T W
  Ends : (value : ℕ) (globals : G) → Answer G T W
  Wrong : (why : W) → Answer G T W

-- The globals of a group, and one of its threads.
pub record Both (G T : Type 0) : Type 0 where
  pub globals : G
  pub thread : T

-- Programs by their places: the globals of a new group, a thread of the main function, a thread that a call with these words starts, one step, what a reply leaves, whether it has globals, and whether it is no program of the language; the kernel's call at a number of the call table; and the reasons for the two wrong starts.
pub record Programs (G T W : Type 0) : Type 0 where
  pub first : ℕ → G
  pub main : ℕ → T
  pub thread : ℕ → List ℕ → T
  pub step : ℕ → G → T → Answer G T W
  pub reply : ℕ → G → T → Reply → Both G T
  pub has_globals : ℕ → Bool
  pub is_raw : ℕ → Bool
  pub which : ℕ → Option KCall
  pub shared : W
  pub raw : W

-- What is kept under numbers, the latest first.
pub record Entry (A : Type 0) : Type 0 where
  pub number : ℕ
  pub value : A

unfoldable pub at_number : {A : Type 0} → List (Entry A) → ℕ → Option A
at_number [] number = None
at_number (e ∷ es) number = if e.number == number then Some e.value else at_number es number

abbrev pub put : {A : Type 0} → ℕ → A → List (Entry A) → List (Entry A)
put number value es = record { number = number; value = value } ∷ es

-- The threads by their numbers, and the globals of groups by theirs.
pub record Threads (G T : Type 0) : Type 0 where
  pub threads : List (Entry T)
  pub globals : List (Entry G)

-- An abstract run goes on, or went wrong: why, and in which group.
pub data Abstract (S W : Type 0) : Type 0 where
  Fine : (s : S) → Abstract S W
  Astray : (why : W) (pid : ℕ) → Abstract S W

abbrev pub is_astray : {S W : Type 0} → Abstract S W → Bool
is_astray (Fine s) = false
is_astray (Astray why pid) = true

module _ {G T W : Type 0} (p : Programs G T W) (script : List Item) where
  abbrev pub moved : Threads G T → ℕ → ℕ → G → T → Threads G T
  moved m number group g t = record { threads = put number t m.threads; globals = put group g m.globals }

  -- A new group has globals of its own; a new thread has those of its group.
  abbrev pub begun : Threads G T → Start → List ℕ → Threads G T
  begun m start words =
      if start.is_thread then record { threads = put start.thread (p.thread start.program words) m.threads; globals = m.globals }
      else moved m start.thread start.group (p.first start.program) (p.main start.program)

  abbrev pub replied : Threads G T → ℕ → ℕ → Both G T → Threads G T
  replied m number group to = moved m number group to.globals to.thread

  abbrev pub reply_to : Threads G T → ThreadRow → Reply → Option G → Option T → Threads G T
  reply_to m row r None t = m
  reply_to m row r (Some g) None = m
  reply_to m row r (Some g) (Some t) = replied m r.thread row.group (p.reply row.program g t r)

  abbrev pub guests : Guests (Threads G T)
  guests = record {
    begin = begun;
    answer = λ m row r. reply_to m row r (at_number m.globals row.group) (at_number m.threads r.thread);
    finish = λ m group. m;
  }

  -- The reason why a start is wrong: the program is none of the language, or it has globals and a group of it lives.
  abbrev pub wrong_group : Start → Option W
  wrong_group start = if p.is_raw start.program then Some p.raw else (if p.has_globals start.program && not start.fresh then Some p.shared else None)

  abbrev pub wrong_start : Effect → Option W
  wrong_start Stays = None
  wrong_start (EndsGroup group) = None
  wrong_start (Begins start) = if start.is_thread then None else wrong_group start

  abbrev pub unless_wrong : Option W → ℕ → System (Threads G T) → Abstract (System (Threads G T)) W
  unless_wrong None pid s = Fine s
  unless_wrong (Some why) pid s = Astray why pid

  -- A thread of a group makes a call.
  abbrev pub calls : System (Threads G T) → ℕ → ℕ → Option KCall → List ℕ → List (List ℕ) → Abstract (System (Threads G T)) W
  calls s number pid which words inputs = let res = step s.kernel number which words inputs in unless_wrong (wrong_start res.effect) pid (responded guests s res words)

  -- A main function ends by `_exit`, a thread's function by `nx_thread_exit`.
  abbrev pub last_call : ThreadRow → ℕ → KCall
  last_call row number = if number == row.group then kernel.Exit else kernel.NxThreadExit

  abbrev pub word : ℕ → List ℕ
  word n = n ∷ 0 ∷ 0 ∷ 0 ∷ 0 ∷ 0 ∷ []

  abbrev pub acted : System (Threads G T) → ℕ → ThreadRow → Answer G T W → Abstract (System (Threads G T)) W
  acted s number row (Next g t) = Fine (with_guests s (moved s.guests number row.group g t))
  acted s number row (Asks c g t) = calls (with_guests s (moved s.guests number row.group g t)) number row.group (p.which c.number) c.words c.inputs
  acted s number row (Ends value g) = calls (with_guests s (record { threads = s.guests.threads; globals = put row.group g s.guests.globals })) number row.group (Some (last_call row number)) (word value) []
  acted s number row (Wrong why) = Astray why row.group

  abbrev pub steps : System (Threads G T) → ℕ → ThreadRow → Option G → Option T → Abstract (System (Threads G T)) W
  steps s number row None t = Fine s
  steps s number row (Some g) None = Fine s
  steps s number row (Some g) (Some t) = acted s number row (p.step row.program g t)

  abbrev pub guest_turn : System (Threads G T) → ℕ → Option ThreadRow → Abstract (System (Threads G T)) W
  guest_turn s number None = Fine s
  guest_turn s number (Some row) = steps s number row (at_number s.guests.globals row.group) (at_number s.guests.threads number)

  abbrev pub shell_turn : System (Threads G T) → Call → Abstract (System (Threads G T)) W
  shell_turn s c = calls s shell_thread shell_thread (Some c.which) c.words c.inputs

  -- The chosen thread's turn: the shell makes its next call, any other thread one step.
  unfoldable pub turn : System (Threads G T) → ℕ → Abstract (System (Threads G T)) W
  turn s number = if number == shell_thread then shell_turn s (next_call script s.said) else guest_turn s number (threads s.kernel number)

  abbrev pub with_kernel : System (Threads G T) → KernelState → System (Threads G T)
  with_kernel s k = record { kernel = k; said = s.said; effects = s.effects; guests = s.guests }

  abbrev pub chosen : System (Threads G T) → Picked → Pick → Abstract (System (Threads G T)) W
  chosen s choice (Run number) = turn (told guests (with_kernel s choice.to) choice.replies) number
  chosen s choice Idle = Fine s
  chosen s choice Ended = Fine s

  -- One step. A run that is ended, idle or wrong stays as it is.
  unfoldable pub run_step : Abstract (System (Threads G T)) W → Abstract (System (Threads G T)) W
  run_step (Fine s) = chosen s (picked s.kernel) (picked s.kernel).pick
  run_step (Astray why pid) = Astray why pid

  -- The state after so many steps.
  unfoldable pub run : ℕ → Abstract (System (Threads G T)) W → Abstract (System (Threads G T)) W
  run zero a = a
  run (suc n) a = run n (run_step a)

  -- No step goes wrong; no step up to and with call d does.
  abbrev pub IsPrivate : System (Threads G T) → Type 0
  IsPrivate a = (n : ℕ) → is_astray (run n (Fine a)) ≡ false

  abbrev pub IsPrivateTo : ℕ → System (Threads G T) → Type 0
  IsPrivateTo d a = (n : ℕ) (s : System (Threads G T)) → run n (Fine a) ≡ Fine s → s.kernel.calls < d → is_astray (run_step (Fine s)) ≡ false

  -- s is the state after n steps, right after a call, or the first: each earlier state has fewer calls.
  pub record IsAfterCall (a : System (Threads G T)) (n : ℕ) (s : System (Threads G T)) : Type 0 where
    pub state : run n (Fine a) ≡ Fine s
    pub earlier : (m : ℕ) (before : System (Threads G T)) → m < n → run m (Fine a) ≡ Fine before → before.kernel.calls < s.kernel.calls

-- A run is ended, or idle.
abbrev pub IsEnded : {M : Type 0} → System M → Type 0
IsEnded s = (picked s.kernel).pick ≡ Ended

abbrev pub IsIdle : {M : Type 0} → System M → Type 0
IsIdle s = (picked s.kernel).pick ≡ Idle

abbrev pub IsOver : {M : Type 0} → System M → Type 0
IsOver s = IsEnded s ⊎ IsIdle s

-- The system at boot: the shell alone lives.
abbrev pub first_system : {M : Type 0} → Limits → ℕ → List ℕ → List ℕ → M → System M
first_system limits others input late m = record { kernel = booted limits others input late; said = []; effects = []; guests = m }

abbrev pub no_threads : {G T : Type 0} → Threads G T
no_threads = record { threads = []; globals = [] }
