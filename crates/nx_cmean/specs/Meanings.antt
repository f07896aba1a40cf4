-- What a program does, whatever makes its steps.
use Rattle.std.specs.Prelude.{ℕ, zero, suc, if◌then◌else◌, nat_lt}
use Rattle.nx_base.specs.Calls.{Call, Reply}

-- The globals of a group, and one of its threads.
pub record Both (G T : Type 0) : Type 0 where
  pub globals : G
  pub thread : T

-- What one step of a thread answers. A thread ends by a call.
pub data Turn (G T : Type 0) : Type 0 where
  GoesOn : (g : G) (t : T) → Turn G T
  Makes : (c : Call) (g : G) (t : T) → Turn G T
  EndsBy : (c : Call) (g : G) → Turn G T
  GoesWrong : Turn G T

-- Where a thread comes to: it runs on, makes a call, ends by one, enters a function that needs more than its stack, or
-- goes wrong. The step that is under way is counted.
pub data Reach (G T : Type 0) : Type 0 where
  Still : (g : G) (t : T) (steps : ℕ) → Reach G T
  Calls : (c : Call) (g : G) (t : T) (steps : ℕ) → Reach G T
  Over : (c : Call) (g : G) (steps : ℕ) → Reach G T
  Full : (need steps : ℕ) → Reach G T
  Astray : (steps : ℕ) → Reach G T

-- A program: its threads, where each comes to in at most so many steps, and what a reply makes of one and of the globals.
pub record Meaning : Type 1 where
  pub Globals : Type 0
  pub Thread : Type 0
  pub main : Thread
  pub thread : Call → Thread
  pub run : ℕ → Globals → Thread → Reach Globals Thread
  pub reply : Globals → Thread → Reply → Both Globals Thread

abbrev pub later : {G T : Type 0} → Reach G T → Reach G T
later (Still g t n) = Still g t (suc n)
later (Calls c g t n) = Calls c g t (suc n)
later (Over c g n) = Over c g (suc n)
later (Full need n) = Full need (suc n)
later (Astray n) = Astray (suc n)

abbrev pub go_on : {G T : Type 0} → Turn G T → (G → T → Reach G T) → Reach G T
go_on (GoesOn g t) f = later (f g t)
go_on (Makes c g t) f = Calls c g t 1
go_on (EndsBy c g) f = Over c g 1
go_on GoesWrong f = Astray 1

abbrev pub within : {G T : Type 0} → ℕ → ℕ → Reach G T → Reach G T
within stack need r = if nat_lt stack need then Full need 1 else r

-- The run of at most so many steps, each within a stack of so many bytes. What a step needs is counted as it begins.
unfoldable pub run_of : {G T : Type 0} → (G → T → Turn G T) → (T → ℕ) → ℕ → ℕ → G → T → Reach G T
run_of step need stack zero g t = Still g t 0
run_of step need stack (suc n) g t = within stack (need t) (go_on (step g t) (run_of step need stack n))

-- Holds where the thread runs on.
abbrev pub WhereStill : {G T : Type 0} → Reach G T → Type 0 → Type 0
WhereStill (Still g t n) P = P
WhereStill (Calls c g t n) P = Unit {0}
WhereStill (Over c g n) P = Unit {0}
WhereStill (Full need n) P = Unit {0}
WhereStill (Astray n) P = Unit {0}
