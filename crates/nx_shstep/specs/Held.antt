-- A command under way as the code holds it.
use Rattle.std.specs.Prelude.{◌≡◌, ℕ, ◌+◌, ◌≤◌, List, [], ◌∷◌, length, Option, Some, None}
use Rattle.nx_shrun.specs.declared.step.Ending.{Ending}
use Rattle.nx_shrun.specs.declared.step.Step.{Step}
use Rattle.nx_shrun.specs.declared.step.Step.TheVariants as step
use Rattle.nx_shrun.specs.declared.step.Awaits.{Awaits}
use Rattle.nx_shrun.specs.declared.step.Awaits.TheVariants as awaits
use Rattle.nx_shrun.specs.Calls.{Call}
use Rattle.nx_shrun.specs.Texts.{spaced}
use Rattle.nx_shstep.specs.Short.{AreShort}
use Rattle.nx_shrun.specs.Steps.{Running, Doing, Does, Outcome, Over, Goes, call_at}

-- The command, for how many words it has room, the call that it makes, what the reply is to, and the steps after that.
pub record Held : Type 0 where
  pub running : Running
  pub room : ℕ
  pub call : Call
  pub awaits : Awaits
  pub todo : List Step

abbrev pub doing_of : Held → Doing
doing_of h = Does h.call h.running h.awaits h.todo

-- A command is over, or makes a call.
abbrev pub outcome_of : Option Ending → Held → Outcome
outcome_of None h = Goes (doing_of h)
outcome_of (Some ending) h = Over ending

-- No word is too long, and all fit on a line.
pub record IsShort (g : Running) : Type 0 where
  pub words : AreShort g.words
  pub file : length g.file ≤ 255
  pub line : length (spaced g.words) ≤ 1024

-- How many steps a step leaves at most, with itself.
abbrev pub weight : Step → ℕ
weight step.Look = 2
weight other = 1

abbrev pub weights : List Step → ℕ
weights [] = 0
weights (s ∷ k) = weight s + weights k

-- How many descriptors steps open.
abbrev pub opens_one : Step → ℕ
opens_one (step.Redirect mode) = 1
opens_one (step.Open place) = 1
opens_one step.Create = 1
opens_one step.Keep = 1
opens_one other = 0

abbrev pub openings : List Step → ℕ
openings [] = 0
openings (s ∷ k) = opens_one s + openings k

-- A command has room for its steps, and for all that they open.
pub record IsReady (g : Running) (k : List Step) : Type 0 where
  pub short : IsShort g
  pub steps : weights k ≤ 4096
  pub opened : length g.opened + openings k ≤ 2048

-- The steps that are left, with the one whose call is made.
abbrev pub pending : Awaits → List Step → List Step
pending (awaits.Step s) k = s ∷ k
pending awaits.Output k = k
pending awaits.Message k = k

-- The call is that of its step.
abbrev pub IsOf : Call → Running → Awaits → Type 0
IsOf q g (awaits.Step s) = q ≡ call_at g s
IsOf q g awaits.Output = Unit {0}
IsOf q g awaits.Message = Unit {0}

pub record IsUnderWay (h : Held) : Type 0 where
  pub ready : IsReady h.running (pending h.awaits h.todo)
  pub of : IsOf h.call h.running h.awaits

-- A command that isn't over is under way.
abbrev pub IsHandled : Option Ending → Held → Type 0
IsHandled None h = IsUnderWay h
IsHandled (Some ending) h = Unit {0}
