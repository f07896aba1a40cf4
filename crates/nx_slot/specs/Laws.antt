-- What is said of each step and of each run of slot code.
use Rattle.std.specs.Prelude.{◌≡◌, ℕ, ◌+◌, ◌*◌, ◌<◌, ◌≤◌, List, [], ◌∷◌, Some, slice_get}
use Rattle.nx_base.specs.Calls.{Call}
use Rattle.nx_slot.specs.declared.op.SlotOp.{SlotOp}
use Rattle.nx_slot.specs.declared.op.SlotOp.TheVariants as op
use Rattle.nx_slot.specs.declared.program.SlotFunction.{SlotFunction}
use Rattle.nx_slot.specs.Objects.{Value, Object}
use Rattle.nx_slot.specs.Costs.{words_of, cost_of}
use Rattle.nx_slot.specs.Meaning.{Code, SlotFrame, SlotState, SlotTurn, Goes, Requests, Finishes, Overflows, Fails, function_at, stack_need, put, cells_from, opened, delivered, act, step}
use Rattle.nx_slot.specs.Runs.{SlotReach, Going, Requested, Finished, Overflowed, Failed, dearer, run}
use Rattle.nx_slot.specs.Faults.{fault_of, fault_at}

-- A run that has come to its answer.
abbrev pub IsAnswered : SlotReach → Type 0
IsAnswered (Going s cost) = ⊥
IsAnswered (Requested c outputs s cost) = Unit {0}
IsAnswered (Finished n os cost) = Unit {0}
IsAnswered (Overflowed need cost) = Unit {0}
IsAnswered (Failed fault) = Unit {0}

-- However many more operations may be made, the answer is the same; and a run is its parts, one after another.
abbrev pub AnswersOnce : Type 0
AnswersOnce = (p : Code) (n m : ℕ) (s : SlotState) → n ≤ m → IsAnswered (run p n s) → run p m s ≡ run p n s

abbrev pub RunsInParts : Type 0
RunsInParts = (p : Code) (n m : ℕ) (s t : SlotState) (cost : ℕ) → run p n s ≡ Going t cost → run p (n + m) s ≡ dearer cost (run p m t)

-- A step goes wrong exactly where its operation's first unmet demand says so.
abbrev pub FaultsAreDemands : Type 0
FaultsAreDemands = (p : Code) (s : SlotState) → fault_of (step p s) ≡ fault_at p s.objects s.frames

-- The calls below the open one stay as they are: it goes on, enters another, or gives its value to the one that waits.
pub data IsAfter (below frames : List SlotFrame) : Type 0 where
  Stays : (f : SlotFrame) → frames ≡ f ∷ below → IsAfter below frames
  Enters : (h f : SlotFrame) → frames ≡ h ∷ f ∷ below → IsAfter below frames
  Leaves : (x : Value) → frames ≡ delivered below x → IsAfter below frames

abbrev pub LeavesBelow : List SlotFrame → SlotTurn → Type 0
LeavesBelow below (Goes s cost) = IsAfter below s.frames
LeavesBelow below (Requests c outputs s cost) = IsAfter below s.frames
LeavesBelow below (Finishes n os cost) = below ≡ []
LeavesBelow below (Overflows need cost) = Unit {0}
LeavesBelow below (Fails fault) = Unit {0}

abbrev pub ChangesTheOpenCall : Type 0
ChangesTheOpenCall = (p : Code) (f : SlotFrame) (below : List SlotFrame) (os : List Object) → LeavesBelow below (step p (record { frames = f ∷ below; objects = os }))

-- What waits for a value keeps its cells below the one that gets it, whatever the value.
pub record Survives (f w : SlotFrame) : Type 0 where
  pub function : w.function ≡ f.function
  pub place : w.place ≡ f.place + 1
  pub arrays : w.arrays ≡ f.arrays
  pub cells : (x : Value) (i : ℕ) → i < w.wants → slice_get (put w.cells w.wants x) i ≡ slice_get f.cells i
  pub value : (x : Value) → slice_get (put w.cells w.wants x) w.wants ≡ Some x

-- A function is entered with the values of cells, and its caller waits.
pub record Entered (f : SlotFrame) (below : List SlotFrame) (h first count : ℕ) (s : SlotState) : Type 0 where
  pub caller : SlotFrame
  pub frames : s.frames ≡ opened h (cells_from f.cells first count) ∷ caller ∷ below
  pub wants : caller.wants ≡ first
  pub survives : Survives f caller

abbrev pub CallersSurvive : Type 0
CallersSurvive =
    (p : Code) (below : List SlotFrame) (os : List Object) (g : SlotFunction) (f : SlotFrame) (c h first count : ℕ) (s : SlotState) (cost : ℕ) → act p below os g f c (op.Go h first count) ≡ Goes s cost → Entered f below h first count s

-- The kernel is asked, and the caller waits.
pub record Asked (f : SlotFrame) (below : List SlotFrame) (first : ℕ) (s : SlotState) : Type 0 where
  pub caller : SlotFrame
  pub frames : s.frames ≡ caller ∷ below
  pub wants : caller.wants ≡ first
  pub survives : Survives f caller

abbrev pub AskersSurvive : Type 0
AskersSurvive =
    (p : Code) (below : List SlotFrame) (os : List Object) (g : SlotFunction) (f : SlotFrame) (c number first count : ℕ) (call : Call) (outputs : List Value) (s : SlotState) (cost : ℕ) → act p below os g f c (op.Ask number first count) ≡ Requests call outputs s cost → Asked f below first s

-- An entry whose need is told: the frames of all open calls and its own, which are more than the stack.
abbrev pub IsTooMuch : Code → List SlotFrame → SlotTurn → Type 0
IsTooMuch p frames (Overflows need cost) = (h : ℕ) × (need ≡ (function_at p h).frame + stack_need p frames) × (p.stack < need)
IsTooMuch p frames (Goes s cost) = stack_need p frames ≤ p.stack → stack_need p s.frames ≤ p.stack
IsTooMuch p frames (Requests c outputs s cost) = stack_need p s.frames ≡ stack_need p frames
IsTooMuch p frames (Finishes n os cost) = Unit {0}
IsTooMuch p frames (Fails fault) = Unit {0}

abbrev pub EntriesNeedTheOpenCalls : Type 0
EntriesNeedTheOpenCalls = (p : Code) (s : SlotState) → IsTooMuch p s.frames (step p s)

-- The words that an operation sets to zero.
abbrev pub cleared : SlotFunction → SlotOp → ℕ
cleared g (op.Make k) = words_of (slice_get g.arrays k)
cleared g o = 0

abbrev pub CostsLittle : Type 0
CostsLittle = (g : SlotFunction) (o : SlotOp) → (1 ≤ cost_of g o) × (cost_of g o ≤ 30 + 3 * cleared g o)

-- n operations cost n at least.
abbrev pub CostsEach : Type 0
CostsEach = (p : Code) (n : ℕ) (s t : SlotState) (cost : ℕ) → run p n s ≡ Going t cost → n ≤ cost
