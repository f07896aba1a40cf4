-- What a thread of slot code comes to, and what a reply makes of it.
use Rattle.std.specs.Prelude.{ℕ, zero, suc, ◌+◌, List, [], ◌∷◌, ◌++◌, take, drop}
use Rattle.nx_base.specs.Calls.{Call}
use Rattle.nx_slot.specs.Objects.{Value, Int, Object}
use Rattle.nx_slot.specs.Calls.{with_outputs}
use Rattle.nx_slot.specs.Costs.{first_entry}
use Rattle.nx_slot.specs.Meaning.{Code, SlotState, state, SlotFault, SlotTurn, Goes, Requests, Finishes, Overflows, Fails, opened, entered, delivered, step}

-- Where it comes to, with the costs by then: it goes on, makes a call, is over, enters a function that needs more than
-- the stack, or goes wrong.
pub data SlotReach : Type 0 where
  Going : (s : SlotState) (cost : ℕ) → SlotReach
  Requested : (c : Call) (outputs : List Value) (s : SlotState) (cost : ℕ) → SlotReach
  Finished : (n : ℕ) (os : List Object) (cost : ℕ) → SlotReach
  Overflowed : (need cost : ℕ) → SlotReach
  Failed : (fault : SlotFault) → SlotReach

abbrev pub dearer : ℕ → SlotReach → SlotReach
dearer c (Going s cost) = Going s (c + cost)
dearer c (Requested call outputs s cost) = Requested call outputs s (c + cost)
dearer c (Finished n os cost) = Finished n os (c + cost)
dearer c (Overflowed need cost) = Overflowed need (c + cost)
dearer c (Failed fault) = Failed fault

abbrev pub then_on : SlotTurn → (SlotState → SlotReach) → SlotReach
then_on (Goes s cost) more = dearer cost (more s)
then_on (Requests c outputs s cost) more = Requested c outputs s cost
then_on (Finishes n os cost) more = Finished n os cost
then_on (Overflows need cost) more = Overflowed need cost
then_on (Fails fault) more = Failed fault

-- The first answer within n operations, or where these lead.
unfoldable pub run : Code → ℕ → SlotState → SlotReach
run p zero s = Going s 0
run p (suc n) s = then_on (step p s) (run p n)

-- A thread begins with the entry of a function.
abbrev pub begun : Code → ℕ → List Value → List Object → SlotTurn
begun p f args os = entered p (opened f args ∷ []) os first_entry

-- A reply: its outputs are put at their pointers, and its value comes to the call that waits.
abbrev pub replied : SlotState → List Value → ℕ → List (List ℕ) → SlotState
replied s pointers n outputs = state (delivered s.frames (Int n)) (with_outputs s.objects pointers outputs)

-- The globals and literals of a group stand before a thread's own objects: both together, the first, and the others.
abbrev pub with_globals : List Object → SlotState → SlotState
with_globals globals s = state s.frames (globals ++ s.objects)

abbrev pub globals_in : ℕ → List Object → List Object
globals_in count os = take count os

abbrev pub own_in : ℕ → List Object → List Object
own_in count os = drop count os
