-- Where the instructions of an operation stand, and how many they are.
use Rattle.std.specs.Prelude.{◌≡◌, ℕ, suc, ◌+◌, ◌*◌, ◌%◌, ◌^◌, ◌<◌, ◌≤◌, Bool, List, length, Some, slice_get}
use Rattle.nx_rv.specs.declared.inst.Inst.{Inst}
use Rattle.nx_slot.specs.declared.op.SlotOp.{SlotOp}
use Rattle.nx_slot.specs.declared.op.SlotOp.TheVariants as op
use Rattle.nx_slot.specs.declared.program.SlotFunction.{SlotFunction}
use Rattle.nx_slot.specs.Costs.{cost_of}
use Rattle.nx_codegen.specs.Addresses.{Links}
use Rattle.nx_codegen.specs.Calling.{enter_code}
use Rattle.nx_codegen.specs.Code.{operation_code, is_near, place_of, code_of}
use Rattle.nx_shown.specs.Places.{Place}
use Rattle.nx_pieces.specs.Parts.{IsCode}

-- The instructions of the operation at a place of a function.
abbrev pub code_at : Links → SlotFunction → ℕ → SlotOp → List Inst
code_at l g at o = operation_code l (is_near g) g (place_of g) (place_of g at) at o

abbrev pub EntriesStandFirst : Type 0
EntriesStandFirst = (e : Place) (l : Links) (g : SlotFunction) (start : ℕ) → IsCode e start (code_of l g) → IsCode e start (enter_code g) × (place_of g 0 ≡ 4 * length (enter_code g))

abbrev pub OperationsStand : Type 0
OperationsStand = (e : Place) (l : Links) (g : SlotFunction) (start at : ℕ) (o : SlotOp) → IsCode e start (code_of l g) → slice_get g.ops at ≡ Some o → IsCode e (start + place_of g at) (code_at l g at o)

abbrev pub PlacesFollow : Type 0
PlacesFollow = (l : Links) (g : SlotFunction) (at : ℕ) (o : SlotOp) → slice_get g.ops at ≡ Some o → place_of g (suc at) ≡ place_of g at + 4 * length (code_at l g at o)

abbrev pub PlacesLie : Type 0
PlacesLie = (e : Place) (l : Links) (g : SlotFunction) (start at : ℕ) → IsCode e start (code_of l g) → start % 4 ≡ 0 → ((start + place_of g at) % 4 ≡ 0) × (start + place_of g at < 2 ^ 32)

-- Calls, returns and the making of arrays are made of more than their own instructions.
abbrev pub IsPlain : SlotOp → Type 0
IsPlain (op.Ask number first count) = ⊥
IsPlain (op.Go function first count) = ⊥
IsPlain (op.Give value) = ⊥
IsPlain (op.Make k) = ⊥
IsPlain o = Unit {0}

abbrev pub CostsSuffice : Type 0
CostsSuffice = (l : Links) (near : Bool) (g : SlotFunction) (there : ℕ → ℕ) (here at : ℕ) (o : SlotOp) → IsPlain o → length (operation_code l near g there here at o) ≤ cost_of g o

abbrev pub InstructionsAreThere : Type 0
InstructionsAreThere = (l : Links) (near : Bool) (g : SlotFunction) (there : ℕ → ℕ) (here at : ℕ) (o : SlotOp) → IsPlain o → 1 ≤ length (operation_code l near g there here at o)
