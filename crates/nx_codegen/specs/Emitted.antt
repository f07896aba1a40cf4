-- What is emitted, and where operations begin on the way there.
use Rattle.std.specs.Prelude.{◌≡◌, ℕ, suc, ◌+◌, ◌-◌, ◌≤◌, Bool, List, length, map, Some, slice_get}
use Rattle.nx_rv.specs.Table.{encode_of}
use Rattle.nx_slot.specs.declared.op.SlotOp.{SlotOp}
use Rattle.nx_slot.specs.declared.op.SlotOp.TheVariants as op
use Rattle.nx_slot.specs.declared.program.SlotFunction.{SlotFunction}
use Rattle.nx_codegen.specs.declared.output.Ref.{Ref}
use Rattle.nx_codegen.specs.Addresses.{no_links}
use Rattle.nx_codegen.specs.Code.{offset, code_of}
use Rattle.nx_codegen.specs.Refs.{refs_of}

-- The first so many operations' places, and the end of the last of them.
pub record ArePlaces (near : Bool) (g : SlotFunction) (count : ℕ) (places : List ℕ) : Type 0 where
  pub counted : length places ≡ suc count
  pub each : (k : ℕ) → k ≤ count → slice_get places k ≡ Some (offset near g g.ops k)

-- The words of a function, as a link finds them: its instructions with the address 0 at each ref, and the refs.
pub record AreWords (g : SlotFunction) (ws : List ℕ) (rs : List Ref) : Type 0 where
  pub words : ws ≡ map encode_of (code_of no_links g)
  pub refs : rs ≡ refs_of g

-- The operation that a jump leads to.
abbrev pub destination : ℕ → SlotOp → ℕ
destination at (op.SkipUnless test left right past) = at + 1 + past
destination at (op.Skip past) = at + 1 + past
destination at (op.Back by) = at - by
destination at o = 0
