-- The places in a function's code at which a link fills in an address, and what is filled in there.
use Rattle.std.specs.Prelude.{ℕ, zero, suc, ◌+◌, ◌/◌, List, [], ◌∷◌, ◌++◌, length, ℤ}
use Rattle.nx_rv.specs.declared.inst.Inst.{Inst}
use Rattle.nx_rv.specs.declared.inst.Inst.TheVariants.{Lui, Jalr, Load, Store, OpImm}
use Rattle.nx_slot.specs.declared.op.SlotOp.{SlotOp}
use Rattle.nx_slot.specs.declared.op.SlotOp.TheVariants as op
use Rattle.nx_slot.specs.declared.program.SlotFunction.{SlotFunction}
use Rattle.nx_codegen.specs.declared.output.Target.TheVariants.{Function, Call}
use Rattle.nx_codegen.specs.declared.output.Ref.{Ref}
use Rattle.nx_codegen.specs.Addresses.{Links, upper, lower, target_of}
use Rattle.nx_codegen.specs.Moves.{get_code}
use Rattle.nx_codegen.specs.Calling.{arguments_code, kept_at, save_code, enter_code}
use Rattle.nx_codegen.specs.Code.{size_of, is_near}

-- The place of an operation's ref in the operation's own code.
abbrev pub refs_in : SlotFunction → ℕ → SlotOp → List Ref
refs_in g here (op.Ask number first count) = record { at = here + length (arguments_code g first count); target = Call number } ∷ []
refs_in g here (op.Go function first count) = record { at = here + (length (save_code (kept_at g first)) + length (arguments_code g first count)); target = Function function } ∷ []
refs_in g here (op.Static to o) = record { at = here; target = target_of o } ∷ []
refs_in g here (op.Entry to function) = record { at = here; target = Function function } ∷ []
refs_in g here (op.Fetch to o) = record { at = here; target = target_of o } ∷ []
refs_in g here (op.Keep o from) = record { at = here + length (get_code g 6 from); target = target_of o } ∷ []
refs_in g here o = []

unfoldable pub refs_from : SlotFunction → ℕ → List SlotOp → List Ref
refs_from g here [] = []
refs_from g here (o ∷ ops) = refs_in g here o ++ refs_from g (here + size_of (is_near g) g o / 4) ops

-- The refs of a function, in the order of its code.
unfoldable pub refs_of : SlotFunction → List Ref
refs_of g = refs_from g (length (enter_code g)) g.ops

-- An instruction with another immediate.
abbrev pub with_high : ℕ → Inst → Inst
with_high n (Lui rd imm) = Lui rd n
with_high n i = i

abbrev pub with_low : ℤ → Inst → Inst
with_low z (Jalr rd rs1 imm) = Jalr rd rs1 z
with_low z (Load width signed rd rs1 imm) = Load width signed rd rs1 z
with_low z (Store width rs1 rs2 imm) = Store width rs1 rs2 z
with_low z (OpImm o rd rs1 imm) = OpImm o rd rs1 z
with_low z i = i

-- A ref's two instructions get the two parts of its target's address.
unfoldable pub filled_at : ℕ → ℕ → List Inst → List Inst
filled_at zero a [] = []
filled_at zero a (i ∷ []) = with_high (upper a) i ∷ []
filled_at zero a (i ∷ j ∷ is) = with_high (upper a) i ∷ with_low (lower a) j ∷ is
filled_at (suc at) a [] = []
filled_at (suc at) a (i ∷ is) = i ∷ filled_at at a is

unfoldable pub filled : Links → List Ref → List Inst → List Inst
filled l [] is = is
filled l (r ∷ refs) is = filled l refs (filled_at r.at (l r.target) is)
