-- The instructions of a function of slot code.
use Rattle.std.specs.Prelude.{ℕ, zero, suc, ◌+◌, ◌-◌, ◌*◌, Bool, true, nat_lt, List, [], ◌∷◌, ◌++◌, length, slice_get}
use Rattle.nx_rv.specs.declared.inst.Inst.{Inst}
use Rattle.nx_rv.specs.declared.inst.Inst.TheVariants.{Lui, Load, Store}
use Rattle.nx_slot.specs.declared.op.Comparison.{Comparison}
use Rattle.nx_slot.specs.declared.op.Operand.{Operand}
use Rattle.nx_slot.specs.declared.op.SlotOp.{SlotOp}
use Rattle.nx_slot.specs.declared.op.SlotOp.TheVariants as op
use Rattle.nx_slot.specs.declared.program.SlotFunction.{SlotFunction}
use Rattle.nx_codegen.specs.declared.output.Target.TheVariants.{Function, Call}
use Rattle.nx_codegen.specs.Addresses.{Links, no_links, upper, lower, target_of}
use Rattle.nx_codegen.specs.Frames.{array_at}
use Rattle.nx_codegen.specs.Moves.{addi, above_code, get_code, source, set_code, target, move_code, moved_code, operand_code, answer_code}
use Rattle.nx_codegen.specs.Operators.{applied_code, changed_code, indexed_code, loaded_code, stored_code, jump_code, skip_code, right_code, right_source}
use Rattle.nx_codegen.specs.Calling.{arguments_code, kept_at, save_code, restore_code, call_code, enter_code, leave_code, clear_code}

-- A test stands behind the loading of its two sides.
abbrev pub sides_code : SlotFunction → ℕ → Operand → List Inst
sides_code g left right = get_code g 5 left ++ right_code g right

abbrev pub tested_code : Bool → SlotFunction → Comparison → ℕ → Operand → ℕ → ℕ → List Inst
tested_code near g test left right here there = sides_code g left right ++ skip_code near test (source g 5 left) (right_source g right) (here + 4 * length (sides_code g left right)) there

-- A kernel call goes to its proxy. No register from 18 on is changed there.
abbrev pub ask_code : SlotFunction → ℕ → ℕ → ℕ → List Inst
ask_code g first count proxy = arguments_code g first count ++ (call_code proxy ++ answer_code g first)

abbrev pub go_code : SlotFunction → ℕ → ℕ → ℕ → List Inst
go_code g first count entry = save_code (kept_at g first) ++ (arguments_code g first count ++ (call_code entry ++ (restore_code (kept_at g first) ++ answer_code g first)))

abbrev pub give_code : SlotFunction → Operand → List Inst
give_code g value = operand_code g 10 value ++ leave_code g

abbrev pub local_code : SlotFunction → ℕ → ℕ → List Inst
local_code g to k = above_code (target g to) (array_at g k) ++ set_code g to

-- An address that a link gives, a number that stands there, and one that is put there.
abbrev pub address_code : SlotFunction → ℕ → ℕ → List Inst
address_code g to a = Lui (target g to) (upper a) ∷ addi (target g to) (target g to) (lower a) ∷ set_code g to

abbrev pub fetch_code : SlotFunction → ℕ → ℕ → List Inst
fetch_code g to a = Lui 5 (upper a) ∷ Load 4 true (target g to) 5 (lower a) ∷ set_code g to

abbrev pub keep_code : SlotFunction → ℕ → ℕ → List Inst
keep_code g from a = get_code g 6 from ++ Lui 5 (upper a) ∷ Store 4 5 (source g 6 from) (lower a) ∷ []

-- The instructions of the operation at a place, which begin here; where the others begin is there.
abbrev pub operation_code : Links → Bool → SlotFunction → (ℕ → ℕ) → ℕ → ℕ → SlotOp → List Inst
operation_code l near g there here at (op.Move to from) = moved_code g to from
operation_code l near g there here at (op.Forge to from) = move_code g to from
operation_code l near g there here at (op.Apply o to left right) = applied_code g o to left right
operation_code l near g there here at (op.Change o to from) = changed_code g o to from
operation_code l near g there here at (op.SkipUnless test left right past) = tested_code near g test left right here (there (at + 1 + past))
operation_code l near g there here at (op.Skip past) = jump_code near here (there (at + 1 + past))
operation_code l near g there here at (op.Back by) = jump_code near here (there (at - by))
operation_code l near g there here at (op.Ask number first count) = ask_code g first count (l (Call number))
operation_code l near g there here at (op.Go function first count) = go_code g first count (l (Function function))
operation_code l near g there here at (op.Give value) = give_code g value
operation_code l near g there here at (op.Make k) = clear_code g k (slice_get g.arrays k)
operation_code l near g there here at (op.Local to k) = local_code g to k
operation_code l near g there here at (op.Static to o) = address_code g to (l (target_of o))
operation_code l near g there here at (op.Entry to function) = address_code g to (l (Function function))
operation_code l near g there here at (op.Fetch to o) = fetch_code g to (l (target_of o))
operation_code l near g there here at (op.Keep o from) = keep_code g from (l (target_of o))
operation_code l near g there here at (op.Index to base index w) = indexed_code g to base index w
operation_code l near g there here at (op.Load to place w) = loaded_code g to place w
operation_code l near g there here at (op.Store place value w) = stored_code g place value w

-- How many bytes an operation takes, wherever it stands.
unfoldable pub size_of : Bool → SlotFunction → SlotOp → ℕ
size_of near g o = 4 * length (operation_code no_links near g (λ i. 0) 0 0 o)

-- Where an operation begins, from the first on; past the last, where they end.
unfoldable pub offset : Bool → SlotFunction → List SlotOp → ℕ → ℕ
offset near g [] n = 0
offset near g (o ∷ ops) zero = 0
offset near g (o ∷ ops) (suc n) = size_of near g o + offset near g ops n

-- Code that a branch reaches from end to end.
unfoldable pub is_near : SlotFunction → Bool
is_near g = nat_lt (4 * length (enter_code g) + offset true g g.ops (length g.ops)) 4096

unfoldable pub place_of : SlotFunction → ℕ → ℕ
place_of g at = 4 * length (enter_code g) + offset (is_near g) g g.ops at

unfoldable pub code_from : Links → SlotFunction → ℕ → List SlotOp → List Inst
code_from l g at [] = []
code_from l g at (o ∷ ops) = operation_code l (is_near g) g (place_of g) (place_of g at) at o ++ code_from l g (suc at) ops

-- A function's instructions.
unfoldable pub code_of : Links → SlotFunction → List Inst
code_of l g = enter_code g ++ code_from l g 0 g.ops
