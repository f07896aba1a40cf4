-- Instructions of calls: arguments, kept temporaries, entry and return, proxies and the outermost stub.
use Rattle.std.specs.Prelude.{ℕ, zero, suc, ◌+◌, ◌-◌, ◌*◌, min, true, nat_le, nat_lt, if◌then◌else◌, List, [], ◌∷◌, ◌++◌, Option, Some, None, pos, negsuc}
use Rattle.nx_base.specs.declared.operations.AluOp.TheVariants as alu
use Rattle.nx_base.specs.declared.operations.Cond.TheVariants as cond
use Rattle.nx_rv.specs.declared.inst.Inst.{Inst}
use Rattle.nx_rv.specs.declared.inst.Inst.TheVariants.{Lui, Jalr, Branch, Load, Store, Op, Ecall}
use Rattle.nx_slot.specs.declared.program.SlotArray.{SlotArray}
use Rattle.nx_slot.specs.declared.program.SlotFunction.{SlotFunction}
use Rattle.nx_codegen.specs.Addresses.{upper, lower}
use Rattle.nx_codegen.specs.Frames.{cell_at, rounded, array_at}
use Rattle.nx_codegen.specs.Moves.{addi, number_code, store_code, above_code, into_code}

-- Cells from one on into as many registers from 10 on.
unfoldable pub arguments_code : SlotFunction → ℕ → ℕ → List Inst
arguments_code g first zero = []
arguments_code g first (suc k) = arguments_code g first k ++ into_code g (10 + k) (first + k)

-- The parameters out of their registers into their cells.
unfoldable pub parameters_code : SlotFunction → ℕ → List Inst
parameters_code g zero = []
parameters_code g (suc k) = parameters_code g k ++ store_code (10 + k) (cell_at g k)

-- The temporaries in registers that are in use where arguments stand from a cell on: a call of a function keeps them.
unfoldable pub kept_at : SlotFunction → ℕ → ℕ
kept_at g first = min 8 (first - g.locals)

unfoldable pub save_code : ℕ → List Inst
save_code zero = []
save_code (suc k) = save_code k ++ Store 4 2 (18 + k) (pos (4 * (1 + k))) ∷ []

unfoldable pub restore_code : ℕ → List Inst
restore_code zero = []
restore_code (suc k) = restore_code k ++ Load 4 true (18 + k) 2 (pos (4 * (1 + k))) ∷ []

-- A jump to an address, from which a return leads back.
unfoldable pub call_code : ℕ → List Inst
call_code to = Lui 1 (upper to) ∷ Jalr 1 1 (lower to) ∷ []

unfoldable pub open_code : ℕ → List Inst
open_code n = if nat_le n 2048 then addi 2 2 (negsuc (n - 1)) ∷ [] else number_code 5 n ++ Op alu.Sub 2 2 5 ∷ []

unfoldable pub close_code : ℕ → List Inst
close_code n = if nat_lt n 2048 then addi 2 2 (pos n) ∷ [] else number_code 5 n ++ Op alu.Add 2 2 5 ∷ []

-- Register 3 is 0 at a thread's start, and from its first entry on the stack's end. Register 4 is the stack's lowest
-- address. A frame that goes below it makes call 0 with the bytes from the frame to the stack's end.
unfoldable pub test_code : List Inst
test_code = Branch cond.Geu 2 4 (pos 16) ∷ Op alu.Sub 11 3 2 ∷ addi 10 0 (pos 0) ∷ Ecall ∷ []

unfoldable pub enter_code : SlotFunction → List Inst
enter_code g = Branch cond.Ne 3 0 (pos 8) ∷ addi 3 2 (pos 0) ∷ (open_code g.frame ++ (test_code ++ Store 4 2 1 (pos 0) ∷ parameters_code g g.params))

unfoldable pub leave_code : SlotFunction → List Inst
leave_code g = Load 4 true 1 2 (pos 0) ∷ (close_code g.frame ++ Jalr 0 1 (pos 0) ∷ [])

-- An array is set to zero, a word at a time.
abbrev pub clear_loop : List Inst
clear_loop = Store 4 5 0 (pos 0) ∷ addi 5 5 (pos 4) ∷ Branch cond.Ltu 5 6 (negsuc 7) ∷ []

unfoldable pub clear_code : SlotFunction → ℕ → Option SlotArray → List Inst
clear_code g k None = []
clear_code g k (Some a) = above_code 5 (array_at g k) ++ (number_code 6 (rounded a.bytes) ++ Op alu.Add 6 6 5 ∷ clear_loop)

-- What a kernel call of so many words goes through: the words move up by a register, and the number comes first.
unfoldable pub moves_code : ℕ → List Inst
moves_code zero = []
moves_code (suc k) = addi (11 + k) (10 + k) (pos 0) ∷ moves_code k

unfoldable pub proxy_code : ℕ → ℕ → List Inst
proxy_code number words = moves_code words ++ addi 10 0 (pos number) ∷ Ecall ∷ Jalr 0 1 (pos 0) ∷ []

-- Where a thread's first function returns to: a call with its value.
unfoldable pub stub_code : ℕ → List Inst
stub_code number = addi 11 10 (pos 0) ∷ addi 10 0 (pos number) ∷ Ecall ∷ []
