-- A function's frame, from the stack pointer up: the return address, the temporaries, the parameters and other locals,
-- and the arrays. The first eight temporaries are held in registers, and their words are used while a call is open.
use Rattle.std.specs.Prelude.{◌≡◌, ℕ, zero, suc, ◌+◌, ◌-◌, ◌*◌, ◌/◌, ◌%◌, ◌^◌, ◌≤◌, Bool, ◌&&◌, nat_le, nat_lt, if◌then◌else◌, List, [], ◌∷◌, length}
use Rattle.nx_slot.specs.declared.program.SlotArray.{SlotArray}
use Rattle.nx_slot.specs.declared.program.SlotFunction.{SlotFunction}

-- A cell that a register holds: one of the first eight temporaries, in registers 18 to 25.
unfoldable pub in_register : SlotFunction → ℕ → Bool
in_register g i = nat_le g.locals i && nat_lt i (g.locals + 8)

unfoldable pub register_of : SlotFunction → ℕ → ℕ
register_of g i = 18 + (i - g.locals)

-- How many bytes above the stack pointer a cell's word stands.
unfoldable pub cell_at : SlotFunction → ℕ → ℕ
cell_at g i = if nat_lt i g.locals then 4 * (1 + g.temporaries + i) else 4 * (1 + (i - g.locals))

unfoldable pub words_end : SlotFunction → ℕ
words_end g = 4 * (1 + g.temporaries + g.locals)

unfoldable pub rounded : ℕ → ℕ
rounded n = (n + 3) / 4 * 4

-- Where the k-th of some arrays stands, the first of which stands here; past the last, where they end.
abbrev pub array_from : List SlotArray → ℕ → ℕ → ℕ
array_from [] here k = here
array_from (a ∷ more) here zero = here
array_from (a ∷ more) here (suc k) = array_from more (here + rounded a.bytes) k

unfoldable pub array_at : SlotFunction → ℕ → ℕ
array_at g k = array_from g.arrays (words_end g) k

-- A function whose frame holds its cells and arrays.
pub record IsFunction (g : SlotFunction) : Type 0 where
  pub aligned : g.frame % 16 ≡ 0
  pub small : g.frame ≤ 2 ^ 20
  pub temporaries : g.temporaries ≤ 500
  pub params : g.params ≤ 6
  pub has_params : g.params ≤ g.locals
  pub holds : array_from g.arrays (words_end g) (length g.arrays) ≤ g.frame
