-- Page table entries. RISC-V Privileged Architecture 1.12, section 4.3.1.
use Rattle.std.specs.Prelude.{ℕ, ◌/◌, ◌%◌, ◌==◌, Bool, ◌&&◌, ◌||◌, not}
use Rattle.nx_base.specs.declared.access.Access.{Access}
use Rattle.nx_base.specs.declared.access.Access.TheVariants.{Fetch, Load, Store}

-- whether the bit of a weight is set: 1 V, 2 R, 4 W, 8 X, 16 U, 32 G, 64 A, 128 D
unfoldable pub has : ℕ → ℕ → Bool
has entry weight = entry / weight % 2 == 1

-- the page number, bits 31 to 10
abbrev pub page_number : ℕ → ℕ
page_number entry = entry / 1024

-- V is clear, or W is set and R is clear
unfoldable pub is_refused : ℕ → Bool
is_refused entry = not (has entry 1) || (has entry 4 && not (has entry 2))

-- an entry with R or X is a leaf
unfoldable pub is_leaf : ℕ → Bool
is_leaf entry = has entry 2 || has entry 8

-- any other entry points to a table, where U, A and D are clear
unfoldable pub is_pointer : ℕ → Bool
is_pointer entry = not (has entry 16) && not (has entry 64) && not (has entry 128)

-- an access wants its bit: X for a fetch, R for a load, and W and D for a store
unfoldable pub has_right : ℕ → Access → Bool
has_right entry Fetch = has entry 8
has_right entry Load = has entry 2
has_right entry Store = has entry 4 && has entry 128

-- a leaf permits an access in user mode with U, the access's bits and A
unfoldable pub permits : ℕ → Access → Bool
permits entry access = has entry 16 && has_right entry access && has entry 64
