-- Which addresses an entry matches. RISC-V Privileged Architecture 1.12, section 3.7.1, "Address Matching".
use Rattle.std.specs.Prelude.{ℕ, ◌+◌, ◌*◌, ◌/◌, ◌%◌, ◌^◌, ◌==◌, ◌<◌, ◌≤◌, nat_lt, nat_le, Bool, ◌&&◌, if◌then◌else◌, Option, Some, None}
use Rattle.std.specs.Int.{w32, trailing_ones}
use Rattle.nx_pmp.specs.declared.matching.Matching.{Matching}
use Rattle.nx_pmp.specs.declared.matching.Matching.TheVariants.{Off, Tor, Na4, Napot}
use Rattle.nx_pmp.specs.declared.matching.Range.{Range}

-- the field A, bits 4 and 3 of a configuration
abbrev pub matching_of : ℕ → Matching
matching_of cfg = if cfg / 8 % 4 == 0 then Off else (if cfg / 8 % 4 == 1 then Tor else (if cfg / 8 % 4 == 2 then Na4 else Napot))

-- an address field holds the bits 33 to 2 of an address
abbrev pub address : ℕ → ℕ
address addr = 4 * addr

-- the naturally aligned range of a power of two: with k ones at the low end of its address field it has 2^(k+3) bytes
abbrev pub power_of_two : ℕ → ℕ
power_of_two addr = 2 ^ (trailing_ones w32 addr + 3)

unfoldable pub power_of_two_range : ℕ → Range
power_of_two_range addr =
    let first = address addr / power_of_two addr * power_of_two addr in
    record { from = first; to = first + power_of_two addr }

-- the range of an entry: top of range begins at the address of the entry before it, whatever that one matches, and is empty where its own isn't above
abbrev pub matched : Matching → ℕ → ℕ → Option Range
matched Off before addr = None
matched Tor before addr = if nat_lt before addr then Some (record { from = address before; to = address addr }) else None
matched Na4 before addr = Some (record { from = address addr; to = address addr + 4 })
matched Napot before addr = Some (power_of_two_range addr)

-- a range matches any byte of an access, and all of them
abbrev pub matches_any : Range → ℕ → ℕ → Bool
matches_any r at len = nat_lt at r.to && nat_lt r.from (at + len)

abbrev pub matches_all : Range → ℕ → ℕ → Bool
matches_all r at len = nat_le r.from at && nat_le (at + len) r.to

-- a byte of an access, and one that a range covers
abbrev pub IsByteOf : ℕ → ℕ → ℕ → Type 0
IsByteOf at len k = (at ≤ k) × (k < at + len)

abbrev pub Covers : Range → ℕ → Type 0
Covers r k = (r.from ≤ k) × (k < r.to)
