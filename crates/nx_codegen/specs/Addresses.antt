-- Numbers of 32 bits in two parts, and the way from one address to another.
use Rattle.std.specs.Prelude.{ℕ, ◌+◌, ◌-◌, ◌*◌, ◌/◌, ◌%◌, ◌^◌, nat_lt, nat_le, if◌then◌else◌, ℤ, pos, negsuc}
use Rattle.nx_slot.specs.declared.op.StaticObject.{StaticObject}
use Rattle.nx_slot.specs.declared.op.Section.{Section}
use Rattle.nx_slot.specs.declared.op.Section.TheVariants as section
use Rattle.nx_codegen.specs.declared.output.Target.{Target}
use Rattle.nx_codegen.specs.declared.output.Target.TheVariants.{Global, Literal}

-- What LUI holds of a number, so that a signed number of 12 bits makes up the rest.
unfoldable pub upper : ℕ → ℕ
upper n = (n + 2048) / 4096 * 4096 % 2 ^ 32

unfoldable pub lower : ℕ → ℤ
lower n = if nat_lt (n % 4096) 2048 then pos (n % 4096) else negsuc (4095 - n % 4096)

unfoldable pub from_to : ℕ → ℕ → ℤ
from_to here there = if nat_le here there then pos (there - here) else negsuc (here - there - 1)

-- The same way as a number of 32 bits.
unfoldable pub distance : ℕ → ℕ → ℕ
distance here there = (there + (2 ^ 32 - here)) % 2 ^ 32

-- The addresses that a link gives.
abbrev pub Links : Type 0
Links = Target → ℕ

abbrev pub no_links : Links
no_links target = 0

abbrev pub target_in : Section → Target
target_in (section.Global at) = Global at
target_in (section.Literal at) = Literal at

abbrev pub target_of : StaticObject → Target
target_of o = target_in o.section
