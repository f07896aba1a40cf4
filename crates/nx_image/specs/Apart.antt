-- The parts of an image stand apart.
use Rattle.std.specs.Prelude.{◌≡◌, ◌≢◌, ℕ, ◌+◌, ◌*◌, ◌%◌, ◌≤◌, ◌<◌, ◌^◌, Bool, true, false, List, length, slice_index_or}
use Rattle.nx_base.specs.declared.build.Build.{Build}
use Rattle.nx_base.specs.declared.build.Build.TheVariants.{Flat, Protected, Kernel}
use Rattle.nx_base.specs.Ranges.{Range, AreDisjoint}
use Rattle.nx_config.specs.declared.limits.Limits.{Limits}
use Rattle.nx_ram.specs.declared.prog_image.ProgImage.{ProgImage}
use Rattle.nx_space.specs.Shared.{ram_start}
use Rattle.nx_space.specs.Starts.{no_program}
use Rattle.nx_image.specs.declared.layout.Sizes.{Sizes}
use Rattle.nx_image.specs.Layout.{pool_bytes, stacks_at}
use Rattle.nx_image.specs.Image.{Contents, all_sizes, IsImage}

-- all programs of the flat and of the protected build stand in one view, and each of the kernel build's
-- in its own
abbrev pub is_joint : Build → Bool
is_joint Flat = true
is_joint Protected = true
is_joint Kernel = false

-- the lowest address of a slot's stack
abbrev pub stack_low : Build → Limits → List Sizes → ℕ → ℕ
stack_low Flat l ss slot = stacks_at l ss + slot * l.stack
stack_low Protected l ss slot = stacks_at l ss + slot * l.stack
stack_low Kernel l ss slot = 0x40000000 + slot * 0x200000

abbrev pub program_in : Contents → ℕ → ProgImage
program_in i k = slice_index_or i.programs k no_program

-- the addresses of the pool, of a program's text and data, and of a slot's stack
abbrev pub pool_of : Contents → Range
pool_of i = record { low = ram_start; top = ram_start + pool_bytes i.layout.limits }

abbrev pub text_of : Contents → ℕ → Range
text_of i k = record { low = (program_in i k).text_at; top = (program_in i k).text_at + length (program_in i k).text }

abbrev pub data_of : Contents → ℕ → Range
data_of i k = record { low = (program_in i k).data_at; top = (program_in i k).data_at + length (program_in i k).init }

abbrev pub stack_of : Contents → ℕ → Range
stack_of i slot =
    let low = stack_low i.layout.build i.layout.limits (all_sizes i) slot in
    record { low = low; top = low + i.layout.limits.stack }

-- a range begins at a multiple of 16, at 2 MiB or above, and ends below 2^31 or in the RAM
pub record IsStack (i : Contents) (r : Range) : Type 0 where
  pub whole : r.low % 16 ≡ 0
  pub size : r.low + i.layout.limits.stack ≡ r.top
  pub high : 2 ^ 21 ≤ r.low
  pub fits : r.top < 2 ^ 32

pub record IsPart (r : Range) : Type 0 where
  pub whole : r.low % 16 ≡ 0
  pub fits : r.top < 2 ^ 32

-- a range lies in the RAM, behind the pool
pub record IsBehind (i : Contents) (r : Range) : Type 0 where
  pub pool : AreDisjoint (pool_of i) r
  pub low : ram_start ≤ r.low
  pub top : r.top ≤ ram_start + i.layout.limits.ram

-- no two parts of one view share an address, and none has one of the pool
pub record StandApart (i : Contents) : Type 0 where
  pub text : (k : ℕ) → k < length i.programs → IsPart (text_of i k)
  pub contents : (k : ℕ) → k < length i.programs → IsPart (data_of i k)
  pub stack : (slot : ℕ) → slot < i.layout.limits.threads → IsStack i (stack_of i slot)
  pub text_data : (j k : ℕ) → j < length i.programs → k < length i.programs → AreDisjoint (text_of i j) (data_of i k)
  pub text_stack : (k slot : ℕ) → k < length i.programs → slot < i.layout.limits.threads → AreDisjoint (text_of i k) (stack_of i slot)
  pub data_stack : (k slot : ℕ) → k < length i.programs → slot < i.layout.limits.threads → AreDisjoint (data_of i k) (stack_of i slot)
  pub stacks : (a b : ℕ) → a < i.layout.limits.threads → b < i.layout.limits.threads → a ≢ b → AreDisjoint (stack_of i a) (stack_of i b)
  pub joint_texts : (j k : ℕ) → is_joint i.layout.build ≡ true → j < length i.programs → k < length i.programs → j ≢ k → AreDisjoint (text_of i j) (text_of i k)
  pub joint_data : (j k : ℕ) → is_joint i.layout.build ≡ true → j < length i.programs → k < length i.programs → j ≢ k → AreDisjoint (data_of i j) (data_of i k)
  pub joint_text : (k : ℕ) → is_joint i.layout.build ≡ true → k < length i.programs → IsBehind i (text_of i k)
  pub joint_contents : (k : ℕ) → is_joint i.layout.build ≡ true → k < length i.programs → IsBehind i (data_of i k)
  pub joint_stack : (slot : ℕ) → is_joint i.layout.build ≡ true → slot < i.layout.limits.threads → IsBehind i (stack_of i slot)

abbrev pub PiecesStandApart : Type 0
PiecesStandApart = (i : Contents) → IsImage i → StandApart i
