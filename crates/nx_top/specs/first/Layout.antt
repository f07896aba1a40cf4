-- The flat address map: addresses and sizes in bytes. nx_link will take its place.
use Rattle.std.specs.Prelude.{ℕ, ◌+◌, ◌*◌, ◌/◌}

-- where the RAM begins, and how long it is
abbrev pub ram_start : ℕ
ram_start = 0x80000000

abbrev pub ram_bytes : ℕ
ram_bytes = 4194304

-- the pool of 4096 blocks of 64 bytes stands first
abbrev pub pool_bytes : ℕ
pool_bytes = 262144

-- then the texts
abbrev pub text_start : ℕ
text_start = 0x80040000

abbrev pub stack_bytes : ℕ
stack_bytes = 8192

-- rounded up to a page
abbrev pub page_up : ℕ → ℕ
page_up n = (n + 4095) / 4096 * 4096

-- the data begin after the texts
abbrev pub data_start : ℕ → ℕ
data_start text_length = text_start + page_up text_length

-- the stack of the first slot after the shell's, where no program has data
abbrev pub stack_low : ℕ → ℕ
stack_low text_length = data_start text_length + stack_bytes

abbrev pub stack_high : ℕ → ℕ
stack_high text_length = data_start text_length + 2 * stack_bytes

-- how many instructions a run may make
abbrev pub fuel : ℕ
fuel = 100000000
