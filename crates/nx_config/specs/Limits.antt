-- The limits of a system, and what the last lines of their names give.
use Rattle.std.specs.Prelude.{◌≡◌, ℕ, ◌≤◌, ◌%◌, ◌==◌, nat_le, min, ◌&&◌, if◌then◌else◌, List, [], ◌∷◌, codes, ℤ, pos, negsuc, Option, None, Some, Result, Ok, Err}
use Rattle.nx_config.specs.declared.value.Value.{Value}
use Rattle.nx_config.specs.declared.value.Value.TheVariants.{Yes, Number, Text}
use Rattle.nx_config.specs.declared.value.Kept.{Kept}
use Rattle.nx_config.specs.declared.limits.Limit.{Limit}
use Rattle.nx_config.specs.declared.limits.Limits.{Limits}

-- a limit: the name that sets it, its number by default, and from which lowest to which highest multiple it may be
pub record Row : Type 0 where
  pub name : List ℕ
  pub default : ℕ
  pub lowest : ℕ
  pub highest : ℕ
  pub multiple : ℕ

abbrev pub row : List ℕ → ℕ → ℕ → ℕ → ℕ → Row
row n d l h m = record { name = n; default = d; lowest = l; highest = h; multiple = m }

-- bytes of RAM
abbrev pub ram_row : Row
ram_row = row (codes "CONFIG_NXSIM_RAM") 4194304 1048576 16777216 4096

-- live threads
abbrev pub threads_row : Row
threads_row = row (codes "CONFIG_NXSIM_THREADS") 16 2 64 1

-- pool blocks of 64 bytes
abbrev pub blocks_row : Row
blocks_row = row (codes "CONFIG_NXSIM_BLOCKS") 4096 16 65536 1

-- objects of the kernel
abbrev pub nodes_row : Row
nodes_row = row (codes "CONFIG_NXSIM_NODES") 128 16 1024 1

-- bytes that the console keeps
abbrev pub console_row : Row
console_row = row (codes "CONFIG_NXSIM_CONSOLE") 1048576 1024 16777216 1

-- bytes of a thread's stack
abbrev pub stack_row : Row
stack_row = row (codes "CONFIG_NXSIM_STACK") 8192 4096 1048576 4096

-- the row of a limit
abbrev pub row_of : Limit → Row
row_of l = row l.name.now l.default l.lowest l.highest l.multiple

-- a number that a limit may be
pub record IsInRange (r : Row) (n : ℕ) : Type 0 where
  pub low : r.lowest ≤ n
  pub high : n ≤ r.highest
  pub whole : n % r.multiple ≡ 0

-- numbers that the six limits may be
pub record AreInRange (l : Limits) : Type 0 where
  pub ram : IsInRange ram_row l.ram
  pub threads : IsInRange threads_row l.threads
  pub blocks : IsInRange blocks_row l.blocks
  pub nodes : IsInRange nodes_row l.nodes
  pub console : IsInRange console_row l.console
  pub stack : IsInRange stack_row l.stack

-- a number from the lowest to the highest that is a multiple
abbrev pub number_within : Row → ℤ → Option ℕ
number_within l (pos n) = if nat_le l.lowest n && nat_le n l.highest && (n % l.multiple == 0) then Some n else None
number_within l (negsuc n) = None

-- a number, or the line where there is none
abbrev pub number_at : ℕ → Option ℕ → Result ℕ ℕ
number_at line (Some n) = Ok n
number_at line None = Err line

-- a limit by the line and the value of its name: that number, or the line; no value is the default
abbrev pub limit_at : Row → ℕ → Option Value → Result ℕ ℕ
limit_at l line None = Ok l.default
limit_at l line (Some (Number n)) = number_at line (number_within l n)
limit_at l line (Some Yes) = Err line
limit_at l line (Some (Text text)) = Err line

-- a limit by the last line of its name; no line is the default
abbrev pub limit_or : Row → Option Kept → Result ℕ ℕ
limit_or l None = Ok l.default
limit_or l (Some kept) = limit_at l kept.line kept.value

-- a limit by what the last lines of names say
abbrev pub limit_by : Row → (List ℕ → Option Kept) → Result ℕ ℕ
limit_by l last = limit_or l (last l.name)

-- the lesser of a line and another, if there is another
abbrev pub least : ℕ → Option ℕ → ℕ
least line None = line
least line (Some other) = min line other

-- the earlier of the line at which a limit is out of range and another line
abbrev pub earlier : Result ℕ ℕ → Option ℕ → Option ℕ
earlier (Ok n) line = line
earlier (Err here) line = Some (least here line)

-- the first of the lines at which limits are out of range
abbrev pub first_line : List (Result ℕ ℕ) → Option ℕ
first_line [] = None
first_line (l ∷ ls) = earlier l (first_line ls)

-- the six limits
abbrev pub all_limits : (List ℕ → Option Kept) → List (Result ℕ ℕ)
all_limits last = limit_by ram_row last ∷ limit_by threads_row last ∷ limit_by blocks_row last ∷ limit_by nodes_row last ∷ limit_by console_row last ∷ limit_by stack_row last ∷ []

-- the number of a limit in its range
abbrev pub number_in : Result ℕ ℕ → ℕ
number_in (Ok n) = n
number_in (Err line) = 0

-- their numbers
abbrev pub numbers_by : (List ℕ → Option Kept) → Limits
numbers_by last = record {
  ram = number_in (limit_by ram_row last);
  threads = number_in (limit_by threads_row last);
  blocks = number_in (limit_by blocks_row last);
  nodes = number_in (limit_by nodes_row last);
  console = number_in (limit_by console_row last);
  stack = number_in (limit_by stack_row last);
}

-- the numbers, unless there is a line at which one is out of range
abbrev pub numbers_unless : Option ℕ → Limits → Result Limits ℕ
numbers_unless None limits = Ok limits
numbers_unless (Some line) limits = Err line

-- the limits, or the first line at which one is out of range
unfoldable pub limits_by : (List ℕ → Option Kept) → Result Limits ℕ
limits_by last = numbers_unless (first_line (all_limits last)) (numbers_by last)
