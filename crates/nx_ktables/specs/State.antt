-- The state for which the tables stand.
use Rattle.std.specs.Prelude.{ℕ, ◌+◌, List, [], length}
use Rattle.nx_config.specs.declared.limits.Limits.{Limits}
use Rattle.nx_pool.specs.declared.chain.Chain.{Chain}
use Rattle.nx_ksys.specs.State as state
use Rattle.nx_ksys.specs.Boot.{first_entries}
use Rattle.nx_ksys.specs.GroupCalls.{most_numbers}
use Rattle.nx_env.specs.Joined.{joined}
use Rattle.nx_objects.specs.Tables.{with_objects, ArePlaced}
use Rattle.nx_ktables.specs.declared.tables.Tables.{Tables}

-- the tables of what is open have a place for each that slots allow
abbrev pub IsPlaced : Tables → Type 0
IsPlaced t = ArePlaced (length t.threads.threads) t.objects

-- what stays from boot on
abbrev pub limits_of : Tables → state.Limits
limits_of t = record { programs = t.programs.items; blocks = t.blocks; objects = t.limit; console = t.terminal.room }

-- what stands beside threads and objects
abbrev pub others_of : Tables → state.KernelState
others_of t = record {
  limits = limits_of t;
  sched = t.threads;
  time = t.clock.time;
  late = t.clock.late;
  groups = joined t.groups t.environments;
  codes = t.codes.codes;
  values = t.values.values;
  descriptors = [];
  opens = [];
  tree = record { entries = []; files = [] };
  queues = [];
  sending = [];
  semaphores = [];
  console = t.terminal.shown;
  input = t.terminal.input;
  numbers = t.numbers;
  ended = t.ended.ends;
  calls = t.calls;
}

-- the state, where chains have these bytes
abbrev pub state_of : (Chain → List ℕ) → Tables → state.KernelState
state_of content t = with_objects (others_of t) t.threads content t.objects

-- the limits of a configuration, for programs of these names
abbrev pub configured : Limits → List (List ℕ) → state.Limits
configured limits programs = record { programs = programs; blocks = limits.blocks; objects = limits.nodes; console = limits.console }

-- what the state doesn't show: how much there is room for
pub record Rooms : Type 0 where
  pub paths : ℕ
  pub codes : ℕ
  pub values : ℕ
  pub ended : ℕ
  pub environments : ℕ

abbrev pub rooms_of : Tables → Rooms
rooms_of t = record { paths = t.objects.tree.limit; codes = t.codes.room; values = t.values.room; ended = t.ended.room; environments = length t.environments }

-- at boot: for the paths of boot and one for each object, and for a code, a value and an end of each number that may be
-- given
abbrev pub first_rooms : Limits → List (List ℕ) → Rooms
first_rooms limits programs = record {
  paths = length (first_entries programs) + limits.nodes;
  codes = most_numbers;
  values = most_numbers;
  ended = most_numbers;
  environments = limits.threads;
}
