-- How many places, numbers, codes, values, ends and moments a kernel has.
use Rattle.std.specs.Prelude.{ℕ, ◌+◌, ◌*◌, ◌^◌, ◌<◌, ◌≤◌, List, [], ◌∷◌, length, Option, Some, None, if◌then◌else◌}
use Rattle.std.specs.List.{count_by}
use Rattle.std.specs.Option.{is_some}
use Rattle.nx_ksys.specs.declared.thread.Thread.{Thread}
use Rattle.nx_ksys.specs.Threads.{Schedule, is_ready, live, deadline_of}
use Rattle.nx_ksys.specs.State.{Limits, Group, Code, ThreadValue, Ending, KernelState}
use Rattle.nx_ksys.specs.GroupCalls.{most_numbers}
use Rattle.nx_ksys.specs.Soundness.{EachStanding}
use Rattle.nx_ksys.specs.ByteLaws.{Each}

-- the places of each table, with what boot said
pub record Places : Type 0 where
  pub limits : Limits
  pub threads : ℕ
  pub groups : ℕ
  pub sending : ℕ
  pub descriptors : ℕ
  pub opens : ℕ
  pub files : ℕ
  pub queues : ℕ
  pub semaphores : ℕ

abbrev pub places : KernelState → Places
places k = record {
  limits = k.limits;
  threads = length k.sched.threads;
  groups = length k.groups;
  sending = length k.sending;
  descriptors = length k.descriptors;
  opens = length k.opens;
  files = length k.tree.files;
  queues = length k.queues;
  semaphores = length k.semaphores;
}

-- those that boot takes, for so many threads
abbrev pub first_places : Limits → ℕ → Places
first_places limits threads = record {
  limits = limits;
  threads = threads;
  groups = threads;
  sending = threads;
  descriptors = 32 * threads;
  opens = 32 * threads;
  files = limits.objects;
  queues = limits.objects;
  semaphores = limits.objects;
}

abbrev pub live_groups : List (Option Group) → ℕ
live_groups groups = count_by is_some groups

abbrev pub waits_one : Option Thread → ℕ
waits_one None = 0
waits_one (Some t) = if is_ready t.doing then 0 else 1

-- how many threads wait
abbrev pub waiting : List (Option Thread) → ℕ
waiting [] = 0
waiting (t ∷ ts) = waits_one t + waiting ts

-- each number is of at most one group, live or ended, of at most one code that is kept, and of at most one thread,
-- live or with a value that is kept; a call makes at most two moments, or one and one that waits
pub record AreFew (sched : Schedule) (groups : List (Option Group)) (codes : List Code) (values : List ThreadValue) (ended : List Ending) (numbers calls : ℕ) : Type 0 where
  pub given : numbers ≤ most_numbers
  pub ends : length ended + live_groups groups ≤ numbers
  pub children : length codes + live_groups groups ≤ numbers
  pub results : length values + live sched.threads ≤ numbers
  pub made : sched.moments + waiting sched.threads ≤ 2 * calls + 1

abbrev pub IsFew : KernelState → Type 0
IsFew k = AreFew k.sched k.groups k.codes k.values k.ended k.numbers k.calls

-- a lateness list has at most so many entries
abbrev pub most_late : ℕ
most_late = 4096

-- each lateness is below 2^31 ticks, and so is each wait up to a deadline: time and deadlines grow by less than that
-- with each moment, and with each lateness that is used
pub record AreNear (time : ℕ) (late : List ℕ) (sched : Schedule) : Type 0 where
  pub lateness : Each (λ n. n < 2 ^ 31) late
  pub passed : time + 2 ^ 31 * length late ≤ 2 ^ 31 * (sched.moments + most_late)
  pub deadlines : EachStanding (λ t. deadline_of t.doing + 2 ^ 31 * length late ≤ 2 ^ 31 * (sched.moments + most_late)) sched.threads

abbrev pub IsTimely : KernelState → Type 0
IsTimely k = AreNear k.time k.late k.sched
