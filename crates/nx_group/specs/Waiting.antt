-- How many threads wait.
use Rattle.std.specs.Prelude.{ℕ, ◌+◌, List, [], ◌∷◌, Option, Some, None, if◌then◌else◌}
use Rattle.nx_ksys.specs.declared.thread.Thread.{Thread}
use Rattle.nx_ksys.specs.Threads.{is_ready}

abbrev pub waits_one : Option Thread → ℕ
waits_one None = 0
waits_one (Some t) = if is_ready t.doing then 0 else 1

abbrev pub waiting : List (Option Thread) → ℕ
waiting [] = 0
waiting (t ∷ ts) = waits_one t + waiting ts
