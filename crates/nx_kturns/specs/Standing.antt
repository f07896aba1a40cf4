-- When tables and a store stand for a state that was reached.
use Rattle.std.specs.Prelude.{ℕ, ◌≡◌, ◌≤◌, ◌+◌, List, Some, length, slice_get}
use Rattle.nx_pool.specs.declared.chain.Chain.{Chain}
use Rattle.nx_ksys.specs.State.{KernelState}
use Rattle.nx_ksys.specs.GroupCalls.{most_numbers}
use Rattle.nx_ksys.specs.Boot.{first_entries}
use Rattle.nx_ksys.specs.Bounds.{IsBounded}
use Rattle.nx_ksys.specs.Soundness.{IsSound}
use Rattle.nx_kbounds.specs.Counts.{IsFew, IsTimely}
use Rattle.nx_kbounds.specs.Shortness.{IsShort}
use Rattle.nx_objects.specs.Tables.{chains_of}
use Rattle.nx_ktables.specs.declared.tables.Tables.{Tables}
use Rattle.nx_ktables.specs.State.{state_of, IsPlaced}

-- what holds of each state that is reached
pub record IsReached (k : KernelState) : Type 0 where
  pub sound : IsSound k
  pub few : IsFew k
  pub timely : IsTimely k
  pub short : IsShort k
  pub bounded : IsBounded (length (first_entries k.limits.programs)) k

-- a run makes at most so many calls
abbrev pub most_calls : ℕ
most_calls = 1000000000

-- the chains of the tables are all that a store has handed out; tables have room for what any state may have
pub record Stands (holds : List Chain → Type 0) (content : Chain → List ℕ) (blocks : ℕ) (t : Tables) : Type 0 where
  pub held : holds (chains_of t.objects)
  pub store : t.blocks ≡ blocks
  pub placed : IsPlaced t
  pub several : 2 ≤ length t.threads.threads
  pub variables : length t.environments ≡ length t.threads.threads
  pub paths : t.objects.tree.limit ≡ length (first_entries t.programs.items) + t.limit
  pub codes : t.codes.room ≡ most_numbers
  pub values : t.values.room ≡ most_numbers
  pub ends : t.ended.room ≡ most_numbers
  pub names : (place : ℕ) (name : List ℕ) → slice_get t.programs.items place ≡ Some name → length name ≤ 250
  pub calls : t.calls ≤ most_calls
  pub reached : IsReached (state_of content t)
