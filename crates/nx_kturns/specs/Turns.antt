-- Boot, and what happens between calls.
use Rattle.std.specs.Prelude.{◌≡◌, ◌≤◌, ◌-◌, ℕ, List, [], length, Option, Some, None, slice_get}
use Rattle.nx_base.specs.Calls.{Reply}
use Rattle.nx_base.specs.declared.errno.Errno.TheVariants.{Efault}
use Rattle.nx_ksys.specs.declared.thread.Thread.{Thread}
use Rattle.nx_ksys.specs.declared.pick.Pick.{Pick}
use Rattle.nx_ksys.specs.Threads.{thread_of}
use Rattle.nx_ksys.specs.State.{KernelState}
use Rattle.nx_ksys.specs.Ends.{WithReplies, end_group}
use Rattle.nx_ksys.specs.Answers.{place_of, with_errno}
use Rattle.nx_ksys.specs.Step.{counted}
use Rattle.nx_ksys.specs.Picking.{Picked}
use Rattle.nx_ksys.specs.Boot.{booted}
use Rattle.nx_config.specs.declared.limits.Limits.{Limits}
use Rattle.nx_pool.specs.declared.chain.Chain.{Chain}
use Rattle.nx_objects.specs.Tables.{chains_of}
use Rattle.nx_ktables.specs.declared.tables.Tables.{Tables}
use Rattle.nx_ktables.specs.State.{state_of, configured, rooms_of, first_rooms, IsPlaced}

-- tables as boot makes them
pub record IsFirst (content : Chain → List ℕ) (limits : Limits) (programs : List (List ℕ)) (input late : List ℕ) (t : Tables) : Type 0 where
  pub several : 2 ≤ limits.threads
  pub names : (place : ℕ) (name : List ℕ) → slice_get programs place ≡ Some name → length name ≤ 250
  pub state : state_of content t ≡ booted (configured limits programs) (limits.threads - 1) input late
  pub chains : chains_of t.objects ≡ []
  pub rooms : rooms_of t ≡ first_rooms limits programs
  pub placed : IsPlaced t
  pub slots : length t.threads.threads ≡ limits.threads

-- the state, the replies and the choice are these
pub record Picks (now : KernelState) (told : List Reply) (chosen : Pick) (p : Picked) : Type 0 where
  pub state : now ≡ p.to
  pub replies : told ≡ p.replies
  pub pick : chosen ≡ p.pick

-- the group at a place ends with a code; where there is none nothing happens
abbrev pub ended_at : KernelState → ℕ → Option ℕ → WithReplies
ended_at k code None = record { to = k; replies = [] }
ended_at k code (Some place) = end_group k place code

abbrev pub ended_with : KernelState → ℕ → Option Thread → WithReplies
ended_with k code None = record { to = k; replies = [] }
ended_with k code (Some t) = ended_at k code (place_of k.groups t.group)

-- the group of a thread ends with a code
unfoldable pub killed : KernelState → ℕ → ℕ → WithReplies
killed k thread code = ended_with k code (thread_of k.sched.threads thread)

-- a call of which a pointer leads nowhere counts, and fails
abbrev pub faulted : KernelState → ℕ → KernelState
faulted k thread = with_errno (counted k) thread Efault
