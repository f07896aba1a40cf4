-- What leads somewhere leads to what stands there.
use Rattle.std.specs.Prelude.{ℕ, ◌≡◌, ◌≤◌, ◌/◌, ◌*◌, true, List, Option, Some}
use Rattle.std.specs.List.{count_by}
use Rattle.std.specs.Option.{is_some}
use Rattle.nx_base.specs.Calls.{AreInputs}
use Rattle.nx_base.specs.declared.calls.KCall.{KCall}
use Rattle.nx_ksys.specs.declared.node.Open.{Open}
use Rattle.nx_ksys.specs.declared.node.Target.{Target}
use Rattle.nx_ksys.specs.declared.node.Target.TheVariants as target
use Rattle.nx_ksys.specs.declared.thread.Thread.{Thread}
use Rattle.nx_ksys.specs.declared.thread.Wait.{Wait}
use Rattle.nx_ksys.specs.declared.thread.Wait.TheVariants as wait
use Rattle.nx_ksys.specs.Threads.{awaited}
use Rattle.nx_ksys.specs.State.{Queue, Semaphore, Group, Limits, KernelState}
use Rattle.nx_ksys.specs.Descriptors.{per_group, is_held}
use Rattle.nx_ksys.specs.Ends.{end_group}
use Rattle.nx_ksys.specs.Step.{step}
use Rattle.nx_ksys.specs.Picking.{picked}
use Rattle.nx_ksys.specs.Boot.{booted}
use Rattle.nx_ksys.specs.Bounds.{stands, IsBounded}
use Rattle.nx_ksys.specs.Soundness.{Stands, EachStanding, IsSound}
use Rattle.nx_ksys.specs.TableLaws.{kinds_in}
use Rattle.nx_kbounds.specs.Counts.{live_groups}

-- what a description leads to stands
abbrev pub TargetStands : List (Option (List ℕ)) → List (Option Queue) → List (Option Semaphore) → Target → Type 0
TargetStands files queues semaphores (target.File place) = stands files place ≡ true
TargetStands files queues semaphores (target.Queue place) = stands queues place ≡ true
TargetStands files queues semaphores (target.Semaphore place) = stands semaphores place ≡ true
TargetStands files queues semaphores other = Unit {0}

-- the queue or semaphore for which a thread waits stands
abbrev pub WaitStands : List (Option Queue) → List (Option Semaphore) → Option Wait → Type 0
WaitStands queues semaphores (Some (wait.Receive place)) = stands queues place ≡ true
WaitStands queues semaphores (Some (wait.Send place)) = stands queues place ≡ true
WaitStands queues semaphores (Some (wait.Semaphore place)) = stands semaphores place ≡ true
WaitStands queues semaphores other = Unit {0}

-- open descriptors are of live groups, and lead to descriptions that stand; a description has a descriptor, and what it
-- leads to stands; so does what a thread waits for
pub record AreLed (groups : List (Option Group)) (descriptors : List (Option ℕ)) (opens : List (Option Open)) (files : List (Option (List ℕ))) (queues : List (Option Queue)) (semaphores : List (Option Semaphore)) (threads : List (Option Thread)) : Type 0 where
  pub owned : (i d : ℕ) → Stands descriptors i d → stands groups (i / per_group) ≡ true
  pub described : (i d : ℕ) → Stands descriptors i d → stands opens d ≡ true
  pub held : (place : ℕ) (o : Open) → Stands opens place o → is_held place descriptors ≡ true
  pub leads : EachStanding (λ o. TargetStands files queues semaphores o.target) opens
  pub waits : EachStanding (λ t. WaitStands queues semaphores (awaited t.doing)) threads

abbrev pub IsLed : KernelState → Type 0
IsLed k = AreLed k.groups k.descriptors k.opens k.tree.files k.queues k.semaphores k.sched.threads

abbrev pub BootIsLed : Type 0
BootIsLed = (limits : Limits) (others : ℕ) (input late : List ℕ) → IsLed (booted limits others input late)

-- where paths lead to files and queues that stand
abbrev pub CallsStayLed : Type 0
CallsStayLed = (first : ℕ) (k : KernelState) (thread : ℕ) (which : Option KCall) (words : List ℕ) (inputs : List (List ℕ)) → IsSound k → AreInputs (kinds_in which) words inputs → IsBounded first k → IsLed k → IsLed (step k thread which words inputs).to

abbrev pub ChoicesStayLed : Type 0
ChoicesStayLed = (first : ℕ) (k : KernelState) → IsBounded first k → IsLed k → IsLed (picked k).to

abbrev pub EndsStayLed : Type 0
EndsStayLed = (first : ℕ) (k : KernelState) (place code : ℕ) → IsBounded first k → IsLed k → IsLed (end_group k place code).to

-- so there are no more descriptions than 32 for each live group
abbrev pub DescriptionsAreFew : Type 0
DescriptionsAreFew = (k : KernelState) → IsLed k → count_by is_some k.opens ≤ per_group * live_groups k.groups
