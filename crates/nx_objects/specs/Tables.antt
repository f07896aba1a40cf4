-- What groups have open, with chains in place of bytes, and the state for which it stands.
use Rattle.std.specs.Prelude.{◌≡◌, ℕ, ◌+◌, ◌-◌, ◌*◌, ◌≤◌, ◌++◌, List, [], ◌∷◌, Some, None, length, replicate}
use Rattle.nx_pool.specs.declared.chain.Chain.{Chain}
use Rattle.nx_ksys.specs.Threads.{Schedule}
use Rattle.nx_ksys.specs.State.{KernelState}
use Rattle.nx_ksys.specs.Descriptors.{per_group}
use Rattle.nx_ksys.specs.Boot.{with_places, console_open, first_entries}
use Rattle.nx_fs.specs.Chains as fs
use Rattle.nx_ipc.specs.Tables as ipc
use Rattle.nx_objects.specs.declared.objects.Objects.{Objects}

-- the chains of files, and then those of messages
abbrev pub chains_of : Objects → List Chain
chains_of o = fs.chains_of o.files ++ ipc.chains_of o.queues

-- a state with these threads and objects, where chains have these bytes
abbrev pub with_objects : KernelState → Schedule → (Chain → List ℕ) → Objects → KernelState
with_objects k sched content o = record k {
  sched = sched;
  descriptors = o.descriptors;
  opens = o.descriptions;
  tree = record { entries = o.tree.entries; files = fs.files_of content o.files };
  queues = ipc.queues_of content o.queues.queues;
  sending = ipc.sending_of content o.queues.sending;
  semaphores = o.semaphores;
}

-- for each of at most 64 threads there are 32 places for descriptors and 32 for descriptions; there are at most 65,536
-- for queues and for semaphores
pub record ArePlaced (threads : ℕ) (o : Objects) : Type 0 where
  pub few : threads ≤ 64
  pub descriptors : length o.descriptors ≡ 32 * threads
  pub descriptions : length o.descriptions ≡ 32 * threads
  pub queues : length o.queues.queues ≤ 65536
  pub semaphores : length o.semaphores ≤ 65536

-- each table has the places that it had, and the tree its room for paths
pub record SamePlaces (old new : Objects) : Type 0 where
  pub descriptors : length new.descriptors ≡ length old.descriptors
  pub descriptions : length new.descriptions ≡ length old.descriptions
  pub queues : length new.queues.queues ≡ length old.queues.queues
  pub semaphores : length new.semaphores ≡ length old.semaphores
  pub paths : new.tree.limit ≡ old.tree.limit

-- the objects of boot, with those of programs, for so many groups and so many objects
pub record IsBooted (programs : List (List ℕ)) (groups objects : ℕ) (o : Objects) : Type 0 where
  pub descriptors : o.descriptors ≡ with_places (Some 0 ∷ Some 0 ∷ Some 0 ∷ []) (29 + per_group * (groups - 1))
  pub descriptions : o.descriptions ≡ with_places (Some console_open ∷ []) (31 + per_group * (groups - 1))
  pub entries : o.tree.entries ≡ first_entries programs
  pub room : o.tree.limit ≡ length (first_entries programs) + objects
  pub files : o.files ≡ replicate objects None
  pub queues : o.queues.queues ≡ replicate objects None
  pub sending : o.queues.sending ≡ replicate groups None
  pub semaphores : o.semaphores ≡ replicate objects None
