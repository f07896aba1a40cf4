-- The kernel's state, as plain data.
use Rattle.std.specs.Prelude.{ℕ, ◌+◌, ◌-◌, ◌/◌, Bool, true, false, not, ◌&&◌, List, [], ◌∷◌, length, Option, Some, None}
use Rattle.std.specs.List.{count_by}
use Rattle.std.specs.Option.{is_some}
use Rattle.nx_ksys.specs.declared.node.Node.{Node}
use Rattle.nx_ksys.specs.declared.node.NodeKind.{NodeKind}
use Rattle.nx_ksys.specs.declared.node.NodeKind.TheVariants as node
use Rattle.nx_ksys.specs.declared.node.Open.{Open}
use Rattle.nx_ksys.specs.Threads.{Schedule}

-- the paths with what stands at each, and the bytes of files by place. A file that no path names lives while it is open
pub record FileTree : Type 0 where
  pub entries : List (List ℕ × Node)
  pub files : List (Option (List ℕ))

-- a message
pub record Message : Type 0 where
  pub priority : ℕ
  pub bytes : List ℕ

-- a queue: how many messages and of how many bytes it takes, and its messages in the order of their sending
pub record Queue : Type 0 where
  pub limit : ℕ
  pub size : ℕ
  pub messages : List Message

-- a semaphore
pub record Semaphore : Type 0 where
  pub name : List ℕ
  pub value : ℕ

-- a task group: the number of its main thread, its program's place, the number of its parent or 0, its
-- directory, its arguments, and its environment in the order in which the names came
pub record Group : Type 0 where
  pub number : ℕ
  pub program : ℕ
  pub parent : ℕ
  pub directory : List ℕ
  pub arguments : List (List ℕ)
  pub environment : List (List ℕ × List ℕ)

-- the code of a child that ended, which its parent has not taken
pub record Code : Type 0 where
  pub parent : ℕ
  pub child : ℕ
  pub code : ℕ

-- the value of a thread that ended, which no thread of its group has taken
pub record ThreadValue : Type 0 where
  pub group : ℕ
  pub thread : ℕ
  pub value : ℕ

-- a group that ended: its number, its program's place, and its code
pub record Ending : Type 0 where
  pub pid : ℕ
  pub name : ℕ
  pub code : ℕ

-- what stays from boot on: the names of the programs, all blocks of 64 bytes, the most objects, and the most console bytes
pub record Limits : Type 0 where
  pub programs : List (List ℕ)
  pub blocks : ℕ
  pub objects : ℕ
  pub console : ℕ

-- A group's place is the slot of its main thread. Its descriptor number d stands at 32 times that place and d,
-- and has the place of its description. Places of descriptions, files, queues and semaphores are the least that are
-- free, and no call shows them
pub record KernelState : Type 0 where
  pub limits : Limits
  pub sched : Schedule
  pub time : ℕ
  pub late : List ℕ
  pub groups : List (Option Group)
  pub codes : List Code
  pub values : List ThreadValue
  pub descriptors : List (Option ℕ)
  pub opens : List (Option Open)
  pub tree : FileTree
  pub queues : List (Option Queue)
  pub sending : List (Option Message)
  pub semaphores : List (Option Semaphore)
  pub console : List ℕ
  pub input : List ℕ
  pub numbers : ℕ
  pub ended : List Ending
  pub calls : ℕ

-- the blocks of 64 bytes that so many bytes fill
abbrev pub blocks_for : ℕ → ℕ
blocks_for n = (n + 63) / 64

abbrev pub file_blocks : List (Option (List ℕ)) → ℕ
file_blocks [] = 0
file_blocks (None ∷ fs) = file_blocks fs
file_blocks (Some bytes ∷ fs) = blocks_for (length bytes) + file_blocks fs

abbrev pub message_blocks : List Message → ℕ
message_blocks [] = 0
message_blocks (m ∷ ms) = blocks_for (length m.bytes) + message_blocks ms

abbrev pub queue_blocks : List (Option Queue) → ℕ
queue_blocks [] = 0
queue_blocks (None ∷ qs) = queue_blocks qs
queue_blocks (Some q ∷ qs) = message_blocks q.messages + queue_blocks qs

abbrev pub sending_blocks : List (Option Message) → ℕ
sending_blocks [] = 0
sending_blocks (None ∷ ms) = sending_blocks ms
sending_blocks (Some m ∷ ms) = blocks_for (length m.bytes) + sending_blocks ms

-- the free blocks: all, less those of files, of messages, and of the messages that wait to be sent
abbrev pub free_blocks : KernelState → ℕ
free_blocks k = k.limits.blocks - (file_blocks k.tree.files + queue_blocks k.queues + sending_blocks k.sending)

abbrev pub is_directory : NodeKind → Bool
is_directory node.Directory = true
is_directory other = false

abbrev pub is_made_directory : List ℕ × Node → Bool
is_made_directory e = is_directory e.1.kind && not e.1.fixed

-- the objects: directories that were made after boot, and the files, queues and semaphores that live
abbrev pub objects : KernelState → ℕ
objects k = count_by is_made_directory k.tree.entries + count_by is_some k.tree.files + count_by is_some k.queues + count_by is_some k.semaphores
