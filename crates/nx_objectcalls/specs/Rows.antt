-- What a call on objects is told, as the state and the replies that it leaves.
use Rattle.std.specs.Prelude.{ℕ, List, [], ◌∷◌, take, Option, Some, None, Result, Ok, Err, slice_get, slice_set}
use Rattle.nx_base.specs.declared.errno.Errno.TheVariants.{Emfile}
use Rattle.nx_base.specs.declared.errno.Errno.{Errno}
use Rattle.nx_ksys.specs.declared.node.Open.{Open}
use Rattle.nx_ksys.specs.declared.node.Target.{Target}
use Rattle.nx_ksys.specs.State.{KernelState}
use Rattle.nx_ksys.specs.Answers.{Stepped, Caller, replied, failed}
use Rattle.nx_ksys.specs.Descriptors.{set_descriptor}
use Rattle.nx_ksys.specs.Threads.{flat}
use Rattle.nx_ksys.specs.FileCalls.{described, write_some, read_target}
use Rattle.nx_ksys.specs.QueueCalls.{QueueAt, queue_there}
use Rattle.nx_ksys.specs.SemaphoreCalls.{SemaphoreAt, semaphore_there}
use Rattle.nx_fs.specs.Rows.{opened_at}
use Rattle.nx_objects.specs.declared.descriptors.Found.{Found}
use Rattle.nx_objects.specs.declared.objects.Objects.{Objects}
use Rattle.nx_objectcalls.specs.declared.leading.Led.{Led}
use Rattle.nx_objectcalls.specs.declared.room.Room.{Room}

-- what was just opened
abbrev pub opened_first : Target → ℕ → Open
opened_first to flags = record { target = to; flags = flags; offset = 0 }

-- a new description comes to a room, or there is none
abbrev pub described_in : KernelState → KernelState → Caller → Target → ℕ → Option Room → Stepped
described_in old k c to flags None = failed old c Emfile
described_in old k c to flags (Some r) = described k c (opened_first to flags) r.fd r.place

-- and so the objects have it
abbrev pub with_description : Objects → ℕ → Room → Target → ℕ → Objects
with_description o group r to flags =
    record o { descriptors = set_descriptor o.descriptors group r.fd (Some r.place); descriptions = slice_set o.descriptions r.place (Some (opened_first to flags)) }

-- a description stands at another offset
abbrev pub moved_to : Objects → Found → ℕ → Objects
moved_to o f offset = record o { descriptions = slice_set o.descriptions f.place (Some (record f.description { offset = offset })) }

-- bytes that were read into a buffer, and how many
abbrev pub bytes_told : KernelState → Caller → List ℕ → Result ℕ Errno → Stepped
bytes_told k c buffer (Err e) = failed k c e
bytes_told k c buffer (Ok count) = replied k c count (take count buffer ∷ [])

-- a description that may be written is written, and one that may be read is read
abbrev pub writes_told : KernelState → Caller → List ℕ → Result Found Errno → Stepped
writes_told k c bytes (Err e) = failed k c e
writes_told k c bytes (Ok f) = write_some k c (opened_at f.place f.description) bytes

abbrev pub reads_told : KernelState → Caller → ℕ → Result Found Errno → Stepped
reads_told k c room (Err e) = failed k c e
reads_told k c room (Ok f) = read_target k c (opened_at f.place f.description) room f.description.target

-- the queue, and the semaphore, to which a descriptor leads
abbrev pub queue_led : KernelState → Option Led → Option QueueAt
queue_led k None = None
queue_led k (Some l) = queue_there l.place l.flags (flat (slice_get k.queues l.place))

abbrev pub semaphore_led : KernelState → Option ℕ → Option SemaphoreAt
semaphore_led k None = None
semaphore_led k (Some place) = semaphore_there place (flat (slice_get k.semaphores place))
