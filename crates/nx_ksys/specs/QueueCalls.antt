-- Calls on queues: nx_mq_open, mq_close, mq_unlink, mq_send, mq_receive, nx_mq_timedreceive.
use Rattle.std.specs.Prelude.{ℕ, ◌+◌, ◌==◌, ◌&&◌, ◌||◌, nat_le, nat_lt, min, max, Bool, false, not, if◌then◌else◌, List, [], ◌∷◌, ◌++◌, length, take, Option, Some, None, slice_get, slice_set, codes}
use Rattle.std.specs.List.{find, list_any, position_from}
use Rattle.std.specs.Option.{is_none}
use Rattle.std.specs.Str.{bytes_eq}
use Rattle.nx_base.specs.Replies.{most_moved}
use Rattle.nx_base.specs.declared.errno.Errno.TheVariants.{Enoent, Ebadf, Eagain, Eexist, Einval, Enospc, Emsgsize, Etimedout}
use Rattle.nx_ksys.specs.declared.node.Node.{Node}
use Rattle.nx_ksys.specs.declared.node.NodeKind.{NodeKind}
use Rattle.nx_ksys.specs.declared.node.NodeKind.TheVariants as node
use Rattle.nx_ksys.specs.declared.node.Target.{Target}
use Rattle.nx_ksys.specs.declared.node.Target.TheVariants as target
use Rattle.nx_ksys.specs.declared.thread.Asked.{Asked}
use Rattle.nx_ksys.specs.declared.thread.Thread.{Thread}
use Rattle.nx_ksys.specs.declared.thread.Wait.TheVariants as wait
use Rattle.nx_ksys.specs.declared.thread.Search.TheVariants as search
use Rattle.nx_ksys.specs.Threads.{Schedule, flat, first_of, slot_of, Woken, woken_with}
use Rattle.nx_ksys.specs.State.{Message, Queue, KernelState, blocks_for, free_blocks, objects}
use Rattle.nx_ksys.specs.Paths.{node_at, entries_but}
use Rattle.nx_ksys.specs.Descriptors.{has_flag, may_read, may_write, creates, is_exclusive, never_waits, Opened, opened, swept_target, closed}
use Rattle.nx_ksys.specs.FileCalls.{describe_new}
use Rattle.nx_ksys.specs.TreeCalls.{with_entries}
use Rattle.nx_ksys.specs.Answers.{Stepped, Caller, replied, replied_then, failed, waits, int_out, is_negative, word_at}

abbrev pub with_queue : KernelState → ℕ → Queue → KernelState
with_queue k place q = record k { queues = slice_set k.queues place (Some q) }

-- ---- nx_mq_open

-- 1 to 32 bytes without a slash, neither `.` nor `..`
abbrev pub is_queue_part : List ℕ → Bool
is_queue_part part = nat_le 1 (length part) && nat_le (length part) 32 && not (list_any (λ b. b == 47) part || bytes_eq part (codes ".") || bytes_eq part (codes ".."))

-- a slash and one part
abbrev pub is_queue_name : List ℕ → Bool
is_queue_name [] = false
is_queue_name (b ∷ part) = b == 47 && is_queue_part part

abbrev pub queue_path : List ℕ → List ℕ
queue_path name = codes "/var/mqueue" ++ name

-- O_RDONLY, O_WRONLY or both; O_CREAT, O_EXCL and O_NONBLOCK
abbrev pub are_queue_flags : ℕ → Bool
are_queue_flags flags = nat_le flags 127 && not (has_flag flags 16 || has_flag flags 32) && (has_flag flags 1 || has_flag flags 2)

-- a queue takes at most so many messages, of at most so many bytes
abbrev pub most_messages : ℕ
most_messages = 64

abbrev pub longest_message : ℕ
longest_message = 4096

abbrev pub are_queue_limits : ℕ → ℕ → Bool
are_queue_limits limit size = nat_le 1 limit && nat_le limit most_messages && nat_le 1 size && nat_le size longest_message

-- a new empty queue
abbrev pub with_new_queue : KernelState → List ℕ → ℕ → ℕ → ℕ → KernelState
with_new_queue k path place limit size =
    record (with_entries k (k.tree.entries ++ (path, record { kind = node.Queue place; fixed = false }) ∷ [])) { queues = slice_set k.queues place (Some (record { limit = limit; size = size; messages = [] })) }

abbrev pub create_queue_at : KernelState → Caller → List ℕ → ℕ → ℕ → ℕ → Option ℕ → Stepped
create_queue_at k c path flags limit size None = failed k c Enospc
create_queue_at k c path flags limit size (Some place) = describe_new k (with_new_queue k path place limit size) c (target.Queue place) flags

abbrev pub create_queue : KernelState → Caller → List ℕ → ℕ → ℕ → ℕ → Stepped
create_queue k c path flags limit size =
    if not (creates flags) then failed k c Enoent
    else if not (are_queue_limits limit size) then failed k c Einval
    else if nat_le k.limits.objects (objects k) then failed k c Enospc
    else create_queue_at k c path flags limit size (position_from is_none 0 k.queues)

-- only queues stand in their directory
abbrev pub open_queue : KernelState → Caller → ℕ → NodeKind → Stepped
open_queue k c flags (node.Queue place) = describe_new k k c (target.Queue place) flags
open_queue k c flags other = failed k c Einval

abbrev pub mq_open_node : KernelState → Caller → List ℕ → ℕ → ℕ → ℕ → Option Node → Stepped
mq_open_node k c path flags limit size None = create_queue k c path flags limit size
mq_open_node k c path flags limit size (Some n) = if is_exclusive flags then failed k c Eexist else open_queue k c flags n.kind

unfoldable pub mq_open_row : KernelState → Caller → List ℕ → ℕ → ℕ → ℕ → Stepped
mq_open_row k c name flags limit size =
    if not (is_queue_name name && are_queue_flags flags) then failed k c Einval
    else mq_open_node k c (queue_path name) flags limit size (node_at k.tree.entries (queue_path name))

-- ---- mq_unlink

-- a queue's path goes, and the queue with it where it lives no more
abbrev pub queue_unlinked : KernelState → List ℕ → ℕ → KernelState
queue_unlinked k path place = swept_target (with_entries k (entries_but path k.tree.entries)) (target.Queue place)

abbrev pub unlink_queue : KernelState → Caller → List ℕ → NodeKind → Stepped
unlink_queue k c path (node.Queue place) = replied (queue_unlinked k path place) c 0 []
unlink_queue k c path other = failed k c Einval

abbrev pub mq_unlink_node : KernelState → Caller → List ℕ → Option Node → Stepped
mq_unlink_node k c path None = failed k c Enoent
mq_unlink_node k c path (Some n) = unlink_queue k c path n.kind

unfoldable pub mq_unlink_row : KernelState → Caller → List ℕ → Stepped
mq_unlink_row k c name =
    if not (is_queue_name name) then failed k c Einval
    else mq_unlink_node k c (queue_path name) (node_at k.tree.entries (queue_path name))

-- ---- the queue of a descriptor

-- with the flags of its description
pub record QueueAt : Type 0 where
  pub place : ℕ
  pub flags : ℕ
  pub queue : Queue

abbrev pub queue_there : ℕ → ℕ → Option Queue → Option QueueAt
queue_there place flags None = None
queue_there place flags (Some q) = Some (record { place = place; flags = flags; queue = q })

abbrev pub queue_to : KernelState → ℕ → Target → Option QueueAt
queue_to k flags (target.Queue place) = queue_there place flags (flat (slice_get k.queues place))
queue_to k flags other = None

abbrev pub queue_behind : KernelState → Option Opened → Option QueueAt
queue_behind k None = None
queue_behind k (Some o) = queue_to k o.description.flags o.description.target

unfoldable pub queue_of : KernelState → Caller → ℕ → Option QueueAt
queue_of k c fd = queue_behind k (opened k c.place fd)

-- ---- mq_close

abbrev pub close_queue : KernelState → Caller → ℕ → Option QueueAt → Stepped
close_queue k c fd None = failed k c Ebadf
close_queue k c fd (Some q) = replied (closed k c.place fd) c 0 []

unfoldable pub mq_close_row : KernelState → Caller → ℕ → Stepped
mq_close_row k c fd = close_queue k c fd (queue_of k c fd)

-- ---- mq_send

-- the greatest priority of a message
abbrev pub highest_priority : ℕ
highest_priority = 31

abbrev pub is_full : Queue → Bool
is_full q = nat_le q.limit (length q.messages) || nat_le most_messages (length q.messages)

abbrev pub with_message : Queue → Message → Queue
with_message q m = record q { messages = q.messages ++ m ∷ [] }

-- a receiver has room for so many bytes
abbrev pub room_of : Asked → ℕ
room_of a = min (word_at a.words 2) most_moved

-- a waiting receiver gets a message, with its priority
abbrev pub delivered : Schedule → Thread → Message → Woken
delivered s t m = let bytes = take (room_of t.asked) m.bytes in woken_with s t (length bytes) (bytes ∷ int_out m.priority ∷ [])

-- the message that the thread of a slot waits to send
abbrev pub with_sent : List (Option Message) → Option ℕ → Option Message → List (Option Message)
with_sent sending None m = sending
with_sent sending (Some slot) m = slice_set sending slot m

-- a message that has its blocks joins the queue, or its sender waits until it may
abbrev pub send_joins : KernelState → Caller → QueueAt → Message → Stepped
send_joins k c q m =
    if is_full q.queue then waits (record k { sending = with_sent k.sending (slot_of k.sched.threads c.thread.number) (Some m) }) c (wait.Send q.place) None
    else replied (with_queue k q.place (with_message q.queue m)) c 0 []

-- the first receiver that waits gets the message, which takes no blocks then
abbrev pub send_to : KernelState → Caller → QueueAt → Message → Option Thread → Stepped
send_to k c q m (Some t) = replied_then k c 0 [] (delivered k.sched t m)
send_to k c q m None =
    if is_full q.queue && never_waits q.flags then failed k c Eagain
    else if nat_lt (free_blocks k) (blocks_for (length m.bytes)) then failed k c Enospc
    else send_joins k c q m

abbrev pub send_on : KernelState → Caller → Message → ℕ → Option QueueAt → Stepped
send_on k c m size None = failed k c Ebadf
send_on k c m size (Some q) =
    if not (may_write q.flags) then failed k c Ebadf
    else if nat_lt highest_priority m.priority then failed k c Einval
    else if nat_lt q.queue.size size then failed k c Emsgsize
    else send_to k c q m (first_of (search.Receiver q.place) k.sched.threads)

unfoldable pub mq_send_row : KernelState → Caller → ℕ → List ℕ → ℕ → ℕ → Stepped
mq_send_row k c fd bytes size priority = send_on k c (record { priority = priority; bytes = bytes }) size (queue_of k c fd)

-- ---- mq_receive, nx_mq_timedreceive

abbrev pub top_priority : List Message → ℕ
top_priority [] = 0
top_priority (m ∷ ms) = max m.priority (top_priority ms)

abbrev pub has_priority : ℕ → Message → Bool
has_priority priority m = m.priority == priority

-- the oldest message of the greatest priority
unfoldable pub next_message : List Message → Option Message
next_message ms = find (has_priority (top_priority ms)) ms

-- the messages without the oldest of a priority
abbrev pub without_oldest : ℕ → List Message → List Message
without_oldest priority [] = []
without_oldest priority (m ∷ ms) = if m.priority == priority then ms else m ∷ without_oldest priority ms

abbrev pub sent_at : List (Option Message) → Option ℕ → Option Message
sent_at sending None = None
sent_at sending (Some slot) = flat (slice_get sending slot)

abbrev pub with_sent_message : Queue → Option Message → Queue
with_sent_message q None = q
with_sent_message q (Some m) = with_message q m

-- the message that the thread of a slot waits to send joins the queue
abbrev pub joined : KernelState → ℕ → Queue → Option ℕ → KernelState
joined k place q slot = record (with_queue k place (with_sent_message q (sent_at k.sending slot))) { sending = with_sent k.sending slot None }

-- a queue from which a message was taken: the first sender that waits goes on
abbrev pub receive_then : KernelState → Caller → ℕ → Queue → List ℕ → ℕ → Option Thread → Stepped
receive_then k c place q bytes priority None = replied (with_queue k place q) c (length bytes) (bytes ∷ int_out priority ∷ [])
receive_then k c place q bytes priority (Some t) =
    replied_then (joined k place q (slot_of k.sched.threads t.number)) c (length bytes) (bytes ∷ int_out priority ∷ []) (woken_with k.sched t 0 [])

-- ticks that aren't given never end
abbrev pub receive_waits : KernelState → Caller → ℕ → Option ℕ → Stepped
receive_waits k c place None = waits k c (wait.Receive place) None
receive_waits k c place (Some ticks) = if ticks == 0 then failed k c Etimedout else waits k c (wait.Receive place) (Some (k.time + ticks))

abbrev pub receive_from : KernelState → Caller → QueueAt → ℕ → Option ℕ → Option Message → Stepped
receive_from k c q size ticks None = if never_waits q.flags then failed k c Eagain else receive_waits k c q.place ticks
receive_from k c q size ticks (Some m) =
    receive_then k c q.place (record q.queue { messages = without_oldest m.priority q.queue.messages }) (take (min size most_moved) m.bytes) m.priority
    (first_of (search.Sender q.place) k.sched.threads)

abbrev pub are_past : Option ℕ → Bool
are_past None = false
are_past (Some ticks) = is_negative ticks

abbrev pub receive_on : KernelState → Caller → ℕ → Option ℕ → Option QueueAt → Stepped
receive_on k c size ticks None = failed k c Ebadf
receive_on k c size ticks (Some q) =
    if not (may_read q.flags) then failed k c Ebadf
    else if are_past ticks then failed k c Einval
    else if nat_lt size q.queue.size then failed k c Emsgsize
    else receive_from k c q size ticks (next_message q.queue.messages)

unfoldable pub mq_receive_row : KernelState → Caller → ℕ → ℕ → Stepped
mq_receive_row k c fd size = receive_on k c size None (queue_of k c fd)

unfoldable pub mq_timedreceive_row : KernelState → Caller → ℕ → ℕ → ℕ → Stepped
mq_timedreceive_row k c fd size ticks = receive_on k c size (Some ticks) (queue_of k c fd)
