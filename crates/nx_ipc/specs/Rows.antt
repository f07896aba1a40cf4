-- What a call on a queue is told, as the state and the replies that it leaves.
use Rattle.std.specs.Prelude.{ℕ, ◌≡◌, ◌≤◌, ◌+◌, ⊤, Bool, false, List, [], ◌∷◌, length, take, slice_get, Option, Some, None, Result, Ok, Err}
use Rattle.arrayvec.specs.ArrayVec.{ArrayVec}
use Rattle.nx_base.specs.declared.errno.Errno.{Errno}
use Rattle.nx_ksys.specs.declared.node.Target.TheVariants as target
use Rattle.nx_ksys.specs.declared.thread.Thread.{Thread}
use Rattle.nx_ksys.specs.declared.thread.Wait.TheVariants as wait
use Rattle.nx_ksys.specs.Threads.{slot_of, woken_with}
use Rattle.nx_ksys.specs.State.{Message, Queue, KernelState}
use Rattle.nx_ksys.specs.Paths.{node_at}
use Rattle.nx_ksys.specs.FileCalls.{describe_new}
use Rattle.nx_ksys.specs.Answers.{Stepped, Caller, replied, replied_then, failed, waits, int_out}
use Rattle.nx_ksys.specs.QueueCalls.{QueueAt, with_queue, with_new_queue, mq_open_node, mq_unlink_node, queue_unlinked, with_message, with_sent, delivered, next_message, receive_from}
use Rattle.nx_ipc.specs.declared.sent.Sent.{Sent}
use Rattle.nx_ipc.specs.declared.sent.Sent.TheVariants as sent
use Rattle.nx_ipc.specs.declared.received.Received.{Received}
use Rattle.nx_ipc.specs.declared.received.Received.TheVariants as received
use Rattle.nx_ipc.specs.declared.opening.Opening.{Opening}
use Rattle.nx_ipc.specs.declared.opening.Opening.TheVariants as opening

-- ---- opening

-- the call goes on with what stands at a path
abbrev pub opens_path : KernelState → Caller → ℕ → ℕ → ℕ → Result (ArrayVec ℕ) Errno → Stepped
opens_path k c flags limit size (Err e) = failed k c e
opens_path k c flags limit size (Ok path) = mq_open_node k c path.items flags limit size (node_at k.tree.entries path.items)

-- what was found or is to be made gets a description
abbrev pub opens_told : KernelState → Caller → List ℕ → ℕ → ℕ → ℕ → Result Opening Errno → Stepped
opens_told k c path flags limit size (Err e) = failed k c e
opens_told k c path flags limit size (Ok (opening.Found place)) = describe_new k k c (target.Queue place) flags
opens_told k c path flags limit size (Ok (opening.Made place)) = describe_new k (with_new_queue k path place limit size) c (target.Queue place) flags

-- ---- unlinking

abbrev pub unlinks_path : KernelState → Caller → Result (ArrayVec ℕ) Errno → Stepped
unlinks_path k c (Err e) = failed k c e
unlinks_path k c (Ok path) = mq_unlink_node k c path.items (node_at k.tree.entries path.items)

-- the path of the queue at a place goes
abbrev pub unlinks_told : KernelState → Caller → List ℕ → Result ℕ Errno → Stepped
unlinks_told k c path (Err e) = failed k c e
unlinks_told k c path (Ok place) = replied (queue_unlinked k path place) c 0 []

-- ---- sending

-- what a send does
abbrev pub sends : KernelState → Caller → QueueAt → Message → Result Sent Errno → Stepped
sends k c q m (Err e) = failed k c e
sends k c q m (Ok sent.Joined) = replied (with_queue k q.place (with_message q.queue m)) c 0 []
sends k c q m (Ok sent.Waits) = waits (record k { sending = with_sent k.sending (slot_of k.sched.threads c.thread.number) (Some m) }) c (wait.Send q.place) None
sends k c q m (Ok (sent.Delivered t)) = replied_then k c 0 [] (delivered k.sched t m)

-- and what is told of it once it is done
abbrev pub send_told : KernelState → Caller → ℕ → Message → Result Sent Errno → Stepped
send_told k c place m (Err e) = failed k c e
send_told k c place m (Ok sent.Joined) = replied k c 0 []
send_told k c place m (Ok sent.Waits) = waits k c (wait.Send place) None
send_told k c place m (Ok (sent.Delivered t)) = replied_then k c 0 [] (delivered k.sched t m)

-- a message that joins or waits has its blocks, and one that joins finds the queue not full
abbrev pub has_room : ℕ → ℕ → Bool → Sent → Type 0
has_room need free full sent.Joined = (need ≤ free) × (full ≡ false)
has_room need free full sent.Waits = need ≤ free
has_room need free full (sent.Delivered t) = ⊤

-- ---- receiving

abbrev pub deadline_after : ℕ → Option ℕ → Option ℕ
deadline_after time None = None
deadline_after time (Some ticks) = Some (time + ticks)

-- a message was received, and the sender that waited goes on
abbrev pub message_told : KernelState → Caller → ℕ → List ℕ → ℕ → Option Thread → Stepped
message_told k c count bytes priority None = replied k c count (bytes ∷ int_out priority ∷ [])
message_told k c count bytes priority (Some t) = replied_then k c count (bytes ∷ int_out priority ∷ []) (woken_with k.sched t 0 [])

abbrev pub receive_told : KernelState → Caller → ℕ → Option ℕ → List ℕ → Option Thread → Result Received Errno → Stepped
receive_told k c place ticks into sender (Err e) = failed k c e
receive_told k c place ticks into sender (Ok received.Waits) = waits k c (wait.Receive place) (deadline_after k.time ticks)
receive_told k c place ticks into sender (Ok (received.Message t)) = message_told k c t.count (take t.count into) t.priority sender

-- the call goes on with the queue's next message
abbrev pub receive_goes_on : KernelState → Caller → QueueAt → ℕ → Option ℕ → Result Unit Errno → Stepped
receive_goes_on k c q size ticks (Err e) = failed k c e
receive_goes_on k c q size ticks (Ok nothing) = receive_from k c q size ticks (next_message q.queue.messages)

-- a message that was received has at most so many bytes
abbrev pub is_within : ℕ → Received → Type 0
is_within room received.Waits = ⊤
is_within room (received.Message t) = t.count ≤ room
