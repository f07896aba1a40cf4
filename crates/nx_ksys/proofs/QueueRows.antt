-- Queues: who waits for a message or for room, and who goes on.
use Rattle.std.proofs.Common.{◌≡◌, ℕ, ◌+◌, ◌==◌, ◌≤◌, ◌&&◌, List, [], ◌∷◌, length, take, min, Option, Some, None, refl}
use Rattle.std.specs.Prelude.{not, nat_le, nat_lt}
use Rattle.std.specs.List.{position_from}
use Rattle.std.specs.Option.{is_none}
use Rattle.nx_base.specs.Replies.{FitsCall, most_moved}
use Rattle.nx_base.specs.declared.errno.Errno.TheVariants as errno
use Rattle.nx_ksys.specs.declared.node.Node.{Node}
use Rattle.nx_ksys.specs.declared.node.NodeKind.{NodeKind}
use Rattle.nx_ksys.specs.declared.node.NodeKind.TheVariants as node
use Rattle.nx_ksys.specs.declared.node.Target.TheVariants as target
use Rattle.nx_ksys.specs.declared.thread.Asked.{Asked}
use Rattle.nx_ksys.specs.declared.thread.Thread.{Thread}
use Rattle.nx_ksys.specs.declared.thread.Wait.TheVariants as wait
use Rattle.nx_ksys.specs.declared.thread.Search.TheVariants as search
use Rattle.nx_ksys.specs.Threads.{first_of, slot_of, awaited, is_for_message, is_for_room, woken_with}
use Rattle.nx_ksys.specs.State.{Message, Queue, KernelState, blocks_for, free_blocks, objects}
use Rattle.nx_ksys.specs.Paths.{node_at}
use Rattle.nx_ksys.specs.Descriptors.{may_read, may_write, creates, is_exclusive, never_waits}
use Rattle.nx_ksys.specs.Answers.{Caller, int_out}
use Rattle.nx_ksys.specs.QueueCalls.{is_queue_name, queue_path, are_queue_flags, are_queue_limits, with_queue, with_new_queue, create_queue_at, open_queue, mq_open_node, mq_open_row, unlink_queue, mq_unlink_node, mq_unlink_row, QueueAt, queue_of, close_queue, mq_close_row, highest_priority, is_full, room_of, delivered, with_sent, send_joins, send_to, send_on, mq_send_row, next_message, without_oldest, joined, receive_then, receive_waits, receive_from, are_past, receive_on, mq_receive_row, mq_timedreceive_row}
use Rattle.nx_ksys.specs.ThreadTable.{ThreadRow}
use Rattle.nx_ksys.specs.Soundness.{IsReceiving}
use Rattle.nx_ksys.specs.TableLaws.{kinds_in}
use Rattle.nx_ksys.proofs.Standing.{take_short}
use Rattle.nx_ksys.proofs.Waking.{nothing_fits, fits_receive, wakes_with, first_stands, awaited_waits, message_asked}
use Rattle.nx_ksys.proofs.FileRows.{closed_keeps, describes}
use Rattle.nx_ksys.proofs.Owing.{keeps_refl, keeps_same, Calls, Lawful, either, answers, plain, fails, blocks, blocks_sending, answers_then}

-- a message of so many bytes with its priority fits the call, for a buffer of a size
abbrev pub TakesMessage : Asked → ℕ → Type 0
TakesMessage a size = (o : List ℕ) (n : ℕ) → length o ≤ min size most_moved → FitsCall (kinds_in a.call) a.words (o ∷ int_out n ∷ [])

pub mq_open_lawful : (k : KernelState) (c : Caller) (x : ThreadRow) (h : Calls k c) (name : List ℕ) (flags limit size : ℕ) → Lawful k c x (mq_open_row k c name flags limit size)
unfolding mq_open_row
mq_open_lawful k c x h name flags limit size =
    either k c x (not (is_queue_name name && are_queue_flags flags)) _ _ (fails k c x h errno.Einval) (by_node (queue_path name) (node_at k.tree.entries (queue_path name)))
  where
    by_place : (path : List ℕ) (place : Option ℕ) → Lawful k c x (create_queue_at k c path flags limit size place)
    by_place path None = fails k c x h errno.Enospc
    by_place path (Some place) = describes k (with_new_queue k path place limit size) c x h (target.Queue place) flags (record { sched = refl; groups = refl; numbers = refl })

    by_kind : (n : NodeKind) → Lawful k c x (open_queue k c flags n)
    by_kind node.Directory = fails k c x h errno.Einval
    by_kind (node.File place) = fails k c x h errno.Einval
    by_kind node.Console = fails k c x h errno.Einval
    by_kind node.Null = fails k c x h errno.Einval
    by_kind (node.Program place) = fails k c x h errno.Einval
    by_kind (node.Queue place) = describes k k c x h (target.Queue place) flags (record { sched = refl; groups = refl; numbers = refl })

    by_node : (path : List ℕ) (n : Option Node) → Lawful k c x (mq_open_node k c path flags limit size n)
    by_node path None =
        either k c x (not (creates flags)) _ _ (fails k c x h errno.Enoent) (either k c x (not (are_queue_limits limit size)) _ _ (fails k c x h errno.Einval)
        (either k c x (nat_le k.limits.objects (objects k)) _ _ (fails k c x h errno.Enospc) (by_place path (position_from is_none 0 k.queues))))
    by_node path (Some n) = either k c x (is_exclusive flags) _ _ (fails k c x h errno.Eexist) (by_kind n.kind)

pub mq_unlink_lawful : (k : KernelState) (c : Caller) (x : ThreadRow) (h : Calls k c) (name : List ℕ) → Lawful k c x (mq_unlink_row k c name)
unfolding mq_unlink_row
mq_unlink_lawful k c x h name = either k c x (not (is_queue_name name)) _ _ (fails k c x h errno.Einval) (by_node (queue_path name) (node_at k.tree.entries (queue_path name)))
  where
    by_kind : (path : List ℕ) (n : NodeKind) → Lawful k c x (unlink_queue k c path n)
    by_kind path node.Directory = fails k c x h errno.Einval
    by_kind path (node.File place) = fails k c x h errno.Einval
    by_kind path node.Console = fails k c x h errno.Einval
    by_kind path node.Null = fails k c x h errno.Einval
    by_kind path (node.Program place) = fails k c x h errno.Einval
    by_kind path (node.Queue place) = plain k c x h _ 0 (record { sound = λ s. s; table = refl; slots = refl })

    by_node : (path : List ℕ) (n : Option Node) → Lawful k c x (mq_unlink_node k c path n)
    by_node path None = fails k c x h errno.Enoent
    by_node path (Some n) = by_kind path n.kind

pub mq_close_lawful : (k : KernelState) (c : Caller) (x : ThreadRow) (h : Calls k c) (fd : ℕ) → Lawful k c x (mq_close_row k c fd)
unfolding mq_close_row
mq_close_lawful k c x h fd = by_queue (queue_of k c fd)
  where
    by_queue : (q : Option QueueAt) → Lawful k c x (close_queue k c fd q)
    by_queue None = fails k c x h errno.Ebadf
    by_queue (Some q) = plain k c x h _ 0 (keeps_same k _ (closed_keeps k c.place fd))

pub mq_send_lawful : (k : KernelState) (c : Caller) (x : ThreadRow) (h : Calls k c) (fd : ℕ) (bytes : List ℕ) (size priority : ℕ) → Lawful k c x (mq_send_row k c fd bytes size priority)
unfolding mq_send_row
mq_send_lawful k c x h fd bytes size priority = by_queue (record { priority = priority; bytes = bytes }) (queue_of k c fd)
  where
    joins : (m : Message) (q : QueueAt) → Lawful k c x (send_joins k c q m)
    joins m q =
        either k c x (is_full q.queue) _ _ (blocks_sending k c x h (with_sent k.sending (slot_of k.sched.threads c.thread.number) (Some m)) (wait.Send q.place) None tt)
        (plain k c x h _ 0 (record { sound = λ s. s; table = refl; slots = refl }))

    by_receiver : (m : Message) (q : QueueAt) (t : Option Thread) → first_of (search.Receiver q.place) k.sched.threads ≡ t → Lawful k c x (send_to k c q m t)
    by_receiver m q (Some t) e =
        let f = first_stands (search.Receiver q.place) k.sched.threads t e in
        let o = h.sound.each_thread f.slot t f.stands in
        let taken = take (room_of t.asked) m.bytes in
        answers_then k c x h k 0 [] (delivered k.sched t m) (keeps_refl k) (nothing_fits c.asked)
        (wakes_with k.groups k.numbers k.sched f.slot t h.sound f.stands (awaited_waits (is_for_message q.place) refl t.doing f.passes) (length taken) (taken ∷ int_out m.priority ∷ [])
        (fits_receive t.asked taken m.priority (message_asked q.place (awaited t.doing) t.asked f.passes o.agrees) (take_short (room_of t.asked) m.bytes)))
    by_receiver m q None e =
        either k c x (is_full q.queue && never_waits q.flags) _ _ (fails k c x h errno.Eagain) (either k c x (nat_lt (free_blocks k) (blocks_for (length m.bytes))) _ _ (fails k c x h errno.Enospc) (joins m q))

    by_queue : (m : Message) (q : Option QueueAt) → Lawful k c x (send_on k c m size q)
    by_queue m None = fails k c x h errno.Ebadf
    by_queue m (Some q) =
        either k c x (not (may_write q.flags)) _ _ (fails k c x h errno.Ebadf) (either k c x (nat_lt highest_priority m.priority) _ _ (fails k c x h errno.Einval)
        (either k c x (nat_lt q.queue.size size) _ _ (fails k c x h errno.Emsgsize) (by_receiver m q (first_of (search.Receiver q.place) k.sched.threads) refl)))

receive_lawful : (k : KernelState) (c : Caller) (x : ThreadRow) (h : Calls k c) (size : ℕ) (ticks : Option ℕ) → IsReceiving c.asked → TakesMessage c.asked size → (q : Option QueueAt) → Lawful k c x (receive_on k c size ticks q)
receive_lawful k c x h size ticks asked takes q = by_queue q
  where
    later : (place : ℕ) (ticks : Option ℕ) → Lawful k c x (receive_waits k c place ticks)
    later place None = blocks k c x h (wait.Receive place) None asked
    later place (Some ticks) = either k c x (ticks == 0) _ _ (fails k c x h errno.Etimedout) (blocks k c x h (wait.Receive place) (Some (k.time + ticks)) asked)

    by_sender : (place : ℕ) (q : Queue) (bytes : List ℕ) (priority : ℕ) → length bytes ≤ min size most_moved → (t : Option Thread) → first_of (search.Sender place) k.sched.threads ≡ t → Lawful k c x (receive_then k c place q bytes priority t)
    by_sender place q bytes priority short None e = answers k c x h (with_queue k place q) (length bytes) (bytes ∷ int_out priority ∷ []) (record { sound = λ s. s; table = refl; slots = refl }) (takes bytes priority short)
    by_sender place q bytes priority short (Some t) e =
        let f = first_stands (search.Sender place) k.sched.threads t e in
        answers_then k c x h (joined k place q (slot_of k.sched.threads t.number)) (length bytes) (bytes ∷ int_out priority ∷ []) (woken_with k.sched t 0 []) (record { sched = refl; groups = refl; numbers = refl }) (takes bytes priority short)
        (wakes_with k.groups k.numbers k.sched f.slot t h.sound f.stands (awaited_waits (is_for_room place) refl t.doing f.passes) 0 [] (nothing_fits t.asked))

    by_message : (q : QueueAt) (m : Option Message) → Lawful k c x (receive_from k c q size ticks m)
    by_message q None = either k c x (never_waits q.flags) _ _ (fails k c x h errno.Eagain) (later q.place ticks)
    by_message q (Some m) =
        by_sender q.place (record q.queue { messages = without_oldest m.priority q.queue.messages }) (take (min size most_moved) m.bytes) m.priority (take_short (min size most_moved) m.bytes)
        (first_of (search.Sender q.place) k.sched.threads) refl

    by_queue : (q : Option QueueAt) → Lawful k c x (receive_on k c size ticks q)
    by_queue None = fails k c x h errno.Ebadf
    by_queue (Some q) =
        either k c x (not (may_read q.flags)) _ _ (fails k c x h errno.Ebadf) (either k c x (are_past ticks) _ _ (fails k c x h errno.Einval)
        (either k c x (nat_lt size q.queue.size) _ _ (fails k c x h errno.Emsgsize) (by_message q (next_message q.queue.messages))))

pub mq_receive_lawful : (k : KernelState) (c : Caller) (x : ThreadRow) (h : Calls k c) (fd size : ℕ) → IsReceiving c.asked → TakesMessage c.asked size → Lawful k c x (mq_receive_row k c fd size)
unfolding mq_receive_row
mq_receive_lawful k c x h fd size asked takes = receive_lawful k c x h size None asked takes (queue_of k c fd)

pub mq_timedreceive_lawful : (k : KernelState) (c : Caller) (x : ThreadRow) (h : Calls k c) (fd size ticks : ℕ) → IsReceiving c.asked → TakesMessage c.asked size → Lawful k c x (mq_timedreceive_row k c fd size ticks)
unfolding mq_timedreceive_row
mq_timedreceive_lawful k c x h fd size ticks asked takes = receive_lawful k c x h size (Some ticks) asked takes (queue_of k c fd)
