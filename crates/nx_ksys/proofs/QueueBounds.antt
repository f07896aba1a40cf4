-- Queues and semaphores: their calls keep what bounds the paths.
use Rattle.std.proofs.Common.{◌≡◌, ℕ, ◌==◌, ◌&&◌, List, [], length, take, min, Option, Some, None, refl}
use Rattle.std.specs.Prelude.{not, nat_le, nat_lt}
use Rattle.std.specs.List.{position_from}
use Rattle.std.specs.Option.{is_none}
use Rattle.nx_base.specs.Replies.{most_moved}
use Rattle.nx_base.specs.declared.errno.Errno.TheVariants as errno
use Rattle.nx_ksys.specs.declared.node.Node.{Node}
use Rattle.nx_ksys.specs.declared.node.NodeKind.{NodeKind}
use Rattle.nx_ksys.specs.declared.node.NodeKind.TheVariants as node
use Rattle.nx_ksys.specs.declared.node.Target.TheVariants as target
use Rattle.nx_ksys.specs.declared.thread.Thread.{Thread}
use Rattle.nx_ksys.specs.declared.thread.Search.TheVariants as search
use Rattle.nx_ksys.specs.Threads.{first_of, slot_of}
use Rattle.nx_ksys.specs.State.{Message, Queue, KernelState, blocks_for, free_blocks, objects}
use Rattle.nx_ksys.specs.Paths.{node_at, entries_but}
use Rattle.nx_ksys.specs.Descriptors.{may_read, may_write, creates, is_exclusive, never_waits}
use Rattle.nx_ksys.specs.TreeCalls.{with_entries}
use Rattle.nx_ksys.specs.Answers.{Caller}
use Rattle.nx_ksys.specs.SemaphoreCalls.{most_posts, with_semaphore, is_semaphore_name, are_semaphore_flags, has_name, create_semaphore_at, open_semaphore, sem_open_row, SemaphoreAt, semaphore_of, wait_on, sem_wait_row, try_on, sem_trywait_row, post_to, post_on, sem_post_row, close_semaphore, sem_close_row}
use Rattle.nx_ksys.specs.QueueCalls.{is_queue_name, queue_path, are_queue_flags, are_queue_limits, with_new_queue, create_queue_at, open_queue, mq_open_node, mq_open_row, queue_unlinked, unlink_queue, mq_unlink_node, mq_unlink_row, QueueAt, queue_of, close_queue, mq_close_row, highest_priority, is_full, with_message, send_joins, send_to, send_on, mq_send_row, next_message, without_oldest, sent_at, with_sent_message, receive_then, receive_waits, receive_from, are_past, receive_on, mq_receive_row, mq_timedreceive_row}
use Rattle.nx_ksys.proofs.BoundLemmas.{but_bounded, new_queue_bounded, queue_bounded}
use Rattle.nx_ksys.proofs.Bounding.{Bounds, Keeps, keeps_on, bounds_same, either, fails, describes, target_keeps, closed_keeps}

-- ---- semaphores

pub sem_open_bounds : (k : KernelState) (c : Caller) (name : List ℕ) (flags value : ℕ) → Bounds k (sem_open_row k c name flags value)
unfolding sem_open_row
sem_open_bounds k c name flags value = either k (not (is_semaphore_name name && are_semaphore_flags flags)) _ _ (fails k c errno.Einval) (by_name (position_from (has_name name) 0 k.semaphores))
  where
    by_place : (place : Option ℕ) → Bounds k (create_semaphore_at k c name flags value place)
    by_place None = fails k c errno.Enospc
    by_place (Some place) = describes k (with_semaphore k place (record { name = name; value = value })) c (target.Semaphore place) flags (record { kept = λ first h. h })

    by_name : (place : Option ℕ) → Bounds k (open_semaphore k c name flags value place)
    by_name None =
        either k (not (creates flags)) _ _ (fails k c errno.Enoent) (either k (nat_lt most_posts value) _ _ (fails k c errno.Einval)
        (either k (nat_le k.limits.objects (objects k)) _ _ (fails k c errno.Enospc) (by_place (position_from is_none 0 k.semaphores))))
    by_name (Some place) = either k (is_exclusive flags) _ _ (fails k c errno.Eexist) (describes k k c (target.Semaphore place) flags (record { kept = λ first h. h }))

pub sem_wait_bounds : (k : KernelState) (c : Caller) (fd : ℕ) → Bounds k (sem_wait_row k c fd)
unfolding sem_wait_row
sem_wait_bounds k c fd = by_semaphore (semaphore_of k c fd)
  where
    by_semaphore : (s : Option SemaphoreAt) → Bounds k (wait_on k c s)
    by_semaphore None = fails k c errno.Ebadf
    by_semaphore (Some s) = either k (s.semaphore.value == 0) _ _ (bounds_same k _ (record { kept = λ first h. h })) (bounds_same k _ (record { kept = λ first h. h }))

pub sem_trywait_bounds : (k : KernelState) (c : Caller) (fd : ℕ) → Bounds k (sem_trywait_row k c fd)
unfolding sem_trywait_row
sem_trywait_bounds k c fd = by_semaphore (semaphore_of k c fd)
  where
    by_semaphore : (s : Option SemaphoreAt) → Bounds k (try_on k c s)
    by_semaphore None = fails k c errno.Ebadf
    by_semaphore (Some s) = either k (s.semaphore.value == 0) _ _ (fails k c errno.Eagain) (bounds_same k _ (record { kept = λ first h. h }))

pub sem_post_bounds : (k : KernelState) (c : Caller) (fd : ℕ) → Bounds k (sem_post_row k c fd)
unfolding sem_post_row
sem_post_bounds k c fd = by_semaphore (semaphore_of k c fd)
  where
    by_waiter : (s : SemaphoreAt) (t : Option Thread) → Bounds k (post_to k c s t)
    by_waiter s None = bounds_same k _ (record { kept = λ first h. h })
    by_waiter s (Some t) = bounds_same k _ (record { kept = λ first h. h })

    by_semaphore : (s : Option SemaphoreAt) → Bounds k (post_on k c s)
    by_semaphore None = fails k c errno.Ebadf
    by_semaphore (Some s) = either k (nat_le most_posts s.semaphore.value) _ _ (fails k c errno.Einval) (by_waiter s (first_of (search.Waiter s.place) k.sched.threads))

pub sem_close_bounds : (k : KernelState) (c : Caller) (fd : ℕ) → Bounds k (sem_close_row k c fd)
unfolding sem_close_row
sem_close_bounds k c fd = by_semaphore (semaphore_of k c fd)
  where
    by_semaphore : (s : Option SemaphoreAt) → Bounds k (close_semaphore k c fd s)
    by_semaphore None = fails k c errno.Ebadf
    by_semaphore (Some s) = bounds_same k _ (closed_keeps k c.place fd)

-- ---- queues

pub mq_open_bounds : (k : KernelState) (c : Caller) (name : List ℕ) (flags limit size : ℕ) → Bounds k (mq_open_row k c name flags limit size)
unfolding mq_open_row
mq_open_bounds k c name flags limit size =
    either k (not (is_queue_name name && are_queue_flags flags)) _ _ (fails k c errno.Einval) (by_node (queue_path name) (node_at k.tree.entries (queue_path name)))
  where
    by_place : (path : List ℕ) (place : Option ℕ) → position_from is_none 0 k.queues ≡ place → Bounds k (create_queue_at k c path flags limit size place)
    by_place path None e = fails k c errno.Enospc
    by_place path (Some place) e =
        describes k (with_new_queue k path place limit size) c (target.Queue place) flags (record { kept = λ first h. new_queue_bounded first k.tree k.queues path place (record { limit = limit; size = size; messages = [] }) e h })

    by_kind : (n : NodeKind) → Bounds k (open_queue k c flags n)
    by_kind node.Directory = fails k c errno.Einval
    by_kind (node.File place) = fails k c errno.Einval
    by_kind node.Console = fails k c errno.Einval
    by_kind node.Null = fails k c errno.Einval
    by_kind (node.Program place) = fails k c errno.Einval
    by_kind (node.Queue place) = describes k k c (target.Queue place) flags (record { kept = λ first h. h })

    by_node : (path : List ℕ) (n : Option Node) → Bounds k (mq_open_node k c path flags limit size n)
    by_node path None =
        either k (not (creates flags)) _ _ (fails k c errno.Enoent) (either k (not (are_queue_limits limit size)) _ _ (fails k c errno.Einval)
        (either k (nat_le k.limits.objects (objects k)) _ _ (fails k c errno.Enospc) (by_place path (position_from is_none 0 k.queues) refl)))
    by_node path (Some n) = either k (is_exclusive flags) _ _ (fails k c errno.Eexist) (by_kind n.kind)

pub mq_unlink_bounds : (k : KernelState) (c : Caller) (name : List ℕ) → Bounds k (mq_unlink_row k c name)
unfolding mq_unlink_row
mq_unlink_bounds k c name = either k (not (is_queue_name name)) _ _ (fails k c errno.Einval) (by_node (queue_path name) (node_at k.tree.entries (queue_path name)))
  where
    unlinked : (path : List ℕ) (place : ℕ) → Keeps k (queue_unlinked k path place)
    unlinked path place =
        let left = with_entries k (entries_but path k.tree.entries) in
        keeps_on k left _ (record { kept = λ first h. but_bounded first k.tree k.queues path h }) (target_keeps left (target.Queue place))

    by_kind : (path : List ℕ) (n : NodeKind) → Bounds k (unlink_queue k c path n)
    by_kind path node.Directory = fails k c errno.Einval
    by_kind path (node.File place) = fails k c errno.Einval
    by_kind path node.Console = fails k c errno.Einval
    by_kind path node.Null = fails k c errno.Einval
    by_kind path (node.Program place) = fails k c errno.Einval
    by_kind path (node.Queue place) = bounds_same k _ (unlinked path place)

    by_node : (path : List ℕ) (n : Option Node) → Bounds k (mq_unlink_node k c path n)
    by_node path None = fails k c errno.Enoent
    by_node path (Some n) = by_kind path n.kind

pub mq_close_bounds : (k : KernelState) (c : Caller) (fd : ℕ) → Bounds k (mq_close_row k c fd)
unfolding mq_close_row
mq_close_bounds k c fd = by_queue (queue_of k c fd)
  where
    by_queue : (q : Option QueueAt) → Bounds k (close_queue k c fd q)
    by_queue None = fails k c errno.Ebadf
    by_queue (Some q) = bounds_same k _ (closed_keeps k c.place fd)

pub mq_send_bounds : (k : KernelState) (c : Caller) (fd : ℕ) (bytes : List ℕ) (size priority : ℕ) → Bounds k (mq_send_row k c fd bytes size priority)
unfolding mq_send_row
mq_send_bounds k c fd bytes size priority = by_queue (record { priority = priority; bytes = bytes }) (queue_of k c fd)
  where
    joins : (m : Message) (q : QueueAt) → Bounds k (send_joins k c q m)
    joins m q = either k (is_full q.queue) _ _ (bounds_same k _ (record { kept = λ first h. h })) (bounds_same k _ (record { kept = λ first h. queue_bounded first k.tree k.queues q.place (with_message q.queue m) h }))

    by_receiver : (m : Message) (q : QueueAt) (t : Option Thread) → Bounds k (send_to k c q m t)
    by_receiver m q (Some t) = bounds_same k _ (record { kept = λ first h. h })
    by_receiver m q None =
        either k (is_full q.queue && never_waits q.flags) _ _ (fails k c errno.Eagain) (either k (nat_lt (free_blocks k) (blocks_for (length m.bytes))) _ _ (fails k c errno.Enospc) (joins m q))

    by_queue : (m : Message) (q : Option QueueAt) → Bounds k (send_on k c m size q)
    by_queue m None = fails k c errno.Ebadf
    by_queue m (Some q) =
        either k (not (may_write q.flags)) _ _ (fails k c errno.Ebadf) (either k (nat_lt highest_priority m.priority) _ _ (fails k c errno.Einval)
        (either k (nat_lt q.queue.size size) _ _ (fails k c errno.Emsgsize) (by_receiver m q (first_of (search.Receiver q.place) k.sched.threads))))

receive_bounds : (k : KernelState) (c : Caller) (size : ℕ) (ticks : Option ℕ) (q : Option QueueAt) → Bounds k (receive_on k c size ticks q)
receive_bounds k c size ticks q = by_queue q
  where
    later : (place : ℕ) (ticks : Option ℕ) → Bounds k (receive_waits k c place ticks)
    later place None = bounds_same k _ (record { kept = λ first h. h })
    later place (Some ticks) = either k (ticks == 0) _ _ (fails k c errno.Etimedout) (bounds_same k _ (record { kept = λ first h. h }))

    by_sender : (place : ℕ) (q : Queue) (bytes : List ℕ) (priority : ℕ) (t : Option Thread) → Bounds k (receive_then k c place q bytes priority t)
    by_sender place q bytes priority None = bounds_same k _ (record { kept = λ first h. queue_bounded first k.tree k.queues place q h })
    by_sender place q bytes priority (Some t) =
        bounds_same k _ (record { kept = λ first h. queue_bounded first k.tree k.queues place (with_sent_message q (sent_at k.sending (slot_of k.sched.threads t.number))) h })

    by_message : (q : QueueAt) (m : Option Message) → Bounds k (receive_from k c q size ticks m)
    by_message q None = either k (never_waits q.flags) _ _ (fails k c errno.Eagain) (later q.place ticks)
    by_message q (Some m) =
        by_sender q.place (record q.queue { messages = without_oldest m.priority q.queue.messages }) (take (min size most_moved) m.bytes) m.priority (first_of (search.Sender q.place) k.sched.threads)

    by_queue : (q : Option QueueAt) → Bounds k (receive_on k c size ticks q)
    by_queue None = fails k c errno.Ebadf
    by_queue (Some q) =
        either k (not (may_read q.flags)) _ _ (fails k c errno.Ebadf) (either k (are_past ticks) _ _ (fails k c errno.Einval)
        (either k (nat_lt size q.queue.size) _ _ (fails k c errno.Emsgsize) (by_message q (next_message q.queue.messages))))

pub mq_receive_bounds : (k : KernelState) (c : Caller) (fd size : ℕ) → Bounds k (mq_receive_row k c fd size)
unfolding mq_receive_row
mq_receive_bounds k c fd size = receive_bounds k c size None (queue_of k c fd)

pub mq_timedreceive_bounds : (k : KernelState) (c : Caller) (fd size ticks : ℕ) → Bounds k (mq_timedreceive_row k c fd size ticks)
unfolding mq_timedreceive_row
mq_timedreceive_bounds k c fd size ticks = receive_bounds k c size (Some ticks) (queue_of k c fd)
