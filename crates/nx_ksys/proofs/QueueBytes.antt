-- Queues: what their calls tell is words and bytes.
use Rattle.std.proofs.Common.{◌≡◌, ℕ, ◌+◌, ◌<◌, ◌==◌, ◌&&◌, false, subst, List, [], ◌∷◌, length, take, min, Option, Some, None, refl, arith}
use Rattle.std.specs.Prelude.{◌^◌, not, nat_le, nat_lt, slice_get, slice_set, codes}
use Rattle.std.specs.List.{position_from}
use Rattle.std.specs.Option.{is_none}
use Rattle.nx_base.specs.ByteLists.{AreBytes}
use Rattle.nx_base.specs.Replies.{most_moved}
use Rattle.nx_base.specs.declared.errno.Errno.TheVariants as errno
use Rattle.nx_ksys.specs.declared.node.Node.{Node}
use Rattle.nx_ksys.specs.declared.node.NodeKind.{NodeKind}
use Rattle.nx_ksys.specs.declared.node.NodeKind.TheVariants as node
use Rattle.nx_ksys.specs.declared.node.Target.{Target}
use Rattle.nx_ksys.specs.declared.node.Target.TheVariants as target
use Rattle.nx_ksys.specs.declared.thread.Thread.{Thread}
use Rattle.nx_ksys.specs.declared.thread.Wait.TheVariants as wait
use Rattle.nx_ksys.specs.declared.thread.Search.TheVariants as search
use Rattle.nx_ksys.specs.Threads.{flat, first_of, slot_of, woken_with}
use Rattle.nx_ksys.specs.State.{Message, Queue, KernelState, blocks_for, free_blocks, objects}
use Rattle.nx_ksys.specs.Paths.{node_at, entries_but}
use Rattle.nx_ksys.specs.Descriptors.{may_read, may_write, creates, is_exclusive, never_waits, Opened, opened, closed}
use Rattle.nx_ksys.specs.TreeCalls.{with_entries}
use Rattle.nx_ksys.specs.Answers.{Caller, int_out}
use Rattle.nx_ksys.specs.QueueCalls.{with_queue, is_queue_name, queue_path, are_queue_flags, are_queue_limits, with_new_queue, create_queue_at, open_queue, mq_open_node, mq_open_row, queue_unlinked, unlink_queue, mq_unlink_node, mq_unlink_row, QueueAt, queue_there, queue_to, queue_behind, queue_of, close_queue, mq_close_row, highest_priority, is_full, with_message, room_of, delivered, with_sent, send_joins, send_to, send_on, mq_send_row, has_priority, top_priority, next_message, without_oldest, sent_at, with_sent_message, joined, receive_then, receive_waits, receive_from, are_past, receive_on, mq_receive_row, mq_timedreceive_row}
use Rattle.nx_ksys.specs.Soundness.{EachStanding}
use Rattle.nx_ksys.specs.ByteLaws.{Each, IsMessageOfBytes, IsQueueOfBytes, IsOfBytes}
use Rattle.nx_ksys.proofs.Standing.{some_same, none_some, flat_some, first_found, take_short}
use Rattle.nx_ksys.proofs.ByteWalks.{joined_bytes, first_bytes, text_bytes, each_none, each_more, each_joined, each_rest, standing_set, standing_gone}
use Rattle.nx_ksys.proofs.PathBytes.{either_is}
use Rattle.nx_ksys.proofs.Saying.{int_output, with_queues_bytes, Says, either, says, plain, fails, blocks}
use Rattle.nx_ksys.proofs.FileBytes.{target_bytes, closed_bytes, describes}
use Rattle.nx_ksys.proofs.TreeBytes.{entries_kept}
use Rattle.nx_ksys.proofs.EndBytes.{wakes_with, says_then}

-- ---- messages

more_messages : (q : Queue) (m : Message) → IsQueueOfBytes q → IsMessageOfBytes m → IsQueueOfBytes (with_message q m)
more_messages q m h g = each_joined IsMessageOfBytes q.messages (m ∷ []) h (each_more IsMessageOfBytes m [] g (each_none IsMessageOfBytes))

fewer_messages : (priority : ℕ) (ms : List Message) → Each IsMessageOfBytes ms → Each IsMessageOfBytes (without_oldest priority ms)
fewer_messages priority [] h = h
fewer_messages priority (m ∷ ms) h =
    either_is (Each IsMessageOfBytes) (m.priority == priority) ms (m ∷ without_oldest priority ms) (each_rest IsMessageOfBytes m ms h)
    (each_more IsMessageOfBytes m (without_oldest priority ms) (h 0 m refl) (fewer_messages priority ms (each_rest IsMessageOfBytes m ms h)))

next_bytes : (ms : List Message) (m : Message) → Each IsMessageOfBytes ms → next_message ms ≡ Some m → IsMessageOfBytes m
unfolding next_message
next_bytes ms m h e = let f = first_found (has_priority (top_priority ms)) ms m e in h f.place m f.at

sent_more : (ms : List (Option Message)) (slot : Option ℕ) (m : Message) → EachStanding IsMessageOfBytes ms → IsMessageOfBytes m → EachStanding IsMessageOfBytes (with_sent ms slot (Some m))
sent_more ms None m h g = h
sent_more ms (Some slot) m h g = standing_set IsMessageOfBytes ms slot m g h

sent_less : (ms : List (Option Message)) (slot : Option ℕ) → EachStanding IsMessageOfBytes ms → EachStanding IsMessageOfBytes (with_sent ms slot None)
sent_less ms None h = h
sent_less ms (Some slot) h = standing_gone IsMessageOfBytes ms slot h

-- a waiting message joins, if there is one
sent_joins : (q : Queue) (ms : List (Option Message)) (slot : Option ℕ) → IsQueueOfBytes q → EachStanding IsMessageOfBytes ms → IsQueueOfBytes (with_sent_message q (sent_at ms slot))
sent_joins q ms None h g = h
sent_joins q ms (Some slot) h g = by_message (flat (slice_get ms slot)) refl
  where
    by_message : (o : Option Message) → flat (slice_get ms slot) ≡ o → IsQueueOfBytes (with_sent_message q o)
    by_message None e = h
    by_message (Some m) e = more_messages q m h (g slot m (flat_some (slice_get ms slot) m e))

with_queue_bytes : (k : KernelState) (place : ℕ) (q : Queue) (ms : List (Option Message)) → IsOfBytes k → IsQueueOfBytes q → EachStanding IsMessageOfBytes ms → IsOfBytes (record (with_queue k place q) { sending = ms })
with_queue_bytes k place q ms b h g = with_queues_bytes k (slice_set k.queues place (Some q)) ms b (standing_set IsQueueOfBytes k.queues place q h b.each_queue) g

-- the queue of a descriptor
there_bytes : (k : KernelState) (place flags : ℕ) → IsOfBytes k → (o : Option Queue) → flat (slice_get k.queues place) ≡ o → (q : QueueAt) → queue_there place flags o ≡ Some q → IsQueueOfBytes q.queue
there_bytes k place flags b None e q h = absurd (none_some q h)
there_bytes k place flags b (Some queue) e q h = let bytes = b.each_queue place queue (flat_some (slice_get k.queues place) queue e) in by_queue q h bytes
  where
    by_queue : (r : QueueAt) → queue_there place flags (Some queue) ≡ Some r → IsQueueOfBytes queue → IsQueueOfBytes r.queue
    by_queue r s t = subst (λ v. IsQueueOfBytes v.queue) (some_same (let v : QueueAt = record { place = place; flags = flags; queue = queue } in v) r s) t

to_bytes : (k : KernelState) (flags : ℕ) → IsOfBytes k → (t : Target) (q : QueueAt) → queue_to k flags t ≡ Some q → IsQueueOfBytes q.queue
to_bytes k flags b (target.File place) q h = absurd (none_some q h)
to_bytes k flags b target.Console q h = absurd (none_some q h)
to_bytes k flags b target.Null q h = absurd (none_some q h)
to_bytes k flags b (target.Queue place) q h = there_bytes k place flags b (flat (slice_get k.queues place)) refl q h
to_bytes k flags b (target.Semaphore place) q h = absurd (none_some q h)

behind_bytes : (k : KernelState) → IsOfBytes k → (o : Option Opened) (q : QueueAt) → queue_behind k o ≡ Some q → IsQueueOfBytes q.queue
behind_bytes k b None q h = absurd (none_some q h)
behind_bytes k b (Some o) q h = to_bytes k o.description.flags b o.description.target q h

queue_bytes : (k : KernelState) (c : Caller) (fd : ℕ) → IsOfBytes k → (q : QueueAt) → queue_of k c fd ≡ Some q → IsQueueOfBytes q.queue
unfolding queue_of
queue_bytes k c fd b q h = behind_bytes k b (opened k c.place fd) q h

-- ---- nx_mq_open, mq_unlink, mq_close

path_bytes : (name : List ℕ) → AreBytes name → AreBytes (queue_path name)
path_bytes name h = joined_bytes (codes "/var/mqueue") name (text_bytes (codes "/var/mqueue") refl) h

pub mq_open_says : (k : KernelState) (c : Caller) (b : IsOfBytes k) (name : List ℕ) (flags limit size : ℕ) → AreBytes name → Says (mq_open_row k c name flags limit size)
unfolding mq_open_row
mq_open_says k c b name flags limit size n =
    either (not (is_queue_name name && are_queue_flags flags)) _ _ (fails k c errno.Einval b) (by_node (queue_path name) (path_bytes name n) (node_at k.tree.entries (queue_path name)))
  where
    new_queue : (path : List ℕ) (place : ℕ) → AreBytes path → IsOfBytes (with_new_queue k path place limit size)
    new_queue path place p =
        let e : List ℕ × Node = (path, record { kind = node.Queue place; fixed = false }) in
        let q : Queue = record { limit = limit; size = size; messages = [] } in
        record {
          names = b.names;
          paths = each_joined (λ f. AreBytes f.0) k.tree.entries (e ∷ []) b.paths (each_more (λ f. AreBytes f.0) e [] p (each_none (λ f. AreBytes f.0)));
          contents = b.contents;
          each_group = b.each_group;
          each_thread = b.each_thread;
          children = b.children;
          rest = b.rest;
          each_queue = standing_set IsQueueOfBytes k.queues place q (each_none IsMessageOfBytes) b.each_queue;
          each_sent = b.each_sent;
        }

    by_place : (path : List ℕ) → AreBytes path → (place : Option ℕ) → Says (create_queue_at k c path flags limit size place)
    by_place path p None = fails k c errno.Enospc b
    by_place path p (Some place) = describes k (with_new_queue k path place limit size) c (target.Queue place) flags b (new_queue path place p)

    by_kind : (n : NodeKind) → Says (open_queue k c flags n)
    by_kind node.Directory = fails k c errno.Einval b
    by_kind (node.File place) = fails k c errno.Einval b
    by_kind node.Console = fails k c errno.Einval b
    by_kind node.Null = fails k c errno.Einval b
    by_kind (node.Program place) = fails k c errno.Einval b
    by_kind (node.Queue place) = describes k k c (target.Queue place) flags b b

    by_node : (path : List ℕ) → AreBytes path → (n : Option Node) → Says (mq_open_node k c path flags limit size n)
    by_node path p None =
        either (not (creates flags)) _ _ (fails k c errno.Enoent b) (either (not (are_queue_limits limit size)) _ _ (fails k c errno.Einval b)
        (either (nat_le k.limits.objects (objects k)) _ _ (fails k c errno.Enospc b) (by_place path p (position_from is_none 0 k.queues))))
    by_node path p (Some n) = either (is_exclusive flags) _ _ (fails k c errno.Eexist b) (by_kind n.kind)

pub mq_unlink_says : (k : KernelState) (c : Caller) (b : IsOfBytes k) (name : List ℕ) → Says (mq_unlink_row k c name)
unfolding mq_unlink_row
mq_unlink_says k c b name = either (not (is_queue_name name)) _ _ (fails k c errno.Einval b) (by_node (queue_path name) (node_at k.tree.entries (queue_path name)))
  where
    by_kind : (path : List ℕ) (n : NodeKind) → Says (unlink_queue k c path n)
    by_kind path node.Directory = fails k c errno.Einval b
    by_kind path (node.File place) = fails k c errno.Einval b
    by_kind path node.Console = fails k c errno.Einval b
    by_kind path node.Null = fails k c errno.Einval b
    by_kind path (node.Program place) = fails k c errno.Einval b
    by_kind path (node.Queue place) = plain (queue_unlinked k path place) c 0 (target_bytes (with_entries k (entries_but path k.tree.entries)) (target.Queue place) (entries_kept k path b)) (omega arith)

    by_node : (path : List ℕ) (n : Option Node) → Says (mq_unlink_node k c path n)
    by_node path None = fails k c errno.Enoent b
    by_node path (Some n) = by_kind path n.kind

pub mq_close_says : (k : KernelState) (c : Caller) (b : IsOfBytes k) (fd : ℕ) → Says (mq_close_row k c fd)
unfolding mq_close_row
mq_close_says k c b fd = by_queue (queue_of k c fd)
  where
    by_queue : (q : Option QueueAt) → Says (close_queue k c fd q)
    by_queue None = fails k c errno.Ebadf b
    by_queue (Some q) = plain (closed k c.place fd) c 0 (closed_bytes k c.place fd b) (omega arith)

-- ---- mq_send, mq_receive, nx_mq_timedreceive

-- a part of a message that is moved, with its priority
two_outputs : (bytes : List ℕ) (n : ℕ) → AreBytes bytes → Each AreBytes (bytes ∷ int_out n ∷ [])
two_outputs bytes n h = each_more AreBytes bytes (int_out n ∷ []) h (int_output n)

few_bytes : (size : ℕ) (bytes : List ℕ) → length (take (min size most_moved) bytes) < 2 ^ 32
few_bytes size bytes = let l = take_short (min size most_moved) bytes in omega (arith, l)

pub mq_send_says : (k : KernelState) (c : Caller) (b : IsOfBytes k) (fd : ℕ) (bytes : List ℕ) (size priority : ℕ) → AreBytes bytes → Says (mq_send_row k c fd bytes size priority)
unfolding mq_send_row
mq_send_says k c b fd bytes size priority g = by_queue (record { priority = priority; bytes = bytes }) g (queue_of k c fd) refl
  where
    joins : (m : Message) → IsMessageOfBytes m → (q : QueueAt) → IsQueueOfBytes q.queue → Says (send_joins k c q m)
    joins m h q r =
        let slot = slot_of k.sched.threads c.thread.number in
        let sending = with_sent k.sending slot (Some m) in
        either (is_full q.queue) _ _ (blocks (record k { sending = sending }) c (wait.Send q.place) None (with_queues_bytes k k.queues sending b b.each_queue (sent_more k.sending slot m b.each_sent h)))
        (plain (with_queue k q.place (with_message q.queue m)) c 0 (with_queue_bytes k q.place (with_message q.queue m) k.sending b (more_messages q.queue m r h) b.each_sent) (omega arith))

    by_receiver : (m : Message) → IsMessageOfBytes m → (q : QueueAt) → IsQueueOfBytes q.queue → (t : Option Thread) → Says (send_to k c q m t)
    by_receiver m h q r (Some t) =
        let taken = take (room_of t.asked) m.bytes in
        says_then k c 0 [] (delivered k.sched t m) b (omega arith) (each_none AreBytes)
        (wakes_with k.sched t (length taken) (taken ∷ int_out m.priority ∷ []) b.each_thread (few_bytes _ m.bytes) (two_outputs taken m.priority (first_bytes (room_of t.asked) m.bytes h)))
    by_receiver m h q r None =
        either (is_full q.queue && never_waits q.flags) _ _ (fails k c errno.Eagain b) (either (nat_lt (free_blocks k) (blocks_for (length m.bytes))) _ _ (fails k c errno.Enospc b) (joins m h q r))

    by_queue : (m : Message) → IsMessageOfBytes m → (q : Option QueueAt) → queue_of k c fd ≡ q → Says (send_on k c m size q)
    by_queue m h None e = fails k c errno.Ebadf b
    by_queue m h (Some q) e =
        either (not (may_write q.flags)) _ _ (fails k c errno.Ebadf b) (either (nat_lt highest_priority m.priority) _ _ (fails k c errno.Einval b)
        (either (nat_lt q.queue.size size) _ _ (fails k c errno.Emsgsize b) (by_receiver m h q (queue_bytes k c fd b q e) (first_of (search.Receiver q.place) k.sched.threads))))

receive_says : (k : KernelState) (c : Caller) (b : IsOfBytes k) (size : ℕ) (ticks : Option ℕ) (fd : ℕ) → Says (receive_on k c size ticks (queue_of k c fd))
receive_says k c b size ticks fd = by_queue (queue_of k c fd) refl
  where
    later : (place : ℕ) (ticks : Option ℕ) → Says (receive_waits k c place ticks)
    later place None = blocks k c (wait.Receive place) None b
    later place (Some n) = either (n == 0) _ _ (fails k c errno.Etimedout b) (blocks k c (wait.Receive place) (Some (k.time + n)) b)

    by_sender : (place : ℕ) (q : Queue) (bytes : List ℕ) (priority : ℕ) → IsQueueOfBytes q → AreBytes bytes → length bytes < 2 ^ 32 → (t : Option Thread) → Says (receive_then k c place q bytes priority t)
    by_sender place q bytes priority h g short None = says (with_queue k place q) c (length bytes) (bytes ∷ int_out priority ∷ []) (with_queue_bytes k place q k.sending b h b.each_sent) short (two_outputs bytes priority g)
    by_sender place q bytes priority h g short (Some t) =
        let slot = slot_of k.sched.threads t.number in
        says_then (joined k place q slot) c (length bytes) (bytes ∷ int_out priority ∷ []) (woken_with k.sched t 0 [])
        (with_queue_bytes k place (with_sent_message q (sent_at k.sending slot)) (with_sent k.sending slot None) b (sent_joins q k.sending slot h b.each_sent) (sent_less k.sending slot b.each_sent)) short (two_outputs bytes priority g)
        (wakes_with k.sched t 0 [] b.each_thread (omega arith) (each_none AreBytes))

    by_message : (q : QueueAt) → IsQueueOfBytes q.queue → (m : Option Message) → next_message q.queue.messages ≡ m → Says (receive_from k c q size ticks m)
    by_message q h None e = either (never_waits q.flags) _ _ (fails k c errno.Eagain b) (later q.place ticks)
    by_message q h (Some m) e =
        by_sender q.place (record q.queue { messages = without_oldest m.priority q.queue.messages }) (take (min size most_moved) m.bytes) m.priority (fewer_messages m.priority q.queue.messages h)
        (first_bytes (min size most_moved) m.bytes (next_bytes q.queue.messages m h e)) (few_bytes size m.bytes) (first_of (search.Sender q.place) k.sched.threads)

    by_queue : (q : Option QueueAt) → queue_of k c fd ≡ q → Says (receive_on k c size ticks q)
    by_queue None e = fails k c errno.Ebadf b
    by_queue (Some q) e =
        either (not (may_read q.flags)) _ _ (fails k c errno.Ebadf b) (either (are_past ticks) _ _ (fails k c errno.Einval b)
        (either (nat_lt size q.queue.size) _ _ (fails k c errno.Emsgsize b) (by_message q (queue_bytes k c fd b q e) (next_message q.queue.messages) refl)))

pub mq_receive_says : (k : KernelState) (c : Caller) (b : IsOfBytes k) (fd size : ℕ) → Says (mq_receive_row k c fd size)
unfolding mq_receive_row
mq_receive_says k c b fd size = receive_says k c b size None fd

pub mq_timedreceive_says : (k : KernelState) (c : Caller) (b : IsOfBytes k) (fd size ticks : ℕ) → Says (mq_timedreceive_row k c fd size ticks)
unfolding mq_timedreceive_row
mq_timedreceive_says k c b fd size ticks = receive_says k c b size (Some ticks) fd
