-- Rows of the calls on queues, where a queue stands at the place, as what was found and done.
use Rattle.std.proofs.Common.{◌≡◌, ◌+◌, ℕ, List, [], ◌∷◌, ◌++◌, length, take, refl, sym, ap, ◌∙◌, subst, min, ◌<◌, cond, Bool, true}
use Rattle.std.specs.Prelude.{Option, Some, None, IsSome, IfSome, IfNone, Result, Ok, Err, slice_get, slice_set, flat_map, fold, not, ◌&&◌, if◌then◌else◌}
use Rattle.std.specs.List.{position_from, count_by}
use Rattle.std.specs.Option.{is_some, is_none}
use Rattle.nx_base.specs.declared.errno.Errno.{Errno}
use Rattle.nx_base.specs.declared.errno.Errno.TheVariants.{Ebadf, Einval}
use Rattle.nx_base.specs.Replies.{most_moved}
use Rattle.nx_pool.specs.declared.chain.Chain.{Chain}
use Rattle.nx_ksys.specs.declared.thread.Thread.{Thread}
use Rattle.nx_ksys.specs.declared.thread.Search.TheVariants as search
use Rattle.nx_ksys.specs.Threads.{flat, first_of, slot_of}
use Rattle.nx_ksys.specs.State as state
use Rattle.nx_ksys.specs.Paths.{node_at}
use Rattle.nx_ksys.specs.Answers.{Stepped, Caller, failed}
use Rattle.nx_ksys.specs.QueueCalls.{QueueAt, is_queue_name, are_queue_flags, queue_path, mq_open_row, mq_open_node, queue_there, send_on, receive_on, receive_from, receive_then, next_message, with_message, with_sent}
use Rattle.nx_ipc.specs.declared.queue.Queue.{Queue}
use Rattle.nx_ipc.specs.declared.sent.Sent.{Sent}
use Rattle.nx_ipc.specs.declared.sent.Sent.TheVariants as sent
use Rattle.nx_ipc.specs.declared.message.Message.{Message}
use Rattle.nx_ipc.specs.declared.message.Taken.{Taken}
use Rattle.nx_ipc.specs.declared.received.Received.{Received}
use Rattle.nx_ipc.specs.declared.received.Received.TheVariants as received
use Rattle.nx_ipc.specs.Tables.{Tables, chains_in, chains_sent, queues_of, queue_in, queue_seen, sending_of, with_tables, left_with, sending_with, without_next, IsNext, IsNextAt, GivesNext}
use Rattle.nx_ipc.specs.Rows.{sends, send_told, receive_goes_on, receive_told, message_told}
use Rattle.nx_ipc.proofs.Messages.{flat_queues, get_set, set_same}

-- what stands at a place
pub record Found {A : Type 0} (o : Option A) : Type 0 where
  pub it : A
  pub is : o ≡ Some it

pub found : {A : Type 0} (o : Option A) → IsSome o → Found o
found None h = absurd cc
found (Some x) h = record { it = x; is = refl }

pub queue_found : (content : Chain → List ℕ) (qs : List (Option Queue)) (p : ℕ) (q : Queue) → flat (slice_get qs p) ≡ Some q → flat (slice_get (queues_of content qs) p) ≡ Some (queue_in content q)
queue_found content qs p q e = flat_queues content qs p ∙ ap (queue_seen content) e

pub no_queue : (content : Chain → List ℕ) (qs : List (Option Queue)) (p : ℕ) → flat (slice_get qs p) ≡ None → flat (slice_get (queues_of content qs) p) ≡ None
no_queue content qs p e = flat_queues content qs p ∙ ap (queue_seen content) e

-- ---- sending

pub send_none : (k : state.KernelState) (c : Caller) (m : state.Message) (size place flags : ℕ) (o : Option state.Queue) → o ≡ None → send_on k c m size (queue_there place flags o) ≡ send_told k c place m (Err Ebadf)
send_none k c m size place flags o e = rw e refl

pub send_some : (k k' : state.KernelState) (c : Caller) (m : state.Message) (size place flags : ℕ) (o : Option state.Queue) (q : state.Queue) (result : Result Sent Errno) → o ≡ Some q
    → send_on k c m size (Some (record { place = place; flags = flags; queue = q })) ≡ sends k c (record { place = place; flags = flags; queue = q }) m result
    → sends k c (record { place = place; flags = flags; queue = q }) m result ≡ send_told k' c place m result
    → send_on k c m size (queue_there place flags o) ≡ send_told k' c place m result
send_some k k' c m size place flags o q result e row told = ap (λ x. send_on k c m size (queue_there place flags x)) e ∙ row ∙ told

abbrev state_with : state.KernelState → List (Option state.Queue) → List (Option state.Message) → state.KernelState
state_with k qs ss = record k { queues = qs; sending = ss }

pub told_joined : (k : state.KernelState) (c : Caller) (m : state.Message) (place flags : ℕ) (q : state.Queue) (qs qs' : List (Option state.Queue)) (ss ss' : List (Option state.Message)) → qs' ≡ slice_set qs place (Some (with_message q m)) → ss' ≡ ss
    → sends (record k { queues = qs; sending = ss }) c (record { place = place; flags = flags; queue = q }) m (Ok sent.Joined) ≡ send_told (record k { queues = qs'; sending = ss' }) c place m (Ok sent.Joined)
told_joined k c m place flags q qs qs' ss ss' e f = rw (e, f) refl

pub told_waits : (k : state.KernelState) (c : Caller) (m : state.Message) (place flags : ℕ) (slot : Option ℕ) (q : state.Queue) (qs qs' : List (Option state.Queue)) (ss ss' : List (Option state.Message)) → slot_of k.sched.threads c.thread.number ≡ slot → qs' ≡ qs → ss' ≡ with_sent ss slot (Some m)
    → sends (record k { queues = qs; sending = ss }) c (record { place = place; flags = flags; queue = q }) m (Ok sent.Waits) ≡ send_told (record k { queues = qs'; sending = ss' }) c place m (Ok sent.Waits)
told_waits k c m place flags slot q qs qs' ss ss' s e f = rw (e, f, s) refl

pub told_alike : (k : state.KernelState) (c : Caller) (m : state.Message) (place flags : ℕ) (q : state.Queue) (e : Errno) → sends k c (record { place = place; flags = flags; queue = q }) m (Err e) ≡ send_told k c place m (Err e)
told_alike k c m place flags q e = refl

pub told_delivered : (k : state.KernelState) (c : Caller) (m : state.Message) (place flags : ℕ) (q : state.Queue) (t : Thread) → sends k c (record { place = place; flags = flags; queue = q }) m (Ok (sent.Delivered t)) ≡ send_told k c place m (Ok (sent.Delivered t))
told_delivered k c m place flags q t = refl

-- ---- receiving

pub receive_none_there : (k : state.KernelState) (c : Caller) (size place flags : ℕ) (ticks : Option ℕ) (into : List ℕ) (sender : Option Thread) (o : Option state.Queue) → o ≡ None → receive_on k c size ticks (queue_there place flags o) ≡ receive_told k c place ticks into sender (Err Ebadf)
receive_none_there k c size place flags ticks into sender o e = rw e refl

-- the call may not receive
pub receive_refused : (k : state.KernelState) (c : Caller) (size place flags : ℕ) (ticks : Option ℕ) (into : List ℕ) (sender : Option Thread) (o : Option state.Queue) (q : state.Queue) (may : Result Unit Errno) (e : Errno) → o ≡ Some q → may ≡ Err e
    → receive_on k c size ticks (Some (record { place = place; flags = flags; queue = q })) ≡ receive_goes_on k c (record { place = place; flags = flags; queue = q }) size ticks may
    → receive_on k c size ticks (queue_there place flags o) ≡ receive_told k c place ticks into sender (Err e)
receive_refused k c size place flags ticks into sender o q may e there is row =
    ap (λ x. receive_on k c size ticks (queue_there place flags x)) there ∙ row ∙ ap (λ r. receive_goes_on k c (record { place = place; flags = flags; queue = q }) size ticks r) is

-- it may, and this is what comes next
pub receive_some : (k k' : state.KernelState) (c : Caller) (size place flags : ℕ) (ticks : Option ℕ) (into : List ℕ) (sender : Option Thread) (o : Option state.Queue) (q : state.Queue) (may : Result Unit Errno) (next : Option state.Message) (nothing : Unit) (result : Result Received Errno)
    → o ≡ Some q → may ≡ Ok nothing → next_message q.messages ≡ next
    → receive_on k c size ticks (Some (record { place = place; flags = flags; queue = q })) ≡ receive_goes_on k c (record { place = place; flags = flags; queue = q }) size ticks may
    → receive_from k c (record { place = place; flags = flags; queue = q }) size ticks next ≡ receive_told k' c place ticks into sender result
    → receive_on k c size ticks (queue_there place flags o) ≡ receive_told k' c place ticks into sender result
receive_some k k' c size place flags ticks into sender o q may next nothing result there is comes row told =
    ap (λ x. receive_on k c size ticks (queue_there place flags x)) there ∙ row
    ∙ ap (λ r. receive_goes_on k c (record { place = place; flags = flags; queue = q }) size ticks r) is
    ∙ ap (λ x. receive_from k c (record { place = place; flags = flags; queue = q }) size ticks x) comes ∙ told

received_then : (k : state.KernelState) (c : Caller) (place : ℕ) (left : state.Queue) (sender : Option Thread) (slot : Option ℕ) (bytes into : List ℕ) (priority : ℕ) (t : Taken) (qs qs' : List (Option state.Queue)) (ss ss' : List (Option state.Message))
    → IfSome sender (λ u. slot_of k.sched.threads u.number ≡ slot) → t.count ≡ length bytes → take t.count into ≡ bytes → t.priority ≡ priority
    → qs' ≡ slice_set qs place (Some (left_with left ss sender slot)) → ss' ≡ sending_with ss sender slot
    → receive_then (record k { queues = qs; sending = ss }) c place left bytes priority sender ≡ message_told (record k { queues = qs'; sending = ss' }) c t.count (take t.count into) t.priority sender
received_then k c place left None slot bytes into priority t qs qs' ss ss' s n b p e f = rw (b, n, p, e, f) refl
received_then k c place left (Some u) slot bytes into priority t qs qs' ss ss' s n b p e f = rw (b, n, p, e, f, s) refl

pub message_received : (k : state.KernelState) (c : Caller) (size place flags : ℕ) (ticks : Option ℕ) (sender : Option Thread) (slot : Option ℕ) (into : List ℕ) (q : state.Queue) (t : Taken) (qs qs' : List (Option state.Queue)) (ss ss' : List (Option state.Message))
    → first_of (search.Sender place) k.sched.threads ≡ sender → IfSome sender (λ u. slot_of k.sched.threads u.number ≡ slot)
    → (g : GivesNext (min size most_moved) into place q ss sender slot qs qs' ss' t)
    → receive_from (record k { queues = qs; sending = ss }) c (record { place = place; flags = flags; queue = q }) size ticks (Some g.message) ≡ receive_told (record k { queues = qs'; sending = ss' }) c place ticks into sender (Ok (received.Message t))
message_received k c size place flags ticks sender slot into q t qs qs' ss ss' first s g =
    ap (λ (x : Option Thread). receive_then (state_with k qs ss) c place (without_next q g.message) (take (min size most_moved) g.message.bytes) g.message.priority x) first
    ∙ received_then k c place (without_next q g.message) sender slot (take (min size most_moved) g.message.bytes) into g.message.priority t qs qs' ss ss' s g.taken.count g.taken.bytes g.taken.priority g.queues g.sending_after

-- ---- one queue of the table gave its next message

pub next_at : (result : Option Taken) (room : ℕ) (into : List ℕ) (place : ℕ) (old new : state.Queue) (qs qs' : List (Option state.Queue)) → IfSome result (IsNext room into old new) → slice_get qs place ≡ Some (Some old) → qs' ≡ slice_set qs place (Some new)
    → IfSome result (λ t. (q : state.Queue) → slice_get qs place ≡ Some (Some q) → IsNextAt room into place q qs qs' t)
next_at None room into place old new qs qs' h g e = h
next_at (Some t) room into place old new qs qs' h g e = λ q f.
    let s : old ≡ q = cc in
    record {
      message = h.message;
      next = ap (λ (x : state.Queue). next_message x.messages) (sym s) ∙ h.next;
      taken = h.taken;
      queues = e ∙ ap (λ x. slice_set qs place (Some x)) (h.left ∙ ap (λ x. without_next x h.message) s);
    }

pub no_next_at : (result : Option Taken) (place : ℕ) (old : state.Queue) (qs : List (Option state.Queue)) → IfNone result (next_message old.messages ≡ None) → slice_get qs place ≡ Some (Some old)
    → IfNone result ((q : state.Queue) → slice_get qs place ≡ Some (Some q) → next_message q.messages ≡ None)
no_next_at None place old qs h g = λ q f. let s : old ≡ q = cc in ap (λ (x : state.Queue). next_message x.messages) (sym s) ∙ h
no_next_at (Some t) place old qs h g = h

pub few_then : (result : Option Taken) (place : ℕ) (new : Queue) (qs : List (Option Queue)) → IfSome result (λ t. length new.messages.items < 64) → slice_get qs place ≡ Some (Some new)
    → IfSome result (λ t. (q : Queue) → flat (slice_get qs place) ≡ Some q → length q.messages.items < 64)
few_then None place new qs h g = h
few_then (Some t) place new qs h g = λ q f.
    let is : flat (slice_get qs place) ≡ Some new = ap flat g in
    let s : new ≡ q = cc in
    subst (λ (x : Queue). length x.messages.items < 64) s h

pub there_then : (qs : List (Option Queue)) (place : ℕ) (x : Queue) (y : Option Queue) → slice_get qs place ≡ Some y → IsSome (flat (slice_get (slice_set qs place (Some x)) place))
there_then qs place x y e = rw (get_set qs place (Some x) y e) refl

pub same_then : {W : Type 0} (result : Option Taken) (place : ℕ) (old new : Queue) (qs : List (Option Queue)) (v w : W) → IfNone result ((new ≡ old) × (v ≡ w)) → slice_get qs place ≡ Some (Some old) → IfNone result ((slice_set qs place (Some new) ≡ qs) × (v ≡ w))
same_then None place old new qs v w h g = (ap (λ x. slice_set qs place (Some x)) h.0 ∙ set_same qs place (Some old) g, h.1)
same_then (Some t) place old new qs v w h g = h

pub no_chains : (qs : List (Option Queue)) (ss : List (Option Message)) → flat_map chains_in qs ≡ [] → flat_map chains_sent ss ≡ [] → flat_map chains_in qs ++ flat_map chains_sent ss ≡ []
no_chains qs ss e f = rw (e, f) refl

-- ---- opening

pub free_of_queues : (content : Chain → List ℕ) (n : ℕ) (qs : List (Option Queue)) → position_from is_none n (queues_of content qs) ≡ position_from is_none n qs
free_of_queues content n [] = refl
free_of_queues content n (None ∷ qs) = refl
free_of_queues content n (Some q ∷ qs) = free_of_queues content (n + 1) qs

counted_alike : (content : Chain → List ℕ) (n : ℕ) (qs : List (Option Queue)) → fold (λ (a : ℕ) (x : Option Queue). a + cond (is_some x) 1 0) n qs ≡ fold (λ (a : ℕ) (x : Option state.Queue). a + cond (is_some x) 1 0) n (queues_of content qs)
counted_alike content n [] = refl
counted_alike content n (None ∷ qs) = counted_alike content (n + 0) qs
counted_alike content n (Some q ∷ qs) = counted_alike content (n + 1) qs

pub count_of_queues : (content : Chain → List ℕ) (qs : List (Option Queue)) → count_by is_some qs ≡ count_by is_some (queues_of content qs)
count_of_queues content qs = counted_alike content 0 qs

pub stands_at : (content : Chain → List ℕ) (qs : List (Option Queue)) (p : ℕ) → is_some (flat (slice_get (queues_of content qs) p)) ≡ is_some (flat (slice_get qs p))
stands_at content qs p = ap is_some (flat_queues content qs p) ∙ same (flat (slice_get qs p))
  where
    same : (o : Option Queue) → is_some (queue_seen content o) ≡ is_some o
    same None = refl
    same (Some q) = refl

pub opens_at : (k : state.KernelState) (c : Caller) (name : List ℕ) (flags limit size : ℕ) (path : List ℕ) → is_queue_name name ≡ true → are_queue_flags flags ≡ true → path ≡ queue_path name
    → mq_open_row k c name flags limit size ≡ mq_open_node k c path flags limit size (node_at k.tree.entries path)
unfolding mq_open_row
opens_at k c name flags limit size path n f p =
    let rest = mq_open_node k c (queue_path name) flags limit size (node_at k.tree.entries (queue_path name)) in
    ap (λ b. if not (b && are_queue_flags flags) then failed k c Einval else rest) n ∙ ap (λ b. if not (true && b) then failed k c Einval else rest) f
    ∙ ap (λ q. mq_open_node k c q flags limit size (node_at k.tree.entries q)) (sym p)
