-- The changes of which calls on semaphores and queues are made.
use Rattle.std.proofs.Common.{ap}
use Rattle.std.proofs.Common.{◌≡◌, ℕ, ◌+◌, ◌<◌, ◌≤◌, ◌==◌, ◌&&◌, ◌||◌, Bool, true, false, List, [], ◌∷◌, length, take, min, Option, Some, None, refl, subst, arith, length-append}
use Rattle.std.specs.Prelude.{not, nat_le, nat_lt, slice_get, codes, ◌-◌}
use Rattle.std.specs.List.{position_from, list_any}
use Rattle.std.specs.Option.{is_none}
use Rattle.std.specs.Str.{bytes_eq}
use Rattle.std.proofs.lemmas.Bool.{and_parts}
use Rattle.std.proofs.lemmas.Bool.Decides.{nat_tests}
use Rattle.nx_base.specs.Replies.{most_moved}
use Rattle.nx_base.specs.declared.errno.Errno.TheVariants as errno
use Rattle.nx_ksys.specs.declared.node.Node.{Node}
use Rattle.nx_ksys.specs.declared.node.NodeKind.{NodeKind}
use Rattle.nx_ksys.specs.declared.node.NodeKind.TheVariants as node
use Rattle.nx_ksys.specs.declared.node.Target.{Target}
use Rattle.nx_ksys.specs.declared.node.Target.TheVariants as target
use Rattle.nx_ksys.specs.declared.thread.Thread.{Thread}
use Rattle.nx_ksys.specs.declared.thread.Wait.TheVariants as wait
use Rattle.nx_ksys.specs.declared.thread.Search.TheVariants as search
use Rattle.nx_ksys.specs.Threads.{flat, first_of, slot_of, is_for_message, is_for_room, is_for_semaphore}
use Rattle.nx_ksys.specs.State.{Message, Queue, Semaphore, KernelState, blocks_for, free_blocks, objects}
use Rattle.nx_ksys.specs.Paths.{node_at, entries_but}
use Rattle.nx_ksys.specs.Descriptors.{Opened, opened, may_read, may_write, creates, is_exclusive, never_waits}
use Rattle.nx_ksys.specs.TreeCalls.{with_entries}
use Rattle.nx_ksys.specs.Answers.{Caller}
use Rattle.nx_ksys.specs.SemaphoreCalls.{most_posts, with_semaphore, is_semaphore_name, are_semaphore_flags, has_name, create_semaphore_at, open_semaphore, sem_open_row, SemaphoreAt, semaphore_there, semaphore_to, semaphore_behind, semaphore_of, take_one, wait_on, sem_wait_row, try_on, sem_trywait_row, post_to, post_on, sem_post_row, close_semaphore, sem_close_row}
use Rattle.nx_ksys.specs.QueueCalls.{is_queue_part, is_queue_name, queue_path, are_queue_flags, most_messages, longest_message, are_queue_limits, with_queue, with_new_queue, create_queue_at, open_queue, mq_open_node, mq_open_row, queue_unlinked, unlink_queue, mq_unlink_node, mq_unlink_row, QueueAt, queue_there, queue_to, queue_behind, queue_of, close_queue, mq_close_row, highest_priority, is_full, with_message, send_joins, send_to, send_on, mq_send_row, has_priority, top_priority, next_message, without_oldest, sent_at, with_sent_message, joined, receive_then, receive_waits, receive_from, are_past, receive_on, mq_receive_row, mq_timedreceive_row}
use Rattle.nx_ksys.specs.Soundness.{EachStanding}
use Rattle.nx_ksys.specs.ByteLaws.{Each}
use Rattle.nx_ksys.proofs.Standing.{some_same, none_some, first_found, flat_some}
use Rattle.nx_ksys.proofs.Waking.{first_stands, awaited_waits}
use Rattle.nx_ksys.proofs.ByteWalks.{each_none, each_more, each_joined}
use Rattle.nx_kbounds.specs.Shortness.{IsShortMessage, IsShortQueue, IsShortSemaphore}
use Rattle.nx_kbounds.proofs.Changes.{Change, Same, Then, Wakes, Waits, PathGoes, QueueBegins, QueueChanges, Sends, SemaphoreBegins, SemaphoreChanges, AreNumbered}
use Rattle.std.proofs.Common.{inl, inr}
use Rattle.std.specs.Option.{is_some}
use Rattle.nx_ksys.specs.Bounds.{queue_place, stands}
use Rattle.nx_ksys.proofs.Standing.{free_place, off_on, IsPlace, place_found}
use Rattle.nx_kbounds.proofs.Naming.{named_leads, new_stands}
use Rattle.nx_kbounds.proofs.Walking.{Made, quiet, twice, followed, test, fails, blocks, never, target_change, closed_change, describes}
use Rattle.nx_kbounds.proofs.ShortTexts.{or_false, not_false, fewer_messages, one_less}
use Rattle.nx_kbounds.proofs.EnvironmentWalk.{near}

-- ---- what a descriptor leads to

to_semaphore : (k : KernelState) (t : Target) (s : SemaphoreAt) → semaphore_to k t ≡ Some s → flat (slice_get k.semaphores s.place) ≡ Some s.semaphore
to_semaphore k (target.File place) s e = absurd (none_some s e)
to_semaphore k target.Console s e = absurd (none_some s e)
to_semaphore k target.Null s e = absurd (none_some s e)
to_semaphore k (target.Queue place) s e = absurd (none_some s e)
to_semaphore k (target.Semaphore place) s e = by_there (flat (slice_get k.semaphores place)) refl e
  where
    by_there : (o : Option Semaphore) → flat (slice_get k.semaphores place) ≡ o → semaphore_there place o ≡ Some s → flat (slice_get k.semaphores s.place) ≡ Some s.semaphore
    by_there None f g = absurd (none_some s g)
    by_there (Some v) f g = subst (λ (w : SemaphoreAt). flat (slice_get k.semaphores w.place) ≡ Some w.semaphore) (some_same _ s g) f

semaphore_stands : (k : KernelState) (c : Caller) (fd : ℕ) (s : SemaphoreAt) → semaphore_of k c fd ≡ Some s → flat (slice_get k.semaphores s.place) ≡ Some s.semaphore
unfolding semaphore_of
semaphore_stands k c fd s e = by_open (opened k c.place fd) e
  where
    by_open : (o : Option Opened) → semaphore_behind k o ≡ Some s → flat (slice_get k.semaphores s.place) ≡ Some s.semaphore
    by_open None f = absurd (none_some s f)
    by_open (Some o) f = to_semaphore k o.description.target s f

to_queue : (k : KernelState) (flags : ℕ) (t : Target) (q : QueueAt) → queue_to k flags t ≡ Some q → flat (slice_get k.queues q.place) ≡ Some q.queue
to_queue k flags (target.File place) q e = absurd (none_some q e)
to_queue k flags target.Console q e = absurd (none_some q e)
to_queue k flags target.Null q e = absurd (none_some q e)
to_queue k flags (target.Semaphore place) q e = absurd (none_some q e)
to_queue k flags (target.Queue place) q e = by_there (flat (slice_get k.queues place)) refl e
  where
    by_there : (o : Option Queue) → flat (slice_get k.queues place) ≡ o → queue_there place flags o ≡ Some q → flat (slice_get k.queues q.place) ≡ Some q.queue
    by_there None f g = absurd (none_some q g)
    by_there (Some v) f g = subst (λ (w : QueueAt). flat (slice_get k.queues w.place) ≡ Some w.queue) (some_same _ q g) f

queue_stands : (k : KernelState) (c : Caller) (fd : ℕ) (q : QueueAt) → queue_of k c fd ≡ Some q → flat (slice_get k.queues q.place) ≡ Some q.queue
unfolding queue_of
queue_stands k c fd q e = by_open (opened k c.place fd) e
  where
    by_open : (o : Option Opened) → queue_behind k o ≡ Some q → flat (slice_get k.queues q.place) ≡ Some q.queue
    by_open None f = absurd (none_some q f)
    by_open (Some o) f = to_queue k o.description.flags o.description.target q f

-- the semaphore of a name stands
named_stands : (name : List ℕ) (ss : List (Option Semaphore)) (place : ℕ) → position_from (has_name name) 0 ss ≡ Some place → stands ss place ≡ true
named_stands name ss place e = by_item f.item f.at f.passes (let i = f.is in omega (arith, i))
  where
    f : IsPlace (has_name name) ss 0 place
    f = place_found (has_name name) ss 0 place e

    by_item : (o : Option Semaphore) → slice_get ss f.place ≡ Some o → has_name name o ≡ true → f.place ≡ place → stands ss place ≡ true
    by_item None a t s = absurd (off_on false refl t)
    by_item (Some x) a t s = subst (λ p. stands ss p ≡ true) s (ap (λ (o : Option (Option Semaphore)). is_some (flat o)) a)

-- ---- names and limits

semaphore_short : (name : List ℕ) (flags value : ℕ) → not (is_semaphore_name name && are_semaphore_flags flags) ≡ false → nat_lt most_posts value ≡ false → IsShortSemaphore (record { name = name; value = value })
semaphore_short name flags value e f =
    let both = and_parts (is_semaphore_name name) (are_semaphore_flags flags) (not_false (is_semaphore_name name && are_semaphore_flags flags) e) in
    let first = and_parts (nat_le 1 (length name) && nat_le (length name) 32) (not (list_any (λ b. b == 47) name)) both.0 in
    let second = and_parts (nat_le 1 (length name)) (nat_le (length name) 32) first.0 in
    let short : nat_le (length name) 32 ≡ true = second.1 in
    record { text = grind (arith, nat_tests); most = grind (arith, nat_tests) }

queue_name_short : (name : List ℕ) → is_queue_name name ≡ true → length name ≤ 33
queue_name_short [] e = omega arith
queue_name_short (b ∷ part) e =
    let own = and_parts (b == 47) (is_queue_part part) e in
    let rest : Bool = not (list_any (λ b. b == 47) part || bytes_eq part (codes ".") || bytes_eq part (codes "..")) in
    let first = and_parts (nat_le 1 (length part) && nat_le (length part) 32) rest own.1 in
    let second = and_parts (nat_le 1 (length part)) (nat_le (length part) 32) first.0 in
    let short : nat_le (length part) 32 ≡ true = second.1 in
    grind (arith, nat_tests)

queue_path_short : (name : List ℕ) (flags : ℕ) → not (is_queue_name name && are_queue_flags flags) ≡ false → length (queue_path name) ≤ 255
queue_path_short name flags e =
    let both = and_parts (is_queue_name name) (are_queue_flags flags) (not_false (is_queue_name name && are_queue_flags flags) e) in
    let short = queue_name_short name both.0 in
    let all = length-append (codes "/var/mqueue") name in
    omega (arith, short, all)

limits_short : (limit size : ℕ) → not (are_queue_limits limit size) ≡ false → IsShortQueue (record { limit = limit; size = size; messages = [] })
limits_short limit size e =
    let whole = not_false (are_queue_limits limit size) e in
    let a = and_parts (nat_le 1 limit && nat_le limit most_messages && nat_le 1 size) (nat_le size longest_message) whole in
    let b = and_parts (nat_le 1 limit && nat_le limit most_messages) (nat_le 1 size) a.0 in
    let c = and_parts (nat_le 1 limit) (nat_le limit most_messages) b.0 in
    let most : nat_le limit most_messages ≡ true = c.1 in
    let longest : nat_le size longest_message ≡ true = a.1 in
    record { most = grind (arith, nat_tests); longest = grind (arith, nat_tests); few = omega arith; each = each_none IsShortMessage }

one_message : (m : Message) → IsShortMessage m → Each IsShortMessage (m ∷ [])
one_message m le = each_more IsShortMessage m [] le (each_none IsShortMessage)

message_joins : (q : Queue) (m : Message) → IsShortMessage m → length q.messages < 64 → IsShortQueue q → IsShortQueue (with_message q m)
message_joins q m le room h = record {
  most = h.most;
  longest = h.longest;
  few = (let a = length-append q.messages (m ∷ []) in omega (arith, a, room));
  each = each_joined IsShortMessage q.messages (m ∷ []) h.each (one_message m le);
}

has_room : (q : Queue) → is_full q ≡ false → length q.messages < 64
has_room q e = let f = or_false (nat_le q.limit (length q.messages)) (nat_le most_messages (length q.messages)) e in grind (arith, nat_tests)

abbrev taken_from : Queue → ℕ → Queue
taken_from q priority = record q { messages = without_oldest priority q.messages }

-- a message is taken
pub record IsTaken (q : Queue) (m : Message) : Type 0 where
  pub place : ℕ
  pub at : slice_get q.messages place ≡ Some m

next_taken : (q : Queue) (m : Message) → next_message q.messages ≡ Some m → IsTaken q m
unfolding next_message
next_taken q m e = let f = first_found (has_priority (top_priority q.messages)) q.messages m e in record { place = f.place; at = f.at }

queue_taken : (q : Queue) (m : Message) → IsTaken q m → IsShortQueue q → IsShortQueue (taken_from q m.priority)
queue_taken q m t h = record {
  most = h.most;
  longest = h.longest;
  few = (let a = one_less m.priority q.messages m t.place t.at refl in let b = h.few in omega (arith, a, b));
  each = fewer_messages m.priority q.messages IsShortMessage h.each;
}

sent_short : (sending : List (Option Message)) (slot : Option ℕ) (m : Message) → EachStanding IsShortMessage sending → sent_at sending slot ≡ Some m → IsShortMessage m
sent_short sending None m h e = absurd (none_some m e)
sent_short sending (Some slot) m h e = h slot m (flat_some (slice_get sending slot) m e)

queue_rejoined : (q : Queue) (m : Message) → IsTaken q m → (n : Option Message) → ((x : Message) → n ≡ Some x → IsShortMessage x) → IsShortQueue q → IsShortQueue (with_sent_message (taken_from q m.priority) n)
queue_rejoined q m t None short h = queue_taken q m t h
queue_rejoined q m t (Some x) short h =
    message_joins (taken_from q m.priority) x (short x refl) (let a = one_less m.priority q.messages m t.place t.at refl in let b = h.few in omega (arith, a, b)) (queue_taken q m t h)

module _ (k : KernelState) (c : Caller) where
  -- ---- semaphores

  pub sem_open_made : flat (slice_get k.groups c.place) ≡ Some c.group → (name : List ℕ) (flags value : ℕ) → Made k (sem_open_row k c name flags value)
  unfolding sem_open_row
  sem_open_made lives name flags value = test k (not (is_semaphore_name name && are_semaphore_flags flags)) _ _ (λ t. fails k c errno.Einval) (λ t. by_name t (position_from (has_name name) 0 k.semaphores) refl)
    where
      by_place : IsShortSemaphore (record { name = name; value = value }) → nat_le k.limits.objects (objects k) ≡ false → (place : Option ℕ) → position_from is_none 0 k.semaphores ≡ place → Made k (create_semaphore_at k c name flags value place)
      by_place short room None e = fails k c errno.Enospc
      by_place short room (Some place) e =
          describes k (with_semaphore k place (record { name = name; value = value })) c (target.Semaphore place) flags lives (new_stands k.semaphores place (record { name = name; value = value }) (free_place k.semaphores place e)) (SemaphoreBegins place (record { name = name; value = value }) e room short)

      by_name : not (is_semaphore_name name && are_semaphore_flags flags) ≡ false → (place : Option ℕ) → position_from (has_name name) 0 k.semaphores ≡ place → Made k (open_semaphore k c name flags value place)
      by_name named None e =
          test k (not (creates flags)) _ _ (λ t. fails k c errno.Enoent) (λ t. test k (nat_lt most_posts value) _ _ (λ u. fails k c errno.Einval)
          (λ u. test k (nat_le k.limits.objects (objects k)) _ _ (λ v. fails k c errno.Enospc) (λ v. by_place (semaphore_short name flags value named u) v (position_from is_none 0 k.semaphores) refl)))
      by_name named (Some place) e = test k (is_exclusive flags) _ _ (λ t. fails k c errno.Eexist) (λ t. describes k k c (target.Semaphore place) flags lives (named_stands name k.semaphores place e) Same)

  takes_one : (s : SemaphoreAt) → flat (slice_get k.semaphores s.place) ≡ Some s.semaphore → Made k (take_one k c s)
  takes_one s there = quiet k _ (SemaphoreChanges s.place s.semaphore (record s.semaphore { value = s.semaphore.value - 1 }) there (λ h. record { text = h.text; most = (let a = h.most in omega (arith, a)) }))

  pub sem_wait_made : AreNumbered k.sched.threads → (fd : ℕ) → Made k (sem_wait_row k c fd)
  unfolding sem_wait_row
  sem_wait_made numbered fd = by_semaphore (semaphore_of k c fd) refl
    where
      by_semaphore : (s : Option SemaphoreAt) → semaphore_of k c fd ≡ s → Made k (wait_on k c s)
      by_semaphore None e = fails k c errno.Ebadf
      by_semaphore (Some s) e = test k (s.semaphore.value == 0) _ _ (λ t. blocks k c numbered (wait.Semaphore s.place) None (never k.time) (ap is_some (semaphore_stands k c fd s e))) (λ t. takes_one s (semaphore_stands k c fd s e))

  pub sem_trywait_made : (fd : ℕ) → Made k (sem_trywait_row k c fd)
  unfolding sem_trywait_row
  sem_trywait_made fd = by_semaphore (semaphore_of k c fd) refl
    where
      by_semaphore : (s : Option SemaphoreAt) → semaphore_of k c fd ≡ s → Made k (try_on k c s)
      by_semaphore None e = fails k c errno.Ebadf
      by_semaphore (Some s) e = test k (s.semaphore.value == 0) _ _ (λ t. fails k c errno.Eagain) (λ t. takes_one s (semaphore_stands k c fd s e))

  pub sem_post_made : (fd : ℕ) → Made k (sem_post_row k c fd)
  unfolding sem_post_row
  sem_post_made fd = by_semaphore (semaphore_of k c fd) refl
    where
      by_waiter : (s : SemaphoreAt) → flat (slice_get k.semaphores s.place) ≡ Some s.semaphore → nat_le most_posts s.semaphore.value ≡ false → (t : Option Thread) → first_of (search.Waiter s.place) k.sched.threads ≡ t → Made k (post_to k c s t)
      by_waiter s there room None e =
          quiet k _ (SemaphoreChanges s.place s.semaphore (record s.semaphore { value = s.semaphore.value + 1 }) there (λ h. record { text = h.text; most = grind (arith, nat_tests) }))
      by_waiter s there room (Some t) e =
          let f = first_stands (search.Waiter s.place) k.sched.threads t e in
          quiet k _ (Wakes t f.slot f.stands (awaited_waits (is_for_semaphore s.place) refl t.doing f.passes))

      by_semaphore : (s : Option SemaphoreAt) → semaphore_of k c fd ≡ s → Made k (post_on k c s)
      by_semaphore None e = fails k c errno.Ebadf
      by_semaphore (Some s) e =
          test k (nat_le most_posts s.semaphore.value) _ _ (λ t. fails k c errno.Einval) (λ t. by_waiter s (semaphore_stands k c fd s e) t (first_of (search.Waiter s.place) k.sched.threads) refl)

  pub sem_close_made : (fd : ℕ) → Made k (sem_close_row k c fd)
  unfolding sem_close_row
  sem_close_made fd = by_semaphore (semaphore_of k c fd)
    where
      by_semaphore : (s : Option SemaphoreAt) → Made k (close_semaphore k c fd s)
      by_semaphore None = fails k c errno.Ebadf
      by_semaphore (Some s) = quiet k _ (closed_change k c.place fd)

  -- ---- queues

  pub mq_open_made : flat (slice_get k.groups c.place) ≡ Some c.group → (name : List ℕ) (flags limit size : ℕ) → Made k (mq_open_row k c name flags limit size)
  unfolding mq_open_row
  mq_open_made lives name flags limit size =
      test k (not (is_queue_name name && are_queue_flags flags)) _ _ (λ t. fails k c errno.Einval) (λ t. by_node (queue_path name) (queue_path_short name flags t) (node_at k.tree.entries (queue_path name)) refl)
    where
      by_place : (path : List ℕ) → length path ≤ 255 → IsShortQueue (record { limit = limit; size = size; messages = [] }) → nat_le k.limits.objects (objects k) ≡ false → (place : Option ℕ) → position_from is_none 0 k.queues ≡ place
          → Made k (create_queue_at k c path flags limit size place)
      by_place path le short room None e = fails k c errno.Enospc
      by_place path le short room (Some place) e = describes k (with_new_queue k path place limit size) c (target.Queue place) flags lives (inl (new_stands k.queues place (record { limit = limit; size = size; messages = [] }) (free_place k.queues place e))) (QueueBegins path place limit size e le room short)

      by_kind : (path : List ℕ) (n : Node) → node_at k.tree.entries path ≡ Some n → (kind : NodeKind) → n.kind ≡ kind → Made k (open_queue k c flags kind)
      by_kind path n e node.Directory f = fails k c errno.Einval
      by_kind path n e (node.File place) f = fails k c errno.Einval
      by_kind path n e node.Console f = fails k c errno.Einval
      by_kind path n e node.Null f = fails k c errno.Einval
      by_kind path n e (node.Program place) f = fails k c errno.Einval
      by_kind path n e (node.Queue place) f = describes k k c (target.Queue place) flags lives (inr (named_leads queue_place k.tree.entries path n place e (ap queue_place f))) Same

      by_node : (path : List ℕ) → length path ≤ 255 → (n : Option Node) → node_at k.tree.entries path ≡ n → Made k (mq_open_node k c path flags limit size n)
      by_node path le None e =
          test k (not (creates flags)) _ _ (λ t. fails k c errno.Enoent) (λ t. test k (not (are_queue_limits limit size)) _ _ (λ u. fails k c errno.Einval)
          (λ u. test k (nat_le k.limits.objects (objects k)) _ _ (λ v. fails k c errno.Enospc) (λ v. by_place path le (limits_short limit size u) v (position_from is_none 0 k.queues) refl)))
      by_node path le (Some n) e = test k (is_exclusive flags) _ _ (λ t. fails k c errno.Eexist) (λ t. by_kind path n e n.kind refl)

  pub mq_unlink_made : (name : List ℕ) → Made k (mq_unlink_row k c name)
  unfolding mq_unlink_row
  mq_unlink_made name = test k (not (is_queue_name name)) _ _ (λ t. fails k c errno.Einval) (λ t. by_node (queue_path name) (node_at k.tree.entries (queue_path name)))
    where
      unlinked : (path : List ℕ) (place : ℕ) → Change 0 k (queue_unlinked k path place)
      unlinked path place = let left = with_entries k (entries_but path k.tree.entries) in followed k left _ (PathGoes path) (target_change left (target.Queue place))

      by_kind : (path : List ℕ) (n : NodeKind) → Made k (unlink_queue k c path n)
      by_kind path node.Directory = fails k c errno.Einval
      by_kind path (node.File place) = fails k c errno.Einval
      by_kind path node.Console = fails k c errno.Einval
      by_kind path node.Null = fails k c errno.Einval
      by_kind path (node.Program place) = fails k c errno.Einval
      by_kind path (node.Queue place) = quiet k _ (unlinked path place)

      by_node : (path : List ℕ) (n : Option Node) → Made k (mq_unlink_node k c path n)
      by_node path None = fails k c errno.Enoent
      by_node path (Some n) = by_kind path n.kind

  pub mq_close_made : (fd : ℕ) → Made k (mq_close_row k c fd)
  unfolding mq_close_row
  mq_close_made fd = by_queue (queue_of k c fd)
    where
      by_queue : (q : Option QueueAt) → Made k (close_queue k c fd q)
      by_queue None = fails k c errno.Ebadf
      by_queue (Some q) = quiet k _ (closed_change k c.place fd)

  pub mq_send_made : AreNumbered k.sched.threads → (fd : ℕ) (bytes : List ℕ) (size priority : ℕ) → length bytes ≤ 4096 → Made k (mq_send_row k c fd bytes size priority)
  unfolding mq_send_row
  mq_send_made numbered fd bytes size priority le = by_queue (record { priority = priority; bytes = bytes }) le (queue_of k c fd) refl
    where
      joins : (m : Message) → IsShortMessage m → (q : QueueAt) → flat (slice_get k.queues q.place) ≡ Some q.queue → Made k (send_joins k c q m)
      joins m short q there =
          test k (is_full q.queue) _ _
          (λ t. twice k _ (Then (Sends (slot_of k.sched.threads c.thread.number) (Some m) (λ n e. subst IsShortMessage (some_same m n e) short))
          (Waits c.thread.number c.asked (wait.Send q.place) None numbered (never k.time) (ap is_some there))))
          (λ t. quiet k _ (QueueChanges q.place q.queue (with_message q.queue m) there (λ sent h. message_joins q.queue m short (has_room q.queue t) h)))

      by_receiver : (m : Message) → IsShortMessage m → (q : QueueAt) → flat (slice_get k.queues q.place) ≡ Some q.queue → (t : Option Thread) → first_of (search.Receiver q.place) k.sched.threads ≡ t → Made k (send_to k c q m t)
      by_receiver m short q there (Some t) e =
          let f = first_stands (search.Receiver q.place) k.sched.threads t e in
          quiet k _ (Wakes t f.slot f.stands (awaited_waits (is_for_message q.place) refl t.doing f.passes))
      by_receiver m short q there None e =
          test k (is_full q.queue && never_waits q.flags) _ _ (λ t. fails k c errno.Eagain) (λ t. test k (nat_lt (free_blocks k) (blocks_for (length m.bytes))) _ _ (λ u. fails k c errno.Enospc) (λ u. joins m short q there))

      by_queue : (m : Message) → IsShortMessage m → (q : Option QueueAt) → queue_of k c fd ≡ q → Made k (send_on k c m size q)
      by_queue m short None e = fails k c errno.Ebadf
      by_queue m short (Some q) e =
          test k (not (may_write q.flags)) _ _ (λ t. fails k c errno.Ebadf) (λ t. test k (nat_lt highest_priority m.priority) _ _ (λ u. fails k c errno.Einval)
          (λ u. test k (nat_lt q.queue.size size) _ _ (λ v. fails k c errno.Emsgsize) (λ v. by_receiver m short q (queue_stands k c fd q e) (first_of (search.Receiver q.place) k.sched.threads) refl)))

  receive_made : AreNumbered k.sched.threads → (fd size : ℕ) (ticks : Option ℕ) (q : Option QueueAt) → queue_of k c fd ≡ q → Made k (receive_on k c size ticks q)
  receive_made numbered fd size ticks q e = by_queue q e
    where
      later : (place : ℕ) → stands k.queues place ≡ true → (ticks : Option ℕ) → are_past ticks ≡ false → Made k (receive_waits k c place ticks)
      later place there None e = blocks k c numbered (wait.Receive place) None (never k.time) there
      later place there (Some ticks) e = test k (ticks == 0) _ _ (λ t. fails k c errno.Etimedout) (λ t. blocks k c numbered (wait.Receive place) (Some (k.time + ticks)) (near k.time ticks e) there)

      by_sender : (q : QueueAt) → flat (slice_get k.queues q.place) ≡ Some q.queue → (m : Message) → IsTaken q.queue m → (bytes : List ℕ) (t : Option Thread) → first_of (search.Sender q.place) k.sched.threads ≡ t
          → Made k (receive_then k c q.place (taken_from q.queue m.priority) bytes m.priority t)
      by_sender q there m taken bytes None e = quiet k _ (QueueChanges q.place q.queue (taken_from q.queue m.priority) there (λ sent h. queue_taken q.queue m taken h))
      by_sender q there m taken bytes (Some t) e =
          let f = first_stands (search.Sender q.place) k.sched.threads t e in
          let slot = slot_of k.sched.threads t.number in
          let new = with_sent_message (taken_from q.queue m.priority) (sent_at k.sending slot) in
          quiet k _ (followed k (joined k q.place (taken_from q.queue m.priority) slot) _
          (followed k (with_queue k q.place new) _
          (QueueChanges q.place q.queue new there (λ sent h. queue_rejoined q.queue m taken (sent_at k.sending slot) (λ x g. sent_short k.sending slot x sent g) h))
          (Sends slot None (λ n g. absurd (none_some n g))))
          (Wakes t f.slot f.stands (awaited_waits (is_for_room q.place) refl t.doing f.passes)))

      by_message : (q : QueueAt) → flat (slice_get k.queues q.place) ≡ Some q.queue → are_past ticks ≡ false → (m : Option Message) → next_message q.queue.messages ≡ m → Made k (receive_from k c q size ticks m)
      by_message q there past None e = test k (never_waits q.flags) _ _ (λ t. fails k c errno.Eagain) (λ t. later q.place (ap is_some there) ticks past)
      by_message q there past (Some m) e = by_sender q there m (next_taken q.queue m e) (take (min size most_moved) m.bytes) (first_of (search.Sender q.place) k.sched.threads) refl

      by_queue : (q : Option QueueAt) → queue_of k c fd ≡ q → Made k (receive_on k c size ticks q)
      by_queue None e = fails k c errno.Ebadf
      by_queue (Some q) e =
          test k (not (may_read q.flags)) _ _ (λ t. fails k c errno.Ebadf) (λ t. test k (are_past ticks) _ _ (λ u. fails k c errno.Einval)
          (λ u. test k (nat_lt size q.queue.size) _ _ (λ v. fails k c errno.Emsgsize) (λ v. by_message q (queue_stands k c fd q e) u (next_message q.queue.messages) refl)))

  pub mq_receive_made : AreNumbered k.sched.threads → (fd size : ℕ) → Made k (mq_receive_row k c fd size)
  unfolding mq_receive_row
  mq_receive_made numbered fd size = receive_made numbered fd size None (queue_of k c fd) refl

  pub mq_timedreceive_made : AreNumbered k.sched.threads → (fd size ticks : ℕ) → Made k (mq_timedreceive_row k c fd size ticks)
  unfolding mq_timedreceive_row
  mq_timedreceive_made numbered fd size ticks = receive_made numbered fd size (Some ticks) (queue_of k c fd) refl
