-- Queues by place and messages by slot: their chains, and what they are where chains have these bytes.
use Rattle.std.specs.Prelude.{ℕ, ◌≡◌, ◌<◌, List, [], ◌∷◌, ◌++◌, length, map, take, flat_map, slice_get, slice_set, Option, Some, None, Bool, false, ◌==◌, if◌then◌else◌}
use Rattle.nx_pool.specs.declared.chain.Chain.{Chain}
use Rattle.nx_pool.specs.Chains.{length_of}
use Rattle.nx_ksys.specs.declared.thread.Thread.{Thread}
use Rattle.nx_ksys.specs.State as state
use Rattle.nx_ksys.specs.QueueCalls.{next_message, without_oldest, sent_at, with_sent, with_sent_message}
use Rattle.nx_ipc.specs.declared.message.Message.{Message}
use Rattle.nx_ipc.specs.declared.message.Taken.{Taken}
use Rattle.nx_ipc.specs.declared.queue.Queue.{Queue}

-- queues by place, and by slot the message that its thread waits to send
pub record Tables : Type 0 where
  pub queues : List (Option Queue)
  pub sending : List (Option Message)

abbrev pub chain_in : Message → List Chain
chain_in m = m.chain ∷ []

abbrev pub message_of : (Chain → List ℕ) → Message → state.Message
message_of content m = record { priority = m.priority; bytes = content m.chain }

abbrev pub messages_of : (Chain → List ℕ) → List Message → List state.Message
messages_of content ms = map (message_of content) ms

abbrev pub chains_sent : Option Message → List Chain
chains_sent None = []
chains_sent (Some m) = m.chain ∷ []

abbrev pub sent_of : (Chain → List ℕ) → Option Message → Option state.Message
sent_of content None = None
sent_of content (Some m) = Some (message_of content m)

abbrev pub sending_of : (Chain → List ℕ) → List (Option Message) → List (Option state.Message)
sending_of content ms = map (sent_of content) ms

abbrev pub chains_in : Option Queue → List Chain
chains_in None = []
chains_in (Some q) = flat_map chain_in q.messages.items

abbrev pub queue_in : (Chain → List ℕ) → Queue → state.Queue
queue_in content q = record { limit = q.limit; size = q.size; messages = messages_of content q.messages.items }

abbrev pub queue_seen : (Chain → List ℕ) → Option Queue → Option state.Queue
queue_seen content None = None
queue_seen content (Some q) = Some (queue_in content q)

abbrev pub queues_of : (Chain → List ℕ) → List (Option Queue) → List (Option state.Queue)
queues_of content qs = map (queue_seen content) qs

-- the chains of all queues, and then those of the messages that wait
abbrev pub chains_of : Tables → List Chain
chains_of t = flat_map chains_in t.queues ++ flat_map chains_sent t.sending

-- a state with these queues and messages
abbrev pub with_tables : state.KernelState → (Chain → List ℕ) → Tables → state.KernelState
with_tables k content t = record k { queues = queues_of content t.queues; sending = sending_of content t.sending }

-- each chain has as many bytes as its handle says
abbrev pub AreSized : (Chain → List ℕ) → Type 0
AreSized content = (c : Chain) → length (content c) ≡ length_of c

-- of a message were taken its priority and its first bytes, as many as there is room for
pub record IsTaken (room : ℕ) (into : List ℕ) (m : state.Message) (t : Taken) : Type 0 where
  pub priority : t.priority ≡ m.priority
  pub bytes : take t.count into ≡ take room m.bytes
  pub count : t.count ≡ length (take room m.bytes)

-- and they were taken of the message at a place
pub record IsTakenAt (room : ℕ) (into : List ℕ) (ms : List state.Message) (i : ℕ) (t : Taken) : Type 0 where
  pub message : state.Message
  pub there : slice_get ms i ≡ Some message
  pub taken : IsTaken room into message t

-- a queue without a message that was taken
abbrev pub without_next : state.Queue → state.Message → state.Queue
without_next q m = record q { messages = without_oldest m.priority q.messages }

-- a queue gave its next message
pub record IsNext (room : ℕ) (into : List ℕ) (old new : state.Queue) (t : Taken) : Type 0 where
  pub message : state.Message
  pub next : next_message old.messages ≡ Some message
  pub taken : IsTaken room into message t
  pub left : new ≡ without_next old message

-- and so did the queue at a place
pub record IsNextAt (room : ℕ) (into : List ℕ) (place : ℕ) (q : state.Queue) (old new : List (Option state.Queue)) (t : Taken) : Type 0 where
  pub message : state.Message
  pub next : next_message q.messages ≡ Some message
  pub taken : IsTaken room into message t
  pub queues : new ≡ slice_set old place (Some (without_next q message))

-- whose message that waits joins the queue that is left
abbrev pub joined_to : state.Queue → List (Option state.Message) → Option ℕ → state.Queue
joined_to q sending slot = with_sent_message q (sent_at sending slot)

-- what is left of a queue once a sender that waits goes on: its message joins
abbrev pub left_with : state.Queue → List (Option state.Message) → Option Thread → Option ℕ → state.Queue
left_with q sending None slot = q
left_with q sending (Some t) slot = joined_to q sending slot

abbrev pub sending_with : List (Option state.Message) → Option Thread → Option ℕ → List (Option state.Message)
sending_with sending None slot = sending
sending_with sending (Some t) slot = with_sent sending slot None

-- the queue at a place gave its next message, and that of a sender that waits joined it
pub record GivesNext (room : ℕ) (into : List ℕ) (place : ℕ) (q : state.Queue) (sending : List (Option state.Message)) (sender : Option Thread) (slot : Option ℕ) (old new : List (Option state.Queue)) (after : List (Option state.Message)) (t : Taken) : Type 0 where
  pub message : state.Message
  pub next : next_message q.messages ≡ Some message
  pub taken : IsTaken room into message t
  pub queues : new ≡ slice_set old place (Some (left_with (without_next q message) sending sender slot))
  pub sending_after : after ≡ sending_with sending sender slot

-- a thread of a group
abbrev pub is_of : ℕ → Option Thread → Bool
is_of group None = false
is_of group (Some t) = t.group == group

-- the messages without that of a slot, if its thread is of a group
abbrev pub without_sent : ℕ → Option Thread → ℕ → List (Option state.Message) → List (Option state.Message)
without_sent group t slot ms = if is_of group t then slice_set ms slot None else ms

-- a chain stands after some of those that were there
pub record Pushed (old new : List Chain) (c : Chain) : Type 0 where
  pub front : List Chain
  pub own : List Chain
  pub back : List Chain
  pub before : old ≡ front ++ (own ++ back)
  pub after : new ≡ front ++ ((own ++ c ∷ []) ++ back)
