-- A message that comes to the end of a queue, from a slot or as a new chain; messages that are given up.
use Rattle.std.proofs.Common.{◌≡◌, ◌+◌, ◌<◌, ◌≤◌, ℕ, zero, suc, List, [], ◌∷◌, ◌++◌, length, map, take, drop, refl, sym, ap, ◌∙◌, subst, arith, append_assoc, Bool, true, false, ◌==◌, min, add-one, append-nil}
use Rattle.std.specs.Prelude.{Option, Some, None, slice_get, slice_set, flat_map, if◌then◌else◌}
use Rattle.std.proofs.lemmas.List.{map-append, map-set}
use Rattle.std.proofs.lemmas.List.Concat.{flat_map-append}
use Rattle.nx_pool.specs.declared.chain.Chain.{Chain}
use Rattle.nx_pool.specs.Effects.{IsHeld, Comes, Goes}
use Rattle.nx_pool.specs.Moves.{AreHeld, Moves, IsMovable}
use Rattle.nx_pool.proofs.Holders.{seen_same, sides_same, moves_inside, one_is_held, held_inside, Moves-comes, Moves-goes}
use Rattle.nx_ksys.specs.declared.thread.Thread.{Thread}
use Rattle.nx_ksys.specs.State as state
use Rattle.nx_ksys.specs.Ends.{kept_message, kept_messages}
use Rattle.nx_ksys.specs.QueueCalls.{with_message, with_sent_message}
use Rattle.nx_ipc.specs.declared.message.Message.{Message}
use Rattle.nx_ipc.specs.declared.queue.Queue.{Queue}
use Rattle.nx_ipc.specs.Tables.{chain_in, message_of, messages_of, chains_in, queue_in, queue_seen, queues_of, chains_sent, sending_of, Pushed, is_of, without_sent}
use Rattle.nx_ipc.proofs.Messages.{queue_law, get_map, set_same}

module _ {H : Type 0} (parts : H → List Chain) where
  pub chains_split : (hs : List H) (p : ℕ) (h : H) → slice_get hs p ≡ Some h → flat_map parts hs ≡ flat_map parts (take p hs) ++ (parts h ++ flat_map parts (drop (suc p) hs))
  chains_split [] p h e = absurd cc
  chains_split (x ∷ xs) zero h e = let k : x ≡ h = cc in ap (λ q. parts q ++ flat_map parts xs) k
  chains_split (x ∷ xs) (suc p) h e = ap (λ q. parts x ++ q) (chains_split xs p h e) ∙ sym (append_assoc (parts x) _ _)

  pub chains_set : (hs : List H) (p : ℕ) (h : H) → p < length hs → flat_map parts (slice_set hs p h) ≡ flat_map parts (take p hs) ++ (parts h ++ flat_map parts (drop (suc p) hs))
  chains_set [] p h l = absurd (omega arith)
  chains_set (x ∷ xs) zero h l = refl
  chains_set (x ∷ xs) (suc p) h l = ap (λ q. parts x ++ q) (chains_set xs p h (omega arith)) ∙ sym (append_assoc (parts x) _ _)

-- ---- a message comes to the end of a queue

pub pushed : (qs : List (Option Queue)) (p : ℕ) (q q' : Queue) (m : Message) → slice_get qs p ≡ Some (Some q) → p < length qs → q'.messages.items ≡ q.messages.items ++ m ∷ [] → Pushed (flat_map chains_in qs) (flat_map chains_in (slice_set qs p (Some q'))) m.chain
pushed qs p q q' m e l k = record {
  front = flat_map chains_in (take p qs);
  own = flat_map chain_in q.messages.items;
  back = flat_map chains_in (drop (suc p) qs);
  before = chains_split chains_in qs p (Some q) e;
  after = chains_set chains_in qs p (Some q') l ∙ ap (λ cs. flat_map chains_in (take p qs) ++ (cs ++ flat_map chains_in (drop (suc p) qs))) (ap (flat_map chain_in) k ∙ flat_map-append chain_in q.messages.items (m ∷ []));
}

-- the queue at a place, as it was and as it is then
pub pushed_row : (content : Chain → List ℕ) (qs : List (Option Queue)) (p : ℕ) (q q' : Queue) (m : Message) (s : state.Queue) → slice_get qs p ≡ Some (Some q) → q'.limit ≡ q.limit → q'.size ≡ q.size → q'.messages.items ≡ q.messages.items ++ m ∷ []
    → slice_get (queues_of content qs) p ≡ Some (Some s) → queues_of content (slice_set qs p (Some q')) ≡ slice_set (queues_of content qs) p (Some (with_message s (message_of content m)))
pushed_row content qs p q q' m s e a b k f =
    let there = get_map (queue_seen content) qs p (Some q) e in
    let is : queue_in content q ≡ s = cc in
    let more : messages_of content q'.messages.items ≡ messages_of content q.messages.items ++ message_of content m ∷ [] = ap (messages_of content) k ∙ map-append (message_of content) q.messages.items (m ∷ []) in
    map-set (queue_seen content) qs p (Some q') ∙ ap (λ x. slice_set (queues_of content qs) p (Some x)) (rw (← is, more, a, b) refl)

pub join_chains : (holds : List Chain → Type 0) (content : Chain → List ℕ) (as' qs bs cs ds : List Chain) (m : Chain) → IsMovable holds → Moves holds holds content content ((as' ++ (qs ++ bs)) ++ (cs ++ m ∷ ds)) ((as' ++ ((qs ++ m ∷ []) ++ bs)) ++ (cs ++ ds))
join_chains holds content as' qs bs cs ds m law = record {
  held = λ xs ys h.
      let e1 : xs ++ (((as' ++ (qs ++ bs)) ++ (cs ++ m ∷ ds)) ++ ys) ≡ (xs ++ (as' ++ (qs ++ (bs ++ cs)))) ++ m ∷ (ds ++ ys) = simp append_assoc refl in
      let e2 : (xs ++ (as' ++ qs)) ++ m ∷ (bs ++ (cs ++ (ds ++ ys))) ≡ xs ++ (((as' ++ ((qs ++ m ∷ []) ++ bs)) ++ (cs ++ ds)) ++ ys) = simp append_assoc refl in
      let e3 : (xs ++ (as' ++ (qs ++ (bs ++ cs)))) ++ (ds ++ ys) ≡ (xs ++ (as' ++ qs)) ++ (bs ++ (cs ++ (ds ++ ys))) = simp append_assoc refl in
      subst holds e2 (law (xs ++ (as' ++ (qs ++ (bs ++ cs)))) (ds ++ ys) (xs ++ (as' ++ qs)) (bs ++ (cs ++ (ds ++ ys))) m e3 (subst holds e1 h));
  others = λ xs ys h. record { before = refl; after = refl };
}

-- a message that waited at a slot joins
pub join_moves : (holds : List Chain → Type 0) (content : Chain → List ℕ) (qs qs' : List Chain) (ss : List (Option Message)) (p : ℕ) (m : Message) → slice_get ss p ≡ Some (Some m) → p < length ss → Pushed qs qs' m.chain → IsMovable holds
    → Moves holds holds content content (qs ++ flat_map chains_sent ss) (qs' ++ flat_map chains_sent (slice_set ss p None))
join_moves holds content qs qs' ss p m e l k law =
    let a = chains_split chains_sent ss p (Some m) e in
    let b = chains_set chains_sent ss p None l in
    rw (k.before, k.after, a, b) (join_chains holds content k.front k.own k.back (flat_map chains_sent (take p ss)) (flat_map chains_sent (drop (suc p) ss)) m.chain law)

-- a new chain joins
pub push_moves : (holds holds' : List Chain → Type 0) (content content' : Chain → List ℕ) (qs qs' : List Chain) (m : Chain) (bytes : List ℕ) → Comes holds holds' content content' m bytes → Pushed qs qs' m → Moves holds holds' content content' qs qs'
push_moves holds holds' content content' qs qs' m bytes a k =
    let e1 : (k.front ++ k.own) ++ ([] ++ k.back) ≡ k.front ++ (k.own ++ k.back) = append_assoc k.front k.own k.back in
    let e2 : (k.front ++ k.own) ++ (m ∷ [] ++ k.back) ≡ k.front ++ ((k.own ++ m ∷ []) ++ k.back) = simp append_assoc refl in
    let moves = moves_inside holds holds' content content' (k.front ++ k.own) [] (m ∷ []) k.back (Moves-comes holds holds' content content' m bytes a) in
    subst (λ q. Moves holds holds' content content' q qs') (e1 ∙ sym k.before) (subst (λ q. Moves holds holds' content content' ((k.front ++ k.own) ++ ([] ++ k.back)) q) (e2 ∙ sym k.after) moves)

-- the queues have the bytes that they had
pub queues_kept : (holds holds' : List Chain → Type 0) (content content' : Chain → List ℕ) (qs : List (Option Queue)) (m : Chain) (bytes : List ℕ) → AreHeld holds (flat_map chains_in qs) → Comes holds holds' content content' m bytes → queues_of content' qs ≡ queues_of content qs
queues_kept holds holds' content content' qs m bytes h a =
    seen_same chains_in queue_seen queue_law content content' qs (sides_same holds holds' content content' [] [] (m ∷ []) (flat_map chains_in qs) h (Moves-comes holds holds' content content' m bytes a)).1

-- ---- a new queue

pub made : (content : Chain → List ℕ) (qs : List (Option Queue)) (p : ℕ) (q : Queue) → q.messages.items ≡ [] → queues_of content (slice_set qs p (Some q)) ≡ slice_set (queues_of content qs) p (Some (record { limit = q.limit; size = q.size; messages = [] }))
made content qs p q e =
    map-set (queue_seen content) qs p (Some q) ∙ ap (λ (ms : List Message). let b : state.Queue = record { limit = q.limit; size = q.size; messages = messages_of content ms } in slice_set (queues_of content qs) p (Some b)) e

pub made_chains : (qs : List (Option Queue)) (p : ℕ) (q : Queue) → q.messages.items ≡ [] → slice_get qs p ≡ Some None → p < length qs → flat_map chains_in (slice_set qs p (Some q)) ≡ flat_map chains_in qs
made_chains qs p q e at l =
    chains_set chains_in qs p (Some q) l ∙ ap (λ ms. flat_map chains_in (take p qs) ++ (flat_map chain_in ms ++ flat_map chains_in (drop (suc p) qs))) e ∙ sym (chains_split chains_in qs p None at)

-- ---- the messages of a group's threads are given up

one_kept : (group : ℕ) (t : Option Thread) (m : Option state.Message) (ms : List (Option state.Message)) → kept_message group t m ∷ ms ≡ without_sent group t 0 (m ∷ ms)
one_kept group None m ms = refl
one_kept group (Some t) m ms = by (t.group == group)
  where
    by : (b : Bool) → (if b then None else m) ∷ ms ≡ (if b then None ∷ ms else m ∷ ms)
    by true = refl
    by false = refl

next_kept : (group : ℕ) (t : Option Thread) (slot : ℕ) (m : Option state.Message) (ms : List (Option state.Message)) → m ∷ without_sent group t slot ms ≡ without_sent group t (suc slot) (m ∷ ms)
next_kept group None slot m ms = refl
next_kept group (Some t) slot m ms = by (t.group == group)
  where
    by : (b : Bool) → m ∷ (if b then slice_set ms slot None else ms) ≡ (if b then m ∷ slice_set ms slot None else m ∷ ms)
    by true = refl
    by false = refl

kept_next : (group : ℕ) (ts : List (Option Thread)) (slot : ℕ) (t : Option Thread) (ms : List (Option state.Message)) → slice_get ts slot ≡ Some t → slot < length ms
    → kept_messages group (take (suc slot) ts) ms ≡ without_sent group t slot (kept_messages group (take slot ts) ms)
kept_next group [] slot t ms e l = absurd cc
kept_next group (x ∷ ts) zero t [] e l = absurd (omega arith)
kept_next group (x ∷ ts) zero t (m ∷ ms) e l = let s : x ≡ t = cc in ap (λ q. kept_message group q m ∷ ms) s ∙ one_kept group t m ms
kept_next group (x ∷ ts) (suc slot) t [] e l = absurd (omega arith)
kept_next group (x ∷ ts) (suc slot) t (m ∷ ms) e l =
    ap (λ q. kept_message group x m ∷ q) (kept_next group ts slot t ms e (omega arith)) ∙ next_kept group t slot (kept_message group x m) (kept_messages group (take slot ts) ms)

pub kept_more : (group : ℕ) (ts : List (Option Thread)) (slot : ℕ) (t : Option Thread) (ms : List (Option state.Message)) → slice_get ts slot ≡ Some t → slot < length ms
    → kept_messages group (take (slot + 1) ts) ms ≡ without_sent group t slot (kept_messages group (take slot ts) ms)
kept_more group ts slot t ms e l = rw add-one (kept_next group ts slot t ms e l)

take_none : (n : ℕ) (ts : List (Option Thread)) → ts ≡ [] → take n ts ≡ []
take_none zero ts e = refl
take_none (suc n) [] e = refl
take_none (suc n) (t ∷ ts) e = absurd cc

pub kept_all : (group : ℕ) (ts : List (Option Thread)) (ms : List (Option state.Message)) (n : ℕ) → min (length ts) (length ms) ≤ n → kept_messages group (take n ts) ms ≡ kept_messages group ts ms
kept_all group [] ms n l = ap (λ q. kept_messages group q ms) (take_none n [] refl)
kept_all group (t ∷ ts) [] zero l = refl
kept_all group (t ∷ ts) [] (suc n) l = refl
kept_all group (t ∷ ts) (m ∷ ms) zero l = absurd (omega arith)
kept_all group (t ∷ ts) (m ∷ ms) (suc n) l = ap (λ q. kept_message group t m ∷ q) (kept_all group ts ms n (omega arith))

-- where no message waits, the queue stays
pub stays : (qs : List (Option state.Queue)) (place : ℕ) (q : state.Queue) (m : Option state.Message) → slice_get qs place ≡ Some (Some q) → m ≡ None → qs ≡ slice_set qs place (Some (with_sent_message q m))
stays qs place q m e k = rw k (sym (set_same qs place (Some q) e))

-- ---- the last message of a queue is given back

last_split : (ms ms' : List Message) (m : Message) → ms ≡ ms' ++ m ∷ [] → flat_map chain_in ms ≡ flat_map chain_in ms' ++ (m.chain ∷ [] ++ [])
last_split ms ms' m e = ap (flat_map chain_in) e ∙ flat_map-append chain_in ms' (m ∷ [])

pub last_held : (holds : List Chain → Type 0) (ms ms' : List Message) (m : Message) → AreHeld holds (flat_map chain_in ms) → ms ≡ ms' ++ m ∷ [] → IsHeld holds m.chain
last_held holds ms ms' m h e = one_is_held holds m.chain (held_inside holds (flat_map chain_in ms') (m.chain ∷ []) [] (subst (AreHeld holds) (last_split ms ms' m e) h))

pub last_goes : (holds holds' : List Chain → Type 0) (content content' : Chain → List ℕ) (ms ms' : List Message) (m : Message) → ms ≡ ms' ++ m ∷ [] → Goes holds holds' content content' m.chain → Moves holds holds' content content' (flat_map chain_in ms) (flat_map chain_in ms')
last_goes holds holds' content content' ms ms' m e b =
    subst (λ q. Moves holds holds' content content' (flat_map chain_in ms) q) (append-nil (flat_map chain_in ms'))
    (subst (λ q. Moves holds holds' content content' q (flat_map chain_in ms' ++ [])) (sym (last_split ms ms' m e))
    (moves_inside holds holds' content content' (flat_map chain_in ms') (m.chain ∷ []) [] [] (Moves-goes holds holds' content content' m.chain b)))
