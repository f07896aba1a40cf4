-- Messages, queues and messages that wait as holders of chains, of which one changes.
use Rattle.std.proofs.Common.{◌≡◌, ◌+◌, ◌<◌, ◌≤◌, ℕ, zero, suc, List, [], ◌∷◌, ◌++◌, length, map, take, drop, refl, sym, ap, ◌∙◌, subst, arith, get_or, append-nil, append_assoc, add-one, min}
use Rattle.std.specs.Prelude.{Option, Some, None, IsSome, Bool, false, slice_get, slice_set, flat_map, remove, replicate}
use Rattle.std.specs.Option.{is_some}
use Rattle.std.proofs.lemmas.List.{map-append, map-set, length-take-le, take_at}
use Rattle.nx_base.specs.ByteLists.{get_bytes}
use Rattle.nx_pool.proofs.Appends.{get_bytes-first}
use Rattle.std.proofs.lemmas.List.Concat.{flat_map-append}
use Rattle.nx_pool.specs.declared.chain.Chain.{Chain}
use Rattle.nx_pool.specs.Effects.{IsHeld, Comes, Goes}
use Rattle.nx_pool.specs.Moves.{AreHeld, Moves, IsMovable}
use Rattle.nx_pool.proofs.Holders.{Step, step_remove, step_set, seen_same, sides_same, moves_inside, place_held, one_is_held, held_inside, Moves-goes, Moves-comes, same_before, same_after}
use Rattle.nx_ksys.specs.Threads.{flat}
use Rattle.nx_ksys.specs.State as state
use Rattle.nx_ipc.specs.declared.message.Message.{Message}
use Rattle.nx_ipc.specs.declared.queue.Queue.{Queue}
use Rattle.nx_ipc.specs.Tables.{chain_in, message_of, messages_of, chains_in, queue_in, queue_seen, queues_of, chains_sent, sent_of, sending_of, Pushed}

pub message_law : (content content' : Chain → List ℕ) (m : Message) → map content' (chain_in m) ≡ map content (chain_in m) → message_of content' m ≡ message_of content m
message_law content content' m e =
    let h : content' m.chain ≡ content m.chain = cc in
    ap (λ (bs : List ℕ). let n : state.Message = record { priority = m.priority; bytes = bs } in n) h

pub queue_law : (content content' : Chain → List ℕ) (o : Option Queue) → map content' (chains_in o) ≡ map content (chains_in o) → queue_seen content' o ≡ queue_seen content o
queue_law content content' None e = refl
queue_law content content' (Some q) e =
    let h = seen_same chain_in message_of message_law content content' q.messages.items e in
    ap (λ (ms : List state.Message). let b : state.Queue = record { limit = q.limit; size = q.size; messages = ms } in Some b) h

pub sent_law : (content content' : Chain → List ℕ) (o : Option Message) → map content' (chains_sent o) ≡ map content (chains_sent o) → sent_of content' o ≡ sent_of content o
sent_law content content' None e = refl
sent_law content content' (Some m) e = ap Some (message_law content content' m e)

-- ---- places

module _ {H : Type 0} where
  pub place_of : (hs : List H) (p : ℕ) (o d : H) → p < length hs → get_or hs p d ≡ o → slice_get hs p ≡ Some o
  place_of [] p o d l e = absurd (omega arith)
  place_of (x ∷ xs) zero o d l e = ap Some e
  place_of (x ∷ xs) (suc p) o d l e = place_of xs p o d (omega arith) e

  pub some_at : (hs : List (Option H)) (p : ℕ) (h : H) → get_or hs p None ≡ Some h → slice_get hs p ≡ Some (Some h)
  some_at [] p h e = absurd cc
  some_at (x ∷ xs) zero h e = ap Some e
  some_at (x ∷ xs) (suc p) h e = some_at xs p h e

  pub set_same : (hs : List H) (p : ℕ) (h : H) → slice_get hs p ≡ Some h → slice_set hs p h ≡ hs
  set_same [] p h e = absurd cc
  set_same (x ∷ xs) zero h e = let k : x ≡ h = cc in ap (λ q. q ∷ xs) (sym k)
  set_same (x ∷ xs) (suc p) h e = ap (λ q. x ∷ q) (set_same xs p h e)

  pub set_again : (hs : List H) (p : ℕ) (x y : H) → slice_set (slice_set hs p x) p y ≡ slice_set hs p y
  set_again [] p x y = refl
  set_again (z ∷ zs) zero x y = refl
  set_again (z ∷ zs) (suc p) x y = ap (λ q. z ∷ q) (set_again zs p x y)

  pub get_set : (hs : List H) (p : ℕ) (x y : H) → slice_get hs p ≡ Some y → slice_get (slice_set hs p x) p ≡ Some x
  get_set [] p x y e = absurd cc
  get_set (z ∷ zs) zero x y e = refl
  get_set (z ∷ zs) (suc p) x y e = get_set zs p x y e

  pub set_past : (hs : List H) (p : ℕ) (x : H) → length hs ≤ p → slice_set hs p x ≡ hs
  set_past [] p x l = refl
  set_past (z ∷ zs) zero x l = absurd (omega arith)
  set_past (z ∷ zs) (suc p) x l = ap (λ q. z ∷ q) (set_past zs p x (omega arith))

  pub get_past : (hs : List H) (p : ℕ) → length hs ≤ p → slice_get hs p ≡ None
  get_past [] p l = refl
  get_past (z ∷ zs) zero l = absurd (omega arith)
  get_past (z ∷ zs) (suc p) l = get_past zs p (omega arith)

  pub is_below : (hs : List H) (p : ℕ) (h : H) → slice_get hs p ≡ Some h → p < length hs
  is_below [] p h e = absurd cc
  is_below (x ∷ xs) zero h e = omega arith
  is_below (x ∷ xs) (suc p) h e = let l = is_below xs p h e in omega arith

  pub flat_get : (hs : List (Option H)) (p : ℕ) (h : H) → flat (slice_get hs p) ≡ Some h → slice_get hs p ≡ Some (Some h)
  flat_get [] p h e = absurd cc
  flat_get (x ∷ xs) zero h e = ap Some e
  flat_get (x ∷ xs) (suc p) h e = flat_get xs p h e

module _ {H A : Type 0} (f : H → A) where
  pub get_map : (hs : List H) (p : ℕ) (h : H) → slice_get hs p ≡ Some h → slice_get (map f hs) p ≡ Some (f h)
  get_map [] p h e = absurd cc
  get_map (x ∷ xs) zero h e = let k : x ≡ h = cc in ap (λ q. Some (f q)) k
  get_map (x ∷ xs) (suc p) h e = get_map xs p h e

pub flat_queues : (content : Chain → List ℕ) (qs : List (Option Queue)) (p : ℕ) → flat (slice_get (queues_of content qs) p) ≡ queue_seen content (flat (slice_get qs p))
flat_queues content [] p = refl
flat_queues content (x ∷ xs) zero = refl
flat_queues content (x ∷ xs) (suc p) = flat_queues content xs p

pub flat_sending : (content : Chain → List ℕ) (ss : List (Option Message)) (p : ℕ) → flat (slice_get (sending_of content ss) p) ≡ sent_of content (flat (slice_get ss p))
flat_sending content [] p = refl
flat_sending content (x ∷ xs) zero = refl
flat_sending content (x ∷ xs) (suc p) = flat_sending content xs p

-- ---- one message

pub message_at : (ms : List Message) (i : ℕ) (m : Message) → i < length ms → m ≡ get_or ms i m → slice_get ms i ≡ Some m
message_at [] i m l e = absurd (omega arith)
message_at (x ∷ xs) zero m l e = ap Some (sym e)
message_at (x ∷ xs) (suc i) m l e = message_at xs i m (omega arith) e

pub message_held : (holds : List Chain → Type 0) (ms : List Message) (i : ℕ) (m : Message) → AreHeld holds (flat_map chain_in ms) → slice_get ms i ≡ Some m → IsHeld holds m.chain
message_held holds ms i m h e = one_is_held holds m.chain (place_held chain_in message_of message_law holds ms i m h e)

pub message_goes : (holds holds' : List Chain → Type 0) (content content' : Chain → List ℕ) (ms : List Message) (i : ℕ) (m : Message) → AreHeld holds (flat_map chain_in ms) → slice_get ms i ≡ Some m → Goes holds holds' content content' m.chain
    → Step chain_in message_of holds holds' content content' ms (remove ms i) (remove (messages_of content ms) i)
message_goes holds holds' content content' ms i m h e b = step_remove chain_in message_of message_law holds holds' content content' ms i m h e (Moves-goes holds holds' content content' m.chain b)

pub message_is : (content : Chain → List ℕ) (m : Message) (priority : ℕ) (bytes : List ℕ) → m.priority ≡ priority → content m.chain ≡ bytes → message_of content m ≡ record { priority = priority; bytes = bytes }
message_is content m priority bytes e k = rw (e, k) refl

-- ---- one queue

pub queue_held : (holds : List Chain → Type 0) (qs : List (Option Queue)) (p : ℕ) (q : Queue) → AreHeld holds (flat_map chains_in qs) → slice_get qs p ≡ Some (Some q) → AreHeld holds (flat_map chain_in q.messages.items)
queue_held holds qs p q h e = place_held chains_in queue_seen queue_law holds qs p (Some q) h e

pub queue_becomes : (holds holds' : List Chain → Type 0) (content content' : Chain → List ℕ) (qs : List (Option Queue)) (p : ℕ) (q q' : Queue) → AreHeld holds (flat_map chains_in qs) → slice_get qs p ≡ Some (Some q)
    → Moves holds holds' content content' (flat_map chain_in q.messages.items) (flat_map chain_in q'.messages.items)
    → Step chains_in queue_seen holds holds' content content' qs (slice_set qs p (Some q')) (slice_set (queues_of content qs) p (Some (queue_in content' q')))
queue_becomes holds holds' content content' qs p q q' h e m = step_set chains_in queue_seen queue_law holds holds' content content' qs p (Some q) (Some q') (Some (queue_in content' q')) h e m refl

pub queue_goes : (holds holds' : List Chain → Type 0) (content content' : Chain → List ℕ) (qs : List (Option Queue)) (p : ℕ) (q : Queue) → AreHeld holds (flat_map chains_in qs) → slice_get qs p ≡ Some (Some q)
    → Moves holds holds' content content' (flat_map chain_in q.messages.items) []
    → Step chains_in queue_seen holds holds' content content' qs (slice_set qs p None) (slice_set (queues_of content qs) p None)
queue_goes holds holds' content content' qs p q h e m = step_set chains_in queue_seen queue_law holds holds' content content' qs p (Some q) None None h e m refl

-- ---- one message that waits

pub sent_held : (holds : List Chain → Type 0) (ss : List (Option Message)) (p : ℕ) (m : Message) → AreHeld holds (flat_map chains_sent ss) → slice_get ss p ≡ Some (Some m) → IsHeld holds m.chain
sent_held holds ss p m h e = one_is_held holds m.chain (place_held chains_sent sent_of sent_law holds ss p (Some m) h e)

pub sent_goes : (holds holds' : List Chain → Type 0) (content content' : Chain → List ℕ) (ss : List (Option Message)) (p : ℕ) (m : Message) → AreHeld holds (flat_map chains_sent ss) → slice_get ss p ≡ Some (Some m) → Goes holds holds' content content' m.chain
    → Step chains_sent sent_of holds holds' content content' ss (slice_set ss p None) (slice_set (sending_of content ss) p None)
sent_goes holds holds' content content' ss p m h e b = step_set chains_sent sent_of sent_law holds holds' content content' ss p (Some m) None None h e (Moves-goes holds holds' content content' m.chain b) refl

pub sent_comes : (holds holds' : List Chain → Type 0) (content content' : Chain → List ℕ) (ss : List (Option Message)) (p : ℕ) (m : Message) (priority : ℕ) (bytes : List ℕ) → AreHeld holds (flat_map chains_sent ss) → slice_get ss p ≡ Some None → m.priority ≡ priority
    → Comes holds holds' content content' m.chain bytes → Step chains_sent sent_of holds holds' content content' ss (slice_set ss p (Some m)) (slice_set (sending_of content ss) p (Some (record { priority = priority; bytes = bytes })))
sent_comes holds holds' content content' ss p m priority bytes h e k a =
    step_set chains_sent sent_of sent_law holds holds' content content' ss p None (Some m) (Some (record { priority = priority; bytes = bytes })) h e (Moves-comes holds holds' content content' m.chain bytes a) (ap Some (message_is content' m priority bytes k a.own))

-- a chain comes, and another goes
pub Moves-instead : (holds holds' holds'' : List Chain → Type 0) (content content' content'' : Chain → List ℕ) (new old : Chain) (bytes : List ℕ) → Comes holds holds' content content' new bytes → Goes holds' holds'' content' content'' old → Moves holds holds'' content content'' (old ∷ []) (new ∷ [])
Moves-instead holds holds' holds'' content content' content'' new old bytes a b = record {
  held = λ xs ys h. subst holds'' (append_assoc xs (new ∷ []) ys) (b.held (xs ++ new ∷ []) ys (subst holds' (sym (append_assoc xs (new ∷ []) (old ∷ ys))) (a.held xs (old ∷ ys) h)));
  others = λ xs ys h.
      let first = a.others xs (old ∷ ys) h in
      let second = b.others (xs ++ new ∷ []) ys (subst holds' (sym (append_assoc xs (new ∷ []) (old ∷ ys))) (a.held xs (old ∷ ys) h)) in
      record { before = same_before content' content'' xs (new ∷ []) second.before ∙ first.before; after = second.after ∙ same_after content content' (old ∷ []) ys first.after };
}

-- which has its bytes then
pub instead_own : (holds holds' holds'' : List Chain → Type 0) (content content' content'' : Chain → List ℕ) (new old : Chain) (bytes : List ℕ) (xs ys : List Chain) → holds (xs ++ old ∷ ys) → Comes holds holds' content content' new bytes → Goes holds' holds'' content' content'' old → content'' new ≡ bytes
instead_own holds holds' holds'' content content' content'' new old bytes xs ys h a b =
    let second = b.others (xs ++ new ∷ []) ys (subst holds' (sym (append_assoc xs (new ∷ []) (old ∷ ys))) (a.held xs (old ∷ ys) h)) in
    let one = same_after content' content'' xs (new ∷ []) second.before in
    let same : content'' new ≡ content' new = cc in
    same ∙ a.own

pub sent_instead : (holds holds' holds'' : List Chain → Type 0) (content content' content'' : Chain → List ℕ) (ss : List (Option Message)) (p : ℕ) (m old : Message) (priority : ℕ) (bytes : List ℕ) → AreHeld holds (flat_map chains_sent ss) → slice_get ss p ≡ Some (Some old) → m.priority ≡ priority
    → Comes holds holds' content content' m.chain bytes → Goes holds' holds'' content' content'' old.chain
    → Step chains_sent sent_of holds holds'' content content'' ss (slice_set ss p (Some m)) (slice_set (sending_of content ss) p (Some (record { priority = priority; bytes = bytes })))
sent_instead holds holds' holds'' content content' content'' ss p m old priority bytes h e k a b =
    let here = sent_held holds ss p old h e in
    step_set chains_sent sent_of sent_law holds holds'' content content'' ss p (Some old) (Some m) (Some (record { priority = priority; bytes = bytes })) h e (Moves-instead holds holds' holds'' content content' content'' m.chain old.chain bytes a b)
    (ap Some (message_is content'' m priority bytes k (instead_own holds holds' holds'' content content' content'' m.chain old.chain bytes here.before here.after here.held a b)))

pub still_one : (holds holds' : List Chain → Type 0) (content content' : Chain → List ℕ) (c new : Chain) (bytes : List ℕ) → IsHeld holds c → Comes holds holds' content content' new bytes → IsHeld holds' c
still_one holds holds' content content' c new bytes h a = record {
  before = h.before ++ new ∷ [];
  after = h.after;
  held = subst holds' (sym (append_assoc h.before (new ∷ []) (c ∷ h.after))) (a.held h.before (c ∷ h.after) h.held);
}

-- ---- both tables

pub queues_held : (holds : List Chain → Type 0) (qs ss : List Chain) → AreHeld holds (qs ++ ss) → AreHeld holds qs
queues_held holds qs ss h = record { before = h.before; after = ss ++ h.after; held = subst holds (ap (λ q. h.before ++ q) (append_assoc qs ss h.after)) h.held }

pub sending_held : (holds : List Chain → Type 0) (qs ss : List Chain) → AreHeld holds (qs ++ ss) → AreHeld holds ss
sending_held holds qs ss h = record { before = h.before ++ qs; after = h.after; held = subst holds (ap (λ q. h.before ++ q) (append_assoc qs ss h.after) ∙ sym (append_assoc h.before qs (ss ++ h.after))) h.held }

pub none_held : (holds : List Chain → Type 0) (cs : List Chain) → AreHeld holds cs → AreHeld holds []
none_held holds cs h = record { before = h.before; after = cs ++ h.after; held = h.held }

-- the queues change
pub queues_move : (holds holds' : List Chain → Type 0) (content content' : Chain → List ℕ) (qs qs' ss : List Chain) → Moves holds holds' content content' qs qs' → Moves holds holds' content content' (qs ++ ss) (qs' ++ ss)
queues_move holds holds' content content' qs qs' ss m = moves_inside holds holds' content content' [] qs qs' ss m

pub sending_same : (holds holds' : List Chain → Type 0) (content content' : Chain → List ℕ) (qs qs' : List Chain) (ss : List (Option Message)) → AreHeld holds (qs ++ flat_map chains_sent ss) → Moves holds holds' content content' qs qs' → sending_of content' ss ≡ sending_of content ss
sending_same holds holds' content content' qs qs' ss h m =
    seen_same chains_sent sent_of sent_law content content' ss (sides_same holds holds' content content' [] qs qs' (flat_map chains_sent ss) h m).1

-- the messages that wait change
pub sending_move : (holds holds' : List Chain → Type 0) (content content' : Chain → List ℕ) (qs ss ss' : List Chain) → Moves holds holds' content content' ss ss' → Moves holds holds' content content' (qs ++ ss) (qs ++ ss')
sending_move holds holds' content content' qs ss ss' m =
    subst (λ q. Moves holds holds' content content' (qs ++ q) (qs ++ ss')) (append-nil ss) (subst (λ q. Moves holds holds' content content' (qs ++ (ss ++ [])) (qs ++ q)) (append-nil ss') (moves_inside holds holds' content content' qs ss ss' [] m))

pub queues_same : (holds holds' : List Chain → Type 0) (content content' : Chain → List ℕ) (qs : List (Option Queue)) (ss ss' : List Chain) → AreHeld holds (flat_map chains_in qs ++ ss) → Moves holds holds' content content' ss ss' → queues_of content' qs ≡ queues_of content qs
queues_same holds holds' content content' qs ss ss' h m =
    seen_same chains_in queue_seen queue_law content content' qs (sides_same holds holds' content content' (flat_map chains_in qs) ss ss' [] (subst (λ q. AreHeld holds (flat_map chains_in qs ++ q)) (sym (append-nil ss)) h) m).0

-- ---- no messages

pub one_more : {A : Type 0} (n : ℕ) → replicate {A = Option A} n None ++ None ∷ [] ≡ replicate {A = Option A} (n + 1) None
one_more {A} n = rw add-one (next n)
  where
    next : (m : ℕ) → replicate {A = Option A} m None ++ None ∷ [] ≡ replicate {A = Option A} (suc m) None
    next zero = refl
    next (suc m) = ap (λ q. None ∷ q) (next m)

pub no_chains_in : (n : ℕ) → flat_map chains_in (replicate n None) ≡ []
no_chains_in zero = refl
no_chains_in (suc n) = no_chains_in n

pub no_chains_sent : (n : ℕ) → flat_map chains_sent (replicate n None) ≡ []
no_chains_sent zero = refl
no_chains_sent (suc n) = no_chains_sent n

-- ---- bytes that were read

take_none : (k : ℕ) (bs : List ℕ) → bs ≡ [] → take k bs ≡ []
take_none zero bs e = refl
take_none (suc k) [] e = refl
take_none (suc k) (b ∷ bs) e = absurd cc

pub cut : (bs : List ℕ) (n m : ℕ) → n ≡ min (length bs) m → take n bs ≡ take m bs
cut [] n m e = take_none n [] refl ∙ sym (take_none m [] refl)
cut (b ∷ bs) zero zero e = refl
cut (b ∷ bs) zero (suc m) e = absurd (omega arith)
cut (b ∷ bs) (suc n) zero e = absurd (omega arith)
cut (b ∷ bs) (suc n) (suc m) e = ap (λ q. b ∷ q) (cut bs n m (omega arith))

pub taken_bytes : (bs got rest : List ℕ) (count room : ℕ) → got ≡ get_bytes bs 0 count → count ≡ min (length bs) room → take count (got ++ rest) ≡ take room bs
taken_bytes bs got rest count room e n =
    let first : got ≡ take count bs = e ∙ get_bytes-first bs count (omega arith) in
    take_at got rest count (ap length first ∙ length-take-le count bs (omega arith)) ∙ first ∙ cut bs count room n

pub taken_count : (bs : List ℕ) (count room : ℕ) → count ≡ min (length bs) room → count ≡ length (take room bs)
taken_count bs count room n = sym (length-take-le count bs (omega arith)) ∙ ap length (cut bs count room n)

pub no_one : {H : Type 0} (hs : List (Option H)) (p : ℕ) → slice_get hs p ≡ Some None → IsSome (flat (slice_get hs p)) → ⊥
no_one hs p e h = let f : is_some (flat (slice_get hs p)) ≡ false = rw e refl in absurd cc

-- a store that has handed nothing out holds no chains
pub held_at_first : (holds : List Chain → Type 0) (cs : List Chain) → cs ≡ [] → holds [] → AreHeld holds cs
held_at_first holds cs e h = subst (AreHeld holds) (sym e) (record { before = []; after = []; held = h })

pub taken_within : (room : ℕ) (bs : List ℕ) → length (take room bs) ≤ room
taken_within zero bs = omega arith
taken_within (suc n) [] = omega arith
taken_within (suc n) (b ∷ bs) = let l = taken_within n bs in omega arith
