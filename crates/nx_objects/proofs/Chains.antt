-- Chains of files and chains of messages, of which the first or the second change.
use Rattle.std.proofs.Common.{◌≡◌, ℕ, List, [], ◌∷◌, ◌++◌, map, refl, sym, ap, ◌∙◌, subst, append-nil}
use Rattle.std.specs.Prelude.{Option, Some, None, flat_map}
use Rattle.nx_pool.specs.declared.chain.Chain.{Chain}
use Rattle.nx_pool.specs.Moves.{AreHeld, Moves}
use Rattle.nx_pool.proofs.Holders.{seen_same, same_before, same_after}
use Rattle.nx_fs.specs.Chains as fs
use Rattle.nx_ipc.specs.Tables as ipc
use Rattle.nx_ipc.proofs.Messages.{queue_law, sent_law}

file_law : (content content' : Chain → List ℕ) (h : Option Chain) → map content' (fs.chains_in h) ≡ map content (fs.chains_in h) → fs.bytes_in content' h ≡ fs.bytes_in content h
file_law content content' None e = refl
file_law content content' (Some c) e = let k : content' c ≡ content c = cc in ap Some k

-- the files are held beside the messages
pub files_held : (holds : List Chain → Type 0) (hs : List (Option Chain)) (t : ipc.Tables) → holds (fs.chains_of hs ++ ipc.chains_of t) → AreHeld holds (fs.chains_of hs)
files_held holds hs t h = record { before = []; after = ipc.chains_of t; held = h }

pub queues_held : (holds : List Chain → Type 0) (hs : List (Option Chain)) (t : ipc.Tables) → holds (fs.chains_of hs ++ ipc.chains_of t) → AreHeld holds (ipc.chains_of t)
queues_held holds hs t h = record { before = fs.chains_of hs; after = []; held = subst (λ q. holds (fs.chains_of hs ++ q)) (sym (append-nil (ipc.chains_of t))) h }

-- where files move, the chains are held still, and messages have the bytes that they had
pub files_moved : (holds holds' : List Chain → Type 0) (content content' : Chain → List ℕ) (hs hs' : List (Option Chain)) (t : ipc.Tables)
    → holds (fs.chains_of hs ++ ipc.chains_of t) → Moves holds holds' content content' (fs.chains_of hs) (fs.chains_of hs') → holds' (fs.chains_of hs' ++ ipc.chains_of t)
files_moved holds holds' content content' hs hs' t h m = m.held [] (ipc.chains_of t) h

pub queues_stay : (holds holds' : List Chain → Type 0) (content content' : Chain → List ℕ) (hs hs' : List (Option Chain)) (t : ipc.Tables)
    → holds (fs.chains_of hs ++ ipc.chains_of t) → Moves holds holds' content content' (fs.chains_of hs) (fs.chains_of hs') → ipc.queues_of content' t.queues ≡ ipc.queues_of content t.queues
queues_stay holds holds' content content' hs hs' t h m =
    let s = m.others [] (ipc.chains_of t) h in
    seen_same ipc.chains_in ipc.queue_seen queue_law content content' t.queues (same_before content content' (flat_map ipc.chains_in t.queues) (flat_map ipc.chains_sent t.sending) s.after)

pub sending_stays : (holds holds' : List Chain → Type 0) (content content' : Chain → List ℕ) (hs hs' : List (Option Chain)) (t : ipc.Tables)
    → holds (fs.chains_of hs ++ ipc.chains_of t) → Moves holds holds' content content' (fs.chains_of hs) (fs.chains_of hs') → ipc.sending_of content' t.sending ≡ ipc.sending_of content t.sending
sending_stays holds holds' content content' hs hs' t h m =
    let s = m.others [] (ipc.chains_of t) h in
    seen_same ipc.chains_sent ipc.sent_of sent_law content content' t.sending (same_after content content' (flat_map ipc.chains_in t.queues) (flat_map ipc.chains_sent t.sending) s.after)

-- and where messages move, files have the bytes that they had
pub queues_moved : (holds holds' : List Chain → Type 0) (content content' : Chain → List ℕ) (hs : List (Option Chain)) (t t' : ipc.Tables)
    → holds (fs.chains_of hs ++ ipc.chains_of t) → Moves holds holds' content content' (ipc.chains_of t) (ipc.chains_of t') → holds' (fs.chains_of hs ++ ipc.chains_of t')
queues_moved holds holds' content content' hs t t' h m =
    subst (λ q. holds' (fs.chains_of hs ++ q)) (append-nil (ipc.chains_of t')) (m.held (fs.chains_of hs) [] (subst (λ q. holds (fs.chains_of hs ++ q)) (sym (append-nil (ipc.chains_of t))) h))

pub files_stay : (holds holds' : List Chain → Type 0) (content content' : Chain → List ℕ) (hs : List (Option Chain)) (t t' : ipc.Tables)
    → holds (fs.chains_of hs ++ ipc.chains_of t) → Moves holds holds' content content' (ipc.chains_of t) (ipc.chains_of t') → fs.files_of content' hs ≡ fs.files_of content hs
files_stay holds holds' content content' hs t t' h m =
    let s = m.others (fs.chains_of hs) [] (subst (λ q. holds (fs.chains_of hs ++ q)) (sym (append-nil (ipc.chains_of t))) h) in
    seen_same fs.chains_in fs.bytes_in file_law content content' hs s.before
