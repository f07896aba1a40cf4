-- Chains, and what a new link leaves of them.
use Rattle.std.proofs.Common.{◌≡◌, ◌≢◌, ℕ, zero, suc, ◌+◌, ◌-◌, ◌<◌, ◌≤◌, List, ◌∷◌, ◌++◌, length, refl, sym, ap, ◌∙◌, subst, arith}
use Rattle.std.specs.Prelude.{slice_index, slice_set}
use Rattle.std.proofs.lemmas.List.{get_or-set_same, get_or-set_other}
use Rattle.nx_frames.specs.Chains.{address, chain, frame_after, Each, AreOnce, AreApart, IsFrame}

pub length-chain : (first : ℕ) (next : List ℕ) (head n : ℕ) → length (chain first next head n) ≡ n
unfolding chain
length-chain first next head zero = refl
length-chain first next head (suc n) = ap suc (length-chain first next (slice_index next head) n)

pub chain_more : (first : ℕ) (next : List ℕ) (head n m : ℕ) → chain first next head (n + m) ≡ chain first next head n ++ chain first next (frame_after next head n) m
unfolding chain frame_after
chain_more first next head zero m = let e : 0 + m ≡ m = omega arith in ap (chain first next head) e
chain_more first next head (suc n) m =
    let e : suc n + m ≡ suc (n + m) = omega arith in
    ap (chain first next head) e ∙ ap (λ xs. address first head ∷ xs) (chain_more first next (slice_index next head) n m)

pub after_more : (next : List ℕ) (head n : ℕ) → frame_after next head (n + 1) ≡ slice_index next (frame_after next head n)
unfolding frame_after
after_more next head zero = let e : 0 + 1 ≡ suc 0 = omega arith in ap (frame_after next head) e
after_more next head (suc n) = let e : suc n + 1 ≡ suc (n + 1) = omega arith in ap (frame_after next head) e ∙ after_more next (slice_index next head) n

pub after_add : (next : List ℕ) (head n m : ℕ) → frame_after next head (n + m) ≡ frame_after next (frame_after next head n) m
unfolding frame_after
after_add next head zero m = let e : 0 + m ≡ m = omega arith in ap (frame_after next head) e
after_add next head (suc n) m = let e : suc n + m ≡ suc (n + m) = omega arith in ap (frame_after next head) e ∙ after_add next (slice_index next head) n m

-- what holds of each frame of a chain holds of the one some steps after its first
pub chain_at : (P : ℕ → Type 0) (first : ℕ) (next : List ℕ) (head n i : ℕ) → i < n → Each P (chain first next head n) → P (address first (frame_after next head i))
unfolding chain frame_after
chain_at P first next head zero i l h = absurd (omega (arith, l))
chain_at P first next head (suc n) zero l h = h.0
chain_at P first next head (suc n) (suc i) l h = chain_at P first next (slice_index next head) n i (omega (arith, l)) h.1

pub index_chain : (first : ℕ) (next : List ℕ) (head n i : ℕ) → i < n → slice_index (chain first next head n) i ≡ address first (frame_after next head i)
unfolding chain frame_after
index_chain first next head zero i l = absurd (omega (arith, l))
index_chain first next head (suc n) zero l = refl
index_chain first next head (suc n) (suc i) l = index_chain first next (slice_index next head) n i (omega (arith, l))

pub frame_below : (first count f : ℕ) → IsFrame first count (address first f) → f < count
frame_below first count f h = omega (arith, h.1, h.2)

-- a link of another frame
link_other : (first : ℕ) (next : List ℕ) (tail to head : ℕ) → address first head ≢ address first tail → slice_index (slice_set next tail to) head ≡ slice_index next head
link_other first next tail to head ne = get_or-set_other next tail head to 0 (λ e. ne (omega (arith, e)))

-- a chain without a frame stays as it is when that frame gets another link
pub chain_stays : (first : ℕ) (next : List ℕ) (tail to head n : ℕ) → Each (λ a. a ≢ address first tail) (chain first next head n) → chain first (slice_set next tail to) head n ≡ chain first next head n
unfolding chain
chain_stays first next tail to head zero h = refl
chain_stays first next tail to head (suc n) h =
    ap (λ k. address first head ∷ chain first (slice_set next tail to) k n) (link_other first next tail to head h.0)
    ∙ ap (λ xs. address first head ∷ xs) (chain_stays first next tail to (slice_index next head) n h.1)

pub after_stays : (first : ℕ) (next : List ℕ) (tail to head n : ℕ) → Each (λ a. a ≢ address first tail) (chain first next head (suc n)) → frame_after (slice_set next tail to) head n ≡ frame_after next head n
unfolding chain frame_after
after_stays first next tail to head zero h = refl
after_stays first next tail to head (suc n) h =
    ap (λ k. frame_after (slice_set next tail to) k n) (link_other first next tail to head h.0)
    ∙ after_stays first next tail to (slice_index next head) n h.1

-- a chain's last frame may get another link: the chain stays, and that link follows it
last_linked : (first : ℕ) (next : List ℕ) (tail to head n : ℕ) → tail < length next → AreOnce (chain first next head (suc n)) → tail ≡ frame_after next head n → (chain first (slice_set next tail to) head (suc n) ≡ chain first next head (suc n)) × (frame_after (slice_set next tail to) head (suc n) ≡ to)
unfolding chain frame_after
last_linked first next tail to head zero l once e =
    (refl, ap (λ k. slice_index (slice_set next tail to) k) (sym e) ∙ get_or-set_same next tail to 0 l)
last_linked first next tail to head (suc n) l once e =
    let ne : address first tail ≢ address first head = subst (λ k. address first k ≢ address first head) (sym e) (chain_at (λ y. y ≢ address first head) first next (slice_index next head) (suc n) n (omega arith) once.0) in
    let k = link_other first next tail to head (λ q. ne (sym q)) in
    let r = last_linked first next tail to (slice_index next head) n l once.1 e in
    (ap (λ j. address first head ∷ chain first (slice_set next tail to) j (suc n)) k ∙ ap (λ xs. address first head ∷ xs) r.0, ap (λ j. frame_after (slice_set next tail to) j (suc n)) k ∙ r.1)

-- the last frame of a chain is in none that is apart from it
pub last_apart : (first : ℕ) (next : List ℕ) (tail head n : ℕ) (others : List ℕ) → 1 ≤ n → tail ≡ frame_after next head (n - 1) → AreApart (chain first next head n) others → Each (λ a. a ≢ address first tail) others
last_apart first next tail head n others one e apart =
    subst (λ k. Each (λ a. a ≢ address first k) others) (sym e) (chain_at (λ x. Each (λ a. a ≢ x) others) first next head n (n - 1) (omega (arith, one)) apart)

pub last_below : (first : ℕ) (next : List ℕ) (tail head n : ℕ) → 1 ≤ n → tail ≡ frame_after next head (n - 1) → Each (IsFrame first (length next)) (chain first next head n) → tail < length next
last_below first next tail head n one e frames =
    frame_below first (length next) tail (subst (λ k. IsFrame first (length next) (address first k)) (sym e) (chain_at (IsFrame first (length next)) first next head n (n - 1) (omega (arith, one)) frames))

pub linked_ends : (first : ℕ) (next : List ℕ) (tail to head n : ℕ) → 1 ≤ n → tail < length next → AreOnce (chain first next head n) → tail ≡ frame_after next head (n - 1) → (chain first (slice_set next tail to) head n ≡ chain first next head n) × (frame_after (slice_set next tail to) head n ≡ to)
linked_ends first next tail to head n one l once e =
    let s : suc (n - 1) ≡ n = omega (arith, one) in
    subst (λ k. (chain first (slice_set next tail to) head k ≡ chain first next head k) × (frame_after (slice_set next tail to) head k ≡ to)) s (last_linked first next tail to head (n - 1) l (subst (λ k. AreOnce (chain first next head k)) (sym s) once) e)

-- a chain whose last frame leads to another goes on with it
pub linked : (first : ℕ) (next : List ℕ) (tail to head n m : ℕ) → 1 ≤ n → tail < length next → AreOnce (chain first next head n) → tail ≡ frame_after next head (n - 1) → AreApart (chain first next head n) (chain first next to m) → chain first (slice_set next tail to) head (n + m) ≡ chain first next head n ++ chain first next to m
linked first next tail to head n m one l once e apart =
    let r = linked_ends first next tail to head n one l once e in
    chain_more first (slice_set next tail to) head n m
    ∙ ap (λ xs. xs ++ chain first (slice_set next tail to) (frame_after (slice_set next tail to) head n) m) r.0
    ∙ ap (λ k. chain first next head n ++ chain first (slice_set next tail to) k m) r.1
    ∙ ap (λ xs. chain first next head n ++ xs) (chain_stays first next tail to to m (last_apart first next tail head n (chain first next to m) one e apart))

-- where a linked chain ends
pub linked_last : (first : ℕ) (next : List ℕ) (tail to head n m : ℕ) → 1 ≤ n → 1 ≤ m → tail < length next → AreOnce (chain first next head n) → tail ≡ frame_after next head (n - 1) → AreApart (chain first next head n) (chain first next to m) → frame_after (slice_set next tail to) head (n + m - 1) ≡ frame_after next to (m - 1)
linked_last first next tail to head n m one some l once e apart =
    let r = linked_ends first next tail to head n one l once e in
    let s : n + m - 1 ≡ n + (m - 1) = omega (arith, some) in
    let q : suc (m - 1) ≡ m = omega (arith, some) in
    ap (frame_after (slice_set next tail to) head) s
    ∙ after_add (slice_set next tail to) head n (m - 1)
    ∙ ap (λ k. frame_after (slice_set next tail to) k (m - 1)) r.1
    ∙ after_stays first next tail to to (m - 1) (subst (λ k. Each (λ a. a ≢ address first tail) (chain first next to k)) (sym q) (last_apart first next tail head n (chain first next to m) one e apart))

-- the frames of a chain have links
pub after_below : (first : ℕ) (next : List ℕ) (head n i : ℕ) → i < n → Each (IsFrame first (length next)) (chain first next head n) → frame_after next head i < length next
after_below first next head n i l h = frame_below first (length next) (frame_after next head i) (chain_at (IsFrame first (length next)) first next head n i l h)

-- one step further
pub step_more : (next : List ℕ) (head at to i : ℕ) → at ≡ frame_after next head i → to ≡ slice_index next at → to ≡ frame_after next head (i + 1)
step_more next head at to i e t = t ∙ ap (slice_index next) e ∙ sym (after_more next head i)
