-- Blocks along links, and what a change of one link or one block leaves of them.
use Rattle.std.proofs.Common.{◌≡◌, ◌≢◌, ℕ, zero, suc, ◌+◌, ◌*◌, ◌/◌, ◌%◌, ◌<◌, ◌≤◌, List, [], ◌∷◌, ◌++◌, length, map, refl, sym, ap, ◌∙◌, subst, arith, Bool, true, false}
use Rattle.std.specs.Prelude.{slice_index, slice_set, nat_lt, ◌==◌}
use Rattle.std.specs.List.{range_with_len}
use Rattle.std.proofs.lemmas.Bool.{eq-eqb}
use Rattle.std.proofs.lemmas.Bool.Decides.{nat_tests}
use Rattle.std.proofs.lemmas.List.{get_or-set_other}
use Rattle.nx_pool.specs.declared.chain.Chain.{Chain}
use Rattle.nx_pool.specs.Chains.{blocks_for, one_if, occurs, blocks_from, block_at, blocks_of, uses, byte_at, content_of, IsApart, AreApart, IsChain}
use Rattle.nx_pool.specs.Effects.{IsHeld}
pub use Rattle.nx_pool.specs.Apart.{uses-append, uses-cons, total_blocks-append, total_blocks-cons}

-- ---- how often a block occurs

pub occurs-append : (b : ℕ) (xs ys : List ℕ) → occurs b (xs ++ ys) ≡ occurs b xs + occurs b ys
unfolding occurs
occurs-append b [] ys = omega arith
occurs-append b (x ∷ xs) ys = omega (arith, occurs-append b xs ys)

pub occurs-one : (b x : ℕ) → occurs b (x ∷ []) ≡ one_if (x == b)
unfolding occurs
occurs-one b x = omega arith

pub occurs-none : (b : ℕ) (xs : List ℕ) → length xs ≡ 0 → occurs b xs ≡ 0
unfolding occurs
occurs-none b [] e = refl
occurs-none b (x ∷ xs) e = absurd (omega arith)

pub one_if-same : (b : ℕ) → one_if (b == b) ≡ 1
one_if-same b = ap one_if (eq-eqb b b refl)

pub one_if-small : (b : Bool) → one_if b ≤ 1
one_if-small true = omega arith
one_if-small false = omega arith

pub one_if-below : (q n : ℕ) → 1 ≤ one_if (nat_lt q n) → q < n
one_if-below q n h = grind (arith, nat_tests)

pub one_if-none : (q : ℕ) → one_if (nat_lt q 0) ≡ 0
one_if-none q = grind (arith, nat_tests)

pub one_if-more : (q n : ℕ) → one_if (nat_lt q n) + one_if (n == q) ≡ one_if (nat_lt q (n + 1))
one_if-more q n = grind (arith, nat_tests)

-- ---- along the links

pub blocks_from-more : (next : List ℕ) (first n : ℕ) → blocks_from next first (suc n) ≡ blocks_from next first n ++ block_at next first n ∷ []
unfolding blocks_from block_at
blocks_from-more next first zero = refl
blocks_from-more next first (suc n) = ap (λ xs. first ∷ xs) (blocks_from-more next (slice_index next first) n)

pub block_at-more : (next : List ℕ) (first n : ℕ) → block_at next first (suc n) ≡ slice_index next (block_at next first n)
unfolding block_at
block_at-more next first zero = refl
block_at-more next first (suc n) = block_at-more next (slice_index next first) n

-- each block of a path occurs in it
pub occurs-block_at : (next : List ℕ) (first n k : ℕ) → k < n → 1 ≤ occurs (block_at next first k) (blocks_from next first n)
unfolding occurs blocks_from block_at
occurs-block_at next first zero k h = absurd (omega arith)
occurs-block_at next first (suc n) zero h = omega (arith, one_if-same first)
occurs-block_at next first (suc n) (suc k) h = let i = occurs-block_at next (slice_index next first) n k (omega arith) in omega arith

pub other_block : (next : List ℕ) (first n b : ℕ) → occurs b (blocks_from next first n) ≡ 0 → (k : ℕ) → k < n → block_at next first k ≢ b
other_block next first n b none k l e =
    let one : 1 ≤ occurs b (blocks_from next first n) = subst (λ q. 1 ≤ occurs q (blocks_from next first n)) e (occurs-block_at next first n k l) in omega arith

-- where no block occurs twice, the blocks are different ones
pub blocks_differ : (next : List ℕ) (first n : ℕ) → ((b : ℕ) → occurs b (blocks_from next first n) ≤ 1) → (i j : ℕ) → i < j → j < n → block_at next first i ≢ block_at next first j
unfolding occurs blocks_from block_at
blocks_differ next first zero once i j l m e = absurd (omega arith)
blocks_differ next first (suc n) once i zero l m e = absurd (omega arith)
blocks_differ next first (suc n) once zero (suc j) l m e =
    let again : 1 ≤ occurs first (blocks_from next (slice_index next first) n) = subst (λ q. 1 ≤ occurs q (blocks_from next (slice_index next first) n)) (sym e) (occurs-block_at next (slice_index next first) n j (omega arith)) in
    omega (arith, once first, one_if-same first)
blocks_differ next first (suc n) once (suc i) (suc j) l m e =
    blocks_differ next (slice_index next first) n (λ b. let o = once b in omega arith) i j (omega arith) (omega arith) e

-- ---- a change of one link, and of one block's bytes

-- the links of all blocks but one stay
abbrev pub OtherLinksStay : ℕ → List ℕ → List ℕ → Type 0
OtherLinksStay b next next' = (k : ℕ) → k ≢ b → slice_index next' k ≡ slice_index next k

-- the bytes of all blocks but one stay
abbrev pub OtherBytesStay : ℕ → List ℕ → List ℕ → Type 0
OtherBytesStay x bytes bytes' = (i r : ℕ) → i ≢ x → r < 64 → slice_index bytes' (64 * i + r) ≡ slice_index bytes (64 * i + r)

pub other_bytes_stay : (bytes : List ℕ) (x r v : ℕ) → r < 64 → OtherBytesStay x bytes (slice_set bytes (64 * x + r) v)
other_bytes_stay bytes x r v small i s ne l = get_or-set_other bytes (64 * x + r) (64 * i + s) v 0 (λ e. ne (omega arith))

pub block_at-stays : (b : ℕ) (next next' : List ℕ) → OtherLinksStay b next next' → (first k : ℕ) → ((j : ℕ) → j < k → block_at next first j ≢ b) → block_at next' first k ≡ block_at next first k
unfolding block_at
block_at-stays b next next' stay first zero h = refl
block_at-stays b next next' stay first (suc k) h =
    ap (λ q. block_at next' q k) (stay first (h 0 (omega arith)))
    ∙ block_at-stays b next next' stay (slice_index next first) k (λ j l. h (suc j) (omega arith))

pub blocks_from-stays : (b : ℕ) (next next' : List ℕ) → OtherLinksStay b next next' → (first n : ℕ) → ((j : ℕ) → suc j < n → block_at next first j ≢ b) → blocks_from next' first n ≡ blocks_from next first n
unfolding blocks_from block_at
blocks_from-stays b next next' stay first zero h = refl
blocks_from-stays b next next' stay first (suc zero) h = refl
blocks_from-stays b next next' stay first (suc (suc n)) h =
    ap (λ xs. first ∷ xs) (ap (λ q. blocks_from next' q (suc n)) (stay first (h 0 (omega arith)))
    ∙ blocks_from-stays b next next' stay (slice_index next first) (suc n) (λ j l. h (suc j) (omega arith)))

pub uses-stays : (b : ℕ) (next next' : List ℕ) (cs : List Chain) → OtherLinksStay b next next' → uses next b cs ≡ 0 → (q : ℕ) → uses next' q cs ≡ uses next q cs
unfolding uses
uses-stays b next next' [] stay none q = refl
uses-stays b next next' (c ∷ cs) stay none q =
    let e : occurs q (blocks_of next' c) ≡ occurs q (blocks_of next c) = ap (occurs q) (blocks_from-stays b next next' stay c.first (blocks_for c.bytes) (λ j m. other_block next c.first (blocks_for c.bytes) b (omega arith) j (omega arith))) in
    let i = uses-stays b next next' cs stay (omega arith) q in
    omega arith

pub map-range : (f g : ℕ → ℕ) (a n : ℕ) → ((p : ℕ) → p < a + n → f p ≡ g p) → map f (range_with_len a n) ≡ map g (range_with_len a n)
map-range f g a zero h = refl
map-range f g a (suc n) h =
    let e = h a (omega arith) in
    let i = map-range f g (a + 1) n (λ p l. h p (omega arith)) in
    cc

-- the bytes of a chain that has neither the block of the changed link nor the changed block
pub content_of-stays : (b x : ℕ) (next next' bytes bytes' : List ℕ) (c : Chain) → OtherLinksStay b next next' → OtherBytesStay x bytes bytes' → occurs b (blocks_of next c) ≡ 0 → occurs x (blocks_of next c) ≡ 0 → content_of bytes' next' c ≡ content_of bytes next c
unfolding content_of
content_of-stays b x next next' bytes bytes' c links stay no_link no_block =
    map-range (byte_at bytes' next' c) (byte_at bytes next c) 0 c.bytes (λ p l.
    let k : p / 64 < blocks_for c.bytes = omega arith in
    let s = block_at-stays b next next' links c.first (p / 64) (λ j m. other_block next c.first (blocks_for c.bytes) b no_link j (omega arith)) in
    ap (λ q. slice_index bytes' (64 * q + p % 64)) s
    ∙ stay (block_at next c.first (p / 64)) (p % 64) (other_block next c.first (blocks_for c.bytes) x no_block (p / 64) k) (omega arith))

pub contents-stay : (b x : ℕ) (next next' bytes bytes' : List ℕ) (cs : List Chain) → OtherLinksStay b next next' → OtherBytesStay x bytes bytes' → uses next b cs ≡ 0 → uses next x cs ≡ 0 → map (content_of bytes' next') cs ≡ map (content_of bytes next) cs
contents-stay b x next next' bytes bytes' [] links stay no_link no_block = refl
contents-stay b x next next' bytes bytes' (c ∷ cs) links stay no_link no_block =
    let eb = uses-cons next b c cs in
    let ex = uses-cons next x c cs in
    let e = content_of-stays b x next next' bytes bytes' c links stay (omega arith) (omega arith) in
    let i = contents-stay b x next next' bytes bytes' cs links stay (omega arith) (omega arith) in
    cc

-- ---- chains that are apart

pub once_of : (next free : List ℕ) (xs ys : List Chain) (c : Chain) → AreApart next free (xs ++ c ∷ ys) → (q : ℕ) → (occurs q free + uses next q xs + occurs q (blocks_of next c) + uses next q ys ≤ one_if (nat_lt q (length next)))
once_of next free xs ys c a q = omega (arith, a.once q, uses-append next q xs (c ∷ ys), uses-cons next q c ys)

-- a block that occurs among the free ones or in the chain is in no other chain
pub alone : (next free : List ℕ) (xs ys : List Chain) (c : Chain) (q : ℕ) → AreApart next free (xs ++ c ∷ ys) → 1 ≤ occurs q free + occurs q (blocks_of next c) → uses next q xs + uses next q ys ≡ 0
alone next free xs ys c q a one = omega (arith, once_of next free xs ys c a q, one_if-small (nat_lt q (length next)))

pub held_is_apart : (next free : List ℕ) (c : Chain) → IsHeld (AreApart next free) c → IsApart next free c
held_is_apart next free c h = record { once = λ q. omega (arith, once_of next free h.before h.after c h.held q) }

pub apart_once : (next free : List ℕ) (c : Chain) → IsApart next free c → (q : ℕ) → occurs q (blocks_of next c) ≤ 1
apart_once next free c h q = omega (arith, h.once q, one_if-small (nat_lt q (length next)))

pub apart_inside : (next free : List ℕ) (c : Chain) → IsApart next free c → (k : ℕ) → k < blocks_for c.bytes → block_at next c.first k < length next
apart_inside next free c h k l =
    let q = block_at next c.first k in
    one_if-below q (length next) (omega (arith, h.once q, occurs-block_at next c.first (blocks_for c.bytes) k l))

pub is_chain : (next free : List ℕ) (c : Chain) → IsApart next free c → IsChain next c
is_chain next free c h = record { inside = apart_inside next free c h; once = apart_once next free c h }

-- one more block of a path is free
pub occurs-released : (q : ℕ) (free0 free free' next : List ℕ) (first n block : ℕ) → free' ≡ free ++ block ∷ [] → block ≡ block_at next first n → occurs q free ≡ occurs q free0 + occurs q (blocks_from next first n) → occurs q free' ≡ occurs q free0 + occurs q (blocks_from next first (n + 1))
occurs-released q free0 free free' next first n block pushed is before =
    let n1 : n + 1 ≡ suc n = omega arith in
    let e : occurs q (blocks_from next first (n + 1)) ≡ occurs q (blocks_from next first n ++ block ∷ []) = ap (λ m. occurs q (blocks_from next first m)) n1 ∙ ap (occurs q) (blocks_from-more next first n ∙ ap (λ v. blocks_from next first n ++ v ∷ []) (sym is)) in
    omega (arith, e, ap (occurs q) pushed, occurs-append q free (block ∷ []), occurs-append q (blocks_from next first n) (block ∷ []))
