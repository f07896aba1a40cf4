-- Bytes of a chain that are read or written.
use Rattle.std.proofs.Common.{◌≡◌, ◌≢◌, ℕ, zero, suc, ◌+◌, ◌*◌, ◌/◌, ◌%◌, ◌<◌, ◌≤◌, List, [], ◌∷◌, length, get_or, refl, sym, ap, ◌∙◌, subst, arith, ⊎_elim, drop, drop-cons}
use Rattle.std.specs.Prelude.{slice_index, slice_set}
use Rattle.std.proofs.lemmas.List.{length-set, get_or-set_same, get_or-set_other, ext_get_or}
use Rattle.std.proofs.lemmas.List.FromFn.{get_or-map-range_with_len}
use Rattle.std.proofs.lemmas.Bool.Decides.{eqb_tells}
use Rattle.nx_base.specs.ByteLists.{put_bytes, get_bytes}
use Rattle.nx_base.proofs.Puts.{put_bytes-none, put_bytes-more}
use Rattle.nx_pool.specs.declared.chain.Chain.{Chain}
use Rattle.nx_pool.specs.Chains.{blocks_for, occurs, block_at, blocks_of, byte_at, content_of, IsChain, AreApart}
use Rattle.nx_pool.specs.Apart.{length-content_of}
use Rattle.nx_pool.specs.Effects.{Becomes}
use Rattle.nx_pool.proofs.LinkLemmas.{OtherLinksStay, other_bytes_stay, occurs-block_at, blocks_differ, contents-stay, alone}
use Rattle.nx_pool.proofs.EffectLemmas.{Becomes-trans}

pub get-content_of : (bytes next : List ℕ) (c : Chain) (p : ℕ) → p < c.bytes → slice_index (content_of bytes next c) p ≡ byte_at bytes next c p
unfolding content_of
get-content_of bytes next c p l = get_or-map-range_with_len (byte_at bytes next c) 0 c.bytes p p 0 l (omega arith)

-- bytes at different places of a chain stand at different places of the store
places_differ : (next : List ℕ) (c : Chain) (p at : ℕ) → IsChain next c → p < c.bytes → at < c.bytes → p ≢ at → 64 * block_at next c.first (p / 64) + p % 64 ≢ 64 * block_at next c.first (at / 64) + at % 64
places_differ next c p at h below l ne e =
    let block = block_at next c.first (p / 64) in
    let x = block_at next c.first (at / 64) in
    let same : block ≡ x = omega arith in
    let rest : p % 64 ≡ at % 64 = omega arith in
    let n = blocks_for c.bytes in
    let low : p / 64 < at / 64 → ⊥ = λ k. blocks_differ next c.first n h.once (p / 64) (at / 64) k (omega arith) same in
    let high : at / 64 < p / 64 → ⊥ = λ k. blocks_differ next c.first n h.once (at / 64) (p / 64) k (omega arith) (sym same) in
    let not_low : at / 64 ≤ p / 64 = omega arith in
    let not_high : p / 64 ≤ at / 64 = omega arith in
    ne (omega arith)

-- one byte is written
pub content_of-set : (next bytes : List ℕ) (c : Chain) (at v : ℕ) → length bytes ≡ 64 * length next → IsChain next c → at < c.bytes
    → content_of (slice_set bytes (64 * block_at next c.first (at / 64) + at % 64) v) next c ≡ slice_set (content_of bytes next c) at v
content_of-set next bytes c at v whole h l =
    let x = block_at next c.first (at / 64) in
    let inside = h.inside (at / 64) (omega arith) in
    let bytes' = slice_set bytes (64 * x + at % 64) v in
    let l1 = length-content_of bytes' next c in
    let l0 = length-content_of bytes next c in
    let ls = length-set (content_of bytes next c) at v in
    ext_get_or 0 (content_of bytes' next c) (slice_set (content_of bytes next c) at v) (omega arith) (λ p m.
    let below : p < c.bytes = omega arith in
    ⊎_elim
    (λ e. let is : p ≡ at = e.1 in
    get-content_of bytes' next c p below
    ∙ ap (λ q. slice_index bytes' (64 * block_at next c.first (q / 64) + q % 64)) is
    ∙ get_or-set_same bytes (64 * x + at % 64) v 0 (omega arith)
    ∙ sym (ap (λ q. get_or (slice_set (content_of bytes next c) at v) q 0) is ∙ get_or-set_same (content_of bytes next c) at v 0 (omega arith)))
    (λ e. let ne : p ≢ at = e.1 in
    get-content_of bytes' next c p below
    ∙ get_or-set_other bytes (64 * x + at % 64) (64 * block_at next c.first (p / 64) + p % 64) v 0 (places_differ next c p at h below l ne)
    ∙ sym (get_or-set_other (content_of bytes next c) at p v 0 ne ∙ get-content_of bytes next c p below))
    (eqb_tells p at))

written : (next free bytes : List ℕ) (c : Chain) (at v : ℕ) → length bytes ≡ 64 * length next → IsChain next c → at < c.bytes
    → Becomes (AreApart next free) (AreApart next free) (content_of bytes next) (content_of (slice_set bytes (64 * block_at next c.first (at / 64) + at % 64) v) next) c c (slice_set (content_of bytes next c) at v)
written next free bytes c at v whole h l =
    let x = block_at next c.first (at / 64) in
    let bytes' = slice_set bytes (64 * x + at % 64) v in
    let links : OtherLinksStay x next next = λ q ne. refl in
    let stay = other_bytes_stay bytes x (at % 64) v (omega arith) in
    let in_path : 1 ≤ occurs x (blocks_of next c) = occurs-block_at next c.first (blocks_for c.bytes) (at / 64) (omega arith) in
    record {
      held = λ xs ys a. a;
      others = λ xs ys a.
          let none = alone next free xs ys c x a (omega arith) in
          record {
            before = contents-stay x x next next bytes bytes' xs links stay (omega arith) (omega arith);
            after = contents-stay x x next next bytes bytes' ys links stay (omega arith) (omega arith);
          };
      own = content_of-set next bytes c at v whole h l;
    }

-- a step of a loop that writes: the chain is still one of those held, and the others stay
pub write_step : (next free bytes0 bytes : List ℕ) (c : Chain) (p block v : ℕ) → length bytes ≡ 64 * length next → IsChain next c → p < c.bytes → block ≡ block_at next c.first (p / 64)
    → Becomes (AreApart next free) (AreApart next free) (content_of bytes0 next) (content_of bytes next) c c (content_of bytes next c)
    → Becomes (AreApart next free) (AreApart next free) (content_of bytes0 next) (content_of (slice_set bytes (64 * block + p % 64) v) next) c c (content_of (slice_set bytes (64 * block + p % 64) v) next c)
write_step next free bytes0 bytes c p block v whole h l is before =
    let P : ℕ → Type 0 = λ q. Becomes (AreApart next free) (AreApart next free) (content_of bytes0 next) (content_of (slice_set bytes (64 * q + p % 64) v) next) c c (content_of (slice_set bytes (64 * q + p % 64) v) next c) in
    let t = Becomes-trans _ _ _ _ _ _ _ _ _ _ _ before (written next free bytes c p v whole h l) in
    subst P (sym is) (record { held = t.held; others = t.others; own = refl })

-- what is left to write after a step gives the same list in the end
pub write_rest : (next bytes0 bytes from : List ℕ) (c : Chain) (at i p block : ℕ) → length bytes ≡ 64 * length next → IsChain next c → p < c.bytes → p ≡ at + i → i < length from → block ≡ block_at next c.first (p / 64)
    → put_bytes (content_of bytes next c) (at + i) (drop i from) ≡ put_bytes (content_of bytes0 next c) at from
    → put_bytes (content_of (slice_set bytes (64 * block + p % 64) (get_or from i 0)) next c) (at + (i + 1)) (drop (i + 1) from) ≡ put_bytes (content_of bytes0 next c) at from
write_rest next bytes0 bytes from c at i p block whole h l place inside is before =
    let v = get_or from i 0 in
    let long = length-content_of bytes next c in
    let e1 : content_of (slice_set bytes (64 * block + p % 64) v) next c ≡ slice_set (content_of bytes next c) p v = ap (λ q. content_of (slice_set bytes (64 * q + p % 64) v) next c) is ∙ content_of-set next bytes c p v whole h l in
    let e2 : at + (i + 1) ≡ p + 1 = omega arith in
    let e3 : i + 1 ≡ suc i = omega arith in
    ap (λ xs. put_bytes xs (at + (i + 1)) (drop (i + 1) from)) e1
    ∙ ap (λ q. put_bytes (slice_set (content_of bytes next c) p v) q (drop (i + 1) from)) e2
    ∙ ap (λ q. put_bytes (slice_set (content_of bytes next c) p v) (p + 1) (drop q from)) e3
    ∙ sym (put_bytes-more (content_of bytes next c) p v (drop (suc i) from) (omega arith))
    ∙ ap (λ xs. put_bytes (content_of bytes next c) p xs) (sym (drop-cons from i 0 inside))
    ∙ ap (λ q. put_bytes (content_of bytes next c) q (drop i from)) place
    ∙ before

pub drop-past : (xs : List ℕ) (i : ℕ) → length xs ≤ i → drop i xs ≡ []
drop-past [] zero l = refl
drop-past [] (suc i) l = refl
drop-past (x ∷ xs) zero l = absurd (omega arith)
drop-past (x ∷ xs) (suc i) l = drop-past xs i (omega arith)

-- nothing is left to write
pub write_end : (cs rs from : List ℕ) (at i : ℕ) → length from ≤ i → put_bytes cs (at + i) (drop i from) ≡ rs → cs ≡ rs
write_end cs rs from at i l e = sym (put_bytes-none cs (at + i)) ∙ ap (put_bytes cs (at + i)) (sym (drop-past from i l)) ∙ e

pub length-get_bytes : (bs : List ℕ) (i n : ℕ) → length (get_bytes bs i n) ≡ n
unfolding get_bytes
length-get_bytes bs i zero = refl
length-get_bytes bs i (suc n) = ap suc (length-get_bytes bs (i + 1) n)

pub get-get_bytes : (bs : List ℕ) (i n k : ℕ) → k < n → get_or (get_bytes bs i n) k 0 ≡ slice_index bs (i + k)
unfolding get_bytes
get-get_bytes bs i zero k l = absurd (omega arith)
get-get_bytes bs i (suc n) zero l = let e : i ≡ i + 0 = omega arith in ap (slice_index bs) e
get-get_bytes bs i (suc n) (suc k) l = let e : i + 1 + k ≡ i + suc k = omega arith in get-get_bytes bs (i + 1) n k (omega arith) ∙ ap (slice_index bs) e

-- a step of a loop that reads
pub read_step : (next bytes into : List ℕ) (c : Chain) (at i p block : ℕ) → p < c.bytes → p ≡ at + i → i < length into → block ≡ block_at next c.first (p / 64)
    → ((k : ℕ) → k < i → get_or into k 0 ≡ slice_index (content_of bytes next c) (at + k))
    → (k : ℕ) → k < i + 1 → get_or (slice_set into i (slice_index bytes (64 * block + p % 64))) k 0 ≡ slice_index (content_of bytes next c) (at + k)
read_step next bytes into c at i p block l place inside is before k m =
    let v = slice_index bytes (64 * block + p % 64) in
    ⊎_elim
    (λ e. let here : k ≡ i = e.1 in
    ap (λ q. get_or (slice_set into i v) q 0) here ∙ get_or-set_same into i v 0 inside
    ∙ ap (λ q. slice_index bytes (64 * q + p % 64)) is ∙ sym (get-content_of bytes next c p l) ∙ ap (slice_index (content_of bytes next c)) (place ∙ sym (ap (λ q. at + q) here)))
    (λ e. let ne : k ≢ i = e.1 in get_or-set_other into i k v 0 ne ∙ before k (omega arith))
    (eqb_tells k i)
