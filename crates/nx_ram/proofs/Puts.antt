-- Bytes that are put one after another.
use Rattle.std.proofs.Common.{◌≡◌, ◌≢◌, ℕ, zero, suc, ◌+◌, ◌-◌, ◌/◌, ◌%◌, ◌^◌, ◌<◌, ◌≤◌, ◌⊎◌, inl, inr, List, [], ◌∷◌, ◌++◌, length, take, drop, refl, sym, ap, ◌∙◌, subst, arith, replicate}
use Rattle.std.specs.Prelude.{slice_set, slice_index}
use Rattle.std.proofs.lemmas.Bool.{cases_eq, cases_lt}
use Rattle.std.proofs.lemmas.List.{drop_more, drop_all, length-set, get_or-set_same, get_or-set_other, get_or_past}
use Rattle.std.proofs.Math.Seq.{take-append_seam}
use Rattle.nx_base.specs.ByteLists.{put_bytes, to_le, AreBytes}
use Rattle.nx_base.proofs.Puts.{put_bytes-none, put_bytes-more, length-put_bytes, length-to_le, set_one, set_two}

pub length_of : (new ram : List ℕ) (at : ℕ) (bytes : List ℕ) → at + length bytes ≤ length ram → new ≡ put_bytes ram at bytes → length new ≡ length ram
length_of new ram at bytes h e = ap length e ∙ length-put_bytes ram at bytes h

pub length_number : (new ram : List ℕ) (at n x : ℕ) → at + n ≤ length ram → new ≡ put_bytes ram at (to_le n x) → length new ≡ length ram
length_number new ram at n x h e = let l = length-to_le n x in length_of new ram at (to_le n x) (omega arith) e

-- the bytes of a number, set one by one
pub byte_set : (bytes ram : List ℕ) (at x : ℕ) → bytes ≡ ram → x < 256 → at + 1 ≤ length ram → slice_set bytes at x ≡ put_bytes ram at (to_le 1 x)
unfolding to_le
byte_set bytes ram at x is small h = let e : x ≡ x % 256 = omega arith in ap (λ l. slice_set l at x) is ∙ set_one ram at x h ∙ ap (λ y. put_bytes ram at (y ∷ [])) e

pub half_set : (bytes ram : List ℕ) (at x : ℕ) → bytes ≡ ram → at + 2 ≤ length ram → slice_set (slice_set bytes at (x % 256)) (at + 1) (x / 256 % 256) ≡ put_bytes ram at (to_le 2 x)
unfolding to_le
half_set bytes ram at x is h = ap (λ l. slice_set (slice_set l at (x % 256)) (at + 1) (x / 256 % 256)) is ∙ set_two ram at (x % 256) (x / 256 % 256) h

-- only the low bytes count
pub low_byte : (x : ℕ) → to_le 1 (x % 256) ≡ to_le 1 x
unfolding to_le
low_byte x = let e : x % 256 % 256 ≡ x % 256 = omega arith in ap (λ y. y ∷ []) e

pub low_half : (x : ℕ) → to_le 2 (x % 65536) ≡ to_le 2 x
unfolding to_le
low_half x =
    let e : x % 65536 % 256 ≡ x % 256 = omega arith in
    let f : x % 65536 / 256 % 256 ≡ x / 256 % 256 = omega arith in
    ap (λ y. y ∷ (x % 65536 / 256 % 256) ∷ []) e ∙ ap (λ y. (x % 256) ∷ y ∷ []) f

-- one byte more: what is left to put gives what all gives
pub put_more : (ram bytes : List ℕ) (at i : ℕ) → i < length bytes → at + length bytes ≤ length ram → put_bytes ram (at + i) (drop i bytes) ≡ put_bytes (slice_set ram (at + i) (slice_index bytes i)) (at + (i + 1)) (drop (i + 1) bytes)
put_more ram bytes at i h fit =
    let g : at + i + 1 ≡ at + (i + 1) = omega arith in
    ap (put_bytes ram (at + i)) (drop_more bytes i 0 h)
    ∙ put_bytes-more ram (at + i) (slice_index bytes i) (drop (i + 1) bytes) (omega arith)
    ∙ ap (λ n. put_bytes (slice_set ram (at + i) (slice_index bytes i)) n (drop (i + 1) bytes)) g

pub put_all : (ram bytes : List ℕ) (at i : ℕ) → length bytes ≤ i → put_bytes ram (at + i) (drop i bytes) ≡ ram
put_all ram bytes at i h = ap (put_bytes ram (at + i)) (drop_all i bytes h) ∙ put_bytes-none ram (at + i)

pub zero_more : (ram : List ℕ) (at i n : ℕ) → i < n → at + n ≤ length ram → put_bytes ram (at + i) (replicate (n - i) 0) ≡ put_bytes (slice_set ram (at + i) 0) (at + (i + 1)) (replicate (n - (i + 1)) 0)
zero_more ram at i n h fit =
    let e : n - i ≡ suc (n - (i + 1)) = omega arith in
    let g : at + i + 1 ≡ at + (i + 1) = omega arith in
    ap (λ k. put_bytes ram (at + i) (replicate k 0)) e
    ∙ put_bytes-more ram (at + i) 0 (replicate (n - (i + 1)) 0) (omega arith)
    ∙ ap (λ k. put_bytes (slice_set ram (at + i) 0) k (replicate (n - (i + 1)) 0)) g

pub zero_all : (ram : List ℕ) (at i n : ℕ) → n ≤ i → put_bytes ram (at + i) (replicate (n - i) 0) ≡ ram
zero_all ram at i n h = let e : n - i ≡ 0 = omega arith in ap (λ k. put_bytes ram (at + i) (replicate k 0)) e ∙ put_bytes-none ram (at + i)

pub small_set : (bs : List ℕ) (at x : ℕ) → AreBytes bs → x < 256 → AreBytes (slice_set bs at x)
small_set bs at x small h i = by_place (cases_eq i at)
  where
    by_inside : (at < length bs) ⊎ (length bs ≤ at) → i ≡ at → slice_index (slice_set bs at x) i < 256
    by_inside (inl l) e = subst (λ y. y < 256) (sym (ap (slice_index (slice_set bs at x)) e ∙ get_or-set_same bs at x 0 l)) h
    by_inside (inr l) e = let n = length-set bs at x in subst (λ y. y < 256) (sym (get_or_past (slice_set bs at x) i 0 (omega arith))) (omega arith)

    by_place : (i ≡ at) ⊎ (i ≢ at) → slice_index (slice_set bs at x) i < 256
    by_place (inl e) = by_inside (cases_lt at (length bs)) e
    by_place (inr e) = subst (λ y. y < 256) (sym (get_or-set_other bs at i x 0 e)) (small i)

pub small_put : (bs : List ℕ) (at : ℕ) (xs : List ℕ) → at + length xs ≤ length bs → AreBytes bs → AreBytes xs → AreBytes (put_bytes bs at xs)
small_put bs at [] h small more = subst AreBytes (sym (put_bytes-none bs at)) small
small_put bs at (x ∷ xs) h small more =
    let l = length-set bs at x in
    subst AreBytes (sym (put_bytes-more bs at x xs (omega arith))) (small_put (slice_set bs at x) (at + 1) xs (omega arith) (small_set bs at x small (more zero)) (λ i. more (suc i)))

pub small_number : (n x : ℕ) → AreBytes (to_le n x)
unfolding to_le
small_number zero x i = let z : slice_index [] i ≡ 0 = get_or_past [] i 0 (omega arith) in omega arith
small_number (suc n) x zero = omega arith
small_number (suc n) x (suc i) = small_number n (x / 256) i

-- a slice that was written, in the place of what it was lent from
pub written_back : (new items : List ℕ) (len : ℕ) → length new ≡ len → take len (new ++ drop (length new) items) ≡ new
written_back new items len e = ap (λ k. take k (new ++ drop (length new) items)) (sym e) ∙ take-append_seam new (drop (length new) items)

pub small_written : (bytes ram new : List ℕ) (len at n x : ℕ) → bytes ≡ ram → len ≡ length ram → at + n ≤ length ram → AreBytes bytes → length ram < 2 ^ 32 → new ≡ put_bytes ram at (to_le n x) → (length (take len (new ++ drop (length new) bytes)) < 2 ^ 32) × AreBytes (take len (new ++ drop (length new) bytes))
small_written bytes ram new len at n x is e h small fit made =
    let l = length_number new ram at n x h made in
    let back = sym (written_back new bytes len (omega arith)) in
    let k = length-to_le n x in
    subst (λ bs. (length bs < 2 ^ 32) × AreBytes bs) back (omega arith, subst AreBytes (sym made) (small_put ram at (to_le n x) (omega arith) (subst AreBytes is small) (small_number n x)))

pub small_zeros : (n : ℕ) → AreBytes (replicate n 0)
small_zeros zero i = let z : slice_index [] i ≡ 0 = get_or_past [] i 0 (omega arith) in omega arith
small_zeros (suc n) zero = omega arith
small_zeros (suc n) (suc i) = small_zeros n i
