-- Bytes that were put are those that are read.
use Rattle.std.proofs.Common.{◌≡◌, ℕ, zero, suc, ◌+◌, ◌/◌, ◌^◌, ◌<◌, ◌≤◌, ◌⊎◌, List, [], ◌∷◌, ◌++◌, length, take, drop, get_or, refl, sym, ap, ◌∙◌, arith, ⊎_elim, inl, inr, add-zero, append_assoc}
use Rattle.std.specs.Prelude.{slice_index, slice_set}
use Rattle.std.proofs.lemmas.List.{length-set, get_or-set_same, get_or-set_other, take-append-drop, take_more_set, drop-set-lt, append-nil}
use Rattle.std.proofs.lemmas.Nat.{div_below}
use Rattle.std.proofs.Math.Nat.{pow-suc}
use Rattle.nx_base.specs.ByteLists.{put_bytes, get_bytes, from_le, to_le}

-- nothing put, and one byte after another
pub put_bytes-none : (bs : List ℕ) (at : ℕ) → put_bytes bs at [] ≡ bs
unfolding put_bytes
put_bytes-none bs at = ap (λ l. l ++ drop (at + 0) bs) (append-nil (take at bs)) ∙ ap (λ k. take at bs ++ drop k bs) (add-zero at) ∙ take-append-drop at bs

pub put_bytes-more : (bs : List ℕ) (at x : ℕ) (xs : List ℕ) → at < length bs → put_bytes bs at (x ∷ xs) ≡ put_bytes (slice_set bs at x) (at + 1) xs
unfolding put_bytes
put_bytes-more bs at x xs h =
    let past : at + suc (length xs) ≡ at + 1 + length xs = omega arith in
    let front : take (at + 1) (slice_set bs at x) ≡ take at bs ++ x ∷ [] = take_more_set bs at x h in
    ap (λ k. take at bs ++ (x ∷ xs) ++ drop k bs) past
    ∙ ap (λ l. take at bs ++ (x ∷ xs) ++ l) (sym (drop-set-lt (at + 1 + length xs) bs at x (omega arith)))
    ∙ ap (λ l. l ++ drop (at + 1 + length xs) (slice_set bs at x)) (sym (append_assoc (take at bs) (x ∷ []) xs))
    ∙ ap (λ l. l ++ xs ++ drop (at + 1 + length xs) (slice_set bs at x)) (sym front)

pub length-put_bytes : (bs : List ℕ) (i : ℕ) (xs : List ℕ) → i + length xs ≤ length bs → length (put_bytes bs i xs) ≡ length bs
length-put_bytes bs i [] h = ap length (put_bytes-none bs i)
length-put_bytes bs i (x ∷ xs) h =
    let l = length-set bs i x in
    ap length (put_bytes-more bs i x xs (omega arith)) ∙ length-put_bytes (slice_set bs i x) (i + 1) xs (omega arith) ∙ l

pub get-put_bytes_other : (bs : List ℕ) (i : ℕ) (xs : List ℕ) (j : ℕ) → i + length xs ≤ length bs → (j < i) ⊎ (i + length xs ≤ j) → get_or (put_bytes bs i xs) j 0 ≡ get_or bs j 0
get-put_bytes_other bs i [] j h out = ap (λ l. get_or l j 0) (put_bytes-none bs i)
get-put_bytes_other bs i (x ∷ xs) j h out =
    let l = length-set bs i x in
    ap (λ l. get_or l j 0) (put_bytes-more bs i x xs (omega arith))
    ∙ get-put_bytes_other (slice_set bs i x) (i + 1) xs j (omega arith) (⊎_elim (λ l. inl (omega arith)) (λ l. inr (omega arith)) out)
    ∙ get_or-set_other bs i j x 0 (λ e. ⊎_elim (λ l. omega arith) (λ l. omega arith) out)

-- bytes set one by one are bytes put
pub set_one : (bs : List ℕ) (i x : ℕ) → i + 1 ≤ length bs → slice_set bs i x ≡ put_bytes bs i (x ∷ [])
set_one bs i x h = sym (put_bytes-more bs i x [] (omega arith) ∙ put_bytes-none (slice_set bs i x) (i + 1))

pub set_two : (bs : List ℕ) (i x y : ℕ) → i + 2 ≤ length bs → slice_set (slice_set bs i x) (i + 1) y ≡ put_bytes bs i (x ∷ y ∷ [])
set_two bs i x y h =
    let l = length-set bs i x in
    set_one (slice_set bs i x) (i + 1) y (omega arith) ∙ sym (put_bytes-more bs i x (y ∷ []) (omega arith))

pub set_four : (bs : List ℕ) (i a b c d : ℕ) → i + 4 ≤ length bs → slice_set (slice_set (slice_set (slice_set bs i a) (i + 1) b) (i + 2) c) (i + 3) d ≡ put_bytes bs i (a ∷ b ∷ c ∷ d ∷ [])
set_four bs i a b c d h =
    let l = length-set bs i a in
    let k = length-set (slice_set bs i a) (i + 1) b in
    let p : i + 2 ≡ i + 1 + 1 = omega arith in
    let q : i + 3 ≡ i + 1 + 1 + 1 = omega arith in
    ap (λ j. slice_set (slice_set (slice_set (slice_set bs i a) (i + 1) b) j c) (i + 3) d) p
    ∙ ap (λ j. slice_set (slice_set (slice_set (slice_set bs i a) (i + 1) b) (i + 1 + 1) c) j d) q
    ∙ set_two (slice_set (slice_set bs i a) (i + 1) b) (i + 1 + 1) c d (omega arith)
    ∙ sym (put_bytes-more (slice_set bs i a) (i + 1) b (c ∷ d ∷ []) (omega arith))
    ∙ sym (put_bytes-more bs i a (b ∷ c ∷ d ∷ []) (omega arith))

-- reading all that was put
pub get_bytes-put_bytes : (bs : List ℕ) (i : ℕ) (xs : List ℕ) → i + length xs ≤ length bs → get_bytes (put_bytes bs i xs) i (length xs) ≡ xs
unfolding get_bytes
get_bytes-put_bytes bs i [] h = refl
get_bytes-put_bytes bs i (x ∷ xs) h =
    let l = length-set bs i x in
    ap (λ bytes. get_bytes bytes i (suc (length xs))) (put_bytes-more bs i x xs (omega arith))
    ∙ ap (λ y. y ∷ get_bytes (put_bytes (slice_set bs i x) (i + 1) xs) (i + 1) (length xs)) (get-put_bytes_other (slice_set bs i x) (i + 1) xs i (omega arith) (inl (omega arith)) ∙ get_or-set_same bs i x 0 (omega arith))
    ∙ ap (λ ys. x ∷ ys) (get_bytes-put_bytes (slice_set bs i x) (i + 1) xs (omega arith))

-- reading elsewhere
pub get_bytes-put_bytes_other : (bs : List ℕ) (i : ℕ) (xs : List ℕ) (j n : ℕ) → i + length xs ≤ length bs → (j + n ≤ i) ⊎ (i + length xs ≤ j) → get_bytes (put_bytes bs i xs) j n ≡ get_bytes bs j n
unfolding get_bytes
get_bytes-put_bytes_other bs i xs j zero h out = refl
get_bytes-put_bytes_other bs i xs j (suc n) h out =
    ap (λ y. y ∷ get_bytes (put_bytes bs i xs) (j + 1) n) (get-put_bytes_other bs i xs j h (⊎_elim (λ l. inl (omega arith)) (λ l. inr l) out))
    ∙ ap (λ ys. slice_index bs j ∷ ys) (get_bytes-put_bytes_other bs i xs (j + 1) n h (⊎_elim (λ l. inl (omega arith)) (λ l. inr (omega arith)) out))

pub length-to_le : (n x : ℕ) → length (to_le n x) ≡ n
unfolding to_le
length-to_le zero x = refl
length-to_le (suc n) x = ap suc (length-to_le n (x / 256))

-- the number of a number's bytes
pub from_le-to_le : (n x : ℕ) → x < 256 ^ n → from_le (to_le n x) ≡ x
unfolding from_le to_le
from_le-to_le zero x h = omega arith
from_le-to_le (suc n) x h =
    let q : x / 256 < 256 ^ n = grind (arith, pow-suc, div_below) in
    omega (arith, from_le-to_le n (x / 256) q)
