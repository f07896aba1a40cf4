-- What is kept of a word.
use Rattle.std.proofs.Common.{◌≡◌, ℕ, zero, suc, ◌-◌, ◌≤◌, ◌<◌, List, [], ◌∷◌, ◌++◌, length, take, refl, sym, ap, ◌∙◌, arith, length-append}
use Rattle.std.proofs.lemmas.List.{append-nil}
use Rattle.nx_shell.specs.Kept.{cut, kept, AreKept}

abbrev no_bytes : List ℕ
no_bytes = []

abbrev no_words : List (List ℕ)
no_words = []

take_none : (xs : List ℕ) → take 0 xs ≡ no_bytes
take_none [] = refl
take_none (x ∷ xs) = refl

take_all : (n : ℕ) (xs : List ℕ) → length xs ≤ n → take n xs ≡ xs
take_all zero [] h = refl
take_all zero (x ∷ xs) h = absurd (omega (arith, h))
take_all (suc n) [] h = refl
take_all (suc n) (x ∷ xs) h = ap (λ ys. x ∷ ys) (take_all n xs (omega (arith, h)))

take_le : (n : ℕ) (xs : List ℕ) → length (take n xs) ≤ n
take_le zero [] = omega arith
take_le zero (x ∷ xs) = omega arith
take_le (suc n) [] = omega arith
take_le (suc n) (x ∷ xs) = omega (arith, take_le n xs)

pub keeps_none : (w xs : List ℕ) → 256 ≤ length w → w ≡ w ++ take (256 - length w) xs
keeps_none w xs h = let z : 256 - length w ≡ 0 = omega (arith, h) in sym (ap (λ n. w ++ take n xs) z ∙ (ap (λ ys. w ++ ys) (take_none xs) ∙ append-nil w))

pub keeps_all : (w xs : List ℕ) (n : ℕ) → n ≡ 256 - length w → length xs ≤ n → w ++ xs ≡ w ++ take (256 - length w) xs
keeps_all w xs n e h = ap (λ ys. w ++ ys) (sym (take_all (256 - length w) xs (omega (arith, e, h))))

pub kept_le : (w xs : List ℕ) → length w ≤ 256 → length (kept w xs) ≤ 256
unfolding kept
kept_le w xs h = let t : length (take (256 - length w) xs) ≤ 256 - length w = take_le (256 - length w) xs in omega (arith, h, t, length-append w (take (256 - length w) xs))

pub cut_le : (w : List ℕ) → length (cut w) ≤ 256
unfolding cut
cut_le w = take_le 256 w

pub none_kept : AreKept no_words
none_kept place = omega arith

pub kept_more : (ws : List (List ℕ)) (w : List ℕ) → AreKept ws → length w ≤ 256 → AreKept (ws ++ w ∷ [])
kept_more [] w h l zero = l
kept_more [] w h l (suc i) = omega arith
kept_more (v ∷ ws) w h l zero = h 0
kept_more (v ∷ ws) w h l (suc i) = kept_more ws w (λ j. h (suc j)) l i

pub longer : (ws : List (List ℕ)) (w : List ℕ) (n : ℕ) → length ws < n → length (ws ++ w ∷ []) ≤ n
longer ws w n h = omega (arith, h, length-append ws (w ∷ []))

-- A word is cut once, or with each part.
take_kept : (n : ℕ) (w xs : List ℕ) → take n w ++ take (n - length (take n w)) xs ≡ take n (w ++ xs)
take_kept zero [] xs = refl
take_kept zero (x ∷ w) xs = take_none xs
take_kept (suc n) [] xs = let s : suc n - 0 ≡ suc n = omega arith in ap (λ m. take m xs) s
take_kept (suc n) (x ∷ w) xs = let s : suc n - suc (length (take n w)) ≡ n - length (take n w) = omega arith in ap (λ ys. x ∷ ys) (ap (λ m. take n w ++ take m xs) s ∙ take_kept n w xs)

pub kept_cut : (w xs : List ℕ) → kept (cut w) xs ≡ cut (w ++ xs)
unfolding kept cut
kept_cut w xs = take_kept 256 w xs

pub cut_short : (w : List ℕ) → length w ≤ 256 → cut w ≡ w
unfolding cut
cut_short w h = take_all 256 w h

length_full : (n : ℕ) (xs : List ℕ) → n ≤ length xs → length (take n xs) ≡ n
length_full zero [] h = refl
length_full zero (x ∷ xs) h = refl
length_full (suc n) [] h = absurd (omega (arith, h))
length_full (suc n) (x ∷ xs) h = ap (λ m. suc m) (length_full n xs (omega (arith, h)))

pub cut_full : (w : List ℕ) → 256 ≤ length w → length (cut w) ≡ 256
unfolding cut
cut_full w h = length_full 256 w h
