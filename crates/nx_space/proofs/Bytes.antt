-- A part of a list of bytes, when bytes are put into the list.
use Rattle.std.proofs.Common.{◌≡◌, ℕ, zero, suc, ◌+◌, ◌<◌, ◌≤◌, ◌⊎◌, List, [], ◌∷◌, length, take, drop, get_or, refl, sym, ap, ◌∙◌, arith, ⊎_elim, inl, inr}
use Rattle.std.specs.Prelude.{slice_index, slice_set}
use Rattle.std.proofs.lemmas.List.{length-set, length-take, length-drop, get_or-take, get_or-drop, drop-set-add, ext_get_or}
use Rattle.std.proofs.Math.Seq.{take-set-lt}
use Rattle.nx_base.specs.ByteLists.{get_bytes, put_bytes}
use Rattle.nx_base.proofs.Puts.{put_bytes-none, put_bytes-more, length-put_bytes, get-put_bytes_other}

set_in_part : (m : List ℕ) (from n j p a : ℕ) → p ≡ from + j → j < n → take n (drop from (slice_set m p a)) ≡ slice_set (take n (drop from m)) j a
set_in_part m from n j p a e h =
    ap (λ q. take n (drop from (slice_set m q a))) e ∙ ap (take n) (drop-set-add from m j a) ∙ take-set-lt n (drop from m) j a h

-- bytes that are put into a part are put into its bytes
pub put_in_part : (m : List ℕ) (from n j p : ℕ) (xs : List ℕ) → p ≡ from + j → j + length xs ≤ n → from + n ≤ length m → take n (drop from (put_bytes m p xs)) ≡ put_bytes (take n (drop from m)) j xs
put_in_part m from n j p [] e h fit = ap (λ l. take n (drop from l)) (put_bytes-none m p) ∙ sym (put_bytes-none (take n (drop from m)) j)
put_in_part m from n j p (x ∷ xs) e h fit =
    let l = length-set m p x in
    let part : length (take n (drop from m)) ≡ n = omega (arith, length-take n (drop from m), length-drop from m) in
    ap (λ l. take n (drop from l)) (put_bytes-more m p x xs (omega arith))
    ∙ put_in_part (slice_set m p x) from n (j + 1) (p + 1) xs (omega arith) (omega arith) (omega arith)
    ∙ ap (λ l. put_bytes l (j + 1) xs) (set_in_part m from n j p x e (omega arith))
    ∙ sym (put_bytes-more (take n (drop from m)) j x xs (omega arith))

-- bytes that are put elsewhere leave a part as it is
pub put_other_part : (m : List ℕ) (i : ℕ) (xs : List ℕ) (from n : ℕ) → i + length xs ≤ length m → (from + n ≤ i) ⊎ (i + length xs ≤ from) → take n (drop from (put_bytes m i xs)) ≡ take n (drop from m)
put_other_part m i xs from n fit out =
    let l = length-put_bytes m i xs fit in
    let a = length-take n (drop from (put_bytes m i xs)) in
    let b = length-take n (drop from m) in
    let c = length-drop from (put_bytes m i xs) in
    let d = length-drop from m in
    ext_get_or 0 _ _ (omega arith) (λ j h.
    let k : j < n = omega arith in
    get_or-take n (drop from (put_bytes m i xs)) j 0 k
    ∙ get_or-drop from (put_bytes m i xs) j 0
    ∙ get-put_bytes_other m i xs (from + j) fit (⊎_elim (λ p. inl (omega arith)) (λ p. inr (omega arith)) out)
    ∙ sym (get_or-drop from m j 0)
    ∙ sym (get_or-take n (drop from m) j 0 k))

-- bytes of a part
pub get_in_part : (m : List ℕ) (from n j p k : ℕ) → p ≡ from + j → j + k ≤ n → get_bytes (take n (drop from m)) j k ≡ get_bytes m p k
unfolding get_bytes
get_in_part m from n j p zero e h = refl
get_in_part m from n j p (suc k) e h =
    let byte = get_or-take n (drop from m) j 0 (omega arith) ∙ get_or-drop from m j 0 ∙ ap (λ q. get_or m q 0) (sym e) in
    ap (λ y. y ∷ get_bytes (take n (drop from m)) (j + 1) k) byte
    ∙ ap (λ ys. slice_index m p ∷ ys) (get_in_part m from n (j + 1) (p + 1) k (omega arith) (omega arith))
