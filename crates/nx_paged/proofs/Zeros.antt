-- Zeros, and bytes that are put into them.
use Rattle.std.proofs.Common.{◌≡◌, ℕ, zero, suc, ◌+◌, ◌-◌, ◌*◌, ◌<◌, ◌≤◌, List, ◌∷◌, ◌++◌, length, drop, replicate, get_or, refl, sym, ap, ◌∙◌, arith}
use Rattle.std.proofs.lemmas.List.{ext_get_or}
use Rattle.nx_base.specs.ByteLists.{put_bytes}
use Rattle.nx_space.specs.Starts.{pages_of, paged}

abbrev pub zeros : ℕ → List ℕ
zeros n = replicate n 0

pub length-zeros : (n : ℕ) → length (zeros n) ≡ n
length-zeros zero = refl
length-zeros (suc n) = ap suc (length-zeros n)

pub get-zeros : (n k : ℕ) → k < n → get_or (zeros n) k 0 ≡ get_or (zeros 1) 0 0
get-zeros zero k h = let bad : zero ≤ k = omega arith in absurd (omega (arith, h))
get-zeros (suc n) zero h = refl
get-zeros (suc n) (suc k) h = get-zeros n k (omega (arith, h))

drop-zeros : (m n : ℕ) → drop m (zeros n) ≡ zeros (n - m)
drop-zeros zero n = let z : n ≡ n - 0 = omega arith in ap zeros z
drop-zeros (suc m) zero = let z : 0 ≡ 0 - suc m = omega arith in ap zeros z
drop-zeros (suc m) (suc n) = let z : n - m ≡ suc n - suc m = omega arith in drop-zeros m n ∙ ap zeros z

pub put-zeros : (bytes : List ℕ) → put_bytes (zeros (4096 * pages_of (length bytes))) 0 bytes ≡ paged bytes
unfolding put_bytes
put-zeros bytes =
    let z : 0 + length bytes ≡ length bytes = omega arith in
    ap (λ n. bytes ++ drop n (zeros (4096 * pages_of (length bytes)))) z
    ∙ ap (λ l. bytes ++ l) (drop-zeros (length bytes) (4096 * pages_of (length bytes)))

-- a list of zeros
pub are_zeros : (bs : List ℕ) (n : ℕ) → length bs ≡ n → ((k : ℕ) → k < n → get_or bs k 0 ≡ 0) → bs ≡ zeros n
are_zeros bs n long each = ext_get_or 0 bs (zeros n) (long ∙ sym (length-zeros n)) (λ k h. let l : k < n = omega (arith, h, long) in each k l ∙ sym (get-zeros n k l))

pub zeros_more : (n m : ℕ) → zeros n ++ zeros m ≡ zeros (n + m)
zeros_more zero m = let e : m ≡ zero + m = omega arith in ap zeros e
zeros_more (suc n) m = let e : suc (n + m) ≡ suc n + m = omega arith in ap (λ l. 0 ∷ l) (zeros_more n m) ∙ ap zeros e
