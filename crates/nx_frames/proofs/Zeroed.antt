-- A frame of zeros, and one frame more.
use Rattle.std.proofs.Common.{◌≡◌, ℕ, zero, suc, ◌+◌, ◌-◌, ◌*◌, ◌<◌, ◌≤◌, ◌⊎◌, List, [], ◌∷◌, ◌++◌, length, get_or, refl, sym, ap, ◌∙◌, subst, arith, ⊎_elim, inl, inr, replicate}
use Rattle.std.specs.Prelude.{slice_index, slice_set}
use Rattle.std.proofs.lemmas.List.{length-set, length-replicate, get_or-set_same}
use Rattle.std.proofs.lemmas.Bool.{cases_lt}
use Rattle.nx_base.specs.ByteLists.{put_bytes}
use Rattle.nx_base.proofs.Puts.{put_bytes-more, get-put_bytes_other}
use Rattle.nx_frames.specs.Chains.{address, chain, frame_after}
use Rattle.nx_frames.specs.Zeros.{ram_start, IsZeroed, AreZeroed}
use Rattle.nx_frames.proofs.Lists.{each_as, each_append, each_parts}
use Rattle.nx_frames.proofs.Chains.{chain_more}

get-zeros : (n k : ℕ) → ◌≡◌ {A = ℕ} (get_or (replicate n 0) k 0) 0
get-zeros zero k = refl
get-zeros (suc n) zero = refl
get-zeros (suc n) (suc k) = get-zeros n k

-- the bytes that were put
get-put_bytes : (bs : List ℕ) (i : ℕ) (xs : List ℕ) (d : ℕ) → i + length xs ≤ length bs → d < length xs → get_or (put_bytes bs i xs) (i + d) 0 ≡ get_or xs d 0
get-put_bytes bs i [] d h l = absurd (omega (arith, l))
get-put_bytes bs i (x ∷ xs) zero h l =
    let e : i + 0 ≡ i = omega arith in
    ap (λ b. get_or b (i + 0) 0) (put_bytes-more bs i x xs (omega (arith, h)))
    ∙ ap (λ k. get_or (put_bytes (slice_set bs i x) (i + 1) xs) k 0) e
    ∙ get-put_bytes_other (slice_set bs i x) (i + 1) xs i (omega (arith, h, length-set bs i x)) (inl (omega arith))
    ∙ get_or-set_same bs i x 0 (omega (arith, h))
get-put_bytes bs i (x ∷ xs) (suc d) h l =
    let e : i + suc d ≡ i + 1 + d = omega arith in
    ap (λ b. get_or b (i + suc d) 0) (put_bytes-more bs i x xs (omega (arith, h)))
    ∙ ap (λ k. get_or (put_bytes (slice_set bs i x) (i + 1) xs) k 0) e
    ∙ get-put_bytes (slice_set bs i x) (i + 1) xs d (omega (arith, h, length-set bs i x)) (omega (arith, l))

pub zeroed_is : (ram : List ℕ) (place size k : ℕ) → size ≡ 4096 → place + 4096 ≤ length ram → k < 4096 → get_or (put_bytes ram place (replicate size 0)) (place + k) 0 ≡ 0
zeroed_is ram place size k s h l =
    let n = length-replicate {A = ℕ} size 0 in
    get-put_bytes ram place (replicate size 0) k (omega (arith, h, n, s)) (omega (arith, l, n, s)) ∙ get-zeros size k

pub others_stay : (ram : List ℕ) (place size k : ℕ) → size ≡ 4096 → place + 4096 ≤ length ram → (k < place) ⊎ (place + 4096 ≤ k) → get_or (put_bytes ram place (replicate size 0)) k 0 ≡ get_or ram k 0
others_stay ram place size k s h out =
    let n = length-replicate {A = ℕ} size 0 in
    get-put_bytes_other ram place (replicate size 0) k (omega (arith, s, h, n)) (⊎_elim (λ l. inl l) (λ l. inr (omega (arith, l, s, n))) out)

pub none_zeroed : (ram : List ℕ) → AreZeroed ram ram []
none_zeroed ram = record { zeros = tt; others = λ k out. refl; long = refl }

-- a frame that is zeroed stays so when another one, or itself, is
still_zeroed : (old new : List ℕ) (place x : ℕ) → ((k : ℕ) → k < 4096 → slice_index new (place + k) ≡ 0) → ((k : ℕ) → (k < place) ⊎ (place + 4096 ≤ k) → slice_index new k ≡ slice_index old k) → IsZeroed old x → IsZeroed new x
still_zeroed old new place x z others h k l =
    let at : ℕ = x - ram_start + k in
    ⊎_elim
    (λ (a : at < place). others at (inl a) ∙ h k l)
    (λ (a : place ≤ at). ⊎_elim
    (λ (b : at < place + 4096). let e : place + (at - place) ≡ at = omega (arith, a) in ap (slice_index new) (sym e) ∙ z (at - place) (omega (arith, a, b)))
    (λ (b : place + 4096 ≤ at). others at (inr b) ∙ h k l)
    (cases_lt at (place + 4096)))
    (cases_lt at place)

pub zeroed_more : (before old new : List ℕ) (first : ℕ) (next : List ℕ) (head i at place : ℕ) → ram_start ≤ first → at ≡ frame_after next head i → place ≡ first - ram_start + 4096 * at → AreZeroed before old (chain first next head i) → ((k : ℕ) → k < 4096 → slice_index new (place + k) ≡ 0) → ((k : ℕ) → (k < place) ⊎ (place + 4096 ≤ k) → slice_index new k ≡ slice_index old k) → length new ≡ length old → AreZeroed before new (chain first next head (i + 1))
unfolding chain
zeroed_more before old new first next head i at place low e p a z others long =
    let f : address first at - ram_start ≡ place = omega (arith, low, p) in
    let one : IsZeroed new (address first at) = λ k l. ap (λ q. slice_index new (q + k)) f ∙ z k l in
    let t : chain first next head (i + 1) ≡ chain first next head i ++ address first at ∷ [] = chain_more first next head i 1 ∙ ap (λ q. chain first next head i ++ address first q ∷ []) (sym e) in
    subst (AreZeroed before new) (sym t) (record {
      zeros = each_append (IsZeroed new) (chain first next head i) (address first at ∷ []) (each_as (IsZeroed old) (IsZeroed new) (chain first next head i) (λ x h. still_zeroed old new place x z others h) a.zeros) (one, tt);
      others = λ k out.
          let r = each_parts (λ x. (ram_start + k < x) ⊎ (x + 4096 ≤ ram_start + k)) (chain first next head i) (address first at ∷ []) out in
          others k (⊎_elim (λ l. inl (omega (arith, l, low, p))) (λ l. inr (omega (arith, l, low, p))) r.1.0) ∙ a.others k r.0;
      long = long ∙ a.long;
    })
