-- There are no more frames, each once, than the stock has.
use Rattle.std.proofs.Common.{◌≡◌, ◌≢◌, ℕ, zero, suc, ◌+◌, ◌<◌, ◌≤◌, List, [], ◌∷◌, length, arith}
use Rattle.std.proofs.Common.{⊎_elim}
use Rattle.std.proofs.lemmas.Bool.{cases_eq}
use Rattle.nx_frames.specs.Chains.{address, Each, AreOnce, IsFrame}
use Rattle.nx_frames.proofs.Lists.{each_as}

-- a list without its first element of a value, for lists that have each once
data Removed (a : ℕ) (P : ℕ → Type 0) (xs : List ℕ) : Type 0 where
  Removes : (ys : List ℕ) → AreOnce ys → Each P ys → Each (λ y. y ≢ a) ys → length xs ≤ length ys + 1 → ((z : ℕ) → Each (λ y. y ≢ z) xs → Each (λ y. y ≢ z) ys) → Removed a P xs

removed : (a : ℕ) (P : ℕ → Type 0) (xs : List ℕ) → AreOnce xs → Each P xs → Removed a P xs
removed a P [] once h = Removes [] tt tt tt (omega arith) (λ z e. tt)
removed a P (x ∷ xs) once h =
    ⊎_elim
    (λ (e : x ≡ a). Removes xs once.1 h.1 (each_as (λ y. y ≢ x) (λ y. y ≢ a) xs (λ y ne q. ne (cc (e, q))) once.0) (omega arith) (λ z k. k.1))
    (λ (ne : x ≢ a). elim (removed a P xs once.1 h.1) [ Removes ys o p n l k ↦ Removes (x ∷ ys) (k x once.0, o) (h.0, p) (ne, n) (omega (arith, l)) (λ z q. (q.0, k z q.1)) ])
    (cases_eq x a)

fewer : (first n : ℕ) (ys : List ℕ) → Each (IsFrame first (suc n)) ys → Each (λ y. y ≢ address first n) ys → Each (IsFrame first n) ys
fewer first n [] h k = tt
fewer first n (y ∷ ys) h k =
    let f = h.0 in
    let ne = k.0 in
    let low : f.0 < n = ⊎_elim (λ (e : f.0 ≡ n). absurd (ne (omega (arith, f.2, e)))) (λ (d : f.0 ≢ n). omega (arith, f.1, d)) (cases_eq f.0 n) in
    ((f.0, low, f.2), fewer first n ys h.1 k.1)

pub few_frames : (first n : ℕ) (xs : List ℕ) → AreOnce xs → Each (IsFrame first n) xs → length xs ≤ n
few_frames first zero [] once h = omega arith
few_frames first zero (x ∷ xs) once h = absurd (let f = h.0 in omega (arith, f.1))
few_frames first (suc n) xs once h =
    elim (removed (address first n) (IsFrame first (suc n)) xs once h) [ Removes ys o p ne l k ↦ omega (arith, l, few_frames first n ys o (fewer first n ys p ne)) ]
