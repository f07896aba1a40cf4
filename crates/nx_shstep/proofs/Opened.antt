-- The last of the descriptors that are open, and the one before it.
use Rattle.std.proofs.Common.{◌≡◌, ℕ, suc, ◌+◌, ◌≤◌, List, [], ◌∷◌, ◌++◌, length, take, get_or, reverse, refl, sym, ap, ◌∙◌, subst, arith}
use Rattle.std.proofs.Math.Seq.{take-suc, take-length}
use Rattle.std.proofs.lemmas.List.{reverse-append}
use Rattle.nx_shrun.specs.Steps.{top, below, without_second}

pub before_last_is : (fds : List ℕ) (n : ℕ) → length fds ≡ n + 1 → top (reverse (take n fds)) ≡ top (below (reverse fds))
before_last_is fds n e =
    let whole : take (suc n) fds ≡ fds = subst (λ m. take m fds ≡ fds) (let f : length fds ≡ suc n = omega (arith, e) in f) (take-length fds) in
    let split : fds ≡ take n fds ++ get_or fds n 0 ∷ [] = sym whole ∙ take-suc fds n 0 (omega (arith, e)) in
    let turned : reverse fds ≡ get_or fds n 0 ∷ reverse (take n fds) = ap reverse split ∙ reverse-append (take n fds) (get_or fds n 0 ∷ []) in
    sym (ap (λ k. top (below k)) turned)

pub below_le : (fds : List ℕ) → length (below fds) ≤ length fds
below_le [] = omega arith
below_le (fd ∷ fds) = omega arith

pub without_second_is : (fds : List ℕ) → (length fds ≡ 0 → ⊥) → without_second fds ≡ top fds ∷ below (below fds)
without_second_is [] h = absurd (h refl)
without_second_is (fd ∷ []) h = refl
without_second_is (fd ∷ other ∷ fds) h = refl
