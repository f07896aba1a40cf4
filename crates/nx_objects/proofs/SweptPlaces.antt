-- Places that are swept one after the other.
use Rattle.std.proofs.Common.{◌≡◌, ℕ, zero, suc, ◌+◌, ◌<◌, ◌≤◌, Bool, true, false, List, [], ◌∷◌, ◌++◌, length, take, drop, refl, sym, ap, ◌∙◌, arith, add-one}
use Rattle.std.specs.Prelude.{Option, None, if◌then◌else◌}
use Rattle.nx_ksys.specs.State.{KernelState}
use Rattle.nx_ksys.specs.Descriptors.{kept_if, living_from, closed, closed_from}

-- those before a place are swept, and the others aren't
abbrev pub swept_to : {A : Type 0} → (ℕ → Bool) → ℕ → ℕ → List (Option A) → List (Option A)
swept_to lives n place xs = take place (living_from lives n xs) ++ drop place xs

module _ {A : Type 0} where
  kept_first : (b : Bool) (x : Option A) (xs : List (Option A)) → kept_if b (x ∷ xs) 0 ≡ (if b then x else None) ∷ xs
  kept_first true x xs = refl
  kept_first false x xs = refl

  kept_later : (b : Bool) (x : Option A) (xs : List (Option A)) (place : ℕ) → kept_if b (x ∷ xs) (suc place) ≡ x ∷ kept_if b xs place
  kept_later true x xs place = refl
  kept_later false x xs place = refl

  swept_one : (lives : ℕ → Bool) (n j place : ℕ) (xs : List (Option A)) → j ≡ n + place → place < length xs
      → kept_if (lives j) (swept_to lives n place xs) place ≡ swept_to lives n (suc place) xs
  swept_one lives n j place [] e lt = absurd (omega arith)
  swept_one lives n j zero (x ∷ xs) e lt = let h : j ≡ n = omega arith in ap (λ m. kept_if (lives m) (x ∷ xs) 0) h ∙ kept_first (lives n) x xs
  swept_one lives n j (suc place) (x ∷ xs) e lt =
      kept_later (lives j) (if lives n then x else None) (swept_to lives (n + 1) place xs) place
      ∙ ap (λ ys. (if lives n then x else None) ∷ ys) (swept_one lives (n + 1) j place xs (omega arith) (omega arith))

  pub swept_next : (lives : ℕ → Bool) (place : ℕ) (xs : List (Option A)) → place < length xs
      → kept_if (lives place) (swept_to lives 0 place xs) place ≡ swept_to lives 0 (place + 1) xs
  swept_next lives place xs lt = rw add-one (swept_one lives 0 place place xs (omega arith) lt)

  pub swept_all : (lives : ℕ → Bool) (n place : ℕ) (xs : List (Option A)) → length xs ≤ place → swept_to lives n place xs ≡ living_from lives n xs
  swept_all lives n zero [] le = refl
  swept_all lives n (suc place) [] le = refl
  swept_all lives n zero (x ∷ xs) le = absurd (omega arith)
  swept_all lives n (suc place) (x ∷ xs) le = ap (λ ys. (if lives n then x else None) ∷ ys) (swept_all lives (n + 1) place xs (omega arith))

-- ---- descriptors that close one after the other

pub closed_next : (m n fd group : ℕ) (k now : KernelState) → m ≡ suc n → now ≡ closed k group fd → closed_from n (fd + 1) group now ≡ closed_from m fd group k
closed_next m n fd group k now e h = ap (closed_from n (fd + 1) group) h ∙ sym (ap (λ x. closed_from x fd group k) e)

pub closed_none : (n fd group : ℕ) (k : KernelState) → n ≡ 0 → k ≡ closed_from n fd group k
closed_none n fd group k e = sym (ap (λ x. closed_from x fd group k) e)
