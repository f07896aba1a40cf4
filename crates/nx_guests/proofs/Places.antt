-- What stands at places of a list.
use Rattle.std.proofs.Common.{◌≡◌, ℕ, zero, suc, ◌<◌, ◌≤◌, List, [], ◌∷◌, ◌++◌, Option, None, length, refl, ap, ◌∙◌, arith}
use Rattle.std.specs.Prelude.{◌≢◌, slice_set}
use Rattle.nx_guests.specs.Kept.{found, Puts}

abbrev none_of : {A : Type 0} → List (Option A)
none_of {A} = None ∷ []

pub found_past : {A : Type 0} (xs : List (Option A)) (n : ℕ) → length xs ≤ n → found xs n ≡ None
found_past [] n l = refl
found_past (x ∷ xs) zero l = absurd (omega (arith, l))
found_past (x ∷ xs) (suc i) l = found_past xs i (omega (arith, l))

pub found_more : {A : Type 0} (xs : List (Option A)) (n : ℕ) → found (xs ++ none_of) n ≡ found xs n
found_more [] zero = refl
found_more [] (suc i) = refl
found_more (x ∷ xs) zero = refl
found_more (x ∷ xs) (suc i) = found_more xs i

set_own : {A : Type 0} (xs : List (Option A)) (n : ℕ) (v : Option A) → n < length xs → found (slice_set xs n v) n ≡ v
set_own [] n v l = absurd (omega (arith, l))
set_own (x ∷ xs) zero v l = refl
set_own (x ∷ xs) (suc i) v l = set_own xs i v (omega (arith, l))

set_other : {A : Type 0} (xs : List (Option A)) (n i : ℕ) (v : Option A) → i ≢ n → found (slice_set xs n v) i ≡ found xs i
set_other [] n i v ne = refl
set_other (x ∷ xs) zero zero v ne = absurd (ne refl)
set_other (x ∷ xs) zero (suc i) v ne = refl
set_other (x ∷ xs) (suc n) zero v ne = refl
set_other (x ∷ xs) (suc n) (suc i) v ne = set_other xs n i v (λ e. ne (ap (λ m. suc m) e))

pub put_at : {A : Type 0} (xs : List (Option A)) (n : ℕ) (v : Option A) → n < length xs → Puts xs (slice_set xs n v) n v
put_at xs n v l = record { own = set_own xs n v l; others = λ i ne. set_other xs n i v ne }

pub none_past : {A : Type 0} (xs : List (Option A)) (n : ℕ) → length xs ≤ n → Puts xs xs n None
none_past xs n l = record { own = found_past xs n l; others = λ i ne. refl }

pub after_same : {A : Type 0} (xs ys zs : List (Option A)) (n : ℕ) (v : Option A) → ((i : ℕ) → found ys i ≡ found xs i) → Puts ys zs n v → Puts xs zs n v
after_same xs ys zs n v e h = record { own = h.own; others = λ i ne. h.others i ne ∙ e i }
