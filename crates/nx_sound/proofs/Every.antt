-- What holds of every element of a list.
use Rattle.std.proofs.Common.{ℕ, zero, suc, ◌<◌, List, [], ◌∷◌, ◌++◌, length, get_or, arith}
use Rattle.std.specs.Prelude.{All}

abbrev pub Every : {A : Type 0} → (A → Type 0) → List A → Type 0
Every P [] = Unit {0}
Every P (x ∷ xs) = P x × Every P xs

pub every_both : {A : Type 0} (P : A → Type 0) (xs ys : List A) → Every P xs → Every P ys → Every P (xs ++ ys)
every_both P [] ys h g = g
every_both P (x ∷ xs) ys h g = (h.0, every_both P xs ys h.1 g)

pub every_at : {A : Type 0} (P : A → Type 0) (xs : List A) → Every P xs → (k : ℕ) (d : A) → k < length xs → P (get_or xs k d)
every_at P [] h k d e = absurd (omega (arith, e))
every_at P (x ∷ xs) h zero d e = h.0
every_at P (x ∷ xs) h (suc k) d e = every_at P xs h.1 k d (omega (arith, e))

pub all_of : {A : Type 0} (P : A → Type 0) (xs : List A) → Every P xs → All P xs
all_of P xs h = every_at P xs h
