-- Facts of each element, and lists without a common element.
use Rattle.std.proofs.Common.{◌≢◌, ℕ, List, [], ◌∷◌, ◌++◌, sym}
use Rattle.nx_frames.specs.Chains.{Each, AreOnce, AreApart}

pub each_all : (P : ℕ → Type 0) (xs : List ℕ) → ((x : ℕ) → P x) → Each P xs
each_all P [] h = tt
each_all P (x ∷ xs) h = (h x, each_all P xs h)

pub each_as : (P Q : ℕ → Type 0) (xs : List ℕ) → ((x : ℕ) → P x → Q x) → Each P xs → Each Q xs
each_as P Q [] f h = tt
each_as P Q (x ∷ xs) f h = (f x h.0, each_as P Q xs f h.1)

pub each_both : (P Q : ℕ → Type 0) (xs : List ℕ) → Each P xs → Each Q xs → Each (λ x. P x × Q x) xs
each_both P Q [] h k = tt
each_both P Q (x ∷ xs) h k = ((h.0, k.0), each_both P Q xs h.1 k.1)

pub each_append : (P : ℕ → Type 0) (xs ys : List ℕ) → Each P xs → Each P ys → Each P (xs ++ ys)
each_append P [] ys h k = k
each_append P (x ∷ xs) ys h k = (h.0, each_append P xs ys h.1 k)

pub each_parts : (P : ℕ → Type 0) (xs ys : List ℕ) → Each P (xs ++ ys) → Each P xs × Each P ys
each_parts P [] ys h = (tt, h)
each_parts P (x ∷ xs) ys h = let r = each_parts P xs ys h.1 in ((h.0, r.0), r.1)

pub apart_sym : (xs ys : List ℕ) → AreApart xs ys → AreApart ys xs
apart_sym [] ys h = each_all (λ y. Each (λ x. x ≢ y) []) ys (λ y. tt)
apart_sym (x ∷ xs) ys h =
    each_both (λ y. x ≢ y) (λ y. Each (λ z. z ≢ y) xs) ys (each_as (λ y. y ≢ x) (λ y. x ≢ y) ys (λ y ne e. ne (sym e)) h.0) (apart_sym xs ys h.1)

pub apart_append : (us xs ys : List ℕ) → AreApart us xs → AreApart us ys → AreApart us (xs ++ ys)
apart_append [] xs ys h k = tt
apart_append (u ∷ us) xs ys h k = (each_append (λ y. y ≢ u) xs ys h.0 k.0, apart_append us xs ys h.1 k.1)

pub apart_parts : (us xs ys : List ℕ) → AreApart us (xs ++ ys) → AreApart us xs × AreApart us ys
apart_parts [] xs ys h = (tt, tt)
apart_parts (u ∷ us) xs ys h =
    let e = each_parts (λ y. y ≢ u) xs ys h.0 in
    let r = apart_parts us xs ys h.1 in
    ((e.0, r.0), (e.1, r.1))

pub once_append : (xs ys : List ℕ) → AreOnce xs → AreOnce ys → AreApart xs ys → AreOnce (xs ++ ys)
once_append [] ys h k a = k
once_append (x ∷ xs) ys h k a = (each_append (λ y. y ≢ x) xs ys h.0 a.0, once_append xs ys h.1 k a.1)

pub once_left : (xs ys : List ℕ) → AreOnce (xs ++ ys) → AreOnce xs
once_left [] ys h = tt
once_left (x ∷ xs) ys h = ((each_parts (λ y. y ≢ x) xs ys h.0).0, once_left xs ys h.1)

pub once_right : (xs ys : List ℕ) → AreOnce (xs ++ ys) → AreOnce ys
once_right [] ys h = h
once_right (x ∷ xs) ys h = once_right xs ys h.1

pub once_apart : (xs ys : List ℕ) → AreOnce (xs ++ ys) → AreApart xs ys
once_apart [] ys h = tt
once_apart (x ∷ xs) ys h = ((each_parts (λ y. y ≢ x) xs ys h.0).1, once_apart xs ys h.1)
