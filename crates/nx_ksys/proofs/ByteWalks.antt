-- Bytes and elements of lists under the changes that calls make.
use Rattle.std.proofs.Common.{◌≡◌, ℕ, zero, suc, ◌<◌, ◌%◌, ◌/◌, inl, inr, ◌⊎◌, ⊎_elim, Bool, true, false, List, [], ◌∷◌, ◌++◌, take, drop, map, replicate, Option, Some, None, refl, sym, ap, ◌∙◌, subst, arith}
use Rattle.std.specs.Prelude.{◌&&◌, nat_lt, cond, slice_get, slice_set, slice_index_or, filter}
use Rattle.std.proofs.lemmas.Bool.{and_parts}
use Rattle.std.proofs.lemmas.Bool.Decides.{nat_tests}
use Rattle.std.specs.List.{All}
use Rattle.std.proofs.lemmas.Option.{slice_get-get_or}
use Rattle.nx_base.specs.ByteLists.{AreBytes, to_le}
use Rattle.nx_ksys.specs.Soundness.{EachStanding}
use Rattle.nx_ksys.specs.ByteLaws.{Each}
use Rattle.nx_ksys.proofs.Standing.{some_same, none_some, map_stood}

-- ---- bytes

pub no_bytes : AreBytes []
no_bytes i = omega arith

pub more_bytes : (b : ℕ) (bs : List ℕ) → b < 256 → AreBytes bs → AreBytes (b ∷ bs)
more_bytes b bs lt h zero = lt
more_bytes b bs lt h (suc i) = h i

pub rest_bytes : (b : ℕ) (bs : List ℕ) → AreBytes (b ∷ bs) → AreBytes bs
rest_bytes b bs h i = h (suc i)

pub joined_bytes : (bs cs : List ℕ) → AreBytes bs → AreBytes cs → AreBytes (bs ++ cs)
joined_bytes [] cs h g = g
joined_bytes (b ∷ bs) cs h g = more_bytes b (bs ++ cs) (h 0) (joined_bytes bs cs (rest_bytes b bs h) g)

pub first_bytes : (n : ℕ) (bs : List ℕ) → AreBytes bs → AreBytes (take n bs)
first_bytes zero bs h = no_bytes
first_bytes (suc n) [] h = no_bytes
first_bytes (suc n) (b ∷ bs) h = more_bytes b (take n bs) (h 0) (first_bytes n bs (rest_bytes b bs h))

pub later_bytes : (n : ℕ) (bs : List ℕ) → AreBytes bs → AreBytes (drop n bs)
later_bytes zero bs h = h
later_bytes (suc n) [] h = h
later_bytes (suc n) (b ∷ bs) h = later_bytes n bs (rest_bytes b bs h)

pub zero_bytes : (n : ℕ) → AreBytes (replicate n 0)
zero_bytes zero = no_bytes
zero_bytes (suc n) = more_bytes 0 (replicate n 0) (omega arith) (zero_bytes n)

pub number_bytes : (n x : ℕ) → AreBytes (to_le n x)
unfolding to_le
number_bytes zero x = no_bytes
number_bytes (suc n) x = more_bytes (x % 256) (to_le n (x / 256)) (omega arith) (number_bytes n (x / 256))

-- numbers below 256, by a test
abbrev pub are_small : List ℕ → Bool
are_small [] = true
are_small (b ∷ bs) = nat_lt b 256 && are_small bs

pub text_bytes : (bs : List ℕ) → are_small bs ≡ true → AreBytes bs
text_bytes [] e = no_bytes
text_bytes (b ∷ bs) e = let p = and_parts (nat_lt b 256) (are_small bs) e in let q = p.0 in more_bytes b bs (grind (arith, nat_tests)) (text_bytes bs p.1)

-- ---- elements

pub each_none : {A : Type 0} (P : A → Type 0) → Each P []
each_none P i x h = absurd (none_some x h)

pub each_more : {A : Type 0} (P : A → Type 0) (x : A) (xs : List A) → P x → Each P xs → Each P (x ∷ xs)
each_more P x xs p h zero y e = subst P (some_same x y e) p
each_more P x xs p h (suc i) y e = h i y e

pub each_rest : {A : Type 0} (P : A → Type 0) (x : A) (xs : List A) → Each P (x ∷ xs) → Each P xs
each_rest P x xs h i y e = h (suc i) y e

pub each_joined : {A : Type 0} (P : A → Type 0) (xs ys : List A) → Each P xs → Each P ys → Each P (xs ++ ys)
each_joined P [] ys h g = g
each_joined P (x ∷ xs) ys h g = each_more P x (xs ++ ys) (h 0 x refl) (each_joined P xs ys (each_rest P x xs h) g)

pub each_kept : {A : Type 0} (P : A → Type 0) (test : A → Bool) (xs : List A) → Each P xs → Each P (filter test xs)
each_kept P test [] h = h
each_kept {A} P test (x ∷ xs) h = by_test (test x) (each_kept P test xs (each_rest P x xs h))
  where
    by_test : (b : Bool) → Each P (filter test xs) → Each P (cond b (x ∷ filter test xs) (filter test xs))
    by_test true g = each_more P x (filter test xs) (h 0 x refl) g
    by_test false g = g

pub each_changed : {A : Type 0} (P : A → Type 0) (f : A → A) (xs : List A) → ((x : A) → P x → P (f x)) → Each P xs → Each P (map f xs)
each_changed P f xs keep h i y e = let m = map_stood f xs i y e in subst P m.2 (keep m.0 (h i m.0 m.1))

pub each_or : {A : Type 0} (P : A → Type 0) (xs : List A) (i : ℕ) (d : A) → P d → Each P xs → P (slice_index_or xs i d)
each_or P [] i d p h = p
each_or P (x ∷ xs) zero d p h = h 0 x refl
each_or P (x ∷ xs) (suc i) d p h = each_or P xs i d p (each_rest P x xs h)

pub all_from_each : {A : Type 0} (P : A → Type 0) (xs : List A) → Each P xs → All P xs
all_from_each P xs h k d lt = h k (slice_index_or xs k d) (slice_get-get_or xs k d lt)

-- ---- those that stand somewhere

pub standing_changed : {A : Type 0} (P : A → Type 0) (f : Option A → Option A) (xs : List (Option A)) → ((o : Option A) (y : A) → f o ≡ Some y → ((x : A) → o ≡ Some x → P x) → P y) → EachStanding P xs → EachStanding P (map f xs)
standing_changed P f xs keep h p y e = let m = map_stood f xs p (Some y) e in keep m.0 y m.2 (λ x q. h p x (m.1 ∙ ap Some q))

set_at_place : {A : Type 0} (xs : List A) (p q : ℕ) (x y : A) → slice_get (slice_set xs p x) q ≡ Some y → (y ≡ x) ⊎ (slice_get xs q ≡ Some y)
set_at_place [] p q x y h = inr h
set_at_place (z ∷ xs) zero zero x y h = inl (sym (some_same x y h))
set_at_place (z ∷ xs) zero (suc q) x y h = inr h
set_at_place (z ∷ xs) (suc p) zero x y h = inr h
set_at_place (z ∷ xs) (suc p) (suc q) x y h = set_at_place xs p q x y h

pub standing_set : {A : Type 0} (P : A → Type 0) (xs : List (Option A)) (p : ℕ) (x : A) → P x → EachStanding P xs → EachStanding P (slice_set xs p (Some x))
standing_set P xs p x h each q y e = ⊎_elim (λ s. subst P (sym (some_same y x s)) h) (λ o. each q y o) (set_at_place xs p q (Some x) (Some y) e)

pub standing_gone : {A : Type 0} (P : A → Type 0) (xs : List (Option A)) (p : ℕ) → EachStanding P xs → EachStanding P (slice_set xs p None)
standing_gone P xs p each q y e = ⊎_elim (λ s. absurd (none_some y (sym s))) (λ o. each q y o) (set_at_place xs p q None (Some y) e)
