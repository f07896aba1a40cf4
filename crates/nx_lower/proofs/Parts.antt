-- One element of a list that has four parts.
use Rattle.std.proofs.Common.{◌≡◌, ℕ, zero, suc, ◌+◌, ◌<◌, List, [], ◌∷◌, ◌++◌, length, map, refl, ap, ◌∙◌, arith, length-append}
use Rattle.std.specs.Prelude.{get_or, slice_set}
use Rattle.std.proofs.lemmas.List.{get_or_append_left, set-append_left}

pub get_after : {X : Type 0} (xs ys : List X) (n i : ℕ) (d : X) → n ≡ length xs + i → get_or (xs ++ ys) n d ≡ get_or ys i d
get_after [] ys n i d e = let q : n ≡ i = omega (arith, e) in ap (λ k. get_or ys k d) q
get_after (x ∷ xs) ys zero i d e = absurd (omega (arith, e))
get_after (x ∷ xs) ys (suc n) i d e = get_after xs ys n i d (omega (arith, e))

pub set_after : {X : Type 0} (xs ys : List X) (n i : ℕ) (a : X) → n ≡ length xs + i → slice_set (xs ++ ys) n a ≡ xs ++ slice_set ys i a
set_after [] ys n i a e = let q : n ≡ i = omega (arith, e) in ap (λ k. slice_set ys k a) q
set_after (x ∷ xs) ys zero i a e = absurd (omega (arith, e))
set_after (x ∷ xs) ys (suc n) i a e = ap (λ l. x ∷ l) (set_after xs ys n i a (omega (arith, e)))

pub get_mapped : {X Y : Type 0} (f : X → Y) (xs : List X) (i : ℕ) (d : Y) (e : X) → i < length xs → get_or (map f xs) i d ≡ f (get_or xs i e)
get_mapped f [] i d e h = absurd (omega arith)
get_mapped f (x ∷ xs) zero d e h = refl
get_mapped f (x ∷ xs) (suc i) d e h = get_mapped f xs i d e (omega arith)

pub set_mapped : {X Y : Type 0} (f : X → Y) (xs : List X) (i : ℕ) (x : X) → slice_set (map f xs) i (f x) ≡ map f (slice_set xs i x)
set_mapped f [] i x = refl
set_mapped f (y ∷ xs) zero x = refl
set_mapped f (y ∷ xs) (suc i) x = ap (λ l. f y ∷ l) (set_mapped f xs i x)

-- What is set where it stands changes nothing.
pub set_same : {X : Type 0} (xs : List X) (i : ℕ) (d : X) → slice_set xs i (get_or xs i d) ≡ xs
set_same [] i d = refl
set_same (x ∷ xs) zero d = refl
set_same (x ∷ xs) (suc i) d = ap (λ l. x ∷ l) (set_same xs i d)

module _ {X : Type 0} (s a t o : List X) where
  pub get_first : (i : ℕ) (d : X) → i < length s → get_or ((s ++ (a ++ t)) ++ o) i d ≡ get_or s i d
  get_first i d h = get_or_append_left (s ++ (a ++ t)) o d i (omega (arith, h, length-append s (a ++ t))) ∙ get_or_append_left s (a ++ t) d i h

  pub get_second : (n i : ℕ) (d : X) → n ≡ length s → i < length a → get_or ((s ++ (a ++ t)) ++ o) (n + i) d ≡ get_or a i d
  get_second n i d e h =
      let l = length-append s (a ++ t) in let m = length-append a t in
      get_or_append_left (s ++ (a ++ t)) o d (n + i) (omega (arith, e, h, l, m)) ∙ get_after s (a ++ t) (n + i) i d (omega (arith, e)) ∙ get_or_append_left a t d i h

  pub get_third : (n k i : ℕ) (d : X) → n ≡ length s → k ≡ length a → i < length t → get_or ((s ++ (a ++ t)) ++ o) (n + (k + i)) d ≡ get_or t i d
  get_third n k i d e f h =
      let l = length-append s (a ++ t) in let m = length-append a t in
      get_or_append_left (s ++ (a ++ t)) o d (n + (k + i)) (omega (arith, e, f, h, l, m))
      ∙ get_after s (a ++ t) (n + (k + i)) (k + i) d (omega (arith, e))
      ∙ get_after a t (k + i) i d (omega (arith, f))

  pub get_fourth : (n k r i : ℕ) (d : X) → n ≡ length s → k ≡ length a → r ≡ length t → get_or ((s ++ (a ++ t)) ++ o) (n + (k + r) + i) d ≡ get_or o i d
  get_fourth n k r i d e f g =
      let l = length-append s (a ++ t) in let m = length-append a t in
      get_after (s ++ (a ++ t)) o (n + (k + r) + i) i d (omega (arith, e, f, g, l, m))

  pub set_first : (i : ℕ) (x : X) → i < length s → slice_set ((s ++ (a ++ t)) ++ o) i x ≡ (slice_set s i x ++ (a ++ t)) ++ o
  set_first i x h =
      set-append_left (s ++ (a ++ t)) o i x (omega (arith, h, length-append s (a ++ t))) ∙ ap (λ l. l ++ o) (set-append_left s (a ++ t) i x h)

  pub set_second : (n i : ℕ) (x : X) → n ≡ length s → i < length a → slice_set ((s ++ (a ++ t)) ++ o) (n + i) x ≡ (s ++ (slice_set a i x ++ t)) ++ o
  set_second n i x e h =
      let l = length-append s (a ++ t) in let m = length-append a t in
      set-append_left (s ++ (a ++ t)) o (n + i) x (omega (arith, e, h, l, m))
      ∙ ap (λ z. z ++ o) (set_after s (a ++ t) (n + i) i x (omega (arith, e)) ∙ ap (λ z. s ++ z) (set-append_left a t i x h))

  pub set_fourth : (n k r i : ℕ) (x : X) → n ≡ length s → k ≡ length a → r ≡ length t → slice_set ((s ++ (a ++ t)) ++ o) (n + (k + r) + i) x ≡ (s ++ (a ++ t)) ++ slice_set o i x
  set_fourth n k r i x e f g =
      let l = length-append s (a ++ t) in let m = length-append a t in
      set_after (s ++ (a ++ t)) o (n + (k + r) + i) i x (omega (arith, e, f, g, l, m))
