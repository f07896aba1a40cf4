-- Slots of which none stands twice are no more than there are.
use Rattle.std.proofs.Common.{◌≡◌, ◌≢◌, ℕ, zero, suc, ◌+◌, ◌<◌, ◌≤◌, ◌==◌, Bool, true, false, ◌&&◌, ◌||◌, not, List, [], ◌∷◌, ◌++◌, length, refl, sym, ap, ◌∙◌, arith}
use Rattle.std.specs.Prelude.{if◌then◌else◌}
use Rattle.std.specs.List.{All}
use Rattle.std.proofs.lemmas.Bool.Decides.{nat_tests}
use Rattle.nx_space.specs.Starts.{has_slot}
use Rattle.nx_paged.specs.Tenants.{are_once}
use Rattle.nx_paged.specs.Spans.{Each}

is_number : (a b : ℕ) → (a == b) ≡ true → a ≡ b
is_number a b e = grind (arith, nat_tests)

no_number : (a b : ℕ) → (a == b) ≡ false → a ≢ b
no_number a b e = grind (arith, nat_tests)

or_none : (a b : Bool) → (a || b) ≡ false → (a ≡ false) × (b ≡ false)
or_none true b h = absurd cc
or_none false b h = (refl, h)

not_and : (a b : Bool) → (not a && b) ≡ true → (a ≡ false) × (b ≡ true)
not_and true b h = absurd cc
not_and false b h = (refl, h)

-- the slots without one
abbrev without : ℕ → List ℕ → List ℕ
without n [] = []
without n (x ∷ xs) = if x == n then xs else x ∷ without n xs

none_without : (n y : ℕ) (xs : List ℕ) → has_slot xs y ≡ false → has_slot (without n xs) y ≡ false
none_without n y [] h = refl
none_without n y (x ∷ xs) h = let o = or_none (x == y) (has_slot xs y) h in by_test (x == n) o.0 o.1 (none_without n y xs o.1)
  where
    by_test : (b : Bool) → (x == y) ≡ false → has_slot xs y ≡ false → has_slot (without n xs) y ≡ false → has_slot (if b then xs else x ∷ without n xs) y ≡ false
    by_test true e q r = q
    by_test false e q r = ap (λ b. b || has_slot (without n xs) y) e ∙ r

once_without : (n : ℕ) (xs : List ℕ) → are_once xs ≡ true → are_once (without n xs) ≡ true
once_without n [] h = refl
once_without n (x ∷ xs) h = let o = not_and (has_slot xs x) (are_once xs) h in by_test (x == n) o.0 o.1 (once_without n xs o.1)
  where
    by_test : (b : Bool) → has_slot xs x ≡ false → are_once xs ≡ true → are_once (without n xs) ≡ true → are_once (if b then xs else x ∷ without n xs) ≡ true
    by_test true e q r = q
    by_test false e q r = ap (λ b. not b && are_once (without n xs)) (none_without n x xs e) ∙ r

low_others : (n : ℕ) (xs : List ℕ) → has_slot xs n ≡ false → Each (λ x. x < suc n) xs → Each (λ x. x < n) xs
low_others n [] h l = tt
low_others n (x ∷ xs) h l =
    let o = or_none (x == n) (has_slot xs n) h in
    let ne = no_number x n o.0 in
    let u = l.0 in
    (omega (arith, ne, u), low_others n xs o.1 l.1)

low_without : (n : ℕ) (xs : List ℕ) → are_once xs ≡ true → Each (λ x. x < suc n) xs → Each (λ x. x < n) (without n xs)
low_without n [] h l = tt
low_without n (x ∷ xs) h l = let o = not_and (has_slot xs x) (are_once xs) h in by_test (x == n) refl o.0 o.1 (low_without n xs o.1 l.1)
  where
    by_test : (b : Bool) → (x == n) ≡ b → has_slot xs x ≡ false → are_once xs ≡ true → Each (λ x. x < n) (without n xs) → Each (λ x. x < n) (if b then xs else x ∷ without n xs)
    by_test true e none once r = low_others n xs (ap (has_slot xs) (sym (is_number x n e)) ∙ none) l.1
    by_test false e none once r = let ne = no_number x n e in let u = l.0 in (omega (arith, ne, u), r)

length_without : (n : ℕ) (xs : List ℕ) → length xs ≤ length (without n xs) + 1
length_without n [] = omega arith
length_without n (x ∷ xs) = by_test (x == n) (length_without n xs)
  where
    by_test : (b : Bool) → length xs ≤ length (without n xs) + 1 → length (x ∷ xs) ≤ length (if b then xs else x ∷ without n xs) + 1
    by_test true r = omega arith
    by_test false r = omega (arith, r)

pub few_slots : (n : ℕ) (xs : List ℕ) → are_once xs ≡ true → Each (λ x. x < n) xs → length xs ≤ n
few_slots zero [] h l = omega arith
few_slots zero (x ∷ xs) h l = absurd (let u = l.0 in omega (arith, u))
few_slots (suc n) xs h l =
    let r = few_slots n (without n xs) (once_without n xs h) (low_without n xs h l) in
    let k = length_without n xs in
    omega (arith, r, k)

-- one slot more
pub each_slot : (P : ℕ → Type 0) (xs : List ℕ) → All P xs → Each P xs
each_slot P [] h = tt
each_slot P (x ∷ xs) h = (h 0 x (omega arith), each_slot P xs (λ k d l. h (suc k) d (omega (arith, l))))

pub all_slots : (P : ℕ → Type 0) (xs : List ℕ) → Each P xs → All P xs
all_slots P [] h k d l = absurd (omega (arith, l))
all_slots P (x ∷ xs) h zero d l = h.0
all_slots P (x ∷ xs) h (suc k) d l = all_slots P xs h.1 k d (omega (arith, l))

pub each_more : (P : ℕ → Type 0) (xs : List ℕ) (y : ℕ) → Each P xs → P y → Each P (xs ++ y ∷ [])
each_more P [] y h p = (p, tt)
each_more P (x ∷ xs) y h p = (h.0, each_more P xs y h.1 p)

has_more : (xs : List ℕ) (x y : ℕ) → has_slot xs x ≡ false → (y == x) ≡ false → has_slot (xs ++ y ∷ []) x ≡ false
has_more [] x y h e = ap (λ b. b || false) e
has_more (z ∷ xs) x y h e = let o = or_none (z == x) (has_slot xs x) h in ap (λ b. b || has_slot (xs ++ y ∷ []) x) o.0 ∙ has_more xs x y o.1 e

pub once_more : (xs : List ℕ) (y : ℕ) → are_once xs ≡ true → has_slot xs y ≡ false → are_once (xs ++ y ∷ []) ≡ true
once_more [] y h none = refl
once_more (x ∷ xs) y h none =
    let o = not_and (has_slot xs x) (are_once xs) h in
    let e = or_none (x == y) (has_slot xs y) none in
    let ne = no_number x y e.0 in
    let other : (y == x) ≡ false = grind (arith, nat_tests, ne) in
    ap (λ b. not b && are_once (xs ++ y ∷ [])) (has_more xs x y o.0 other) ∙ once_more xs y o.1 e.1
