-- How many regions pages have.
use Rattle.std.proofs.Common.{◌≡◌, ◌≢◌, ℕ, zero, suc, ◌+◌, ◌-◌, ◌*◌, ◌/◌, ◌<◌, ◌≤◌, ◌==◌, Bool, true, false, ◌||◌, List, [], ◌∷◌, ◌++◌, map, refl, sym, ap, ◌∙◌, arith, ⊎_elim}
use Rattle.std.specs.Prelude.{if◌then◌else◌}
use Rattle.std.specs.List.{list_any}
use Rattle.std.proofs.lemmas.Bool.{cases_eq}
use Rattle.std.proofs.lemmas.Bool.Decides.{nat_tests}
use Rattle.nx_space.specs.Starts.{different, pages_from}
use Rattle.nx_paged.specs.Spans.{Each}

abbrev pub regions_from : ℕ → ℕ → List ℕ
regions_from first n = map (λ page. page / 1024) (pages_from first n)

other : (a b : ℕ) → a ≢ b → (a == b) ≡ false
other a b ne = grind (arith, nat_tests)

same : (a b : ℕ) → a ≡ b → (a == b) ≡ true
same a b e = grind (arith, nat_tests)

-- later pages are in no earlier region
none_before : (r first n : ℕ) → r < first / 1024 → list_any (λ m. m == r) (regions_from first n) ≡ false
none_before r first zero h = refl
none_before r first (suc n) h =
    ap (λ b. b || list_any (λ m. m == r) (regions_from (first + 1) n)) (other (first / 1024) r (λ e. omega (arith, e, h)))
    ∙ none_before r (first + 1) n (omega (arith, h))

step : (first n : ℕ) → different (regions_from first (suc n)) ≡ (if list_any (λ m. m == first / 1024) (regions_from (first + 1) n) then 0 else 1) + different (regions_from (first + 1) n)
step first n = refl

pub regions_count : (first n : ℕ) → different (regions_from first (suc n)) ≡ (first + suc n - 1) / 1024 - first / 1024 + 1
regions_count first zero = let z : 1 + 0 ≡ (first + suc zero - 1) / 1024 - first / 1024 + 1 = omega arith in z
regions_count first (suc n) = ⊎_elim
    (λ e.
    let any = ap (λ b. b || list_any (λ m. m == first / 1024) (regions_from (first + 1 + 1) n)) (same ((first + 1) / 1024) (first / 1024) e) in
    let z = ap (λ b. (if b then 0 else 1) + different (regions_from (first + 1) (suc n))) any in
    let r = regions_count (first + 1) n in
    step first (suc n) ∙ z ∙ omega (arith, r, e))
    (λ ne.
    let none = none_before (first / 1024) (first + 1) (suc n) (omega (arith, ne)) in
    let z = ap (λ b. (if b then 0 else 1) + different (regions_from (first + 1) (suc n))) none in
    let r = regions_count (first + 1) n in
    step first (suc n) ∙ z ∙ omega (arith, r, ne))
    (cases_eq ((first + 1) / 1024) (first / 1024))

-- numbers below a bound and others from it on
pub any_append : (test : ℕ → Bool) (xs ys : List ℕ) → list_any test (xs ++ ys) ≡ (list_any test xs || list_any test ys)
any_append test [] ys = refl
any_append test (x ∷ xs) ys = ap (λ b. test x || b) (any_append test xs ys) ∙ by_test (test x)
  where
    by_test : (b : Bool) → (b || (list_any test xs || list_any test ys)) ≡ ((b || list_any test xs) || list_any test ys)
    by_test true = refl
    by_test false = refl

none_from : (n x : ℕ) (ys : List ℕ) → x < n → Each (λ y. n ≤ y) ys → list_any (λ m. m == x) ys ≡ false
none_from n x [] h e = refl
none_from n x (y ∷ ys) h e =
    let a = e.0 in
    ap (λ b. b || list_any (λ m. m == x) ys) (other y x (λ q. omega (arith, q, h, a))) ∙ none_from n x ys h e.1

or_false : (b : Bool) → (b || false) ≡ b
or_false true = refl
or_false false = refl

pub different_apart : (n : ℕ) (xs ys : List ℕ) → Each (λ x. x < n) xs → Each (λ y. n ≤ y) ys → different (xs ++ ys) ≡ different xs + different ys
different_apart n [] ys h k = let z : different ys ≡ 0 + different ys = omega arith in z
different_apart n (x ∷ xs) ys h k =
    let any = any_append (λ m. m == x) xs ys ∙ ap (λ b. list_any (λ m. m == x) xs || b) (none_from n x ys h.0 k) ∙ or_false (list_any (λ m. m == x) xs) in
    let z = ap (λ b. (if b then 0 else 1) + different (xs ++ ys)) any in
    let r = different_apart n xs ys h.1 k in
    z ∙ omega (arith, r)

pub regions_low : (n first count : ℕ) → first + count ≤ 1024 * n → Each (λ x. x < n) (regions_from first count)
regions_low n first zero h = tt
regions_low n first (suc count) h = (omega (arith, h), regions_low n (first + 1) count (omega (arith, h)))

pub regions_high : (n first count : ℕ) → 1024 * n ≤ first → Each (λ y. n ≤ y) (regions_from first count)
regions_high n first zero h = tt
regions_high n first (suc count) h = (omega (arith, h), regions_high n (first + 1) count (omega (arith, h)))

-- more pages of one region
pub one_region : (first n r : ℕ) → ((k : ℕ) → k < n → (first + k) / 1024 ≡ r) → Each (λ y. y ≡ r) (regions_from first n)
one_region first zero r h = tt
one_region first (suc n) r h =
    let z : first + 0 ≡ first = omega arith in
    (ap (λ x. x / 1024) (sym z) ∙ h 0 (omega arith), one_region (first + 1) n r (λ k l. let e : first + 1 + k ≡ first + suc k = omega arith in ap (λ x. x / 1024) e ∙ h (suc k) (omega (arith, l))))

or_true : (b : Bool) → (b || true) ≡ true
or_true true = refl
or_true false = refl

any_same : (r x : ℕ) (ys : List ℕ) → Each (λ y. y ≡ r) ys → x ≢ r → list_any (λ m. m == x) ys ≡ false
any_same r x [] h ne = refl
any_same r x (y ∷ ys) h ne =
    let e = h.0 in
    ap (λ b. b || list_any (λ m. m == x) ys) (other y x (λ q. ne (sym q ∙ e))) ∙ any_same r x ys h.1 ne

any_first : (r : ℕ) (y : ℕ) (ys : List ℕ) → y ≡ r → list_any (λ m. m == r) (y ∷ ys) ≡ true
any_first r y ys e = ap (λ b. b || list_any (λ m. m == r) ys) (same y r e)

different_same : (r y : ℕ) (ys : List ℕ) → Each (λ z. z ≡ r) (y ∷ ys) → different (y ∷ ys) ≡ 1
different_same r y [] h = refl
different_same r y (z ∷ zs) h =
    let b = ap (λ k. list_any (λ m. m == k) (z ∷ zs)) h.0 ∙ any_first r z zs h.1.0 in
    let d = different_same r z zs h.1 in
    ap (λ x. (if x then 0 else 1) + different (z ∷ zs)) b ∙ omega (arith, d)

-- the same region again and again, before others and after them
pub different_before : (r y : ℕ) (ys xs : List ℕ) → Each (λ z. z ≡ r) (y ∷ ys) → different ((y ∷ ys) ++ xs) ≡ different xs + (if list_any (λ m. m == r) xs then 0 else 1)
different_before r y [] xs h =
    let b = ap (λ k. list_any (λ m. m == k) xs) h.0 in
    ap (λ x. (if x then 0 else 1) + different xs) b ∙ by_test (list_any (λ m. m == r) xs)
  where
    by_test : (b : Bool) → (if b then 0 else 1) + different xs ≡ different xs + (if b then 0 else 1)
    by_test true = omega arith
    by_test false = omega arith
different_before r y (z ∷ zs) xs h =
    let b = ap (λ k. list_any (λ m. m == k) ((z ∷ zs) ++ xs)) h.0 ∙ any_first r z (zs ++ xs) h.1.0 in
    let d = different_before r z zs xs h.1 in
    ap (λ x. (if x then 0 else 1) + different ((z ∷ zs) ++ xs)) b ∙ omega (arith, d)

pub different_after : (r : ℕ) (xs : List ℕ) (y : ℕ) (ys : List ℕ) → Each (λ z. z ≡ r) (y ∷ ys) → different (xs ++ y ∷ ys) ≡ different xs + (if list_any (λ m. m == r) xs then 0 else 1)
different_after r [] y ys h = different_same r y ys h
different_after r (x ∷ xs) y ys h = ⊎_elim
    (λ e.
    let any = any_append (λ m. m == x) xs (y ∷ ys) ∙ ap (λ b. list_any (λ m. m == x) xs || b) (ap (λ k. list_any (λ m. m == k) (y ∷ ys)) e ∙ any_first r y ys h.0) ∙ or_true (list_any (λ m. m == x) xs) in
    let a = ap (λ b. (if b then 0 else 1) + different (xs ++ y ∷ ys)) any in
    let b = ap (λ k. (if list_any (λ m. m == k) xs then 0 else 1) + different xs) e in
    let c = ap {B = ℕ} (λ b. (if b || list_any (λ m. m == r) xs then 0 else 1)) (same x r e) in
    let d = different_after r xs y ys h in
    a ∙ omega (arith, d, b, c))
    (λ ne.
    let any = any_append (λ m. m == x) xs (y ∷ ys) ∙ ap (λ b. list_any (λ m. m == x) xs || b) (any_same r x (y ∷ ys) h ne) ∙ or_false (list_any (λ m. m == x) xs) in
    let a = ap (λ b. (if b then 0 else 1) + different (xs ++ y ∷ ys)) any in
    let c = ap {B = ℕ} (λ b. (if b || list_any (λ m. m == r) xs then 0 else 1)) (other x r ne) in
    let d = different_after r xs y ys h in
    a ∙ omega (arith, d, c))
    (cases_eq x r)
