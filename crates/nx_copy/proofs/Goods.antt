-- What is good in a view, byte by byte.
use Rattle.std.proofs.Common.{◌≡◌, ℕ, zero, suc, ◌+◌, ◌<◌, ◌≤◌, ◌^◌, Bool, true, false, List, [], ◌∷◌, ◌++◌, length, drop, get_or, refl, sym, ap, ◌∙◌, subst, arith, add-zero}
use Rattle.std.specs.Prelude.{Option, Some, None, Ok, nat_le, ◌==◌, ◌&&◌, ◌||◌, if◌then◌else◌}
use Rattle.std.proofs.lemmas.Bool.Decides.{nat_tests}
use Rattle.std.proofs.lemmas.List.{append-nil, append_assoc}
use Rattle.nx_base.specs.declared.access.Access.{Access}
use Rattle.nx_base.specs.declared.access.Access.TheVariants.{Load}
use Rattle.nx_base.specs.Views.{View, Window, find_bytes, load_bytes, store_bytes, number_or}
use Rattle.nx_base.specs.Good.{is_good, is_found, all_found, serves, shown_byte, shown_bytes, good_text, number_of_found, with_first}
use Rattle.nx_base.specs.Copying.{with_stored, stored_or}

both_of : (x y : Bool) → (x && y) ≡ true → (x ≡ true) × (y ≡ true)
both_of true y e = (refl, e)
both_of false y e = absurd cc

both_true : (x y : Bool) → x ≡ true → y ≡ true → (x && y) ≡ true
both_true true y e f = f
both_true false y e f = absurd cc

is_some_bytes : (n : ℕ) → 1 ≤ n → (n == 0) ≡ false
is_some_bytes n h = grind (arith, nat_tests)

or_right : (x y : Bool) → x ≡ false → (x || y) ≡ true → y ≡ true
or_right true y e f = absurd cc
or_right false y e f = f

or_is : (x y : Bool) → y ≡ true → (x || y) ≡ true
or_is true y e = refl
or_is false y e = e

-- What a good buffer of one byte or more is.
pub record Lies (v : View) (at n : ℕ) (a : Access) : Type 0 where
  pub fits : at + n ≤ 2 ^ 32
  pub found : all_found (serves a) v.windows at n ≡ true

below : (at n : ℕ) → nat_le (at + n) (2 ^ 32) ≡ true → at + n ≤ 2 ^ 32
below at n e = grind (arith, nat_tests)

not_above : (at n : ℕ) → at + n ≤ 2 ^ 32 → nat_le (at + n) (2 ^ 32) ≡ true
not_above at n l = grind (arith, nat_tests)

above : (at n : ℕ) → 2 ^ 32 < at + n → nat_le (at + n) (2 ^ 32) ≡ false
above at n l = grind (arith, nat_tests)

pub good_lies : (v : View) (at n : ℕ) (a : Access) → 1 ≤ n → is_good v at n a ≡ true → Lies v at n a
unfolding is_good
good_lies v at n a h g = let p = both_of _ _ (or_right (n == 0) _ (is_some_bytes n h) g) in record { fits = below at n p.0; found = p.1 }

lies_good : (v : View) (at n : ℕ) (a : Access) → Lies v at n a → is_good v at n a ≡ true
unfolding is_good
lies_good v at n a l = or_is (n == 0) _ (both_true _ _ (not_above at n l.fits) l.found)

found_byte : (may : Window → Bool) (ws : List Window) (at n i : ℕ) → i < n → all_found may ws at n ≡ true → all_found may ws (at + i) 1 ≡ true
unfolding all_found
found_byte may ws at zero i h e = absurd (omega arith)
found_byte may ws at (suc n) zero h e =
    let p = both_of _ _ e in
    subst (λ k. (is_found (find_bytes may ws k 1) && true) ≡ true) (sym (add-zero at)) (both_true _ true p.0 refl)
found_byte may ws at (suc n) (suc i) h e =
    let p = both_of _ _ e in
    let next : at + 1 + i ≡ at + suc i = omega arith in
    subst (λ k. all_found may ws k 1 ≡ true) next (found_byte may ws (at + 1) n i (omega (arith, h)) p.1)

found_part : (may : Window → Bool) (ws : List Window) (at n m : ℕ) → m ≤ n → all_found may ws at n ≡ true → all_found may ws at m ≡ true
unfolding all_found
found_part may ws at n zero h e = refl
found_part may ws at zero (suc m) h e = absurd (omega arith)
found_part may ws at (suc n) (suc m) h e = let p = both_of _ _ e in both_true _ _ p.0 (found_part may ws (at + 1) n m (omega (arith, h)) p.1)

-- Each byte of a good buffer is good, and lies below the last address.
pub good_byte : (v : View) (at n i : ℕ) (a : Access) → i < n → is_good v at n a ≡ true → is_good v (at + i) 1 a ≡ true
good_byte v at n i a h g =
    let l = good_lies v at n a (omega (arith, h)) g in
    lies_good v (at + i) 1 a (record { fits = let m = l.fits in omega (arith, m, h); found = found_byte (serves a) v.windows at n i h l.found })

pub byte_fits : (v : View) (at n i : ℕ) (a : Access) → i < n → is_good v at n a ≡ true → at + i < 2 ^ 32
byte_fits v at n i a h g = let l = (good_lies v at n a (omega (arith, h)) g).fits in omega (arith, l, h)

pub none_good : (v : View) (at : ℕ) (a : Access) → is_good v at 0 a ≡ true
unfolding is_good
none_good v at a = refl

-- The first bytes of a good buffer are good.
pub good_part : (v : View) (at n m : ℕ) (a : Access) → m ≤ n → is_good v at n a ≡ true → is_good v at m a ≡ true
good_part v at n zero a h g = none_good v at a
good_part v at n (suc m) a h g =
    let l = good_lies v at n a (omega (arith, h)) g in
    lies_good v at (suc m) a (record { fits = let k = l.fits in omega (arith, k, h); found = found_part (serves a) v.windows at n (suc m) h l.found })

-- The byte that is loaded is the byte that is shown.
loaded : (o : Option (List ℕ)) (cause x : ℕ) → number_or o cause ≡ Ok x → number_of_found o ≡ x
loaded None cause x e = absurd cc
loaded (Some bs) cause x e = cc

pub byte_shown : (v : View) (at x : ℕ) → load_bytes v at 1 ≡ Ok x → shown_byte v at ≡ x
unfolding load_bytes shown_byte
byte_shown v at x e = loaded (find_bytes (λ w. w.reads) v.windows at 1) (if v.is_paged then 13 else 5) x e

shown_next : (v : View) (at i : ℕ) → shown_bytes v at (suc i) ≡ shown_bytes v at i ++ shown_byte v (at + i) ∷ []
unfolding shown_bytes
shown_next v at zero = ap (λ k. shown_byte v k ∷ []) (sym (add-zero at))
shown_next v at (suc i) =
    let next : at + 1 + i ≡ at + suc i = omega arith in
    ap (λ xs. shown_byte v at ∷ xs) (shown_next v (at + 1) i ∙ ap (λ k. shown_bytes v (at + 1) i ++ shown_byte v k ∷ []) next)

pub shown_more : (v : View) (at i : ℕ) → shown_bytes v at (i + 1) ≡ shown_bytes v at i ++ shown_byte v (at + i) ∷ []
shown_more v at i = let n : i + 1 ≡ suc i = omega arith in ap (shown_bytes v at) n ∙ shown_next v at i

pub byte_more : (v : View) (at i x : ℕ) (xs : List ℕ) → xs ≡ shown_bytes v at i → load_bytes v (at + i) 1 ≡ Ok x → xs ++ x ∷ [] ≡ shown_bytes v at (i + 1)
byte_more v at i x xs e l = ap (λ ys. ys ++ x ∷ []) e ∙ ap (λ y. shown_bytes v at i ++ y ∷ []) (sym (byte_shown v (at + i) x l)) ∙ sym (shown_more v at i)

pub none_shown : (v : View) (at : ℕ) → shown_bytes v at 0 ≡ []
unfolding shown_bytes
none_shown v at = refl

-- ---- Texts.

-- The bytes before a text that goes on.
abbrev pub before : List ℕ → Option (List ℕ) → Option (List ℕ)
before xs None = None
before xs (Some ys) = Some (xs ++ ys)

-- What was read of a text at an address, of which at most n bytes are left to look at, is before what follows.
abbrev pub Reads : View → ℕ → ℕ → List ℕ → Option (List ℕ) → Type 0
Reads v at n xs text = text ≡ before xs (good_text v at n)

none_before : (t : Option (List ℕ)) → t ≡ before [] t
none_before None = refl
none_before (Some ys) = refl

pub text_begins : (v : View) (at n m : ℕ) → m ≡ at → Reads v m n [] (good_text v at n)
text_begins v at n m e = subst (λ k. good_text v at n ≡ before [] (good_text v k n)) (sym e) (none_before (good_text v at n))

pub text_over : (v : View) (at n : ℕ) (xs : List ℕ) (text : Option (List ℕ)) → n ≡ 0 → Reads v at n xs text → text ≡ None
unfolding good_text
text_over v at zero xs text e r = r
text_over v at (suc n) xs text e r = absurd (omega (arith, e))

bad_byte : (v : View) (at n : ℕ) → is_good v at 1 Load ≡ false → good_text v at n ≡ None
unfolding good_text
bad_byte v at zero e = refl
bad_byte v at (suc n) e = rw e refl

pub text_bad : (v : View) (at n : ℕ) (xs : List ℕ) (text : Option (List ℕ)) → is_good v at 1 Load ≡ false → Reads v at n xs text → text ≡ None
text_bad v at n xs text e r = r ∙ ap (before xs) (bad_byte v at n e)

beyond : (v : View) (at : ℕ) → 2 ^ 32 ≤ at → is_good v at 1 Load ≡ false
unfolding is_good
beyond v at l = ap (λ b. b && all_found (serves Load) v.windows at 1) (above at 1 (omega (arith, l)))

pub text_beyond : (v : View) (at n : ℕ) (xs : List ℕ) (text : Option (List ℕ)) → 2 ^ 32 ≤ at → Reads v at n xs text → text ≡ None
text_beyond v at n xs text l r = text_bad v at n xs text (beyond v at l) r

zero_byte : (v : View) (at n : ℕ) → 1 ≤ n → is_good v at 1 Load ≡ true → shown_byte v at ≡ 0 → good_text v at n ≡ Some []
unfolding good_text
zero_byte v at zero h g e = absurd (omega arith)
zero_byte v at (suc n) h g e = rw (g, e) refl

pub text_ends : (v : View) (at n : ℕ) (xs : List ℕ) (text : Option (List ℕ)) → 1 ≤ n → is_good v at 1 Load ≡ true → load_bytes v at 1 ≡ Ok 0 → Reads v at n xs text → text ≡ Some xs
text_ends v at n xs text h g l r = r ∙ ap (before xs) (zero_byte v at n h g (byte_shown v at 0 l)) ∙ ap Some (append-nil xs)

not_zero : (x : ℕ) → 1 ≤ x → (x == 0) ≡ false
not_zero x h = is_some_bytes x h

next_byte : (v : View) (at n m x : ℕ) → n ≡ suc m → is_good v at 1 Load ≡ true → shown_byte v at ≡ x → 1 ≤ x → good_text v at n ≡ with_first x (good_text v (at + 1) m)
unfolding good_text
next_byte v at zero m x e g s h = absurd (omega (arith, e))
next_byte v at (suc n) m x e g s h =
    let same : n ≡ m = omega (arith, e) in
    subst (λ k. good_text v at (suc n) ≡ with_first x (good_text v (at + 1) k)) same (rw (g, s, not_zero x h) refl)

first_before : (xs : List ℕ) (x : ℕ) (t : Option (List ℕ)) → before xs (with_first x t) ≡ before (xs ++ x ∷ []) t
first_before xs x None = refl
first_before xs x (Some ys) = ap Some (sym (append_assoc xs (x ∷ []) ys))

pub text_more : (v : View) (at n next m x : ℕ) (xs : List ℕ) (text : Option (List ℕ)) → n ≡ suc m → next ≡ at + 1 → is_good v at 1 Load ≡ true → load_bytes v at 1 ≡ Ok x → 1 ≤ x → Reads v at n xs text → Reads v next m (xs ++ x ∷ []) text
text_more v at n next m x xs text e a g l h r =
    r ∙ ap (before xs) (next_byte v at n m x e g (byte_shown v at x l) h) ∙ first_before xs x (good_text v (at + 1) m)
    ∙ ap (λ k. before (xs ++ x ∷ []) (good_text v k m)) (sym a)

-- ---- Bytes that are put.

stored_first : (v new : View) (at x : ℕ) (xs : List ℕ) → store_bytes v at 1 x ≡ Ok new → with_stored v at (x ∷ xs) ≡ with_stored new (at + 1) xs
unfolding with_stored
stored_first v new at x xs e = ap (λ r. with_stored (stored_or v r) (at + 1) xs) e

stored_next : (v new : View) (at i : ℕ) (xs : List ℕ) → i < length xs → store_bytes v at 1 (get_or xs i 0) ≡ Ok new → with_stored v at (drop i xs) ≡ with_stored new (at + 1) (drop (suc i) xs)
stored_next v new at i [] h e = absurd (omega arith)
stored_next v new at zero (x ∷ xs) h e = stored_first v new at x xs e
stored_next v new at (suc i) (x ∷ xs) h e = stored_next v new at i xs (omega (arith, h)) e

stored_at : (v new : View) (at i : ℕ) (xs : List ℕ) → i < length xs → store_bytes v at 1 (get_or xs i 0) ≡ Ok new → with_stored v at (drop i xs) ≡ with_stored new (at + 1) (drop (i + 1) xs)
stored_at v new at i xs h e = let n : suc i ≡ i + 1 = omega arith in stored_next v new at i xs h e ∙ ap (λ k. with_stored new (at + 1) (drop k xs)) n

pub stored_more : (start v new : View) (low at i : ℕ) (xs : List ℕ) → at ≡ low + i → i < length xs → store_bytes v at 1 (get_or xs i 0) ≡ Ok new →
    with_stored start low xs ≡ with_stored v (low + i) (drop i xs) → with_stored start low xs ≡ with_stored new (low + (i + 1)) (drop (i + 1) xs)
stored_more start v new low at i xs a h e r =
    let next : at + 1 ≡ low + (i + 1) = omega (arith, a) in
    r ∙ ap (λ k. with_stored v k (drop i xs)) (sym a) ∙ stored_at v new at i xs h e ∙ ap (λ k. with_stored new k (drop (i + 1) xs)) next

pub stored_none : (v : View) (at : ℕ) → with_stored v at [] ≡ v
unfolding with_stored
stored_none v at = refl

dropped_all : (xs : List ℕ) (i : ℕ) → length xs ≤ i → drop i xs ≡ []
dropped_all [] zero h = refl
dropped_all [] (suc i) h = refl
dropped_all (x ∷ xs) zero h = absurd (omega arith)
dropped_all (x ∷ xs) (suc i) h = dropped_all xs i (omega (arith, h))

pub stored_over : (v : View) (at i : ℕ) (xs : List ℕ) → length xs ≤ i → with_stored v at (drop i xs) ≡ v
stored_over v at i xs h = ap (with_stored v at) (dropped_all xs i h) ∙ stored_none v at

pub shown_length : (v : View) (at n : ℕ) → length (shown_bytes v at n) ≡ n
unfolding shown_bytes
shown_length v at zero = refl
shown_length v at (suc n) = ap suc (shown_length v (at + 1) n)
