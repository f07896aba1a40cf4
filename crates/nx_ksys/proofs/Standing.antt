-- What stands where in lists under changes, and what searches find in them.
use Rattle.std.proofs.lemmas.Bool.{cases_eq}
use Rattle.std.proofs.Common.{inl, inr, ⊎_elim, ◌⊎◌, length-take, take, ◌≤◌, ◌≡◌, ◌≢◌, ℕ, zero, suc, ◌+◌, ◌<◌, ◌==◌, Bool, true, false, List, [], ◌∷◌, length, map, Option, Some, None, refl, sym, ap, ◌∙◌, subst, arith}
use Rattle.std.specs.Prelude.{slice_get, slice_set, cond, if◌then◌else◌}
use Rattle.std.specs.List.{find, position_from}
use Rattle.std.specs.Option.{is_none, option_map}
use Rattle.std.proofs.lemmas.Bool.Decides.{nat_tests}
use Rattle.nx_ksys.specs.declared.thread.Thread.{Thread}
use Rattle.nx_ksys.specs.Threads.{flat, better, best_step, best_from}
use Rattle.nx_ksys.specs.Soundness.{Stands}

-- options that show the same values are the same
pub same_option : {A : Type 0} (o p : Option A) → ((x : A) → o ≡ Some x → p ≡ Some x) → ((x : A) → p ≡ Some x → o ≡ Some x) → o ≡ p
same_option None None f g = refl
same_option None (Some y) f g = g y refl
same_option (Some x) p f g = sym (f x refl)

pub some_same : {A : Type 0} (x y : A) → Some x ≡ Some y → x ≡ y
some_same x y e = cc

pub none_some : {A : Type 0} (x : A) → None ≡ Some x → ⊥
none_some x e = cc

pub off_on : (b : Bool) → b ≡ false → b ≡ true → ⊥
off_on b e f = cc

-- ---- changes

pub map_stood : {A B : Type 0} (f : A → B) (xs : List A) (p : ℕ) (y : B) → slice_get (map f xs) p ≡ Some y → (x : A) × (slice_get xs p ≡ Some x) × (f x ≡ y)
map_stood f [] p y h = absurd (none_some y h)
map_stood f (x ∷ xs) zero y h = (x, refl, some_same (f x) y h)
map_stood f (x ∷ xs) (suc p) y h = map_stood f xs p y h

pub map_stands : {A B : Type 0} (f : A → B) (xs : List A) (p : ℕ) (x : A) → slice_get xs p ≡ Some x → slice_get (map f xs) p ≡ Some (f x)
map_stands f [] p x h = absurd (none_some x h)
map_stands f (y ∷ xs) zero x h = ap (λ z. Some (f z)) (some_same y x h)
map_stands f (y ∷ xs) (suc p) x h = map_stands f xs p x h

pub set_same : {A : Type 0} (xs : List A) (p : ℕ) (x : A) → p < length xs → slice_get (slice_set xs p x) p ≡ Some x
set_same [] p x lt = absurd (omega (arith, lt))
set_same (y ∷ xs) zero x lt = refl
set_same (y ∷ xs) (suc p) x lt = set_same xs p x (omega (arith, lt))

pub set_other : {A : Type 0} (xs : List A) (p q : ℕ) (x : A) → q ≢ p → slice_get (slice_set xs p x) q ≡ slice_get xs q
set_other [] p q x ne = refl
set_other (y ∷ xs) zero zero x ne = absurd (ne refl)
set_other (y ∷ xs) zero (suc q) x ne = refl
set_other (y ∷ xs) (suc p) zero x ne = refl
set_other (y ∷ xs) (suc p) (suc q) x ne = set_other xs p q x (λ e. ne (ap suc e))

pub within : {A : Type 0} (xs : List A) (p : ℕ) (x : A) → slice_get xs p ≡ Some x → p < length xs
within [] p x h = absurd (none_some x h)
within (y ∷ xs) zero x h = omega arith
within (y ∷ xs) (suc p) x h = let l = within xs p x h in omega (arith, l)

-- what a list with a new one at a place has
pub set_stood : {A : Type 0} (xs : List (Option A)) (p q : ℕ) (new y : A) → p < length xs → Stands (slice_set xs p (Some new)) q y → ((q ≡ p) × (y ≡ new)) ⊎ ((q ≢ p) × Stands xs q y)
set_stood xs p q new y lt h = ⊎_elim
    (λ e. let z : Some (Some y) ≡ Some (Some new) = sym h ∙ ap (slice_get (slice_set xs p (Some new))) e ∙ set_same xs p (Some new) lt in inl (e, some_same y new (some_same (Some y) (Some new) z)))
    (λ ne. inr (ne, sym (set_other xs p q (Some new) ne) ∙ h)) (cases_eq q p)

-- ---- searches

-- the first that passes, with its place
pub record IsFirst {A : Type 0} (test : A → Bool) (xs : List A) (x : A) : Type 0 where
  pub place : ℕ
  pub at : slice_get xs place ≡ Some x
  pub passes : test x ≡ true
  pub found : find test xs ≡ Some x
  pub position : (b : ℕ) → position_from test b xs ≡ Some (b + place)

pub first_passing : {A : Type 0} (test : A → Bool) (xs : List A) (p : ℕ) (y : A) → slice_get xs p ≡ Some y → test y ≡ true → (x : A) × IsFirst test xs x
first_passing test [] p y h t = absurd (none_some y h)
first_passing {A} test (z ∷ xs) p y h t = by_test (test z) refl (λ n q. first_passing test xs n y q t)
  where
    later : test z ≡ false → ((n : ℕ) → slice_get xs n ≡ Some y → (x : A) × IsFirst test xs x) → (n : ℕ) → slice_get (z ∷ xs) n ≡ Some y → (x : A) × IsFirst test (z ∷ xs) x
    later e more zero q = absurd (off_on (test z) e (ap test (some_same z y q) ∙ t))
    later e more (suc n) q =
        let r = more n q in
        let f = r.1 in (
          r.0,
          record {
            place = suc f.place;
            at = f.at;
            passes = f.passes;
            found = ap (λ b. cond b (Some z) (find test xs)) e ∙ f.found;
            position = λ b. ap (λ c. cond c (Some b) (position_from test (b + 1) xs)) e ∙ f.position (b + 1) ∙ ap Some (omega arith);
          },
        )

    by_test : (b : Bool) → test z ≡ b → ((n : ℕ) → slice_get xs n ≡ Some y → (x : A) × IsFirst test xs x) → (x : A) × IsFirst test (z ∷ xs) x
    by_test true e more = (
      z,
      record {
        place = 0;
        at = refl;
        passes = e;
        found = ap (λ b. cond b (Some z) (find test xs)) e;
        position = λ b. ap (λ c. cond c (Some b) (position_from test (b + 1) xs)) e ∙ ap Some (omega arith);
      },
    )
    by_test false e more = later e more p h

pub first_found : {A : Type 0} (test : A → Bool) (xs : List A) (x : A) → find test xs ≡ Some x → IsFirst test xs x
first_found test [] x h = absurd (none_some x h)
first_found {A} test (z ∷ xs) x h = by_test (test z) refl (λ q. first_found test xs x q)
  where
    by_test : (b : Bool) → test z ≡ b → (find test xs ≡ Some x → IsFirst test xs x) → IsFirst test (z ∷ xs) x
    by_test true e more =
        let q : z ≡ x = some_same z x (sym (ap (λ b. cond b (Some z) (find test xs)) e) ∙ h) in
        record {
          place = 0;
          at = ap Some q;
          passes = ap test (sym q) ∙ e;
          found = h;
          position = λ b. ap (λ c. cond c (Some b) (position_from test (b + 1) xs)) e ∙ ap Some (omega arith);
        }
    by_test false e more =
        let f = more (sym (ap (λ b. cond b (Some z) (find test xs)) e) ∙ h) in
        record {
          place = suc f.place;
          at = f.at;
          passes = f.passes;
          found = h;
          position = λ b. ap (λ c. cond c (Some b) (position_from test (b + 1) xs)) e ∙ f.position (b + 1) ∙ ap Some (omega arith);
        }

-- where a search for a place stops
pub record IsPlace {A : Type 0} (test : A → Bool) (xs : List A) (b p : ℕ) : Type 0 where
  pub place : ℕ
  pub item : A
  pub is : p ≡ b + place
  pub at : slice_get xs place ≡ Some item
  pub passes : test item ≡ true

pub place_found : {A : Type 0} (test : A → Bool) (xs : List A) (b p : ℕ) → position_from test b xs ≡ Some p → IsPlace test xs b p
place_found test [] b p h = absurd (none_some p h)
place_found {A} test (z ∷ xs) b p h = by_test (test z) refl (λ q. place_found test xs (b + 1) p q)
  where
    by_test : (c : Bool) → test z ≡ c → (position_from test (b + 1) xs ≡ Some p → IsPlace test xs (b + 1) p) → IsPlace test (z ∷ xs) b p
    by_test true e more =
        let q : b ≡ p = some_same b p (sym (ap (λ c. cond c (Some b) (position_from test (b + 1) xs)) e) ∙ h) in
        record { place = 0; item = z; is = omega (arith, q); at = refl; passes = e }
    by_test false e more =
        let f = more (sym (ap (λ c. cond c (Some b) (position_from test (b + 1) xs)) e) ∙ h) in
        let i = f.is in
        record { place = suc f.place; item = f.item; is = omega (arith, i); at = f.at; passes = f.passes }

pub free_place : {A : Type 0} (xs : List (Option A)) (p : ℕ) → position_from is_none 0 xs ≡ Some p → slice_get xs p ≡ Some None
free_place {A} xs p h = by_item f.item f.at f.passes
  where
    f : IsPlace is_none xs 0 p
    f = place_found is_none xs 0 p h

    same : f.place ≡ p
    same = let i = f.is in omega (arith, i)

    by_item : (o : Option A) → slice_get xs f.place ≡ Some o → is_none o ≡ true → slice_get xs p ≡ Some None
    by_item None a t = ap (slice_get xs) (sym same) ∙ a
    by_item (Some x) a t = absurd cc

-- one that stands at a place and passes a test
pub record IsFoundAt {A : Type 0} (test : Option A → Bool) (xs : List (Option A)) (x : A) : Type 0 where
  pub place : ℕ
  pub stands : Stands xs place x
  pub passes : test (Some x) ≡ true
  pub position : position_from test 0 xs ≡ Some place

pub flat_some : {A : Type 0} (o : Option (Option A)) (x : A) → flat o ≡ Some x → o ≡ Some (Some x)
flat_some None x h = absurd (none_some x h)
flat_some (Some o) x h = ap Some h

pub found_at : {A : Type 0} (test : Option A → Bool) (xs : List (Option A)) (x : A) → flat (find test xs) ≡ Some x → IsFoundAt test xs x
found_at test xs x h =
    let f = first_found test xs (Some x) (flat_some (find test xs) x h) in
    record { place = f.place; stands = f.at; passes = f.passes; position = f.position 0 ∙ ap Some (omega arith) }

-- who alone passes a test is found, at its place
pub only_found : {A : Type 0} (test : Option A → Bool) (xs : List (Option A)) (p : ℕ) (x : A) → test None ≡ false → Stands xs p x → test (Some x) ≡ true → ((q : ℕ) (y : A) → Stands xs q y → test (Some y) ≡ true → q ≡ p) → (flat (find test xs) ≡ Some x) × (position_from test 0 xs ≡ Some p)
only_found {A} test xs p x none s t only = by_item r.0 r.1.at r.1.passes r.1.found
  where
    r : (y : Option A) × IsFirst test xs y
    r = first_passing test xs p (Some x) s t

    by_item : (o : Option A) → slice_get xs r.1.place ≡ Some o → test o ≡ true → find test xs ≡ Some o → (flat (find test xs) ≡ Some x) × (position_from test 0 xs ≡ Some p)
    by_item None a b f = absurd (off_on (test None) none b)
    by_item (Some y) a b f =
        let e : r.1.place ≡ p = only r.1.place y a b in
        let same : Some (Some y) ≡ Some (Some x) = sym a ∙ ap (slice_get xs) e ∙ s in
        (ap flat f ∙ some_same (Some y) (Some x) same, r.1.position 0 ∙ ap Some (omega (arith, e)))

-- the best of a sort stands somewhere, and is of that sort
pub best_has : (test : Thread → Bool) (before : Thread → Thread → Bool) (Q : Thread → Type 0) (best : Option Thread) (ts : List (Option Thread)) → ((t : Thread) → best ≡ Some t → Q t) → ((p : ℕ) (t : Thread) → Stands ts p t → test t ≡ true → Q t) → (t : Thread) → best_from test before best ts ≡ Some t → Q t
best_has test before Q best [] hb ht t e = hb t e
best_has test before Q best (o ∷ ts) hb ht t e = best_has test before Q (best_step test before best o) ts (by_item o refl) (λ p u f g. ht (suc p) u f g) t e
  where
    by_better : (v : Thread) → Q v → (b : Option Thread) → best ≡ b → (u : Thread) → better before v b ≡ Some u → Q u
    by_better v q None e u f = subst Q (some_same v u f) q
    by_better v q (Some w) e u f = by_before (before v w) f
      where
        by_before : (c : Bool) → (if c then Some v else Some w) ≡ Some u → Q u
        by_before true g = subst Q (some_same v u g) q
        by_before false g = hb u (e ∙ g)

    by_test : (v : Thread) → o ≡ Some v → (c : Bool) → test v ≡ c → (u : Thread) → (if c then better before v best else best) ≡ Some u → Q u
    by_test v e true p u f = by_better v (ht 0 v (ap Some e) p) best refl u f
    by_test v e false p u f = hb u f

    by_item : (r : Option Thread) → o ≡ r → (u : Thread) → best_step test before best r ≡ Some u → Q u
    by_item None e u f = hb u f
    by_item (Some v) e u f = by_test v e (test v) refl u f

-- ---- a search after a change that keeps what it tests

pub find_map : {A : Type 0} (f : A → A) (test : A → Bool) → ((x : A) → test (f x) ≡ test x) → (xs : List A) → find test (map f xs) ≡ option_map f (find test xs)
find_map f test same [] = refl
find_map {A} f test same (x ∷ xs) = ap (λ b. cond b (Some (f x)) (find test (map f xs))) (same x) ∙ by_test (test x) (find_map f test same xs)
  where
    by_test : (b : Bool) → find test (map f xs) ≡ option_map f (find test xs) → cond b (Some (f x)) (find test (map f xs)) ≡ option_map f (cond b (Some x) (find test xs))
    by_test true e = refl
    by_test false e = e

pub position_map : {A : Type 0} (f : A → A) (test : A → Bool) → ((x : A) → test (f x) ≡ test x) → (b : ℕ) (xs : List A) → position_from test b (map f xs) ≡ position_from test b xs
position_map f test same b [] = refl
position_map {A} f test same b (x ∷ xs) = ap (λ c. cond c (Some b) (position_from test (b + 1) (map f xs))) (same x) ∙ ap (λ o. cond (test x) (Some b) o) (position_map f test same (b + 1) xs)

pub length_map : {A B : Type 0} (f : A → B) (xs : List A) → length (map f xs) ≡ length xs
length_map f [] = refl
length_map f (x ∷ xs) = ap suc (length_map f xs)

pub length_set : {A : Type 0} (xs : List A) (p : ℕ) (x : A) → length (slice_set xs p x) ≡ length xs
length_set [] p x = refl
length_set (y ∷ xs) zero x = refl
length_set (y ∷ xs) (suc p) x = ap suc (length_set xs p x)

pub take_short : {A : Type 0} (n : ℕ) (xs : List A) → length (take n xs) ≤ n
take_short n xs = let e = length-take n xs in omega (arith, e)

-- tests of numbers
pub eq_from : (a b : ℕ) → (a == b) ≡ true → a ≡ b
eq_from a b h = grind (arith, nat_tests)

pub eq_to : (a b : ℕ) → a ≡ b → (a == b) ≡ true
eq_to a b h = grind (arith, nat_tests)

pub ne_from : (a b : ℕ) → (a == b) ≡ false → a ≢ b
ne_from a b h e = grind (arith, nat_tests)

pub ne_to : (a b : ℕ) → a ≢ b → (a == b) ≡ false
ne_to a b h = grind (arith, nat_tests)
