-- Objects after the arrays of a call are over.
use Rattle.std.proofs.Common.{◌≡◌, ◌≢◌, ℕ, zero, suc, ◌<◌, ◌≤◌, ◌⊎◌, inl, inr, List, [], ◌∷◌, length, refl, sym, ap, ◌∙◌, arith, ⊎_elim}
use Rattle.std.specs.Prelude.{slice_set, get_or}
use Rattle.std.proofs.lemmas.Bool.{cases_eq, cases_lt}
use Rattle.std.proofs.lemmas.List.{length-set, get_or-set_same}
use Rattle.nx_slot.specs.Objects.{Object, object_of, no_object, ended}
use Rattle.nx_slot.specs.Meaning.{without}
use Rattle.nx_linked.specs.Meant.{size_of}
use Rattle.nx_linked.proofs.Objects.{set_object_other, past_end}

set_past : {A : Type 0} (xs : List A) (i : ℕ) (x : A) → length xs ≤ i → slice_set xs i x ≡ xs
set_past [] i x h = refl
set_past (y ∷ xs) zero x h = absurd (omega (arith, h))
set_past (y ∷ xs) (suc i) x h = ap (λ l. y ∷ l) (set_past xs i x (omega (arith, h)))

-- One object is over.
one_over : (os : List Object) (name : ℕ) → object_of (slice_set os name (ended (object_of os name))) name ≡ ended (object_of os name)
unfolding object_of
one_over os name = ⊎_elim
    (λ h. get_or-set_same os name (ended (get_or os name no_object)) no_object h)
    (λ h. let e = past_end os no_object name h in ap (λ l. get_or l name no_object) (set_past os name _ h) ∙ e ∙ sym (ap ended e))
    (cases_lt name (length os))

pub without_length : (names : List ℕ) (os : List Object) → length (without names os) ≡ length os
without_length [] os = refl
without_length (name ∷ names) os = without_length names _ ∙ length-set os name (ended (object_of os name))

-- An object stays as it is, or is over; one that is named is over.
data Fate (names : List ℕ) (o : ℕ) (x y : Object) : Type 0 where
  stays : ((j : ℕ) → j < length names → get_or names j 0 ≢ o) → y ≡ x → Fate names o x y
  goes : y ≡ ended x → Fate names o x y

fate : (names : List ℕ) (os : List Object) (o : ℕ) → Fate names o (object_of os o) (object_of (without names os) o)
fate [] os o = stays (λ j h. absurd (omega (arith, h))) refl
fate (name ∷ names) os o = by_first (cases_eq o name) (fate names (slice_set os name (ended (object_of os name))) o)
  where
    os1 : List Object
    os1 = slice_set os name (ended (object_of os name))

    away : o ≢ name → ((j : ℕ) → j < length names → get_or names j 0 ≢ o) → (j : ℕ) → j < length (name ∷ names) → get_or (name ∷ names) j 0 ≢ o
    away q n zero h e = q (sym e)
    away q n (suc j) h e = n j (omega (arith, h)) e

    by_first : (o ≡ name) ⊎ (o ≢ name) → Fate names o (object_of os1 o) (object_of (without names os1) o) → Fate (name ∷ names) o (object_of os o) (object_of (without names os1) o)
    by_first (inl q) (stays n e) = goes (e ∙ ap (object_of os1) q ∙ one_over os name ∙ ap (λ k. ended (object_of os k)) (sym q))
    by_first (inl q) (goes e) = goes (e ∙ ap ended (ap (object_of os1) q ∙ one_over os name ∙ ap (λ k. ended (object_of os k)) (sym q)))
    by_first (inr q) (stays n e) = stays (away q n) (e ∙ set_object_other os name o _ q)
    by_first (inr q) (goes e) = goes (e ∙ ap ended (set_object_other os name o _ q))

-- What is left of an object was of it.
pub record Survives (names : List ℕ) (os : List Object) (o : ℕ) : Type 0 where
  pub same : object_of (without names os) o ≡ object_of os o
  pub unnamed : (j : ℕ) → j < length names → get_or names j 0 ≢ o

pub survives : (names : List ℕ) (os : List Object) (o : ℕ) → 1 ≤ size_of (without names os) o → Survives names os o
survives names os o h = by_fate (fate names os o) h
  where
    by_fate : Fate names o (object_of os o) (object_of (without names os) o) → 1 ≤ size_of (without names os) o → Survives names os o
    by_fate (stays n e) h = record { same = e; unnamed = n }
    by_fate (goes e) h = absurd (let z = ap (λ (x : Object). length x.bytes) e in omega (arith, z, h))

pub width_stays : (names : List ℕ) (os : List Object) (o : ℕ) → (object_of (without names os) o).width ≡ (object_of os o).width
width_stays names os o = by_fate (fate names os o)
  where
    by_fate : Fate names o (object_of os o) (object_of (without names os) o) → (object_of (without names os) o).width ≡ (object_of os o).width
    by_fate (stays n e) = ap (λ (x : Object). x.width) e
    by_fate (goes e) = ap (λ (x : Object). x.width) e

pub unnamed_stays : (names : List ℕ) (os : List Object) (o : ℕ) → ((j : ℕ) → j < length names → get_or names j 0 ≢ o) → object_of (without names os) o ≡ object_of os o
unnamed_stays [] os o h = refl
unnamed_stays (name ∷ names) os o h = unnamed_stays names _ o (λ j k. h (suc j) (omega (arith, k))) ∙ set_object_other os name o _ (λ q. h 0 (omega arith) (sym q))
