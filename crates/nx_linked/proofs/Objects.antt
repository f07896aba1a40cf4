-- Objects after one is set, or one more is made.
use Rattle.std.proofs.Common.{◌≡◌, ◌≢◌, ℕ, zero, suc, ◌<◌, ◌≤◌, List, [], ◌∷◌, ◌++◌, length, refl, arith, length-append}
use Rattle.std.specs.Prelude.{slice_set, get_or}
use Rattle.std.proofs.lemmas.List.{get_or-set_same, get_or-set_other, get_or_append_left, get_or_at}
use Rattle.nx_slot.specs.Objects.{Object, object_of, no_object}

pub set_object : (os : List Object) (o : ℕ) (x : Object) → o < length os → object_of (slice_set os o x) o ≡ x
unfolding object_of
set_object os o x h = get_or-set_same os o x no_object h

pub set_object_other : (os : List Object) (o q : ℕ) (x : Object) → q ≢ o → object_of (slice_set os o x) q ≡ object_of os q
unfolding object_of
set_object_other os o q x h = get_or-set_other os o q x no_object h

pub more_object_old : (os : List Object) (x : Object) (o : ℕ) → o < length os → object_of (os ++ x ∷ []) o ≡ object_of os o
unfolding object_of
more_object_old os x o h = get_or_append_left os (x ∷ []) no_object o h

pub more_object_new : (os : List Object) (x : Object) → object_of (os ++ x ∷ []) (length os) ≡ x
unfolding object_of
more_object_new os x = get_or_at os x [] no_object (length os) refl

pub past_end : {A : Type 0} (xs : List A) (d : A) (i : ℕ) → length xs ≤ i → get_or xs i d ≡ d
past_end [] d i h = refl
past_end (x ∷ xs) d zero h = absurd (omega (arith, h))
past_end (x ∷ xs) d (suc i) h = past_end xs d i (omega (arith, h))

pub more_object_past : (os : List Object) (x : Object) (o : ℕ) → length os < o → object_of (os ++ x ∷ []) o ≡ no_object
unfolding object_of
more_object_past os x o h = past_end (os ++ x ∷ []) no_object o (let l = length-append os (x ∷ []) in omega (arith, l, h))
