-- The slab and its keys, where one place changes.
use Rattle.std.proofs.Common.{◌≡◌, ◌≢◌, ℕ, zero, suc, ◌+◌, ◌<◌, ◌≤◌, ◌⊎◌, List, [], ◌∷◌, length, map, refl, sym, ap, ◌∙◌, subst, arith, inl, inr, ⊎_elim, get_or}
use Rattle.std.proofs.lemmas.List.{get_or-set_same, get_or-set_other}
use Rattle.std.specs.Prelude.{◌||◌, slice_get, slice_set, Option, Some, None, IsSome, is_none, replicate, OnSome}
use Rattle.std.specs.List.{position_from, list_any}
use Rattle.slab.specs.Slab.{Slab, get, slab_len, Updates, with_value}
use Rattle.nx_ksys.specs.Threads.{flat}
use Rattle.nx_ksys.specs.declared.node.Open.{Open}
use Rattle.nx_ksys.specs.Descriptors.{is_open_file}
use Rattle.nx_group.specs.Places.{keyed, opens_file, seen, free_one, free_places, AreKept}

pub seen_same : (s s' : Slab Open) (keys : List (Option ℕ)) → ((i key : ℕ) → slice_get keys i ≡ Some (Some key) → get s' key ≡ get s key) → seen s' keys ≡ seen s keys
seen_same s s' [] h = refl
seen_same s s' (None ∷ ps) h = ap (λ xs. None ∷ xs) (seen_same s s' ps (λ i key e. h (suc i) key e))
seen_same s s' (Some k ∷ ps) h =
    let e = h 0 k refl in
    let t = seen_same s s' ps (λ i key e. h (suc i) key e) in
    cc

-- all but one place keep what they have
pub seen_set : (s s' : Slab Open) (keys : List (Option ℕ)) (p : ℕ) (x : Option ℕ) (y : Option Open) → p < length keys → ((i key : ℕ) → i ≢ p → slice_get keys i ≡ Some (Some key) → get s' key ≡ get s key) → keyed s' x ≡ y
    → seen s' (slice_set keys p x) ≡ slice_set (seen s keys) p y
seen_set s s' [] p x y l h e = absurd (omega arith)
seen_set s s' (q ∷ ps) zero x y l h e =
    let t = seen_same s s' ps (λ i key f. h (suc i) key (omega arith) f) in
    cc
seen_set s s' (q ∷ ps) (suc p) x y l h e =
    let t = seen_set s s' ps p x y (omega arith) (λ i key ne f. h (suc i) key (λ k. ne (omega arith)) f) e in
    let o = same_at q (λ key f. h 0 key (omega arith) (ap Some f)) in
    cc
  where
    same_at : (o : Option ℕ) → ((key : ℕ) → o ≡ Some key → get s' key ≡ get s key) → keyed s' o ≡ keyed s o
    same_at None g = refl
    same_at (Some key) g = g key refl

-- what stands at a place, once one was set
pub get_set : (xs : List (Option ℕ)) (p i key : ℕ) (v : Option ℕ) → slice_get (slice_set xs p v) i ≡ Some (Some key) → ((i ≡ p) × (v ≡ Some key)) ⊎ ((i ≢ p) × (slice_get xs i ≡ Some (Some key)))
get_set [] p i key v e = absurd cc
get_set (x ∷ xs) zero zero key v e = inl (refl, cc)
get_set (x ∷ xs) zero (suc i) key v e = inr (omega arith, e)
get_set (x ∷ xs) (suc p) zero key v e = inr (omega arith, e)
get_set (x ∷ xs) (suc p) (suc i) key v e = ⊎_elim (λ a. inl (ap suc a.0, a.1)) (λ a. inr ((λ k. a.0 (omega arith)), a.1)) (get_set xs p i key v e)

pub flat_some : (xs : List (Option ℕ)) (p key : ℕ) → flat (slice_get xs p) ≡ Some key → slice_get xs p ≡ Some (Some key)
flat_some [] p key e = absurd cc
flat_some (x ∷ xs) zero key e = ap Some e
flat_some (x ∷ xs) (suc p) key e = flat_some xs p key e

pub below : (xs : List (Option ℕ)) (p : ℕ) (o : Option ℕ) → slice_get xs p ≡ Some o → p < length xs
below [] p o e = absurd cc
below (x ∷ xs) zero o e = omega arith
below (x ∷ xs) (suc p) o e = let l = below xs p o e in omega arith

-- a place that had none has one
pub one_fewer_free : (xs : List (Option ℕ)) (p key : ℕ) → slice_get xs p ≡ Some None → free_places (slice_set xs p (Some key)) + 1 ≡ free_places xs
one_fewer_free [] p key e = absurd cc
one_fewer_free (x ∷ xs) zero key e = let n : free_one x ≡ 1 = ap free_one (let k : x ≡ None = cc in k) in omega arith
one_fewer_free (x ∷ xs) (suc p) key e = let r = one_fewer_free xs p key e in omega arith

-- a place that had one has none
pub one_more_free : (xs : List (Option ℕ)) (p key : ℕ) → slice_get xs p ≡ Some (Some key) → free_places (slice_set xs p None) ≡ free_places xs + 1
one_more_free [] p key e = absurd cc
one_more_free (x ∷ xs) zero key e = let n : free_one x ≡ 0 = ap free_one (let k : x ≡ Some key = cc in k) in omega arith
one_more_free (x ∷ xs) (suc p) key e = let r = one_more_free xs p key e in omega arith

not_none : (o : Option Open) → IsSome o → o ≡ None → ⊥
not_none None s e = absurd cc
not_none (Some x) s e = absurd cc

-- a key that is free is at no place
apart : (s : Slab Open) (keys : List (Option ℕ)) (key : ℕ) → AreKept s keys → get s key ≡ None → (i k : ℕ) → slice_get keys i ≡ Some (Some k) → k ≢ key
apart s keys key h none i k e same = not_none (get s k) (h.there i k e) (ap (get s) same ∙ none)

some_is : (o : Option Open) (x : Open) → o ≡ Some x → IsSome o
some_is None x e = absurd cc
some_is (Some y) x e = refl

pub kept_put : (s s' : Slab Open) (keys : List (Option ℕ)) (p key : ℕ) (description : Open) → AreKept s keys → slice_get keys p ≡ Some None → get s key ≡ None → Updates s s' key (Some description) → slab_len s' ≡ slab_len s + 1 → s'.capacity ≡ s.capacity
    → AreKept s' (slice_set keys p (Some key))
kept_put s s' keys p key description h free none u long cap = record {
  there = λ i k e. ⊎_elim
      (λ a. let same : key ≡ k = cc in subst (λ q. IsSome (get s' q)) same (some_is (get s' key) description u.changed))
      (λ a. subst IsSome (sym (u.others k (apart s keys key h none i k a.1))) (h.there i k a.1))
      (get_set keys p i k (Some key) e);
  once = λ i j k e f. ⊎_elim
      (λ a. ⊎_elim (λ b. a.0 ∙ sym b.0) (λ b. let same : k ≡ key = cc in absurd (apart s keys key h none j k b.1 same)) (get_set keys p j k (Some key) f))
      (λ a. ⊎_elim (λ b. let same : k ≡ key = cc in absurd (apart s keys key h none i k a.1 same)) (λ b. h.once i j k a.1 b.1) (get_set keys p j k (Some key) f))
      (get_set keys p i k (Some key) e);
  room = omega (arith, h.room, long, cap, one_fewer_free keys p key free);
}

pub seen_put : (s s' : Slab Open) (keys : List (Option ℕ)) (p key : ℕ) (description : Open) → AreKept s keys → slice_get keys p ≡ Some None → get s key ≡ None → Updates s s' key (Some description)
    → seen s' (slice_set keys p (Some key)) ≡ slice_set (seen s keys) p (Some description)
seen_put s s' keys p key description h free none u =
    seen_set s s' keys p (Some key) (Some description) (below keys p None free) (λ i k ne e. u.others k (apart s keys key h none i k e)) u.changed

pub kept_take : (s s' : Slab Open) (keys : List (Option ℕ)) (p key : ℕ) → AreKept s keys → slice_get keys p ≡ Some (Some key) → Updates s s' key None → slab_len s' + 1 ≡ slab_len s → s'.capacity ≡ s.capacity
    → AreKept s' (slice_set keys p None)
kept_take s s' keys p key h is u long cap = record {
  there = λ i k e. ⊎_elim (λ a. absurd cc) (λ a. subst IsSome (sym (u.others k (λ same. a.0 (h.once i p k a.1 (is ∙ ap (λ q. Some (Some q)) (sym same)))))) (h.there i k a.1)) (get_set keys p i k None e);
  once = λ i j k e f. ⊎_elim (λ a. absurd cc) (λ a. ⊎_elim (λ b. absurd cc) (λ b. h.once i j k a.1 b.1) (get_set keys p j k None f)) (get_set keys p i k None e);
  room = omega (arith, h.room, long, cap, one_more_free keys p key is);
}

pub seen_take : (s s' : Slab Open) (keys : List (Option ℕ)) (p key : ℕ) → AreKept s keys → slice_get keys p ≡ Some (Some key) → Updates s s' key None
    → seen s' (slice_set keys p None) ≡ slice_set (seen s keys) p None
seen_take s s' keys p key h is u =
    seen_set s s' keys p None None (below keys p (Some key) is) (λ i k ne e. u.others k (λ same. ne (h.once i p k e (is ∙ ap (λ q. Some (Some q)) (sym same))))) refl

-- the first free place
pub free_seen : (s : Slab Open) (keys : List (Option ℕ)) (n : ℕ) → ((i key : ℕ) → slice_get keys i ≡ Some (Some key) → IsSome (get s key)) → position_from is_none n (seen s keys) ≡ position_from is_none n keys
free_seen s [] n h = refl
free_seen s (None ∷ ps) n h = refl
free_seen s (Some k ∷ ps) n h = on (get s k) (h 0 k refl) (free_seen s ps (n + 1) (λ i key e. h (suc i) key e))
  where
    on : (o : Option Open) → IsSome o → position_from is_none (n + 1) (seen s ps) ≡ position_from is_none (n + 1) ps → position_from is_none n (o ∷ seen s ps) ≡ position_from is_none n (Some k ∷ ps)
    on None some e = absurd cc
    on (Some x) some e = e

pub on_some : (r : Option Open) (P : Type 0) → IsSome r → OnSome r P → P
on_some None P s h = absurd cc
on_some (Some x) P s h = h

none_at : (n i key : ℕ) → slice_get (replicate n None) i ≡ Some (Some key) → ⊥
none_at zero i key e = absurd cc
none_at (suc n) zero key e = absurd cc
none_at (suc n) (suc i) key e = none_at n i key e

frees_none : (n : ℕ) → free_places (replicate n None) ≡ n
frees_none zero = refl
frees_none (suc n) = let r = frees_none n in omega arith

pub kept_none : (s : Slab Open) (keys : List (Option ℕ)) (n : ℕ) → keys ≡ replicate n None → slab_len s + n ≤ s.capacity → AreKept s keys
kept_none s keys n e l = rw e (record {
  there = λ i key f. absurd (none_at n i key f);
  once = λ i j key f g. absurd (none_at n i key f);
  room = omega (arith, l, frees_none n);
})

nones : (f : Option ℕ → Option Open) (n : ℕ) → f None ≡ None → map f (replicate n None) ≡ replicate n None
nones f zero e = refl
nones f (suc n) e = let t = nones f n e in cc

pub seen_none : (f : Option ℕ → Option Open) (keys : List (Option ℕ)) (n : ℕ) → keys ≡ replicate n None → f None ≡ None → map f keys ≡ replicate n None
seen_none f keys n e z = ap (map f) e ∙ nones f n z

pub seen_free : (s : Slab Open) (keys : List (Option ℕ)) (p : ℕ) → ((i key : ℕ) → slice_get keys i ≡ Some (Some key) → IsSome (get s key)) → slice_get (seen s keys) p ≡ Some None → slice_get keys p ≡ Some None
seen_free s [] p h e = absurd cc
seen_free s (None ∷ ps) zero h e = refl
seen_free s (Some k ∷ ps) zero h e = absurd (not_none (get s k) (h 0 k refl) (let r : get s k ≡ None = cc in r))
seen_free s (None ∷ ps) (suc p) h e = seen_free s ps p (λ i key f. h (suc i) key f) e
seen_free s (Some k ∷ ps) (suc p) h e = seen_free s ps p (λ i key f. h (suc i) key f) e

has_below : (xs : List (Option Open)) (key : ℕ) (x : Open) → get_or xs key None ≡ Some x → key < length xs
has_below [] key x e = absurd cc
has_below (y ∷ ys) zero x e = omega arith
has_below (y ∷ ys) (suc key) x e = let l = has_below ys key x e in omega arith

some_has : (o : Option Open) → IsSome o → (x : Open) × (o ≡ Some x)
some_has None s = absurd cc
some_has (Some x) s = (x, refl)

set_same : (xs : List (Option ℕ)) (p : ℕ) (v : Option ℕ) → slice_get xs p ≡ Some v → slice_set xs p v ≡ xs
set_same [] p v e = absurd cc
set_same (x ∷ xs) zero v e = let h : x ≡ v = cc in ap (λ q. q ∷ xs) (sym h)
set_same (x ∷ xs) (suc p) v e = ap (λ q. x ∷ q) (set_same xs p v e)

-- another value after a key
pub seen_write : (s : Slab Open) (keys : List (Option ℕ)) (p key : ℕ) (v : Open) → AreKept s keys → slice_get keys p ≡ Some (Some key) → seen (with_value s key v) keys ≡ slice_set (seen s keys) p (Some v)
seen_write s keys p key v h is =
    let has = some_has (get s key) (h.there p key is) in
    let l = has_below s.slots key has.0 has.1 in
    ap (seen (with_value s key v)) (sym (set_same keys p (Some key) is))
    ∙ seen_set s (with_value s key v) keys p (Some key) (Some v) (below keys p (Some key) is)
    (λ i k ne e. get_or-set_other s.slots key k (Some v) None (λ same. ne (h.once i p k e (is ∙ ap (λ q. Some (Some q)) (sym same)))))
    (get_or-set_same s.slots key (Some v) None l)

pub no_value : (s : Slab Open) (keys : List (Option ℕ)) (p key : ℕ) → AreKept s keys → slice_get keys p ≡ Some (Some key) → get s key ≡ None → ⊥
no_value s keys p key h is e = not_none (get s key) (h.there p key is) e

pub any_seen : (place : ℕ) (s : Slab Open) (keys : List (Option ℕ)) → list_any (opens_file place s) keys ≡ list_any (is_open_file place) (seen s keys)
any_seen place s [] = refl
any_seen place s (k ∷ ks) = ap (λ b. opens_file place s k || b) (any_seen place s ks)
