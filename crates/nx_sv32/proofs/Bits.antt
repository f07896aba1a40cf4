-- The bits of an entry, as tests and as facts.
use Rattle.std.proofs.Common.{◌≡◌, ℕ, ◌/◌, ◌%◌, Bool, true, false, ◌&&◌, ◌||◌, not, refl, ap, ◌∙◌, arith, eq-eqb}
use Rattle.std.proofs.lemmas.Bool.Decides.{nat_tests}
use Rattle.nx_base.specs.declared.access.Access.{Access}
use Rattle.nx_base.specs.declared.access.Access.TheVariants.{Fetch, Load, Store}
use Rattle.nx_sv32.specs.Entries.{has, is_refused, is_leaf, is_pointer, has_right, permits}
use Rattle.nx_sv32.specs.Translation.{IsSet, IsClear, PointsToTable, HasRight, IsPermittedBy}

pub and_true : (a b : Bool) → (a && b) ≡ true → (a ≡ true) × (b ≡ true)
and_true true b e = (refl, e)
and_true false b e = absurd cc

or_false : (a b : Bool) → (a || b) ≡ false → (a ≡ false) × (b ≡ false)
or_false true b e = absurd cc
or_false false b e = (refl, e)

not_true : (a : Bool) → not a ≡ true → a ≡ false
not_true true e = absurd cc
not_true false e = refl

not_false : (a : Bool) → not a ≡ false → a ≡ true
not_false true e = refl
not_false false e = absurd cc

-- a test that doesn't hold with another fails it
only_with : (a b : Bool) → (a && not b) ≡ false → a ≡ true → b ≡ true
only_with true b e h = not_false b e
only_with false b e h = absurd cc

never_without : (a b : Bool) → (a && not b) ≡ false → b ≡ false → a ≡ false
never_without true true e h = absurd cc
never_without true false e h = absurd cc
never_without false b e h = refl

has_set : (e w : ℕ) → has e w ≡ true → IsSet e w
unfolding has
has_set e w h = grind (arith, nat_tests)

has_clear : (e w : ℕ) → has e w ≡ false → IsClear e w
unfolding has
has_clear e w h = grind (arith, nat_tests)

set_has : (e w : ℕ) → IsSet e w → has e w ≡ true
unfolding has
set_has e w h = eq-eqb (e / w % 2) 1 h

clear_has : (e w : ℕ) → IsClear e w → has e w ≡ false
unfolding has
clear_has e w h = grind (arith, nat_tests)

-- an entry that is not refused is valid, and is written only where it is read
kept : (e : ℕ) → is_refused e ≡ false → (has e 1 ≡ true) × ((has e 4 && not (has e 2)) ≡ false)
unfolding is_refused
kept e h = let r = or_false (not (has e 1)) (has e 4 && not (has e 2)) h in (not_false (has e 1) r.0, r.1)

right_is : (e : ℕ) (access : Access) → (has e 4 && not (has e 2)) ≡ false → has_right e access ≡ true → HasRight e access
unfolding has_right
right_is e Fetch k h = (has_set e 8 h, λ w. has_set e 2 (only_with (has e 4) (has e 2) k (set_has e 4 w)))
right_is e Load k h = has_set e 2 h
right_is e Store k h =
    let r = and_true (has e 4) (has e 128) h in
    (has_set e 2 (only_with (has e 4) (has e 2) k r.0), has_set e 4 r.0, has_set e 128 r.1)

pub permitted_is : (e : ℕ) (access : Access) → is_refused e ≡ false → permits e access ≡ true → IsPermittedBy e access
unfolding permits
permitted_is e access r h =
    let k = kept e r in
    let a = and_true (has e 16 && has_right e access) (has e 64) h in
    let b = and_true (has e 16) (has_right e access) a.0 in
    record { valid = has_set e 1 k.0; user = has_set e 16 b.0; accessed = has_set e 64 a.1; right = right_is e access k.1 b.1 }

pub pointer_is : (e : ℕ) → is_refused e ≡ false → is_leaf e ≡ false → is_pointer e ≡ true → PointsToTable e
unfolding is_leaf is_pointer
pointer_is e r l p =
    let k = kept e r in
    let m = or_false (has e 2) (has e 8) l in
    let a = and_true (not (has e 16) && not (has e 64)) (not (has e 128)) p in
    let b = and_true (not (has e 16)) (not (has e 64)) a.0 in
    record {
      valid = has_set e 1 k.0;
      not_read = has_clear e 2 m.0;
      not_written = has_clear e 4 (never_without (has e 4) (has e 2) k.1 m.0);
      not_executed = has_clear e 8 m.1;
      not_user = has_clear e 16 (not_true (has e 16) b.0);
      not_accessed = has_clear e 64 (not_true (has e 64) b.1);
      not_dirty = has_clear e 128 (not_true (has e 128) a.1);
    }

-- the tests of a valid entry whose bits are known
unrefused : (e : ℕ) → has e 1 ≡ true → (has e 4 && not (has e 2)) ≡ false → is_refused e ≡ false
unfolding is_refused
unrefused e v w = ap (λ b. not b || (has e 4 && not (has e 2))) v ∙ w

leaf_read : (e : ℕ) → has e 2 ≡ true → is_leaf e ≡ true
unfolding is_leaf
leaf_read e h = ap (λ b. b || has e 8) h

or_true : (a : Bool) → (a || true) ≡ true
or_true true = refl
or_true false = refl

leaf_run : (e : ℕ) → has e 8 ≡ true → is_leaf e ≡ true
unfolding is_leaf
leaf_run e h = ap (λ b. has e 2 || b) h ∙ or_true (has e 2)

and_false : (a : Bool) → (a && false) ≡ false
and_false true = refl
and_false false = refl

readable : (e : ℕ) → has e 2 ≡ true → (has e 4 && not (has e 2)) ≡ false
readable e h = ap (λ b. has e 4 && not b) h ∙ and_false (has e 4)

written_readable : (a b : Bool) → (a ≡ true → b ≡ true) → (a && not b) ≡ false
written_readable true b h = ap not (h refl)
written_readable false b h = refl

pub is_granted : (e : ℕ) (access : Access) → IsPermittedBy e access → (is_refused e ≡ false) × (is_leaf e ≡ true) × (permits e access ≡ true)
unfolding permits has_right
is_granted e Fetch p =
    let u = set_has e 16 p.user in
    let x = set_has e 8 p.right.0 in
    let a = set_has e 64 p.accessed in
    (unrefused e (set_has e 1 p.valid) (written_readable (has e 4) (has e 2) (λ w. set_has e 2 (p.right.1 (has_set e 4 w)))), leaf_run e x, ap (λ b. b && has e 8 && has e 64) u ∙ ap (λ b. b && has e 64) x ∙ a)
is_granted e Load p =
    let u = set_has e 16 p.user in
    let r = set_has e 2 p.right in
    let a = set_has e 64 p.accessed in
    (unrefused e (set_has e 1 p.valid) (readable e r), leaf_read e r, ap (λ b. b && has e 2 && has e 64) u ∙ ap (λ b. b && has e 64) r ∙ a)
is_granted e Store p =
    let u = set_has e 16 p.user in
    let r = set_has e 2 p.right.0 in
    let w = set_has e 4 p.right.1 in
    let d = set_has e 128 p.right.2 in
    let a = set_has e 64 p.accessed in
    (unrefused e (set_has e 1 p.valid) (readable e r), leaf_read e r, ap (λ b. b && (has e 4 && has e 128) && has e 64) u ∙ ap (λ b. (b && has e 128) && has e 64) w ∙ ap (λ b. b && has e 64) d ∙ a)

pub points_on : (e : ℕ) → PointsToTable e → (is_refused e ≡ false) × (is_leaf e ≡ false) × (is_pointer e ≡ true)
unfolding is_leaf is_pointer
points_on e p =
    let r = clear_has e 2 p.not_read in
    let w = clear_has e 4 p.not_written in
    let x = clear_has e 8 p.not_executed in
    let u = clear_has e 16 p.not_user in
    let a = clear_has e 64 p.not_accessed in
    let d = clear_has e 128 p.not_dirty in
    (unrefused e (set_has e 1 p.valid) (ap (λ b. b && not (has e 2)) w), ap (λ b. b || has e 8) r ∙ x, ap (λ b. not b && not (has e 64) && not (has e 128)) u ∙ ap (λ b. not b && not (has e 128)) a ∙ ap not d)
