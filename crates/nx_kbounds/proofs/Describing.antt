-- The laws of what leads somewhere, and how many descriptions there are.
use Rattle.std.proofs.Common.{◌≡◌, ◌≢◌, ℕ, zero, suc, ◌+◌, ◌*◌, ◌/◌, ◌<◌, ◌≤◌, ◌==◌, ◌||◌, Bool, true, false, List, [], ◌∷◌, length, take, drop, replicate, Option, Some, None, refl, sym, ap, ◌∙◌, subst, arith, length-take}
use Rattle.std.specs.Prelude.{slice_get, slice_set}
use Rattle.std.specs.List.{list_any}
use Rattle.std.specs.Option.{is_some}
use Rattle.nx_ksys.specs.declared.node.Open.{Open}
use Rattle.nx_ksys.specs.declared.thread.Thread.{Thread}
use Rattle.nx_ksys.specs.Threads.{awaited}
use Rattle.nx_ksys.specs.State.{Group}
use Rattle.nx_ksys.specs.Descriptors.{is_at, is_held}
use Rattle.nx_ksys.specs.Boot.{booted, shell, shell_thread, console_open, with_places}
use Rattle.nx_ksys.specs.Bounds.{one_if, stands}
use Rattle.nx_ksys.specs.Soundness.{Stands}
use Rattle.nx_ksys.proofs.Standing.{some_same, none_some, off_on, eq_from}
use Rattle.nx_ksys.proofs.Starting.{nothing_more, first_alone}
use Rattle.nx_kbounds.specs.Leading.{TargetStands, WaitStands, BootIsLed, CallsStayLed, ChoicesStayLed, EndsStayLed, DescriptionsAreFew}
use Rattle.nx_kbounds.proofs.Standings.{standing, standing_counted}
use Rattle.nx_kbounds.proofs.StepWalk.{step_made, picked_change}
use Rattle.nx_kbounds.proofs.GroupWalk.{end_change}
use Rattle.nx_kbounds.proofs.LedWalk.{change_led}

pub calls_stay_led : CallsStayLed
calls_stay_led first k thread which words inputs sound given b h = let m = step_made k thread which words inputs sound given in change_led m.change first b h

pub choices_stay_led : ChoicesStayLed
choices_stay_led first k b h = change_led (picked_change k) first b h

pub ends_stay_led : EndsStayLed
ends_stay_led first k place code b h = change_led (end_change k place code) first b h

-- ---- how many descriptions there are

one_away : {A : Type 0} (xs : List (Option A)) (p : ℕ) → standing xs ≤ standing (slice_set xs p None) + 1
one_away [] p = omega arith
one_away (None ∷ xs) zero = omega arith
one_away (Some x ∷ xs) zero = omega arith
one_away (x ∷ xs) (suc p) = let r = one_away xs p in omega (arith, r)

none_stand : {A : Type 0} (xs : List (Option A)) → ((p : ℕ) (x : A) → Stands xs p x → ⊥) → standing xs ≡ 0
none_stand [] h = refl
none_stand (None ∷ xs) h = let r = none_stand xs (λ p x s. h (suc p) x s) in omega (arith, r)
none_stand (Some x ∷ xs) h = absurd (h 0 x refl)

gone_other : {A : Type 0} (xs : List (Option A)) (p q : ℕ) (x : A) → Stands (slice_set xs p None) q x → (q ≢ p) × Stands xs q x
gone_other [] p q x h = absurd (none_some (Some x) h)
gone_other (y ∷ xs) zero zero x h = absurd (none_some x (some_same None (Some x) h))
gone_other (y ∷ xs) zero (suc q) x h = (λ e. omega (arith, e), h)
gone_other (y ∷ xs) (suc p) zero x h = (λ e. omega (arith, e), h)
gone_other (y ∷ xs) (suc p) (suc q) x h = let r = gone_other xs p q x h in (λ e. r.0 (omega (arith, e)), r.1)

-- descriptions that each have a descriptor are no more than these
no_more_than : (ds : List (Option ℕ)) (opens : List (Option Open)) → ((p : ℕ) (o : Open) → Stands opens p o → is_held p ds ≡ true) → standing opens ≤ standing ds
no_more_than [] opens h = let z = none_stand opens (λ p o s. off_on false refl (h p o s)) in omega (arith, z)
no_more_than (None ∷ ds) opens h = let r = no_more_than ds opens h in omega (arith, r)
no_more_than (Some d ∷ ds) opens h =
    let r = no_more_than ds (slice_set opens d None) (λ p o s. let g = gone_other opens d p o s in other d p ds (λ e. g.0 (sym e)) (h p o g.1)) in
    let a = one_away opens d in
    omega (arith, r, a)
  where
    other : (d p : ℕ) (ds : List (Option ℕ)) → d ≢ p → ((d == p) || list_any (is_at p) ds) ≡ true → list_any (is_at p) ds ≡ true
    other d p ds ne e = by_test (d == p) refl e
      where
        by_test : (b : Bool) → (d == p) ≡ b → (b || list_any (is_at p) ds) ≡ true → list_any (is_at p) ds ≡ true
        by_test true f q = absurd (ne (eq_from d p f))
        by_test false f q = q

standing_parts : {A : Type 0} (n : ℕ) (xs : List (Option A)) → standing xs ≡ standing (take n xs) + standing (drop n xs)
standing_parts zero xs = omega arith
standing_parts (suc n) [] = refl
standing_parts (suc n) (x ∷ xs) = let r = standing_parts n xs in omega (arith, r)

standing_short : {A : Type 0} (xs : List (Option A)) → standing xs ≤ length xs
standing_short [] = omega arith
standing_short (None ∷ xs) = let r = standing_short xs in omega (arith, r)
standing_short (Some x ∷ xs) = let r = standing_short xs in omega (arith, r)

got_taken : {A : Type 0} (n : ℕ) (xs : List A) (i : ℕ) (x : A) → slice_get (take n xs) i ≡ Some x → (i < n) × (slice_get xs i ≡ Some x)
got_taken zero xs i x h = absurd (none_some x h)
got_taken (suc n) [] i x h = absurd (none_some x h)
got_taken (suc n) (y ∷ xs) zero x h = (omega arith, h)
got_taken (suc n) (y ∷ xs) (suc i) x h = let r = got_taken n xs i x h in let l = r.0 in (omega (arith, l), r.1)

got_dropped : {A : Type 0} (n : ℕ) (xs : List A) (i : ℕ) → slice_get (drop n xs) i ≡ slice_get xs (i + n)
got_dropped zero xs i = ap (slice_get xs) (let e : i ≡ i + 0 = omega arith in e)
got_dropped (suc n) [] i = refl
got_dropped (suc n) (y ∷ xs) i = got_dropped n xs i ∙ ap (slice_get (y ∷ xs)) (let e : suc (i + n) ≡ i + suc n = omega arith in e)

-- 32 for each group
by_group : (gs : List (Option Group)) (ds : List (Option ℕ)) → ((i d : ℕ) → Stands ds i d → stands gs (i / 32) ≡ true) → standing ds ≤ 32 * standing gs
by_group [] ds h = let z = none_stand ds (λ p d s. off_on false refl (h p d s)) in omega (arith, z)
by_group (g ∷ gs) ds h =
    let parts = standing_parts 32 ds in
    let rest = by_group gs (drop 32 ds) (λ i d s. ap (λ j. stands (g ∷ gs) j) (let e : suc (i / 32) ≡ (i + 32) / 32 = omega arith in e) ∙ h (i + 32) d (sym (got_dropped 32 ds i) ∙ s)) in
    let own = first_few g (λ i d s. let t = got_taken 32 ds i (Some d) s in let l = t.0 in ap (λ j. stands (g ∷ gs) j) (let e : 0 ≡ i / 32 = omega (arith, l) in e) ∙ h i d t.1) in
    omega (arith, parts, rest, own)
  where
    first_few : (o : Option Group) → ((i d : ℕ) → Stands (take 32 ds) i d → is_some o ≡ true) → standing (take 32 ds) ≤ 32 * one_if (is_some o)
    first_few None k = let z = none_stand (take 32 ds) (λ i d s. off_on false refl (k i d s)) in omega (arith, z)
    first_few (Some v) k = let s = standing_short (take 32 ds) in let l = length-take 32 ds in omega (arith, s, l)

pub descriptions_are_few : DescriptionsAreFew
descriptions_are_few k h =
    let a = no_more_than k.descriptors k.opens h.held in
    let b = by_group k.groups k.descriptors h.owned in
    let c = standing_counted k.opens in
    let d = standing_counted k.groups in
    omega (arith, a, b, c, d)

-- ---- boot

first_descriptors : (n i d : ℕ) → Stands (with_places (Some 0 ∷ Some 0 ∷ Some 0 ∷ []) n) i d → (i < 3) × (0 ≡ d)
first_descriptors n zero d h = (omega arith, some_same 0 d (some_same (Some 0) (Some d) h))
first_descriptors n (suc zero) d h = (omega arith, some_same 0 d (some_same (Some 0) (Some d) h))
first_descriptors n (suc (suc zero)) d h = (omega arith, some_same 0 d (some_same (Some 0) (Some d) h))
first_descriptors n (suc (suc (suc i))) d h = absurd (nothing_more n i d h)

pub boot_is_led : BootIsLed
unfolding booted
boot_is_led limits others input late = record {
  owned = λ i d s. (let f = first_descriptors (29 + 32 * others) i d s in let l = f.0 in subst (λ j. stands (with_places (Some (shell limits) ∷ []) others) j ≡ true) (let e : 0 ≡ i / 32 = omega (arith, l) in e) refl);
  described = λ i d s. (let f = first_descriptors (29 + 32 * others) i d s in subst (λ j. stands (with_places (Some console_open ∷ []) (31 + 32 * others)) j ≡ true) f.1 refl);
  held = λ p o s. subst (λ j. is_held j (with_places (Some 0 ∷ Some 0 ∷ Some 0 ∷ []) (29 + 32 * others)) ≡ true) (sym (first_alone console_open o (31 + 32 * others) p s).0) refl;
  leads = λ p o s. subst (λ (v : Open). TargetStands (replicate limits.objects None) (replicate limits.objects None) (replicate limits.objects None) v.target) (sym (first_alone console_open o (31 + 32 * others) p s).1) tt;
  waits = λ p t s. subst (λ (u : Thread). WaitStands (replicate limits.objects None) (replicate limits.objects None) (awaited u.doing)) (sym (first_alone shell_thread t others p s).1) tt;
}
