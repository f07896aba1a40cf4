-- Which descriptions the descriptors have.
use Rattle.std.proofs.Common.{◌≡◌, ◌≢◌, ℕ, zero, suc, ◌+◌, ◌*◌, ◌<◌, ◌≤◌, ◌==◌, ◌||◌, Bool, true, false, List, [], ◌∷◌, take, drop, Option, Some, None, refl, sym, ap, ◌∙◌, subst, arith, ⊎_elim}
use Rattle.std.specs.Prelude.{if◌then◌else◌, nat_lt, slice_get, slice_set}
use Rattle.std.specs.List.{list_any}
use Rattle.nx_ksys.specs.declared.node.Open.{Open}
use Rattle.nx_ksys.specs.declared.node.Target.{Target}
use Rattle.nx_ksys.specs.declared.node.Target.TheVariants as target
use Rattle.nx_ksys.specs.Threads.{flat}
use Rattle.nx_ksys.specs.State.{KernelState}
use Rattle.nx_ksys.specs.Soundness.{Stands}
use Rattle.std.proofs.lemmas.Bool.{cases_eq}
use Rattle.std.proofs.lemmas.Bool.Decides.{nat_tests}
use Rattle.nx_ksys.specs.Descriptors.{per_group, is_at, is_held, description_at, free_descriptor, set_descriptor, swept_target, without_open, released, closed_as, closed, closed_from}
use Rattle.nx_ksys.proofs.Standing.{some_same, none_some, off_on, set_other, eq_from, eq_to, ne_from, flat_some, free_place, within, take_short}

-- what stands somewhere is held
pub stands_held : (ds : List (Option ℕ)) (i place : ℕ) → Stands ds i place → is_held place ds ≡ true
stands_held [] i place h = absurd (none_some (Some place) h)
stands_held (d ∷ ds) zero place h = ap (λ o. is_at place o || list_any (is_at place) ds) (some_same d (Some place) h) ∙ ap (λ b. b || list_any (is_at place) ds) (eq_to place place refl)
stands_held (d ∷ ds) (suc i) place h = or_true (is_at place d) (stands_held ds i place h)
  where
    or_true : (b : Bool) → list_any (is_at place) ds ≡ true → (b || list_any (is_at place) ds) ≡ true
    or_true true e = refl
    or_true false e = e

-- a descriptor's description stands at its place in the table
pub descriptor_stands : (ds : List (Option ℕ)) (place fd d : ℕ) → description_at ds place fd ≡ Some d → Stands ds (per_group * place + fd) d
descriptor_stands ds place fd d e = by_test (nat_lt fd per_group) e
  where
    by_test : (b : Bool) → (if b then flat (slice_get ds (per_group * place + fd)) else None) ≡ Some d → Stands ds (per_group * place + fd) d
    by_test true q = flat_some (slice_get ds (per_group * place + fd)) d q
    by_test false q = absurd (none_some d q)

pub descriptor_holds : (ds : List (Option ℕ)) (place fd d : ℕ) → description_at ds place fd ≡ Some d → is_held d ds ≡ true
descriptor_holds ds place fd d e = stands_held ds (per_group * place + fd) d (descriptor_stands ds place fd d e)

-- what a closing does to the descriptors
target_descriptors : (k : KernelState) (t : Target) → (swept_target k t).descriptors ≡ k.descriptors
target_descriptors k (target.File place) = refl
target_descriptors k target.Console = refl
target_descriptors k target.Null = refl
target_descriptors k (target.Queue place) = refl
target_descriptors k (target.Semaphore place) = refl

released_descriptors : (k : KernelState) (place : ℕ) → (released k place).descriptors ≡ k.descriptors
unfolding released
released_descriptors k place = by_test (is_held place k.descriptors) (flat (slice_get k.opens place))
  where
    by_open : (o : Option Open) → (without_open k place o).descriptors ≡ k.descriptors
    by_open None = refl
    by_open (Some o) = target_descriptors (record k { opens = slice_set k.opens place None }) o.target

    by_test : (b : Bool) (o : Option Open) → (let l : KernelState = if b then k else without_open k place o in l).descriptors ≡ k.descriptors
    by_test true o = refl
    by_test false o = by_open o

-- another descriptor stays when one closes
pub still_holds : (k : KernelState) (place first second d : ℕ) → description_at k.descriptors place first ≡ Some d → (first == second) ≡ false → is_held d (closed k place second).descriptors ≡ true
unfolding closed
still_holds k place first second d e ne = by_place (description_at k.descriptors place second)
  where
    by_place : (o : Option ℕ) → is_held d (closed_as k place second o).descriptors ≡ true
    by_place None = descriptor_holds k.descriptors place first d e
    by_place (Some p) =
        let l : KernelState = record k { descriptors = set_descriptor k.descriptors place second None } in
        let apart : per_group * place + first ≢ per_group * place + second = λ s. ne_from first second ne (omega (arith, s)) in
        let stays : Stands (set_descriptor k.descriptors place second None) (per_group * place + first) d = set_other k.descriptors (per_group * place + second) (per_group * place + first) None apart ∙ descriptor_stands k.descriptors place first d e in
        ap (is_held d) (released_descriptors l p) ∙ stands_held (set_descriptor k.descriptors place second None) (per_group * place + first) d stays

-- what has a description stands somewhere
pub held_somewhere : (place : ℕ) (ds : List (Option ℕ)) → is_held place ds ≡ true → (i : ℕ) × Stands ds i place
held_somewhere place [] h = absurd (off_on false refl h)
held_somewhere place (None ∷ ds) h = let r = held_somewhere place ds h in (suc r.0, r.1)
held_somewhere place (Some p ∷ ds) h = by_test (p == place) refl h (λ e. held_somewhere place ds e)
  where
    by_test : (b : Bool) → (p == place) ≡ b → (b || list_any (is_at place) ds) ≡ true → (list_any (is_at place) ds ≡ true → (i : ℕ) × Stands ds i place) → (i : ℕ) × Stands (Some p ∷ ds) i place
    by_test true e f more = (0, ap (λ q. Some (Some q)) (eq_from p place e))
    by_test false e f more = let r = more f in (suc r.0, r.1)

-- ---- places that are set

pub none_set : {A : Type 0} (xs : List (Option A)) (p : ℕ) → flat (slice_get (slice_set xs p None) p) ≡ None
none_set [] p = refl
none_set (x ∷ xs) zero = refl
none_set (x ∷ xs) (suc p) = none_set xs p

pub none_stays : {A : Type 0} (xs : List (Option A)) (p q : ℕ) → flat (slice_get xs q) ≡ None → flat (slice_get (slice_set xs p None) q) ≡ None
none_stays [] p q h = refl
none_stays (x ∷ xs) zero zero h = refl
none_stays (x ∷ xs) zero (suc q) h = h
none_stays (x ∷ xs) (suc p) zero h = h
none_stays (x ∷ xs) (suc p) (suc q) h = none_stays xs p q h

got_taken : {A : Type 0} (n : ℕ) (xs : List A) (i : ℕ) (x : A) → slice_get (take n xs) i ≡ Some x → slice_get xs i ≡ Some x
got_taken zero xs i x h = absurd (none_some x h)
got_taken (suc n) [] i x h = absurd (none_some x h)
got_taken (suc n) (y ∷ xs) zero x h = h
got_taken (suc n) (y ∷ xs) (suc i) x h = got_taken n xs i x h

got_dropped : {A : Type 0} (n : ℕ) (xs : List A) (i : ℕ) → slice_get (drop n xs) i ≡ slice_get xs (i + n)
got_dropped zero xs i = ap (slice_get xs) (let e : i ≡ i + 0 = omega arith in e)
got_dropped (suc n) [] i = refl
got_dropped (suc n) (y ∷ xs) i = got_dropped n xs i ∙ ap (slice_get (y ∷ xs)) (let e : suc (i + n) ≡ i + suc n = omega arith in e)

-- a least free descriptor is closed
pub free_is_closed : (ds : List (Option ℕ)) (place fd : ℕ) → free_descriptor ds place ≡ Some fd → (fd < per_group) × (slice_get ds (per_group * place + fd) ≡ Some None)
unfolding free_descriptor
free_is_closed ds place fd e =
    let own = take per_group (drop (per_group * place) ds) in
    let at = free_place own fd e in
    let lt = within own fd None at in
    let le = take_short per_group (drop (per_group * place) ds) in
    let got = got_taken per_group (drop (per_group * place) ds) fd None at in
    let index : fd + per_group * place ≡ per_group * place + fd = omega arith in
    let there : slice_get ds (per_group * place + fd) ≡ Some None = ap (slice_get ds) (sym index) ∙ sym (got_dropped (per_group * place) ds fd) ∙ got in
    (omega (arith, lt, le), there)

-- ---- what closings leave

pub closed_none : (k : KernelState) (place fd i : ℕ) → flat (slice_get k.descriptors i) ≡ None → flat (slice_get (closed k place fd).descriptors i) ≡ None
unfolding closed
closed_none k place fd i h = by_place (description_at k.descriptors place fd)
  where
    by_place : (o : Option ℕ) → flat (slice_get (closed_as k place fd o).descriptors i) ≡ None
    by_place None = h
    by_place (Some d) = ap (λ ds. flat (slice_get ds i)) (released_descriptors (record k { descriptors = set_descriptor k.descriptors place fd None }) d) ∙ none_stays k.descriptors (per_group * place + fd) i h

pub closed_own : (k : KernelState) (place fd : ℕ) → fd < per_group → flat (slice_get (closed k place fd).descriptors (per_group * place + fd)) ≡ None
unfolding closed
closed_own k place fd lt = by_place (description_at k.descriptors place fd) refl
  where
    within_test : (b : Bool) → nat_lt fd per_group ≡ b → (if b then flat (slice_get k.descriptors (per_group * place + fd)) else None) ≡ None → flat (slice_get k.descriptors (per_group * place + fd)) ≡ None
    within_test true e h = h
    within_test false e h = absurd (let ge : per_group ≤ fd = grind (arith, nat_tests) in omega (arith, ge, lt))

    by_place : (o : Option ℕ) → description_at k.descriptors place fd ≡ o → flat (slice_get (closed_as k place fd o).descriptors (per_group * place + fd)) ≡ None
    by_place None e = within_test (nat_lt fd per_group) refl e
    by_place (Some d) e = ap (λ ds. flat (slice_get ds (per_group * place + fd))) (released_descriptors (record k { descriptors = set_descriptor k.descriptors place fd None }) d) ∙ none_set k.descriptors (per_group * place + fd)

all_closed_none : (n fd place : ℕ) (k : KernelState) (i : ℕ) → flat (slice_get k.descriptors i) ≡ None → flat (slice_get (closed_from n fd place k).descriptors i) ≡ None
all_closed_none zero fd place k i h = h
all_closed_none (suc n) fd place k i h = all_closed_none n (fd + 1) place (closed k place fd) i (closed_none k place fd i h)

pub all_closed_own : (n fd place : ℕ) (k : KernelState) (j : ℕ) → fd ≤ j → j < fd + n → j < per_group → flat (slice_get (closed_from n fd place k).descriptors (per_group * place + j)) ≡ None
all_closed_own zero fd place k j le lt few = absurd (omega (arith, le, lt))
all_closed_own (suc n) fd place k j le lt few = ⊎_elim
    (λ e. all_closed_none n (fd + 1) place (closed k place fd) (per_group * place + j) (subst (λ m. flat (slice_get (closed k place fd).descriptors (per_group * place + m)) ≡ None) e (closed_own k place fd (omega (arith, e, few)))))
    (λ ne. all_closed_own n (fd + 1) place (closed k place fd) j (above fd j le ne) (omega (arith, lt)) few)
    (cases_eq fd j)
  where
    above : (m i : ℕ) → m ≤ i → m ≢ i → m + 1 ≤ i
    above m i l ne = grind (arith, nat_tests)

-- ---- groups stay while descriptors close

target_groups : (k : KernelState) (t : Target) → (swept_target k t).groups ≡ k.groups
target_groups k (target.File place) = refl
target_groups k target.Console = refl
target_groups k target.Null = refl
target_groups k (target.Queue place) = refl
target_groups k (target.Semaphore place) = refl

released_groups : (k : KernelState) (place : ℕ) → (released k place).groups ≡ k.groups
unfolding released
released_groups k place = by_test (is_held place k.descriptors) (flat (slice_get k.opens place))
  where
    by_open : (o : Option Open) → (without_open k place o).groups ≡ k.groups
    by_open None = refl
    by_open (Some o) = target_groups _ o.target

    by_test : (b : Bool) (o : Option Open) → (let l : KernelState = if b then k else without_open k place o in l).groups ≡ k.groups
    by_test true o = refl
    by_test false o = by_open o

pub closed_groups : (k : KernelState) (place fd : ℕ) → (closed k place fd).groups ≡ k.groups
unfolding closed
closed_groups k place fd = by_place (description_at k.descriptors place fd)
  where
    by_place : (d : Option ℕ) → (closed_as k place fd d).groups ≡ k.groups
    by_place None = refl
    by_place (Some d) = released_groups (record k { descriptors = set_descriptor k.descriptors place fd None }) d

pub all_closed_groups : (n fd place : ℕ) (k : KernelState) → (closed_from n fd place k).groups ≡ k.groups
all_closed_groups zero fd place k = refl
all_closed_groups (suc n) fd place k = all_closed_groups n (fd + 1) place (closed k place fd) ∙ closed_groups k place fd
