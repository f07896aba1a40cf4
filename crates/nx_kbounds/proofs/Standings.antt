-- How many stand in a list, and how many threads wait, under the changes that calls make.
use Rattle.std.proofs.Common.{◌≡◌, ◌≢◌, ℕ, zero, suc, ◌+◌, ◌≤◌, ◌==◌, Bool, true, false, cond, List, [], ◌∷◌, length, map, replicate, Option, Some, None, refl, sym, ap, ◌∙◌, arith}
use Rattle.std.specs.Prelude.{if◌then◌else◌, slice_get, slice_set, filter}
use Rattle.std.specs.List.{count_by}
use Rattle.std.specs.Option.{is_some}
use Rattle.std.proofs.lemmas.Bool.{eq-eqb}
use Rattle.std.proofs.lemmas.List.Recursion.{is_count_by}
use Rattle.nx_ksys.specs.declared.thread.Thread.{Thread}
use Rattle.nx_ksys.specs.Threads.{flat, is_ready, changed, change_thread}
use Rattle.nx_ksys.specs.Soundness.{Stands}
use Rattle.nx_ksys.specs.Bounds.{one_if}
use Rattle.nx_ksys.proofs.Standing.{some_same, none_some, eq_from}
use Rattle.nx_kbounds.specs.Counts.{waits_one, waiting}

-- how many stand
abbrev pub standing : {A : Type 0} → List (Option A) → ℕ
standing [] = 0
standing (x ∷ xs) = one_if (is_some x) + standing xs

one_or : (b : Bool) (n : ℕ) → one_if b + n ≡ cond b (1 + n) n
one_or true n = refl
one_or false n = omega arith

pub standing_counted : {A : Type 0} (xs : List (Option A)) → standing xs ≡ count_by is_some xs
standing_counted {A} xs = is_count_by (λ (ys : List (Option A)). standing ys) is_some refl (λ y ys. one_or (is_some y) (standing ys)) xs

pub one_more : {A : Type 0} (xs : List (Option A)) (p : ℕ) (x : A) → standing (slice_set xs p (Some x)) ≤ standing xs + 1
one_more [] p x = omega arith
one_more (y ∷ xs) zero x = omega arith
one_more (y ∷ xs) (suc p) x = let r = one_more xs p x in omega (arith, r)

pub no_more : {A : Type 0} (xs : List (Option A)) (p : ℕ) (x y : A) → flat (slice_get xs p) ≡ Some y → standing (slice_set xs p (Some x)) ≡ standing xs
no_more [] p x y e = refl
no_more (None ∷ xs) zero x y e = absurd (none_some y e)
no_more (Some z ∷ xs) zero x y e = refl
no_more (z ∷ xs) (suc p) x y e = let r = no_more xs p x y e in omega (arith, r)

pub one_fewer : {A : Type 0} (xs : List (Option A)) (p : ℕ) (y : A) → flat (slice_get xs p) ≡ Some y → standing (slice_set xs p None) + 1 ≡ standing xs
one_fewer [] p y e = absurd (none_some y e)
one_fewer (None ∷ xs) zero y e = absurd (none_some y e)
one_fewer (Some z ∷ xs) zero y e = omega arith
one_fewer (z ∷ xs) (suc p) y e = let r = one_fewer xs p y e in omega (arith, r)

-- a change that brings none
pub fewer_mapped : {A : Type 0} (f : Option A → Option A) → ((o : Option A) → one_if (is_some (f o)) ≤ one_if (is_some o)) → (xs : List (Option A)) → standing (map f xs) ≤ standing xs
fewer_mapped f less [] = omega arith
fewer_mapped f less (x ∷ xs) = let a = less x in let r = fewer_mapped f less xs in omega (arith, a, r)

-- and takes one away
pub one_fewer_mapped : {A : Type 0} (f : Option A → Option A) → ((o : Option A) → one_if (is_some (f o)) ≤ one_if (is_some o)) → (xs : List (Option A)) (p : ℕ) (x : A) → Stands xs p x → f (Some x) ≡ None → standing (map f xs) + 1 ≤ standing xs
one_fewer_mapped f less [] p x s e = absurd (none_some (Some x) s)
one_fewer_mapped {A} f less (y ∷ xs) zero x s e =
    let r = fewer_mapped f less xs in
    let a : one_if (is_some (f y)) ≡ 0 = ap (λ (o : Option A). one_if (is_some o)) (ap f (some_same y (Some x) s) ∙ e) in
    let b : one_if (is_some y) ≡ 1 = ap (λ (o : Option A). one_if (is_some o)) (some_same y (Some x) s) in
    omega (arith, r, a, b)
one_fewer_mapped f less (y ∷ xs) (suc p) x s e = let a = less y in let r = one_fewer_mapped f less xs p x s e in omega (arith, a, r)

pub shorter : {A : Type 0} (test : A → Bool) (xs : List A) → length (filter test xs) ≤ length xs
shorter test [] = omega arith
shorter {A} test (x ∷ xs) = by_test (test x) (shorter test xs)
  where
    by_test : (b : Bool) → length (filter test xs) ≤ length xs → length (cond b (x ∷ filter test xs) (filter test xs)) ≤ suc (length xs)
    by_test true m = omega (arith, m)
    by_test false m = omega (arith, m)

-- ---- threads that change

-- a change of a thread keeps how many live
one_changed : (number : ℕ) (f : Thread → Thread) (o : Option Thread) → one_if (is_some (changed number f o)) ≡ one_if (is_some o)
one_changed number f None = refl
one_changed number f (Some t) = by_test (t.number == number)
  where
    by_test : (b : Bool) → one_if (is_some (if b then Some (f t) else Some t)) ≡ 1
    by_test true = refl
    by_test false = refl

pub live_changed : (number : ℕ) (f : Thread → Thread) (ts : List (Option Thread)) → standing (change_thread number f ts) ≡ standing ts
unfolding change_thread
live_changed number f [] = refl
live_changed number f (t ∷ ts) = let a = one_changed number f t in let r = live_changed number f ts in omega (arith, a, r)

-- a change that lets no ready thread wait
waits_no_more : (number : ℕ) (f : Thread → Thread) → ((t : Thread) → waits_one (Some (f t)) ≤ waits_one (Some t)) → (o : Option Thread) → waits_one (changed number f o) ≤ waits_one o
waits_no_more number f less None = omega arith
waits_no_more number f less (Some t) = by_test (t.number == number) (less t)
  where
    by_test : (b : Bool) → waits_one (Some (f t)) ≤ waits_one (Some t) → waits_one (if b then Some (f t) else Some t) ≤ waits_one (Some t)
    by_test true l = l
    by_test false l = omega arith

pub waiting_changed : (number : ℕ) (f : Thread → Thread) → ((t : Thread) → waits_one (Some (f t)) ≤ waits_one (Some t)) → (ts : List (Option Thread)) → waiting (change_thread number f ts) ≤ waiting ts
unfolding change_thread
waiting_changed number f less [] = omega arith
waiting_changed number f less (t ∷ ts) = let a = waits_no_more number f less t in let r = waiting_changed number f less ts in omega (arith, a, r)

-- a thread that waits goes on
goes_on : (f : Thread → Thread) (t : Thread) → is_ready t.doing ≡ false → ((u : Thread) → waits_one (Some (f u)) ≡ 0) → waits_one (changed t.number f (Some t)) + 1 ≤ waits_one (Some t)
goes_on f t e ready =
    let own = eq-eqb t.number t.number refl in
    let a : waits_one (Some t) ≡ 1 = ap (λ b. if b then 0 else 1) e in
    let b : waits_one (changed t.number f (Some t)) ≡ 0 = ap (λ c. waits_one (if c then Some (f t) else Some t)) own ∙ ready t in
    omega (arith, a, b)

none_waits : (f : Thread → Thread) → ((u : Thread) → waits_one (Some (f u)) ≡ 0) → (t : Thread) → waits_one (Some (f t)) ≤ waits_one (Some t)
none_waits f ready t = let a = ready t in omega (arith, a)

pub waiting_woken : (f : Thread → Thread) → ((u : Thread) → waits_one (Some (f u)) ≡ 0) → (t : Thread) (ts : List (Option Thread)) (slot : ℕ) → Stands ts slot t → is_ready t.doing ≡ false → waiting (change_thread t.number f ts) + 1 ≤ waiting ts
unfolding change_thread
waiting_woken f ready t [] slot s e = absurd (none_some (Some t) s)
waiting_woken f ready t (u ∷ us) zero s e =
    let same : u ≡ Some t = some_same u (Some t) s in
    let own = goes_on f t e ready in
    let a : waits_one (changed t.number f u) ≡ waits_one (changed t.number f (Some t)) = ap (λ o. waits_one (changed t.number f o)) same in
    let b : waits_one u ≡ waits_one (Some t) = ap waits_one same in
    let rest = waiting_changed t.number f (none_waits f ready) us in
    omega (arith, own, rest, a, b)
waiting_woken f ready t (u ∷ us) (suc slot) s e = let one = waits_no_more t.number f (none_waits f ready) u in let r = waiting_woken f ready t us slot s e in omega (arith, one, r)

-- one that there is no second of waits
abbrev is_of : ℕ → Option Thread → Bool
is_of number None = false
is_of number (Some t) = t.number == number

most_one : (o : Option Thread) → waits_one o ≤ 1
most_one None = omega arith
most_one (Some t) = by_test (is_ready t.doing)
  where
    by_test : (b : Bool) → (if b then 0 else 1) ≤ 1
    by_test true = omega arith
    by_test false = omega arith

one_waits : (number : ℕ) (f : Thread → Thread) (o : Option Thread) → waits_one (changed number f o) ≤ waits_one o + one_if (is_of number o)
one_waits number f None = omega arith
one_waits number f (Some t) = by_test (t.number == number)
  where
    by_test : (b : Bool) → waits_one (if b then Some (f t) else Some t) ≤ waits_one (Some t) + one_if b
    by_test true = let m = most_one (Some (f t)) in omega (arith, m)
    by_test false = omega arith

abbrev of : ℕ → List (Option Thread) → ℕ
of number [] = 0
of number (t ∷ ts) = one_if (is_of number t) + of number ts

some_wait : (number : ℕ) (f : Thread → Thread) (ts : List (Option Thread)) → waiting (change_thread number f ts) ≤ waiting ts + of number ts
unfolding change_thread
some_wait number f [] = omega arith
some_wait number f (t ∷ ts) = let a = one_waits number f t in let r = some_wait number f ts in omega (arith, a, r)

-- no thread of a list has a number
none_of : (number : ℕ) (ts : List (Option Thread)) → ((p : ℕ) (t : Thread) → Stands ts p t → t.number ≢ number) → of number ts ≡ 0
none_of number [] h = refl
none_of number (None ∷ ts) h = let r = none_of number ts (λ p u s. h (suc p) u s) in omega (arith, r)
none_of number (Some t ∷ ts) h = by_test (t.number == number) refl (none_of number ts (λ p u s. h (suc p) u s))
  where
    by_test : (b : Bool) → (t.number == number) ≡ b → of number ts ≡ 0 → one_if b + of number ts ≡ 0
    by_test true e r = absurd (h 0 t refl (eq_from t.number number e))
    by_test false e r = omega (arith, r)

pub at_most_one : (number : ℕ) (ts : List (Option Thread)) → ((s r : ℕ) (t u : Thread) → Stands ts s t → Stands ts r u → t.number ≡ u.number → s ≡ r) → of number ts ≤ 1
at_most_one number [] h = omega arith
at_most_one number (None ∷ ts) h = let r = at_most_one number ts (λ s p t u a b e. later s p (h (suc s) (suc p) t u a b e)) in omega (arith, r)
  where
    later : (s p : ℕ) → suc s ≡ suc p → s ≡ p
    later s p e = omega (arith, e)
at_most_one number (Some t ∷ ts) h = by_test (t.number == number) refl (at_most_one number ts (λ s p v u a b e. later s p (h (suc s) (suc p) v u a b e)))
  where
    later : (s p : ℕ) → suc s ≡ suc p → s ≡ p
    later s p e = omega (arith, e)

    apart : (p : ℕ) → 0 ≡ suc p → ⊥
    apart p e = omega (arith, e)

    by_test : (b : Bool) → (t.number == number) ≡ b → of number ts ≤ 1 → one_if b + of number ts ≤ 1
    by_test true e r = let n = none_of number ts (λ p u s q. apart p (h 0 (suc p) t u refl s (eq_from t.number number e ∙ sym q))) in omega (arith, n)
    by_test false e r = omega (arith, r)

pub waiting_blocked : (number : ℕ) (f : Thread → Thread) (ts : List (Option Thread)) → ((s r : ℕ) (t u : Thread) → Stands ts s t → Stands ts r u → t.number ≡ u.number → s ≡ r) → waiting (change_thread number f ts) ≤ waiting ts + 1
waiting_blocked number f ts h = let a = some_wait number f ts in let b = at_most_one number ts h in omega (arith, a, b)

-- one that begins is ready, and those that go wait no more
pub waiting_begun : (ts : List (Option Thread)) (p : ℕ) (t : Thread) → waits_one (Some t) ≡ 0 → waiting (slice_set ts p (Some t)) ≤ waiting ts
waiting_begun [] p t e = omega arith
waiting_begun (u ∷ ts) zero t e = omega (arith, e)
waiting_begun (u ∷ ts) (suc p) t e = let r = waiting_begun ts p t e in omega (arith, r)

pub waiting_mapped : (f : Option Thread → Option Thread) → ((o : Option Thread) → waits_one (f o) ≤ waits_one o) → (ts : List (Option Thread)) → waiting (map f ts) ≤ waiting ts
waiting_mapped f less [] = omega arith
waiting_mapped f less (t ∷ ts) = let a = less t in let r = waiting_mapped f less ts in omega (arith, a, r)

pub nothing_stands : (A : Type 0) (n : ℕ) → standing (replicate {A = Option A} n None) ≡ 0
nothing_stands A zero = refl
nothing_stands A (suc n) = let r = nothing_stands A n in omega (arith, r)

pub nothing_waits : (n : ℕ) → waiting (replicate n None) ≡ 0
nothing_waits zero = refl
nothing_waits (suc n) = let r = nothing_waits n in omega (arith, r)
