-- Places of which the first ones are taken.
use Rattle.std.proofs.Common.{◌≡◌, ℕ, zero, suc, ◌≤◌, [], ◌∷◌, map, replicate, Option, Some, None, refl, sym, ap, arith}
use Rattle.std.specs.Prelude.{slice_set, length, ◌-◌}
use Rattle.std.proofs.lemmas.List.{length-replicate}
use Rattle.nx_ksys.specs.declared.thread.Thread.{Thread}
use Rattle.nx_ksys.specs.Threads.{Schedule}
use Rattle.nx_ksys.specs.State.{Group}
use Rattle.nx_ksys.specs.Boot.{with_places}
use Rattle.nx_env.specs.Joined.{Variables, joined}

pub first_placed : {A : Type 0} (n : ℕ) (x : A) → 1 ≤ n → slice_set (replicate {A = Option A} n None) 0 (Some x) ≡ with_places (Some x ∷ []) (n - 1)
first_placed zero x le = absurd (omega (arith, le))
first_placed {A} (suc n) x le = let e : n ≡ suc n - 1 = omega arith in ap (λ m. Some x ∷ replicate {A = Option A} m None) e

-- no file is seen as no file, whatever bytes chains have
pub none_seen : {A B : Type 0} (f : Option A → Option B) (n : ℕ) → f None ≡ None → map f (replicate {A = Option A} n None) ≡ replicate {A = Option B} n None
none_seen f zero e = refl
none_seen f (suc n) e = (λ i. e i ∷ none_seen f n e i)

-- places after the first
pub one_and_more : {A : Type 0} (n : ℕ) (x : A) → 1 ≤ n → replicate {A = A} n x ≡ x ∷ replicate (n - 1) x
one_and_more zero x le = absurd (omega (arith, le))
one_and_more {A} (suc n) x le = let e : n ≡ suc n - 1 = omega arith in ap (λ m. x ∷ replicate {A = A} m x) e

-- groups of which none has a variable
no_variables : (m n : ℕ) → joined (replicate {A = Option Group} m None) (replicate {A = Variables} n []) ≡ replicate {A = Option Group} m None
no_variables zero n = refl
no_variables (suc m) zero = ap (λ gs. None ∷ gs) (no_variables m zero)
no_variables (suc m) (suc n) = ap (λ gs. None ∷ gs) (no_variables m n)

pub first_without_variables : (g : Group) (m n : ℕ) → g.environment ≡ [] → joined (with_places (Some g ∷ []) m) (replicate {A = Variables} n []) ≡ with_places (Some g ∷ []) m
first_without_variables g m zero e = (λ i. Some (record g { environment = sym e i }) ∷ no_variables m zero i)
first_without_variables g m (suc n) e = (λ i. Some (record g { environment = sym e i }) ∷ no_variables m n i)

-- as many slots as were asked for
pub first_slots : (n : ℕ) (t : Thread) (s : Schedule) → 1 ≤ n → s ≡ record { threads = with_places (Some t ∷ []) (n - 1); moments = 1 } → length s.threads ≡ n
first_slots n t s some e =
    let l : length s.threads ≡ suc (length (replicate {A = Option Thread} (n - 1) None)) = ap (λ x. length x.threads) e in
    let m = length-replicate {A = Option Thread} (n - 1) None in
    omega (arith, some, l, m)
