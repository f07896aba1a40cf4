-- Places of which the first ones are taken.
use Rattle.std.proofs.Common.{◌≡◌, ℕ, zero, suc, ◌+◌, ◌*◌, ◌≤◌, List, [], ◌∷◌, ◌++◌, replicate, Option, Some, None, refl, sym, ap, ◌∙◌, arith}
use Rattle.std.specs.Prelude.{slice_get, slice_set, length, ◌-◌}
use Rattle.std.proofs.lemmas.List.{length-replicate}
use Rattle.nx_ksys.specs.declared.node.Open.{Open}
use Rattle.nx_ksys.specs.Boot.{with_places}
use Rattle.nx_objects.specs.declared.objects.Objects.{Objects}
use Rattle.nx_objects.specs.Tables.{IsBooted, ArePlaced}

three : (n : ℕ) (a b c : Option ℕ) → slice_set (slice_set (slice_set (replicate {A = Option ℕ} (suc (suc (suc n))) None) 0 a) 1 b) 2 c ≡ a ∷ b ∷ c ∷ replicate n None
three n a b c = refl

pub three_placed : (n : ℕ) (a b c : Option ℕ) → 1 ≤ n → slice_set (slice_set (slice_set (replicate {A = Option ℕ} (32 * n) None) 0 a) 1 b) 2 c ≡ with_places (a ∷ b ∷ c ∷ []) (29 + 32 * (n - 1))
three_placed n a b c le =
    let e : 32 * n ≡ suc (suc (suc (29 + 32 * (n - 1)))) = omega (arith, le) in
    ap (λ m. slice_set (slice_set (slice_set (replicate {A = Option ℕ} m None) 0 a) 1 b) 2 c) e ∙ three (29 + 32 * (n - 1)) a b c

pub description_placed : (n : ℕ) (o : Open) → 1 ≤ n → slice_set (replicate {A = Option Open} (32 * n) None) 0 (Some o) ≡ with_places (Some o ∷ []) (31 + 32 * (n - 1))
description_placed n o le = let e : 32 * n ≡ suc (31 + 32 * (n - 1)) = omega (arith, le) in ap (λ m. slice_set (replicate {A = Option Open} m None) 0 (Some o)) e

pub description_free : (n : ℕ) → 1 ≤ n → slice_get (replicate {A = Option Open} (32 * n) None) 0 ≡ Some None
description_free n le = let e : 32 * n ≡ suc (31 + 32 * (n - 1)) = omega (arith, le) in ap (λ m. slice_get (replicate {A = Option Open} m None) 0) e

-- what stands at boot has its places
pub booted_placed : (programs : List (List ℕ)) (groups objects : ℕ) (o : Objects) → 1 ≤ groups → groups ≤ 64 → objects ≤ 65536 → IsBooted programs groups objects o → ArePlaced groups o
booted_placed programs groups objects o some few most b =
    let rest = 32 * (groups - 1) in
    let m = length-replicate {A = Option ℕ} (29 + rest) None in
    let n = length-replicate {A = Option Open} (31 + rest) None in
    let q = ap length b.queues ∙ length-replicate objects None in
    let s = ap length b.semaphores ∙ length-replicate objects None in
    let d : length o.descriptors ≡ suc (suc (suc (length (replicate {A = Option ℕ} (29 + rest) None)))) = ap length b.descriptors in
    let e : length o.descriptions ≡ suc (length (replicate {A = Option Open} (31 + rest) None)) = ap length b.descriptions in
    record { few = few; descriptors = omega (arith, some, d, m); descriptions = omega (arith, some, e, n); queues = omega (arith, q, most); semaphores = omega (arith, s, most) }
