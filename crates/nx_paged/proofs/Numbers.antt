-- Groups by their numbers.
use Rattle.std.proofs.Common.{◌≡◌, ◌≢◌, ℕ, suc, ◌+◌, ◌<◌, ◌≤◌, ◌==◌, true, false, List, length, drop, drop-cons, get_or, ap, ◌∙◌, arith}
use Rattle.std.specs.Prelude.{if◌then◌else◌}
use Rattle.std.proofs.lemmas.Bool.Decides.{nat_tests}
use Rattle.std.proofs.lemmas.List.{drop_all}
use Rattle.nx_paged.specs.Tenants.{Tenant, root_of, place_of}

pub same_number : (a b : ℕ) → a ≡ b → (a == b) ≡ true
same_number a b e = grind (arith, nat_tests)

pub other_number : (a b : ℕ) → a ≢ b → (a == b) ≡ false
other_number a b ne = grind (arith, nat_tests)

pub is_number : (a b : ℕ) → (a == b) ≡ true → a ≡ b
is_number a b e = grind (arith, nat_tests)

pub no_number : (a b : ℕ) → (a == b) ≡ false → a ≢ b
no_number a b e = grind (arith, nat_tests)

-- looking for a group along the list
pub root_here : (ts : List Tenant) (i number : ℕ) (d : Tenant) → i < length ts → (get_or ts i d).number ≡ number → root_of (drop i ts) number ≡ (get_or ts i d).root
unfolding root_of
root_here ts i number d h e =
    ap (λ l. root_of l number) (drop-cons ts i d h) ∙ ap (λ b. if b then (get_or ts i d).root else root_of (drop (suc i) ts) number) (same_number (get_or ts i d).number number e)

pub root_later : (ts : List Tenant) (i number : ℕ) (d : Tenant) → i < length ts → (get_or ts i d).number ≢ number → root_of (drop i ts) number ≡ root_of (drop (i + 1) ts) number
unfolding root_of
root_later ts i number d h ne =
    let e : suc i ≡ i + 1 = omega arith in
    ap (λ l. root_of l number) (drop-cons ts i d h) ∙ ap (λ b. if b then (get_or ts i d).root else root_of (drop (suc i) ts) number) (other_number (get_or ts i d).number number ne)
    ∙ ap (λ k. root_of (drop k ts) number) e

pub root_none : (ts : List Tenant) (i number : ℕ) → length ts ≤ i → root_of (drop i ts) number ≡ 0
unfolding root_of
root_none ts i number h = ap (λ l. root_of l number) (drop_all i ts h)

pub place_here : (ts : List Tenant) (i number : ℕ) (d : Tenant) → i < length ts → (get_or ts i d).number ≡ number → place_of (drop i ts) number ≡ 0
unfolding place_of
place_here ts i number d h e =
    ap (λ l. place_of l number) (drop-cons ts i d h) ∙ ap (λ b. if b then 0 else suc (place_of (drop (suc i) ts) number)) (same_number (get_or ts i d).number number e)

pub place_later : (ts : List Tenant) (i number : ℕ) (d : Tenant) → i < length ts → (get_or ts i d).number ≢ number → place_of (drop i ts) number ≡ suc (place_of (drop (i + 1) ts) number)
unfolding place_of
place_later ts i number d h ne =
    let e : suc i ≡ i + 1 = omega arith in
    ap (λ l. place_of l number) (drop-cons ts i d h)
    ∙ ap (λ b. if b then 0 else suc (place_of (drop (suc i) ts) number)) (other_number (get_or ts i d).number number ne)
    ∙ ap (λ k. suc (place_of (drop k ts) number)) e

pub place_none : (ts : List Tenant) (i number : ℕ) → length ts ≤ i → place_of (drop i ts) number ≡ 0
unfolding place_of
place_none ts i number h = ap (λ l. place_of l number) (drop_all i ts h)
