-- The entries of a protected space allow an aligned access exactly where a window does.
use Rattle.std.proofs.Common.{◌≡◌, ℕ, ◌+◌, ◌-◌, ◌*◌, ◌/◌, ◌%◌, ◌<◌, ◌≤◌, ◌⊎◌, ⊎_elim, inl, inr, Bool, true, false, ◌&&◌, List, [], ◌∷◌, replicate, Option, Some, None, refl, sym, ap, ◌∙◌, arith}
use Rattle.std.specs.Prelude.{if◌then◌else◌, nat_le, nat_lt}
use Rattle.std.proofs.lemmas.Bool.Decides.{nat_tests}
use Rattle.nx_base.specs.declared.access.Access.{Access}
use Rattle.nx_base.specs.declared.access.Access.TheVariants.{Fetch, Load, Store}
use Rattle.nx_base.specs.declared.access.Mode.TheVariants.{User}
use Rattle.nx_ram.specs.Widths.{IsWidth}
use Rattle.nx_pmp.specs.declared.matching.Range.{Range}
use Rattle.nx_pmp.specs.Protection.{permits, decided, rules_from, allows}
use Rattle.nx_space.specs.World.{Common, Part}
use Rattle.nx_space.specs.Places.{Place, lies_in, place_in}
use Rattle.nx_space.specs.Shared.{ram_start}
use Rattle.nx_space.specs.Protected.{text_part, data_part, entries_of}
use Rattle.nx_space.proofs.Goods.{allows_part, is_placed}

-- an aligned access with a byte between two words' addresses has all its bytes there
aligned_low : (low at n : ℕ) → IsWidth n → at % n ≡ 0 → low % 4 ≡ 0 → low < at + n → low ≤ at
aligned_low low at n w a l h = ⊎_elim (λ e. omega (arith, e)) (λ r. ⊎_elim (λ e. let b : at % 2 ≡ 0 = ap (λ k. at % k) (sym e) ∙ a in omega (arith, e)) (λ e. let b : at % 4 ≡ 0 = ap (λ k. at % k) (sym e) ∙ a in omega (arith, e)) r) w

aligned_top : (top at n : ℕ) → IsWidth n → at % n ≡ 0 → top % 4 ≡ 0 → at < top → at + n ≤ top
aligned_top top at n w a l h = ⊎_elim (λ e. omega (arith, e)) (λ r. ⊎_elim (λ e. let b : at % 2 ≡ 0 = ap (λ k. at % k) (sym e) ∙ a in omega (arith, e)) (λ e. let b : at % 4 ≡ 0 = ap (λ k. at % k) (sym e) ∙ a in omega (arith, e)) r) w

pub both_ways : (a b : Bool) → (a ≡ true → b ≡ true) → (b ≡ true → a ≡ true) → a ≡ b
both_ways true b f g = sym (f refl)
both_ways false true f g = g refl
both_ways false false f g = refl

some_bytes : (n : ℕ) → IsWidth n → 1 ≤ n
some_bytes n w = ⊎_elim (λ e. omega (arith, e)) (λ r. ⊎_elim (λ e. omega (arith, e)) (λ e. omega (arith, e)) r) w

any_is_all : (low top at n : ℕ) → IsWidth n → at % n ≡ 0 → low % 4 ≡ 0 → top % 4 ≡ 0 → (nat_lt at top && nat_lt low (at + n)) ≡ (nat_le low at && nat_le (at + n) top)
any_is_all low top at n w a l t = both_ways _ _ all any
  where
    all : (nat_lt at top && nat_lt low (at + n)) ≡ true → (nat_le low at && nat_le (at + n) top) ≡ true
    all h =
        let p : at < top = grind (arith, nat_tests) in
        let q : low < at + n = grind (arith, nat_tests) in
        let r = aligned_low low at n w a l q in
        let s = aligned_top top at n w a t p in
        grind (arith, nat_tests, r, s)

    any : (nat_le low at && nat_le (at + n) top) ≡ true → (nat_lt at top && nat_lt low (at + n)) ≡ true
    any h =
        let o = some_bytes n w in
        let p : low ≤ at = grind (arith, nat_tests) in
        let q : at + n ≤ top = grind (arith, nat_tests) in
        grind (arith, nat_tests, p, q, o)

-- what the entries allow, in words of their bounds
two_ranges : (text middle end at n : ℕ) (access : Access) → text < middle → middle < end → text % 4 ≡ 0 → middle % 4 ≡ 0 → end % 4 ≡ 0 → allows (entries_of text middle end) at n access User
    ≡ (if nat_lt at middle && nat_lt text (at + n) then (nat_le text at && nat_le (at + n) middle) && permits 0x0D access User
    else (if nat_lt at end && nat_lt middle (at + n) then (nat_le middle at && nat_le (at + n) end) && permits 0x0B access User else false))
unfolding allows
two_ranges text middle end at n access o p t d e =
    let first : nat_lt (text / 4) (middle / 4) ≡ true = grind (arith, nat_tests) in
    let second : nat_lt (middle / 4) (end / 4) ≡ true = grind (arith, nat_tests) in
    let low : 4 * (text / 4) ≡ text = omega arith in
    let mid : 4 * (middle / 4) ≡ middle = omega arith in
    let top : 4 * (end / 4) ≡ end = omega arith in
    rw (first, second, low, mid, top) refl

rights_first : (access : Access) (text middle : ℕ) → permits 0x0D access User ≡ allows_part access (text_part text middle)
rights_first Fetch text middle = refl
rights_first Load text middle = refl
rights_first Store text middle = refl

rights_second : (access : Access) (middle end : ℕ) → permits 0x0B access User ≡ allows_part access (data_part middle end)
rights_second Fetch middle end = refl
rights_second Load middle end = refl
rights_second Store middle end = refl

-- the entries allow what a window holds and lets be done
pub allowed : (text middle end at n : ℕ) (access : Access) → text < middle → middle < end → text % 4 ≡ 0 → middle % 4 ≡ 0 → end % 4 ≡ 0 → IsWidth n → at % n ≡ 0 → allows (entries_of text middle end) at n access User ≡ is_placed (place_in (allows_part access) (text_part text middle ∷ data_part middle end ∷ []) at n)
unfolding place_in lies_in
allowed text middle end at n access o p t d e w a =
    let one = any_is_all text middle at n w a t d in
    let two = any_is_all middle end at n w a d e in
    let up : text + (middle - text) ≡ middle = omega arith in
    let down : middle + (end - middle) ≡ end = omega arith in
    two_ranges text middle end at n access o p t d e
    ∙ rw (one, two, rights_first access text middle, rights_second access middle end, up, down) (by_test (nat_le text at && nat_le (at + n) middle) (allows_part access (text_part text middle)) (nat_le middle at && nat_le (at + n) end) (allows_part access (data_part middle end)))
  where
    here : ℕ → Place
    here i = record { home = Common 0; at = i }

    by_test : (b x c y : Bool) → (if b then b && x else (if c then c && y else false)) ≡ is_placed (if b then (if x then Some (here (text - ram_start + (at - text))) else None) else (if c then (if y then Some (here (middle - ram_start + (at - middle))) else None) else None))
    by_test true true c y = refl
    by_test true false c y = refl
    by_test false x true true = refl
    by_test false x true false = refl
    by_test false x false y = refl
