-- What is good in the entered view is what the walk gives an address.
use Rattle.std.proofs.Common.{◌≡◌, ◌≢◌, ℕ, zero, suc, ◌+◌, ◌-◌, ◌^◌, ◌<◌, ◌≤◌, ◌==◌, Bool, true, false, ◌&&◌, ◌||◌, not, Option, Some, None, List, refl, sym, ap, ◌∙◌, arith}
use Rattle.std.specs.Prelude.{nat_le, Result}
use Rattle.std.specs.Result.{is_err}
use Rattle.nx_sv32.specs.declared.sv32.PageFault.{PageFault}
use Rattle.std.specs.Option.{is_some}
use Rattle.std.proofs.lemmas.Bool.Decides.{nat_tests}
use Rattle.nx_base.specs.declared.access.Access.{Access}
use Rattle.nx_base.specs.declared.access.Access.TheVariants.{Fetch, Load, Store}
use Rattle.nx_base.specs.Good.{is_good}
use Rattle.nx_sv32.specs.Walk.{walk, or_fault}
use Rattle.nx_tables.specs.Maps.{satp_of, lets}
use Rattle.nx_space.specs.World.{IsEntered, group_in, view_in}
use Rattle.nx_space.specs.Places.{place_in}
use Rattle.nx_space.proofs.Stores.{lawful_laid}
use Rattle.nx_space.proofs.Goods.{serves_part, is_placed, all_placed, good_placed}
use Rattle.nx_paged.specs.Tenants.{root_of}
use Rattle.nx_paged.specs.Spans.{Span, part_of}
use Rattle.nx_paged.specs.Walks.{all_walked}
use Rattle.nx_paged.specs.Paging.{Paging, paged_plan, paged_world, IsPlaced, IsPaged}
use Rattle.nx_paged.specs.Lawful.{paged_lawful}
use Rattle.nx_paged.proofs.Accesses.{one_byte, walked, entered_tenant, entered_resolved, entered_refused}

and_true : (a : Bool) → (a && true) ≡ a
and_true true = refl
and_true false = refl

pub serves_lets : (access : Access) (k : ℕ) (s : Span) → serves_part access (part_of k s) ≡ lets s.writes access
serves_lets Fetch k s = and_true (not s.writes)
serves_lets Load k s = refl
serves_lets Store k s = and_true s.writes

-- one byte
byte_placed : (s : Paging) (p : IsPaged s) (access : Access) (at : ℕ) → IsEntered (paged_world s) → at < 4294967296 → is_placed (place_in (serves_part access) (group_in (paged_world s)).parts at 1) ≡ is_some (walked s at access)
byte_placed s p access at v small = by_walk (walked s at access) refl
  where
    by_walk : (o : Option ℕ) → walked s at access ≡ o → is_placed (place_in (serves_part access) (group_in (paged_world s)).parts at 1) ≡ is_some o
    by_walk None e = ap is_placed (entered_refused s p (serves_part access) access at 1 v (serves_lets access) (one_byte at small) e)
    by_walk (Some to) e =
        let f = entered_tenant s p v in
        let r = entered_resolved s p.role f (serves_part access) access at 1 to (serves_lets access) (one_byte at small) e in
        ap (λ g. is_placed (place_in (serves_part access) g.parts at 1)) (f.group_is s.ram (paged_plan s)) ∙ ap is_placed r.place

all_bytes : (s : Paging) (p : IsPaged s) (access : Access) (at n : ℕ) → IsEntered (paged_world s) → at + n ≤ 4294967296 → all_placed (serves_part access) (group_in (paged_world s)).parts at n ≡ all_walked s.ram (satp_of (root_of s.tenants s.entered)) access at n
unfolding all_placed all_walked
all_bytes s p access at zero v top = refl
all_bytes s p access at (suc n) v top =
    ap (λ b. b && all_placed (serves_part access) (group_in (paged_world s)).parts (at + 1) n) (byte_placed s p access at v (omega (arith, top)))
    ∙ ap (λ b. is_some (walked s at access) && b) (all_bytes s p access (at + 1) n v (omega (arith, top)))

pub good_walked : (s : Paging) (p : IsPaged s) (access : Access) (at n : ℕ) → IsPlaced s → IsEntered (paged_world s) → is_good (view_in (paged_world s)) at n access ≡ ((n == 0) || (nat_le (at + n) (2 ^ 32) && all_walked s.ram (satp_of (root_of s.tenants s.entered)) access at n))
good_walked s p access at n h v =
    good_placed (paged_world s) s.entered at n access (lawful_laid (paged_world s) s.entered (paged_lawful s h) v)
    ∙ by_test (nat_le (at + n) (2 ^ 32)) refl
  where
    by_test : (b : Bool) → nat_le (at + n) (2 ^ 32) ≡ b → ((n == 0) || (b && all_placed (serves_part access) (group_in (paged_world s)).parts at n)) ≡ ((n == 0) || (b && all_walked s.ram (satp_of (root_of s.tenants s.entered)) access at n))
    by_test true e = let top : at + n ≤ 4294967296 = grind (arith, nat_tests, e) in ap (λ b. (n == 0) || b) (all_bytes s p access at n v top)
    by_test false e = refl

-- a byte that is good has an address
pub good_byte : (s : Paging) (p : IsPaged s) (access : Access) (at : ℕ) → IsPlaced s → IsEntered (paged_world s) → is_good (view_in (paged_world s)) at 1 access ≡ true → is_some (walked s at access) ≡ true
unfolding all_walked
good_byte s p access at h v e = by_parts (nat_le (at + 1) (2 ^ 32)) (is_some (walked s at access)) (sym (good_walked s p access at 1 h v) ∙ e)
  where
    by_parts : (a b : Bool) → (a && (b && true)) ≡ true → b ≡ true
    by_parts true true q = refl
    by_parts true false q = q
    by_parts false b q = absurd cc

-- one test more along a buffer
pub walked_more : (ram : List ℕ) (satp : ℕ) (access : Access) (at i n : ℕ) → i < n → all_walked ram satp access (at + i) (n - i) ≡ (is_some (walk ram satp (at + i) access) && all_walked ram satp access (at + (i + 1)) (n - (i + 1)))
unfolding all_walked
walked_more ram satp access at i n h =
    let e : n - i ≡ suc (n - (i + 1)) = omega (arith, h) in
    let g : at + i + 1 ≡ at + (i + 1) = omega arith in
    ap (all_walked ram satp access (at + i)) e
    ∙ ap (λ a. is_some (walk ram satp (at + i) access) && all_walked ram satp access a (n - (i + 1))) g

pub walked_none : (ram : List ℕ) (satp : ℕ) (access : Access) (at i n : ℕ) → n ≤ i → all_walked ram satp access (at + i) (n - i) ≡ true
unfolding all_walked
walked_none ram satp access at i n h = let e : n - i ≡ 0 = omega (arith, h) in ap (all_walked ram satp access (at + i)) e

-- what the code's answer says
pub fault_is : (o : Option ℕ) (r : Result ℕ PageFault) → r ≡ or_fault o → is_some o ≡ not (is_err r)
fault_is None r e = ap (λ z. not (is_err z)) (sym e)
fault_is (Some to) r e = ap (λ z. not (is_err z)) (sym e)

pub first_true : (n : ℕ) (b : Bool) → n ≡ 0 → (n == 0) ≡ ((n == 0) || b)
first_true n b e = let t : (n == 0) ≡ true = grind (arith, nat_tests) in t ∙ sym (ap (λ x. x || b) t)

pub first_false : (n m : ℕ) (b : Bool) → n ≢ 0 → m ≤ 2 ^ 32 → b ≡ ((n == 0) || (nat_le m (2 ^ 32) && b))
first_false n m b ne le =
    let t : (n == 0) ≡ false = grind (arith, nat_tests) in
    let u : nat_le m (2 ^ 32) ≡ true = grind (arith, nat_tests) in
    sym (ap (λ x. x || (nat_le m (2 ^ 32) && b)) t ∙ ap (λ x. x && b) u)

pub none_true : (n m : ℕ) (b : Bool) → n ≢ 0 → 2 ^ 32 < m → nat_le m (2 ^ 32) ≡ ((n == 0) || (nat_le m (2 ^ 32) && b))
none_true n m b ne lt =
    let t : (n == 0) ≡ false = grind (arith, nat_tests) in
    let u : nat_le m (2 ^ 32) ≡ false = grind (arith, nat_tests) in
    u ∙ sym (ap (λ x. x || (nat_le m (2 ^ 32) && b)) t ∙ ap (λ x. x && b) u)
