-- What a space with one window answers.
use Rattle.std.proofs.Common.{◌≡◌, ℕ, zero, suc, ◌+◌, ◌-◌, ◌^◌, ◌<◌, ◌≤◌, ◌⊎◌, ◌==◌, Bool, true, false, ◌&&◌, ◌||◌, List, [], ◌∷◌, Option, Some, None, Ok, Err, refl, sym, ap, ◌∙◌, arith, ⊎_elim, inl, inr, zero-add}
use Rattle.std.specs.Prelude.{if◌then◌else◌, nat_le, not}
use Rattle.std.specs.Option.{is_some}
use Rattle.std.proofs.lemmas.Bool.{cases_lt}
use Rattle.std.proofs.lemmas.Bool.Decides.{nat_tests}
use Rattle.nx_base.specs.declared.access.Access.{Access}
use Rattle.nx_base.specs.declared.access.Access.TheVariants.{Fetch, Load, Store}
use Rattle.nx_base.specs.Good.{is_good}
use Rattle.nx_space.specs.World.{Home, Common, Part, IsEntered, view_in}
use Rattle.nx_space.specs.Places.{Place, lies_in, place_in}
use Rattle.nx_space.specs.Lawful.{IsWorld}
use Rattle.nx_space.specs.Shared.{ram_start, LieInRam, ram_place, Sharing, IsSharing, AreStraight}
use Rattle.nx_space.specs.Flat.{flat_part, flat_world, flat_lawful, is_flat_good}
use Rattle.nx_space.proofs.Goods.{serves_part, is_placed, all_placed, good_placed}
use Rattle.nx_space.proofs.Stores.{placed, lawful_laid}
use Rattle.nx_space.proofs.SharedAccesses.{spot, entered_parts}

-- the test of a place
abbrev pub fits : ℕ → ℕ → ℕ → Bool
fits size at n = nat_le ram_start at && nat_le (at + n) (ram_start + size)

pub fits_true : (size at n : ℕ) → LieInRam size at n → fits size at n ≡ true
fits_true size at n h = grind (arith, nat_tests, h.0, h.1)

pub fits_inside : (size at n : ℕ) → fits size at n ≡ true → LieInRam size at n
fits_inside size at n h = (grind (arith, nat_tests), grind (arith, nat_tests))

fits_out : (size at n : ℕ) → fits size at n ≡ false → (at < ram_start) ⊎ (ram_start + size < at + n)
fits_out size at n h =
    ⊎_elim inl (λ low. ⊎_elim inr (λ high. absurd (let t = fits_true size at n (low, high) in let c : true ≡ false = sym t ∙ h in cc)) (cases_lt (ram_start + size) (at + n))) (cases_lt at ram_start)

-- bytes with a place in the RAM lie in it
pub place_lies : (size at n i : ℕ) → Some i ≡ ram_place size at n → LieInRam size at n × (i ≡ at - ram_start)
place_lies size at n i e = by_test (fits size at n) refl e
  where
    by_test : (b : Bool) → fits size at n ≡ b → Some i ≡ (if b then Some (at - ram_start) else None) → LieInRam size at n × (i ≡ at - ram_start)
    by_test true t e = (fits_inside size at n t, cc)
    by_test false t e = absurd cc

pub place_inside : (size at n : ℕ) → LieInRam size at n → Some (at - ram_start) ≡ ram_place size at n
place_inside size at n h = sym (ap (λ b. if b then Some (at - ram_start) else None) (fits_true size at n h))

pub flat_straight : (size : ℕ) → AreStraight (flat_part size ∷ [])
flat_straight size = ((refl, refl), tt)

pub place_flat : (may : Part → Bool) (size at n : ℕ) → may (flat_part size) ≡ true → place_in may (flat_part size ∷ []) at n ≡ spot (ram_place size at n)
unfolding place_in lies_in
place_flat may size at n m = rw m (by_test (fits size at n))
  where
    by_test : (b : Bool) → (if b then (if true then Some (record { home = Common 0; at = 0 + (at - ram_start) }) else None) else None) ≡ spot (if b then Some (at - ram_start) else None)
    by_test true = ap (λ k. let o : Option Place = Some (record { home = Common 0; at = k }) in o) (zero-add (at - ram_start))
    by_test false = refl

-- one byte is placed where it lies in the RAM
byte_placed : (may : Part → Bool) (size at : ℕ) → may (flat_part size) ≡ true → is_placed (place_in may (flat_part size ∷ []) at 1) ≡ fits size at 1
byte_placed may size at m = ap is_placed (place_flat may size at 1 m) ∙ by_test (fits size at 1)
  where
    by_test : (b : Bool) → is_placed (spot (if b then Some (at - ram_start) else None)) ≡ b
    by_test true = refl
    by_test false = refl

all_true : (may : Part → Bool) (size at n : ℕ) → may (flat_part size) ≡ true → LieInRam size at n → all_placed may (flat_part size ∷ []) at n ≡ true
unfolding all_placed
all_true may size at zero m h = refl
all_true may size at (suc n) m h =
    ap (λ b. b && all_placed may (flat_part size ∷ []) (at + 1) n) (byte_placed may size at m ∙ fits_true size at 1 (omega (arith, h.0), omega (arith, h.1)))
    ∙ all_true may size (at + 1) n m (omega (arith, h.0), omega (arith, h.1))

all_false : (may : Part → Bool) (size at n : ℕ) → may (flat_part size) ≡ true → 1 ≤ n → (at < ram_start) ⊎ (ram_start + size < at + n) → all_placed may (flat_part size ∷ []) at n ≡ false
unfolding all_placed
all_false may size at zero m one out = absurd (omega arith)
all_false may size at (suc n) m one out = by_test (fits size at 1) refl (λ o f. all_false may size (at + 1) n m o f)
  where
    rest : Bool
    rest = all_placed may (flat_part size ∷ []) (at + 1) n

    by_test : (b : Bool) → fits size at 1 ≡ b → (1 ≤ n → (at + 1 < ram_start) ⊎ (ram_start + size < at + 1 + n) → rest ≡ false) → (is_placed (place_in may (flat_part size ∷ []) at 1) && rest) ≡ false
    by_test false h more = ap (λ b. b && rest) (byte_placed may size at m ∙ h)
    by_test true h more =
        let k = fits_inside size at 1 h in
        let far : ram_start + size < at + suc n = ⊎_elim (λ l. absurd (omega (arith, k.0, l))) (λ l. l) out in
        ap (λ b. b && rest) (byte_placed may size at m ∙ h)
        ∙ more (omega (arith, k.1)) (inr (omega arith))

pub good_flat : (s : Sharing) (at n : ℕ) (a : Access) → IsSharing s → IsEntered (flat_world s) → is_flat_good s.size at n ≡ is_good (view_in (flat_world s)) at n a
unfolding all_placed
good_flat s at n a h v =
    by_size n
    ∙ ap (λ ps. (n == 0) || (nat_le (at + n) (2 ^ 32) && all_placed (serves_part a) ps at n)) (sym (entered_parts (flat_part size ∷ []) 0 s v))
    ∙ sym (good_placed (flat_world s) s.entered at n a (lawful_laid (flat_world s) s.entered (flat_lawful s h) v))
  where
    size : ℕ
    size = s.size

    may_all : (a : Access) → serves_part a (flat_part size) ≡ true
    may_all Fetch = refl
    may_all Load = refl
    may_all Store = refl

    and_false : (b : Bool) → (b && false) ≡ false
    and_false true = refl
    and_false false = refl

    by_test : (k : ℕ) → 1 ≤ k → (b : Bool) → fits size at k ≡ b → is_some (if b then Some (at - ram_start) else None) ≡ (nat_le (at + k) (2 ^ 32) && all_placed (serves_part a) (flat_part size ∷ []) at k)
    by_test k one true t =
        let i = fits_inside size at k t in
        let fit = h.fits.small in
        let w : nat_le (at + k) (2 ^ 32) ≡ true = grind (arith, nat_tests, i.1, fit) in
        sym (ap (λ b. b && all_placed (serves_part a) (flat_part size ∷ []) at k) w ∙ all_true (serves_part a) size at k (may_all a) i)
    by_test k one false t =
        let f = all_false (serves_part a) size at k (may_all a) one (fits_out size at k t) in
        sym (ap (λ b. nat_le (at + k) (2 ^ 32) && b) f ∙ and_false (nat_le (at + k) (2 ^ 32)))

    by_size : (k : ℕ) → is_flat_good size at k ≡ ((k == 0) || (nat_le (at + k) (2 ^ 32) && all_placed (serves_part a) (flat_part size ∷ []) at k))
    by_size zero = refl
    by_size (suc k) =
        let z : (suc k == 0) ≡ false = grind (arith, nat_tests) in
        ap (λ b. b || is_some (ram_place size at (suc k))) z
        ∙ by_test (suc k) (omega arith) (fits size at (suc k)) refl
        ∙ sym (ap (λ b. b || (nat_le (at + suc k) (2 ^ 32) && all_placed (serves_part a) (flat_part size ∷ []) at (suc k))) z)

-- a byte that is good lies in the RAM
pub good_inside : (s : Sharing) (at : ℕ) (a : Access) → IsSharing s → IsEntered (flat_world s) → is_good (view_in (flat_world s)) at 1 a ≡ true → LieInRam s.size at 1
good_inside s at a h v g = fits_inside s.size at 1 (by_test (fits s.size at 1) (good_flat s at 1 a h v ∙ g))
  where
    by_test : (b : Bool) → is_some (if b then Some (at - ram_start) else None) ≡ true → b ≡ true
    by_test true e = refl
    by_test false e = absurd cc
