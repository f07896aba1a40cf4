-- What a protected space answers.
use Rattle.std.proofs.Common.{◌≡◌, ℕ, zero, suc, ◌+◌, ◌-◌, ◌*◌, ◌%◌, ◌^◌, ◌<◌, ◌≤◌, ◌==◌, Bool, true, false, ◌&&◌, ◌||◌, List, [], ◌∷◌, length, Option, Some, None, refl, sym, ap, ◌∙◌, arith}
use Rattle.std.specs.Prelude.{if◌then◌else◌, nat_le, not}
use Rattle.std.proofs.lemmas.Bool.Decides.{nat_tests}
use Rattle.nx_base.specs.declared.access.Access.{Access}
use Rattle.nx_base.specs.declared.access.Access.TheVariants.{Fetch, Load, Store}
use Rattle.nx_base.specs.declared.access.Mode.TheVariants.{User}
use Rattle.nx_base.specs.Good.{allows as may, is_found, is_good}
use Rattle.nx_base.specs.Views.{find_bytes}
use Rattle.nx_ram.specs.Widths.{IsWidth}
use Rattle.nx_pmp.specs.declared.pmp.Pmp.{Pmp}
use Rattle.nx_pmp.specs.Protection.{allows}
use Rattle.nx_space.specs.World.{Home, Common, Part, IsEntered, group_in, bytes_of, seen_by, window_of, view_in}
use Rattle.nx_space.specs.Places.{Place, lies_in, place_in}
use Rattle.nx_space.specs.Shared.{ram_start, AreStraight, Sharing, IsSharing}
use Rattle.nx_space.specs.Protected.{bound, text_part, data_part, protected_parts, protected_world, IsProtected, protected_shared, protected_lawful, low_of, top_of, is_protected_good}
use Rattle.nx_space.proofs.Allowed.{allowed, both_ways}
use Rattle.nx_space.proofs.Goods.{allows_part, serves_part, is_placed, all_placed, good_placed}
use Rattle.nx_space.proofs.Stores.{lawful_laid}
use Rattle.nx_space.proofs.Windows.{within, laid, place_fits, find_parts, bytes_at}
use Rattle.nx_space.proofs.SharedAccesses.{spot, entered_parts}
use Rattle.nx_space.proofs.SharedStarts.{straight_place}

pub protected_straight : (pmp : Pmp) (s : Sharing) → IsProtected pmp s → AreStraight (protected_parts pmp)
protected_straight pmp s p =
    let low = p.fits.low in
    let texts = p.fits.texts in
    ((refl, omega (arith, low)), ((refl, omega (arith, low, texts)), tt))

-- the entries allow an aligned access where a window does
allowed_placed : (pmp : Pmp) (s : Sharing) (at n : ℕ) (access : Access) → IsProtected pmp s → IsWidth n → at % n ≡ 0 → allows pmp at n access User ≡ is_placed (place_in (allows_part access) (protected_parts pmp) at n)
allowed_placed pmp s at n access p w a =
    let f = p.fits in
    let end = p.end in
    ap (λ q. allows q at n access User) p.entries
    ∙ allowed (bound pmp 0) (bound pmp 1) (bound pmp 2) at n access f.texts (omega (arith, f.some, end)) f.words.0 f.words.1 (ap (λ k. k % 4) end ∙ f.words.2) w a

placed_some : (o : Option Place) → is_placed o ≡ true → (pl : Place) × (o ≡ Some pl)
placed_some None h = absurd cc
placed_some (Some pl) h = (pl, refl)

placed_none : (o : Option Place) → is_placed o ≡ false → o ≡ None
placed_none None h = refl
placed_none (Some pl) h = absurd cc

straight_low : (may : Part → Bool) (ps : List Part) (at n : ℕ) (pl : Place) → AreStraight ps → place_in may ps at n ≡ Some pl → ram_start ≤ at
unfolding place_in
straight_low may [] at n pl s e = absurd cc
straight_low may (p ∷ ps) at n pl s e = by_test (lies_in p at n) refl e (λ r. straight_low may ps at n pl s.1 r)
  where
    by_test : (b : Bool) → lies_in p at n ≡ b → (if b then (if may p then Some (record { home = p.home; at = p.from + (at - p.start) }) else None) else place_in may ps at n) ≡ Some pl → (place_in may ps at n ≡ Some pl → ram_start ≤ at) → ram_start ≤ at
    by_test true h e more = let k = within p at n h in let q = s.0.1 in omega (arith, k.0, q)
    by_test false h e more = more e

-- where bytes with a place stand
pub record Stands (pmp : Pmp) (s : Sharing) (at n : ℕ) (access : Access) : Type 0 where
  pub place : place_in (allows_part access) (protected_parts pmp) at n ≡ spot (Some (at - ram_start))
  pub low : ram_start ≤ at
  pub fits : at - ram_start + n ≤ s.size

stands : (pmp : Pmp) (s : Sharing) (at n : ℕ) (access : Access) → IsSharing s → IsProtected pmp s → is_placed (place_in (allows_part access) (protected_parts pmp) at n) ≡ true → Stands pmp s at n access
stands pmp s at n access h p e =
    let o = placed_some (place_in (allows_part access) (protected_parts pmp) at n) e in
    let straight = protected_straight pmp s p in
    let is = straight_place (allows_part access) (protected_parts pmp) at n o.0 straight o.1 in
    let place = o.1 ∙ sym is in
    let shared = protected_shared pmp s h p in
    let fit = place_fits (allows_part access) (bytes_of (s.ram ∷ []) []) (protected_parts pmp) at n _ (laid (s.ram ∷ []) [] (protected_parts pmp) shared.parts) place in
    let whole = h.whole in
    record { place = place; low = straight_low (allows_part access) (protected_parts pmp) at n o.0 straight o.1; fits = omega (arith, fit, whole) }

pub asked_true : (pmp : Pmp) (s : Sharing) (at n : ℕ) (access : Access) (answer : Bool) → IsSharing s → IsProtected pmp s → IsWidth n → at % n ≡ 0 → answer ≡ allows pmp at n access User → answer ≡ true → Stands pmp s at n access
asked_true pmp s at n access answer h p w a e t = stands pmp s at n access h p (sym (allowed_placed pmp s at n access p w a) ∙ sym e ∙ t)

pub asked_false : (pmp : Pmp) (s : Sharing) (at n : ℕ) (access : Access) (answer : Bool) → IsSharing s → IsProtected pmp s → IsWidth n → at % n ≡ 0 → answer ≡ allows pmp at n access User → answer ≡ false → place_in (allows_part access) (protected_parts pmp) at n ≡ None
asked_false pmp s at n access answer h p w a e t = placed_none _ (sym (allowed_placed pmp s at n access p w a) ∙ sym e ∙ t)

-- no window is a region's
served : (pmp : Pmp) (at n : ℕ) (access : Access) → place_in (serves_part access) (protected_parts pmp) at n ≡ place_in (allows_part access) (protected_parts pmp) at n
unfolding place_in
served pmp at n Fetch = refl
served pmp at n Load = refl
served pmp at n Store = refl

-- a byte is placed between two bounds
byte_placed : (pmp : Pmp) (s : Sharing) (k : ℕ) (access : Access) → IsProtected pmp s → is_placed (place_in (serves_part access) (protected_parts pmp) k 1) ≡ (nat_le (low_of pmp access) k && nat_le (k + 1) (top_of pmp access))
unfolding place_in lies_in
byte_placed pmp s k access p = rw (up, down) (by_access access)
  where
    text : ℕ
    text = bound pmp 0

    middle : ℕ
    middle = bound pmp 1

    end : ℕ
    end = bound pmp 2

    texts : text < middle
    texts = p.fits.texts

    some : middle < end
    some = let f = p.fits.some in let e = p.end in omega (arith, f, e)

    up : text + (middle - text) ≡ middle
    up = omega (arith, texts)

    down : middle + (end - middle) ≡ end
    down = omega (arith, some)

    place : ℕ → Place
    place i = record { home = Common 0; at = i }

    found : Bool → Bool → Bool → Bool → Bool
    found b x c y = is_placed (if b then (if x then Some (place (text - ram_start + (k - text))) else None) else (if c then (if y then Some (place (middle - ram_start + (k - middle))) else None) else None))

    first : Bool
    first = nat_le text k && nat_le (k + 1) middle

    second : Bool
    second = nat_le middle k && nat_le (k + 1) end

    run : (b c : Bool) → found b true c false ≡ b
    run true c = refl
    run false true = refl
    run false false = refl

    written : (b c : Bool) → (b ≡ true → c ≡ false) → found b false c true ≡ c
    written true c f = sym (f refl)
    written false true f = refl
    written false false f = refl

    read : (b c : Bool) → found b true c true ≡ (b || c)
    read true c = refl
    read false true = refl
    read false false = refl

    apart : first ≡ true → second ≡ false
    apart h = let q : k + 1 ≤ middle = grind (arith, nat_tests) in grind (arith, nat_tests, q)

    joined : (first || second) ≡ (nat_le text k && nat_le (k + 1) end)
    joined = grind (arith, nat_tests, texts, some)

    by_access : (a : Access) → found first (serves_part a (text_part text middle)) second (serves_part a (data_part middle end)) ≡ (nat_le (low_of pmp a) k && nat_le (k + 1) (top_of pmp a))
    by_access Fetch = run first second
    by_access Load = read first second ∙ joined
    by_access Store = written first second apart

-- bytes are placed where they lie between the bounds
all_span : (may : Part → Bool) (ps : List Part) (low top : ℕ) → ((k : ℕ) → is_placed (place_in may ps k 1) ≡ (nat_le low k && nat_le (k + 1) top)) → (at n : ℕ) → all_placed may ps at (suc n) ≡ (nat_le low at && nat_le (at + suc n) top)
unfolding all_placed
all_span may ps low top byte at zero =
    let e : at + 1 ≡ at + suc zero = refl in
    ap (λ b. b && true) (byte at) ∙ and_true (nat_le low at && nat_le (at + 1) top)
  where
    and_true : (b : Bool) → (b && true) ≡ b
    and_true true = refl
    and_true false = refl
all_span may ps low top byte at (suc n) =
    ap (λ b. b && all_placed may ps (at + 1) (suc n)) (byte at)
    ∙ ap (λ b. (nat_le low at && nat_le (at + 1) top) && b) (all_span may ps low top byte (at + 1) n)
    ∙ (let e : ((nat_le low at && nat_le (at + 1) top) && (nat_le low (at + 1) && nat_le (at + 1 + suc n) top)) ≡ (nat_le low at && nat_le (at + suc (suc n)) top) = grind (arith, nat_tests) in e)

pub good_protected : (pmp : Pmp) (s : Sharing) (at n : ℕ) (a : Access) → IsSharing s → IsProtected pmp s → IsEntered (protected_world pmp s) → is_protected_good pmp at n a ≡ is_good (view_in (protected_world pmp s)) at n a
good_protected pmp s at n a h p v =
    by_size n
    ∙ ap (λ ps. (n == 0) || (nat_le (at + n) (2 ^ 32) && all_placed (serves_part a) ps at n)) (sym (entered_parts (protected_parts pmp) (bound pmp 0 - ram_start) s v))
    ∙ sym (good_placed (protected_world pmp s) s.entered at n a (lawful_laid (protected_world pmp s) s.entered (protected_lawful pmp s h p) v))
  where
    top_small : (a : Access) → top_of pmp a ≤ 2 ^ 32
    top_small Fetch = let f = p.fits in let e = p.end in omega (arith, f.some, f.top, f.small, e)
    top_small Load = let f = p.fits in let e = p.end in omega (arith, f.top, f.small, e)
    top_small Store = let f = p.fits in let e = p.end in omega (arith, f.top, f.small, e)

    small : (k : ℕ) → (nat_le (low_of pmp a) at && nat_le (at + k) (top_of pmp a)) ≡ (nat_le (at + k) (2 ^ 32) && (nat_le (low_of pmp a) at && nat_le (at + k) (top_of pmp a)))
    small k = let t = top_small a in grind (arith, nat_tests, t)

    by_size : (k : ℕ) → is_protected_good pmp at k a ≡ ((k == 0) || (nat_le (at + k) (2 ^ 32) && all_placed (serves_part a) (protected_parts pmp) at k))
    by_size zero = refl
    by_size (suc k) =
        ap (λ b. (suc k == 0) || b) (small (suc k))
        ∙ ap (λ b. (suc k == 0) || (nat_le (at + suc k) (2 ^ 32) && b)) (sym (all_span (serves_part a) (protected_parts pmp) (low_of pmp a) (top_of pmp a) (λ j. byte_placed pmp s j a p) at k))

-- a byte that is good has a place
pub good_stands : (pmp : Pmp) (s : Sharing) (at : ℕ) (a : Access) → IsSharing s → IsProtected pmp s → IsEntered (protected_world pmp s) → is_good (view_in (protected_world pmp s)) at 1 a ≡ true → Stands pmp s at 1 a
good_stands pmp s at a h p v g =
    let e : (nat_le (low_of pmp a) at && nat_le (at + 1) (top_of pmp a)) ≡ true = good_protected pmp s at 1 a h p v ∙ g in
    stands pmp s at 1 a h p (ap is_placed (sym (served pmp at 1 a)) ∙ byte_placed pmp s at a p ∙ e)

may_is : (a : Access) (b : Home → List ℕ) (p : Part) → may a (window_of b p) ≡ allows_part a p
may_is Fetch b p = refl
may_is Load b p = refl
may_is Store b p = refl

found_placed : (b : Home → List ℕ) (o : Option Place) (n : ℕ) → is_placed o ≡ is_found (bytes_at b o n)
found_placed b None n = refl
found_placed b (Some pl) n = refl

-- the entries allow what the entered view does
pub allowed_found : (pmp : Pmp) (s : Sharing) (at n : ℕ) (access : Access) → IsSharing s → IsProtected pmp s → IsEntered (protected_world pmp s) → IsWidth n → at % n ≡ 0 → allows pmp at n access User ≡ is_found (find_bytes (may access) (view_in (protected_world pmp s)).windows at n)
allowed_found pmp s at n access h p v w a =
    let world = protected_world pmp s in
    let b = seen_by world s.entered in
    let shown = lawful_laid world s.entered (protected_lawful pmp s h p) v in
    allowed_placed pmp s at n access p w a
    ∙ ap (λ ps. is_placed (place_in (allows_part access) ps at n)) (sym (entered_parts (protected_parts pmp) (bound pmp 0 - ram_start) s v))
    ∙ found_placed b (place_in (allows_part access) (group_in world).parts at n) n
    ∙ ap is_found (sym (find_parts (allows_part access) (may access) b (group_in world).parts at n (may_is access b) shown))
