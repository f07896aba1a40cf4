-- What is good depends on the windows alone, not on the bytes that they show.
use Rattle.std.proofs.Common.{◌≡◌, ℕ, zero, suc, ◌+◌, ◌-◌, ◌^◌, ◌==◌, Bool, true, false, List, [], ◌∷◌, length, take, drop, Option, Some, None, refl, sym, ap, ◌∙◌, arith}
use Rattle.std.specs.Prelude.{nat_le, ◌&&◌, ◌||◌, not, map, if◌then◌else◌}
use Rattle.std.proofs.lemmas.List.{length-take, length-drop}
use Rattle.nx_base.specs.declared.access.Access.{Access}
use Rattle.nx_base.specs.declared.access.Access.TheVariants.{Fetch, Load, Store}
use Rattle.nx_base.specs.ByteLists.{get_bytes}
use Rattle.nx_base.specs.Views.{Window, holds, find_bytes}
use Rattle.nx_base.specs.Good.{allows, serves, is_found, all_found, is_good}
use Rattle.nx_space.specs.World.{Home, Part, World, group_of, seen_by, view_of, window_of}
use Rattle.nx_space.specs.Places.{Place, place_in}
use Rattle.nx_space.proofs.Windows.{AreLaid, find_parts, bytes_at}

abbrev pub allows_part : Access → Part → Bool
allows_part Fetch p = p.runs
allows_part Load p = p.reads
allows_part Store p = p.writes

-- a window in which a pointer of a call may lie
abbrev pub serves_part : Access → Part → Bool
serves_part a p = allows_part a p && not p.region

abbrev pub is_placed : Option Place → Bool
is_placed None = false
is_placed (Some p) = true

-- each of the n bytes at an address has a place
unfoldable pub all_placed : (Part → Bool) → List Part → ℕ → ℕ → Bool
all_placed may ps at zero = true
all_placed may ps at (suc n) = is_placed (place_in may ps at 1) && all_placed may ps (at + 1) n

serves_is : (a : Access) (b : Home → List ℕ) (p : Part) → serves a (window_of b p) ≡ serves_part a p
serves_is Fetch b p = refl
serves_is Load b p = refl
serves_is Store b p = refl

found_is : (b : Home → List ℕ) (o : Option Place) (n : ℕ) → is_found (bytes_at b o n) ≡ is_placed o
found_is b None n = refl
found_is b (Some p) n = refl

all_in_view : (a : Access) (b : Home → List ℕ) (ps : List Part) (at n : ℕ) → AreLaid b ps → all_found (serves a) (map (window_of b) ps) at n ≡ all_placed (serves_part a) ps at n
unfolding all_found all_placed
all_in_view a b ps at zero h = refl
all_in_view a b ps at (suc n) h =
    let one = ap is_found (find_parts (serves_part a) (serves a) b ps at 1 (serves_is a b) h) ∙ found_is b (place_in (serves_part a) ps at 1) 1 in
    ap (λ t. t && all_found (serves a) (map (window_of b) ps) (at + 1) n) one
    ∙ ap (λ t. is_placed (place_in (serves_part a) ps at 1) && t) (all_in_view a b ps (at + 1) n h)

-- good is what has a place for each byte
pub good_placed : (w : World) (number at n : ℕ) (a : Access) → AreLaid (seen_by w number) (group_of w.groups number).parts → is_good (view_of w number) at n a ≡ ((n == 0) || (nat_le (at + n) (2 ^ 32) && all_placed (serves_part a) (group_of w.groups number).parts at n))
unfolding is_good
good_placed w number at n a h = ap (λ t. (n == 0) || (nat_le (at + n) (2 ^ 32) && t)) (all_in_view a (seen_by w number) (group_of w.groups number).parts at n h)

-- bytes of the same lengths
part_size : (b c : Home → List ℕ) (p : Part) → length (c p.home) ≡ length (b p.home) → length (take p.bytes (drop p.from (c p.home))) ≡ length (take p.bytes (drop p.from (b p.home)))
part_size b c p e =
    omega (arith, e, length-take p.bytes (drop p.from (c p.home)), length-drop p.from (c p.home), length-take p.bytes (drop p.from (b p.home)), length-drop p.from (b p.home))

found_alike : (a : Access) (b c : Home → List ℕ) (ps : List Part) (at n : ℕ) → ((h : Home) → length (c h) ≡ length (b h)) → is_found (find_bytes (serves a) (map (window_of c) ps) at n) ≡ is_found (find_bytes (serves a) (map (window_of b) ps) at n)
unfolding find_bytes holds
found_alike a b c [] at n e = refl
found_alike a b c (p ∷ ps) at n e =
    let size = part_size b c p (e p.home) in
    rw (size, serves_is a c p, serves_is a b p) (by_test (nat_le p.start at && nat_le (at + n) (p.start + length (take p.bytes (drop p.from (b p.home))))) (serves_part a p) (found_alike a b c ps at n e))
  where
    by_test : (t u : Bool) → is_found (find_bytes (serves a) (map (window_of c) ps) at n) ≡ is_found (find_bytes (serves a) (map (window_of b) ps) at n) → is_found (if t then (if u then Some (get_bytes (take p.bytes (drop p.from (c p.home))) (at - p.start) n) else None) else find_bytes (serves a) (map (window_of c) ps) at n) ≡ is_found (if t then (if u then Some (get_bytes (take p.bytes (drop p.from (b p.home))) (at - p.start) n) else None) else find_bytes (serves a) (map (window_of b) ps) at n)
    by_test true true h = refl
    by_test true false h = refl
    by_test false u h = h

all_alike : (a : Access) (b c : Home → List ℕ) (ps : List Part) (at n : ℕ) → ((h : Home) → length (c h) ≡ length (b h)) → all_found (serves a) (map (window_of c) ps) at n ≡ all_found (serves a) (map (window_of b) ps) at n
unfolding all_found
all_alike a b c ps at zero e = refl
all_alike a b c ps at (suc n) e =
    ap (λ t. t && all_found (serves a) (map (window_of c) ps) (at + 1) n) (found_alike a b c ps at 1 e)
    ∙ ap (λ t. is_found (find_bytes (serves a) (map (window_of b) ps) at 1) && t) (all_alike a b c ps (at + 1) n e)

-- a group whose windows are as they were, over bytes of the same lengths
pub good_alike : (v w : World) (g m at n : ℕ) (a : Access) → (group_of w.groups m).parts ≡ (group_of v.groups g).parts → ((h : Home) → length (seen_by w m h) ≡ length (seen_by v g h)) → is_good (view_of w m) at n a ≡ is_good (view_of v g) at n a
unfolding is_good
good_alike v w g m at n a parts long =
    ap (λ ps. (n == 0) || (nat_le (at + n) (2 ^ 32) && all_found (serves a) (map (window_of (seen_by w m)) ps) at n)) parts
    ∙ ap (λ t. (n == 0) || (nat_le (at + n) (2 ^ 32) && t)) (all_alike a (seen_by v g) (seen_by w m) (group_of v.groups g).parts at n long)
