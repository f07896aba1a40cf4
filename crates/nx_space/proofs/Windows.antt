-- What windows show of the bytes that they stand over, and what a store leaves in them.
use Rattle.std.proofs.Common.{◌≡◌, ◌≢◌, ℕ, ◌+◌, ◌-◌, ◌<◌, ◌≤◌, ◌⊎◌, Bool, true, false, List, [], ◌∷◌, length, take, drop, Option, Some, None, refl, sym, ap, ◌∙◌, subst, arith, ⊎_elim, inl, inr}
use Rattle.std.specs.Prelude.{if◌then◌else◌, nat_le, ◌&&◌, map}
use Rattle.std.proofs.lemmas.Bool.{cases_eq}
use Rattle.std.proofs.lemmas.Bool.Decides.{nat_tests}
use Rattle.std.proofs.lemmas.List.{length-take, length-drop}
use Rattle.nx_base.specs.ByteLists.{get_bytes, put_bytes}
use Rattle.nx_base.specs.Views.{Window, holds, find_bytes, put_in, and_before}
use Rattle.nx_space.specs.World.{Home, Common, Own, Part, window_of, bytes_of}
use Rattle.nx_space.specs.Places.{Place, lies_in, place_in}
use Rattle.nx_space.specs.Lawful.{IsApartFrom, IsThere, AreParts, IsOutside}
use Rattle.nx_space.proofs.Bytes.{get_in_part, put_in_part, put_other_part}

-- windows lie in the bytes that they show, and apart from one another
abbrev pub AreLaid : (Home → List ℕ) → List Part → Type 0
AreLaid b [] = Unit {0}
AreLaid b (p ∷ ps) = (p.from + p.bytes ≤ length (b p.home)) × IsApartFrom p ps × AreLaid b ps

pub laid : (common own : List (List ℕ)) (ps : List Part) → AreParts common own ps → AreLaid (bytes_of common own) ps
laid common own [] a = tt
laid common own (p ∷ ps) a = (a.0.1, a.1.0, laid common own ps a.1.1)

-- these bytes are the others with some put at a place
pub record IsPut (b c : Home → List ℕ) (pl : Place) (xs : List ℕ) : Type 0 where
  pub fits : pl.at + length xs ≤ length (b pl.home)
  pub same : c pl.home ≡ put_bytes (b pl.home) pl.at xs
  pub other : (h : Home) → h ≢ pl.home → c h ≡ b h

-- two homes are one, or not
pub cases_home : (h k : Home) → (h ≡ k) ⊎ (h ≢ k)
cases_home (Common i) (Common j) = ⊎_elim (λ e. inl (ap Common e)) (λ ne. inr (λ e. ne (let f : i ≡ j = cc in f))) (cases_eq i j)
cases_home (Own i) (Own j) = ⊎_elim (λ e. inl (ap Own e)) (λ ne. inr (λ e. ne (let f : i ≡ j = cc in f))) (cases_eq i j)
cases_home (Common i) (Own j) = inr (λ e. absurd cc)
cases_home (Own i) (Common j) = inr (λ e. absurd cc)

-- a window holds what lies in its part
pub holds_part : (b : Home → List ℕ) (p : Part) (at n : ℕ) → p.from + p.bytes ≤ length (b p.home) → holds (window_of b p) at n ≡ lies_in p at n
unfolding holds lies_in
holds_part b p at n h =
    let l : length (take p.bytes (drop p.from (b p.home))) ≡ p.bytes =
    omega (arith, length-take p.bytes (drop p.from (b p.home)), length-drop p.from (b p.home)) in
    ap (λ k. nat_le p.start at && nat_le (at + n) (p.start + k)) l

pub within : (p : Part) (at n : ℕ) → lies_in p at n ≡ true → (p.start ≤ at) × (at + n ≤ p.start + p.bytes)
unfolding lies_in
within p at n h = (grind (arith, nat_tests), grind (arith, nat_tests))

abbrev pub bytes_at : (Home → List ℕ) → Option Place → ℕ → Option (List ℕ)
bytes_at b None n = None
bytes_at b (Some p) n = Some (get_bytes (b p.home) p.at n)

-- what a view finds is what stands at the place
pub find_parts : (may : Part → Bool) (see : Window → Bool) (b : Home → List ℕ) (ps : List Part) (at n : ℕ) → ((p : Part) → see (window_of b p) ≡ may p) → AreLaid b ps → find_bytes see (map (window_of b) ps) at n ≡ bytes_at b (place_in may ps at n) n
unfolding find_bytes place_in
find_parts may see b [] at n s a = refl
find_parts may see b (p ∷ ps) at n s a =
    rw (holds_part b p at n a.0, s p) (by_test (lies_in p at n) refl (may p) (find_parts may see b ps at n s a.2))
  where
    by_test : (t : Bool) → lies_in p at n ≡ t → (c : Bool) → find_bytes see (map (window_of b) ps) at n ≡ bytes_at b (place_in may ps at n) n → (if t then (if c then Some (get_bytes (take p.bytes (drop p.from (b p.home))) (at - p.start) n) else None) else find_bytes see (map (window_of b) ps) at n) ≡ bytes_at b (if t then (if c then Some (record { home = p.home; at = p.from + (at - p.start) }) else None) else place_in may ps at n) n
    by_test true h true rest = let k = within p at n h in ap Some (get_in_part (b p.home) p.from p.bytes (at - p.start) _ n refl (omega arith))
    by_test true h false rest = refl
    by_test false h c rest = rest

-- the bytes at a place are none of a part's
abbrev IsFree : Place → ℕ → Part → Type 0
IsFree pl n p = (p.home ≢ pl.home) ⊎ ((p.from + p.bytes ≤ pl.at) ⊎ (pl.at + n ≤ p.from))

abbrev with_part : Part → List ℕ → Window
with_part p bytes = record { start = p.start; reads = p.reads; writes = p.writes; runs = p.runs; region = p.region; bytes = bytes }

-- a part that shares no byte with a place
window_other : (b c : Home → List ℕ) (pl : Place) (xs : List ℕ) (p : Part) → IsPut b c pl xs → IsFree pl (length xs) p → window_of c p ≡ window_of b p
window_other b c pl xs p put free = ⊎_elim same other (cases_home p.home pl.home)
  where
    other : p.home ≢ pl.home → window_of c p ≡ window_of b p
    other e = ap (λ bs. with_part p (take p.bytes (drop p.from bs))) (put.other p.home e)

    shown : p.home ≡ pl.home → c p.home ≡ put_bytes (b p.home) pl.at xs
    shown e = ap c e ∙ put.same ∙ ap (λ h. put_bytes (b h) pl.at xs) (sym e)

    same : p.home ≡ pl.home → window_of c p ≡ window_of b p
    same e =
        let size = ap (λ h. length (b h)) e in
        ⊎_elim other (λ out.
        ap (λ bs. with_part p (take p.bytes (drop p.from bs))) (shown e)
        ∙ ap (with_part p) (put_other_part (b p.home) pl.at xs p.from p.bytes (omega (arith, put.fits, size)) out)) free

-- the cases of a place
data Placed (may : Part → Bool) (p : Part) (ps : List Part) (at n : ℕ) (pl : Place) : Type 0 where
  here : lies_in p at n ≡ true → may p ≡ true → pl.home ≡ p.home → pl.at ≡ p.from + (at - p.start) → Placed may p ps at n pl
  later : lies_in p at n ≡ false → place_in may ps at n ≡ Some pl → Placed may p ps at n pl

placed : (may : Part → Bool) (p : Part) (ps : List Part) (at n : ℕ) (pl : Place) → place_in may (p ∷ ps) at n ≡ Some pl → Placed may p ps at n pl
unfolding place_in
placed may p ps at n pl e = by_test (lies_in p at n) refl e
  where
    there : Place
    there = record { home = p.home; at = p.from + (at - p.start) }

    by_may : (b : Bool) → may p ≡ b → lies_in p at n ≡ true → (if b then Some there else None) ≡ Some pl → Placed may p ps at n pl
    by_may true m h e = let f : there ≡ pl = cc in here h m (ap (λ q. q.home) (sym f)) (ap (λ q. q.at) (sym f))
    by_may false m h e = absurd cc

    by_test : (b : Bool) → lies_in p at n ≡ b → (if b then (if may p then Some there else None) else place_in may ps at n) ≡ Some pl → Placed may p ps at n pl
    by_test true h e = by_may (may p) refl h e
    by_test false h e = later h e

-- a place that is found has its bytes
pub place_fits : (may : Part → Bool) (b : Home → List ℕ) (ps : List Part) (at n : ℕ) (pl : Place) → AreLaid b ps → place_in may ps at n ≡ Some pl → pl.at + n ≤ length (b pl.home)
unfolding place_in
place_fits may b [] at n pl a e = absurd cc
place_fits may b (p ∷ ps) at n pl a e = by_case (λ r. place_fits may b ps at n pl a.2 r) (placed may p ps at n pl e)
  where
    by_case : (place_in may ps at n ≡ Some pl → pl.at + n ≤ length (b pl.home)) → Placed may p ps at n pl → pl.at + n ≤ length (b pl.home)
    by_case more (here h m s i) = let k = within p at n h in let size = ap (λ h. length (b h)) s in omega (arith, k.0, k.1, i, size, a.0)
    by_case more (later h r) = more r

pub place_there : (may : Part → Bool) (common own : List (List ℕ)) (ps : List Part) (at n : ℕ) (pl : Place) → AreParts common own ps → place_in may ps at n ≡ Some pl → IsThere common own pl.home
unfolding place_in
place_there may common own [] at n pl a e = absurd cc
place_there may common own (p ∷ ps) at n pl a e = by_case (λ r. place_there may common own ps at n pl a.1.1 r) (placed may p ps at n pl e)
  where
    by_case : (place_in may ps at n ≡ Some pl → IsThere common own pl.home) → Placed may p ps at n pl → IsThere common own pl.home
    by_case more (here h m s i) = subst (IsThere common own) (sym s) a.0.0
    by_case more (later h r) = more r

-- a place in other parts is none of a part
found_apart : (may : Part → Bool) (p : Part) (ps : List Part) (at n : ℕ) (pl : Place) → IsApartFrom p ps → place_in may ps at n ≡ Some pl → IsFree pl n p
unfolding place_in
found_apart may p [] at n pl a e = absurd cc
found_apart may p (q ∷ qs) at n pl a e = by_case (λ r. found_apart may p qs at n pl a.1 r) (placed may q qs at n pl e)
  where
    by_case : (place_in may qs at n ≡ Some pl → IsFree pl n p) → Placed may q qs at n pl → IsFree pl n p
    by_case more (here h m s i) =
        let w = within q at n h in
        ⊎_elim (λ ne. inl (λ e. ne (e ∙ s))) (λ out. inr (⊎_elim (λ l. inl (omega arith)) (λ l. inr (omega arith)) out)) a.0
    by_case more (later h r) = more r

-- parts apart from the one that is written stay
parts_other : (b c : Home → List ℕ) (pl : Place) (xs : List ℕ) (p : Part) (ps : List Part) → IsPut b c pl xs → pl.home ≡ p.home → p.from ≤ pl.at → pl.at + length xs ≤ p.from + p.bytes → IsApartFrom p ps → map (window_of c) ps ≡ map (window_of b) ps
parts_other b c pl xs p [] put s low high a = refl
parts_other b c pl xs p (q ∷ qs) put s low high a =
    let free : IsFree pl (length xs) q =
    ⊎_elim (λ ne. inl (λ e. ne (sym (e ∙ s)))) (λ out. inr (⊎_elim (λ l. inr (omega arith)) (λ l. inl (omega arith)) out)) a.0 in
    ap (λ w. w ∷ map (window_of c) qs) (window_other b c pl xs q put free)
    ∙ ap (λ ws. window_of b q ∷ ws) (parts_other b c pl xs p qs put s low high a.1)

put_here : (w : Window) (ws : List Window) (at : ℕ) (xs : List ℕ) → holds w at (length xs) ≡ true → w.writes ≡ true → put_in (w ∷ ws) at xs ≡ Some (record w { bytes = put_bytes w.bytes (at - w.start) xs } ∷ ws)
unfolding put_in
put_here w ws at xs h m = rw (h, m)

put_next : (w : Window) (ws rest : List Window) (at : ℕ) (xs : List ℕ) → holds w at (length xs) ≡ false → put_in ws at xs ≡ Some rest → put_in (w ∷ ws) at xs ≡ Some (w ∷ rest)
unfolding put_in
put_next w ws rest at xs h e = rw (h, e)

-- bytes put at a place are bytes put into the view
pub store_parts : (b c : Home → List ℕ) (ps : List Part) (at : ℕ) (xs : List ℕ) (pl : Place) → AreLaid b ps → IsPut b c pl xs → place_in (λ p. p.writes) ps at (length xs) ≡ Some pl → put_in (map (window_of b) ps) at xs ≡ Some (map (window_of c) ps)
unfolding place_in
store_parts b c [] at xs pl a put e = absurd cc
store_parts b c (p ∷ ps) at xs pl a put e = by_case (λ r. store_parts b c ps at xs pl a.2 put r) (placed (λ p. p.writes) p ps at (length xs) pl e)
  where
    by_case : (place_in (λ p. p.writes) ps at (length xs) ≡ Some pl → put_in (map (window_of b) ps) at xs ≡ Some (map (window_of c) ps)) → Placed (λ p. p.writes) p ps at (length xs) pl → put_in (map (window_of b) (p ∷ ps)) at xs ≡ Some (map (window_of c) (p ∷ ps))
    by_case more (here h w s i) =
        let k = within p at (length xs) h in
        let shown = ap c (sym s) ∙ put.same ∙ ap (λ h. put_bytes (b h) pl.at xs) s in
        let same = ap (λ bs. take p.bytes (drop p.from bs)) shown
        ∙ put_in_part (b p.home) p.from p.bytes (at - p.start) pl.at xs i (omega arith) a.0 in
        let rest = parts_other b c pl xs p ps put s (omega arith) (omega arith) a.1 in
        put_here (window_of b p) (map (window_of b) ps) at xs (holds_part b p at (length xs) a.0 ∙ h) w
        ∙ ap (λ bs. Some (with_part p bs ∷ map (window_of b) ps)) (sym same)
        ∙ ap (λ ws. Some (window_of c p ∷ ws)) (sym rest)
    by_case more (later h r) =
        let same = window_other b c pl xs p put (found_apart (λ p. p.writes) p ps at (length xs) pl a.1 r) in
        put_next (window_of b p) (map (window_of b) ps) _ at xs (holds_part b p at (length xs) a.0 ∙ h) (more r)
        ∙ ap (λ w. Some (w ∷ map (window_of c) ps)) (sym same)

-- where nothing may be put at a place, nothing may be put into the view
pub refuse_parts : (b : Home → List ℕ) (ps : List Part) (at : ℕ) (xs : List ℕ) → AreLaid b ps → place_in (λ p. p.writes) ps at (length xs) ≡ None → put_in (map (window_of b) ps) at xs ≡ None
unfolding place_in put_in
refuse_parts b [] at xs a e = refl
refuse_parts b (p ∷ ps) at xs a e =
    rw (holds_part b p at (length xs) a.0) (by_test (lies_in p at (length xs)) p.writes e (λ r. refuse_parts b ps at xs a.2 r))
  where
    by_test : (t u : Bool) → (if t then (if u then Some (record { home = p.home; at = p.from + (at - p.start) }) else None) else place_in (λ p. p.writes) ps at (length xs)) ≡ (let o : Option Place = None in o) → (place_in (λ p. p.writes) ps at (length xs) ≡ None → put_in (map (window_of b) ps) at xs ≡ None) → (if t then (if u then Some (record (window_of b p) { bytes = put_bytes (window_of b p).bytes (at - p.start) xs } ∷ map (window_of b) ps) else None) else and_before (window_of b p) (put_in (map (window_of b) ps) at xs)) ≡ None
    by_test true true e more = absurd cc
    by_test true false e more = refl
    by_test false u e more = ap (and_before (window_of b p)) (more e)

-- a byte that may not be written is none of a place's
pub outside_place : (ps : List Part) (at n : ℕ) (pl : Place) (h : Home) (i : ℕ) → place_in (λ p. p.writes) ps at n ≡ Some pl → IsOutside ps h i → h ≡ pl.home → (i < pl.at) ⊎ (pl.at + n ≤ i)
unfolding place_in
outside_place [] at n pl h i e out s = absurd cc
outside_place (p ∷ ps) at n pl h i e out s = by_case (λ r. outside_place ps at n pl h i r out.1 s) (placed (λ p. p.writes) p ps at n pl e)
  where
    by_case : (place_in (λ p. p.writes) ps at n ≡ Some pl → (i < pl.at) ⊎ (pl.at + n ≤ i)) → Placed (λ p. p.writes) p ps at n pl → (i < pl.at) ⊎ (pl.at + n ≤ i)
    by_case more (here k m t j) =
        let w = within p at n k in
        ⊎_elim (λ l. inl (omega arith)) (λ l. inr (omega arith)) (out.0 m (sym (s ∙ t)))
    by_case more (later k r) = more r
