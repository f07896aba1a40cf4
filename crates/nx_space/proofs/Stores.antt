-- A world with bytes put where its entered view shows them.
use Rattle.std.proofs.Common.{◌≡◌, ◌≢◌, ℕ, ◌+◌, ◌<◌, ◌≤◌, ◌⊎◌, Bool, true, false, List, [], ◌∷◌, length, Option, Some, None, Ok, Err, refl, sym, ap, ◌∙◌, subst, arith, ⊎_elim, inl, inr}
use Rattle.std.specs.Prelude.{if◌then◌else◌, map, slice_set, slice_index}
use Rattle.std.proofs.lemmas.List.{length-set, get_or-set_same, get_or-set_other}
use Rattle.nx_base.specs.ByteLists.{put_bytes, to_le}
use Rattle.nx_base.proofs.Puts.{length-put_bytes, get-put_bytes_other, length-to_le}
use Rattle.nx_base.specs.Views.{number_or, fetch_word, load_bytes, put_in, view_or, store_bytes}
use Rattle.nx_space.specs.World.{Home, Common, Own, Part, World, IsEntered, has_view, group_of, group_in, bytes_in, bytes_of, seen_by, view_in, view_of, window_of}
use Rattle.nx_space.specs.Places.{Place, place_in, written_at, with_own, put_into, put_home, with_bytes}
use Rattle.nx_space.specs.Lawful.{IsThere, AreParts, IsWorld, IsOutside, OnlyEntered}
use Rattle.nx_space.proofs.Groups.{own_same, own_parts_same, own_again, own_nothing}
use Rattle.nx_space.proofs.Windows.{AreLaid, laid, IsPut, cases_home, find_parts, bytes_at, place_fits, place_there, store_parts, refuse_parts, outside_place}

-- the windows of each group lie in their bytes, and apart
pub lawful_parts : (w : World) (number : ℕ) → IsWorld w → has_view w.groups number ≡ true → AreParts w.common (group_of w.groups number).own (group_of w.groups number).parts
lawful_parts w number h v = by_pages w.memory_map.is_paged refl
  where
    by_pages : (b : Bool) → w.memory_map.is_paged ≡ b → AreParts w.common (group_of w.groups number).own (group_of w.groups number).parts
    by_pages true e = (h.alone e number v).parts
    by_pages false e =
        let a = h.alike e number v in
        subst (λ own. AreParts w.common own (group_of w.groups number).parts) (sym a.1) (subst (AreParts w.common []) (sym a.0) (h.shared e).parts)

pub lawful_laid : (w : World) (number : ℕ) → IsWorld w → has_view w.groups number ≡ true → AreLaid (seen_by w number) (group_of w.groups number).parts
lawful_laid w number h v = laid w.common (group_of w.groups number).own (group_of w.groups number).parts (lawful_parts w number h v)

-- what an access of the entered view finds
pub loaded : (w : World) (at n : ℕ) → IsWorld w → IsEntered w → load_bytes (view_in w) at n ≡ number_or (bytes_at (seen_by w w.entered) (place_in (λ p. p.reads) (group_in w).parts at n) n) (if w.memory_map.is_paged then 13 else 5)
unfolding load_bytes
loaded w at n h e = ap (λ o. number_or o (if w.memory_map.is_paged then 13 else 5)) (find_parts (λ p. p.reads) (λ u. u.reads) (seen_by w w.entered) (group_in w).parts at n (λ p. refl) (lawful_laid w w.entered h e))

pub fetched : (w : World) (at : ℕ) → IsWorld w → IsEntered w → fetch_word (view_in w) at ≡ number_or (bytes_at (seen_by w w.entered) (place_in (λ p. p.runs) (group_in w).parts at 4) 4) (if w.memory_map.is_paged then 12 else 1)
unfolding fetch_word
fetched w at h e = ap (λ o. number_or o (if w.memory_map.is_paged then 12 else 1)) (find_parts (λ p. p.runs) (λ u. u.runs) (seen_by w w.entered) (group_in w).parts at 4 (λ p. refl) (lawful_laid w w.entered h e))

-- lists of bytes with some put into one
pub into_same : (bs : List (List ℕ)) (k at : ℕ) (xs : List ℕ) → k < length bs → bytes_in (put_into bs k at xs) k ≡ put_bytes (bytes_in bs k) at xs
into_same bs k at xs h = get_or-set_same bs k _ [] h

pub into_other : (bs : List (List ℕ)) (k at : ℕ) (xs : List ℕ) (j : ℕ) → j ≢ k → bytes_in (put_into bs k at xs) j ≡ bytes_in bs j
into_other bs k at xs j ne = get_or-set_other bs k j _ [] ne

abbrev pub placed : Home → ℕ → Place
placed h i = record { home = h; at = i }

put_common : (common own : List (List ℕ)) (k i : ℕ) (xs : List ℕ) → k < length common → i + length xs ≤ length (bytes_in common k) → IsPut (bytes_of common own) (bytes_of (put_into common k i xs) own) (placed (Common k) i) xs
put_common common own k i xs there fit = record {
  fits = fit;
  same = into_same common k i xs there;
  other = others;
}
  where
    others : (h : Home) → h ≢ Common k → bytes_of (put_into common k i xs) own h ≡ bytes_of common own h
    others (Common j) ne = into_other common k i xs j (λ e. ne (ap Common e))
    others (Own j) ne = refl

put_own : (common own : List (List ℕ)) (k i : ℕ) (xs : List ℕ) → k < length own → i + length xs ≤ length (bytes_in own k) → IsPut (bytes_of common own) (bytes_of common (put_into own k i xs)) (placed (Own k) i) xs
put_own common own k i xs there fit = record {
  fits = fit;
  same = into_same own k i xs there;
  other = others;
}
  where
    others : (h : Home) → h ≢ Own k → bytes_of common (put_into own k i xs) h ≡ bytes_of common own h
    others (Common j) ne = refl
    others (Own j) ne = into_other own k i xs j (λ e. ne (ap Own e))

-- bytes that are put at a group's place are put into what it sees
pub is_put : (w : World) (number : ℕ) (h : Home) (i : ℕ) (xs : List ℕ) → has_view w.groups number ≡ true → IsThere w.common (group_of w.groups number).own h → i + length xs ≤ length (seen_by w number h) → IsPut (seen_by w number) (seen_by (put_home w number h i xs) number) (placed h i) xs
is_put w number (Common k) i xs v there fit = put_common w.common (group_of w.groups number).own k i xs there fit
is_put w number (Own k) i xs v there fit =
    let own = (group_of w.groups number).own in
    subst (λ o. IsPut (seen_by w number) (bytes_of w.common o) (placed (Own k) i) xs) (sym (ap (λ g. g.own) (own_same (put_into own k i xs) w.groups number v))) (put_own w.common own k i xs there fit)

pub put_parts : (w : World) (number : ℕ) (h : Home) (i : ℕ) (xs : List ℕ) (m : ℕ) → (group_of (put_home w number h i xs).groups m).parts ≡ (group_of w.groups m).parts
put_parts w number (Common k) i xs m = refl
put_parts w number (Own k) i xs m = own_parts_same (put_into (group_of w.groups number).own k i xs) w.groups number m

pub put_plan : (w : World) (number : ℕ) (h : Home) (i : ℕ) (xs : List ℕ) → (put_home w number h i xs).memory_map ≡ w.memory_map
put_plan w number (Common k) i xs = refl
put_plan w number (Own k) i xs = refl

-- the group's view with bytes put into it
pub put_view : (w : World) (number at : ℕ) (xs : List ℕ) (pl : Place) → has_view w.groups number ≡ true → AreParts w.common (group_of w.groups number).own (group_of w.groups number).parts → written_at (group_of w.groups number).parts at (length xs) ≡ Some pl → put_in (view_of w number).windows at xs ≡ Some (view_of (with_bytes w number pl xs) number).windows
put_view w number at xs pl v a e =
    let b = seen_by w number in
    let ps = (group_of w.groups number).parts in
    let there = place_there (λ p. p.writes) w.common (group_of w.groups number).own ps at (length xs) pl a e in
    let fit = place_fits (λ p. p.writes) b ps at (length xs) pl (laid w.common (group_of w.groups number).own ps a) e in
    let new = with_bytes w number pl xs in
    store_parts b (seen_by new number) ps at xs pl (laid w.common (group_of w.groups number).own ps a) (is_put w number pl.home pl.at xs v there fit) e
    ∙ ap (λ qs. Some (map (window_of (seen_by new number)) qs)) (sym (put_parts w number pl.home pl.at xs number))

-- what is put leaves lengths and other bytes
pub put_long : (b c : Home → List ℕ) (pl : Place) (xs : List ℕ) → IsPut b c pl xs → (h : Home) → length (c h) ≡ length (b h)
put_long b c pl xs put h = ⊎_elim (λ e. ap (λ k. length (c k)) e ∙ ap length put.same ∙ length-put_bytes (b pl.home) pl.at xs put.fits ∙ ap (λ k. length (b k)) (sym e)) (λ ne. ap length (put.other h ne)) (cases_home h pl.home)

pub put_others : (b c : Home → List ℕ) (pl : Place) (xs : List ℕ) → IsPut b c pl xs → (h : Home) (i : ℕ) → (h ≡ pl.home → (i < pl.at) ⊎ (pl.at + length xs ≤ i)) → slice_index (c h) i ≡ slice_index (b h) i
put_others b c pl xs put h i out =
    ⊎_elim (λ e. ap (λ k. slice_index (c k) i) e ∙ ap (λ bs. slice_index bs i) put.same ∙ get-put_bytes_other (b pl.home) pl.at xs i put.fits (out e) ∙ ap (λ k. slice_index (b k) i) (sym e))
    (λ ne. ap (λ bs. slice_index bs i) (put.other h ne)) (cases_home h pl.home)

pub only_refl : (w : World) → OnlyEntered w w
only_refl w = record {
  memory_map = refl;
  entered = refl;
  outside = refl;
  groups = sym (own_nothing w.groups w.entered);
  common = refl;
  own = refl;
  long = λ h. refl;
  others = λ h i out. refl;
}

pub only_put : (w : World) (h : Home) (i : ℕ) (xs : List ℕ) → IsEntered w → IsThere w.common (group_in w).own h → i + length xs ≤ length (seen_by w w.entered h) → ((k : Home) (j : ℕ) → IsOutside (group_in w).parts k j → k ≡ h → (j < i) ⊎ (i + length xs ≤ j)) → OnlyEntered w (put_home w w.entered h i xs)
only_put w (Common k) i xs v there fit out =
    let put = is_put w w.entered (Common k) i xs v there fit in
    let b = seen_by w w.entered in
    let c = seen_by (put_home w w.entered (Common k) i xs) w.entered in
    record {
      memory_map = refl;
      entered = refl;
      outside = refl;
      groups = sym (own_nothing w.groups w.entered);
      common = length-set w.common k _;
      own = refl;
      long = put_long b c (placed (Common k) i) xs put;
      others = λ h j o. put_others b c (placed (Common k) i) xs put h j (out h j o);
    }
only_put w (Own k) i xs v there fit out =
    let put = is_put w w.entered (Own k) i xs v there fit in
    let own = put_into (group_in w).own k i xs in
    let is = ap (λ g. g.own) (own_same own w.groups w.entered v) in
    let b = seen_by w w.entered in
    let c = seen_by (put_home w w.entered (Own k) i xs) w.entered in
    record {
      memory_map = refl;
      entered = refl;
      outside = refl;
      groups = ap (λ o. with_own o w.groups w.entered) (sym is);
      common = refl;
      own = ap length is ∙ length-set (group_in w).own k _;
      long = put_long b c (placed (Own k) i) xs put;
      others = λ h j o. put_others b c (placed (Own k) i) xs put h j (out h j o);
    }

-- a store of the entered view, and what it changes
pub record Stored (w new : World) (at n x : ℕ) : Type 0 where
  pub answer : store_bytes (view_in w) at n x ≡ Ok (view_in new)
  pub only : OnlyEntered w new

put_entered : (w : World) (number : ℕ) (h : Home) (i : ℕ) (xs : List ℕ) → (put_home w number h i xs).entered ≡ w.entered
put_entered w number (Common k) i xs = refl
put_entered w number (Own k) i xs = refl

pub stored : (w : World) (at n x : ℕ) (pl : Place) → IsWorld w → IsEntered w → written_at (group_in w).parts at n ≡ Some pl → Stored w (with_bytes w w.entered pl (to_le n x)) at n x
unfolding store_bytes
stored w at n x pl h v e =
    let xs = to_le n x in
    let new = with_bytes w w.entered pl xs in
    let cause : ℕ = if w.memory_map.is_paged then 15 else 7 in
    let size = length-to_le n x in
    let a = lawful_parts w w.entered h v in
    let ps = (group_in w).parts in
    let f = ap (written_at ps at) size ∙ e in
    let there = place_there (λ p. p.writes) w.common (group_in w).own ps at n pl a e in
    let fit = place_fits (λ p. p.writes) (seen_by w w.entered) ps at (length xs) pl (laid w.common (group_in w).own ps a) f in
    record {
      answer =
          ap (λ o. view_or (view_in w) o cause) (put_view w w.entered at xs pl v a f)
          ∙ ap (λ b. Ok (record { windows = (view_of new w.entered).windows; is_paged = b })) (ap (λ p. p.is_paged) (sym (put_plan w w.entered pl.home pl.at xs)))
          ∙ ap (λ g. Ok (view_of new g)) (sym (put_entered w w.entered pl.home pl.at xs));
      only = only_put w pl.home pl.at xs v there fit (λ k j out s. outside_place ps at (length xs) pl k j f out s);
    }

pub not_stored : (w : World) (at n x : ℕ) → IsWorld w → IsEntered w → written_at (group_in w).parts at n ≡ None → store_bytes (view_in w) at n x ≡ Err (if w.memory_map.is_paged then 15 else 7)
unfolding store_bytes
not_stored w at n x h v e =
    let f = ap (written_at (group_in w).parts at) (length-to_le n x) ∙ e in
    ap (λ o. view_or (view_in w) o (if w.memory_map.is_paged then 15 else 7)) (refuse_parts (seen_by w w.entered) (group_in w).parts at (to_le n x) (lawful_laid w w.entered h v) f)

-- one after another
pub parts_same : (u v : World) → OnlyEntered u v → (group_in v).parts ≡ (group_in u).parts
parts_same u v o =
    ap (λ gs. (group_of gs v.entered).parts) o.groups
    ∙ own_parts_same (group_in v).own u.groups u.entered v.entered
    ∙ ap (λ e. (group_of u.groups e).parts) o.entered

pub only_trans : (u v w : World) → OnlyEntered u v → OnlyEntered v w → OnlyEntered u w
only_trans u v w a b = record {
  memory_map = b.memory_map ∙ a.memory_map;
  entered = b.entered ∙ a.entered;
  outside = b.outside ∙ a.outside;
  groups = b.groups ∙ ap (λ gs. with_own (group_in w).own gs v.entered) a.groups ∙ ap (λ e. with_own (group_in w).own (with_own (group_in v).own u.groups u.entered) e) a.entered ∙ own_again (group_in w).own (group_in v).own u.groups u.entered;
  common = b.common ∙ a.common;
  own = b.own ∙ a.own;
  long = λ h. b.long h ∙ a.long h;
  others = λ h i out. b.others h i (subst (λ ps. IsOutside ps h i) (sym (parts_same u v a)) out) ∙ a.others h i out;
}
