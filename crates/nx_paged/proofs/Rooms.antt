-- There are frames for what is added, and what is added together.
use Rattle.std.proofs.Common.{◌≡◌, ℕ, zero, suc, ◌+◌, ◌-◌, ◌*◌, ◌/◌, ◌%◌, ◌<◌, ◌≤◌, ◌==◌, Bool, true, false, ◌||◌, Option, Some, None, List, [], ◌∷◌, ◌++◌, length, refl, sym, ap, ◌∙◌, subst, arith}
use Rattle.std.specs.Prelude.{if◌then◌else◌, slice_index}
use Rattle.std.specs.List.{list_any}
use Rattle.std.specs.Option.{is_some}
use Rattle.std.proofs.lemmas.List.{length-append}
use Rattle.nx_base.specs.ByteLists.{put_bytes, to_le}
use Rattle.nx_sv32.specs.Walk.{ram_start, entry_at}
use Rattle.nx_tables.specs.Maps.{pointer_to, leaf_of, table_by}
use Rattle.nx_tables.proofs.Walked.{root_tells}
use Rattle.nx_tables.proofs.Kept.{same_number}
use Rattle.nx_space.specs.Starts.{different}
use Rattle.nx_paged.specs.Building.{Entry, entries_from, regions_of, Site, Building, HasRoom, Adds}
use Rattle.nx_paged.proofs.Adding.{table_there, table_added, page_added}

-- what the root's entry says
entry_says : (s : Site) (regions : List ℕ) (added : List Entry) (ram : List ℕ) (used region : ℕ) (b : Building s regions added ram used) → region < 1024 → table_by (entry_at ram (4096 * s.root + 4 * region)) ≡ b.maps.tables region
entry_says s regions added ram used region b small = ap (λ r. table_by (entry_at ram (4096 * r + 4 * region))) (sym b.root_is) ∙ root_tells ram b.roles s.group b.maps region b.stands small

at_root : (s : Site) (root : ℕ) (ram : List ℕ) (region : ℕ) (o : Option ℕ) → s.root ≡ root → o ≡ table_by (entry_at ram (4096 * root + 4 * region)) → table_by (entry_at ram (4096 * s.root + 4 * region)) ≡ o
at_root s root ram region o is e = ap (λ r. table_by (entry_at ram (4096 * r + 4 * region))) is ∙ sym e

-- a root lies in the RAM
pub root_inside : (frames : List ℕ) (root : ℕ) (more : List ℕ) (n : ℕ) (ram : List ℕ) (used : ℕ) → HasRoom frames root more n ram used → 4096 * root + 4096 ≤ length ram
root_inside frames root more n ram used h = let l = h.building.stands.lie.root in let a = h.building.root_is in let b = h.root_is in omega (arith, l, a, b)

-- a frame for a table, where a region has none
pub room_table : (frames : List ℕ) (root region : ℕ) (ram : List ℕ) (used : ℕ) → HasRoom frames root (region ∷ []) 0 ram used → region < 1024 → None ≡ table_by (entry_at ram (4096 * root + 4 * region)) → used < length frames
room_table frames root region ram used h small e =
    let b = h.building in
    let is : b.maps.tables region ≡ None = sym (entry_says h.site h.regions h.added ram used region b small) ∙ at_root h.site root ram region None h.root_is e in
    let none : list_any (λ m. m == region) h.regions ≡ false = sym (b.tables region small) ∙ ap is_some is in
    let z = ap (λ x. (if x then 0 else 1) + different h.regions) none in
    let c = b.count in
    let r = h.room in
    omega (arith, c, r, z)

pub adds_there : (frames : List ℕ) (root region : ℕ) (ram : List ℕ) (used t : ℕ) → region < 1024 → Some t ≡ table_by (entry_at ram (4096 * root + 4 * region)) → Adds frames root (region ∷ []) [] ram used ram used
adds_there frames root region ram used t small e site regions added f r b = table_there site regions added ram used region t b small (at_root site root ram region (Some t) r e)

pub adds_table : (frames : List ℕ) (root region : ℕ) (ram : List ℕ) (used frame : ℕ) → region < 1024 → None ≡ table_by (entry_at ram (4096 * root + 4 * region)) → used < length frames → frame ≡ (slice_index frames used - ram_start) / 4096 → Adds frames root (region ∷ []) [] ram used (put_bytes ram (4096 * root + 4 * region) (to_le 4 (pointer_to frame))) (used + 1)
adds_table frames root region ram used frame small e below named site regions added f r b =
    subst (λ x. Building site (region ∷ regions) added (put_bytes ram (4096 * x + 4 * region) (to_le 4 (pointer_to frame))) (used + 1)) r
    (table_added site regions added ram used region frame b small (at_root site root ram region None r e) (subst (λ l. used < length l) (sym f) below) (named ∙ ap (λ l. (slice_index l used - ram_start) / 4096) (sym f)))

-- a page after its region's table
pub less_room : (frames : List ℕ) (root region : ℕ) (ram : List ℕ) (used : ℕ) → HasRoom frames root (region ∷ []) 1 ram used → HasRoom frames root (region ∷ []) 0 ram used
less_room frames root region ram used h = record { site = h.site; frames_is = h.frames_is; root_is = h.root_is; regions = h.regions; added = h.added; building = h.building; room = let r = h.room in omega (arith, r) }

-- after a region has got its table
pub record Ready (frames : List ℕ) (root region : ℕ) (ram : List ℕ) (used : ℕ) : Type 0 where
  pub site : Site
  pub root_is : site.root ≡ root
  pub regions : List ℕ
  pub added : List Entry
  pub building : Building site (region ∷ regions) added ram used
  pub below : used < length frames

pub ready : (frames : List ℕ) (root region : ℕ) (ram new : List ℕ) (used after : ℕ) → HasRoom frames root (region ∷ []) 1 ram used → Adds frames root (region ∷ []) [] ram used new after → Ready frames root region new after
ready frames root region ram new used after h adds =
    let b = adds h.site h.regions h.added h.frames_is h.root_is h.building in
    record { site = h.site; root_is = h.root_is; regions = h.regions; added = h.added; building = b; below = let c = b.count in let r = h.room in omega (arith, c, r) }

pub ready_inside : (frames : List ℕ) (root region : ℕ) (ram : List ℕ) (used : ℕ) → Ready frames root region ram used → 4096 * root + 4096 ≤ length ram
ready_inside frames root region ram used h = let l = h.building.stands.lie.root in let a = h.building.root_is in let b = h.root_is in omega (arith, l, a, b)

pub table_inside : (frames : List ℕ) (root region : ℕ) (ram : List ℕ) (used table : ℕ) → Ready frames root region ram used → region < 1024 → Some table ≡ table_by (entry_at ram (4096 * root + 4 * region)) → 4096 * table + 4096 ≤ length ram
table_inside frames root region ram used table h small e =
    let b = h.building in
    b.stands.lie.tables region table (sym (entry_says h.site (region ∷ h.regions) h.added ram used region b small) ∙ at_root h.site root ram region (Some table) h.root_is e)

pub table_known : (frames : List ℕ) (root region : ℕ) (ram : List ℕ) (used : ℕ) → Ready frames root region ram used → region < 1024 → None ≡ table_by (entry_at ram (4096 * root + 4 * region)) → ⊥
table_known frames root region ram used h small e =
    let b = h.building in
    let is : b.maps.tables region ≡ None = sym (entry_says h.site (region ∷ h.regions) h.added ram used region b small) ∙ at_root h.site root ram region None h.root_is e in
    apart (sym (ap is_some is) ∙ b.tables region small ∙ ap (λ x. x || list_any (λ m. m == region) h.regions) (same_number region region refl))
  where
    apart : false ≡ true → ⊥
    apart z = cc

pub adds_page : (frames : List ℕ) (root page : ℕ) (ram new : List ℕ) (used after table frame : ℕ) (writes : Bool) → Adds frames root (page / 1024 ∷ []) [] ram used new after → page < 1048576 → Some table ≡ table_by (entry_at new (4096 * root + 4 * (page / 1024))) → after < length frames → frame ≡ (slice_index frames after - ram_start) / 4096 → Adds frames root (page / 1024 ∷ []) (record { page = page; writes = writes } ∷ []) ram used (put_bytes new (4096 * table + 4 * (page % 1024)) (to_le 4 (leaf_of (record { frame = frame; writes = writes })))) (after + 1)
adds_page frames root page ram new used after table frame writes adds small e below named site regions added f r b =
    page_added site (page / 1024 ∷ regions) added new after page table frame writes (adds site regions added f r b) small (at_root site root new (page / 1024) (Some table) r e) (subst (λ l. after < length l) (sym f) below) (named ∙ ap (λ l. (slice_index l after - ram_start) / 4096) (sym f))

-- pages side by side
pub entries_split : (first n m : ℕ) (writes : Bool) → entries_from first (n + m) writes ≡ entries_from first n writes ++ entries_from (first + n) m writes
entries_split first zero m writes = let a : zero + m ≡ m = omega arith in let b : first ≡ first + zero = omega arith in ap (λ k. entries_from first k writes) a ∙ ap (λ k. entries_from k m writes) b
entries_split first (suc n) m writes =
    let a : suc n + m ≡ suc (n + m) = omega arith in
    let b : first + 1 + n ≡ first + suc n = omega arith in
    ap (λ k. entries_from first k writes) a
    ∙ ap (λ l. record { page = first; writes = writes } ∷ l) (entries_split (first + 1) n m writes ∙ ap (λ k. entries_from (first + 1) n writes ++ entries_from k m writes) b)

pub entries_next : (page k : ℕ) (writes : Bool) → entries_from page (k + 1) writes ≡ record { page = page; writes = writes } ∷ entries_from (page + 1) k writes
entries_next page k writes = let e : k + 1 ≡ suc k = omega arith in ap (λ n. entries_from page n writes) e

pub length-entries : (first n : ℕ) (writes : Bool) → length (entries_from first n writes) ≡ n
length-entries first zero writes = refl
length-entries first (suc n) writes = let r = length-entries (first + 1) n writes in ap suc r

regions_append : (xs ys : List Entry) → regions_of (xs ++ ys) ≡ regions_of xs ++ regions_of ys
regions_append [] ys = refl
regions_append (x ∷ xs) ys = ap (λ l. x.page / 1024 ∷ l) (regions_append xs ys)

pub append_again : {X : Type 0} (xs ys zs : List X) → (xs ++ ys) ++ zs ≡ xs ++ (ys ++ zs)
append_again [] ys zs = refl
append_again (x ∷ xs) ys zs = ap (λ l. x ∷ l) (append_again xs ys zs)

-- more numbers are no fewer different ones
pub different_more : (xs ys : List ℕ) → different ys ≤ different (xs ++ ys)
different_more [] ys = omega arith
different_more (x ∷ xs) ys = let r = different_more xs ys in by_test (list_any (λ m. m == x) (xs ++ ys)) r
  where
    by_test : (b : Bool) → different ys ≤ different (xs ++ ys) → different ys ≤ (if b then 0 else 1) + different (xs ++ ys)
    by_test true r = omega (arith, r)
    by_test false r = omega (arith, r)

pub room_next : (frames : List ℕ) (root first count k : ℕ) (writes : Bool) (ram new : List ℕ) (used after page : ℕ) → HasRoom frames root (regions_of (entries_from first count writes)) count ram used → Adds frames root (regions_of (entries_from (first + (count - k)) k writes)) (entries_from (first + (count - k)) k writes) ram used new after → k < count → page ≡ first + (count - k - 1) → HasRoom frames root (page / 1024 ∷ []) 1 new after
room_next frames root first count k writes ram new used after page h adds l is = record {
  site = h.site;
  frames_is = h.frames_is;
  root_is = h.root_is;
  regions = regions_of done ++ h.regions;
  added = done ++ h.added;
  building = adds h.site h.regions h.added h.frames_is h.root_is h.building;
  room =
      let b = length-append done h.added in
      let d = length-entries (first + (count - k)) k writes in
      let m = different_more (regions_of (entries_from first (count - k - 1) writes)) (page / 1024 ∷ (regions_of done ++ h.regions)) in
      let q = ap different all in
      let r = h.room in
      omega (arith, b, d, m, q, r, l);
}
  where
    done : List Entry
    done = entries_from (first + (count - k)) k writes

    all_entries : entries_from first count writes ≡ entries_from first (count - k - 1) writes ++ (record { page = page; writes = writes } ∷ done)
    all_entries =
        let a : count ≡ count - k - 1 + (k + 1) = omega (arith, l) in
        let b : first + (count - k - 1) ≡ page = sym is in
        let c : page + 1 ≡ first + (count - k) = omega (arith, is, l) in
        ap (λ n. entries_from first n writes) a
        ∙ entries_split first (count - k - 1) (k + 1) writes
        ∙ ap (λ p. entries_from first (count - k - 1) writes ++ entries_from p (k + 1) writes) b
        ∙ ap (λ x. entries_from first (count - k - 1) writes ++ x) (entries_next page k writes)
        ∙ ap (λ p. entries_from first (count - k - 1) writes ++ (record { page = page; writes = writes } ∷ entries_from p k writes)) c

    all : regions_of (entries_from first count writes) ++ h.regions ≡ regions_of (entries_from first (count - k - 1) writes) ++ (page / 1024 ∷ (regions_of done ++ h.regions))
    all =
        ap (λ es. regions_of es ++ h.regions) all_entries
        ∙ ap (λ rs. rs ++ h.regions) (regions_append (entries_from first (count - k - 1) writes) (record { page = page; writes = writes } ∷ done))
        ∙ append_again (regions_of (entries_from first (count - k - 1) writes)) (page / 1024 ∷ regions_of done) h.regions

pub adds_none : (frames : List ℕ) (root : ℕ) (ram : List ℕ) (used : ℕ) → Adds frames root [] [] ram used ram used
adds_none frames root ram used site regions added f r b = b

pub adds_more : (frames : List ℕ) (root first count k : ℕ) (writes : Bool) (ram mid new : List ℕ) (used at after page : ℕ) → Adds frames root (regions_of (entries_from (first + (count - k)) k writes)) (entries_from (first + (count - k)) k writes) ram used mid at → Adds frames root (page / 1024 ∷ []) (record { page = page; writes = writes } ∷ []) mid at new after → k < count → page ≡ first + (count - k - 1) → Adds frames root (regions_of (entries_from (first + (count - (k + 1))) (k + 1) writes)) (entries_from (first + (count - (k + 1))) (k + 1) writes) ram used new after
adds_more frames root first count k writes ram mid new used at after page some one l is site regions added f r b =
    let a : first + (count - (k + 1)) ≡ page = omega (arith, is, l) in
    let c : page + 1 ≡ first + (count - k) = omega (arith, is, l) in
    let done : List Entry = entries_from (first + (count - k)) k writes in
    let e : entries_from (first + (count - (k + 1))) (k + 1) writes ≡ record { page = page; writes = writes } ∷ done =
    ap (λ p. entries_from p (k + 1) writes) a ∙ entries_next page k writes ∙ ap (λ p. record { page = page; writes = writes } ∷ entries_from p k writes) c
    in
    subst (λ es. Building site (regions_of es ++ regions) (es ++ added) new after) (sym e)
    (one site (regions_of done ++ regions) (done ++ added) f r (some site regions added f r b))

pub adds_all : (frames : List ℕ) (root first count k : ℕ) (writes : Bool) (ram new : List ℕ) (used after : ℕ) → Adds frames root (regions_of (entries_from (first + (count - k)) k writes)) (entries_from (first + (count - k)) k writes) ram used new after → count ≤ k → k ≤ count → Adds frames root (regions_of (entries_from first count writes)) (entries_from first count writes) ram used new after
adds_all frames root first count k writes ram new used after some low high =
    let a : first + (count - k) ≡ first = omega (arith, low) in
    let b : k ≡ count = omega (arith, low, high) in
    subst (λ es. Adds frames root (regions_of es) es ram used new after) (ap (λ p. entries_from p k writes) a ∙ ap (λ n. entries_from first n writes) b) some
