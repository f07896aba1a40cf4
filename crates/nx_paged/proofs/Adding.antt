-- One table more, and one page more.
use Rattle.std.proofs.Common.{◌≡◌, ◌≢◌, ℕ, ◌+◌, ◌-◌, ◌*◌, ◌/◌, ◌%◌, ◌<◌, ◌≤◌, ◌==◌, Bool, true, false, ◌||◌, Some, None, List, [], ◌∷◌, length, take, drop, get_or, refl, sym, ap, ◌∙◌, subst, arith, ⊎_elim}
use Rattle.std.specs.Prelude.{if◌then◌else◌, slice_index}
use Rattle.std.specs.List.{list_any}
use Rattle.std.specs.Option.{is_some}
use Rattle.std.proofs.lemmas.Bool.{cases_eq}
use Rattle.nx_base.specs.ByteLists.{put_bytes, to_le}
use Rattle.nx_base.proofs.Puts.{length-put_bytes, length-to_le}
use Rattle.nx_sv32.specs.Walk.{ram_start, entry_at}
use Rattle.nx_tables.specs.Maps.{Page, pointer_to, leaf_of, table_by}
use Rattle.nx_tables.specs.Roles.{Role, Free, Root, Table, Leaf, is_table, is_of, with_role, with_table, with_page, IsZeroed, SameRoles}
use Rattle.nx_tables.proofs.Walked.{root_tells}
use Rattle.nx_tables.proofs.Kept.{same_number, other_number, root_table, table_table, table_is_of, free_is_none, given_role, new_role, byte_elsewhere}
use Rattle.nx_tables.proofs.EntriesPut.{some_page}
use Rattle.nx_tables.proofs.Steps.{table_step, page_step}
use Rattle.nx_space.specs.Starts.{different}
use Rattle.nx_paged.specs.Spans.{Each}
use Rattle.nx_paged.specs.Paging.{FrameAt}
use Rattle.nx_paged.specs.Building.{Entry, look, right_of, IsFresh, Site, Building}
use Rattle.nx_paged.proofs.FrameLists.{each_at, drop_next, each_next, each_map, each_both, each_right, once_after, take_next, each_left}

-- the next frame
pub record Next (s : Site) (roles : ℕ → Role) (ram : List ℕ) (used : ℕ) : Type 0 where
  pub frame : ℕ
  pub address : slice_index s.frames used ≡ ram_start + 4096 * frame
  pub number : (slice_index s.frames used - ram_start) / 4096 ≡ frame
  pub free : roles frame ≡ Free
  pub zero : IsZeroed ram frame
  pub inside : 4096 * frame + 4096 ≤ length ram
  pub low : frame < 524288

pub next_frame : (s : Site) (regions : List ℕ) (added : List Entry) (ram : List ℕ) (used : ℕ) → (b : Building s regions added ram used) → used < length s.frames → Next s b.roles ram used
next_frame s regions added ram used b h =
    let u = subst (Each (FrameAt (λ r. r ≡ Free) b.roles)) (drop_next s.frames used h) b.unused in
    let f = each_at (IsFresh s.old) s.frames used h b.fresh in
    let a = u.0.address in
    let i = f.inside in
    let l = b.long in
    let fits = b.stands.fits in
    let none : is_table s.group (b.roles u.0.frame) ≡ false = ap (is_table s.group) u.0.role in
    record {
      frame = u.0.frame;
      address = a;
      number = omega (arith, a);
      free = u.0.role;
      zero = λ k small. b.kept u.0.frame k none small ∙ ap (λ n. get_or s.old n 0) (let e : 4096 * u.0.frame + k ≡ slice_index s.frames used - ram_start + k = omega (arith, a) in e) ∙ f.zero k small;
      inside = omega (arith, a, i, l);
      low = omega (arith, a, i, l, fits);
    }

-- roles where the next frame gets one of the group's
pub record Given (s : Site) (roles : ℕ → Role) (used frame : ℕ) (r : Role) : Type 0 where
  pub unused : Each (FrameAt (λ q. q ≡ Free) (with_role roles frame r)) (drop (used + 1) s.frames)
  pub taken : Each (FrameAt (λ q. is_of s.group q ≡ true) (with_role roles frame r)) (take (used + 1) s.frames)
  pub elsewhere : (f : ℕ) → Each (λ a. a ≢ ram_start + 4096 * f) (take (used + 1) s.frames) → with_role roles frame r f ≡ s.before f

pub given : (s : Site) (regions : List ℕ) (added : List Entry) (ram : List ℕ) (used : ℕ) (b : Building s regions added ram used) (h : used < length s.frames) (n : Next s b.roles ram used) (r : Role) → is_of s.group r ≡ true → Given s b.roles used n.frame r
given s regions added ram used b h n r own = record { unused = unused; taken = taken; elsewhere = elsewhere }
  where
    a : ℕ
    a = slice_index s.frames used

    after : ℕ → Role
    after = with_role b.roles n.frame r

    same : SameRoles s.group b.roles after
    same = given_role s.group b.roles n.frame r (free_is_none s.group (b.roles n.frame) n.free)

    unused : Each (FrameAt (λ q. q ≡ Free) after) (drop (used + 1) s.frames)
    unused =
        let u = subst (Each (FrameAt (λ q. q ≡ Free) b.roles)) (drop_next s.frames used h) b.unused in
        each_both (λ y. y ≢ a) (FrameAt (λ q. q ≡ Free) b.roles) (FrameAt (λ q. q ≡ Free) after) (drop (used + 1) s.frames)
        (λ y ne f.
        let at = f.address in
        let mine = n.address in
        record { frame = f.frame; address = at; role = ap (λ t. if t then r else b.roles f.frame) (other_number f.frame n.frame (λ e. ne (omega (arith, at, mine, e)))) ∙ f.role })
        (once_after s.frames used h b.once) u.1

    taken : Each (FrameAt (λ q. is_of s.group q ≡ true) after) (take (used + 1) s.frames)
    taken = each_next (FrameAt (λ q. is_of s.group q ≡ true) after) s.frames used h
        (each_map (FrameAt (λ q. is_of s.group q ≡ true) b.roles) (FrameAt (λ q. is_of s.group q ≡ true) after) (take used s.frames)
        (λ y f. record { frame = f.frame; address = f.address; role = ap (is_of s.group) (same f.frame f.role) ∙ f.role }) b.taken)
        (record { frame = n.frame; address = n.address; role = ap (is_of s.group) (new_role b.roles n.frame r) ∙ own })

    elsewhere : (f : ℕ) → Each (λ y. y ≢ ram_start + 4096 * f) (take (used + 1) s.frames) → after f ≡ s.before f
    elsewhere f out =
        let k = subst (Each (λ y. y ≢ ram_start + 4096 * f)) (take_next s.frames used h) out in
        let ne = (each_right (λ y. y ≢ ram_start + 4096 * f) (take used s.frames) (a ∷ []) k).0 in
        let mine = n.address in
        ap (λ t. if t then r else b.roles f) (other_number f n.frame (λ e. ne (omega (arith, mine, e))))
        ∙ b.elsewhere f (each_left (λ y. y ≢ ram_start + 4096 * f) (take used s.frames) (a ∷ []) k)

-- bytes put into a frame that is a table afterwards
kept_still : (g : ℕ) (roles after : ℕ → Role) (old ram : List ℕ) (table i : ℕ) (xs : List ℕ) → ((f : ℕ) → is_table g (after f) ≡ false → is_table g (roles f) ≡ false) → is_table g (after table) ≡ true → 4096 * table ≤ i → i + length xs ≤ 4096 * table + 4096 → i + length xs ≤ length ram → ((f k : ℕ) → is_table g (roles f) ≡ false → k < 4096 → slice_index ram (4096 * f + k) ≡ slice_index old (4096 * f + k)) → (f k : ℕ) → is_table g (after f) ≡ false → k < 4096 → slice_index (put_bytes ram i xs) (4096 * f + k) ≡ slice_index old (4096 * f + k)
kept_still g roles after old ram table i xs fewer is low high fit kept f k none small =
    byte_elsewhere ram table i xs f k low high fit (λ e. apart (sym is ∙ ap (λ z. is_table g (after z)) (sym e) ∙ none)) small ∙ kept f k (fewer f none) small
  where
    apart : true ≡ false → ⊥
    apart z = cc

-- a role that is given makes no table of what was one not to be
fewer_tables : (g : ℕ) (roles : ℕ → Role) (frame : ℕ) (r : Role) → roles frame ≡ Free → (f : ℕ) → is_table g (with_role roles frame r f) ≡ false → is_table g (roles f) ≡ false
fewer_tables g roles frame r free f none = ⊎_elim
    (λ e. ap (λ z. is_table g (roles z)) e ∙ ap (is_table g) free)
    (λ ne. ap (λ t. is_table g (if t then r else roles f)) (sym (other_number f frame ne)) ∙ none)
    (cases_eq f frame)

-- a region that has a table needs none
pub table_there : (s : Site) (regions : List ℕ) (added : List Entry) (ram : List ℕ) (used region t : ℕ) → Building s regions added ram used → region < 1024 → table_by (entry_at ram (4096 * s.root + 4 * region)) ≡ Some t → Building s (region ∷ regions) added ram used
table_there s regions added ram used region t b small e = record {
  roles = b.roles;
  maps = b.maps;
  root_is = b.root_is;
  stands = b.stands;
  long = b.long;
  kept = b.kept;
  once = b.once;
  fresh = b.fresh;
  unused = b.unused;
  taken = b.taken;
  elsewhere = b.elsewhere;
  few = b.few;
  count = let c = b.count in let z = ap (λ x. (if x then 0 else 1) + different regions) any in omega (arith, c, z);
  tables = λ i l. ⊎_elim
      (λ same. b.tables i l ∙ ap (λ z. list_any (λ m. m == z) regions) (sym same) ∙ any ∙ sym (ap (λ x. x || list_any (λ m. m == i) regions) (same_number region i same)))
      (λ ne. b.tables i l ∙ sym (ap (λ x. x || list_any (λ m. m == i) regions) (other_number region i ne)))
      (cases_eq region i);
  pages = b.pages;
  zeroed = b.zeroed;
  others = b.others;
}
  where
    is : b.maps.tables region ≡ Some t
    is = sym (ap (λ r. table_by (entry_at ram (4096 * r + 4 * region))) (sym b.root_is) ∙ root_tells ram b.roles s.group b.maps region b.stands small) ∙ e

    any : list_any (λ m. m == region) regions ≡ true
    any = sym (b.tables region small) ∙ ap is_some is

-- a region gets a table
pub table_added : (s : Site) (regions : List ℕ) (added : List Entry) (ram : List ℕ) (used region frame : ℕ) → Building s regions added ram used → region < 1024 → table_by (entry_at ram (4096 * s.root + 4 * region)) ≡ None → used < length s.frames → frame ≡ (slice_index s.frames used - ram_start) / 4096 → Building s (region ∷ regions) added (put_bytes ram (4096 * s.root + 4 * region) (to_le 4 (pointer_to frame))) (used + 1)
table_added s regions added ram used region frame b small e h named = subst (λ f. Building s (region ∷ regions) added (put_bytes ram (4096 * s.root + 4 * region) (to_le 4 (pointer_to f))) (used + 1)) (sym (named ∙ n.number)) (subst (λ r. Building s (region ∷ regions) added (put_bytes ram (4096 * r + 4 * region) xs) (used + 1)) b.root_is built)
  where
    n : Next s b.roles ram used
    n = next_frame s regions added ram used b h

    r : Role
    r = Table s.group region

    after : ℕ → Role
    after = with_role b.roles n.frame r

    xs : List ℕ
    xs = to_le 4 (pointer_to n.frame)

    len : length xs ≡ 4
    len = length-to_le 4 (pointer_to n.frame)

    is : b.maps.tables region ≡ None
    is = sym (ap (λ z. table_by (entry_at ram (4096 * z + 4 * region))) (sym b.root_is) ∙ root_tells ram b.roles s.group b.maps region b.stands small) ∙ e

    none : list_any (λ m. m == region) regions ≡ false
    none = sym (b.tables region small) ∙ ap is_some is

    g : Given s b.roles used n.frame r
    g = given s regions added ram used b h n r (same_number s.group s.group refl)

    room : 4096 * b.maps.root + 4 * region + length xs ≤ length ram
    room = let lie = b.stands.lie.root in omega (arith, len, lie, small)

    same : SameRoles s.group b.roles after
    same = given_role s.group b.roles n.frame r (free_is_none s.group (b.roles n.frame) n.free)

    root_role : after b.maps.root ≡ Root s.group
    root_role = same b.maps.root (table_is_of s.group (b.roles b.maps.root) (root_table s.group (b.roles b.maps.root) b.stands.owns.root)) ∙ b.stands.owns.root

    -- a page is in another frame than the root
    page_apart : (v : ℕ) (p : Page) → b.maps.pages v ≡ Some p → p.frame ≢ b.maps.root
    page_apart v p q z = differ (sym (b.stands.owns.pages v p q) ∙ ap b.roles z ∙ b.stands.owns.root)
      where
        differ : Leaf s.group v ≡ Root s.group → ⊥
        differ y = cc

    built : Building s (region ∷ regions) added (put_bytes ram (4096 * b.maps.root + 4 * region) xs) (used + 1)
    built = record {
      roles = after;
      maps = with_table b.maps region n.frame;
      root_is = b.root_is;
      stands = table_step ram b.roles s.group b.maps region n.frame b.stands small is n.free n.zero n.inside;
      long = length-put_bytes ram (4096 * b.maps.root + 4 * region) xs room ∙ b.long;
      kept = kept_still s.group b.roles after s.old ram b.maps.root (4096 * b.maps.root + 4 * region) xs (fewer_tables s.group b.roles n.frame r n.free) (root_table s.group (after b.maps.root) root_role) (omega arith) (omega (arith, len, small)) room b.kept;
      once = b.once;
      fresh = b.fresh;
      unused = g.unused;
      taken = g.taken;
      elsewhere = g.elsewhere;
      few = omega (arith, h);
      count = let c = b.count in let z = ap (λ x. (if x then 0 else 1) + different regions) none in omega (arith, c, z);
      tables = λ i l. ⊎_elim
          (λ q. ap (λ x. is_some (if x then Some n.frame else b.maps.tables i)) (same_number i region (sym q)) ∙ sym (ap (λ x. x || list_any (λ m. m == i) regions) (same_number region i q)))
          (λ ne. ap (λ x. is_some (if x then Some n.frame else b.maps.tables i)) (other_number i region (λ q. ne (sym q))) ∙ b.tables i l ∙ sym (ap (λ x. x || list_any (λ m. m == i) regions) (other_number region i ne)))
          (cases_eq region i);
      pages = b.pages;
      zeroed = λ v p some q k l. byte_elsewhere ram b.maps.root (4096 * b.maps.root + 4 * region) xs p.frame k (omega arith) (omega (arith, len, small)) room (page_apart v p q) l ∙ b.zeroed v p some q k l;
      others = b.others;
    }

-- a page is mapped
pub page_added : (s : Site) (regions : List ℕ) (added : List Entry) (ram : List ℕ) (used page table frame : ℕ) (writes : Bool) → Building s regions added ram used → page < 1048576 → table_by (entry_at ram (4096 * s.root + 4 * (page / 1024))) ≡ Some table → used < length s.frames → frame ≡ (slice_index s.frames used - ram_start) / 4096 → Building s regions (record { page = page; writes = writes } ∷ added) (put_bytes ram (4096 * table + 4 * (page % 1024)) (to_le 4 (leaf_of (record { frame = frame; writes = writes })))) (used + 1)
unfolding look
page_added s regions added ram used page table frame writes b small e h named = subst (λ f. Building s regions (record { page = page; writes = writes } ∷ added) (put_bytes ram (4096 * table + 4 * (page % 1024)) (to_le 4 (leaf_of (record { frame = f; writes = writes })))) (used + 1)) (sym (named ∙ n.number)) built
  where
    n : Next s b.roles ram used
    n = next_frame s regions added ram used b h

    i : ℕ
    i = page / 1024

    j : ℕ
    j = page % 1024

    page_is : 1024 * i + j ≡ page
    page_is = omega arith

    p : Page
    p = record { frame = n.frame; writes = writes }

    r : Role
    r = Leaf s.group (1024 * i + j)

    after : ℕ → Role
    after = with_role b.roles n.frame r

    xs : List ℕ
    xs = to_le 4 (leaf_of p)

    len : length xs ≡ 4
    len = length-to_le 4 (leaf_of p)

    is : b.maps.tables i ≡ Some table
    is = sym (ap (λ z. table_by (entry_at ram (4096 * z + 4 * i))) (sym b.root_is) ∙ root_tells ram b.roles s.group b.maps i b.stands (omega (arith, small))) ∙ e

    g : Given s b.roles used n.frame r
    g = given s regions added ram used b h n r (same_number s.group s.group refl)

    room : 4096 * table + 4 * j + length xs ≤ length ram
    room = let lie = b.stands.lie.tables i table is in omega (arith, len, lie)

    same : SameRoles s.group b.roles after
    same = given_role s.group b.roles n.frame r (free_is_none s.group (b.roles n.frame) n.free)

    table_role : after table ≡ Table s.group i
    table_role = same table (table_is_of s.group (b.roles table) (table_table s.group i (b.roles table) (b.stands.owns.tables i table is))) ∙ b.stands.owns.tables i table is

    -- what is no table of the group is in another frame
    table_apart : (f : ℕ) (q : Role) → b.roles f ≡ q → q ≢ Table s.group i → f ≢ table
    table_apart f q a ne z = ne (sym a ∙ ap b.roles z ∙ b.stands.owns.tables i table is)

    new : List ℕ
    new = put_bytes ram (4096 * table + 4 * j) xs

    zero_still : (f : ℕ) → f ≢ table → IsZeroed ram f → IsZeroed new f
    zero_still f ne z k l = byte_elsewhere ram table (4096 * table + 4 * j) xs f k (omega arith) (omega (arith, len)) room ne l ∙ z k l

    some_apart : Leaf s.group page ≢ Table s.group i
    some_apart z = cc

    free_apart : Free ≢ Table s.group i
    free_apart z = cc

    leaf_apart : (v : ℕ) → Leaf s.group v ≢ Table s.group i
    leaf_apart v z = cc

    built : Building s regions (record { page = page; writes = writes } ∷ added) new (used + 1)
    built = record {
      roles = after;
      maps = with_page b.maps (1024 * i + j) p;
      root_is = b.root_is;
      stands = page_step ram b.roles s.group b.maps i j table p b.stands (omega (arith, small)) (omega arith) is n.free n.inside;
      long = length-put_bytes ram (4096 * table + 4 * j) xs room ∙ b.long;
      kept = kept_still s.group b.roles after s.old ram table (4096 * table + 4 * j) xs (fewer_tables s.group b.roles n.frame r n.free) (table_table s.group i (after table) table_role) (omega arith) (omega (arith, len)) room b.kept;
      once = b.once;
      fresh = b.fresh;
      unused = g.unused;
      taken = g.taken;
      elsewhere = g.elsewhere;
      few = omega (arith, h);
      count = let c = b.count in omega (arith, c);
      tables = b.tables;
      pages = λ v some. ⊎_elim
          (λ q. ap (λ x. right_of (if x then Some p else b.maps.pages v)) (same_number v (1024 * i + j) (q ∙ sym page_is)) ∙ sym (seen_added_here v (same_number v page q)))
          (λ ne.
          let same = seen_added v (other_number v page ne) in
          ap (λ x. right_of (if x then Some p else b.maps.pages v)) (other_number v (1024 * i + j) (λ q. ne (q ∙ page_is))) ∙ b.pages v (ap is_some (sym same) ∙ some) ∙ sym same)
          (cases_eq v page);
      zeroed = λ v q some z. ⊎_elim
          (λ here.
          let is_p : p ≡ q = some_page p q (sym (ap (λ x. if x then Some p else b.maps.pages v) (same_number v (1024 * i + j) (here ∙ sym page_is))) ∙ z) in
          subst (λ w. IsZeroed new w.frame) is_p (zero_still n.frame (table_apart n.frame Free n.free free_apart) n.zero))
          (λ ne.
          let old : b.maps.pages v ≡ Some q = sym (ap (λ x. if x then Some p else b.maps.pages v) (other_number v (1024 * i + j) (λ y. ne (y ∙ page_is)))) ∙ z in
          let was : is_some (look added v) ≡ true = ap is_some (sym (seen_added v (other_number v page ne))) ∙ some in
          zero_still q.frame (table_apart q.frame (Leaf s.group v) (b.stands.owns.pages v q old) (leaf_apart v)) (b.zeroed v q was old))
          (cases_eq v page);
      others = λ v none. ⊎_elim
          (λ here. absurd (some_none (sym (seen_added_here v (same_number v page here)) ∙ none)))
          (λ ne. ap (λ x. if x then Some p else b.maps.pages v) (other_number v (1024 * i + j) (λ y. ne (y ∙ page_is))) ∙ b.others v (sym (seen_added v (other_number v page ne)) ∙ none))
          (cases_eq v page);
    }
      where
        some_none : Some writes ≡ None → ⊥
        some_none z = cc

        seen_added : (v : ℕ) → (v == page) ≡ false → (if v == page then Some writes else look added v) ≡ look added v
        seen_added v q = ap (λ x. if x then Some writes else look added v) q

        seen_added_here : (v : ℕ) → (v == page) ≡ true → (if v == page then Some writes else look added v) ≡ Some writes
        seen_added_here v q = ap (λ x. if x then Some writes else look added v) q
