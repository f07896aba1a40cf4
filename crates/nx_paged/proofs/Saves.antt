-- What a store through the tables comes to.
use Rattle.std.proofs.Common.{◌≡◌, ◌≢◌, ℕ, suc, ◌+◌, ◌-◌, ◌*◌, ◌/◌, ◌%◌, ◌<◌, ◌≤◌, Bool, true, false, Some, None, List, [], ◌∷◌, length, map, take, get_or, refl, sym, ap, ◌∙◌, subst, arith, ⊎_elim, inl, inr, add-zero, zero-add}
use Rattle.std.specs.Prelude.{if◌then◌else◌, slice_set, Err}
use Rattle.std.proofs.lemmas.Bool.{cases_lt}
use Rattle.std.proofs.lemmas.Bool.Decides.{nat_tests}
use Rattle.nx_base.specs.ByteLists.{put_bytes, to_le, AreBytes}
use Rattle.nx_base.specs.Views.{store_bytes}
use Rattle.nx_base.proofs.Puts.{length-to_le, length-put_bytes, get-put_bytes_other}
use Rattle.nx_base.specs.declared.access.Access.TheVariants.{Load, Store}
use Rattle.nx_ram.proofs.Puts.{small_put, small_number}
use Rattle.nx_sv32.specs.Walk.{ram_start, walk}
use Rattle.nx_tables.specs.Maps.{Maps, satp_of, translated}
use Rattle.nx_tables.specs.Roles.{Role, Leaf, Stands}
use Rattle.nx_tables.specs.ViewBytes.{PageAt, IsMapped}
use Rattle.nx_tables.proofs.Kept.{leaf_is_of}
use Rattle.nx_tables.proofs.Walked.{walk_mapped}
use Rattle.nx_tables.proofs.Views.{page_written, seen_put, seen_other}
use Rattle.nx_space.specs.World.{Own, IsEntered, view_in, group_in}
use Rattle.nx_space.specs.Places.{Place, written_at, with_own, put_into, with_bytes}
use Rattle.nx_space.proofs.Stores.{Stored, stored, not_stored}
use Rattle.nx_paged.specs.Tenants.{Tenant}
use Rattle.nx_paged.specs.Spans.{Span, Each, span_bytes, spans_of, covers, Hit, first_span, IsSpan, IsApart, AreApart}
use Rattle.nx_paged.specs.Outside.{in_spans, is_shown, bytes_without, outside_of}
use Rattle.nx_paged.specs.Paging.{Paging, paged_plan, paged_group, paged_world, FitsPaged, IsPlaced, IsLive, IsPaged}
use Rattle.nx_paged.specs.Finding.{Found}
use Rattle.nx_paged.specs.Lawful.{paged_lawful}
use Rattle.nx_paged.proofs.Hits.{Resolves}
use Rattle.nx_paged.proofs.Accesses.{InPage, writes_store, walked, entered_tenant, entered_resolved, entered_refused, hit_bytes}
use Rattle.nx_paged.proofs.Shown.{seen_at, StandsBoth, shown_same, without_same, take_same}

-- no address of a window lies in a page of a group
abbrev IsClear : ℕ → ℕ → ℕ → Span → Type 0
IsClear g h v s = (at : ℕ) → s.start ≤ at → at < s.start + s.bytes → g ≡ h → at / 4096 ≢ v

spans_other : (ram : List ℕ) (role : ℕ → Role) (g : ℕ) (m : Maps) (spans : List Span) (h v frame i : ℕ) (xs : List ℕ) → Stands ram role g m → Each IsSpan spans → Each (λ s. IsMapped m s.start s.bytes s.writes) spans → role frame ≡ Leaf h v → 4096 * frame ≤ i → i + length xs ≤ 4096 * frame + 4096 → 4096 * frame + 4096 ≤ length ram → Each (IsClear g h v) spans → map (span_bytes (put_bytes ram i xs) m.root) spans ≡ map (span_bytes ram m.root) spans
spans_other ram role g m [] h v frame i xs st fine mapped is low high room clear = refl
spans_other ram role g m (s ∷ ss) h v frame i xs st fine mapped is low high room clear =
    ap (λ b. b ∷ map (span_bytes (put_bytes ram i xs) m.root) ss) (seen_other ram role g m s.start s.bytes s.writes h v frame i xs st mapped.0 (fine.0).top is low high room clear.0)
    ∙ ap (λ bs. span_bytes ram m.root s ∷ bs) (spans_other ram role g m ss h v frame i xs st fine.1 mapped.1 is low high room clear.1)

-- a window of whole pages without an address has none of its page
clear_of : (g h at : ℕ) (s : Span) → IsSpan s → covers s at ≡ false → IsClear g h (at / 4096) s
clear_of g h at s f c k low high same e =
    let a = f.start in
    let b = f.bytes in
    let t : covers s at ≡ true = grind (arith, nat_tests, a, b, low, high, e) in
    let z : true ≡ false = sym t ∙ c in
    absurd cc

-- windows apart from one that has an address
clear_apart : (g h at : ℕ) (s : Span) (ss : List Span) → IsSpan s → Each IsSpan ss → covers s at ≡ true → Each (IsApart s) ss → Each (IsClear g h (at / 4096)) ss
clear_apart g h at s [] f fs c apart = tt
clear_apart g h at s (t ∷ ts) f fs c apart = (clear_of g h at t fs.0 (not_covered apart.0), clear_apart g h at s ts f fs.1 c apart.1)
  where
    low : s.start ≤ at
    low = grind (arith, nat_tests, c)

    high : at < s.start + s.bytes
    high = grind (arith, nat_tests, c)

    not_covered : IsApart s t → covers t at ≡ false
    not_covered a = ⊎_elim (λ l. grind (arith, nat_tests, l, low, high)) (λ l. grind (arith, nat_tests, l, low, high)) a

-- bytes put at an address of the found window are put into its bytes alone
pub record OwnPut (ram : List ℕ) (m : Maps) (spans : List Span) (k at i : ℕ) (xs : List ℕ) (x : Hit) : Type 0 where
  pub place : ℕ
  pub index : x.index ≡ k + place
  pub is : map (span_bytes (put_bytes ram i xs) m.root) spans ≡ slice_set (map (span_bytes ram m.root) spans) place (put_bytes (span_bytes ram m.root x.span) (at - x.span.start) xs)

pub own_put : (ram : List ℕ) (role : ℕ → Role) (g : ℕ) (m : Maps) (spans : List Span) (k at i : ℕ) (xs : List ℕ) (x : Hit) (p : PageAt m at x.span.writes) → Stands ram role g m → Each IsSpan spans → AreApart spans → Each (λ s. IsMapped m s.start s.bytes s.writes) spans → first_span k spans at ≡ Some x → i ≡ 4096 * p.page.frame + at % 4096 → at % 4096 + length xs ≤ 4096 → OwnPut ram m spans k at i xs x
unfolding first_span
own_put ram role g m [] k at i xs x p st fine apart mapped e is fit = absurd cc
own_put ram role g m (s ∷ ss) k at i xs x p st fine apart mapped e is fit = by_test (covers s at) refl e (λ q. own_put ram role g m ss (k + 1) at i xs x p st fine.1 apart.1 mapped.1 q is fit)
  where
    v : ℕ
    v = at / 4096

    role_is : role p.page.frame ≡ Leaf g v
    role_is = st.owns.pages v p.page p.mapped

    room : 4096 * p.page.frame + 4096 ≤ length ram
    room = st.lie.pages v p.page p.mapped

    low : 4096 * p.page.frame ≤ i
    low = omega (arith, is)

    high : i + length xs ≤ 4096 * p.page.frame + 4096
    high = omega (arith, is, fit)

    rest_same : Each (IsClear g g v) ss → map (span_bytes (put_bytes ram i xs) m.root) ss ≡ map (span_bytes ram m.root) ss
    rest_same c = spans_other ram role g m ss g v p.page.frame i xs st fine.1 mapped.1 role_is low high room c

    some_is : (a : Hit) → Some a ≡ Some x → a ≡ x
    some_is a q = cc

    here : covers s at ≡ true → record { index = k; span = s } ≡ x → OwnPut ram m (s ∷ ss) k at i xs x
    here c q =
        let span_is : s ≡ x.span = ap (λ h. h.span) q in
        let f = fine.0 in
        let l : s.start ≤ at = grind (arith, nat_tests, c) in
        let u : at < s.start + s.bytes = grind (arith, nat_tests, c) in
        let j : s.start + (at - s.start) ≡ at = omega (arith, l) in
        let page : PageAt m (s.start + (at - s.start)) s.writes = record { page = p.page; mapped = ap (λ z. m.pages (z / 4096)) j ∙ p.mapped; right = p.right ∙ ap (λ z. z.writes) (sym span_is) } in
        let a = f.start in
        let b = f.bytes in
        record {
          place = 0;
          index = sym (ap (λ h. h.index) q) ∙ sym (add-zero k);
          is =
              ap (λ bs. bs ∷ map (span_bytes (put_bytes ram i xs) m.root) ss) (seen_put ram role g m s.start s.bytes s.writes (at - s.start) i xs st mapped.0 f.top page (omega (arith, l, u, fit, a, b)) (omega (arith, is, j)) (omega (arith, j, fit)))
              ∙ ap (λ bs. put_bytes (span_bytes ram m.root s) (at - s.start) xs ∷ bs) (rest_same (clear_apart g g at s ss f fine.1 c apart.0))
              ∙ ap (λ z. put_bytes (span_bytes ram m.root z) (at - z.start) xs ∷ map (span_bytes ram m.root) ss) span_is;
        }

    later : covers s at ≡ false → OwnPut ram m ss (k + 1) at i xs x → OwnPut ram m (s ∷ ss) k at i xs x
    later c r = record {
      place = suc r.place;
      index = omega (arith, r.index);
      is =
          ap (λ bs. bs ∷ map (span_bytes (put_bytes ram i xs) m.root) ss) (seen_other ram role g m s.start s.bytes s.writes g v p.page.frame i xs st mapped.0 (fine.0).top role_is low high room (clear_of g g at s fine.0 c))
          ∙ ap (λ bs. span_bytes ram m.root s ∷ bs) r.is;
    }

    by_test : (b : Bool) → covers s at ≡ b → (if b then Some (record { index = k; span = s }) else first_span (k + 1) ss at) ≡ Some x → (first_span (k + 1) ss at ≡ Some x → OwnPut ram m ss (k + 1) at i xs x) → OwnPut ram m (s ∷ ss) k at i xs x
    by_test true c q more = here c (some_is _ q)
    by_test false c q more = later c (more q)

-- any window of another group
all_clear : (g h v : ℕ) (ss : List Span) → g ≢ h → Each (IsClear g h v) ss
all_clear g h v [] ne = tt
all_clear g h v (s ∷ ss) ne = ((λ at low high same. absurd (ne same)), all_clear g h v ss ne)

-- another group shows what it showed
group_same : (s : Paging) (role : ℕ → Role) (t : Tenant) (h v frame i : ℕ) (xs : List ℕ) → IsLive s.ram s.stock (paged_plan s) role t → t.number ≢ h → role frame ≡ Leaf h v → 4096 * frame ≤ i → i + length xs ≤ 4096 * frame + 4096 → 4096 * frame + 4096 ≤ length s.ram → paged_group (put_bytes s.ram i xs) (paged_plan s) t ≡ paged_group s.ram (paged_plan s) t
group_same s role t h v frame i xs ok ne is low high room =
    let spans = spans_of (paged_plan s) t.program t.slots in
    let same : map (span_bytes (put_bytes s.ram i xs) ok.maps.root) spans ≡ map (span_bytes s.ram ok.maps.root) spans =
    spans_other s.ram role t.number ok.maps spans h v frame i xs ok.stands ok.shows.fine ok.shows.mapped is low high room (all_clear t.number h v spans ne)
    in
    ap (λ bs. record (paged_group s.ram (paged_plan s) t) { own = bs }) (subst (λ r. map (span_bytes (put_bytes s.ram i xs) r) spans ≡ map (span_bytes s.ram r) spans) ok.root same)

-- each group's tables stand where bytes are put into a page
abbrev pub with_ram : Paging → List ℕ → Paging
with_ram s ram = record s { ram = ram }

pub all_live : (s : Paging) (role : ℕ → Role) (ts : List Tenant) (h v frame i : ℕ) (xs : List ℕ) → Each (IsLive s.ram s.stock (paged_plan s) role) ts → role frame ≡ Leaf h v → 4096 * frame ≤ i → i + length xs ≤ 4096 * frame + 4096 → 4096 * frame + 4096 ≤ length s.ram → Each (IsLive (put_bytes s.ram i xs) s.stock (paged_plan s) role) ts
all_live s role [] h v frame i xs ok is low high room = tt
all_live s role (t ∷ ts) h v frame i xs ok is low high room =
    let k = ok.0 in
    (record { maps = k.maps; root = k.root; stands = page_written s.ram role t.number k.maps h v frame i xs k.stands is low high room; tables = k.tables; shows = k.shows; frames = k.frames; count = k.count }, all_live s role ts h v frame i xs ok.1 is low high room)

both_stand : (s : Paging) (role : ℕ → Role) (ts : List Tenant) (h v frame i : ℕ) (xs : List ℕ) → Each (IsLive s.ram s.stock (paged_plan s) role) ts → role frame ≡ Leaf h v → 4096 * frame ≤ i → i + length xs ≤ 4096 * frame + 4096 → 4096 * frame + 4096 ≤ length s.ram → Each (StandsBoth s.ram (put_bytes s.ram i xs) role role (paged_plan s)) ts
both_stand s role [] h v frame i xs ok is low high room = tt
both_stand s role (t ∷ ts) h v frame i xs ok is low high room =
    let k = ok.0 in
    (record { maps = k.maps; root = k.root; before = k.stands; now = page_written s.ram role t.number k.maps h v frame i xs k.stands is low high room; fine = k.shows.fine }, both_stand s role ts h v frame i xs ok.1 is low high room)

pub still_placed : (s : Paging) (ram : List ℕ) → IsPlaced s → length ram ≡ length s.ram → AreBytes ram → IsPlaced (with_ram s ram)
still_placed s ram h long bytes = record {
  fits = subst (λ n. FitsPaged n s.pool s.programs s.stack s.threads) (sym long) h.fits;
  bytes = bytes;
  first = h.first;
  frames = h.frames ∙ sym long;
  few = h.few;
  distinct = h.distinct;
  tenants = h.tenants;
  counted = h.counted;
}

-- the address of a byte of the page
page_walk : (ram : List ℕ) (role : ℕ → Role) (g : ℕ) (m : Maps) (at d : ℕ) (writes : Bool) (p : PageAt m at writes) → Stands ram role g m → at + d < 4294967296 → at % 4096 + d < 4096 → walk ram (satp_of m.root) (at + d) Load ≡ Some (ram_start + (4096 * p.page.frame + at % 4096 + d))
page_walk ram role g m at d writes p s small fit =
    let v : (at + d) / 4096 ≡ at / 4096 = omega (arith, fit) in
    let o : ram_start + (4096 * p.page.frame + (at + d) % 4096) ≡ ram_start + (4096 * p.page.frame + at % 4096 + d) = omega (arith, fit) in
    walk_mapped ram role g m (at + d) Load s small ∙ ap (λ q. translated q (at + d) Load) (ap m.pages v ∙ p.mapped) ∙ ap (λ n. Some n) o

pub record Saved (s : Paging) (at n x to : ℕ) : Type 0 where
  pub stored : Stored (paged_world s) (paged_world (with_ram s (put_bytes s.ram (to - ram_start) (to_le n x)))) at n x
  pub placed : IsPlaced (with_ram s (put_bytes s.ram (to - ram_start) (to_le n x)))
  pub paged : IsPaged (with_ram s (put_bytes s.ram (to - ram_start) (to_le n x)))

pub saved : (s : Paging) (at n x to : ℕ) → IsPlaced s → (p : IsPaged s) → IsEntered (paged_world s) → InPage at n → walked s at Store ≡ Some to → Saved s at n x to
saved s at n x to h p v i e = record {
  stored = subst (λ w. Stored (paged_world s) w at n x) world (stored (paged_world s) at n x place (paged_lawful s h) v place_is);
  placed = still_placed s new h long (small_put s.ram (to - ram_start) xs inside h.bytes (small_number n x));
  paged = record {
    role = p.role;
    live = all_live s p.role s.tenants g page q.page.frame (to - ram_start) xs p.live role_is low high room;
    held = p.held;
    nobody = p.nobody;
    past = p.past;
  };
}
  where
    f : Found (IsLive s.ram s.stock (paged_plan s) p.role) s.tenants s.entered
    f = entered_tenant s p v

    g : ℕ
    g = f.tenant.number

    m : Maps
    m = f.ok.maps

    spans : List Span
    spans = spans_of (paged_plan s) f.tenant.program f.tenant.slots

    r : Resolves m spans (λ z. z.writes) at n to
    r = entered_resolved s p.role f (λ z. z.writes) Store at n to writes_store i e

    q : PageAt m at r.hit.span.writes
    q = r.page

    page : ℕ
    page = at / 4096

    xs : List ℕ
    xs = to_le n x

    len : length xs ≡ n
    len = length-to_le n x

    new : List ℕ
    new = put_bytes s.ram (to - ram_start) xs

    address : to - ram_start ≡ 4096 * q.page.frame + at % 4096
    address = let a = r.address in omega (arith, a)

    role_is : p.role q.page.frame ≡ Leaf g page
    role_is = f.ok.stands.owns.pages page q.page q.mapped

    room : 4096 * q.page.frame + 4096 ≤ length s.ram
    room = f.ok.stands.lie.pages page q.page q.mapped

    low : 4096 * q.page.frame ≤ to - ram_start
    low = omega (arith, address)

    high : to - ram_start + length xs ≤ 4096 * q.page.frame + 4096
    high = let fit = i.fit in omega (arith, address, len, fit)

    inside : to - ram_start + length xs ≤ length s.ram
    inside = omega (arith, high, room)

    long : length new ≡ length s.ram
    long = length-put_bytes s.ram (to - ram_start) xs inside

    past : s.pool ≤ 4096 * q.page.frame
    past = p.past q.page.frame g (leaf_is_of g page (p.role q.page.frame) role_is)

    place : Place
    place = record { home = Own r.hit.index; at = 0 + (at - r.hit.span.start) }

    group : group_in (paged_world s) ≡ paged_group s.ram (paged_plan s) f.tenant
    group = f.group_is s.ram (paged_plan s)

    place_is : written_at (group_in (paged_world s)).parts at n ≡ Some place
    place_is = ap (λ z. written_at z.parts at n) group ∙ r.place

    own : List (List ℕ)
    own = put_into (map (span_bytes s.ram f.tenant.root) spans) r.hit.index (0 + (at - r.hit.span.start)) xs

    own_is : map (span_bytes new f.tenant.root) spans ≡ own
    own_is =
        let o = own_put s.ram p.role g m spans 0 at (to - ram_start) xs r.hit q f.ok.stands f.ok.shows.fine f.ok.shows.apart f.ok.shows.mapped r.found address (let fit = i.fit in omega (arith, fit, len)) in
        let index : o.place ≡ r.hit.index = let a = o.index in omega (arith, a) in
        let zero : at - r.hit.span.start ≡ 0 + (at - r.hit.span.start) = sym (zero-add (at - r.hit.span.start)) in
        let shown = hit_bytes s p.role f (λ z. z.writes) at n to r in
        subst (λ root. map (span_bytes new root) spans ≡ slice_set (map (span_bytes s.ram root) spans) r.hit.index (put_bytes (span_bytes s.ram m.root r.hit.span) (0 + (at - r.hit.span.start)) xs)) f.ok.root
        (o.is
        ∙ ap (λ z. slice_set (map (span_bytes s.ram m.root) spans) z (put_bytes (span_bytes s.ram m.root r.hit.span) (at - r.hit.span.start) xs)) index
        ∙ ap (λ z. slice_set (map (span_bytes s.ram m.root) spans) r.hit.index (put_bytes (span_bytes s.ram m.root r.hit.span) z xs)) zero)
        ∙ ap (λ bs. slice_set (map (span_bytes s.ram f.tenant.root) spans) r.hit.index (put_bytes bs (0 + (at - r.hit.span.start)) xs)) (sym shown)

    groups : map (paged_group new (paged_plan s)) s.tenants ≡ with_own own (map (paged_group s.ram (paged_plan s)) s.tenants) s.entered
    groups = f.changed (paged_group s.ram (paged_plan s)) (paged_group new (paged_plan s)) own h.distinct (λ t. refl)
        (ap (λ bs. record (paged_group s.ram (paged_plan s) f.tenant) { own = bs }) own_is)
        (λ t ok ne. group_same s p.role t g page q.page.frame (to - ram_start) xs ok (λ z. ne (z ∙ f.number_is)) role_is low high room)

    -- each byte that is put is shown
    byte_shown : (d : ℕ) → d < n → is_shown s.ram (paged_plan s) s.tenants (to - ram_start + d) ≡ true
    byte_shown d l =
        let b = r.is in
        let fit = i.fit in
        let start = b.low in
        let top = b.fine.top in
        let size = b.fine.bytes in
        let first = b.fine.start in
        let end = b.high in
        let j : r.hit.span.start + (at - r.hit.span.start + d) ≡ at + d = omega (arith, start) in
        let bound : at + d < r.hit.span.start + r.hit.span.bytes = omega (arith, end, fit, l, size, first, start) in
        let to_is : ram_start + (4096 * q.page.frame + at % 4096 + d) ≡ ram_start + (to - ram_start + d) = omega (arith, address) in
        let w = page_walk s.ram p.role g m at d r.hit.span.writes q f.ok.stands (omega (arith, bound, top)) (omega (arith, fit, l)) in
        let one = seen_at s.ram (satp_of m.root) r.hit.span.start r.hit.span.bytes (at - r.hit.span.start + d) (to - ram_start + d) (omega (arith, bound, start))
        (ap (λ a. walk s.ram (satp_of m.root) a Load) j ∙ w ∙ ap (λ a. Some a) to_is) in
        f.shown s.ram (paged_plan s) (to - ram_start + d) (subst (λ root. in_spans s.ram root spans (to - ram_start + d) ≡ true) f.ok.root (b.shown s.ram m.root (to - ram_start + d) one))

    byte_same : (j : ℕ) → is_shown s.ram (paged_plan s) s.tenants j ≡ false → get_or new j 0 ≡ get_or s.ram j 0
    byte_same j none = get-put_bytes_other s.ram (to - ram_start) xs j inside
        (⊎_elim (λ l. inl l) (λ l. inr (⊎_elim
        (λ u.
        let e : to - ram_start + (j - (to - ram_start)) ≡ j = omega (arith, l) in
        let yes : is_shown s.ram (paged_plan s) s.tenants j ≡ true = ap (is_shown s.ram (paged_plan s) s.tenants) (sym e) ∙ byte_shown (j - (to - ram_start)) (omega (arith, u, l, len)) in
        absurd (apart (sym yes ∙ none)))
        (λ u. u) (cases_lt j (to - ram_start + length xs)))) (cases_lt j (to - ram_start)))
      where
        apart : true ≡ false → ⊥
        apart z = cc

    outside : outside_of new s.pool (paged_plan s) s.tenants ≡ outside_of s.ram s.pool (paged_plan s) s.tenants
    outside =
        ap (λ k. bytes_without (is_shown new (paged_plan s) s.tenants) new s.pool (k - s.pool)) long
        ∙ without_same (is_shown s.ram (paged_plan s) s.tenants) (is_shown new (paged_plan s) s.tenants) s.ram new s.pool (length s.ram - s.pool)
        (λ k. shown_same s.ram new p.role p.role (paged_plan s) s.tenants k (both_stand s p.role s.tenants g page q.page.frame (to - ram_start) xs p.live role_is low high room))
        byte_same

    pool : take s.pool new ≡ take s.pool s.ram
    pool = take_same s.ram new s.pool long (λ k l. get-put_bytes_other s.ram (to - ram_start) xs k inside (inl (omega (arith, l, past, low))))

    world : with_bytes (paged_world s) s.entered place xs ≡ paged_world (with_ram s new)
    world =
        ap (λ z. record (paged_world s) { groups = with_own (put_into z.own r.hit.index (0 + (at - r.hit.span.start)) xs) (paged_world s).groups s.entered }) group
        ∙ ap (λ gs. record (paged_world s) { groups = gs }) (sym groups)
        ∙ ap (λ bs. record (paged_world s) { groups = map (paged_group new (paged_plan s)) s.tenants; common = bs ∷ [] }) (sym pool)
        ∙ ap (λ o. record (paged_world s) { groups = map (paged_group new (paged_plan s)) s.tenants; common = take s.pool new ∷ []; outside = o }) (sym outside)

pub not_saved : (s : Paging) (at n x : ℕ) → IsPlaced s → (p : IsPaged s) → IsEntered (paged_world s) → InPage at n → walked s at Store ≡ None → store_bytes (view_in (paged_world s)) at n x ≡ Err 15
not_saved s at n x h p v i e = not_stored (paged_world s) at n x (paged_lawful s h) v (entered_refused s p (λ z. z.writes) Store at n v writes_store i e)
