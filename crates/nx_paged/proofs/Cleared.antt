-- The space and its world after a stack that a group has is set to zeros.
use Rattle.std.proofs.Common.{◌≡◌, ℕ, suc, ◌+◌, ◌-◌, ◌*◌, ◌/◌, ◌%◌, ◌<◌, ◌≤◌, ◌==◌, ◌||◌, Bool, true, false, not, Some, Option, List, [], ◌∷◌, ◌++◌, length, map, take, get_or, refl, sym, ap, ◌∙◌, subst, arith, inl, inr, ⊎_elim}
use Rattle.std.specs.Prelude.{if◌then◌else◌, slice_set, slice_index_or}
use Rattle.nx_base.specs.ByteLists.{put_bytes}
use Rattle.nx_frames.specs.Stock.{AreHeld}
use Rattle.nx_tables.specs.Maps.{Maps, satp_of}
use Rattle.nx_tables.specs.ViewBytes.{seen, IsMapped}
use Rattle.nx_tables.proofs.Kept.{same_number, leaf_is_of, of_one}
use Rattle.nx_space.specs.World.{Own, World, MemoryMap, group_of}
use Rattle.nx_space.specs.Places.{Place, place_in, written_at, with_own, put_into}
use Rattle.nx_space.specs.Starts.{program_at, has_slot, stack_low, pages_of, grown, put_or, put_seen, zero_stack, with_stack, change_group, but_outside}
use Rattle.nx_paged.specs.Tenants.{Tenant, has_tenant, are_distinct}
use Rattle.nx_paged.specs.Spans.{Span, Each, IsSpan, IsApart, AreApart, span_bytes, spans_of, stack_span, stack_spans, span_of, parts_from}
use Rattle.nx_paged.specs.Paging.{Paging, paged_plan, paged_group, paged_world, IsPlaced, IsLive, IsPaged}
use Rattle.nx_paged.specs.Layout.{IsAmong, among_right, stack_among, apart_of, not_held, is_held}
use Rattle.nx_paged.specs.Writing.{IsPlace, Writes, WritesAll}
use Rattle.nx_paged.proofs.Shown.{take_same}
use Rattle.nx_paged.proofs.Saves.{with_ram}
use Rattle.nx_paged.proofs.Ends.{holdings}
use Rattle.nx_paged.proofs.Begun.{Untouched, still_groups, still_lives}
use Rattle.nx_paged.proofs.Mapped.{window_still}
use Rattle.nx_paged.proofs.Zeros.{zeros, length-zeros}
use Rattle.nx_paged.proofs.Splits.{map_middle, map_rest, each_middle, each_rest, each_insert, each_before, each_after, none_after, none_rest, group_middle}
use Rattle.nx_paged.proofs.Growths.{bounds_of}
use Rattle.nx_frames.proofs.Owners.{held_first}

-- a group that has the stack of a slot
pub record Clearing : Type 0 where
  pub s : Paging
  pub before : List Tenant
  pub t : Tenant
  pub after : List Tenant
  pub slot : ℕ
  pub placed : IsPlaced s
  pub are : s.tenants ≡ before ++ t ∷ after
  pub slot_is : slot < s.threads
  pub has : has_slot t.slots slot ≡ true
  pub none : has_tenant before t.number ≡ false

abbrev pub low_at : Clearing → ℕ
low_at x = stack_low (paged_plan x.s) x.slot

abbrev spans_at : Clearing → List Span
spans_at x = spans_of (paged_plan x.s) x.t.program x.t.slots

abbrev window_at : Clearing → Span
window_at x = stack_span (paged_plan x.s) x.slot

pub live_at : (x : Clearing) (p : IsPaged x.s) → IsLive x.s.ram x.s.stock (paged_plan x.s) p.role x.t
live_at x p = each_middle (IsLive x.s.ram x.s.stock (paged_plan x.s) p.role) x.before x.t x.after (subst (Each (IsLive x.s.ram x.s.stock (paged_plan x.s) p.role)) x.are p.live)

among : (x : Clearing) → IsAmong (window_at x) (spans_at x)
among x =
    let q = program_at (paged_plan x.s) x.t.program in
    among_right (window_at x) (span_of q.text_at false q.text) (span_of q.data_at true q.init ++ stack_spans (paged_plan x.s) x.t.slots)
    (among_right (window_at x) (span_of q.data_at true q.init) (stack_spans (paged_plan x.s) x.t.slots) (stack_among (paged_plan x.s) x.slot x.t.slots x.has))

each_among : (P : Span → Type 0) (s : Span) (spans : List Span) → Each P spans → IsAmong s spans → P s
each_among P s [] h a = absurd a
each_among P s (y ∷ ys) h a = ⊎_elim (λ e. subst P e h.0) (λ r. each_among P s ys h.1 r) a

-- its bytes are those of its window
size_at : (x : Clearing) → 4096 * pages_of x.s.stack ≡ x.s.stack
size_at x = let w = x.placed.fits.stack_whole in omega (arith, w)

pub place_at : (x : Clearing) (p : IsPaged x.s) → IsPlace x.s.ram (satp_of x.t.root) (low_at x) x.s.stack true p.role x.t.number (live_at x p).maps
place_at x p =
    let v = live_at x p in
    let b = bounds_of x.s x.slot x.placed x.slot_is in
    let high = b.high_is in
    record {
      stands = v.stands;
      satp_is = ap satp_of (sym v.root);
      mapped = subst (λ n. IsMapped v.maps (low_at x) n true) (size_at x) (each_among (λ y. IsMapped v.maps y.start y.bytes y.writes) (window_at x) (spans_at x) v.shows.mapped (among x));
      start = b.whole;
      top = omega (arith, high);
    }

-- the window shows other bytes, and no other window does
pub record Cleared (old new : List ℕ) (root : ℕ) (spans : List Span) (k : ℕ) (s : Span) : Type 0 where
  pub place : ℕ
  pub at_is : written_at (parts_from k spans) s.start s.bytes ≡ Some (record { home = Own (k + place); at = 0 + (s.start - s.start) })
  pub own : map (span_bytes new root) spans ≡ slice_set (map (span_bytes old root) spans) place (span_bytes new root s)
  pub there : slice_index_or (map (span_bytes old root) spans) place [] ≡ span_bytes old root s

swapped : (x s : Span) → IsApart s x → IsApart x s
swapped x s a = ⊎_elim (λ l. inr l) (λ l. inl l) a

cleared_in : (old new : List ℕ) (root : ℕ) (m : Maps) (k : ℕ) (spans : List Span) (s : Span) → ((x : Span) → IsSpan x → IsMapped m x.start x.bytes x.writes → IsApart x s → span_bytes new root x ≡ span_bytes old root x) → Each IsSpan spans → Each (λ x. IsMapped m x.start x.bytes x.writes) spans → AreApart spans → IsAmong s spans → s.writes ≡ true → 1 ≤ s.bytes → Cleared old new root spans k s
unfolding place_in parts_from
cleared_in old new root m k [] s still fine mapped apart a w one = absurd a
cleared_in old new root m k (x ∷ xs) s still fine mapped apart a w one = ⊎_elim here (λ r. later r (cleared_in old new root m (k + 1) xs s still fine.1 mapped.1 apart.1 r w one)) a
  where
    all_still : (ys : List Span) → Each IsSpan ys → Each (λ y. IsMapped m y.start y.bytes y.writes) ys → Each (λ y. IsApart y s) ys → map (span_bytes new root) ys ≡ map (span_bytes old root) ys
    all_still [] fs ms as_ = refl
    all_still (y ∷ ys) fs ms as_ = ap (λ b. b ∷ map (span_bytes new root) ys) (still y fs.0 ms.0 as_.0) ∙ ap (λ l. span_bytes old root y ∷ l) (all_still ys fs.1 ms.1 as_.1)

    each_swapped : (ys : List Span) → Each (IsApart s) ys → Each (λ y. IsApart y s) ys
    each_swapped [] h = tt
    each_swapped (y ∷ ys) h = (swapped y s h.0, each_swapped ys h.1)

    here : x ≡ s → Cleared old new root (x ∷ xs) k s
    here e =
        let held = is_held k s s.start s.bytes (omega arith) (omega arith) in
        let z : k ≡ k + 0 = omega arith in
        let first : written_at (parts_from k (s ∷ xs)) s.start s.bytes ≡ Some (record { home = Own k; at = 0 + (s.start - s.start) }) = rw (held, w) refl in
        record {
          place = 0;
          at_is = ap (λ y. written_at (parts_from k (y ∷ xs)) s.start s.bytes) e ∙ first ∙ ap (λ j. Some (record { home = Own j; at = 0 + (s.start - s.start) })) z;
          own = ap (λ y. span_bytes new root y ∷ map (span_bytes new root) xs) e ∙ ap (λ l. span_bytes new root s ∷ l) (all_still xs fine.1 mapped.1 (each_swapped xs (subst (λ y. Each (IsApart y) xs) e apart.0)));
          there = ap (span_bytes old root) e;
        }

    later : IsAmong s xs → Cleared old new root xs (k + 1) s → Cleared old new root (x ∷ xs) k s
    later r c =
        let out = apart_of s x xs apart.0 r in
        let held = not_held k x s s.start s.bytes out one (omega arith) (omega arith) in
        let z : k + 1 + c.place ≡ k + suc c.place = omega arith in
        record {
          place = suc c.place;
          at_is = rw held (c.at_is ∙ ap (λ j. Some (record { home = Own j; at = 0 + (s.start - s.start) })) z);
          own = ap (λ b. b ∷ map (span_bytes new root) xs) (still x fine.0 mapped.0 out) ∙ ap (λ l. span_bytes old root x ∷ l) c.own;
          there = c.there;
        }

-- what was written
abbrev pub Clears : Clearing → List ℕ → Type 0
Clears x new = WritesAll x.s.ram new (satp_of x.t.root) (low_at x) x.s.stack 0 (zeros x.s.stack)

pub written_in : (x : Clearing) (p : IsPaged x.s) (new : List ℕ) → Clears x new → Writes x.s.ram new (satp_of x.t.root) (low_at x) x.s.stack 0 (zeros x.s.stack) p.role x.t.number (live_at x p).maps
written_in x p new w = w true p.role x.t.number (live_at x p).maps (place_at x p)

others_at : (x : Clearing) (p : IsPaged x.s) (new : List ℕ) → Clears x new → Untouched x.s x.s.stock new x.t.number p.role p.role
others_at x p new w =
    let r = written_in x p new w in
    record {
      bytes = λ h f k ne own small. r.kept f k (λ v l u e. ne (of_one h x.t.number (p.role f) own (leaf_is_of x.t.number v (p.role f) e))) small;
      roles_same = λ h f own. refl;
      long = r.long;
    }

rest_at : (x : Clearing) → has_tenant (x.before ++ x.after) x.t.number ≡ false
rest_at x = none_rest x.before x.after x.t.number x.none (none_after x.before x.t x.after (ap are_distinct (sym x.are) ∙ x.placed.distinct))

pub cleared_paged : (x : Clearing) (p : IsPaged x.s) (new : List ℕ) → Clears x new → IsPaged (with_ram x.s new)
cleared_paged x p new w =
    let plan : MemoryMap = paged_plan x.s in
    let v = live_at x p in
    let r = written_in x p new w in
    let live = subst (Each (IsLive x.s.ram x.s.stock plan p.role)) x.are p.live in
    let held = subst (AreHeld x.s.stock) (ap holdings x.are ∙ map_middle (λ t. t.taken) x.before x.t x.after) p.held in
    let held_rest = subst (AreHeld x.s.stock) (sym (map_rest (λ t. t.taken) x.before x.after)) (held_first x.s.stock x.t.taken (holdings x.before) (holdings x.after) held).2 in
    let rest = still_lives x.s x.s.stock new x.t.number p.role p.role (x.before ++ x.after) (others_at x p new w) (λ u h. record { holds = h; frames = refl }) (each_rest (IsLive x.s.ram x.s.stock plan p.role) x.before x.t x.after live) (rest_at x) held_rest in
    let own : IsLive new x.s.stock plan p.role x.t = record { maps = v.maps; root = v.root; stands = r.stands; tables = v.tables; shows = v.shows; frames = v.frames; count = v.count } in
    record {
      role = p.role;
      live = subst (Each (IsLive new x.s.stock plan p.role)) (sym x.are) (each_insert (IsLive new x.s.stock plan p.role) x.before x.t x.after rest own);
      held = p.held;
      nobody = p.nobody;
      past = p.past;
    }

pool_at : (x : Clearing) (p : IsPaged x.s) (new : List ℕ) → Clears x new → take x.s.pool new ≡ take x.s.pool x.s.ram
pool_at x p new w =
    let r = written_in x p new w in
    take_same x.s.ram new x.s.pool r.long (λ k l.
    let f : ℕ = k / 4096 in
    let o : ℕ = k % 4096 in
    let is : k ≡ 4096 * f + o = omega arith in
    let less : 4096 * f < x.s.pool = omega (arith, l) in
    ap (λ i. get_or new i 0) is
    ∙ r.kept f o (λ v a b e. let y = p.past f x.t.number (leaf_is_of x.t.number v (p.role f) e) in omega (arith, y, less)) (omega arith)
    ∙ ap (λ i. get_or x.s.ram i 0) (sym is))

-- the window's bytes
still_at : (x : Clearing) (p : IsPaged x.s) (new : List ℕ) → Clears x new → (y : Span) → IsSpan y → IsMapped (live_at x p).maps y.start y.bytes y.writes → IsApart y (window_at x) → span_bytes new x.t.root y ≡ span_bytes x.s.ram x.t.root y
still_at x p new w y fine mapped apart =
    let v = live_at x p in
    let whole = x.placed.fits.stack_whole in
    let start = (bounds_of x.s x.slot x.placed x.slot_is).whole in
    let size = size_at x in
    subst (λ r. seen new (satp_of r) y.start y.bytes ≡ seen x.s.ram (satp_of r) y.start y.bytes) v.root
    (window_still x.s.ram new (satp_of x.t.root) (low_at x) x.s.stack 0 (zeros x.s.stack) p.role x.t.number v.maps y.start y.bytes y.writes v.stands (written_in x p new w) mapped fine.top fine.start start whole
    (⊎_elim (λ l. inl l) (λ l. inr (omega (arith, l, size))) apart))

pub windows_at : (x : Clearing) (p : IsPaged x.s) (new : List ℕ) → Clears x new → Cleared x.s.ram new x.t.root (spans_at x) 0 (window_at x)
windows_at x p new w =
    let v = live_at x p in
    let one = x.placed.fits.one in
    cleared_in x.s.ram new x.t.root v.maps 0 (spans_at x) (window_at x) (still_at x p new w) v.shows.fine v.shows.mapped v.shows.apart (among x) refl (omega (arith, one))

-- the groups
found_at : (x : Clearing) → group_of (paged_world x.s).groups x.t.number ≡ paged_group x.s.ram (paged_plan x.s) x.t
found_at x = ap (λ ts. group_of (map (paged_group x.s.ram (paged_plan x.s)) ts) x.t.number) x.are ∙ group_middle x.s.ram (paged_plan x.s) x.before x.t x.after x.t.number x.none refl

own_middle : (own : List (List ℕ)) (ram : List ℕ) (memory_map : MemoryMap) (before : List Tenant) (t : Tenant) (after : List Tenant) → has_tenant before t.number ≡ false → with_own own (map (paged_group ram memory_map) (before ++ t ∷ after)) t.number ≡ map (paged_group ram memory_map) before ++ record (paged_group ram memory_map t) { own = own } ∷ map (paged_group ram memory_map) after
unfolding has_tenant with_own
own_middle own ram memory_map [] t after none = ap (λ b. if b then record (paged_group ram memory_map t) { own = own } ∷ map (paged_group ram memory_map) after else paged_group ram memory_map t ∷ with_own own (map (paged_group ram memory_map) after) t.number) (same_number t.number t.number refl)
own_middle own ram memory_map (b ∷ before) t after none = by_test (b.number == t.number) none (λ q. own_middle own ram memory_map before t after q)
  where
    by_test : (x : Bool) → (x || has_tenant before t.number) ≡ false → (has_tenant before t.number ≡ false → with_own own (map (paged_group ram memory_map) (before ++ t ∷ after)) t.number ≡ map (paged_group ram memory_map) before ++ record (paged_group ram memory_map t) { own = own } ∷ map (paged_group ram memory_map) after) → (if x then record (paged_group ram memory_map b) { own = own } ∷ map (paged_group ram memory_map) (before ++ t ∷ after) else paged_group ram memory_map b ∷ with_own own (map (paged_group ram memory_map) (before ++ t ∷ after)) t.number) ≡ paged_group ram memory_map b ∷ (map (paged_group ram memory_map) before ++ record (paged_group ram memory_map t) { own = own } ∷ map (paged_group ram memory_map) after)
    by_test true q more = absurd cc
    by_test false q more = ap (λ l. paged_group ram memory_map b ∷ l) (more q)

groups_at : (x : Clearing) (p : IsPaged x.s) (new : List ℕ) (w : Clears x new) → map (paged_group new (paged_plan x.s)) x.s.tenants ≡ with_own (map (span_bytes new x.t.root) (spans_at x)) (paged_world x.s).groups x.t.number
groups_at x p new w =
    let plan : MemoryMap = paged_plan x.s in
    let live = each_rest (IsLive x.s.ram x.s.stock plan p.role) x.before x.t x.after (subst (Each (IsLive x.s.ram x.s.stock plan p.role)) x.are p.live) in
    let u = others_at x p new w in
    let front = still_groups x.s x.s.stock new x.t.number p.role p.role x.before u (each_before (IsLive x.s.ram x.s.stock plan p.role) x.before x.after live) x.none in
    let back = still_groups x.s x.s.stock new x.t.number p.role p.role x.after u (each_after (IsLive x.s.ram x.s.stock plan p.role) x.before x.after live) (none_after x.before x.t x.after (ap are_distinct (sym x.are) ∙ x.placed.distinct)) in
    let own : List (List ℕ) = map (span_bytes new x.t.root) (spans_at x) in
    ap (map (paged_group new plan)) x.are
    ∙ map_middle (paged_group new plan) x.before x.t x.after
    ∙ ap (λ l. l ++ paged_group new plan x.t ∷ map (paged_group new plan) x.after) front
    ∙ ap (λ l. map (paged_group x.s.ram plan) x.before ++ paged_group new plan x.t ∷ l) back
    ∙ sym (own_middle own x.s.ram plan x.before x.t x.after x.none)
    ∙ ap (λ ts. with_own own (map (paged_group x.s.ram plan) ts) x.t.number) (sym x.are)

pub cleared_world : (x : Clearing) (p : IsPaged x.s) (new : List ℕ) → Clears x new → (let w = paged_world (with_ram x.s new) in w ≡ but_outside (grown (paged_world x.s) x.t.number x.slot) w)
unfolding grown put_seen
cleared_world x p new c =
    let w = paged_world (with_ram x.s new) in
    let old = paged_world x.s in
    let plan : MemoryMap = paged_plan x.s in
    let group = found_at x in
    let z = windows_at x p new c in
    let r = written_in x p new c in
    let one : World = record old { groups = change_group (with_stack plan x.slot) old.groups x.t.number } in
    let test : has_slot (group_of old.groups x.t.number).slots x.slot ≡ true = ap (λ y. has_slot y.slots x.slot) group ∙ x.has in
    let size : length (zeros x.s.stack) ≡ 4096 * pages_of x.s.stack = length-zeros x.s.stack ∙ sym (size_at x) in
    let index : 0 + z.place ≡ z.place = omega arith in
    let place : Place = record { home = Own z.place; at = 0 + (low_at x - low_at x) } in
    let start : 0 + (low_at x - low_at x) ≡ 0 = omega arith in
    let at_is : written_at (group_of old.groups x.t.number).parts (low_at x) (length (zeros x.s.stack)) ≡ Some place =
    ap (λ y. written_at y.parts (low_at x) (length (zeros x.s.stack))) group
    ∙ ap (λ n. written_at (parts_from 0 (spans_at x)) (low_at x) n) size
    ∙ z.at_is
    ∙ ap (λ j. Some (record { home = Own j; at = 0 + (low_at x - low_at x) })) index
    in
    let shown : span_bytes new x.t.root (window_at x) ≡ put_bytes (span_bytes x.s.ram x.t.root (window_at x)) 0 (zeros x.s.stack) =
    subst (λ n. seen new (satp_of x.t.root) (low_at x) n ≡ put_bytes (seen x.s.ram (satp_of x.t.root) (low_at x) n) 0 (zeros x.s.stack)) (sym (size_at x)) r.shows
    in
    let own_is : map (span_bytes new x.t.root) (spans_at x) ≡ put_into (group_of old.groups x.t.number).own z.place (0 + (low_at x - low_at x)) (zeros x.s.stack) =
    z.own
    ∙ ap (λ bs. slice_set (map (span_bytes x.s.ram x.t.root) (spans_at x)) z.place bs) (shown ∙ ap (λ bs. put_bytes bs 0 (zeros x.s.stack)) (sym z.there) ∙ ap (λ j. put_bytes (slice_index_or (map (span_bytes x.s.ram x.t.root) (spans_at x)) z.place []) j (zeros x.s.stack)) (sym start))
    ∙ ap (λ y. put_into y.own z.place (0 + (low_at x - low_at x)) (zeros x.s.stack)) (sym group)
    in
    let put : Option Place → World = λ o. put_or old x.t.number o (zeros x.s.stack) in
    ap (λ gs. record w { groups = gs }) (groups_at x p new c)
    ∙ ap (λ own. record w { groups = with_own own old.groups x.t.number }) own_is
    ∙ ap (λ bs. record w { groups = with_own (put_into (group_of old.groups x.t.number).own z.place (0 + (low_at x - low_at x)) (zeros x.s.stack)) old.groups x.t.number; common = bs ∷ [] }) (pool_at x p new c)
    ∙ ap (λ o. but_outside (put o) w) (sym at_is)
    ∙ ap (λ b. but_outside (if not b then one else zero_stack old x.t.number (group_of old.groups x.t.number).parts x.slot) w) (sym test)
