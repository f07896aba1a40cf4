-- The frames of one stack more, and the pages that are mapped in them.
use Rattle.std.proofs.Common.{◌≡◌, ◌≢◌, ℕ, ◌+◌, ◌*◌, ◌/◌, ◌%◌, ◌<◌, ◌≤◌, ◌==◌, true, false, List, [], ◌∷◌, ◌++◌, length, refl, sym, ap, ◌∙◌, subst, arith}
use Rattle.std.specs.Prelude.{if◌then◌else◌, slice_index}
use Rattle.std.specs.List.{list_any}
use Rattle.std.specs.Option.{is_some}
use Rattle.std.proofs.lemmas.List.{append-nil, take_all}
use Rattle.nx_frames.specs.declared.frames.Taken.{Taken}
use Rattle.nx_frames.specs.Stock.{Stock, SameFrames, Takes, frames_of}
use Rattle.nx_frames.proofs.Chains.{length-chain}
use Rattle.nx_sv32.specs.Walk.{ram_start, entry_at}
use Rattle.nx_tables.specs.Maps.{table_by}
use Rattle.nx_tables.specs.Roles.{Role, Free, is_table, is_of}
use Rattle.nx_tables.proofs.Walked.{root_tells}
use Rattle.nx_tables.proofs.Kept.{stands_kept, same_roles, table_is_of}
use Rattle.nx_space.specs.Starts.{pages_of, different, has_slot, frames_for, stack_low}
use Rattle.nx_paged.specs.Tenants.{Tenant}
use Rattle.nx_paged.specs.Spans.{Each}
use Rattle.nx_paged.specs.Paging.{Paging, paged_plan, IsTenant, IsPlaced, FrameAt, IsLive, IsPaged}
use Rattle.nx_paged.specs.Finding.{each_of}
use Rattle.nx_paged.specs.Building.{Entry, entries_from, look, regions_of, Site, Building, HasRoom, Adds}
use Rattle.nx_paged.proofs.FrameLists.{each_left}
use Rattle.nx_paged.proofs.Splits.{each_middle}
use Rattle.nx_paged.proofs.Rooms.{length-entries}
use Rattle.nx_paged.proofs.Needs.{regions_entries}
use Rattle.nx_paged.proofs.GrownNeeds.{group_regions, IsCompact, table_more, more_regions, frames_more}
use Rattle.nx_paged.proofs.Begun.{own_frames, apart_from, elsewhere_of, not_other, Untouched}
use Rattle.nx_paged.proofs.Mapped.{not_table}

-- a group, and the frames that were taken for one stack more
pub record Growth : Type 0 where
  pub s : Paging
  pub before : List Tenant
  pub t : Tenant
  pub after : List Tenant
  pub slot : ℕ
  pub need : ℕ
  pub stock : Stock
  pub ram : List ℕ
  pub more : Taken
  pub placed : IsPlaced s
  pub are : s.tenants ≡ before ++ t ∷ after
  pub slot_is : slot < s.threads
  pub none : has_slot t.slots slot ≡ false
  pub need_is : need ≡ pages_of s.stack + (if is_some (table_by (entry_at s.ram (4096 * t.root + 4 * (stack_low (paged_plan s) slot / 4096 / 1024)))) then 0 else 1)
  pub takes : Takes s.stock stock s.ram ram need more
  pub same : SameFrames s.stock stock

abbrev pub low_in : Growth → ℕ
low_in g = stack_low (paged_plan g.s) g.slot

abbrev pub first_in : Growth → ℕ
first_in g = low_in g / 4096

abbrev pub count_in : Growth → ℕ
count_in g = pages_of g.s.stack

abbrev pub region_in : Growth → ℕ
region_in g = low_in g / 4096 / 1024

abbrev pub entries_in : Growth → List Entry
entries_in g = entries_from (first_in g) (count_in g) true

abbrev pub frames_in : Growth → List ℕ
frames_in g = frames_of g.stock g.more

abbrev pub regions_in : Growth → List ℕ
regions_in g = group_regions (paged_plan g.s) g.t.program g.t.slots

pub live_in : (g : Growth) (p : IsPaged g.s) → IsLive g.s.ram g.s.stock (paged_plan g.s) p.role g.t
live_in g p = each_middle (IsLive g.s.ram g.s.stock (paged_plan g.s) p.role) g.before g.t g.after (subst (Each (IsLive g.s.ram g.s.stock (paged_plan g.s) p.role)) g.are p.live)

pub tenant_in : (g : Growth) → IsTenant (paged_plan g.s) g.t
tenant_in g = each_middle (IsTenant (paged_plan g.s)) g.before g.t g.after (subst (Each (IsTenant (paged_plan g.s))) g.are (each_of (IsTenant (paged_plan g.s)) g.s.tenants g.placed.tenants))

-- where the stack lies
pub record Bounds (low stack : ℕ) : Type 0 where
  pub low_is : 0x40000000 ≤ low
  pub high_is : low + stack ≤ 0x48000000
  pub whole : low % 4096 ≡ 0
  pub stack_whole : stack % 4096 ≡ 0
  pub compact : IsCompact low stack

pub bounds_of : (s : Paging) (slot : ℕ) → IsPlaced s → slot < s.threads → Bounds (stack_low (paged_plan s) slot) s.stack
bounds_of s slot h l =
    let one = h.fits.one in
    let most = h.fits.most in
    let few = h.fits.few in
    record {
      low_is = omega arith;
      high_is = omega (arith, most, few, l);
      whole = omega arith;
      stack_whole = h.fits.stack_whole;
      compact = record { one = one; most = most; whole = omega arith };
    }

pub bounds_in : (g : Growth) → Bounds (low_in g) g.s.stack
bounds_in g = bounds_of g.s g.slot g.placed g.slot_is

-- the frames that are taken are nobody's, and others' bytes are as they were
pub free_in : (g : Growth) (p : IsPaged g.s) → Each (FrameAt (λ r. r ≡ Free) p.role) (frames_in g)
free_in g p = each_left (FrameAt (λ r. r ≡ Free) p.role) (frames_in g) g.stock.free (subst (Each (FrameAt (λ r. r ≡ Free) p.role)) g.takes.order p.nobody)

pub byte_before : (g : Growth) (p : IsPaged g.s) (h f k : ℕ) → is_of h (p.role f) ≡ true → k < 4096 → slice_index g.ram (4096 * f + k) ≡ slice_index g.s.ram (4096 * f + k)
byte_before g p h f k own small = g.takes.zeroed.others (4096 * f + k) (elsewhere_of f k p.role (frames_in g) small (free_in g p) (apart_from p.role h f (frames_in g) own (free_in g p)))

-- how many these are
pub frames_length : (g : Growth) → length (frames_in g) ≡ g.need
frames_length g = length-chain g.stock.first g.stock.next g.more.head g.more.count ∙ g.takes.count

-- the root says whether a region has a page
pub table_told : (s : Paging) (role : ℕ → Role) (t : Tenant) (slot : ℕ) → IsPlaced s → slot < s.threads → IsLive s.ram s.stock (paged_plan s) role t → (let r = stack_low (paged_plan s) slot / 4096 / 1024 in (if is_some (table_by (entry_at s.ram (4096 * t.root + 4 * r))) then 0 else 1) ≡ table_more r (group_regions (paged_plan s) t.program t.slots))
table_told s role t slot h l v =
    let r : ℕ = stack_low (paged_plan s) slot / 4096 / 1024 in
    let high = (bounds_of s slot h l).high_is in
    let small : r < 1024 = omega (arith, high) in
    let is = root_tells s.ram role t.number v.maps r v.stands small in
    let has : is_some (table_by (entry_at s.ram (4096 * t.root + 4 * r))) ≡ list_any (λ m. m == r) (group_regions (paged_plan s) t.program t.slots) =
    ap (λ k. is_some (table_by (entry_at s.ram (4096 * k + 4 * r)))) (sym v.root) ∙ ap is_some is ∙ v.tables r small
    in
    ap {B = ℕ} (λ x. if x then 0 else 1) has

pub need_counted : (g : Growth) (p : IsPaged g.s) → g.need ≡ count_in g + table_more (region_in g) (regions_in g)
need_counted g p = g.need_is ∙ ap (λ n. count_in g + n) (table_told g.s p.role g.t g.slot g.placed g.slot_is (live_in g p))

pub need_frames : (g : Growth) (p : IsPaged g.s) → frames_for (paged_plan g.s) g.t.program (g.t.slots ++ g.slot ∷ []) ≡ frames_for (paged_plan g.s) g.t.program g.t.slots + g.need
need_frames g p =
    frames_more (paged_plan g.s) g.t.program g.t.slots g.slot refl (bounds_in g).compact
    ∙ ap (λ n. frames_for (paged_plan g.s) g.t.program g.t.slots + n) (sym (need_counted g p))

-- before the first page is added
abbrev pub site_in : (g : Growth) → IsPaged g.s → Site
site_in g p = record { frames = frames_in g; group = g.t.number; root = g.t.root; old = g.ram; before = p.role; base = 1 + different (regions_in g); first = (live_in g p).maps }

pub begun_in : (g : Growth) (p : IsPaged g.s) → Building (site_in g p) (regions_in g) [] g.ram 0
unfolding look
begun_in g p =
    let v = live_in g p in
    let long = g.takes.zeroed.long in
    let first = g.same.first ∙ g.placed.first in
    let count = g.same.count in
    let inside = g.placed.frames in
    record {
      roles = p.role;
      maps = v.maps;
      root_is = v.root;
      stands = stands_kept g.s.ram g.ram p.role p.role g.t.number v.maps v.stands (λ f k own small. byte_before g p g.t.number f k (table_is_of g.t.number (p.role f) own) small) (same_roles g.t.number p.role) long;
      long = refl;
      kept = λ f k none small. refl;
      once = g.takes.holds.once;
      fresh = own_frames g.stock.first (length g.stock.next) g.ram (frames_in g) (omega (arith, long, first, count, inside)) g.takes.holds.frames g.takes.zeroed.zeros;
      unused = free_in g p;
      taken = tt;
      elsewhere = λ f out. refl;
      few = omega arith;
      count = omega arith;
      tables = v.tables;
      pages = λ v some. absurd cc;
      zeroed = λ v q some e. absurd cc;
      others = λ v none. refl;
    }

pub regions_count : (g : Growth) → different (regions_of (entries_in g) ++ regions_in g) ≡ different (regions_in g) + table_more (region_in g) (regions_in g)
regions_count g =
    ap (λ l. different (l ++ regions_in g)) (regions_entries (first_in g) (count_in g) true)
    ∙ more_regions (low_in g) g.s.stack (regions_in g) (bounds_in g).compact

pub room_in : (g : Growth) (p : IsPaged g.s) → HasRoom (frames_in g) g.t.root (regions_of (entries_in g)) (count_in g) g.ram 0
room_in g p = record {
  site = site_in g p;
  frames_is = refl;
  root_is = refl;
  regions = regions_in g;
  added = [];
  building = begun_in g p;
  room =
      let a = regions_count g in
      let l = frames_length g in
      let n = need_counted g p in
      omega (arith, a, l, n);
}

-- after the last one
abbrev pub Built : (g : Growth) → IsPaged g.s → List ℕ → ℕ → Type 0
Built g p new used = Building (site_in g p) (regions_of (entries_in g) ++ regions_in g) (entries_in g ++ []) new used

pub built_in : (g : Growth) (p : IsPaged g.s) (new : List ℕ) (used : ℕ) → Adds (frames_in g) g.t.root (regions_of (entries_in g)) (entries_in g) g.ram 0 new used → Built g p new used
built_in g p new used adds = adds (site_in g p) (regions_in g) [] refl refl (begun_in g p)

pub all_used : (g : Growth) (p : IsPaged g.s) (new : List ℕ) (used : ℕ) → Built g p new used → length (frames_in g) ≤ used
all_used g p new used b =
    let c = b.count in
    let a = regions_count g in
    let l = frames_length g in
    let n = need_counted g p in
    let e = ap length (append-nil (entries_in g)) ∙ length-entries (first_in g) (count_in g) true in
    omega (arith, c, a, l, n, e)

-- other frames have the roles that they had
pub role_elsewhere : (g : Growth) (p : IsPaged g.s) (new : List ℕ) (used : ℕ) (b : Built g p new used) (f : ℕ) → Each (λ a. a ≢ ram_start + 4096 * f) (frames_in g) → b.roles f ≡ p.role f
role_elsewhere g p new used b f out = b.elsewhere f (subst (Each (λ a. a ≢ ram_start + 4096 * f)) (sym (take_all used (frames_in g) (all_used g p new used b))) out)

pub role_same : (g : Growth) (p : IsPaged g.s) (new : List ℕ) (used : ℕ) (b : Built g p new used) (h f : ℕ) → is_of h (p.role f) ≡ true → b.roles f ≡ p.role f
role_same g p new used b h f own = role_elsewhere g p new used b f (apart_from p.role h f (frames_in g) own (free_in g p))

pub taken_in : (g : Growth) (p : IsPaged g.s) (new : List ℕ) (used : ℕ) (b : Built g p new used) → Each (FrameAt (λ r. is_of g.t.number r ≡ true) b.roles) (frames_in g)
taken_in g p new used b = subst (Each (FrameAt (λ r. is_of g.t.number r ≡ true) b.roles)) (take_all used (frames_in g) (all_used g p new used b)) b.taken

-- a byte of a frame that some group had, and that is none of the group's tables
pub byte_after : (g : Growth) (p : IsPaged g.s) (new : List ℕ) (used : ℕ) (b : Built g p new used) (h f k : ℕ) → is_of h (p.role f) ≡ true → is_table g.t.number (p.role f) ≡ false → k < 4096 → slice_index new (4096 * f + k) ≡ slice_index g.s.ram (4096 * f + k)
byte_after g p new used b h f k own none small =
    b.kept f k (ap (is_table g.t.number) (role_same g p new used b h f own) ∙ none) small ∙ byte_before g p h f k own small

pub others_in : (g : Growth) (p : IsPaged g.s) (new : List ℕ) (used : ℕ) (b : Built g p new used) → Untouched g.s g.stock new g.t.number p.role b.roles
others_in g p new used b = record {
  bytes = λ h f k ne own small. byte_after g p new used b h f k own (not_table g.t.number (p.role f) (not_other g.t.number h (p.role f) ne own)) small;
  roles_same = λ h f own. role_same g p new used b h f own;
  long = b.long ∙ g.takes.zeroed.long;
}
