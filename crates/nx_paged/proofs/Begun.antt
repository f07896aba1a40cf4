-- What the start of a group does.
use Rattle.std.proofs.Common.{◌≡◌, ◌≢◌, ℕ, zero, suc, ◌+◌, ◌-◌, ◌*◌, ◌/◌, ◌<◌, ◌≤◌, ◌⊎◌, ◌==◌, Bool, true, false, ◌&&◌, ◌||◌, not, List, [], ◌∷◌, ◌++◌, length, map, refl, sym, ap, ◌∙◌, subst, arith, ⊎_elim, inl, inr}
use Rattle.std.specs.Prelude.{slice_index}
use Rattle.std.specs.List.{All}
use Rattle.std.proofs.lemmas.Bool.{cases_lt, cases_eq}
use Rattle.std.proofs.lemmas.List.{length-append}
use Rattle.nx_base.specs.ByteLists.{AreBytes}
use Rattle.nx_ram.specs.declared.prog_image.ProgImage.{ProgImage}
use Rattle.nx_frames.specs.declared.frames.Taken.{Taken}
use Rattle.nx_frames.specs.Chains as chains
use Rattle.nx_frames.specs.Chains.{IsFrame}
use Rattle.nx_frames.specs.Zeros.{IsElsewhere}
use Rattle.nx_frames.specs.Stock.{Stock, Holds, Keeps, SameFrames, Takes, AreHeld, frames_of}
use Rattle.nx_frames.proofs.Chains.{length-chain}
use Rattle.nx_sv32.specs.Walk.{ram_start}
use Rattle.nx_tables.specs.Maps.{Maps}
use Rattle.nx_tables.specs.Roles.{Role, Free, is_of, SameRoles, Stands}
use Rattle.nx_tables.specs.ViewBytes.{IsMapped}
use Rattle.nx_tables.proofs.Kept.{same_number, other_number, of_one, table_is_of, stands_kept}
use Rattle.nx_tables.proofs.Views.{seen_kept}
use Rattle.nx_space.specs.World.{MemoryMap}
use Rattle.nx_space.specs.Starts.{program_at, stack_low, frames_for}
use Rattle.nx_paged.specs.Tenants.{Tenant, has_tenant, are_distinct, frames_taken}
use Rattle.nx_paged.specs.Spans.{Span, Each, IsSpan, spans_of, span_bytes}
use Rattle.nx_paged.specs.Paging.{Paging, paged_plan, paged_group, FitsPaged, IsTenant, IsPlaced, FrameAt, IsLive, IsPaged}
use Rattle.nx_paged.specs.Finding.{both_true, each_of}
use Rattle.nx_paged.specs.Layout.{laid_out}
use Rattle.nx_paged.specs.Building.{IsFresh}
use Rattle.nx_paged.specs.Starting.{CanStart, IsMappedIn}
use Rattle.nx_paged.proofs.FrameLists.{each_left, each_at}
use Rattle.nx_paged.proofs.Ends.{holdings, all_of, same_plan}
use Rattle.nx_paged.proofs.Needs.{need_is}

-- what a start has done: the frames are taken, and the windows are mapped
pub record Starts (s : Paging) (stock : Stock) (taken_ram ram : List ℕ) (number place slot root : ℕ) (t : Taken) : Type 0 where
  pub placed : IsPlaced s
  pub fresh_number : has_tenant s.tenants number ≡ false
  pub some : length s.tenants < s.threads
  pub program : place < length s.programs
  pub slot_is : slot < s.threads
  pub takes : Takes s.stock stock s.ram taken_ram (frames_for (paged_plan s) place (slot ∷ [])) t
  pub same : SameFrames s.stock stock
  pub root_is : root ≡ (slice_index (frames_of stock t) 0 - ram_start) / 4096

abbrev pub program_in : Paging → ℕ → ProgImage
program_in s place = program_at (paged_plan s) place

abbrev pub low_of : Paging → ℕ → ℕ
low_of s slot = stack_low (paged_plan s) slot

frames_long : (s : Paging) (stock : Stock) (taken_ram ram : List ℕ) (number place slot root : ℕ) (t : Taken) → Starts s stock taken_ram ram number place slot root t → length (frames_of stock t) ≡ frames_for (paged_plan s) place (slot ∷ [])
frames_long s stock taken_ram ram number place slot root t h = length-chain stock.first stock.next t.head t.count ∙ h.takes.count

-- the frames that are taken, as those of the tables
pub own_frames : (first count : ℕ) (ram : List ℕ) (l : List ℕ) → first + 4096 * count ≤ ram_start + length ram → chains.Each (IsFrame first count) l → chains.Each (λ a. (k : ℕ) → k < 4096 → slice_index ram (a - ram_start + k) ≡ 0) l → Each (IsFresh ram) l
own_frames first count ram [] inside h z = tt
own_frames first count ram (a ∷ l) inside h z =
    let n = h.0.1 in
    let at = h.0.2 in
    (record { zero = z.0; inside = omega (arith, n, at, inside) }, own_frames first count ram l inside h.1 z.1)

pub can_start : (s : Paging) (stock : Stock) (taken_ram ram : List ℕ) (number place slot root : ℕ) (t : Taken) (h : Starts s stock taken_ram ram number place slot root t) (p : IsPaged s) → CanStart taken_ram (frames_of stock t) root (program_in s place) (low_of s slot) s.stack p.role
can_start s stock taken_ram ram number place slot root t h p =
    let frames = frames_of stock t in
    let free = each_left (FrameAt (λ r. r ≡ Free) p.role) frames stock.free (subst (Each (FrameAt (λ r. r ≡ Free) p.role)) h.takes.order p.nobody) in
    let long = h.takes.zeroed.long in
    let first = h.same.first ∙ h.placed.first in
    let count = h.same.count in
    let inside = h.placed.frames in
    let need = need_is (paged_plan s) place slot refl in
    let size = frames_long s stock taken_ram ram number place slot root t h in
    let f = h.placed.fits in
    let small = f.small in
    let most = f.most in
    let few = f.few in
    let one : 0 < length frames = omega (arith, need, size) in
    let at = each_at (FrameAt (λ r. r ≡ Free) p.role) frames 0 one free in
    let a = at.address in
    let slot_is = h.slot_is in
    record {
      free = free;
      fresh = own_frames stock.first (length stock.next) taken_ram frames (omega (arith, long, first, count, inside)) h.takes.holds.frames h.takes.zeroed.zeros;
      once = h.takes.holds.once;
      root_is = let r = h.root_is in omega (arith, a, r);
      enough = sym (size ∙ need);
      fits = omega (arith, long, small);
      laid_out = laid_out s.programs place f.laid_out h.program;
      low_is = omega arith;
      whole = omega arith;
      stack_whole = f.stack_whole;
      high_is = omega (arith, most, few, slot_is);
    }

-- a frame that a group had is none of those that are taken
pub apart_from : (roles : ℕ → Role) (h f : ℕ) (l : List ℕ) → is_of h (roles f) ≡ true → Each (FrameAt (λ r. r ≡ Free) roles) l → Each (λ a. a ≢ ram_start + 4096 * f) l
apart_from roles h f [] own free = tt
apart_from roles h f (a ∷ l) own free =
    let at = free.0.address in
    ((λ e. let q : free.0.frame ≡ f = omega (arith, at, e) in differ (sym own ∙ ap (λ z. is_of h (roles z)) (sym q) ∙ ap (is_of h) free.0.role)), apart_from roles h f l own free.1)
  where
    differ : true ≡ false → ⊥
    differ z = cc

pub elsewhere_of : (f k : ℕ) (roles : ℕ → Role) (l : List ℕ) → k < 4096 → Each (FrameAt (λ r. r ≡ Free) roles) l → Each (λ a. a ≢ ram_start + 4096 * f) l → IsElsewhere l (4096 * f + k)
elsewhere_of f k roles [] small free out = tt
elsewhere_of f k roles (a ∷ l) small free out =
    let at = free.0.address in
    let ne = out.0 in
    let apart : free.0.frame ≢ f = λ e. ne (omega (arith, at, e)) in
    (⊎_elim (λ x. inr (omega (arith, at, x, small))) (λ x. inl (omega (arith, at, x, apart, small))) (cases_lt free.0.frame f), elsewhere_of f k roles l small free.1 out.1)

-- what another group has is as it was
pub record Untouched (s : Paging) (stock : Stock) (ram : List ℕ) (number : ℕ) (role roles : ℕ → Role) : Type 0 where
  pub bytes : (h f k : ℕ) → h ≢ number → is_of h (role f) ≡ true → k < 4096 → slice_index ram (4096 * f + k) ≡ slice_index s.ram (4096 * f + k)
  pub roles_same : (h : ℕ) → SameRoles h role roles
  pub long : length ram ≡ length s.ram

pub not_other : (g h : ℕ) (r : Role) → h ≢ g → is_of h r ≡ true → is_of g r ≡ false
not_other g h r ne own = by_test (is_of g r) refl
  where
    by_test : (b : Bool) → is_of g r ≡ b → b ≡ false
    by_test true e = absurd (ne (of_one h g r own e))
    by_test false e = refl

pub untouched : (s : Paging) (stock : Stock) (taken_ram ram : List ℕ) (number place slot root : ℕ) (t : Taken) (h : Starts s stock taken_ram ram number place slot root t) (p : IsPaged s) (m : IsMappedIn taken_ram ram (frames_of stock t) root (program_in s place) (low_of s slot) s.stack p.role number) → Untouched s stock ram number p.role m.roles
untouched s stock taken_ram ram number place slot root t h p m =
    let frames = frames_of stock t in
    let c = can_start s stock taken_ram ram number place slot root t h p in
    record {
      bytes = λ g f k ne own small.
          let out = apart_from p.role g f frames own c.free in
          let same = m.elsewhere f out in
          m.kept f k (ap (is_of number) same ∙ not_other number g (p.role f) ne own) small
          ∙ h.takes.zeroed.others (4096 * f + k) (elsewhere_of f k p.role frames small c.free out);
      roles_same = λ g f own. m.elsewhere f (apart_from p.role g f frames own c.free);
      long = m.long ∙ h.takes.zeroed.long;
    }

-- the windows of another group
spans_kept : (old new : List ℕ) (role : ℕ → Role) (g : ℕ) (maps : Maps) (spans : List Span) → Stands old role g maps → ((f k : ℕ) → is_of g (role f) ≡ true → k < 4096 → slice_index new (4096 * f + k) ≡ slice_index old (4096 * f + k)) → length new ≡ length old → Each IsSpan spans → Each (λ x. IsMapped maps x.start x.bytes x.writes) spans → map (span_bytes new maps.root) spans ≡ map (span_bytes old maps.root) spans
spans_kept old new role g maps [] st same long fine mapped = refl
spans_kept old new role g maps (x ∷ xs) st same long fine mapped =
    ap (λ b. b ∷ map (span_bytes new maps.root) xs) (seen_kept old new role g maps x.start x.bytes x.writes st same long mapped.0 (fine.0).top)
    ∙ ap (λ bs. span_bytes old maps.root x ∷ bs) (spans_kept old new role g maps xs st same long fine.1 mapped.1)

pub still_groups : (s : Paging) (stock : Stock) (ram : List ℕ) (number : ℕ) (role roles : ℕ → Role) (ts : List Tenant) → Untouched s stock ram number role roles → Each (IsLive s.ram s.stock (paged_plan s) role) ts → has_tenant ts number ≡ false → map (paged_group ram (paged_plan s)) ts ≡ map (paged_group s.ram (paged_plan s)) ts
unfolding has_tenant
still_groups s stock ram number role roles [] u live none = refl
still_groups s stock ram number role roles (t ∷ ts) u live none = by_test (t.number == number) refl none (λ q. still_groups s stock ram number role roles ts u live.1 q)
  where
    differs : (t.number == number) ≡ false → t.number ≢ number
    differs e q = apart (sym e ∙ same_number t.number number q)
      where
        apart : false ≡ true → ⊥
        apart z = cc

    one : t.number ≢ number → paged_group ram (paged_plan s) t ≡ paged_group s.ram (paged_plan s) t
    one ne =
        let k = live.0 in
        let spans = spans_of (paged_plan s) t.program t.slots in
        let same = spans_kept s.ram ram role t.number k.maps spans k.stands (λ f i own small. u.bytes t.number f i ne own small) u.long k.shows.fine k.shows.mapped in
        ap (λ bs. record (paged_group s.ram (paged_plan s) t) { own = bs }) (subst (λ r. map (span_bytes ram r) spans ≡ map (span_bytes s.ram r) spans) k.root same)

    by_test : (b : Bool) → (t.number == number) ≡ b → (b || has_tenant ts number) ≡ false → (has_tenant ts number ≡ false → map (paged_group ram (paged_plan s)) ts ≡ map (paged_group s.ram (paged_plan s)) ts) → map (paged_group ram (paged_plan s)) (t ∷ ts) ≡ map (paged_group s.ram (paged_plan s)) (t ∷ ts)
    by_test true e q more = absurd cc
    by_test false e q more = ap (λ g. g ∷ map (paged_group ram (paged_plan s)) ts) (one (differs e)) ∙ ap (λ gs. paged_group s.ram (paged_plan s) t ∷ gs) (more q)

pub still_lives : (s : Paging) (stock : Stock) (ram : List ℕ) (number : ℕ) (role roles : ℕ → Role) (ts : List Tenant) → Untouched s stock ram number role roles → ((u : Taken) → Holds s.stock u → Keeps s.stock stock u) → Each (IsLive s.ram s.stock (paged_plan s) role) ts → has_tenant ts number ≡ false → AreHeld s.stock (holdings ts) → Each (IsLive ram stock (paged_plan s) roles) ts
unfolding has_tenant
still_lives s stock ram number role roles [] u k live none held = tt
still_lives s stock ram number role roles (t ∷ ts) u k live none held = by_test (t.number == number) refl none (λ q. still_lives s stock ram number role roles ts u k live.1 q held.2)
  where
    differs : (t.number == number) ≡ false → t.number ≢ number
    differs e q = apart (sym e ∙ same_number t.number number q)
      where
        apart : false ≡ true → ⊥
        apart z = cc

    frames_still : (l : List ℕ) → Each (FrameAt (λ r. is_of t.number r ≡ true) role) l → Each (FrameAt (λ r. is_of t.number r ≡ true) roles) l
    frames_still [] h = tt
    frames_still (a ∷ l) h = (record { frame = h.0.frame; address = h.0.address; role = ap (is_of t.number) (u.roles_same t.number h.0.frame h.0.role) ∙ h.0.role }, frames_still l h.1)

    one : t.number ≢ number → IsLive ram stock (paged_plan s) roles t
    one ne =
        let v = live.0 in
        let kept = k t.taken held.0 in
        record {
          maps = v.maps;
          root = v.root;
          stands = stands_kept s.ram ram role roles t.number v.maps v.stands (λ f i own small. u.bytes t.number f i ne (table_is_of t.number (role f) own) small) (u.roles_same t.number) u.long;
          tables = v.tables;
          shows = v.shows;
          frames = subst (Each (FrameAt (λ r. is_of t.number r ≡ true) roles)) (sym kept.frames) (frames_still (frames_of s.stock t.taken) v.frames);
          count = v.count;
        }

    by_test : (b : Bool) → (t.number == number) ≡ b → (b || has_tenant ts number) ≡ false → (has_tenant ts number ≡ false → Each (IsLive ram stock (paged_plan s) roles) ts) → Each (IsLive ram stock (paged_plan s) roles) (t ∷ ts)
    by_test true e q more = absurd cc
    by_test false e q more = (one (differs e), more q)

-- the new group
abbrev pub newcomer : ℕ → ℕ → ℕ → ℕ → Taken → Tenant
newcomer number place slot root t = record { number = number; program = place; slot = slot; root = root; slots = slot ∷ []; taken = t }

abbrev pub with_newcomer : Paging → Stock → List ℕ → Tenant → Paging
with_newcomer s stock ram t = record s { ram = ram; stock = stock; tenants = s.tenants ++ t ∷ [] }

pub each_last : (P : Tenant → Type 0) (ts : List Tenant) (t : Tenant) → Each P ts → P t → Each P (ts ++ t ∷ [])
each_last P [] t h p = (p, tt)
each_last P (u ∷ us) t h p = (h.0, each_last P us t h.1 p)

pub map_last : {X : Type 0} (f : Tenant → X) (ts : List Tenant) (t : Tenant) → map f (ts ++ t ∷ []) ≡ map f ts ++ f t ∷ []
map_last f [] t = refl
map_last f (u ∷ us) t = ap (λ l. f u ∷ l) (map_last f us t)

has_last : (ts : List Tenant) (t : Tenant) (number : ℕ) → has_tenant ts number ≡ false → (t.number == number) ≡ false → has_tenant (ts ++ t ∷ []) number ≡ false
unfolding has_tenant
has_last [] t number h e = ap (λ b. b || false) e
has_last (u ∷ us) t number h e = by_test (u.number == number) h (λ q. has_last us t number q e)
  where
    by_test : (b : Bool) → (b || has_tenant us number) ≡ false → (has_tenant us number ≡ false → has_tenant (us ++ t ∷ []) number ≡ false) → (b || has_tenant (us ++ t ∷ []) number) ≡ false
    by_test true q more = absurd cc
    by_test false q more = more q

distinct_last : (ts : List Tenant) (t : Tenant) → are_distinct ts ≡ true → has_tenant ts t.number ≡ false → are_distinct (ts ++ t ∷ []) ≡ true
unfolding has_tenant
distinct_last [] t h none = refl
distinct_last (u ∷ us) t h none =
    let b = both_true (has_tenant us u.number) (are_distinct us) h in
    let o = or_none (u.number == t.number) (has_tenant us t.number) none in
    let ne : (t.number == u.number) ≡ false = other_number t.number u.number (λ e. apart (sym o.0 ∙ same_number u.number t.number (sym e))) in
    ap (λ x. not x && are_distinct (us ++ t ∷ [])) (has_last us t u.number b.0 ne) ∙ distinct_last us t b.1 o.1
  where
    or_none : (a b : Bool) → (a || b) ≡ false → (a ≡ false) × (b ≡ false)
    or_none true b h = absurd cc
    or_none false b h = (refl, h)

    apart : false ≡ true → ⊥
    apart z = cc

taken_last : (memory_map : MemoryMap) (ts : List Tenant) (t : Tenant) → frames_taken memory_map (ts ++ t ∷ []) ≡ frames_taken memory_map ts + frames_for memory_map t.program t.slots
unfolding frames_taken
taken_last memory_map [] t = omega arith
taken_last memory_map (u ∷ us) t = let r = taken_last memory_map us t in omega (arith, r)

length_last : (ts : List Tenant) (t : Tenant) → length (ts ++ t ∷ []) ≡ length ts + 1
length_last ts t = length-append ts (t ∷ [])

pub begun_placed : (s : Paging) (stock : Stock) (taken_ram ram : List ℕ) (number place slot root : ℕ) (t : Taken) → Starts s stock taken_ram ram number place slot root t → AreBytes ram → length ram ≡ length s.ram → IsPlaced (with_newcomer s stock ram (newcomer number place slot root t))
begun_placed s stock taken_ram ram number place slot root t h bytes long =
    let new = newcomer number place slot root t in
    let memory_map = same_plan s stock (s.tenants ++ new ∷ []) h.same in
    let k = h.placed in
    record {
      fits = subst (λ n. FitsPaged n s.pool s.programs s.stack s.threads) (sym long) k.fits;
      bytes = bytes;
      first = h.same.first ∙ k.first;
      frames = ap (λ n. s.pool + 4096 * n) h.same.count ∙ k.frames ∙ sym long;
      few = let l = length_last s.tenants new in let r = h.some in omega (arith, l, r);
      distinct = distinct_last s.tenants new k.distinct h.fresh_number;
      tenants = subst (λ q. All (IsTenant q) (s.tenants ++ new ∷ [])) (sym memory_map) (all_of (IsTenant (paged_plan s)) (s.tenants ++ new ∷ []) (each_last (IsTenant (paged_plan s)) s.tenants new (each_of (IsTenant (paged_plan s)) s.tenants k.tenants) (record { program = h.program; once = refl; slots = one_slot })));
      counted =
          let c = k.counted in
          let n = h.same.count in
          let o = ap length h.takes.order ∙ length-append (frames_of stock t) stock.free in
          let l = frames_long s stock taken_ram ram number place slot root t h in
          let r = ap (λ q. frames_taken q (s.tenants ++ new ∷ [])) memory_map ∙ taken_last (paged_plan s) s.tenants new in
          omega (arith, c, n, o, l, r);
    }
  where
    one_slot : All (λ x. x < s.threads) (slot ∷ [])
    one_slot zero d l = h.slot_is
    one_slot (suc k) d l = absurd (omega (arith, l))

-- frames that are still nobody's
pub still_nobody : (role roles : ℕ → Role) (frames l : List ℕ) → ((f : ℕ) → Each (λ a. a ≢ ram_start + 4096 * f) frames → roles f ≡ role f) → chains.AreApart frames l → Each (FrameAt (λ r. r ≡ Free) role) l → Each (FrameAt (λ r. r ≡ Free) roles) l
still_nobody role roles frames [] same apart h = tt
still_nobody role roles frames (a ∷ l) same apart h =
    let at = h.0.address in
    (record { frame = h.0.frame; address = at; role = same h.0.frame (out frames apart) ∙ h.0.role }, still_nobody role roles frames l same (rest frames apart) h.1)
  where
    out : (xs : List ℕ) → chains.AreApart xs (a ∷ l) → Each (λ x. x ≢ ram_start + 4096 * h.0.frame) xs
    out [] z = tt
    out (x ∷ xs) z = let ne = z.0.0 in let at = h.0.address in ((λ e. ne (at ∙ sym e)), out xs z.1)

    rest : (xs : List ℕ) → chains.AreApart xs (a ∷ l) → chains.AreApart xs l
    rest [] z = tt
    rest (x ∷ xs) z = (z.0.1, rest xs z.1)

-- a frame is one of these or none
pub one_or_none : (P : ℕ → Type 0) (b : ℕ) (l : List ℕ) → chains.Each P l → (P b) ⊎ Each (λ a. a ≢ b) l
one_or_none P b [] h = inr tt
one_or_none P b (a ∷ l) h = ⊎_elim
    (λ e. inl (subst P e h.0))
    (λ ne. ⊎_elim (λ q. inl q) (λ q. inr (ne, q)) (one_or_none P b l h.1))
    (cases_eq a b)
