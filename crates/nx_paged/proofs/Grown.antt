-- The space and its world after a group has got one stack more.
use Rattle.std.proofs.Common.{◌≡◌, ◌≢◌, ℕ, ◌+◌, ◌*◌, ◌/◌, ◌%◌, ◌<◌, ◌≤◌, Bool, true, false, List, [], ◌∷◌, ◌++◌, length, map, take, get_or, refl, sym, ap, ◌∙◌, subst, arith, ⊎_elim}
use Rattle.std.specs.Prelude.{if◌then◌else◌, not}
use Rattle.std.specs.List.{All}
use Rattle.std.proofs.lemmas.List.{length-append}
use Rattle.nx_base.specs.ByteLists.{AreBytes}
use Rattle.nx_frames.specs.declared.frames.Taken.{Taken}
use Rattle.nx_frames.specs.Chains as chains
use Rattle.nx_frames.specs.Stock.{Stock, Holds, SameFrames, KeepsOthers, AreHeld, IsApartFrom, frames_of}
use Rattle.nx_frames.proofs.Chains.{length-chain}
use Rattle.nx_frames.proofs.Lists.{each_append}
use Rattle.nx_frames.proofs.Owners.{taken_held, joined_held, held_first, held_back}
use Rattle.nx_sv32.specs.Walk.{ram_start}
use Rattle.nx_tables.specs.Roles.{Role, Free, is_of}
use Rattle.nx_space.specs.World.{Group, MemoryMap, World, group_of}
use Rattle.nx_space.specs.Starts.{frames_for, has_slot, with_stack, grown, but_outside, change_group, zero_stack}
use Rattle.nx_paged.specs.Tenants.{Tenant, has_tenant, are_distinct, frames_taken}
use Rattle.nx_paged.specs.Spans.{Each, Shows}
use Rattle.nx_paged.specs.Paging.{Paging, paged_plan, paged_group, paged_world, FitsPaged, IsTenant, IsPlaced, FrameAt, IsLive, IsPaged}
use Rattle.nx_paged.specs.Finding.{each_of}
use Rattle.nx_paged.proofs.FrameLists.{each_right}
use Rattle.nx_paged.proofs.Shown.{take_same}
use Rattle.nx_paged.proofs.Ends.{holdings, all_of, same_plan}
use Rattle.nx_paged.proofs.Begun.{elsewhere_of, still_groups, still_lives, still_nobody, one_or_none}
use Rattle.nx_paged.proofs.Newcomers.{high_frames}
use Rattle.nx_paged.proofs.Mapped.{not_table}
use Rattle.nx_paged.proofs.Slots.{each_slot, all_slots, each_more, once_more}
use Rattle.nx_paged.proofs.Splits.{map_middle, map_rest, each_rest, each_insert, each_before, each_after, same_length, distinct_same, none_after, none_rest, taken_middle, group_middle, change_middle}
use Rattle.nx_paged.proofs.Growths.{Growth, frames_in, free_in, live_in, tenant_in, need_frames, frames_length, role_elsewhere, role_same, taken_in, others_in, Built}
use Rattle.nx_paged.proofs.GrownWindows.{slots_in, spans_last, grown_shows, grown_tables, grown_group}

-- the frames are put to those that the group had
pub record Joined (g : Growth) (stock : Stock) (joined : Taken) : Type 0 where
  pub joined_is : frames_of stock joined ≡ frames_of g.stock g.t.taken ++ frames_of g.stock g.more
  pub holds : Holds stock joined
  pub free : stock.free ≡ g.stock.free
  pub same : SameFrames g.stock stock
  pub others : KeepsOthers g.stock stock (frames_of g.stock g.t.taken ++ frames_of g.stock g.more)

abbrev pub newer : Growth → Taken → Tenant
newer g joined = record g.t { slots = slots_in g; taken = joined }

abbrev pub tenants_in : Growth → Taken → List Tenant
tenants_in g joined = g.before ++ newer g joined ∷ g.after

abbrev pub grown_space : Growth → List ℕ → Stock → Taken → Paging
grown_space g ram stock joined = record g.s { ram = ram; stock = stock; tenants = tenants_in g joined }

abbrev rest_in : Growth → List Tenant
rest_in g = g.before ++ g.after

both_same : (g : Growth) (stock : Stock) (joined : Taken) → Joined g stock joined → SameFrames g.s.stock stock
both_same g stock joined j = record { first = j.same.first ∙ g.same.first; count = j.same.count ∙ g.same.count }

plan_same : (g : Growth) (ram : List ℕ) (stock : Stock) (joined : Taken) → Joined g stock joined → paged_plan (grown_space g ram stock joined) ≡ paged_plan g.s
plan_same g ram stock joined j = same_plan g.s stock (tenants_in g joined) (both_same g stock joined j)

-- all that is held, the group's frames first
held_by_group : (g : Growth) → IsPaged g.s → AreHeld g.stock (g.t.taken ∷ g.more ∷ (holdings g.before ++ holdings g.after))
held_by_group g p =
    let all : AreHeld g.s.stock (holdings g.before ++ g.t.taken ∷ holdings g.after) =
    subst (AreHeld g.s.stock) (ap holdings g.are ∙ map_middle (λ t. t.taken) g.before g.t g.after) p.held
    in
    held_first g.stock g.t.taken (g.more ∷ holdings g.before) (holdings g.after)
    (taken_held g.s.stock g.stock g.s.ram g.ram g.need g.more (holdings g.before ++ g.t.taken ∷ holdings g.after) g.takes all)

-- what is asked where the frames are joined
pub own_held : (g : Growth) → IsPaged g.s → Holds g.stock g.t.taken
own_held g p = (held_by_group g p).0

pub more_apart : (g : Growth) → IsPaged g.s → chains.AreApart (frames_of g.stock g.t.taken) (frames_of g.stock g.more)
more_apart g p = (held_by_group g p).1.0

-- the other groups
rest_none : (g : Growth) → has_tenant g.before g.t.number ≡ false → has_tenant (rest_in g) g.t.number ≡ false
rest_none g none = none_rest g.before g.after g.t.number none (none_after g.before g.t g.after (ap are_distinct (sym g.are) ∙ g.placed.distinct))

lives_joined : (g : Growth) (ram : List ℕ) (stock : Stock) (joined : Taken) (roles : ℕ → Role) (ts : List Tenant) → Joined g stock joined → Each (IsLive ram g.stock (paged_plan g.s) roles) ts → AreHeld g.stock (holdings ts) → IsApartFrom g.stock g.t.taken (holdings ts) → IsApartFrom g.stock g.more (holdings ts) → Each (IsLive ram stock (paged_plan g.s) roles) ts
lives_joined g ram stock joined roles [] j live held own more = tt
lives_joined g ram stock joined roles (u ∷ us) j live held own more =
    let k = live.0 in
    let kept = j.others u.taken held.0 (each_append (λ x. chains.Each (λ y. y ≢ x) (frames_of g.stock u.taken)) (frames_of g.stock g.t.taken) (frames_of g.stock g.more) own.0 more.0) in (
      record {
        maps = k.maps;
        root = k.root;
        stands = k.stands;
        tables = k.tables;
        shows = k.shows;
        frames = subst (Each (FrameAt (λ r. is_of u.number r ≡ true) roles)) (sym kept.frames) k.frames;
        count = k.count;
      },
      lives_joined g ram stock joined roles us j live.1 held.2 own.1 more.1,
    )

each_frame : (P : ℕ → Type 0) (xs ys : List ℕ) → Each P xs → Each P ys → Each P (xs ++ ys)
each_frame P [] ys h k = k
each_frame P (x ∷ xs) ys h k = (h.0, each_frame P xs ys h.1 k)

frames_still : (g : ℕ) (role roles : ℕ → Role) (l : List ℕ) → ((f : ℕ) → is_of g (role f) ≡ true → roles f ≡ role f) → Each (FrameAt (λ r. is_of g r ≡ true) role) l → Each (FrameAt (λ r. is_of g r ≡ true) roles) l
frames_still g role roles [] same h = tt
frames_still g role roles (a ∷ l) same h = (record { frame = h.0.frame; address = h.0.address; role = ap (is_of g) (same h.0.frame h.0.role) ∙ h.0.role }, frames_still g role roles l same h.1)

-- the group itself
joined_count : (g : Growth) (p : IsPaged g.s) (stock : Stock) (joined : Taken) → Joined g stock joined → joined.count ≡ frames_for (paged_plan g.s) g.t.program (slots_in g)
joined_count g p stock joined j =
    let a = length-chain stock.first stock.next joined.head joined.count in
    let b = ap length j.joined_is ∙ length-append (frames_of g.stock g.t.taken) (frames_of g.stock g.more) in
    let c = length-chain g.stock.first g.stock.next g.t.taken.head g.t.taken.count in
    let d = frames_length g in
    let e = (live_in g p).count in
    let n = need_frames g p in
    omega (arith, a, b, c, d, e, n)

own_live : (g : Growth) (p : IsPaged g.s) (new : List ℕ) (used : ℕ) (b : Built g p new used) (stock : Stock) (joined : Taken) → Joined g stock joined → AreHeld g.s.stock (holdings g.s.tenants) → IsLive new stock (paged_plan g.s) b.roles (newer g joined)
own_live g p new used b stock joined j held =
    let v = live_in g p in
    let own : Holds g.s.stock g.t.taken = (held_first g.s.stock g.t.taken (holdings g.before) (holdings g.after) (subst (AreHeld g.s.stock) (ap holdings g.are ∙ map_middle (λ t. t.taken) g.before g.t g.after) held)).0 in
    let kept = (g.takes.others g.t.taken own).0 in
    record {
      maps = b.maps;
      root = b.root_is;
      stands = b.stands;
      tables = λ i l. b.tables i l ∙ grown_tables g p new used b i l;
      shows = subst (Shows b.maps) (sym (spans_last (paged_plan g.s) g.t.program g.t.slots g.slot)) (grown_shows g p new used b);
      frames = subst (Each (FrameAt (λ r. is_of g.t.number r ≡ true) b.roles)) (sym j.joined_is)
          (each_frame (FrameAt (λ r. is_of g.t.number r ≡ true) b.roles) (frames_of g.stock g.t.taken) (frames_in g)
          (subst (Each (FrameAt (λ r. is_of g.t.number r ≡ true) b.roles)) (sym kept.frames) (frames_still g.t.number p.role b.roles (frames_of g.s.stock g.t.taken) (λ f is. role_same g p new used b g.t.number f is) v.frames))
          (taken_in g p new used b));
      count = joined_count g p stock joined j;
    }

-- what holds of all of it
pub grown_paged : (g : Growth) (p : IsPaged g.s) (new : List ℕ) (used : ℕ) (b : Built g p new used) (stock : Stock) (joined : Taken) → Joined g stock joined → has_tenant g.before g.t.number ≡ false → IsPaged (grown_space g new stock joined)
grown_paged g p new used b stock joined j none =
    let plan = plan_same g new stock joined j in
    let held = held_by_group g p in
    let old = subst (AreHeld g.s.stock) (ap holdings g.are ∙ map_middle (λ t. t.taken) g.before g.t g.after) p.held in
    let old_rest = (held_first g.s.stock g.t.taken (holdings g.before) (holdings g.after) old).2 in
    let both = sym (map_rest (λ t. t.taken) g.before g.after) in
    let live = subst (Each (IsLive g.s.ram g.s.stock (paged_plan g.s) p.role)) g.are p.live in
    let lives = still_lives g.s g.stock new g.t.number p.role b.roles (rest_in g) (others_in g p new used b) (λ u holds. (g.takes.others u holds).0) (each_rest (IsLive g.s.ram g.s.stock (paged_plan g.s) p.role) g.before g.t g.after live) (rest_none g none) (subst (AreHeld g.s.stock) both old_rest) in
    let rest = lives_joined g new stock joined b.roles (rest_in g) j lives (subst (AreHeld g.stock) both held.2.2) (subst (IsApartFrom g.stock g.t.taken) both held.1.1) (subst (IsApartFrom g.stock g.more) both held.2.1) in
    let own = own_live g p new used b stock joined j p.held in
    record {
      role = b.roles;
      live = subst (λ m. Each (IsLive new stock m b.roles) (tenants_in g joined)) (sym plan) (each_insert (IsLive new stock (paged_plan g.s) b.roles) g.before (newer g joined) g.after rest own);
      held = subst (AreHeld stock) (sym (map_middle (λ t. t.taken) g.before (newer g joined) g.after))
          (held_back stock joined (holdings g.before) (holdings g.after) (joined_held g.stock stock g.t.taken g.more joined (holdings g.before ++ holdings g.after) held j.holds j.joined_is j.others));
      nobody = subst (Each (FrameAt (λ r. r ≡ Free) b.roles)) (sym j.free)
          (still_nobody p.role b.roles (frames_in g) g.stock.free (λ f out. role_elsewhere g p new used b f out) g.takes.holds.apart
          (each_right (FrameAt (λ r. r ≡ Free) p.role) (frames_in g) g.stock.free (subst (Each (FrameAt (λ r. r ≡ Free) p.role)) g.takes.order p.nobody)));
      past = λ f h own. ⊎_elim
          (λ high. omega (arith, high))
          (λ out. p.past f h (ap (is_of h) (sym (role_elsewhere g p new used b f out)) ∙ own))
          (one_or_none (λ a. ram_start + g.s.pool ≤ a) (ram_start + 4096 * f) (frames_in g) (high_frames g.stock.first (length g.stock.next) (ram_start + g.s.pool) (frames_in g) (let e = g.same.first ∙ g.placed.first in omega (arith, e)) g.takes.holds.frames));
    }

pub grown_placed : (g : Growth) → frames_for (paged_plan g.s) g.t.program (g.t.slots ++ g.slot ∷ []) ≡ frames_for (paged_plan g.s) g.t.program g.t.slots + g.need → (new : List ℕ) (stock : Stock) (joined : Taken) → Joined g stock joined → AreBytes new → length new ≡ length g.s.ram → IsPlaced (grown_space g new stock joined)
grown_placed g need new stock joined j bytes long =
    let same = both_same g stock joined j in
    let plan = plan_same g new stock joined j in
    let h = g.placed in
    let t = tenant_in g in
    let slots = all_slots (λ x. x < g.s.threads) (slots_in g) (each_more (λ x. x < g.s.threads) g.t.slots g.slot (each_slot (λ x. x < g.s.threads) g.t.slots t.slots) g.slot_is) in
    let own : IsTenant (paged_plan g.s) (newer g joined) = record { program = t.program; once = once_more g.t.slots g.slot t.once g.none; slots = slots } in
    let old = subst (Each (IsTenant (paged_plan g.s))) g.are (each_of (IsTenant (paged_plan g.s)) g.s.tenants h.tenants) in
    record {
      fits = subst (λ n. FitsPaged n g.s.pool g.s.programs g.s.stack g.s.threads) (sym long) h.fits;
      bytes = bytes;
      first = same.first ∙ h.first;
      frames = ap (λ n. g.s.pool + 4096 * n) same.count ∙ h.frames ∙ sym long;
      few = let l = same_length g.before g.t (newer g joined) g.after in let e = ap length g.are in let f = h.few in omega (arith, l, e, f);
      distinct = distinct_same g.before g.t (newer g joined) g.after refl ∙ ap are_distinct (sym g.are) ∙ h.distinct;
      tenants = subst (λ m. All (IsTenant m) (tenants_in g joined)) (sym plan) (all_of (IsTenant (paged_plan g.s)) (tenants_in g joined) (each_insert (IsTenant (paged_plan g.s)) g.before (newer g joined) g.after (each_rest (IsTenant (paged_plan g.s)) g.before g.t g.after old) own));
      counted =
          let c = h.counted in
          let n = same.count in
          let a = ap (λ m. frames_taken m (tenants_in g joined)) plan ∙ taken_middle (paged_plan g.s) g.before (newer g joined) g.after in
          let o = ap (frames_taken (paged_plan g.s)) g.are ∙ taken_middle (paged_plan g.s) g.before g.t g.after in
          let f = ap length j.free in
          let k = ap length g.takes.order ∙ length-append (frames_in g) g.stock.free in
          let l = frames_length g in
          omega (arith, c, n, a, o, f, k, l, need);
    }

-- the pool is as it was
pool_same : (g : Growth) (p : IsPaged g.s) (new : List ℕ) (used : ℕ) (b : Built g p new used) → take g.s.pool new ≡ take g.s.pool g.s.ram
pool_same g p new used b = take_same g.s.ram new g.s.pool (b.long ∙ g.takes.zeroed.long) byte
  where
    lower : (f : ℕ) (l : List ℕ) → 4096 * f < g.s.pool → chains.Each (λ a. ram_start + g.s.pool ≤ a) l → Each (λ a. a ≢ ram_start + 4096 * f) l
    lower f [] less h = tt
    lower f (a ∷ l) less h = let x = h.0 in ((λ e. omega (arith, e, less, x)), lower f l less h.1)

    out : (f : ℕ) → 4096 * f < g.s.pool → Each (λ a. a ≢ ram_start + 4096 * f) (frames_in g)
    out f less = lower f (frames_in g) less (high_frames g.stock.first (length g.stock.next) (ram_start + g.s.pool) (frames_in g) (let e = g.same.first ∙ g.placed.first in omega (arith, e)) g.takes.holds.frames)

    not_own : (f : ℕ) → 4096 * f < g.s.pool → is_of g.t.number (p.role f) ≡ false
    not_own f less = by_test (is_of g.t.number (p.role f)) refl
      where
        by_test : (c : Bool) → is_of g.t.number (p.role f) ≡ c → c ≡ false
        by_test true e = let x = p.past f g.t.number e in absurd (omega (arith, x, less))
        by_test false e = refl

    byte : (k : ℕ) → k < g.s.pool → get_or new k 0 ≡ get_or g.s.ram k 0
    byte k l =
        let f : ℕ = k / 4096 in
        let o : ℕ = k % 4096 in
        let is : k ≡ 4096 * f + o = omega arith in
        let less : 4096 * f < g.s.pool = omega (arith, l) in
        let small : o < 4096 = omega arith in
        ap (λ i. get_or new i 0) is
        ∙ b.kept f o (not_table g.t.number (b.roles f) (ap (is_of g.t.number) (role_elsewhere g p new used b f (out f less)) ∙ not_own f less)) small
        ∙ g.takes.zeroed.others (4096 * f + o) (elsewhere_of f o p.role (frames_in g) small (free_in g p) (out f less))
        ∙ ap (λ i. get_or g.s.ram i 0) (sym is)

-- the world
pub group_found : (g : Growth) → has_tenant g.before g.t.number ≡ false → group_of (paged_world g.s).groups g.t.number ≡ paged_group g.s.ram (paged_plan g.s) g.t
group_found g none = ap (λ ts. group_of (map (paged_group g.s.ram (paged_plan g.s)) ts) g.t.number) g.are ∙ group_middle g.s.ram (paged_plan g.s) g.before g.t g.after g.t.number none refl

groups_grown : (g : Growth) (p : IsPaged g.s) (new : List ℕ) (used : ℕ) (b : Built g p new used) (joined : Taken) → has_tenant g.before g.t.number ≡ false → map (paged_group new (paged_plan g.s)) (tenants_in g joined) ≡ change_group (with_stack (paged_plan g.s) g.slot) (paged_world g.s).groups g.t.number
groups_grown g p new used b joined none =
    let plan : MemoryMap = paged_plan g.s in
    let live = each_rest (IsLive g.s.ram g.s.stock plan p.role) g.before g.t g.after (subst (Each (IsLive g.s.ram g.s.stock plan p.role)) g.are p.live) in
    let u = others_in g p new used b in
    let front = still_groups g.s g.stock new g.t.number p.role b.roles g.before u (each_before (IsLive g.s.ram g.s.stock plan p.role) g.before g.after live) none in
    let back = still_groups g.s g.stock new g.t.number p.role b.roles g.after u (each_after (IsLive g.s.ram g.s.stock plan p.role) g.before g.after live) (none_after g.before g.t g.after (ap are_distinct (sym g.are) ∙ g.placed.distinct)) in
    let old : List Tenant → List Group = map (paged_group g.s.ram plan) in
    map_middle (paged_group new plan) g.before (newer g joined) g.after
    ∙ ap (λ l. l ++ paged_group new plan (newer g joined) ∷ map (paged_group new plan) g.after) front
    ∙ ap (λ l. old g.before ++ paged_group new plan (newer g joined) ∷ l) back
    ∙ ap (λ x. old g.before ++ x ∷ old g.after) (grown_group g p new used b)
    ∙ sym (change_middle (with_stack plan g.slot) g.s.ram plan g.before g.t g.after g.t.number none refl)
    ∙ ap (λ ts. change_group (with_stack plan g.slot) (old ts) g.t.number) (sym g.are)

pub grown_world : (g : Growth) (p : IsPaged g.s) (new : List ℕ) (used : ℕ) (b : Built g p new used) (stock : Stock) (joined : Taken) → Joined g stock joined → has_tenant g.before g.t.number ≡ false → (let w = paged_world (grown_space g new stock joined) in w ≡ but_outside (grown (paged_world g.s) g.t.number g.slot) w)
unfolding grown
grown_world g p new used b stock joined j none =
    let w = paged_world (grown_space g new stock joined) in
    let old = paged_world g.s in
    let changed : World = record old { groups = change_group (with_stack (paged_plan g.s) g.slot) old.groups g.t.number } in
    let test : has_slot (group_of old.groups g.t.number).slots g.slot ≡ false = ap (λ x. has_slot x.slots g.slot) (group_found g none) ∙ g.none in
    ap (λ m. record w { memory_map = m; groups = map (paged_group new m) (tenants_in g joined) }) (plan_same g new stock joined j)
    ∙ ap (λ gs. record w { memory_map = paged_plan g.s; groups = gs }) (groups_grown g p new used b joined none)
    ∙ ap (λ bs. record w { memory_map = paged_plan g.s; groups = change_group (with_stack (paged_plan g.s) g.slot) old.groups g.t.number; common = bs ∷ [] }) (pool_same g p new used b)
    ∙ ap (λ x. but_outside (if not x then changed else zero_stack old g.t.number (group_of old.groups g.t.number).parts g.slot) w) (sym test)
