-- What one stack more comes to, for a group that is found by its number.
use Rattle.std.proofs.Common.{◌≡◌, ℕ, ◌+◌, ◌-◌, ◌*◌, ◌/◌, ◌<◌, ◌≤◌, true, false, List, [], ◌∷◌, ◌++◌, length, map, get_or, refl, sym, ap, ◌∙◌, subst, arith}
use Rattle.std.specs.Prelude.{if◌then◌else◌, slice_set}
use Rattle.std.specs.Option.{is_some}
use Rattle.std.proofs.Props.{props}
use Rattle.std.proofs.Math.Logic.{∥∥₁_elim}
use Rattle.std.proofs.lemmas.List.{length-append}
use Rattle.nx_base.specs.ByteLists.{AreBytes}
use Rattle.nx_frames.specs.declared.frames.Taken.{Taken}
use Rattle.nx_frames.specs.Chains.{AreApart}
use Rattle.nx_frames.specs.Stock.{Stock, Holds, SameFrames, Takes, frames_of}
use Rattle.nx_sv32.specs.Walk.{entry_at}
use Rattle.nx_tables.specs.Maps.{satp_of, table_by}
use Rattle.nx_space.specs.World.{World, group_of}
use Rattle.nx_space.specs.Starts.{has_slot, with_slot, stack_low, pages_of, frames_for, grow_need, grown, but_outside, free}
use Rattle.nx_paged.specs.Tenants.{Tenant, has_tenant, root_of, place_of}
use Rattle.nx_paged.specs.Spans.{Each}
use Rattle.nx_paged.specs.Paging.{Paging, paged_plan, paged_group, paged_world, IsTenant, IsPlaced, IsLive, IsPaged}
use Rattle.nx_paged.specs.Finding.{each_of}
use Rattle.nx_paged.specs.Building.{entries_from, regions_of, HasRoom, Adds}
use Rattle.nx_paged.specs.Writing.{HasPlace, WritesAll}
use Rattle.nx_paged.proofs.HeldOnce.{holds_prop, apart_prop}
use Rattle.nx_paged.proofs.Saves.{with_ram}
use Rattle.nx_paged.proofs.Started.{free_is}
use Rattle.nx_paged.proofs.Slots.{few_slots, each_slot, each_more, once_more}
use Rattle.nx_paged.proofs.Splits.{Split, split_of, each_middle, get_middle, set_middle, root_same, group_middle}
use Rattle.nx_paged.proofs.Zeros.{zeros}
use Rattle.nx_paged.proofs.GrownNeeds.{group_regions, table_more, frames_more}
use Rattle.nx_paged.proofs.Cleared.{Clearing, place_at, cleared_paged, cleared_world}
use Rattle.nx_paged.proofs.Growths.{Growth, bounds_of, table_told, low_in, frames_in, entries_in, need_frames, frames_length, room_in, built_in, Built}
use Rattle.nx_paged.proofs.Grown.{Joined, newer, tenants_in, grown_space, own_held, more_apart, grown_paged, grown_placed, grown_world}

world_prop : (a b : World) → IsProp (a ≡ b)
world_prop a b = hlevel props

-- a group of a space that is in order
pub record Asks (s : Paging) (group slot : ℕ) : Type 0 where
  pub placed : IsPlaced s
  pub paged : ∥ IsPaged s ∥₁
  pub has : has_tenant s.tenants group ≡ true
  pub slot_is : slot < s.threads

abbrev pub split_in : (s : Paging) (group slot : ℕ) → Asks s group slot → Split s.tenants group
split_in s group slot a = split_of s.tenants group a.has

abbrev pub found : (s : Paging) (group slot : ℕ) → Asks s group slot → Tenant
found s group slot a = (split_in s group slot a).tenant

-- what stands at its place
pub element : (s : Paging) (group slot at : ℕ) (x : Tenant) (a : Asks s group slot) → at ≡ place_of s.tenants group → x ≡ get_or s.tenants at x → x ≡ found s group slot a
element s group slot at x a is e =
    let sp = split_in s group slot a in
    e ∙ ap (λ i. get_or s.tenants i x) (is ∙ sp.place) ∙ ap (λ ts. get_or ts (length sp.before) x) sp.are ∙ get_middle sp.before sp.tenant sp.after x

pub none_before : (s : Paging) (group slot : ℕ) (a : Asks s group slot) → has_tenant (split_in s group slot a).before (found s group slot a).number ≡ false
none_before s group slot a = let sp = split_in s group slot a in ap (has_tenant sp.before) sp.number_is ∙ sp.none

is_tenant : (s : Paging) (group slot : ℕ) (a : Asks s group slot) → IsTenant (paged_plan s) (found s group slot a)
is_tenant s group slot a = let sp = split_in s group slot a in each_middle (IsTenant (paged_plan s)) sp.before sp.tenant sp.after (subst (Each (IsTenant (paged_plan s))) sp.are (each_of (IsTenant (paged_plan s)) s.tenants a.placed.tenants))

pub program_is : (s : Paging) (group slot : ℕ) (a : Asks s group slot) → (found s group slot a).program < length s.programs
program_is s group slot a = (is_tenant s group slot a).program

pub group_is : (s : Paging) (group slot : ℕ) (a : Asks s group slot) → group_of (paged_world s).groups group ≡ paged_group s.ram (paged_plan s) (found s group slot a)
group_is s group slot a =
    let sp = split_in s group slot a in
    ap (λ ts. group_of (map (paged_group s.ram (paged_plan s)) ts) group) sp.are ∙ group_middle s.ram (paged_plan s) sp.before sp.tenant sp.after group sp.none sp.number_is

-- its root lies in the RAM
live_is : (s : Paging) (group slot : ℕ) (a : Asks s group slot) (p : IsPaged s) → IsLive s.ram s.stock (paged_plan s) p.role (found s group slot a)
live_is s group slot a p = let sp = split_in s group slot a in each_middle (IsLive s.ram s.stock (paged_plan s) p.role) sp.before sp.tenant sp.after (subst (Each (IsLive s.ram s.stock (paged_plan s) p.role)) sp.are p.live)

pub root_inside : (s : Paging) (group slot root : ℕ) (a : Asks s group slot) → root ≡ (found s group slot a).root → 4096 * root + 4096 ≤ length s.ram
root_inside s group slot root a is = ∥∥₁_elim a.paged (hlevel props) (λ p.
    let v = live_is s group slot a p in
    let l = v.stands.lie.root in
    omega (arith, l, v.root, is))

pub root_small : (s : Paging) (group slot root : ℕ) (a : Asks s group slot) → root ≡ (found s group slot a).root → root < 524288
root_small s group slot root a is = let i = root_inside s group slot root a is in let f = a.placed.fits.small in omega (arith, i, f)

-- where it has the stack
abbrev pub clearing : (s : Paging) (group slot : ℕ) (a : Asks s group slot) → has_slot (found s group slot a).slots slot ≡ true → Clearing
clearing s group slot a y = let sp = split_in s group slot a in record {
  s = s;
  before = sp.before;
  t = sp.tenant;
  after = sp.after;
  slot = slot;
  placed = a.placed;
  are = sp.are;
  slot_is = a.slot_is;
  has = y;
  none = none_before s group slot a;
}

pub clear_place : (s : Paging) (group slot root : ℕ) (a : Asks s group slot) → root ≡ (found s group slot a).root → has_slot (found s group slot a).slots slot ≡ true → ∥ HasPlace s.ram (satp_of root) (stack_low (paged_plan s) slot) s.stack ∥₁
clear_place s group slot root a is y = ∥∥₁_elim a.paged (hlevel props) (λ p.
    ∣ subst (λ r. HasPlace s.ram (satp_of r) (stack_low (paged_plan s) slot) s.stack) (sym is) (record { writes = true; roles = p.role; group = (found s group slot a).number; maps = _; place = place_at (clearing s group slot a y) p }) ∣₁)

abbrev pub Clears : Paging → ℕ → ℕ → List ℕ → Type 0
Clears s slot root new = WritesAll s.ram new (satp_of root) (stack_low (paged_plan s) slot) s.stack 0 (zeros s.stack)

pub clear_paged : (s : Paging) (group slot root : ℕ) (new : List ℕ) (a : Asks s group slot) → root ≡ (found s group slot a).root → has_slot (found s group slot a).slots slot ≡ true → Clears s slot root new → ∥ IsPaged (with_ram s new) ∥₁
clear_paged s group slot root new a is y w = ∥∥₁_elim a.paged (hlevel props) (λ p. ∣ cleared_paged (clearing s group slot a y) p new (subst (λ r. Clears s slot r new) is w) ∣₁)

pub clear_world : (s : Paging) (group slot root : ℕ) (new : List ℕ) (a : Asks s group slot) → root ≡ (found s group slot a).root → has_slot (found s group slot a).slots slot ≡ true → Clears s slot root new → (let w = paged_world (with_ram s new) in w ≡ but_outside (grown (paged_world s) group slot) w)
clear_world s group slot root new a is y w =
    let after = paged_world (with_ram s new) in
    ∥∥₁_elim a.paged (world_prop _ _) (λ p. cleared_world (clearing s group slot a y) p new (subst (λ r. Clears s slot r new) is w))
    ∙ ap (λ n. but_outside (grown (paged_world s) n slot) after) (split_in s group slot a).number_is

-- no frame is needed then
pub clear_need : (s : Paging) (group slot : ℕ) (a : Asks s group slot) → has_slot (found s group slot a).slots slot ≡ true → grow_need (paged_world s) group slot ≤ free (paged_world s)
clear_need s group slot a y =
    let t = found s group slot a in
    let one : grow_need (paged_world s) group slot ≡ frames_for (paged_plan s) t.program (if has_slot t.slots slot then t.slots else t.slots ++ slot ∷ []) - frames_for (paged_plan s) t.program t.slots =
    ap (λ g. frames_for (paged_plan s) g.program (with_slot g.slots slot) - frames_for (paged_plan s) g.program g.slots) (group_is s group slot a)
    in
    let two = ap (λ b. frames_for (paged_plan s) t.program (if b then t.slots else t.slots ++ slot ∷ []) - frames_for (paged_plan s) t.program t.slots) y in
    omega (arith, one, two)

-- where it hasn't
pub record Took (s : Paging) (group slot need : ℕ) (a : Asks s group slot) (stock : Stock) (ram : List ℕ) (more : Taken) : Type 0 where
  pub none : has_slot (found s group slot a).slots slot ≡ false
  pub need_is : need ≡ pages_of s.stack + (if is_some (table_by (entry_at s.ram (4096 * (found s group slot a).root + 4 * (stack_low (paged_plan s) slot / 4096 / 1024)))) then 0 else 1)
  pub takes : Takes s.stock stock s.ram ram need more
  pub same : SameFrames s.stock stock

abbrev pub growth : (s : Paging) (group slot need : ℕ) (a : Asks s group slot) (stock : Stock) (ram : List ℕ) (more : Taken) → Took s group slot need a stock ram more → Growth
growth s group slot need a stock ram more k = let sp = split_in s group slot a in record {
  s = s;
  before = sp.before;
  t = sp.tenant;
  after = sp.after;
  slot = slot;
  need = need;
  stock = stock;
  ram = ram;
  more = more;
  placed = a.placed;
  are = sp.are;
  slot_is = a.slot_is;
  none = k.none;
  need_is = k.need_is;
  takes = k.takes;
  same = k.same;
}

pub grow_room : (s : Paging) (group slot need root n : ℕ) (a : Asks s group slot) (stock : Stock) (ram : List ℕ) (more : Taken) (k : Took s group slot need a stock ram more) → root ≡ (found s group slot a).root → n ≡ pages_of s.stack → (let g = growth s group slot need a stock ram more k in ∥ HasRoom (frames_in g) root (regions_of (entries_from (low_in g / 4096) n true)) n ram 0 ∥₁)
grow_room s group slot need root n a stock ram more k is size =
    let g = growth s group slot need a stock ram more k in
    ∥∥₁_elim a.paged (hlevel props) (λ p.
    ∣ subst (λ r. HasRoom (frames_in g) r (regions_of (entries_from (low_in g / 4096) n true)) n ram 0) (sym is)
    (subst (λ c. HasRoom (frames_in g) g.t.root (regions_of (entries_from (low_in g / 4096) c true)) c ram 0) (sym size) (room_in g p)) ∣₁)

pub grow_held : (s : Paging) (group slot need : ℕ) (a : Asks s group slot) (stock : Stock) (ram : List ℕ) (more : Taken) → Took s group slot need a stock ram more → Holds stock (found s group slot a).taken
grow_held s group slot need a stock ram more k = ∥∥₁_elim a.paged (holds_prop stock _) (λ p. own_held (growth s group slot need a stock ram more k) p)

pub grow_apart : (s : Paging) (group slot need : ℕ) (a : Asks s group slot) (stock : Stock) (ram : List ℕ) (more : Taken) → Took s group slot need a stock ram more → AreApart (frames_of stock (found s group slot a).taken) (frames_of stock more)
grow_apart s group slot need a stock ram more k = ∥∥₁_elim a.paged (apart_prop _ _) (λ p. more_apart (growth s group slot need a stock ram more k) p)

pub grow_few : (s : Paging) (group slot : ℕ) (a : Asks s group slot) → has_slot (found s group slot a).slots slot ≡ false → length (found s group slot a).slots < 64
grow_few s group slot a none =
    let t = found s group slot a in
    let k = is_tenant s group slot a in
    let l = length-append t.slots (slot ∷ []) in
    let m = few_slots s.threads (t.slots ++ slot ∷ []) (once_more t.slots slot k.once none) (each_more (λ x. x < s.threads) t.slots slot (each_slot (λ x. x < s.threads) t.slots k.slots) a.slot_is) in
    let f = a.placed.fits.few in
    omega (arith, l, m, f)

-- the frames that are needed
need_more : (s : Paging) (group slot n : ℕ) (a : Asks s group slot) → has_slot (found s group slot a).slots slot ≡ false → frames_for (paged_plan s) (found s group slot a).program ((found s group slot a).slots ++ slot ∷ []) ≡ frames_for (paged_plan s) (found s group slot a).program (found s group slot a).slots + n → grow_need (paged_world s) group slot ≡ n
need_more s group slot n a y e =
    let t = found s group slot a in
    let one : grow_need (paged_world s) group slot ≡ frames_for (paged_plan s) t.program (if has_slot t.slots slot then t.slots else t.slots ++ slot ∷ []) - frames_for (paged_plan s) t.program t.slots =
    ap (λ g. frames_for (paged_plan s) g.program (with_slot g.slots slot) - frames_for (paged_plan s) g.program g.slots) (group_is s group slot a)
    in
    let two = ap (λ b. frames_for (paged_plan s) t.program (if b then t.slots else t.slots ++ slot ∷ []) - frames_for (paged_plan s) t.program t.slots) y in
    omega (arith, one, two, e)

number_prop : (n m : ℕ) → IsProp (n ≡ m)
number_prop n m = hlevel props

-- what the frames number, where they may be too few
abbrev pub asked_need : Paging → ℕ → ℕ → ℕ
asked_need s root slot = pages_of s.stack + (if is_some (table_by (entry_at s.ram (4096 * root + 4 * (stack_low (paged_plan s) slot / 4096 / 1024)))) then 0 else 1)

pub need_told : (s : Paging) (group slot need root : ℕ) (a : Asks s group slot) → root ≡ (found s group slot a).root → has_slot (found s group slot a).slots slot ≡ false → need ≡ asked_need s root slot → need ≡ grow_need (paged_world s) group slot
need_told s group slot need root a is none e =
    let t = found s group slot a in
    let plan = paged_plan s in
    ∥∥₁_elim a.paged (number_prop _ _) (λ p.
    let told = table_told s p.role t slot a.placed a.slot_is (live_is s group slot a p) in
    let n : need ≡ pages_of s.stack + table_more (stack_low plan slot / 4096 / 1024) (group_regions plan t.program t.slots) = e ∙ ap (λ r. asked_need s r slot) is ∙ ap (λ k. pages_of s.stack + k) told in
    n ∙ sym (need_more s group slot (pages_of s.stack + table_more (stack_low plan slot / 4096 / 1024) (group_regions plan t.program t.slots)) a none
    (frames_more plan t.program t.slots slot refl (bounds_of s slot a.placed a.slot_is).compact)))

pub grow_enough : (s : Paging) (group slot need : ℕ) (a : Asks s group slot) (stock : Stock) (ram : List ℕ) (more : Taken) → Took s group slot need a stock ram more → grow_need (paged_world s) group slot ≤ free (paged_world s)
grow_enough s group slot need a stock ram more k =
    let g = growth s group slot need a stock ram more k in
    let n : grow_need (paged_world s) group slot ≡ need = ∥∥₁_elim a.paged (number_prop _ _) (λ p. need_more s group slot need a k.none (need_frames g p)) in
    let f = free_is s a.placed in
    let o = ap length k.takes.order ∙ length-append (frames_of stock more) stock.free in
    let l = frames_length g in
    omega (arith, n, f, o, l)

-- the space after it
pub grow_items : (s : Paging) (group slot need at : ℕ) (a : Asks s group slot) (stock : Stock) (ram : List ℕ) (more joined : Taken) (new : Tenant) (k : Took s group slot need a stock ram more) → at ≡ place_of s.tenants group → new ≡ record (found s group slot a) { slots = (found s group slot a).slots ++ slot ∷ []; taken = joined } → slice_set s.tenants at new ≡ tenants_in (growth s group slot need a stock ram more k) joined
grow_items s group slot need at a stock ram more joined new k is e =
    let sp = split_in s group slot a in
    ap (λ i. slice_set s.tenants i new) (is ∙ sp.place) ∙ ap (λ ts. slice_set ts (length sp.before) new) sp.are ∙ set_middle sp.before sp.tenant sp.after new ∙ ap (λ x. sp.before ++ x ∷ sp.after) e

pub record Mapped (s : Paging) (group slot need used root n : ℕ) (a : Asks s group slot) (stock after : Stock) (ram new : List ℕ) (more joined : Taken) : Type 0 where
  pub took : Took s group slot need a stock ram more
  pub root_is : root ≡ (found s group slot a).root
  pub size : n ≡ pages_of s.stack
  pub adds : Adds (frames_of stock more) root (regions_of (entries_from (stack_low (paged_plan s) slot / 4096) n true)) (entries_from (stack_low (paged_plan s) slot / 4096) n true) ram 0 new used
  pub joins : Joined (growth s group slot need a stock ram more took) after joined
  pub bytes : AreBytes new

built : (s : Paging) (group slot need used root n : ℕ) (a : Asks s group slot) (stock after : Stock) (ram new : List ℕ) (more joined : Taken) (m : Mapped s group slot need used root n a stock after ram new more joined) (p : IsPaged s) → Built (growth s group slot need a stock ram more m.took) p new used
built s group slot need used root n a stock after ram new more joined m p =
    let g = growth s group slot need a stock ram more m.took in
    let first = low_in g / 4096 in
    built_in g p new used
    (subst (λ r. Adds (frames_in g) r (regions_of (entries_in g)) (entries_in g) ram 0 new used) m.root_is
    (subst (λ c. Adds (frames_in g) root (regions_of (entries_from first c true)) (entries_from first c true) ram 0 new used) m.size m.adds))

pub grow_placed : (s : Paging) (group slot need used root n : ℕ) (a : Asks s group slot) (stock after : Stock) (ram new : List ℕ) (more joined : Taken) (m : Mapped s group slot need used root n a stock after ram new more joined) → length new ≡ length s.ram → IsPlaced (grown_space (growth s group slot need a stock ram more m.took) new after joined)
grow_placed s group slot need used root n a stock after ram new more joined m long =
    let g = growth s group slot need a stock ram more m.took in
    let need_is = ∥∥₁_elim a.paged (number_prop _ _) (λ p. need_frames g p) in
    grown_placed g need_is new after joined m.joins m.bytes long

pub grow_long : (s : Paging) (group slot need used root n : ℕ) (a : Asks s group slot) (stock after : Stock) (ram new : List ℕ) (more joined : Taken) → Mapped s group slot need used root n a stock after ram new more joined → length new ≡ length s.ram
grow_long s group slot need used root n a stock after ram new more joined m = ∥∥₁_elim a.paged (number_prop _ _) (λ p. (built s group slot need used root n a stock after ram new more joined m p).long ∙ m.took.takes.zeroed.long)

pub grow_paged : (s : Paging) (group slot need used root n : ℕ) (a : Asks s group slot) (stock after : Stock) (ram new : List ℕ) (more joined : Taken) (m : Mapped s group slot need used root n a stock after ram new more joined) → ∥ IsPaged (grown_space (growth s group slot need a stock ram more m.took) new after joined) ∥₁
grow_paged s group slot need used root n a stock after ram new more joined m = ∥∥₁_elim a.paged (hlevel props) (λ p.
    ∣ grown_paged (growth s group slot need a stock ram more m.took) p new used (built s group slot need used root n a stock after ram new more joined m p) after joined m.joins (none_before s group slot a) ∣₁)

pub grow_world : (s : Paging) (group slot need used root n : ℕ) (a : Asks s group slot) (stock after : Stock) (ram new : List ℕ) (more joined : Taken) (m : Mapped s group slot need used root n a stock after ram new more joined) → (let w = paged_world (grown_space (growth s group slot need a stock ram more m.took) new after joined) in w ≡ but_outside (grown (paged_world s) group slot) w)
grow_world s group slot need used root n a stock after ram new more joined m =
    let g = growth s group slot need a stock ram more m.took in
    let w = paged_world (grown_space g new after joined) in
    ∥∥₁_elim a.paged (world_prop _ _) (λ p. grown_world g p new used (built s group slot need used root n a stock after ram new more joined m p) after joined m.joins (none_before s group slot a))
    ∙ ap (λ k. but_outside (grown (paged_world s) k slot) w) (split_in s group slot a).number_is

pub grow_root : (s : Paging) (group slot need number : ℕ) (a : Asks s group slot) (stock : Stock) (ram : List ℕ) (more joined : Taken) (k : Took s group slot need a stock ram more) → root_of s.tenants number ≡ root_of (tenants_in (growth s group slot need a stock ram more k) joined) number
grow_root s group slot need number a stock ram more joined k =
    let g = growth s group slot need a stock ram more k in
    ap (λ ts. root_of ts number) g.are ∙ sym (root_same g.before g.t (newer g joined) g.after number refl refl)
