-- What starts and ends do to the free frames, and that groups share nothing.
use Rattle.std.proofs.Common.{◌≡◌, ◌≢◌, ℕ, ◌+◌, ◌*◌, ◌/◌, ◌%◌, ◌<◌, ◌≤◌, ◌==◌, Bool, true, false, ◌||◌, Option, Some, None, List, [], ◌∷◌, ◌++◌, refl, sym, ap, ◌∙◌, arith}
use Rattle.std.specs.Prelude.{if◌then◌else◌}
use Rattle.nx_base.specs.declared.access.Access.{Access}
use Rattle.nx_sv32.specs.Walk.{ram_start, walk}
use Rattle.nx_tables.specs.Maps.{Page, Maps, satp_of, lets, translated}
use Rattle.nx_tables.specs.Roles.{Role, Leaf, Stands}
use Rattle.nx_tables.proofs.Walked.{walk_mapped}
use Rattle.nx_tables.proofs.Views.{same_page}
use Rattle.nx_space.specs.World.{Group, MemoryMap, World, has_view, group_of}
use Rattle.nx_space.specs.Lawful.{IsWorld}
use Rattle.nx_space.specs.Starts.{frames_of, needs, free, start_need, started, finished, without, but_outside, paged_start, shared_start}
use Rattle.nx_paged.specs.Tenants.{has_tenant, root_of}
use Rattle.nx_paged.specs.Paging.{Paging, paged_plan, IsLive, IsPaged}
use Rattle.nx_paged.specs.Finding.{find_tenant}
use Rattle.nx_paged.proofs.Newcomers.{started_group}

needs_last : (memory_map : MemoryMap) (gs : List Group) (g : Group) → needs memory_map (gs ++ g ∷ []) ≡ needs memory_map gs + frames_of memory_map g
unfolding needs
needs_last memory_map [] g = omega arith
needs_last memory_map (k ∷ gs) g = let r = needs_last memory_map gs g in omega (arith, r)

needs_without : (memory_map : MemoryMap) (gs : List Group) (number : ℕ) → has_view gs number ≡ true → needs memory_map (without gs number) + frames_of memory_map (group_of gs number) ≡ needs memory_map gs
unfolding needs without has_view group_of
needs_without memory_map [] number h = absurd cc
needs_without memory_map (g ∷ gs) number h = by_test (g.number == number) h (λ q. needs_without memory_map gs number q)
  where
    by_test : (b : Bool) → (b || has_view gs number) ≡ true → (has_view gs number ≡ true → needs memory_map (without gs number) + frames_of memory_map (group_of gs number) ≡ needs memory_map gs) → needs memory_map (if b then gs else g ∷ without gs number) + frames_of memory_map (if b then g else group_of gs number) ≡ frames_of memory_map g + needs memory_map gs
    by_test true q more = omega arith
    by_test false q more = let r = more q in omega (arith, r)

pub free_outside : (u new : World) → new ≡ but_outside u new → free new ≡ free u
free_outside u new e = by_pages u.memory_map.is_paged refl (ap free e)
  where
    by_pages : (b : Bool) → u.memory_map.is_paged ≡ b → free new ≡ free (if u.memory_map.is_paged then record u { outside = new.outside } else u) → free new ≡ free u
    by_pages true p f = f ∙ ap (λ b. free (if b then record u { outside = new.outside } else u)) p
    by_pages false p f = f ∙ ap (λ b. free (if b then record u { outside = new.outside } else u)) p

-- a start takes its need
pub start_takes : (w new : World) (number place slot : ℕ) (fresh : Bool) → w.memory_map.is_paged ≡ true → start_need w.memory_map place slot ≤ free w → new ≡ but_outside (started w number place slot fresh) new → free new + start_need w.memory_map place slot ≡ free w
unfolding started
start_takes w new number place slot fresh p enough e =
    let f = free_outside (started w number place slot fresh) new e in
    let u = ap (λ b. free (if b then paged_start w number place slot else shared_start w number place slot fresh)) p in
    let n = needs_last w.memory_map w.groups (started_group w.memory_map number place slot) in
    omega (arith, f, u, n, enough)

-- an end gives back what the group had
pub end_gives : (w new : World) (number : ℕ) → IsWorld w → has_view w.groups number ≡ true → new ≡ but_outside (finished w number) new → free new ≡ free w + frames_of w.memory_map (group_of w.groups number)
unfolding finished
end_gives w new number h v e =
    let f = free_outside (finished w number) new e in
    let n = needs_without w.memory_map w.groups number v in
    let k = h.enough in
    omega (arith, f, n, k)

-- a physical address in a page of a group
record IsIn (role : ℕ → Role) (g to : ℕ) : Type 0 where
  frame : ℕ
  page : ℕ
  role_is : role frame ≡ Leaf g page
  address : (ram_start + 4096 * frame ≤ to) × (to < ram_start + 4096 * frame + 4096)

walked_in : (ram : List ℕ) (role : ℕ → Role) (g : ℕ) (m : Maps) (at to : ℕ) (access : Access) → Stands ram role g m → at < 4294967296 → walk ram (satp_of m.root) at access ≡ Some to → IsIn role g to
walked_in ram role g m at to access s small e = by_page (m.pages (at / 4096)) refl (sym (walk_mapped ram role g m at access s small) ∙ e)
  where
    by_right : (b : Bool) (p : Page) → m.pages (at / 4096) ≡ Some p → (if b then Some (ram_start + (4096 * p.frame + at % 4096)) else None) ≡ Some to → IsIn role g to
    by_right true p q f = let to_is : ram_start + (4096 * p.frame + at % 4096) ≡ to = cc in record { frame = p.frame; page = at / 4096; role_is = s.owns.pages (at / 4096) p q; address = (omega (arith, to_is), omega (arith, to_is)) }
    by_right false p q f = absurd cc

    by_page : (o : Option Page) → m.pages (at / 4096) ≡ o → translated o at access ≡ Some to → IsIn role g to
    by_page None q f = absurd cc
    by_page (Some p) q f = by_right (lets p.writes access) p q f

-- no physical address is in two groups' pages
pub none_shared : (s : Paging) (g h at other to : ℕ) (access second : Access) → IsPaged s → has_tenant s.tenants g ≡ true → has_tenant s.tenants h ≡ true → g ≢ h → at < 4294967296 → other < 4294967296 → walk s.ram (satp_of (root_of s.tenants g)) at access ≡ Some to → walk s.ram (satp_of (root_of s.tenants h)) other second ≢ Some to
none_shared s g h at other to access second p a b ne low high e f =
    let x = find_tenant (IsLive s.ram s.stock (paged_plan s) p.role) s.tenants g p.live a in
    let y = find_tenant (IsLive s.ram s.stock (paged_plan s) p.role) s.tenants h p.live b in
    let i = walked_in s.ram p.role x.tenant.number x.ok.maps at to access x.ok.stands low (ap (λ r. walk s.ram (satp_of r) at access) (x.ok.root ∙ sym x.root_is) ∙ e) in
    let j = walked_in s.ram p.role y.tenant.number y.ok.maps other to second y.ok.stands high (ap (λ r. walk s.ram (satp_of r) other second) (y.ok.root ∙ sym y.root_is) ∙ f) in
    let k = i.address in
    let l = j.address in
    let same = same_page p.role x.tenant.number y.tenant.number i.page j.page i.frame j.frame i.role_is j.role_is (omega (arith, k.0, k.1, l.0, l.1)) in
    ne (sym x.number_is ∙ same.0 ∙ y.number_is)
