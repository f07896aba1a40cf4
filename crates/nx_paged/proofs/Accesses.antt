-- What an access of the entered view reads.
use Rattle.std.proofs.Common.{◌≡◌, ℕ, ◌+◌, ◌-◌, ◌*◌, ◌/◌, ◌%◌, ◌<◌, ◌≤◌, Bool, Option, Some, None, List, [], length, map, refl, sym, ap, ◌∙◌, subst, arith, ⊎_elim, zero-add}
use Rattle.std.specs.Prelude.{slice_index_or, Ok, Err}
use Rattle.nx_base.specs.ByteLists.{get_bytes}
use Rattle.nx_base.specs.declared.access.Access.{Access}
use Rattle.nx_base.specs.declared.access.Access.TheVariants.{Fetch, Load, Store}
use Rattle.nx_ram.specs.Widths.{IsWidth}
use Rattle.nx_sv32.specs.Walk.{ram_start, walk, or_fault}
use Rattle.nx_sv32.specs.declared.sv32.PageFault.{PageFault}
use Rattle.nx_tables.specs.Maps.{satp_of, lets}
use Rattle.nx_tables.specs.Roles.{Role}
use Rattle.nx_tables.specs.ViewBytes.{seen}
use Rattle.nx_space.specs.World.{Part, IsEntered, group_in, seen_by}
use Rattle.nx_space.specs.Places.{place_in}
use Rattle.nx_space.proofs.Windows.{bytes_at}
use Rattle.nx_paged.specs.Tenants.{root_of}
use Rattle.nx_paged.specs.Spans.{Span, part_of, span_bytes, spans_of}
use Rattle.nx_paged.specs.Paging.{Paging, paged_plan, paged_world, IsLive, IsPaged}
use Rattle.nx_paged.specs.Finding.{tenant_view, Found, find_tenant}
use Rattle.nx_paged.proofs.Hits.{Resolves, resolved, refused, bytes_seen}

-- what windows let be done is what pages let be done
pub runs_fetch : (k : ℕ) (s : Span) → (part_of k s).runs ≡ lets s.writes Fetch
runs_fetch k s = refl

pub reads_load : (k : ℕ) (s : Span) → (part_of k s).reads ≡ lets s.writes Load
reads_load k s = refl

pub writes_store : (k : ℕ) (s : Span) → (part_of k s).writes ≡ lets s.writes Store
writes_store k s = refl

-- an access that lies in one page
pub record InPage (at n : ℕ) : Type 0 where
  pub small : at < 4294967296
  pub fit : at % 4096 + n ≤ 4096
  pub one : 1 ≤ n

pub in_page : (at n : ℕ) → at < 4294967296 → IsWidth n → at % n ≡ 0 → InPage at n
in_page at n small w a = ⊎_elim (λ e. record { small = small; fit = omega (arith, e); one = omega (arith, e) }) (λ r. ⊎_elim
    (λ e. let b : at % 2 ≡ 0 = subst (λ k. at % k ≡ 0) e a in record { small = small; fit = omega (arith, e, b); one = omega (arith, e) })
    (λ e. let b : at % 4 ≡ 0 = subst (λ k. at % k ≡ 0) e a in record { small = small; fit = omega (arith, e, b); one = omega (arith, e) }) r) w

pub one_byte : (at : ℕ) → at < 4294967296 → InPage at 1
one_byte at small = record { small = small; fit = omega arith; one = omega arith }

-- the entered group
pub entered_tenant : (s : Paging) (p : IsPaged s) → IsEntered (paged_world s) → Found (IsLive s.ram s.stock (paged_plan s) p.role) s.tenants s.entered
entered_tenant s p v = find_tenant (IsLive s.ram s.stock (paged_plan s) p.role) s.tenants s.entered p.live (sym (tenant_view s.ram (paged_plan s) s.tenants s.entered) ∙ v)

-- the walk from the entered root
abbrev pub walked : Paging → ℕ → Access → Option ℕ
walked s at access = walk s.ram (satp_of (root_of s.tenants s.entered)) at access

root_same : (s : Paging) (role : ℕ → Role) (f : Found (IsLive s.ram s.stock (paged_plan s) role) s.tenants s.entered) → root_of s.tenants s.entered ≡ f.ok.maps.root
root_same s role f = f.root_is ∙ sym f.ok.root

pub entered_walk : (s : Paging) (role : ℕ → Role) (f : Found (IsLive s.ram s.stock (paged_plan s) role) s.tenants s.entered) (at : ℕ) (access : Access) → walk s.ram (satp_of f.ok.maps.root) at access ≡ walked s at access
entered_walk s role f at access = ap (λ r. walk s.ram (satp_of r) at access) (sym (root_same s role f))

pub entered_resolved : (s : Paging) (role : ℕ → Role) (f : Found (IsLive s.ram s.stock (paged_plan s) role) s.tenants s.entered) (may : Part → Bool) (access : Access) (at n to : ℕ) → ((k : ℕ) (x : Span) → may (part_of k x) ≡ lets x.writes access) → InPage at n → walked s at access ≡ Some to → Resolves f.ok.maps (spans_of (paged_plan s) f.tenant.program f.tenant.slots) may at n to
entered_resolved s role f may access at n to agree i e =
    resolved s.ram role f.tenant.number f.ok.maps (spans_of (paged_plan s) f.tenant.program f.tenant.slots) may access at n to f.ok.stands f.ok.shows agree i.small i.fit i.one (entered_walk s role f at access ∙ e)

-- the place of the windows where the walk is a fault, and where it is none
pub entered_refused : (s : Paging) (p : IsPaged s) (may : Part → Bool) (access : Access) (at n : ℕ) → IsEntered (paged_world s) → ((k : ℕ) (x : Span) → may (part_of k x) ≡ lets x.writes access) → InPage at n → walked s at access ≡ None → place_in may (group_in (paged_world s)).parts at n ≡ None
entered_refused s p may access at n v agree i e =
    let f = entered_tenant s p v in
    ap (λ g. place_in may g.parts at n) (f.group_is s.ram (paged_plan s))
    ∙ refused s.ram p.role f.tenant.number f.ok.maps (spans_of (paged_plan s) f.tenant.program f.tenant.slots) may access at n f.ok.stands f.ok.shows agree i.small i.fit i.one (entered_walk s p.role f at access ∙ e)

-- the own bytes that a hit names
pub hit_bytes : (s : Paging) (role : ℕ → Role) (f : Found (IsLive s.ram s.stock (paged_plan s) role) s.tenants s.entered) (may : Part → Bool) (at n to : ℕ) (r : Resolves f.ok.maps (spans_of (paged_plan s) f.tenant.program f.tenant.slots) may at n to) → slice_index_or (map (span_bytes s.ram f.tenant.root) (spans_of (paged_plan s) f.tenant.program f.tenant.slots)) r.hit.index [] ≡ seen s.ram (satp_of f.ok.maps.root) r.hit.span.start r.hit.span.bytes
hit_bytes s role f may at n to r =
    let spans = spans_of (paged_plan s) f.tenant.program f.tenant.slots in
    let i = r.is in
    let place_is : i.place ≡ r.hit.index = omega (arith, i.index) in
    ap (λ x. slice_index_or (map (span_bytes s.ram f.tenant.root) spans) x []) (sym place_is) ∙ i.own (span_bytes s.ram f.tenant.root) ∙ ap (λ x. seen s.ram (satp_of x) r.hit.span.start r.hit.span.bytes) (sym f.ok.root)

pub bytes_found : (s : Paging) (p : IsPaged s) (may : Part → Bool) (access : Access) (at n to : ℕ) → IsEntered (paged_world s) → ((k : ℕ) (x : Span) → may (part_of k x) ≡ lets x.writes access) → InPage at n → walked s at access ≡ Some to → bytes_at (seen_by (paged_world s) s.entered) (place_in may (group_in (paged_world s)).parts at n) n ≡ Some (get_bytes s.ram (to - ram_start) n)
bytes_found s p may access at n to v agree i e =
    let f = entered_tenant s p v in
    let r = entered_resolved s p.role f may access at n to agree i e in
    let h = r.is in
    let fine = h.fine in
    let group = f.group_is s.ram (paged_plan s) in
    let t : to - ram_start ≡ 4096 * r.page.page.frame + at % 4096 = omega (arith, r.address) in
    let j : 0 + (at - r.hit.span.start) ≡ at - r.hit.span.start = zero-add (at - r.hit.span.start) in
    let start = fine.start in
    let size = fine.bytes in
    let bytes : get_bytes (seen s.ram (satp_of f.ok.maps.root) r.hit.span.start r.hit.span.bytes) (at - r.hit.span.start) n ≡ get_bytes s.ram (4096 * r.page.page.frame + at % 4096) n =
    bytes_seen s.ram p.role f.tenant.number f.ok.maps r.hit.span.start r.hit.span.bytes r.hit.span.writes (at - r.hit.span.start) at n f.ok.stands h.mapped fine.top (omega (arith, h.low)) (omega (arith, h.low, h.high, i.fit, start, size)) r.page i.fit
    in
    ap (λ g. bytes_at (seen_by (paged_world s) s.entered) (place_in may g.parts at n) n) group
    ∙ ap (λ o. bytes_at (seen_by (paged_world s) s.entered) o n) r.place
    ∙ ap (λ g. Some (get_bytes (slice_index_or g.own r.hit.index []) (0 + (at - r.hit.span.start)) n)) group
    ∙ ap (λ bs. Some (get_bytes bs (0 + (at - r.hit.span.start)) n)) (hit_bytes s p.role f may at n to r)
    ∙ ap (λ x. Some (get_bytes (seen s.ram (satp_of f.ok.maps.root) r.hit.span.start r.hit.span.bytes) x n)) j
    ∙ ap Some bytes
    ∙ ap (λ x. Some (get_bytes s.ram x n)) (sym t)

-- a physical address with the n bytes from it on in the RAM
pub record IsInside (ram : List ℕ) (n to : ℕ) : Type 0 where
  pub low : ram_start ≤ to
  pub high : to - ram_start + n ≤ length ram

pub is_inside : (s : Paging) (p : IsPaged s) (may : Part → Bool) (access : Access) (at n to : ℕ) → IsEntered (paged_world s) → ((k : ℕ) (x : Span) → may (part_of k x) ≡ lets x.writes access) → InPage at n → walked s at access ≡ Some to → IsInside s.ram n to
is_inside s p may access at n to v agree i e =
    let f = entered_tenant s p v in
    let r = entered_resolved s p.role f may access at n to agree i e in
    let within = f.ok.stands.lie.pages (at / 4096) r.page.page r.page.mapped in
    record { low = omega (arith, r.address); high = omega (arith, r.address, within, i.fit) }

-- what the code's answer says of the walk
pub walk_is : (o : Option ℕ) (to : ℕ) → Ok to ≡ or_fault o → o ≡ Some to
walk_is None to e = absurd cc
walk_is (Some x) to e = cc

pub walk_is_none : (o : Option ℕ) (fault : PageFault) → Err fault ≡ or_fault o → o ≡ None
walk_is_none None fault e = refl
walk_is_none (Some x) fault e = absurd cc
