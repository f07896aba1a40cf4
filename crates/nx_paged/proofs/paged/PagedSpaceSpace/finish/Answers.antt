use Rattle.std.proofs.Common.{◌≡◌, ◌∙◌, ◌<◌, ◌++◌, true, List, get_or, ap, subst, sym, arith}
use Rattle.std.specs.List.{remove}
use Rattle.nx_frames.specs.Stock.{Holds, KeepsOthers, frames_of}
use Rattle.nx_space.specs.Starts.{finished, but_outside}
use Rattle.nx_space.specs.World.{World}
use Rattle.nx_paged.specs.Tenants.{Tenant, has_tenant, root_of, place_of}
use Rattle.nx_paged.specs.Paging.{paged_plan, paged_world, IsPlaced, IsPaged}
use Rattle.nx_paged.specs.Finding.{tenant_view}
use Rattle.nx_paged.specs.State.{state_of}
use Rattle.nx_paged.proofs.Ends.{place_inside, root_low, ended_holds, ended_placed, ended_count, ended_paged, ended_world}
use Rattle.nx_paged.proofs.paged.PagedSpaceSpace.finish.Goals as goal

pub remove-requires : goal.remove-requires
remove-requires c =
    let s = c.args.self.now in
    let has : has_tenant s.groups.items c.args.group ≡ true = sym (tenant_view s.ram (paged_plan (state_of s)) s.groups.items c.args.group) ∙ c.requires in
    let at = c.find-at.ensures ∙ ap (λ ts. place_of ts c.args.group) c.deref.ensures.value in
    omega (arith, at, place_inside s.groups.items c.args.group has, s.groups.ok.0)

pub give-requires : goal.give-requires
give-requires c =
    let s = c.args.self.now in
    let has : has_tenant s.groups.items c.args.group ≡ true = sym (tenant_view s.ram (paged_plan (state_of s)) s.groups.items c.args.group) ∙ c.requires in
    let at = c.find-at.ensures ∙ ap (λ ts. place_of ts c.args.group) c.deref.ensures.value in
    let taken = c.into_taken-taken.ensures ∙ ap (λ t. t.taken) (c.remove.ensures.value ∙ ap (λ i. get_or s.groups.items i c.remove.result) at) in
    subst (Holds s.frames) (sym taken) (ended_holds (state_of s) c.args.group c.remove.result s.paged has)

pub invariant_of-self : goal.invariant_of-self
invariant_of-self c =
    let s = c.args.self.now in
    let d = c.remove.result in
    let has : has_tenant s.groups.items c.args.group ≡ true = sym (tenant_view s.ram (paged_plan (state_of s)) s.groups.items c.args.group) ∙ c.requires in
    let at = c.find-at.ensures ∙ ap (λ ts. place_of ts c.args.group) c.deref.ensures.value in
    let taken = c.into_taken-taken.ensures ∙ ap (λ t. t.taken) (c.remove.ensures.value ∙ ap (λ i. get_or s.groups.items i d) at) in
    let free = c.give.ensures.free ∙ ap (λ t. frames_of s.frames t ++ s.frames.free) taken in
    let keeps = subst (λ t. KeepsOthers s.frames c.give.new.self (frames_of s.frames t)) taken c.give.ensures.others in
    let items = c.remove.ensures.items ∙ ap (remove s.groups.items) at in
    let is = c.root_of-self.ensures ∙ ap (λ ts. root_of ts s.entered) c.deref-2.ensures.value in
    let placed = subst (λ ts. IsPlaced (record (state_of s) { stock = c.give.new.self; tenants = ts })) (sym items) (ended_placed (state_of s) c.give.new.self c.args.group d s.placed c.give.ensures.same has (ended_count (state_of s) c.args.group d s.paged has) free) in
    let paged = subst (λ ts. ∥ IsPaged (record (state_of s) { stock = c.give.new.self; tenants = ts }) ∥₁) (sym items) (ended_paged (state_of s) c.give.new.self c.args.group d s.paged c.give.ensures.same s.placed.distinct has free keeps) in
    record {
      placed = placed;
      paged = paged;
      root_is = is;
      root_low = subst (λ r. r < 524288) (sym is) (root_low (record (state_of s) { stock = c.give.new.self; tenants = c.remove.new.self.items }) s.entered placed paged);
      room = let e = c.remove.ensures.capacity in let r = s.room in omega (arith, e, r);
    }

pub returns : goal.returns
returns c =
    let s = c.args.self.now in
    let has : has_tenant s.groups.items c.args.group ≡ true = sym (tenant_view s.ram (paged_plan (state_of s)) s.groups.items c.args.group) ∙ c.requires in
    let at = c.find-at.ensures ∙ ap (λ ts. place_of ts c.args.group) c.deref.ensures.value in
    let items = c.remove.ensures.items ∙ ap (remove s.groups.items) at in
    let world : List Tenant → World = λ ts. paged_world (record (state_of s) { stock = c.give.new.self; tenants = ts }) in
    subst (λ ts. world ts ≡ but_outside (finished (paged_world (state_of s)) c.args.group) (world ts)) (sym items) (ended_world (state_of s) c.give.new.self c.args.group c.give.ensures.same has)
