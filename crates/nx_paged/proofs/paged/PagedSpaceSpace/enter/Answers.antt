use Rattle.std.proofs.Common.{◌∙◌, ◌<◌, ap, subst, sym}
use Rattle.nx_paged.specs.Tenants.{root_of}
use Rattle.nx_paged.specs.State.{state_of}
use Rattle.nx_paged.proofs.Ends.{root_low, entered_placed, entered_paged}
use Rattle.nx_paged.proofs.paged.PagedSpaceSpace.enter.Goals as goal

pub invariant_of-self : goal.invariant_of-self
invariant_of-self c =
    let s = c.args.self.now in
    let is = c.root_of-self.ensures ∙ ap (λ ts. root_of ts c.args.group) c.deref.ensures.value in
    record { placed = entered_placed (state_of s) c.args.group s.placed; paged = entered_paged (state_of s) c.args.group s.paged; root_is = is; root_low = subst (λ r. r < 524288) (sym is) (root_low (state_of s) c.args.group s.placed s.paged); room = s.room }
