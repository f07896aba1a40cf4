use Rattle.std.proofs.Common.{◌∙◌, sym, ap, arith}
use Rattle.nx_space.specs.Shared.{has_live, place_of}
use Rattle.nx_space.proofs.Sharings.{kept_finish, live_inside}
use Rattle.nx_space.proofs.shared.SharedRam.finish.Goals as goal

pub remove-requires : goal.remove-requires
remove-requires c =
    let f = c.self.inside in
    let there = ap (λ s. has_live s.live c.args.group) c.self.view_is ∙ c.requires in
    let at = c.find-at.ensures ∙ ap (λ l. place_of l c.args.group) c.deref.ensures.value in
    omega (arith, at, live_inside f.live.items c.args.group there, f.live.ok.0)

pub invariant_of-self : goal.invariant_of-self
invariant_of-self c =
    let f = c.self.inside in
    let there = ap (λ s. has_live s.live c.args.group) c.self.view_is ∙ c.requires in
    let at = c.find-at.ensures ∙ ap (λ l. place_of l c.args.group) c.deref.ensures.value in
    (kept_finish _ c.remove.new.self.items c.find-at.result c.self.invariant.0 (omega (arith, at, live_inside f.live.items c.args.group there)) c.remove.ensures.items, omega (arith, c.remove.ensures.capacity, c.self.invariant.1))

pub returns-clause-kept : goal.returns-clause-kept
returns-clause-kept c = (invariant_of-self c).0
