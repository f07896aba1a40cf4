use Rattle.std.proofs.Common.{◌-◌, ◌∙◌, sym, ap}
use Rattle.nx_space.specs.Starts.{but_outside}
use Rattle.nx_space.specs.Shared.{ram_start, live_view}
use Rattle.nx_space.specs.Protected.{bound, protected_parts, protected_world}
use Rattle.nx_space.proofs.SharedStarts.{shared_finished}
use Rattle.nx_space.proofs.protected.PmpSpaceSpace.finish.Goals as goal

pub finish-requires : goal.finish-requires
finish-requires c = let s = c.args.self.now in sym (live_view (protected_parts s.unit.pmp) s.shared.live c.args.group) ∙ c.requires

pub returns : goal.returns
returns c =
    let s = c.args.self.now in
    let live = sym (live_view (protected_parts s.unit.pmp) s.shared.live c.args.group) ∙ c.requires in
    ap (protected_world s.unit.pmp) c.finish.ensures.new ∙ sym (ap (λ w. but_outside w (protected_world s.unit.pmp c.finish.new.self)) (shared_finished (protected_parts s.unit.pmp) (bound s.unit.pmp 0 - ram_start) s.shared c.args.group live))
