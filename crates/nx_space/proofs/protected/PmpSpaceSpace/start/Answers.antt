use Rattle.std.proofs.Common.{◌-◌, ◌∙◌, [], sym, ap, arith}
use Rattle.nx_space.specs.Starts.{but_outside}
use Rattle.nx_space.specs.Shared.{ram_start, live_view}
use Rattle.nx_space.specs.Protected.{bound, protected_parts, protected_world, protected_shared}
use Rattle.nx_space.proofs.SharedStarts.{shared_started, no_start_need, same_start_regs}
use Rattle.nx_space.proofs.ProtectedLemmas.{protected_straight}
use Rattle.nx_space.proofs.protected.PmpSpaceSpace.start.Goals as goal

pub start-requires-clause-new : goal.start-requires-clause-new
start-requires-clause-new c = let s = c.args.self.now in sym (live_view (protected_parts s.unit.pmp) s.shared.live c.args.group) ∙ c.requires.new

pub returns-clause-regs : goal.returns-clause-regs
returns-clause-regs c = let s = c.args.self.now in c.start.ensures.regs ∙ same_start_regs [] (protected_parts s.unit.pmp) 0 (bound s.unit.pmp 0 - ram_start) s.shared c.args.prog c.args.slot

pub returns-clause-started : goal.returns-clause-started
returns-clause-started c =
    let s = c.args.self.now in
    ap (protected_world s.unit.pmp) c.start.ensures.new ∙ sym (ap (λ w. but_outside w (protected_world s.unit.pmp c.start.new.self)) (shared_started (protected_parts s.unit.pmp) (bound s.unit.pmp 0 - ram_start) s.shared _ c.args.group c.args.prog c.args.slot c.args.fresh (protected_straight s.unit.pmp s.shared s.protected) (protected_shared s.unit.pmp s.shared s.lawful s.protected) c.requires.prog c.requires.slot))

pub returns-clause-enough : goal.returns-clause-enough
returns-clause-enough c = let s = c.args.self.now in omega (arith, no_start_need (protected_parts s.unit.pmp) (bound s.unit.pmp 0 - ram_start) s.shared c.args.prog c.args.slot)
