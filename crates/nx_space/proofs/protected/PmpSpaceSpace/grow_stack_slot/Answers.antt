use Rattle.std.proofs.Common.{◌-◌, ◌∙◌, [], sym, ap, arith}
use Rattle.nx_space.specs.Starts.{but_outside}
use Rattle.nx_space.specs.Shared.{ram_start, live_view}
use Rattle.nx_space.specs.Protected.{bound, protected_parts, protected_world, protected_shared}
use Rattle.nx_space.proofs.SharedStarts.{shared_grown, no_grow_need, same_thread_regs}
use Rattle.nx_space.proofs.ProtectedLemmas.{protected_straight}
use Rattle.nx_space.proofs.protected.PmpSpaceSpace.grow_stack_slot.Goals as goal

pub grow-requires-clause-group : goal.grow-requires-clause-group
grow-requires-clause-group c = let s = c.args.self.now in sym (live_view (protected_parts s.unit.pmp) s.shared.live c.args.group) ∙ c.requires.group

pub returns-clause-regs : goal.returns-clause-regs
returns-clause-regs c = let s = c.args.self.now in c.grow.ensures.regs ∙ same_thread_regs [] (protected_parts s.unit.pmp) 0 (bound s.unit.pmp 0 - ram_start) s.shared c.args.group c.args.slot

pub returns-clause-grown : goal.returns-clause-grown
returns-clause-grown c =
    let s = c.args.self.now in
    ap (protected_world s.unit.pmp) c.grow.ensures.new ∙ sym (ap (λ w. but_outside w (protected_world s.unit.pmp c.grow.new.self)) (shared_grown (protected_parts s.unit.pmp) (bound s.unit.pmp 0 - ram_start) s.shared _ c.args.group c.args.slot (protected_straight s.unit.pmp s.shared s.protected) (protected_shared s.unit.pmp s.shared s.lawful s.protected) c.requires.group c.requires.slot))

pub returns-clause-enough : goal.returns-clause-enough
returns-clause-enough c = let s = c.args.self.now in omega (arith, no_grow_need (protected_parts s.unit.pmp) (bound s.unit.pmp 0 - ram_start) s.shared c.args.group c.args.slot)
