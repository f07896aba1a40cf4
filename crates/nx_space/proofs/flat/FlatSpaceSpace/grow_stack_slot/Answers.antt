use Rattle.std.proofs.Common.{◌∙◌, [], ◌∷◌, sym, ap, arith, map}
use Rattle.nx_space.specs.Starts.{but_outside}
use Rattle.nx_space.specs.Shared.{live_view}
use Rattle.nx_space.specs.Flat.{flat_part, flat_world, flat_shared}
use Rattle.nx_space.proofs.SharedStarts.{shared_grown, no_grow_need, same_thread_regs}
use Rattle.nx_space.proofs.FlatLemmas.{flat_straight}
use Rattle.nx_space.proofs.flat.FlatSpaceSpace.grow_stack_slot.Goals as goal

pub grow-requires-clause-group : goal.grow-requires-clause-group
grow-requires-clause-group c = let s = c.args.self.now in sym (live_view (flat_part s.shared.size ∷ []) s.shared.live c.args.group) ∙ c.requires.group

pub returns-clause-regs : goal.returns-clause-regs
returns-clause-regs c = let s = c.args.self.now in c.grow.ensures.regs ∙ same_thread_regs [] (flat_part s.shared.size ∷ []) 0 0 s.shared c.args.group c.args.slot

pub returns-clause-grown : goal.returns-clause-grown
returns-clause-grown c =
    let s = c.args.self.now in
    ap flat_world c.grow.ensures.new ∙ sym (ap (λ w. but_outside w (flat_world c.grow.new.self)) (shared_grown (flat_part s.shared.size ∷ []) 0 s.shared _ c.args.group c.args.slot (flat_straight s.shared.size) (flat_shared s.shared s.lawful) c.requires.group c.requires.slot))

pub returns-clause-enough : goal.returns-clause-enough
returns-clause-enough c = let s = c.args.self.now in omega (arith, no_grow_need (flat_part s.shared.size ∷ []) 0 s.shared c.args.group c.args.slot)
