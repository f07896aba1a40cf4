use Rattle.std.proofs.Common.{◌∙◌, [], ◌∷◌, sym, ap, arith}
use Rattle.nx_space.specs.Starts.{but_outside}
use Rattle.nx_space.specs.Shared.{live_view}
use Rattle.nx_space.specs.Flat.{flat_part, flat_world, flat_shared}
use Rattle.nx_space.proofs.SharedStarts.{shared_started, no_start_need, same_start_regs}
use Rattle.nx_space.proofs.FlatLemmas.{flat_straight}
use Rattle.nx_space.proofs.flat.FlatSpaceSpace.start.Goals as goal

pub start-requires-clause-new : goal.start-requires-clause-new
start-requires-clause-new c = let s = c.args.self.now in sym (live_view (flat_part s.shared.size ∷ []) s.shared.live c.args.group) ∙ c.requires.new

pub returns-clause-regs : goal.returns-clause-regs
returns-clause-regs c = let s = c.args.self.now in c.start.ensures.regs ∙ same_start_regs [] (flat_part s.shared.size ∷ []) 0 0 s.shared c.args.prog c.args.slot

pub returns-clause-started : goal.returns-clause-started
returns-clause-started c =
    let s = c.args.self.now in
    ap flat_world c.start.ensures.new ∙ sym (ap (λ w. but_outside w (flat_world c.start.new.self)) (shared_started (flat_part s.shared.size ∷ []) 0 s.shared _ c.args.group c.args.prog c.args.slot c.args.fresh (flat_straight s.shared.size) (flat_shared s.shared s.lawful) c.requires.prog c.requires.slot))

pub returns-clause-enough : goal.returns-clause-enough
returns-clause-enough c = let s = c.args.self.now in omega (arith, no_start_need (flat_part s.shared.size ∷ []) 0 s.shared c.args.prog c.args.slot)
