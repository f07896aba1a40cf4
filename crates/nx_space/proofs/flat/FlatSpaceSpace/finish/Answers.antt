use Rattle.std.proofs.Common.{◌∙◌, [], ◌∷◌, sym, ap}
use Rattle.nx_space.specs.Starts.{but_outside}
use Rattle.nx_space.specs.Shared.{live_view}
use Rattle.nx_space.specs.Flat.{flat_part, flat_world}
use Rattle.nx_space.proofs.SharedStarts.{shared_finished}
use Rattle.nx_space.proofs.flat.FlatSpaceSpace.finish.Goals as goal

pub finish-requires : goal.finish-requires
finish-requires c = let s = c.args.self.now in sym (live_view (flat_part s.shared.size ∷ []) s.shared.live c.args.group) ∙ c.requires

pub returns : goal.returns
returns c =
    let s = c.args.self.now in
    let live = sym (live_view (flat_part s.shared.size ∷ []) s.shared.live c.args.group) ∙ c.requires in
    ap flat_world c.finish.ensures.new ∙ sym (ap (λ w. but_outside w (flat_world c.finish.new.self)) (shared_finished (flat_part s.shared.size ∷ []) 0 s.shared c.args.group live))
