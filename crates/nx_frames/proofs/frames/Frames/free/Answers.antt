use Rattle.std.proofs.Common.{length, sym, ap, ◌∙◌}
use Rattle.nx_frames.specs.Stock.{Stock}
use Rattle.nx_frames.proofs.Chains.{length-chain}
use Rattle.nx_frames.proofs.frames.Frames.free.Goals as goal

pub returns : goal.returns
returns c =
    let i = c.self.inside in
    sym (length-chain i.first i.next.items i.head i.free) ∙ ap (λ (s : Stock). length s.free) c.self.view_is
