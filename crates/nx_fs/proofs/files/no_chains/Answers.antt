use Rattle.std.proofs.Common.{◌∙◌, ◌++◌, ◌∷◌, [], ap}
use Rattle.std.specs.Prelude.{None}
use Rattle.nx_fs.proofs.PlaceLemmas.{one_none_more}
use Rattle.nx_fs.proofs.files.no_chains.Goals as goal

pub loop-preserved : goal.loop-preserved
loop-preserved c = c.in_ok-push.ensures.items ∙ ap (λ q. q ++ None ∷ []) c.loop.invariant ∙ one_none_more c.loop.counter
