use Rattle.std.proofs.Common.{ap, ◌∙◌, [], ◌∷◌, ◌++◌}
use Rattle.std.specs.Prelude.{None}
use Rattle.std.proofs.lemmas.List.{replicate_more}
use Rattle.nx_group.proofs.groups.no_groups.Goals as goal

pub loop-preserved : goal.loop-preserved
loop-preserved c = c.in_ok-push.ensures.items ∙ ap (λ q. q ++ None ∷ []) c.loop.invariant ∙ replicate_more c.loop.counter None
