use Rattle.std.proofs.Common.{ap, ◌∙◌, [], ◌∷◌, ◌++◌, replicate}
use Rattle.std.proofs.lemmas.List.{replicate_more}
use Rattle.nx_env.proofs.environments.no_environments.Goals as goal

pub loop-preserved : goal.loop-preserved
loop-preserved c =
    c.in_ok-push.ensures.items ∙ ap (λ q. q ++ c.in_ok-new.field-0 ∷ []) c.loop.invariant ∙ ap (λ x. replicate c.loop.counter [] ++ x ∷ []) c.in_ok-new.ensures ∙ replicate_more c.loop.counter []
