use Rattle.std.proofs.Common.{◌≡◌, ◌∙◌, true, ap}
use Rattle.nx_space.specs.World.{has_view}
use Rattle.nx_space.proofs.Joins.{started_has_view, started_plan}
use Rattle.nx_space.proofs.tests.running.Goals as goal

pub enter-requires : goal.enter-requires
enter-requires c = started_has_view _ _ 7 0 0 true c.in-Ok.ensures.started

pub returns-clause-view : goal.returns-clause-view
returns-clause-view c = ap (λ w. has_view w.groups 7) c.enter.ensures ∙ started_has_view _ _ 7 0 0 true c.in-Ok.ensures.started

pub returns-clause-threads : goal.returns-clause-threads
returns-clause-threads c = ap (λ w. w.memory_map.threads) c.enter.ensures ∙ ap (λ p. p.threads) (started_plan _ _ 7 0 0 true c.in-Ok.ensures.started) ∙ c.in_ok-space.ensures.threads
