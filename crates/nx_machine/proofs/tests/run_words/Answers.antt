use Rattle.std.proofs.Common.{◌≡◌, ◌∙◌, false, ap}
use Rattle.nx_space.specs.World.{has_view}
use Rattle.nx_space.proofs.Joins.{started_has_view}
use Rattle.nx_machine.proofs.tests.run_words.Goals as goal

pub enter-requires : goal.enter-requires
enter-requires c = started_has_view _ _ 1 0 0 false c.in-Ok.ensures.started

pub run-stop-requires : goal.run-stop-requires
run-stop-requires c = ap (λ w. has_view w.groups w.entered) c.enter.ensures ∙ started_has_view _ _ 1 0 0 false c.in-Ok.ensures.started
