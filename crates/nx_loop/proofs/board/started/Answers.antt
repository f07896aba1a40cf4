use Rattle.std.proofs.Common.{◌∙◌, true, ap}
use Rattle.nx_space.specs.World.{has_view}
use Rattle.nx_space.proofs.Joins.{started_has_view}
use Rattle.nx_loop.proofs.board.started.Goals as goal

pub enter-requires : goal.enter-requires
enter-requires g c = started_has_view _ _ 1 0 0 true c.in-Ok.ensures.started

pub returns-in-Ok : goal.returns-in-Ok
returns-in-Ok g c =
    ap (λ w. has_view w.groups w.entered) c.enter.ensures
    ∙ started_has_view _ _ 1 0 0 true c.in-Ok.ensures.started
