use Rattle.std.proofs.Common.{◌≡◌, ◌∙◌, ◌++◌, ◌∷◌, [], List, length, true, ap}
use Rattle.nx_space.specs.World.{Group, World, has_view}
use Rattle.nx_space.specs.Starts.{started}
use Rattle.nx_space.proofs.Joins.{started_has_view, started_plan}
use Rattle.nx_paged.specs.State.{world_of}
use Rattle.nx_paged.proofs.Newcomers.{started_group}
use Rattle.nx_paged.proofs.tests.running.Goals as goal

pub enter-requires : goal.enter-requires
enter-requires c = started_has_view _ _ 7 0 0 true c.in-Ok.ensures.started

pub returns-clause-view : goal.returns-clause-view
returns-clause-view c = ap (λ w. has_view w.groups 7) c.enter.ensures ∙ started_has_view _ _ 7 0 0 true c.in-Ok.ensures.started

pub returns-clause-none : goal.returns-clause-none
unfolding has_view started
returns-clause-none c =
    let g : Group = started_group (world_of c.args.space).memory_map 7 0 0 in
    ap (λ w. has_view w.groups 8) c.enter.ensures
    ∙ ap (λ w. has_view w.groups 8) c.in-Ok.ensures.started
    ∙ ap (λ gs. has_view (gs ++ g ∷ []) 8) c.requires.groups

pub returns-clause-one : goal.returns-clause-one
unfolding started
returns-clause-one c =
    let g : Group = started_group (world_of c.args.space).memory_map 7 0 0 in
    ap (λ w. length w.groups) c.enter.ensures
    ∙ ap (λ w. length w.groups) c.in-Ok.ensures.started
    ∙ ap {A = List Group} (λ gs. length (gs ++ g ∷ [])) c.requires.groups

pub returns-clause-threads : goal.returns-clause-threads
returns-clause-threads c = ap (λ w. w.memory_map.threads) c.enter.ensures ∙ ap (λ p. p.threads) (started_plan _ _ 7 0 0 true c.in-Ok.ensures.started) ∙ c.requires.threads

pub returns-clause-programs : goal.returns-clause-programs
returns-clause-programs c = ap (λ w. length w.memory_map.programs) c.enter.ensures ∙ ap (λ p. length p.programs) (started_plan _ _ 7 0 0 true c.in-Ok.ensures.started) ∙ c.requires.programs
