use Rattle.std.proofs.Common.{ℕ, List, map, ap, ◌∙◌}
use denote.Ref.{Bor}
use Rattle.nx_top.specs.CommandLine.{command_of}
use Rattle.nx_top.proofs.Following.{all_read, stopped_at}
use Rattle.nx_top.proofs.top.follow.Goals as goal

pub returns-in-Ok : goal.returns-in-Ok
returns-in-Ok g c =
    all_read c.examine.result (command_of c.args.command.now) c.stops_at_long.result _ _ c.as_slice-in-Ok.result.now _ _ _ _
    (ap (map (λ (n : Bor (List ℕ)). n.now)) c.as_slice.ensures.value ∙ c.in_ok-names.ensures) c.stops_at_long.ensures c.as_slice-in-Ok.ensures.value c.in-Ok.ensures.read c.examine.ensures

pub returns : goal.returns
returns g c =
    stopped_at c.stopped.result (command_of c.args.command.now) c.stops_at_long.result _ c.in-Err.stop.why c.in-Err.stop.name.now _ _ _ _
    (ap (map (λ (n : Bor (List ℕ)). n.now)) c.as_slice.ensures.value ∙ c.in_ok-names.ensures) c.stops_at_long.ensures c.in-Err.ensures.stops c.stopped.ensures
