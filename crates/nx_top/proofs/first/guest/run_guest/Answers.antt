use Rattle.std.proofs.Common.{Ok, sym, ap, ◌∙◌, subst}
use Rattle.nx_space.specs.World.{view_in}
use Rattle.nx_top.specs.declared.first.guest.CallOutcome.{CallOutcome}
use Rattle.nx_top.specs.declared.first.guest.GuestRun.{GuestRun}
use Rattle.nx_top.specs.first.ExpectedRuns.{IsDone, AfterTurn, IsWithin}
use Rattle.nx_top.proofs.first.guest.run_guest.Goals as goal

pub loop-guest-preserved : goal.loop-guest-preserved
loop-guest-preserved g c =
    let made = c.in_ok-turn.ensures.made (ap Ok c.in-Wrote.is) in
    let new = c.turn.new.self in
    record {
      entered = c.turn.ensures.entered;
      limit = c.turn.ensures.limit ∙ c.loop-guest.invariant.limit;
      room = made.1;
      within = made.2;
      planned = λ expected_run expected.
          let within = subst (IsWithin expected_run) (sym c.loop-guest.invariant.limit) expected.within in
          subst (λ (a : CallOutcome). AfterTurn expected_run a new.machine (view_in (g.S.Space.world c.turn.new.space)) new.console new.writes new.count.used) c.in-Wrote.is (c.in_ok-turn.ensures.planned expected_run within (c.loop-guest.invariant.planned expected_run expected));
    }

pub returns-in-Ended : goal.returns-in-Ended
returns-in-Ended g c = λ expected_run expected.
    let new = c.turn.new.self in
    let within = subst (IsWithin expected_run) (sym c.loop-guest.invariant.limit) expected.within in
    let done = subst (λ (a : CallOutcome). AfterTurn expected_run a new.machine (view_in (g.S.Space.world c.turn.new.space)) new.console new.writes new.count.used) c.in-Ended.is (c.in_ok-turn.ensures.planned expected_run within (c.loop-guest.invariant.planned expected_run expected)) in
    subst (λ (run : GuestRun). IsDone expected_run run.status run.console run.writes run.instructions) (sym c.done.ensures) done
