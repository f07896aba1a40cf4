use Rattle.std.proofs.Common.{◌≡◌, ◌-◌, ◌≤◌}
use Rattle.nx_space.specs.World.{view_in, IsEntered}
use Rattle.nx_top.specs.first.Layout.{fuel}
use Rattle.nx_top.specs.first.ExpectedRuns.{ExpectedRun, Remains, IsExpectedFrom}
use Rattle.nx_top.proofs.first.guest.run_guest.Given as goal

abbrev pub invariant-loop-guest : goal.invariant-loop-guest
invariant-loop-guest g l =
    let view = view_in (g.S.Space.world l.space) in
    record {
      entered : IsEntered (g.S.Space.world l.space);
      limit : l.guest.count.limit ≡ fuel;
      room : l.guest.writes ≤ l.guest.count.used;
      within : l.guest.count.used ≤ l.guest.count.limit;
      planned : (expected_run : ExpectedRun) → IsExpectedFrom expected_run l.fn.regs (view_in (g.S.Space.world l.fn.space)) → Remains expected_run l.guest.machine view l.guest.console l.guest.writes l.guest.count.used;
    }

abbrev pub decreases-loop-guest : goal.decreases-loop-guest
decreases-loop-guest g l = l.guest.count.limit - l.guest.count.used
