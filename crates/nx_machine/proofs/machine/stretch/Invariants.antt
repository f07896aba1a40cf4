use Rattle.std.proofs.Common.{◌≡◌, ◌-◌, ◌≤◌}
use Rattle.nx_rv.specs.Execution.{stretch}
use Rattle.nx_space.specs.World.{view_in, IsEntered}
use Rattle.nx_space.specs.Lawful.{OnlyEntered}
use Rattle.nx_machine.proofs.machine.stretch.Given as goal

-- what is left gives what all gives
abbrev pub invariant-loop-regs : goal.invariant-loop-regs
invariant-loop-regs g l =
    let world = g.S.Space.world in
    record {
      entered : IsEntered (world l.space);
      later : l.fn.count.used ≤ l.count.used;
      within : l.fn.count.used ≤ l.fn.count.limit → l.count.used ≤ l.count.limit;
      limit : l.count.limit ≡ l.fn.count.limit;
      rest : stretch (l.count.limit - l.count.used) l.regs (view_in (world l.space)) ≡ stretch (l.fn.count.limit - l.fn.count.used) l.fn.regs (view_in (world l.fn.space));
      only : OnlyEntered (world l.fn.space) (world l.space);
    }

abbrev pub decreases-loop-regs : goal.decreases-loop-regs
decreases-loop-regs g l = l.count.limit - l.count.used
