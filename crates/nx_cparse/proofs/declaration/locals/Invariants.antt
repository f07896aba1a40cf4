use Rattle.std.proofs.Common.{◌≡◌, ◌≤◌, length}
use Rattle.nx_cparse.specs.Commas.{others, commas}
use Rattle.nx_cstmt.specs.Reading.{part_pick}
use Rattle.nx_cparse.specs.Reading.{item_at}
use Rattle.nx_cparse.proofs.declaration.locals.Given as goal

abbrev pub invariant-loop-others : goal.invariant-loop-others
invariant-loop-others g l = record {
  same : others (item_at part_pick l.depth) l.items l.rest ≡ commas (item_at part_pick l.depth) l.tokens;
  fewer : length l.rest ≤ length l.tokens;
}

abbrev pub decreases-loop-others : goal.decreases-loop-others
decreases-loop-others g l = length l.rest
