use Rattle.std.proofs.Common.{◌≡◌, ◌≤◌, length, []}
use Rattle.nx_grammar.specs.Reading.{loop}
use Rattle.nx_ctree.specs.declared.sign.Sign.TheVariants as sign
use Rattle.nx_cexpr.specs.Signs.{is_sign}
use Rattle.nx_cstmt.specs.Lists.{more_pick}
use Rattle.nx_cstmt.specs.Reading.{part_pick}
use Rattle.nx_cparse.specs.Reading.{external_pick}
use Rattle.nx_cparse.proofs.external.externals.Given as goal

abbrev pub invariant-loop-alloc : goal.invariant-loop-alloc
invariant-loop-alloc g l = record {
  same : loop (more_pick (is_sign sign.End) (external_pick part_pick l.depth)) l.items l.rest ≡ loop (more_pick (is_sign sign.End) (external_pick part_pick l.depth)) [] l.tokens;
  fewer : length l.rest ≤ length l.tokens;
}

abbrev pub decreases-loop-alloc : goal.decreases-loop-alloc
decreases-loop-alloc g l = length l.rest
