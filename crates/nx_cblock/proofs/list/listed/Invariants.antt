use Rattle.std.proofs.Common.{◌≡◌, ◌≤◌, length}
use Rattle.nx_grammar.specs.Reading.{loop}
use Rattle.nx_ctree.specs.declared.sign.Sign.TheVariants.{CloseBrace}
use Rattle.nx_cexpr.specs.Signs.{is_sign}
use Rattle.nx_cstmt.specs.Lists.{more_pick}
use Rattle.nx_cstmt.specs.Reading.{part_pick, stmt_pick, stmts_at}
use Rattle.nx_cblock.proofs.list.listed.Given as goal

abbrev pub invariant-loop-items : goal.invariant-loop-items
invariant-loop-items g l = record {
  same : loop (more_pick (is_sign CloseBrace) (stmt_pick part_pick l.depth l.in_loop)) l.items l.rest ≡ stmts_at (stmt_pick part_pick l.depth l.in_loop) l.tokens;
  fewer : length l.rest ≤ length l.tokens;
}

abbrev pub decreases-loop-items : goal.decreases-loop-items
decreases-loop-items g l = length l.rest
