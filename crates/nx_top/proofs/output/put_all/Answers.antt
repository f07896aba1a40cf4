use Rattle.std.proofs.Common.{◌<◌, length, arith}
use Rattle.nx_outside.proofs.Puts.{left_next, left_cut}
use Rattle.nx_top.proofs.Putting.{pieces_left}
use Rattle.nx_top.proofs.output.put_all.Goals as goal

pub returns-in-Err-clause-cut : goal.returns-in-Err-clause-cut
returns-in-Err-clause-cut g c =
    let lt : c.loop-piece.piece-index < length c.args.pieces.now = omega arith in
    record {
      cut = left_cut _ _ _ _ _ _ (pieces_left _ _ _ _ c.piece-item.result _ lt c.piece-item.is c.loop-piece.invariant.left) c.in-Err.ensures.puts;
      rose = omega (arith, c.in-Err.ensures.cause.failed, c.loop-piece.invariant.later);
    }

pub loop-piece-preserved : goal.loop-piece-preserved
loop-piece-preserved g c =
    let lt : c.loop-piece.piece-index < length c.args.pieces.now = omega arith in
    record {
      left = left_next _ _ _ _ _ _ (pieces_left _ _ _ _ c.piece-item.result _ lt c.piece-item.is c.loop-piece.invariant.left) c.in-Ok.ensures.puts;
      later = omega (arith, c.in-Ok.ensures.cause.later, c.loop-piece.invariant.later);
    }
