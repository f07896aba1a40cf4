use Rattle.std.proofs.Common.{◌<◌, length, arith}
use Rattle.nx_shstep.proofs.Lengths.{over_at, over_step, over_end}
use Rattle.nx_shstep.proofs.begin.is_over.Goals as goal

pub returns-then-len-left : goal.returns-then-len-left
returns-then-len-left c = over_at c.args.words.now c.loop-word.word-index c.loop-word.left c.args.room c.word-item.result (omega arith) c.word-item.is (omega arith) c.loop-word.invariant

pub loop-word-preserved : goal.loop-word-preserved
loop-word-preserved c =
    let e : length c.word-item.result < c.loop-word.left = omega arith in
    rw c.len-in-loop-word.ensures (over_step c.args.words.now c.loop-word.word-index c.loop-word.left c.args.room c.word-item.result (omega arith) c.word-item.is e c.loop-word.invariant)

pub returns : goal.returns
returns c = over_end c.args.words.now c.loop-word.word-index c.loop-word.left c.args.room (omega arith) c.loop-word.invariant
