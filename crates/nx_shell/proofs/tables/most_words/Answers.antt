use Rattle.std.proofs.Common.{arith}
use Rattle.nx_shell.proofs.TablePlaces.{rooms_more, rooms_all}
use Rattle.nx_shell.proofs.tables.most_words.Goals as goal
use Rattle.nx_shell.proofs.tables.most_words.Goals.{then-most-count, else-most-count}

pub loop-node-preserved : goal.loop-node-preserved
loop-node-preserved c = elim c.if-most-count.branch [
  | then-most-count w ↦ rooms_more c.args.nodes.now c.loop-node.node-index c.loop-node.most c.if-most-count.most c.node-item.result c.loop-node-test.true c.node-item.is c.loop-node.invariant
      (omega (arith, w.most-is, w.if-most-count.true)) (λ n e. omega (arith, w.most-is, c.in_ok-count.ensures n e))
  | else-most-count w ↦ rooms_more c.args.nodes.now c.loop-node.node-index c.loop-node.most c.if-most-count.most c.node-item.result c.loop-node-test.true c.node-item.is c.loop-node.invariant
      (omega (arith, w.most-is)) (λ n e. omega (arith, w.most-is, w.if-most-count.false, c.in_ok-count.ensures n e))
]

pub returns : goal.returns
returns c = rooms_all c.args.nodes.now c.loop-node.node-index c.loop-node.most c.loop-node-test.false c.loop-node.invariant
