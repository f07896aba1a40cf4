use Rattle.std.proofs.Common.{arith}
use Rattle.nx_shtok.proofs.Progress.{reached_first, reached_next, newlines_few}
use Rattle.nx_shtok.proofs.tokenize.read_tokens.Goals as goal

pub loop-alloc-init : goal.loop-alloc-init
loop-alloc-init c = reached_first c.args.bytes.now c.new-reader.result c.new-reader.ensures.0 c.new-reader.ensures.1

pub take-requires-clause-lines : goal.take-requires-clause-lines
take-requires-clause-lines c = omega (arith, newlines_few c.args.bytes.now)

pub loop-alloc-preserved : goal.loop-alloc-preserved
loop-alloc-preserved c = reached_next c.args.bytes.now c.loop-alloc.reader c.take.new.self c.loop-alloc.rest.now c.in-Ok.after.now c.loop-alloc.invariant c.in-Ok.ensures.ok
