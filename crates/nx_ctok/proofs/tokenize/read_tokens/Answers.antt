use Rattle.std.proofs.Common.{arith}
use Rattle.nx_ctok.proofs.Progress.{reached_first, reached_next, newlines_few}
use Rattle.nx_ctok.proofs.tokenize.read_tokens.Goals as goal

pub loop-alloc-init : goal.loop-alloc-init
loop-alloc-init c = let e = c.new-reader.ensures in reached_first c.args.bytes.now c.new-reader.result e.0 e.1 e.2 e.3

pub take-requires-clause-line : goal.take-requires-clause-line
take-requires-clause-line c = omega (arith, newlines_few c.args.bytes.now)

pub loop-alloc-preserved : goal.loop-alloc-preserved
loop-alloc-preserved c = reached_next c.args.bytes.now c.loop-alloc.reader c.take.new.self c.loop-alloc.rest.now c.in-Ok.after.now c.loop-alloc.invariant c.in-Ok.ensures.ok
