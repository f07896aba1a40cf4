use Rattle.std.proofs.Common.{take, drop, sym}
use Rattle.std.proofs.lemmas.List.{take-append-drop}
use Rattle.nx_outside.proofs.mem_sink.MemSink.fail.Goals as goal

-- The prefix is what was taken, and the rest is what was dropped.
pub returns-clause-puts : goal.returns-clause-puts
returns-clause-puts c = record {
  prefix = take c.min.result c.args.piece.now;
  wrote = rw (← c.self.view_is) c.append_prefix.ensures.bytes;
  begins = (drop c.min.result c.args.piece.now, sym (take-append-drop _ _));
}
