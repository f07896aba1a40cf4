use Rattle.std.proofs.Common.{arith}
use Rattle.nx_top.proofs.Asking.{is_stop, all_read}
use Rattle.nx_top.proofs.reading.read_files.Goals as goal

pub returns-in-Err-clause-stops : goal.returns-in-Err-clause-stops
returns-in-Err-clause-stops g c = is_stop c.in-Err.why _ _ _ _ _ _ _ _ _ _ _ c.loop-name-test.true c.loop-name.invariant c.in-Err.ensures

pub returns-clause-read : goal.returns-clause-read
returns-clause-read g c = all_read _ _ _ _ _ _ _ _ c.loop-name-test.false (omega arith) c.loop-name.invariant
