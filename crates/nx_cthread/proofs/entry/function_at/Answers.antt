use Rattle.std.proofs.Common.{sym}
use Rattle.nx_cthread.proofs.Taking.{fun_out, fun_in}
use Rattle.nx_cthread.proofs.entry.function_at.Goals as goal

pub returns-in-None : goal.returns-in-None
returns-in-None c = fun_out c.args.functions.now c.args.place c.in-None.ensures.lookup.3
