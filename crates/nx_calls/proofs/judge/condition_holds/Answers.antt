use Rattle.nx_calls.proofs.Judging.{held_not}
use Rattle.nx_calls.proofs.judge.condition_holds.Goals as goal

pub returns-in-Err : goal.returns-in-Err
returns-in-Err g c = held_not (g.M.Meanings.meaning c.args.meanings.now) c.args.text.now c.in-Err.stop c.in-Err.ensures.only
