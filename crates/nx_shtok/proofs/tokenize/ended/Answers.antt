use Rattle.nx_shtok.proofs.Progress.{reached_end}
use Rattle.nx_shtok.proofs.tokenize.ended.Goals as goal

pub returns : goal.returns
returns c = λ text x. rw c.in_ok-push_last.ensures (reached_end text c.args.reader c.args.rest.now c.requires x)
