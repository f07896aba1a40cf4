use Rattle.nx_ksys.proofs.Gathering.{error_told, one_longer}
use Rattle.nx_ksys.proofs.replies.Replies.fail.Goals as goal

pub returns-clause-told : goal.returns-clause-told
returns-clause-told c = error_told _ _ _ c.args.errno _ c.number.ensures c.add.ensures

pub returns-clause-len : goal.returns-clause-len
returns-clause-len c = one_longer _ _ _ c.add.ensures
