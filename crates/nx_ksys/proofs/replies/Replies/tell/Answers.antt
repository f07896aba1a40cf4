use Rattle.nx_ksys.proofs.Gathering.{value_told, one_longer}
use Rattle.nx_ksys.proofs.replies.Replies.tell.Goals as goal

pub returns-clause-told : goal.returns-clause-told
returns-clause-told c = value_told _ _ _ _ _ _ c.requires.value c.add.ensures

pub returns-clause-len : goal.returns-clause-len
returns-clause-len c = one_longer _ _ _ c.add.ensures
