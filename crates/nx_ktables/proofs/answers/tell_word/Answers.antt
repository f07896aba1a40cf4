use Rattle.std.proofs.Common.{arith}
use Rattle.nx_ksys.proofs.Gathering.{one_longer}
use Rattle.nx_ktables.proofs.Answering.{word_told}
use Rattle.nx_ktables.proofs.answers.tell_word.Goals as goal

pub returns-clause-told : goal.returns-clause-told
returns-clause-told c = word_told _ _ _ _ _ _ _ (omega (arith, c.ranges.value.fits)) c.cast_signed.ensures c.add.ensures

pub returns-clause-len : goal.returns-clause-len
returns-clause-len c = one_longer _ _ _ c.add.ensures
