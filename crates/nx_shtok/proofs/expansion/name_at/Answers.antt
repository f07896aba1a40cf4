use Rattle.nx_shtok.proofs.Names.{after_name}
use Rattle.nx_shtok.proofs.expansion.name_at.Goals as goal

pub returns-clause-left : goal.returns-clause-left
returns-clause-left c = after_name c.args.bytes.now c.split_at.result.1.now c.word_length.result c.word_length.ensures.length c.split_at.ensures.back
