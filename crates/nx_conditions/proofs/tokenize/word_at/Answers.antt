use Rattle.std.proofs.Common.{sym}
use Rattle.nx_conditions.proofs.Words.{word_found}
use Rattle.nx_conditions.proofs.tokenize.word_at.Goals as goal

pub returns-in-Ok-clause-gives : goal.returns-in-Ok-clause-gives
returns-in-Ok-clause-gives c = word_found c.args.bytes.now c.word_length-count.result c.in-Ok.token c.word_length-count.ensures.length (sym c.in-Ok.ensures)
