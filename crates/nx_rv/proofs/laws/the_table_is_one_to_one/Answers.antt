use Rattle.nx_rv.proofs.Rows.{one_instruction, one_word}
use Rattle.nx_rv.proofs.laws.the_table_is_one_to_one.Goals as goal

pub returns-clause-instruction : goal.returns-clause-instruction
returns-clause-instruction c = one_instruction

pub returns-clause-word : goal.returns-clause-word
returns-clause-word c = one_word
