use Rattle.nx_lower.proofs.Objects.{variables}
use Rattle.nx_lower.proofs.laws.a_word_of_slot_code_is_a_variable.Goals as goal

pub returns : goal.returns
returns c = variables
