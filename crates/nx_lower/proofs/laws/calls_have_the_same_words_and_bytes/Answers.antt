use Rattle.nx_lower.proofs.Inputs.{calls}
use Rattle.nx_lower.proofs.laws.calls_have_the_same_words_and_bytes.Goals as goal

pub returns : goal.returns
returns c = calls
