use Rattle.nx_codegen.proofs.Fitted.{fitted}
use Rattle.nx_codegen.proofs.laws.instructions_fit_their_words.Goals as goal

pub returns : goal.returns
returns c = fitted
