use Rattle.nx_gate.proofs.Moves.{words_call}
use Rattle.nx_gate.proofs.words.proxy.Goals as goal

pub returns-clause-calls : goal.returns-clause-calls
returns-clause-calls c = λ r v size bound aligned fits stands.
    words_call _ _ _ r v c.make_words.ensures.words c.requires c.make_words.ensures.few size bound aligned fits stands
