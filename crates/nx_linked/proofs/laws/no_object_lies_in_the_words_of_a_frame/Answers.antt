use Rattle.nx_linked.proofs.Staying.{off_words}
use Rattle.nx_linked.proofs.laws.no_object_lies_in_the_words_of_a_frame.Goals as goal

pub returns : goal.returns
returns c = off_words
