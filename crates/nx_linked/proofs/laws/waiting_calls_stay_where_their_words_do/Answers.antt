use Rattle.nx_linked.proofs.Staying.{below_kept, owned_kept}
use Rattle.nx_linked.proofs.laws.waiting_calls_stay_where_their_words_do.Goals as goal

pub returns-clause-waits : goal.returns-clause-waits
returns-clause-waits c = below_kept

pub returns-clause-owns : goal.returns-clause-owns
returns-clause-owns c = owned_kept
