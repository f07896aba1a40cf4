use Rattle.nx_ktables.specs.State.{state_of}
use Rattle.nx_ktables.proofs.tables.Tables.sleep.Goals as goal

pub returns-clause-does : goal.returns-clause-does
returns-clause-does c = λ content. c.sleep.ensures.does (state_of content c.args.self.now)
