use Rattle.nx_ktables.specs.State.{state_of}
use Rattle.nx_ktables.proofs.tables.Tables.ticks.Goals as goal

pub returns-clause-does : goal.returns-clause-does
returns-clause-does c = λ content place group. c.ticks.ensures.does (state_of content c.args.self.now) place group c.args.self.now.threads
