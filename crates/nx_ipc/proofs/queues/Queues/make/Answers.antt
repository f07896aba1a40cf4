use Rattle.std.proofs.Common.{◌++◌, ap, refl}
use Rattle.std.specs.Prelude.{flat_map, None}
use Rattle.nx_ipc.specs.Tables.{chains_sent}
use Rattle.nx_ipc.proofs.Messages.{is_below}
use Rattle.nx_ipc.proofs.Joins.{made, made_chains}
use Rattle.nx_ipc.proofs.queues.Queues.make.Goals as goal

pub returns-clause-queues : goal.returns-clause-queues
returns-clause-queues c = λ content. rw (← c.self.view_is) (made content c.self.inside.queues.items c.args.place (record { limit = c.args.limit; size = c.args.size; messages = c.new.result }) c.new.ensures)

pub returns-clause-chains : goal.returns-clause-chains
returns-clause-chains c =
    let at = rw (← c.self.view_is) at c.requires in
    rw (← c.self.view_is) (ap (λ q. q ++ flat_map chains_sent c.self.inside.sending.items) (made_chains c.self.inside.queues.items c.args.place (record { limit = c.args.limit; size = c.args.size; messages = c.new.result }) c.new.ensures at (is_below c.self.inside.queues.items c.args.place None at)))
