use Rattle.std.proofs.Common.{ap}
use Rattle.nx_shstep.specs.Held.{Held}
use Rattle.nx_shstep.proofs.Plans.{none_ready}
use Rattle.nx_shstep.proofs.command.Command.refuse_arguments.Goals as goal

pub returns-clause-handled : goal.returns-clause-handled
returns-clause-handled c =
    none_ready c.refuse.new.self (ap (λ (h : Held). h.running) c.refuse.ensures) (ap (λ (h : Held). h.awaits) c.refuse.ensures) (ap (λ (h : Held). h.todo) c.refuse.ensures)
