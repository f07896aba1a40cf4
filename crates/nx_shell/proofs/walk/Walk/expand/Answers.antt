use Rattle.std.proofs.Common.{refl}
use Rattle.nx_shell.specs.declared.walk.Stage.TheVariants as stage
use Rattle.nx_shell.proofs.Walked.{asks_comes, whole_comes}
use Rattle.nx_shell.proofs.walk.Walk.expand.Goals as goal

pub returns-then-expand-clause-comes : goal.returns-then-expand-clause-comes
returns-then-expand-clause-comes c = λ ws w ps e f g.
    asks_comes c.args.simple.now c.args.background c.args.status (record { stage = stage.Asks; filling = c.expand.new.self; command = c.expand.new.command }) c.args.self.now.filling c.expand.new.command.call c.args.self.now.command ws w ps
    refl c.if-expand.ensures.asks c.if-expand.ensures.comes e f g

pub returns-clause-comes : goal.returns-clause-comes
returns-clause-comes c = λ ws w ps e f g.
    whole_comes c.args.simple.now c.args.background c.args.status c.begin.new.self c.expand.new.self c.args.self.now.filling c.begin.result ws w ps c.if-expand.ensures.comes c.begin.ensures.comes e f g
