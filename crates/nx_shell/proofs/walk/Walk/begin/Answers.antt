use Rattle.std.proofs.Common.{refl}
use Rattle.nx_shell.specs.declared.walk.Stage.TheVariants as stage
use Rattle.nx_shell.proofs.Walked.{begin_comes}
use Rattle.nx_shell.proofs.walk.Walk.begin.Goals as goal

pub returns-clause-comes : goal.returns-clause-comes
returns-clause-comes c = λ ws e.
    begin_comes c.args.simple.now c.args.background c.args.status (record { stage = stage.Does; filling = c.args.self.now.filling; command = c.begin.new.self }) c.begin.result c.mode_of-mode.result c.as_slice.result.now c.args.self.now.filling.words.words
    c.hand_over.new.command.running.words c.hand_over.new.command.running.file ws refl c.mode_of-mode.ensures c.as_slice.ensures c.hand_over.ensures.words c.hand_over.ensures.file c.begin.ensures.outcome e
