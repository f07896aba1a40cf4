use Rattle.std.proofs.Common.{ap, ◌∙◌}
use Rattle.nx_shstep.specs.Held.{Held}
use Rattle.nx_shstep.proofs.Plans.{body_at}
use Rattle.nx_shstep.proofs.command.Command.begin_built_in.Goals as goal

pub go-requires : goal.go-requires
go-requires c =
    let words = ap (λ (h : Held). h.running.words) c.self.view_is in
    body_at c.restart.new.self c.args.self.now.running c.as_slice.result.now c.self.inside.words.words c.self.inside.file c.in-Some.ending c.put_steps.new.todo.steps c.args.output c.args.which c.args.status
    c.requires (c.as_slice.ensures ∙ words) words (ap (λ (h : Held). h.running.file) c.self.view_is)
    (ap (λ (h : Held). h.running) c.restart.ensures) (ap (λ (h : Held). h.todo) c.restart.ensures) c.in-Some.ensures.steps
