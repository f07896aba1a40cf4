use Rattle.std.proofs.Common.{ap}
use Rattle.nx_ksys.specs.Answers.{Stepped}
use Rattle.nx_ksys.specs.Gathered.{replies_of}
use Rattle.nx_abstract.proofs.Calling.{call_slots, call_leaves}
use Rattle.nx_abstract.proofs.making.ask.Goals as goal

pub returns-clause-slots : goal.returns-clause-slots
returns-clause-slots g c = call_slots (g.K.Kernel.state c.args.kernel.now) (g.K.Kernel.state c.step.new.self) c.args.thread c.args.call.now (g.met.K.Kernel.sound c.args.kernel.now c.requires.keeps) c.requires.ready c.are_six.ensures (ap (λ (s : Stepped). s.to) c.step.ensures.stepped)

pub returns-clause-leaves : goal.returns-clause-leaves
returns-clause-leaves g c = call_leaves (g.K.Kernel.state c.args.kernel.now) (g.K.Kernel.state c.step.new.self) c.args.thread c.args.call.now (replies_of c.step.new.replies.replies) (g.met.K.Kernel.sound c.args.kernel.now c.requires.keeps) c.requires.ready c.are_six.ensures
    (ap (λ (s : Stepped). s.to) c.step.ensures.stepped) (ap (λ (s : Stepped). s.replies) c.step.ensures.stepped)
