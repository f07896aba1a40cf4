use Rattle.std.proofs.Common.{◌+◌, subst}
use Rattle.std.specs.Prelude.{IfNone}
use Rattle.nx_ksys.specs.ThreadTable.{threads}
use Rattle.nx_shrun.specs.AbstractRuns.{Fine, run_step}
use Rattle.nx_abstract.specs.Standing.{Waits}
use Rattle.nx_abstract.specs.Coming.{Comes}
use Rattle.nx_abstract.specs.Running.{IsRunning}
use Rattle.nx_abstract.proofs.Steps.{if_going, running_after}
use Rattle.nx_abstract.proofs.run.Abstract.make_step.Goals as goal

pub returns-in-None-clause-running : goal.returns-in-None-clause-running
returns-in-None-clause-running g c =
    let p = g.P.Programs in
    let x = c.args.self.now in
    let n = c.step.new in
    let k = g.K.Kernel.state x.kernel in
    let k2 = g.K.Kernel.state n.kernel in
    let now = c.requires.running in
    if_going c.stop_over.result (IsRunning p.thread_of p.globals_of k2 n.shell n.guests.threads.items.items n.guests.globals.items.items n.replies.room (x.steps + 1))
    (running_after p.thread_of p.globals_of now.script p.fault_of (p.meaning x.guests.programs) k k2 x.shell n.shell x.guests.threads.items.items n.guests.threads.items.items x.guests.globals.items.items n.guests.globals.items.items x.replies.room n.replies.room x.steps now.state now.stands
    (subst (λ w. Comes p.thread_of p.globals_of p.fault_of now.script k2 n.shell n.guests.threads.items.items n.guests.globals.items.items w (run_step (p.meaning x.guests.programs) now.script (Fine now.state))) c.in-None.is (c.in_ok-wrong.ensures.comes now.script now.state now.stands))
    (subst (λ w. IfNone w (Waits (threads k2) n.shell.walk.command.call)) c.in-None.is c.in_ok-wrong.ensures.waits)
    c.step.ensures.ready c.in_ok-wrong.ensures.slots now.room c.step.ensures.room now.calls)
