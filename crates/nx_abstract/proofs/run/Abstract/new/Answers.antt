use Rattle.std.proofs.Common.{◌≤◌, length, sym, subst}
use Rattle.nx_ksys.specs.Gathered.{Gathered}
use Rattle.nx_abstract.specs.Standing.{lives}
use Rattle.nx_abstract.specs.Running.{IsRunning}
use Rattle.nx_abstract.proofs.Steps.{if_going}
use Rattle.nx_abstract.proofs.Booting.{booted_running, booted_come}
use Rattle.nx_abstract.proofs.run.Abstract.new.Goals as goal

pub returns-clause-running : goal.returns-clause-running
returns-clause-running g c =
    let p = g.P.Programs in
    let k = g.K.Kernel.state c.args.kernel in
    let m = c.new-guests.result in
    if_going c.stop_over-stop.result (IsRunning p.thread_of p.globals_of k c.in_ok-shell.shell m.threads.items.items m.globals.items.items c.in_ok-replies.replies.room 0)
    (booted_running p.thread_of p.globals_of c.args.script.now k c.in_ok-shell.shell m.threads.items.items m.globals.items.items c.in_ok-replies.replies.room c.requires.booted c.in_ok-shell.ensures.at c.in_ok-shell.ensures.ready (c.new-guests.ensures.kept (lives k))
    (subst (λ (r : Gathered). length k.sched.threads ≤ r.room) (sym c.in_ok-replies.ensures) c.requires.slots))

pub returns-clause-comes : goal.returns-clause-comes
returns-clause-comes g c =
    let p = g.P.Programs in
    let k = g.K.Kernel.state c.args.kernel in
    let m = c.new-guests.result in
    booted_come p.thread_of p.globals_of c.args.script.now p.fault_of (p.meaning c.args.programs) k c.in_ok-shell.shell m.threads.items.items m.globals.items.items c.stop_over-stop.result c.stop_over-stop.ensures c.in_ok-shell.ensures.at (c.new-guests.ensures.kept (lives k))
