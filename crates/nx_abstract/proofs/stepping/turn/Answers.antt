use Rattle.std.proofs.Common.{sym, subst}
use Rattle.nx_abstract.specs.Coming.{Comes}
use Rattle.nx_abstract.proofs.Steps.{turn_of_shell, turn_of_guest}
use Rattle.nx_abstract.proofs.stepping.turn.Goals as goal

pub returns-then-thread-eq-SHELL_THREAD-clause-comes : goal.returns-then-thread-eq-SHELL_THREAD-clause-comes
returns-then-thread-eq-SHELL_THREAD-clause-comes g c = λ script s h.
    let p = g.P.Programs in
    subst (λ z. Comes p.thread_of p.globals_of p.fault_of script (g.K.Kernel.state c.shell_turn.new.kernel) c.shell_turn.new.shell c.shell_turn.new.guests.threads.items.items c.shell_turn.new.guests.globals.items.items c.in_ok-wrong.wrong z)
    (sym (turn_of_shell (p.meaning c.args.guests.now.programs) script s c.args.thread c.if-thread-eq-SHELL_THREAD.true)) (c.in_ok-wrong.ensures.comes script s h)

pub returns-clause-comes : goal.returns-clause-comes
returns-clause-comes g c = λ script s h.
    let p = g.P.Programs in
    subst (λ z. Comes p.thread_of p.globals_of p.fault_of script (g.K.Kernel.state c.guest_turn.new.kernel) c.guest_turn.new.shell c.guest_turn.new.guests.threads.items.items c.guest_turn.new.guests.globals.items.items c.in_ok-wrong-2.wrong z)
    (sym (turn_of_guest (p.meaning c.args.guests.now.programs) script s c.args.thread c.if-thread-eq-SHELL_THREAD.false)) (c.in_ok-wrong-2.ensures.comes script s h)
