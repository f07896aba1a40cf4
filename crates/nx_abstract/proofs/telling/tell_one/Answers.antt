use Rattle.nx_ksys.specs.Gathered.{reply_of}
use Rattle.nx_abstract.specs.Standing.{lives}
use Rattle.nx_abstract.proofs.Replying.{shell_stands, some_stands}
use Rattle.nx_abstract.proofs.telling.tell_one.Goals as goal

pub returns-then-reply-eq-SHELL_THREAD-clause-tells : goal.returns-then-reply-eq-SHELL_THREAD-clause-tells
returns-then-reply-eq-SHELL_THREAD-clause-tells g c = λ script s h.
    let k = g.K.Kernel.state c.args.kernel.now in
    let p = g.P.Programs in
    let m = c.args.guests.now in
    shell_stands p.thread_of p.globals_of script (p.meaning m.programs) (lives k) k c.args.shell.now c.tell_shell.new.shell m.threads.items.items m.globals.items.items s (reply_of c.args.reply.now)
    c.if-reply-eq-SHELL_THREAD.true c.tell_shell.ensures.answers c.tell_shell.ensures.fits h

pub returns-in_ok-answer-in-Some-clause-tells : goal.returns-in_ok-answer-in-Some-clause-tells
returns-in_ok-answer-in-Some-clause-tells g c = λ script s h.
    let k = g.K.Kernel.state c.args.kernel.now in
    let p = g.P.Programs in
    let m = c.args.guests.now in
    let n = c.answer.new.self in
    some_stands p.thread_of p.globals_of script (p.meaning m.programs) k c.args.shell.now m.threads.items.items n.threads.items.items m.globals.items.items n.globals.items.items s (reply_of c.args.reply.now) c.in-Some.row
    c.if-reply-eq-SHELL_THREAD.false c.in-Some.ensures (λ live x y. c.in_ok-answer-in-Some.ensures.kept script live x y) h
