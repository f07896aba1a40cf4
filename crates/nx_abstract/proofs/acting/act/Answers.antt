use Rattle.std.proofs.Common.{◌==◌, [], subst}
use Rattle.nx_shrun.specs.Systems.{with_guests}
use Rattle.nx_guests.specs.declared.turn.Turn.TheVariants as turn
use Rattle.nx_guests.specs.Turns.{IsTold}
use Rattle.nx_guests.specs.Guests.{UnlessWrong, left_by, after_step}
use Rattle.nx_abstract.specs.Standing.{StandsFor, lives}
use Rattle.nx_abstract.specs.Coming.{Comes}
use Rattle.nx_abstract.proofs.Acted.{calls_left, ended_left, last_is, none_told, calls_acted, ends_acted}
use Rattle.nx_abstract.proofs.acting.act.Goals as goal

pub returns-in_ok-wrong-in-Calls-clause-comes : goal.returns-in_ok-wrong-in-Calls-clause-comes
returns-in_ok-wrong-in-Calls-clause-comes g c = λ script s row gs t a eg told kept.
    let p = g.P.Programs in
    let m = c.args.guests.now in
    let k = g.K.Kernel.state c.args.kernel.now in
    let makes = subst (λ x. IsTold (p.meaning m.programs).which p.fault_of x c.args.call.now gs t a) c.in-Calls.is told in
    let x = with_guests s (after_step (p.meaning m.programs) script s.guests c.args.thread c.args.group a) in
    subst (λ z. Comes p.thread_of p.globals_of p.fault_of script (g.K.Kernel.state c.guest_call.new.kernel) c.guest_call.new.shell c.guest_call.new.guests.threads.items.items c.guest_call.new.guests.globals.items.items c.in_ok-wrong-in-Calls.wrong z)
    (calls_acted p.thread_of p.globals_of (p.meaning m.programs) script s c.args.thread c.args.group row makes.call gs t a c.args.call.now eg makes.asks makes.tells)
    (c.in_ok-wrong-in-Calls.ensures.comes script x (left_by {F = g.row.P-Fault.Denot} turn.Calls c.args.thread (lives k)) makes.call.inputs makes.tells.inputs (λ n l last. calls_left (lives k) c.args.thread n l)
    (subst (λ z. UnlessWrong z (StandsFor p.thread_of p.globals_of script (left_by z c.args.thread (lives k)) k c.args.shell.now m.threads.items.items m.globals.items.items x)) c.in-Calls.is kept))

pub returns-in_ok-wrong-in-Ends-clause-comes : goal.returns-in_ok-wrong-in-Ends-clause-comes
returns-in_ok-wrong-in-Ends-clause-comes g c = λ script s row gs t a eg told kept.
    let p = g.P.Programs in
    let m = c.args.guests.now in
    let k = g.K.Kernel.state c.args.kernel.now in
    let put = c.put_last_call.new.call in
    let ends = subst (λ x. IsTold (p.meaning m.programs).which p.fault_of x c.args.call.now gs t a) c.in-Ends.is told in
    let x = with_guests s (after_step (p.meaning m.programs) script s.guests c.args.thread c.args.group a) in
    subst (λ z. Comes p.thread_of p.globals_of p.fault_of script (g.K.Kernel.state c.guest_call-in-Ends.new.kernel) c.guest_call-in-Ends.new.shell c.guest_call-in-Ends.new.guests.threads.items.items c.guest_call-in-Ends.new.guests.globals.items.items c.in_ok-wrong-in-Ends.wrong z)
    (ends_acted p.thread_of p.globals_of (p.meaning m.programs) script s c.args.thread c.args.group c.in-Ends.value row gs a put eg ends c.put_last_call.ensures.call c.put_last_call.ensures.words)
    (c.in_ok-wrong-in-Ends.ensures.comes script x (left_by {F = g.row.P-Fault.Denot} (turn.Ends c.in-Ends.value) c.args.thread (lives k)) [] (none_told put.first put.second c.put_last_call.ensures.inputs)
    (λ n l last. ended_left (lives k) c.args.thread c.in-Ends.value n l (last (last_is put.call (c.args.thread == c.args.group) c.put_last_call.ensures.call)))
    (subst (λ z. UnlessWrong z (StandsFor p.thread_of p.globals_of script (left_by z c.args.thread (lives k)) k c.args.shell.now m.threads.items.items m.globals.items.items x)) c.in-Ends.is kept))
