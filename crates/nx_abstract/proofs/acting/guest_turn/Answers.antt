use Rattle.std.proofs.Common.{ap, subst}
use Rattle.std.specs.Option.{is_some}
use Rattle.nx_shrun.specs.Systems.{with_guests}
use Rattle.nx_shrun.specs.AbstractRuns.{acted}
use Rattle.nx_guests.specs.Turns.{IsTold}
use Rattle.nx_guests.specs.Guests.{UnlessWrong, Steps, left_by, after_step}
use Rattle.nx_abstract.specs.Standing.{StandsFor, lives}
use Rattle.nx_abstract.specs.Coming.{Comes}
use Rattle.nx_abstract.proofs.Acted.{at_row, missing, turn_acted, unless_stands}
use Rattle.nx_abstract.proofs.acting.guest_turn.Goals as goal

pub returns-in-None-clause-comes : goal.returns-in-None-clause-comes
returns-in-None-clause-comes g c = λ script s h.
    let p = g.P.Programs in
    let m = c.args.guests.now in
    let n = c.step.new.self in
    let k = g.K.Kernel.state c.args.kernel.now in
    let at = at_row k c.args.thread c.in-Some.row c.in-Some.ensures in
    missing p.thread_of p.globals_of (p.meaning m.programs) script k c.args.shell.now m.threads.items.items n.threads.items.items m.globals.items.items n.globals.items.items s c.args.thread c.in-Some.row.group c.in-Some.row.program at
    (subst (λ o. Steps (p.meaning m.programs) script p.thread_of p.globals_of p.fault_of (lives k) c.args.thread c.in-Some.row.group c.in-Some.row.program s.guests n.threads.items.items n.globals.items.items c.step.new.call o) c.in-None.is
    (c.in_ok-step.ensures.steps script (lives k) s.guests (ap is_some at.is) h.guests)) h

pub returns-in_ok-wrong-in-Some-2-clause-comes : goal.returns-in_ok-wrong-in-Some-2-clause-comes
returns-in_ok-wrong-in-Some-2-clause-comes g c = λ script s h.
    let p = g.P.Programs in
    let m = c.args.guests.now in
    let n = c.step.new.self in
    let k = g.K.Kernel.state c.args.kernel.now in
    let group = c.in-Some.row.group in
    let program = c.in-Some.row.program in
    let at = at_row k c.args.thread c.in-Some.row c.in-Some.ensures in
    let st = subst (λ o. Steps (p.meaning m.programs) script p.thread_of p.globals_of p.fault_of (lives k) c.args.thread group program s.guests n.threads.items.items n.globals.items.items c.step.new.call o) c.in-Some-2.is
    (c.in_ok-step.ensures.steps script (lives k) s.guests (ap is_some at.is) h.guests) in
    let a = (p.meaning m.programs).step program st.globals_before st.thread_before in
    subst (λ z. Comes p.thread_of p.globals_of p.fault_of script (g.K.Kernel.state c.act.new.kernel) c.act.new.shell c.act.new.guests.threads.items.items c.act.new.guests.globals.items.items c.in_ok-wrong-in-Some-2.wrong z)
    (turn_acted p.thread_of p.globals_of (p.meaning m.programs) script k s c.args.thread group program st.globals_before st.thread_before at h.kernel st.group_kept st.thread_kept)
    (subst (λ ps. IsTold (p.meaning ps).which p.fault_of c.in-Some-2.turn c.step.new.call st.globals_after st.thread_after a
    → UnlessWrong c.in-Some-2.turn (StandsFor p.thread_of p.globals_of script (left_by c.in-Some-2.turn c.args.thread (lives k)) k c.args.shell.now n.threads.items.items n.globals.items.items (with_guests s (after_step (p.meaning ps) script s.guests c.args.thread group a)))
    → Comes p.thread_of p.globals_of p.fault_of script (g.K.Kernel.state c.act.new.kernel) c.act.new.shell c.act.new.guests.threads.items.items c.act.new.guests.globals.items.items c.in_ok-wrong-in-Some-2.wrong (acted (p.meaning ps) script s c.args.thread at.row a))
    c.step.ensures.programs (c.in_ok-wrong-in-Some-2.ensures.comes script s at.row st.globals_after st.thread_after a at.group)
    st.answer
    (unless_stands p.thread_of p.globals_of (p.meaning m.programs) script c.in-Some-2.turn (lives k) c.args.thread k c.args.shell.now m.threads.items.items n.threads.items.items m.globals.items.items n.globals.items.items s (after_step (p.meaning m.programs) script s.guests c.args.thread group a) st.kept h))
