use Rattle.std.proofs.Common.{inl, inr, length, sym, ap, ◌∙◌, subst, arith}
use Rattle.nx_ksys.specs.State.{KernelState}
use Rattle.nx_ksys.specs.Gathered.{replies_of}
use Rattle.nx_ksys.specs.Picking.{Picked}
use Rattle.nx_ksys.specs.ThreadTable.{threads}
use Rattle.nx_shrun.specs.Systems.{told}
use Rattle.nx_shrun.specs.AbstractRuns.{guests, turn, with_kernel}
use Rattle.nx_shell.specs.declared.shell.Shell.{Shell}
use Rattle.nx_abstract.specs.Kernels.{IsChosen}
use Rattle.nx_abstract.specs.Standing.{FitShell, Waits, NoneForShell, lives}
use Rattle.nx_abstract.specs.Coming.{Comes}
use Rattle.nx_abstract.proofs.Choosing.{idle_same, ended_same}
use Rattle.nx_abstract.proofs.Formed.{stands_formed}
use Rattle.nx_abstract.proofs.Steps.{running_chosen, chosen_stands, step_comes, over_comes}
use Rattle.nx_abstract.proofs.stepping.step.Goals as goal

pub tell_all-requires-clause-fits : goal.tell_all-requires-clause-fits
tell_all-requires-clause-fits g c =
    let p = g.P.Programs in
    let m = c.args.guests.now in
    let k = g.K.Kernel.state c.args.kernel.now in
    let k1 = g.K.Kernel.state c.pick-choice.new.self in
    let ch = running_chosen p.thread_of p.globals_of k k1 c.in-Run.thread c.pick-choice.result c.args.shell.now m.threads.items.items m.globals.items.items c.args.replies.now.room k.calls (replies_of c.pick-choice.new.replies.replies) c.requires.running (g.met.K.Kernel.sound c.args.kernel.now c.requires.keeps) c.pick-choice.ensures.chosen c.in-Run.is in
    subst (λ rs. FitShell c.args.shell.now.walk.command.call (replies_of rs)) (sym c.as_slice.ensures) ch.fits

pub turn-requires-clause-runs : goal.turn-requires-clause-runs
turn-requires-clause-runs g c =
    let p = g.P.Programs in
    let m = c.args.guests.now in
    let k = g.K.Kernel.state c.args.kernel.now in
    let k1 = g.K.Kernel.state c.pick-choice.new.self in
    let ch = running_chosen p.thread_of p.globals_of k k1 c.in-Run.thread c.pick-choice.result c.args.shell.now m.threads.items.items m.globals.items.items c.args.replies.now.room k.calls (replies_of c.pick-choice.new.replies.replies) c.requires.running (g.met.K.Kernel.sound c.args.kernel.now c.requires.keeps) c.pick-choice.ensures.chosen c.in-Run.is in
    ch.ready

pub turn-requires-clause-calls : goal.turn-requires-clause-calls
turn-requires-clause-calls g c =
    let p = g.P.Programs in
    let m = c.args.guests.now in
    let k = g.K.Kernel.state c.args.kernel.now in
    let k1 = g.K.Kernel.state c.pick-choice.new.self in
    let ch = running_chosen p.thread_of p.globals_of k k1 c.in-Run.thread c.pick-choice.result c.args.shell.now m.threads.items.items m.globals.items.items c.args.replies.now.room k.calls (replies_of c.pick-choice.new.replies.replies) c.requires.running (g.met.K.Kernel.sound c.args.kernel.now c.requires.keeps) c.pick-choice.ensures.chosen c.in-Run.is in
    omega (arith, ch.calls, c.requires.calls)

pub turn-requires-clause-room : goal.turn-requires-clause-room
turn-requires-clause-room g c =
    let p = g.P.Programs in
    let m = c.args.guests.now in
    let k = g.K.Kernel.state c.args.kernel.now in
    let k1 = g.K.Kernel.state c.pick-choice.new.self in
    let ch = running_chosen p.thread_of p.globals_of k k1 c.in-Run.thread c.pick-choice.result c.args.shell.now m.threads.items.items m.globals.items.items c.args.replies.now.room k.calls (replies_of c.pick-choice.new.replies.replies) c.requires.running (g.met.K.Kernel.sound c.args.kernel.now c.requires.keeps) c.pick-choice.ensures.chosen c.in-Run.is in
    omega (arith, ch.slots, c.requires.running.room, c.pick-choice.ensures.room)

pub turn-requires-clause-formed : goal.turn-requires-clause-formed
turn-requires-clause-formed g c =
    let p = g.P.Programs in
    let m = c.args.guests.now in
    let n = c.tell_all.new.guests in
    let k = g.K.Kernel.state c.args.kernel.now in
    let k1 = g.K.Kernel.state c.pick-choice.new.self in
    let script = c.requires.running.script in
    let s = c.requires.running.state in
    let ch = running_chosen p.thread_of p.globals_of k k1 c.in-Run.thread c.pick-choice.result c.args.shell.now m.threads.items.items m.globals.items.items c.args.replies.now.room k.calls (replies_of c.pick-choice.new.replies.replies) c.requires.running (g.met.K.Kernel.sound c.args.kernel.now c.requires.keeps) c.pick-choice.ensures.chosen c.in-Run.is in
    stands_formed p.thread_of p.globals_of script (lives k1) k1 c.tell_all.new.shell n.threads.items.items n.globals.items.items (told (guests (p.meaning m.programs) script) (with_kernel (p.meaning m.programs) script s k1) (replies_of c.as_slice.result.now))
    (c.in_ok-tell_all-in-Run.ensures.tells script (with_kernel (p.meaning m.programs) script s k1) (chosen_stands p.thread_of p.globals_of script (p.meaning m.programs) k k1 c.args.shell.now m.threads.items.items m.globals.items.items s ch.alive c.requires.running.stands))

pub turn-requires-clause-waits : goal.turn-requires-clause-waits
turn-requires-clause-waits g c =
    let p = g.P.Programs in
    let m = c.args.guests.now in
    let k = g.K.Kernel.state c.args.kernel.now in
    let k1 = g.K.Kernel.state c.pick-choice.new.self in
    let ch = running_chosen p.thread_of p.globals_of k k1 c.in-Run.thread c.pick-choice.result c.args.shell.now m.threads.items.items m.globals.items.items c.args.replies.now.room k.calls (replies_of c.pick-choice.new.replies.replies) c.requires.running (g.met.K.Kernel.sound c.args.kernel.now c.requires.keeps) c.pick-choice.ensures.chosen c.in-Run.is in
    ch.waits c.tell_all.new.shell.walk.command.call
    (λ none. ap (λ (x : Shell). x.walk.command.call) (c.in_ok-tell_all-in-Run.ensures.other (subst (λ rs. NoneForShell (replies_of rs)) (sym c.as_slice.ensures) none)))

pub returns-in_ok-wrong-in-Run-clause-slots : goal.returns-in_ok-wrong-in-Run-clause-slots
returns-in_ok-wrong-in-Run-clause-slots g c =
    let p = g.P.Programs in
    let m = c.args.guests.now in
    let k = g.K.Kernel.state c.args.kernel.now in
    let k1 = g.K.Kernel.state c.pick-choice.new.self in
    let ch = running_chosen p.thread_of p.globals_of k k1 c.in-Run.thread c.pick-choice.result c.args.shell.now m.threads.items.items m.globals.items.items c.args.replies.now.room k.calls (replies_of c.pick-choice.new.replies.replies) c.requires.running (g.met.K.Kernel.sound c.args.kernel.now c.requires.keeps) c.pick-choice.ensures.chosen c.in-Run.is in
    c.turn.ensures.slots ∙ ch.slots

pub returns-in_ok-wrong-in-Run-clause-comes : goal.returns-in_ok-wrong-in-Run-clause-comes
returns-in_ok-wrong-in-Run-clause-comes g c = λ script s h.
    let p = g.P.Programs in
    let m = c.args.guests.now in
    let n = c.tell_all.new.guests in
    let o = c.turn.new.guests in
    let k = g.K.Kernel.state c.args.kernel.now in
    let k1 = g.K.Kernel.state c.pick-choice.new.self in
    let k2 = g.K.Kernel.state c.turn.new.kernel in
    let ch = running_chosen p.thread_of p.globals_of k k1 c.in-Run.thread c.pick-choice.result c.args.shell.now m.threads.items.items m.globals.items.items c.args.replies.now.room k.calls (replies_of c.pick-choice.new.replies.replies) c.requires.running (g.met.K.Kernel.sound c.args.kernel.now c.requires.keeps) c.pick-choice.ensures.chosen c.in-Run.is in
    step_comes p.thread_of p.globals_of script p.fault_of (p.meaning m.programs) k k1 k2 c.args.shell.now c.tell_all.new.shell c.turn.new.shell m.threads.items.items n.threads.items.items o.threads.items.items m.globals.items.items n.globals.items.items o.globals.items.items c.in-Run.thread c.pick-choice.result (replies_of c.pick-choice.new.replies.replies) (replies_of c.as_slice.result.now) c.in_ok-wrong-in-Run.wrong s
    c.pick-choice.ensures.chosen c.in-Run.is (ap replies_of c.as_slice.ensures) ch.alive (λ x hx. c.in_ok-tell_all-in-Run.ensures.tells script x hx)
    (λ x hx. subst (λ ps. Comes p.thread_of p.globals_of p.fault_of script k2 c.turn.new.shell o.threads.items.items o.globals.items.items c.in_ok-wrong-in-Run.wrong (turn (p.meaning ps) script x c.in-Run.thread)) c.tell_all.ensures.programs (c.in_ok-wrong-in-Run.ensures.comes script x hx)) h

pub returns-in-Idle-clause-slots : goal.returns-in-Idle-clause-slots
returns-in-Idle-clause-slots g c =
    let k = g.K.Kernel.state c.args.kernel.now in
    let k1 = g.K.Kernel.state c.pick-choice.new.self in
    let rs = replies_of c.pick-choice.new.replies.replies in
    ap (λ (l : KernelState). length l.sched.threads) (idle_same k k1 rs (subst (λ z. IsChosen k k1 z rs) c.in-Idle.is c.pick-choice.ensures.chosen))

pub returns-in-Idle-clause-waits : goal.returns-in-Idle-clause-waits
returns-in-Idle-clause-waits g c =
    let k = g.K.Kernel.state c.args.kernel.now in
    let k1 = g.K.Kernel.state c.pick-choice.new.self in
    let rs = replies_of c.pick-choice.new.replies.replies in
    subst (λ l. Waits (threads l) c.args.shell.now.walk.command.call) (sym (idle_same k k1 rs (subst (λ z. IsChosen k k1 z rs) c.in-Idle.is c.pick-choice.ensures.chosen))) c.requires.running.waits

pub returns-in-Idle-clause-comes : goal.returns-in-Idle-clause-comes
returns-in-Idle-clause-comes g c = λ script s h.
    let p = g.P.Programs in
    let m = c.args.guests.now in
    let k = g.K.Kernel.state c.args.kernel.now in
    let k1 = g.K.Kernel.state c.pick-choice.new.self in
    let rs = replies_of c.pick-choice.new.replies.replies in
    let e = subst (λ z. IsChosen k k1 z rs) c.in-Idle.is c.pick-choice.ensures.chosen in
    over_comes p.thread_of p.globals_of script (p.meaning m.programs) k k1 c.args.shell.now m.threads.items.items m.globals.items.items s (idle_same k k1 rs e) (inr (ap (λ (x : Picked). x.pick) e)) h

pub returns-in-Ended-clause-slots : goal.returns-in-Ended-clause-slots
returns-in-Ended-clause-slots g c =
    let k = g.K.Kernel.state c.args.kernel.now in
    let k1 = g.K.Kernel.state c.pick-choice.new.self in
    let rs = replies_of c.pick-choice.new.replies.replies in
    ap (λ (l : KernelState). length l.sched.threads) (ended_same k k1 rs (subst (λ z. IsChosen k k1 z rs) c.in-Ended.is c.pick-choice.ensures.chosen))

pub returns-in-Ended-clause-waits : goal.returns-in-Ended-clause-waits
returns-in-Ended-clause-waits g c =
    let k = g.K.Kernel.state c.args.kernel.now in
    let k1 = g.K.Kernel.state c.pick-choice.new.self in
    let rs = replies_of c.pick-choice.new.replies.replies in
    subst (λ l. Waits (threads l) c.args.shell.now.walk.command.call) (sym (ended_same k k1 rs (subst (λ z. IsChosen k k1 z rs) c.in-Ended.is c.pick-choice.ensures.chosen))) c.requires.running.waits

pub returns-in-Ended-clause-comes : goal.returns-in-Ended-clause-comes
returns-in-Ended-clause-comes g c = λ script s h.
    let p = g.P.Programs in
    let m = c.args.guests.now in
    let k = g.K.Kernel.state c.args.kernel.now in
    let k1 = g.K.Kernel.state c.pick-choice.new.self in
    let rs = replies_of c.pick-choice.new.replies.replies in
    let e = subst (λ z. IsChosen k k1 z rs) c.in-Ended.is c.pick-choice.ensures.chosen in
    over_comes p.thread_of p.globals_of script (p.meaning m.programs) k k1 c.args.shell.now m.threads.items.items m.globals.items.items s (ended_same k k1 rs e) (inl (ap (λ (x : Picked). x.pick) e)) h
