use Rattle.std.proofs.Common.{◌≡◌, refl, sym, ap, ◌∙◌, subst}
use Rattle.nx_ksys.specs.Gathered.{replies_of}
use Rattle.nx_shrun.specs.Systems.{told}
use Rattle.nx_shrun.specs.AbstractRuns.{guests, wrong_start}
use Rattle.nx_guests.specs.Kept.{seen}
use Rattle.nx_shell.specs.declared.shell.Shell.{Shell}
use Rattle.nx_abstract.specs.Kernels.{step_of}
use Rattle.nx_abstract.specs.Standing.{StandsFor, FitShell, NoneForShell, lives}
use Rattle.nx_abstract.specs.Coming.{GoesOn}
use Rattle.nx_abstract.specs.Living.{Own}
use Rattle.nx_abstract.proofs.Coming.{called_so, strayed_so, shell_calls}
use Rattle.nx_abstract.proofs.turning.shell_turn.Goals as goal

pub tell_all-requires-clause-fits : goal.tell_all-requires-clause-fits
tell_all-requires-clause-fits g c =
    let q = c.args.shell.now.walk.command.call in
    subst (λ rs. FitShell q (replies_of rs)) (sym c.as_slice.ensures) (c.make.ensures.leaves q c.requires.formed.words (Own refl c.call.ensures.made.call c.call.ensures.made.words)).fits

pub returns-in-Some-clause-comes : goal.returns-in-Some-clause-comes
returns-in-Some-clause-comes g c = λ script s h.
    let p = g.P.Programs in
    let m = c.args.guests.now in
    let k = g.K.Kernel.state c.args.kernel.now in
    let told_call = c.call.result.now in
    sym (shell_calls p.thread_of p.globals_of (p.meaning m.programs) script (lives k) k c.args.shell.now m.threads.items.items m.globals.items.items s told_call c.call.ensures.made h)
    ∙ strayed_so p.thread_of p.globals_of (p.meaning m.programs) script (lives k) k c.args.shell.now m.threads.items.items m.globals.items.items s 1 1 told_call c.args.shell.now.walk.command.call.inputs (p.fault_of c.in-Some.why) c.call.ensures.made.inputs
    (subst (λ w. seen p.fault_of w ≡ wrong_start (p.meaning m.programs) script (step_of k 1 told_call).effect) c.in-Some.is (c.in_ok-why.ensures.wrong script)) h

pub returns-in_ok-tell_all-in-None-clause-waits : goal.returns-in_ok-tell_all-in-None-clause-waits
returns-in_ok-tell_all-in-None-clause-waits g c =
    let q = c.args.shell.now.walk.command.call in
    (c.make.ensures.leaves q c.requires.formed.words (Own refl c.call.ensures.made.call c.call.ensures.made.words)).waits c.tell_all.new.shell.walk.command.call
    (λ none. ap (λ (x : Shell). x.walk.command.call) (c.in_ok-tell_all-in-None.ensures.other (subst (λ rs. NoneForShell (replies_of rs)) (sym c.as_slice.ensures) none)))

pub returns-in_ok-tell_all-in-None-clause-comes : goal.returns-in_ok-tell_all-in-None-clause-comes
returns-in_ok-tell_all-in-None-clause-comes g c = λ script s h.
    let p = g.P.Programs in
    let m = c.args.guests.now in
    let n = c.make.new.guests in
    let o = c.tell_all.new.guests in
    let k = g.K.Kernel.state c.args.kernel.now in
    let k2 = g.K.Kernel.state c.make.new.kernel in
    let q = c.args.shell.now.walk.command.call in
    let told_call = c.call.result.now in
    subst (λ a. GoesOn p.thread_of p.globals_of script k2 c.tell_all.new.shell o.threads.items.items o.globals.items.items a) (shell_calls p.thread_of p.globals_of (p.meaning m.programs) script (lives k) k c.args.shell.now m.threads.items.items m.globals.items.items s told_call c.call.ensures.made h)
    (called_so p.thread_of p.globals_of (p.meaning m.programs) script (lives k) k k2 c.args.shell.now c.tell_all.new.shell m.threads.items.items n.threads.items.items o.threads.items.items m.globals.items.items n.globals.items.items o.globals.items.items s 1 1 told_call q.inputs
    (replies_of c.make.new.replies.replies) c.call.ensures.made.inputs c.make.ensures.state c.make.ensures.replies
    (subst (λ w. seen p.fault_of w ≡ wrong_start (p.meaning m.programs) script (step_of k 1 told_call).effect) c.in-None.is (c.in_ok-why.ensures.wrong script))
    (λ x w. c.in_ok-why.ensures.kept c.in-None.is script (lives k) (lives k2) x ((c.make.ensures.leaves q c.requires.formed.words (Own refl c.call.ensures.made.call c.call.ensures.made.words)).alive (lives k) (λ i a b. a)) w)
    (λ y w. subst (λ rs. StandsFor p.thread_of p.globals_of script (lives k2) k2 c.tell_all.new.shell o.threads.items.items o.globals.items.items (told (guests (p.meaning m.programs) script) y (replies_of rs))) c.as_slice.ensures
    (subst (λ ps. StandsFor p.thread_of p.globals_of script (lives k2) k2 c.tell_all.new.shell o.threads.items.items o.globals.items.items (told (guests (p.meaning ps) script) y (replies_of c.as_slice.result.now))) c.make.ensures.programs (c.in_ok-tell_all-in-None.ensures.tells script y w))) h)
