use Rattle.std.proofs.Common.{arith, subst, ◌∙◌}
use Rattle.nx_ksys.specs.Gathered.{reply_of}
use Rattle.nx_shrun.specs.Systems.{tell}
use Rattle.nx_shrun.specs.AbstractRuns.{guests}
use Rattle.nx_abstract.specs.Standing.{StandsFor, lives}
use Rattle.nx_abstract.proofs.Looping.{item_fits, item_same, told_left, told_all}
use Rattle.nx_abstract.proofs.telling.tell_all.Goals as goal

pub tell_one-requires-clause-room : goal.tell_one-requires-clause-room
tell_one-requires-clause-room g c = item_fits c.args.shell.now c.loop-reply.shell c.args.replies.now c.loop-reply.reply-index c.reply-item.result c.loop-reply-test.true c.reply-item.is c.loop-reply.invariant.same c.requires.fits

pub loop-reply-preserved : goal.loop-reply-preserved
loop-reply-preserved g c =
    let k = g.K.Kernel.state c.args.kernel.now in
    let p = g.P.Programs in
    let r = c.reply-item.result in
    record {
      ready = c.tell_one.ensures.ready;
      programs = c.tell_one.ensures.programs ∙ c.loop-reply.invariant.programs;
      same = item_same c.args.shell.now c.loop-reply.shell c.tell_one.new.shell c.args.replies.now c.loop-reply.reply-index r c.loop-reply-test.true c.reply-item.is c.loop-reply.invariant.same c.tell_one.ensures.other;
      tells = λ script s h.
          let w = c.loop-reply.invariant.tells script s h in
          let o = guests (p.meaning c.args.guests.now.programs) script in (
            tell o w.0 (reply_of r),
            subst (λ ps. StandsFor p.thread_of p.globals_of script (lives k) k c.tell_one.new.shell c.tell_one.new.guests.threads.items.items c.tell_one.new.guests.globals.items.items (tell (guests (p.meaning ps) script) w.0 (reply_of r))) c.loop-reply.invariant.programs (c.in_ok-tell_one.ensures.tells script w.0 w.1),
            told_left o w.0 s c.args.replies.now c.loop-reply.reply-index r c.loop-reply-test.true c.reply-item.is w.2,
          );
    }

pub returns-clause-tells : goal.returns-clause-tells
returns-clause-tells g c = λ script s h.
    let k = g.K.Kernel.state c.args.kernel.now in
    let p = g.P.Programs in
    let w = c.loop-reply.invariant.tells script s h in
    subst (λ x. StandsFor p.thread_of p.globals_of script (lives k) k c.loop-reply.shell c.loop-reply.guests.threads.items.items c.loop-reply.guests.globals.items.items x)
    (told_all (guests (p.meaning c.args.guests.now.programs) script) w.0 s c.args.replies.now c.loop-reply.reply-index (omega (arith, c.loop-reply-test.false)) w.2) w.1
