use Rattle.std.proofs.Common.{Some, None, sym, ap, ◌∙◌, subst}
use Rattle.nx_ksys.specs.Gathered.{reply_of}
use Rattle.nx_guests.specs.Kept.{found, Puts}
use Rattle.nx_guests.proofs.Keeping.{answered_kept, twice}
use Rattle.nx_guests.proofs.guests.Guests.answer.Goals as goal

pub returns-in_ok-put-in-Some-take-2-clause-kept : goal.returns-in_ok-put-in-Some-take-2-clause-kept
returns-in_ok-put-in-Some-take-2-clause-kept g c = λ script live m row eg ep el h.
    let threads = c.args.self.now.threads.items.items in
    let globals = c.args.self.now.globals.items.items in
    answered_kept g.P.Programs.thread_of g.P.Programs.globals_of (g.P.Programs.meaning c.args.self.now.programs) script live threads c.put-in-Some-take.new.self.items.items globals c.put-in-Some-take-2.new.self.items.items m row (reply_of c.args.reply.now)
    c.in-Some-take.thread c.reply.new.thread c.in-Some.globals c.reply.new.globals c.args.program
    (sym c.in-Some-take.ensures.value) (ap (λ i. found globals i) eg ∙ sym c.in-Some.ensures.value) ep el c.in_ok-reply-in-Some-take.ensures
    (twice threads c.take-in-Some.new.self.items.items c.put-in-Some-take.new.self.items.items c.args.reply.now.tid None (Some c.reply.new.thread) c.in-Some-take.ensures.gone c.in_ok-put-in-Some-take.ensures)
    (subst (λ i. Puts globals c.put-in-Some-take-2.new.self.items.items i (Some c.reply.new.globals)) (sym eg)
    (twice globals c.take.new.self.items.items c.put-in-Some-take-2.new.self.items.items c.args.group None (Some c.reply.new.globals) c.in-Some.ensures.gone c.in_ok-put-in-Some-take-2.ensures)) h
