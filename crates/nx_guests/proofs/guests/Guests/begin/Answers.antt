use Rattle.nx_guests.specs.Guests.{start_of}
use Rattle.nx_guests.proofs.Keeping.{thread_kept}
use Rattle.nx_guests.proofs.guests.Guests.begin.Goals as goal

pub returns-then-start-clause-kept : goal.returns-then-start-clause-kept
returns-then-start-clause-kept g c = λ script live later m lives h.
    thread_kept g.P.Programs.thread_of g.P.Programs.globals_of (g.P.Programs.meaning c.args.self.now.programs) script live later c.args.self.now.threads.items.items c.put.new.self.items.items c.args.self.now.globals.items.items m
    (start_of c.args.start) c.args.words.now c.in_ok-thread.thread c.if-start.true c.in_ok-thread.ensures c.in_ok-put.ensures lives h

pub returns-clause-kept : goal.returns-clause-kept
returns-clause-kept g c = λ script live later m lives h. c.in_ok-begin_group.ensures.kept script live later m c.args.words.now c.if-start.false lives h
