use Rattle.nx_guests.specs.Guests.{start_of}
use Rattle.nx_guests.proofs.Keeping.{group_kept}
use Rattle.nx_guests.proofs.guests.Guests.begin_group.Goals as goal

pub returns-clause-kept : goal.returns-clause-kept
returns-clause-kept g c = λ script live later m words is lives h.
    group_kept g.P.Programs.thread_of g.P.Programs.globals_of (g.P.Programs.meaning c.args.self.now.programs) script live later c.args.self.now.threads.items.items c.put-2.new.self.items.items c.args.self.now.globals.items.items c.put.new.self.items.items m
    (start_of c.args.start) words c.in_ok-thread.thread c.in_ok-globals.globals is c.in_ok-thread.ensures c.in_ok-globals.ensures c.in_ok-put-2.ensures c.in_ok-put.ensures lives h
