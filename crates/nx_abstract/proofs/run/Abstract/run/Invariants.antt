use Rattle.std.proofs.Common.{◌≡◌, ◌≤◌, ◌+◌, true, List}
use Rattle.nx_shtree.specs.Trees.{Item}
use Rattle.nx_shrun.specs.Systems.{System}
use Rattle.nx_shrun.specs.AbstractRuns.{Threads}
use Rattle.nx_abstract.specs.Running.{IsRunning, HasCome, WhereGoing, is_going}
use Rattle.nx_abstract.proofs.run.Abstract.run.Given as goal

abbrev pub invariant-loop : goal.invariant-loop
invariant-loop g l =
    let p = g.P.Programs in
    record {
      keeps : g.K.Kernel.keeps l.self.kernel;
      programs : l.self.guests.programs ≡ l.fn.self.guests.programs;
      running : WhereGoing l.self.stop (IsRunning p.thread_of p.globals_of (g.K.Kernel.state l.self.kernel) l.self.shell l.self.guests.threads.items.items l.self.guests.globals.items.items l.self.replies.room l.self.steps);
      comes : (script : List Item) (first : System (Threads p.AllGlobals p.AllThreads))
          → HasCome p.thread_of p.globals_of p.fault_of (p.meaning l.fn.self.guests.programs) script first (g.K.Kernel.state l.fn.self.kernel) l.fn.self.shell l.fn.self.guests.threads.items.items l.fn.self.guests.globals.items.items l.fn.self.steps l.fn.self.stop
          → HasCome p.thread_of p.globals_of p.fault_of (p.meaning l.fn.self.guests.programs) script first (g.K.Kernel.state l.self.kernel) l.self.shell l.self.guests.threads.items.items l.self.guests.globals.items.items l.self.steps l.self.stop;
      most : l.self.steps ≤ l.fn.self.steps + l.counter;
      all : is_going l.self.stop ≡ true → l.self.steps ≡ l.fn.self.steps + l.counter;
    }
