use Rattle.std.proofs.Common.{◌≡◌, drop, List}
use Rattle.nx_ksys.specs.Gathered.{replies_of}
use Rattle.nx_shtree.specs.Trees.{Item}
use Rattle.nx_shrun.specs.Systems.{System, told}
use Rattle.nx_shrun.specs.AbstractRuns.{Threads, guests}
use Rattle.nx_shell.specs.Shells.{IsReady}
use Rattle.nx_abstract.specs.Standing.{StandsFor, lives}
use Rattle.nx_abstract.proofs.Looping.{NoneBefore}
use Rattle.nx_abstract.proofs.telling.tell_all.Given as goal

abbrev pub invariant-loop-reply : goal.invariant-loop-reply
invariant-loop-reply g l =
    let k = g.K.Kernel.state l.kernel in
    let p = g.P.Programs in
    record {
      ready : IsReady l.shell;
      programs : l.guests.programs ≡ l.fn.guests.programs;
      same : NoneBefore l.reply-index (replies_of l.replies) → l.shell ≡ l.fn.shell;
      tells : (script : List Item) (s : System (Threads p.AllGlobals p.AllThreads))
          → StandsFor p.thread_of p.globals_of script (lives k) k l.fn.shell l.fn.guests.threads.items.items l.fn.guests.globals.items.items s
          → (x : System (Threads p.AllGlobals p.AllThreads)) × StandsFor p.thread_of p.globals_of script (lives k) k l.shell l.guests.threads.items.items l.guests.globals.items.items x
          × (told (guests (p.meaning l.fn.guests.programs) script) x (drop l.reply-index (replies_of l.replies)) ≡ told (guests (p.meaning l.fn.guests.programs) script) s (replies_of l.replies));
    }
