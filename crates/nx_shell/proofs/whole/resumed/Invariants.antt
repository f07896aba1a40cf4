use Rattle.std.proofs.Common.{drop}
use Rattle.nx_ksys.specs.Gathered.{replies_of}
use Rattle.nx_shrun.specs.ShellCalls.{started, after}
use Rattle.nx_shell.specs.Shells.{IsReady}
use Rattle.nx_shell.proofs.Resuming.{IsGoing}
use Rattle.nx_shell.proofs.whole.resumed.Given as goal

abbrev pub invariant-loop-reply : goal.invariant-loop-reply
invariant-loop-reply l = record {
  ready : IsReady l.shell;
  goes : IsGoing l.shell (drop l.reply-index (replies_of l.replies)) (after (started l.script) (replies_of l.replies));
}
