use Rattle.nx_shell.specs.Shells.{IsReady}
use Rattle.nx_shell.proofs.tests.comes.Given as goal

abbrev pub invariant-loop-well : goal.invariant-loop-well
invariant-loop-well l = IsReady l.shell
