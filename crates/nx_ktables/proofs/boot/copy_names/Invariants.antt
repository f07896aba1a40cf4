use Rattle.std.proofs.Common.{◌≡◌, take}
use Rattle.nx_ktables.proofs.boot.copy_names.Given as goal

abbrev pub invariant-loop-program : goal.invariant-loop-program
invariant-loop-program l = l.names.items ≡ take l.program-index l.programs
