use Rattle.std.proofs.Common.{◌≡◌, [], drop}
use Rattle.nx_ccheck.specs.Defined.{functions_from}
use Rattle.nx_cfilecheck.proofs.heads.known_functions.Given as goal

-- With those that are left, the functions so far are all of them.
abbrev pub invariant-loop-x : goal.invariant-loop-x
invariant-loop-x l = functions_from l.place l.functions (drop l.x-index l.externals) ≡ functions_from 0 [] l.externals
