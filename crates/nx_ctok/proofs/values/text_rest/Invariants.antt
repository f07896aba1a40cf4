use Rattle.std.proofs.Common.{◌≡◌, ◌++◌, length}
use Rattle.nx_ctok.specs.Values.{text_rest_of}
use Rattle.nx_ctok.proofs.values.text_rest.Given as goal

abbrev pub invariant-loop-byte : goal.invariant-loop-byte
invariant-loop-byte l = l.found ++ text_rest_of l.rest ≡ text_rest_of l.bytes

abbrev pub decreases-loop-byte : goal.decreases-loop-byte
decreases-loop-byte l = length l.rest
