use Rattle.std.proofs.Common.{◌≡◌, ◌++◌, drop}
use Rattle.nx_ccheck.specs.Globals.{elements_bytes}
use Rattle.nx_cfilecheck.proofs.contents.push_elements.Given as goal

-- The bytes so far, before those of the constants that are left, are all of them.
abbrev pub invariant-loop-constant : goal.invariant-loop-constant
invariant-loop-constant l = l.bytes ++ elements_bytes l.element (drop l.constant-index l.constants) ≡ l.fn.bytes ++ elements_bytes l.element l.constants
