use Rattle.std.proofs.Common.{◌≡◌, ◌++◌, drop, map}
use Rattle.nx_gate.specs.Gates.{kind_name, spaced}
use Rattle.nx_gate.proofs.listing_text.put_kinds.Given as goal

abbrev pub invariant-loop-kind : goal.invariant-loop-kind
invariant-loop-kind l = l.text ++ spaced (map kind_name (drop l.kind-index l.kinds)) ≡ l.fn.text ++ spaced (map kind_name l.kinds)
