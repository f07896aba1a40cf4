use Rattle.std.proofs.Common.{◌≡◌, ◌++◌, drop}
use Rattle.nx_gate.specs.Gates.{listing_of}
use Rattle.nx_gate.proofs.listing_text.listing.Given as goal

abbrev pub invariant-loop-gate : goal.invariant-loop-gate
invariant-loop-gate l = l.text ++ listing_of (drop l.gate-index l.gate-items) ≡ listing_of l.gate-items
