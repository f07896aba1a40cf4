use Rattle.std.proofs.Common.{◌≡◌, ◌+◌, ◌++◌, ◌≤◌, length, map}
use Rattle.nx_rv.specs.Table.{encode_of}
use Rattle.nx_gate.specs.Proxies.{moves}
use Rattle.nx_gate.proofs.words.make_words.Given as goal

abbrev pub invariant-loop-i : goal.invariant-loop-i
invariant-loop-i l =
    record {
      few : length l.words.items + l.i ≤ 6;
      words : l.words.items ++ map encode_of (moves l.i) ≡ map encode_of (moves (length l.gate.kinds.items));
    }

abbrev pub decreases-loop-i : goal.decreases-loop-i
decreases-loop-i l = l.i
