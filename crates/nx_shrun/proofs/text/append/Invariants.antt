use Rattle.std.proofs.Common.{◌≡◌, ◌≤◌, ◌+◌, ◌-◌, ◌++◌, length, drop}
use Rattle.nx_shrun.proofs.text.append.Given as goal

abbrev pub invariant-loop-byte : goal.invariant-loop-byte
invariant-loop-byte l = record {
  same : l.text ++ drop l.byte-index l.bytes ≡ l.fn.text ++ l.bytes;
  room : length l.text + (length l.bytes - l.byte-index) ≤ 4096;
}
