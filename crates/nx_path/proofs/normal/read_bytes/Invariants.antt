use Rattle.std.proofs.Common.{◌≤◌, ◌+◌, length, take}
use Rattle.std.specs.Prelude.{fold}
use Rattle.nx_path.specs.Walks.{Walk, IsWalk, after_byte}
use Rattle.nx_path.proofs.normal.read_bytes.Given as goal

abbrev pub invariant-loop-byte : goal.invariant-loop-byte
invariant-loop-byte l = record {
  walk : (w : Walk) → IsWalk l.fn.text.items l.fn.lengths.items l.fn.part.items w → IsWalk l.text.items l.lengths.items l.part.items (fold after_byte w (take l.byte-index l.bytes));
  text : length l.text.items + length l.part.items ≤ length l.fn.text.items + length l.fn.part.items + l.byte-index;
  lengths : length l.lengths.items ≤ length l.fn.lengths.items + l.byte-index;
}
