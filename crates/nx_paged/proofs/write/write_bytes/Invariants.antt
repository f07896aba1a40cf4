use Rattle.std.proofs.Common.{◌≡◌, ◌*◌, length, take}
use Rattle.nx_base.specs.ByteLists.{AreBytes}
use Rattle.nx_paged.specs.Writing.{WritesAll}
use Rattle.nx_paged.proofs.write.write_bytes.Given as goal

-- the first pages are written
abbrev pub invariant-loop-k : goal.invariant-loop-k
invariant-loop-k l = record {
  writes : WritesAll l.fn.ram l.ram l.fn.satp l.fn.at l.fn.size 0 (take (4096 * l.k) l.fn.bytes);
  small : AreBytes l.ram;
  long : length l.ram ≡ length l.fn.ram;
}
