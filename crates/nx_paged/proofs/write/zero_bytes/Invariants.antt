use Rattle.std.proofs.Common.{◌≡◌, ◌*◌, length, replicate}
use Rattle.nx_paged.specs.Writing.{WritesAll}
use Rattle.nx_paged.proofs.write.zero_bytes.Given as goal

-- the first pages are zeros
abbrev pub invariant-loop-k : goal.invariant-loop-k
invariant-loop-k l = record {
  writes : WritesAll l.fn.ram l.ram l.fn.satp l.fn.at l.fn.size 0 (replicate (4096 * l.k) 0);
  long : length l.ram ≡ length l.fn.ram;
}
