use Rattle.std.proofs.Common.{◌≡◌, ◌+◌, ◌-◌, length, replicate}
use Rattle.nx_base.specs.ByteLists.{put_bytes, AreBytes}
use Rattle.nx_ram.proofs.ram.Ram.zero.Given as goal

-- what is left to put gives what all gives
abbrev pub invariant-loop-i : goal.invariant-loop-i
invariant-loop-i l = record {
  long : length l.self-inside.bytes.items ≡ length l.fn.self;
  small : AreBytes l.self-inside.bytes.items;
  rest : put_bytes l.self-inside.bytes.items (l.fn.at + l.i) (replicate (l.fn.count - l.i) 0) ≡ put_bytes l.fn.self l.fn.at (replicate l.fn.count 0);
}
