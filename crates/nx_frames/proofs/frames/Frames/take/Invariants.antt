use Rattle.std.proofs.Common.{◌≡◌, ◌-◌, ◌≤◌}
use Rattle.nx_frames.specs.Chains.{chain, frame_after}
use Rattle.nx_frames.specs.Zeros.{AreZeroed}
use Rattle.nx_frames.proofs.frames.Frames.take.Given as goal

-- the frames so far are zeros
abbrev pub invariant-loop-taken : goal.invariant-loop-taken
invariant-loop-taken l = record {
  at : l.at ≡ frame_after l.self-inside.next.items l.self-inside.head l._taken;
  last : 1 ≤ l._taken → l.tail ≡ frame_after l.self-inside.next.items l.self-inside.head (l._taken - 1);
  zeroed : AreZeroed l.fn.ram l.ram (chain l.self-inside.first l.self-inside.next.items l.self-inside.head l._taken);
}
