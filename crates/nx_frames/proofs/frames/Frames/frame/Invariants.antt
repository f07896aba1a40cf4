use Rattle.std.proofs.Common.{◌≡◌}
use Rattle.nx_frames.specs.Chains.{frame_after}
use Rattle.nx_frames.proofs.frames.Frames.frame.Given as goal

abbrev pub invariant-loop-step : goal.invariant-loop-step
invariant-loop-step l = l.at ≡ frame_after l.self-inside.next.items l.taken.head l._step
