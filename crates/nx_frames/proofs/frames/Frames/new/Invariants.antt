use Rattle.std.proofs.Common.{◌≡◌, ℕ, ◌+◌, ◌<◌, length, slice_index}
use Rattle.nx_frames.proofs.frames.Frames.new.Given as goal

-- each frame is followed by the next
abbrev pub invariant-loop-i : goal.invariant-loop-i
invariant-loop-i l = record {
  long : length l.next.items ≡ l.i;
  links : (k : ℕ) → k < l.i → slice_index l.next.items k ≡ k + 1;
}
