use Rattle.std.proofs.Common.{◌≡◌, length}
use Rattle.nx_loop.proofs.board.loaded_ram.Given as goal

abbrev pub invariant-loop-i : goal.invariant-loop-i
invariant-loop-i l = length l.ram ≡ length l.initial.ram
