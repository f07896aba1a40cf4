use Rattle.std.proofs.Common.{◌≡◌, ℕ, List, length}
use Rattle.nx_shrun.specs.Steps.{abandon}
use Rattle.nx_shstep.proofs.going.put_abandons.Given as goal

abbrev pub invariant-loop : goal.invariant-loop
invariant-loop l = record {
  steps : (fds : List ℕ) → length fds ≡ l.counter → l.todo.steps ≡ abandon fds;
  room : l.todo.room ≡ l.fn.todo.room;
  long : length l.todo.steps ≡ l.counter;
}
