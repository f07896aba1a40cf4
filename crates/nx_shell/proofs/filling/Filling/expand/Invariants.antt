use Rattle.std.proofs.Common.{◌≡◌, length}
use Rattle.nx_shell.specs.Kept.{IsKept, kept_spread, rest_in}
use Rattle.nx_shell.proofs.filling.Filling.expand.Given as goal

abbrev pub invariant-loop : goal.invariant-loop
invariant-loop l = record {
  same : kept_spread l.status l.self.words.words l.self.text (rest_in l.simple l.self) ≡ kept_spread l.status l.fn.self.words.words l.fn.self.text (rest_in l.simple l.fn.self);
  kept : IsKept l.self;
  room : l.self.words.room ≡ l.fn.self.words.room;
  command : l.command ≡ l.fn.command;
}

abbrev pub decreases-loop : goal.decreases-loop
decreases-loop l = length (rest_in l.simple l.self)
