use Rattle.std.proofs.Common.{◌≡◌, ℕ, ◌+◌, ◌-◌, length}
use Rattle.nx_guests.specs.Kept.{found}
use Rattle.nx_guests.proofs.kept.Kept.reach.Given as goal

abbrev pub invariant-loop-self : goal.invariant-loop-self
invariant-loop-self g l = (n : ℕ) → found l.self.items.items n ≡ found l.fn.self.items.items n

abbrev pub decreases-loop-self : goal.decreases-loop-self
decreases-loop-self g l = l.number + 1 - length l.self.items.items
