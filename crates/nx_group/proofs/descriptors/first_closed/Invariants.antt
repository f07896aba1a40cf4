use Rattle.std.proofs.Common.{◌≡◌, drop}
use Rattle.std.specs.Option.{is_none}
use Rattle.std.specs.List.{position_from}
use Rattle.nx_group.proofs.descriptors.first_closed.Given as goal

abbrev pub invariant-loop-fd : goal.invariant-loop-fd
invariant-loop-fd l = position_from is_none l.fd (drop l.fd l.descriptors) ≡ position_from is_none 0 l.descriptors
