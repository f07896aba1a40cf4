use Rattle.nx_called.proofs.Called.{done}
use Rattle.nx_called.proofs.laws.calls_and_returns_are_done.Goals as goal

pub returns : goal.returns
returns c = done
