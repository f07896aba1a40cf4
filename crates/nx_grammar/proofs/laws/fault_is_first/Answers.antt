use Rattle.nx_grammar.proofs.Faults.{faults}
use Rattle.nx_grammar.proofs.laws.fault_is_first.Goals as goal

pub returns : goal.returns
returns g c =
    let it = g.G.Grammar in
    λ law limit ts kind token more e. faults it.reading it.has it.follows it.begins it.last it.margin law limit ts kind token more e
