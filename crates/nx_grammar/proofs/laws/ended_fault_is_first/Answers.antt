use Rattle.nx_grammar.proofs.Faults.{ended_faults}
use Rattle.nx_grammar.proofs.laws.ended_fault_is_first.Goals as goal

pub returns : goal.returns
returns g c =
    let it = g.G.Grammar in
    λ law spares limit ts kind rest h e. ended_faults it.reading it.has it.follows it.begins it.last it.margin law spares limit ts kind rest h e
