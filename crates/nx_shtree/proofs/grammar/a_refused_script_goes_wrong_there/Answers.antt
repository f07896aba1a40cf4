use Rattle.nx_shtree.proofs.Last.{script_spares}
use Rattle.nx_shtree.proofs.ScriptReads.{script_reads}
use Rattle.nx_shtree.proofs.grammar.a_refused_script_goes_wrong_there.Goals as goal

pub returns : goal.returns
returns c = λ limit ts why rest h e. c.ended_fault_is_first.ensures script_reads script_spares limit ts why rest h e
