use Rattle.nx_cparse.proofs.FileReads.{file_reads, file_spares}
use Rattle.nx_cparse.proofs.grammar.a_refused_file_goes_wrong_there.Goals as goal

pub returns : goal.returns
returns c = λ limit ts why rest h e. c.ended_fault_is_first.ensures file_reads file_spares limit ts why rest h e
