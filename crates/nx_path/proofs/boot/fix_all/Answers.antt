use Rattle.nx_path.proofs.BootLemmas.{first_count, first_length}
use Rattle.nx_path.proofs.boot.fix_all.Goals as goal

pub returns-clause-count : goal.returns-clause-count
returns-clause-count c = first_count c.fix_programs.new.live.entries c.args.programs.now c.fix_programs.ensures.entries

pub returns-clause-total : goal.returns-clause-total
returns-clause-total c = first_length c.args.programs.now
