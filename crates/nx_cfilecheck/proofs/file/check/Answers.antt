use Rattle.nx_cfilecheck.proofs.Programs.{typed_given, all_given}
use Rattle.nx_cfilecheck.proofs.file.check.Goals as goal

pub returns-clause-typed : goal.returns-clause-typed
returns-clause-typed c = typed_given c.args.rows.now c.args.unit.now c.check_file.result c.check_file.ensures

pub returns-clause-all : goal.returns-clause-all
returns-clause-all c = all_given c.args.rows.now c.args.unit.now c.check_file.result c.check_file.ensures
