use Rattle.nx_ccheck.specs.Files.{main_of}
use Rattle.nx_cfilecheck.proofs.Programs.{without_main, with_main}
use Rattle.nx_cfilecheck.proofs.file.finish.Goals as goal

pub returns-in-None : goal.returns-in-None
returns-in-None c = without_main c.args.rows.now c.args.known (main_of c.args.known) c.no_main.result c.in-None.ensures c.no_main.ensures

pub returns-in-Some : goal.returns-in-Some
returns-in-Some c = with_main c.args.rows.now c.args.known (main_of c.args.known) c.in-Some.main c.make_program.result c.in-Some.ensures c.make_program.ensures
