use Rattle.nx_path.proofs.BootLemmas.{no_names}
use Rattle.nx_objects.proofs.tests.at_boot.Goals as goal

pub boot-requires-clause-names : goal.boot-requires-clause-names
boot-requires-clause-names c = no_names
