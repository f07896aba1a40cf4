use Rattle.nx_config.proofs.Configuration.{accepted_by, refused_by}
use Rattle.nx_config.proofs.config.read_config.Goals as goal

pub returns-clause-accepted : goal.returns-clause-accepted
returns-clause-accepted c = accepted_by c.args.bytes.now _ c.configured.ensures

pub returns-clause-refused : goal.returns-clause-refused
returns-clause-refused c = refused_by c.args.bytes.now _ c.configured.ensures
