use Rattle.nx_base.proofs.CallNames.{call_named-name_of}
use Rattle.nx_base.proofs.calls.each_call_has_its_name.Goals as goal

pub returns : goal.returns
returns c = call_named-name_of
