use Rattle.nx_calling.proofs.Handing.{proxies}
use Rattle.nx_calling.proofs.laws.a_proxy_makes_its_call.Goals as goal

pub returns : goal.returns
returns c = proxies
