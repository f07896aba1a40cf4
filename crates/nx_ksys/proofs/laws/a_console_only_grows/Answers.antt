use Rattle.nx_ksys.proofs.Counted.{step_counts}
use Rattle.nx_ksys.proofs.laws.a_console_only_grows.Goals as goal

pub returns : goal.returns
returns c = λ k thread which words inputs. (step_counts k thread which words inputs).console
