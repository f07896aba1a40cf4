use Rattle.nx_ksys.proofs.Counted.{step_counts}
use Rattle.nx_ksys.proofs.laws.a_call_counts_one.Goals as goal

pub returns : goal.returns
returns c = λ k thread which words inputs. (step_counts k thread which words inputs).calls
