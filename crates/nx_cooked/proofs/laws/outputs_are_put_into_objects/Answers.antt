use Rattle.nx_cooked.proofs.Delivering.{put_all}
use Rattle.nx_cooked.proofs.laws.outputs_are_put_into_objects.Goals as goal

pub returns : goal.returns
returns c = put_all
