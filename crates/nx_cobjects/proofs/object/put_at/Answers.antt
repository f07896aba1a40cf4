use Rattle.nx_cobjects.proofs.PutBytes.{put_within}
use Rattle.nx_cobjects.proofs.object.put_at.Goals as goal

pub returns : goal.returns
returns c = put_within c.args.bytes.now c.copy_from_slice.new.self c.args.new.now c.args.at c.copy_from_slice.ensures.after
