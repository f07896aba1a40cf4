use Rattle.nx_cobjects.proofs.NoText.{no_text}
use Rattle.nx_cobjects.proofs.buffers.text_in.Goals as goal

pub returns-in-None : goal.returns-in-None
returns-in-None c = no_text c.args.objects.now c.args.i c.args.at c.in-None.ensures.lookup.3
