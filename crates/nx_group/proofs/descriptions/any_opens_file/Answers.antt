use Rattle.std.proofs.Common.{◌∙◌}
use Rattle.nx_group.proofs.Keys.{any_seen}
use Rattle.nx_group.proofs.descriptions.any_opens_file.Goals as goal

pub returns : goal.returns
returns c = c.any_key_opens.ensures ∙ any_seen c.args.place c.args.slab.now c.args.keys.now
