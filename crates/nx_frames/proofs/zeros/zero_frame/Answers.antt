use Rattle.std.proofs.Common.{◌+◌, ◌∙◌, ap, get_or}
use Rattle.nx_frames.proofs.Zeroed.{zeroed_is, others_stay}
use Rattle.nx_frames.proofs.zeros.zero_frame.Goals as goal

pub returns-clause-zeroed : goal.returns-clause-zeroed
returns-clause-zeroed c k l =
    ap (λ r. get_or r (c.args.place + k) 0) c.zero.ensures.bytes ∙ zeroed_is c.args.ram.now c.args.place c.args.size k c.requires.size c.requires.inside l

pub returns-clause-others : goal.returns-clause-others
returns-clause-others c k out =
    ap (λ r. get_or r k 0) c.zero.ensures.bytes ∙ others_stay c.args.ram.now c.args.place c.args.size k c.requires.size c.requires.inside out
