use Rattle.nx_config.proofs.Texts.{plain_byte}
use Rattle.nx_config.proofs.quoted.take_byte.Goals as goal

pub returns : goal.returns
returns c = λ rest. plain_byte _ _ c.args.escaped c.args.byte rest c.if-escaped.false c.if-byte-eq92.false c.requires c.in_ok-push-2.ensures.ok
