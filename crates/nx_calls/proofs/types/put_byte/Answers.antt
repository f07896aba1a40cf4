use Rattle.std.proofs.Common.{sym, ◌∙◌}
use Rattle.nx_calls.proofs.Pieces.{put_on}
use Rattle.nx_calls.proofs.types.put_byte.Goals as goal

pub returns-clause-text : goal.returns-clause-text
returns-clause-text c =
    put_on c.push-2.result c.args.text.now c.put_word.new.text c.push-2.new.self c.args.word.now c.clear.new.self c.args.byte c.requires
    (sym c.is_word_byte.ensures ∙ c.if-is_word_byte.false) c.in_ok-put_word.ensures c.clear.ensures c.push-2.ensures.ok
