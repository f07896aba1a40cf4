use Rattle.std.proofs.Common.{◌∙◌, arith}
use Rattle.std.proofs.lemmas.Grind.{common_steps}
use Rattle.nx_ctok.proofs.Lexemes.{scan_word}
use Rattle.nx_ctok.proofs.scan.scan.Goals as goal

pub returns-then-is_word_start-clause-gives : goal.returns-then-is_word_start-clause-gives
returns-then-is_word_start-clause-gives c =
    c.with_kind.ensures ∙ scan_word c.args.bytes.now c.run-count.result c.word_kind.result (omega arith) (grind (arith, common_steps)) (grind (arith, common_steps)) (grind (arith, common_steps))
