use Rattle.std.proofs.Common.{◌∙◌, subst}
use Rattle.nx_cstmt.specs.Reading.{part_pick}
use Rattle.nx_cparse.specs.Reading.{unit_at}
use Rattle.nx_cparse.specs.Answers.{signs_of, IsAnswerOf}
use Rattle.nx_cparse.proofs.Parsed.{ends, parsed, given}
use Rattle.nx_cparse.proofs.parser.parse_by.Goals as goal

pub returns-clause-read : goal.returns-clause-read
returns-clause-read g c =
    parsed (signs_of c.args.tokens.now) c.parse_signs.result (ends c.requires.ended)
    (subst (λ ts. IsAnswerOf c.parse_signs.result (unit_at part_pick 64 ts)) (c.as_slice.ensures.value ∙ c.in_ok-signs.ensures) c.parse_signs.ensures)

pub returns-clause-only : goal.returns-clause-only
returns-clause-only g c =
    given (signs_of c.args.tokens.now) c.parse_signs.result
    (subst (λ ts. IsAnswerOf c.parse_signs.result (unit_at part_pick 64 ts)) (c.as_slice.ensures.value ∙ c.in_ok-signs.ensures) c.parse_signs.ensures)
