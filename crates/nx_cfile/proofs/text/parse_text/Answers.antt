use Rattle.std.proofs.Common.{subst}
use Rattle.nx_cparse.specs.Answers.{signs_of, IsParsed}
use Rattle.nx_cfile.proofs.Texts.{of_tokens}
use Rattle.nx_cfile.proofs.text.parse_text.Goals as goal

pub returns-in-Ok-clause-read : goal.returns-in-Ok-clause-read
returns-in-Ok-clause-read c =
    of_tokens c.args.bytes.now c.in-Ok.found.items c.parse.result c.in-Ok.ensures.read
    (subst (λ ts. IsParsed (signs_of ts) c.parse.result) c.as_slice.ensures.value c.parse.ensures.read)
