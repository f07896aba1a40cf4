use Rattle.std.proofs.Common.{ap, sym, ◌∙◌}
use Rattle.std.specs.Prelude.{Some}
use Rattle.nx_path.proofs.WalkLemmas.{refused_by_part, refused_by_length, accepted}
use Rattle.nx_path.proofs.normal.checked_path.Goals as goal

pub returns-then-not-are_short : goal.returns-then-not-are_short
returns-then-not-are_short c = λ kept e f. refused_by_part _ kept f (sym c.are_short.ensures ∙ c.if-not-are_short.true)

pub returns-then-text-gt255 : goal.returns-then-text-gt255
returns-then-text-gt255 c = λ kept e f. refused_by_length _ kept e c.if-text-gt255.true

pub returns : goal.returns
returns c = λ kept e f. ap Some c.to_path.ensures ∙ accepted c.args.text.now c.args.lengths.now kept e f (sym c.are_short.ensures ∙ c.if-not-are_short.false) c.if-text-gt255.false
