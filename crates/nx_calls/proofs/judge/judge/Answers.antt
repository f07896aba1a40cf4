use Rattle.std.proofs.Common.{ℕ, List, subst, arith}
use Rattle.std.proofs.lemmas.List.{length-map}
use Rattle.nx_calls.specs.Rows.{FewerFields}
use Rattle.nx_calls.specs.Answers.{IsSaid}
use Rattle.nx_calls.proofs.Judging.{four_fields}
use Rattle.nx_calls.proofs.judge.judge.Goals as goal

pub returns-in_default : goal.returns-in_default
returns-in_default g c = let l = c.in_default.len_below in FewerFields _ (omega (arith, l, length-map c.args.fields.now (λ f. f.now)))

pub returns-in-len4-up : goal.returns-in-len4-up
returns-in-len4-up g c =
    let P : List (List ℕ) → Type 0 = λ fields. IsSaid (g.M.Meanings.meaning c.args.meanings.now) c.args.rows.now fields c.said.result in
    subst P (four_fields _ c.args.fields.now c.in-len4-up.len_at_least) (c.said.ensures _)
