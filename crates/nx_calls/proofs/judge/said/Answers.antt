use Rattle.std.proofs.Common.{◌≡◌, ℕ, List, map, false, true, sym, ap, ◌∙◌, subst}
use Rattle.nx_calls.specs.Rows.{is_c_name, declared_row, NoName, NoCondition, Left}
use Rattle.nx_calls.specs.Answers.{IsVerdict}
use Rattle.nx_calls.proofs.Judging.{said_taken}
use Rattle.nx_calls.proofs.judge.said.Goals as goal

pub returns-then-not-is_c_name : goal.returns-then-not-is_c_name
returns-then-not-is_c_name g c = λ header.
    let bad : is_c_name c.args.name.now ≡ false = sym c.is_c_name.ensures ∙ c.if-not-is_c_name.true in
    NoName _ header _ _ _ bad

pub returns-in-Err-Bad : goal.returns-in-Err-Bad
returns-in-Err-Bad g c = λ header.
    let good : is_c_name c.args.name.now ≡ true = sym c.is_c_name.ensures ∙ c.if-not-is_c_name.false in
    let none = rw c.in-Err-Bad.field-0-is at c.in-Err-Bad.ensures in
    NoCondition _ header _ _ _ good none

pub returns-in-Ok-false : goal.returns-in-Ok-false
returns-in-Ok-false g c = λ header.
    let good : is_c_name c.args.name.now ≡ true = sym c.is_c_name.ensures ∙ c.if-not-is_c_name.false in
    let worth = rw c.in-Ok-false.field-0-test at c.in-Ok-false.ensures in
    Left _ header _ _ _ good worth

pub returns-in-Ok : goal.returns-in-Ok
returns-in-Ok g c = λ header.
    let good : is_c_name c.args.name.now ≡ true = sym c.is_c_name.ensures ∙ c.if-not-is_c_name.false in
    let worth = rw c.in-Ok-true.field-0-test at c.in-Ok-true.ensures in
    let P : List (List ℕ) → Type 0 = λ types. IsVerdict c.declared_row.result (declared_row c.args.rows.now c.args.name.now c.args.return_type.now types) in
    let fields = ap (map (λ f. f.now)) c.deref.ensures.value ∙ c.in-Ok.ensures in
    said_taken _ _ _ header _ _ _ c.declared_row.result good worth (subst P fields c.declared_row.ensures)
