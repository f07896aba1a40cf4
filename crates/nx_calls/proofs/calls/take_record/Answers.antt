use Rattle.std.proofs.Common.{map, ap, ◌∙◌}
use Rattle.nx_calls.proofs.Judging.{takes_wrong, takes_none, takes_some}
use Rattle.nx_calls.proofs.calls.take_record.Goals as goal

pub returns-in-Err : goal.returns-in-Err
returns-in-Err g c =
    takes_wrong _ _ _ c.args.rows.now.items c.args.row.now _ c.in-Err.stop c.deref.ensures.value (ap (map (λ f. f.now)) c.deref-2.ensures.value ∙ c.in-Ok.ensures) c.in-Err.ensures

pub returns-in-Ok-None : goal.returns-in-Ok-None
returns-in-Ok-None g c =
    let said = rw c.in-Ok-None.field-0-is at c.in-Ok-None.ensures in
    takes_none _ _ _ c.args.row.now _ c.deref.ensures.value (ap (map (λ f. f.now)) c.deref-2.ensures.value ∙ c.in-Ok.ensures) said

pub returns-in-Ok-push : goal.returns-in-Ok-push
returns-in-Ok-push g c =
    let said = rw c.in-Ok-Some.field-0-is at c.in-Ok-Some.ensures in
    takes_some _ _ _ _ c.args.row.now _ c.in-Ok-Some.row c.deref.ensures.value (ap (map (λ f. f.now)) c.deref-2.ensures.value ∙ c.in-Ok.ensures) said c.in-Ok-push.ensures.items
