use Rattle.std.proofs.Common.{◌≡◌, List, [], ◌∷◌, ◌++◌, sym, ap, ◌∙◌, subst}
use Rattle.std.proofs.lemmas.List.{append-nil}
use Rattle.std.specs.Prelude.{OnOk}
use Rattle.nx_checked.specs.declared.checked.UsedCall.{UsedCall}
use Rattle.nx_ccheck.specs.Files.{call_at}
use Rattle.nx_cfilecheck.proofs.file.push_call.Goals as goal

pub returns-in-None : goal.returns-in-None
returns-in-None c = sym (ap (λ o. c.args.calls.now ++ call_at o) (sym c.in-None.ensures) ∙ append-nil c.args.calls.now)

pub returns-in_ok-call-in-Some : goal.returns-in_ok-call-in-Some
returns-in_ok-call-in-Some c =
    subst (λ (zs : List UsedCall). OnOk c.push.result (c.push.new.self ≡ c.args.calls.now ++ zs))
    (ap (λ (x : UsedCall). x ∷ []) c.in_ok-call-in-Some.ensures ∙ ap (λ o. call_at o) c.in-Some.ensures) c.push.ensures.ok
