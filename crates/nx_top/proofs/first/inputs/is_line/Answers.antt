use Rattle.std.proofs.Common.{◌≡◌, ◌∷◌, [], ◌++◌, IsTrue, Some, ℕ, List, Bool, bytes_eq, sym, ap, ◌∙◌}
use Rattle.std.specs.Cmp.{unsigned_Decides}
use Rattle.std.proofs.lemmas.List.{append_cancel_right}
use Rattle.std.proofs.lemmas.Slice.Eq.{bytes_eq-Decides, strip_suffix_is}
use Rattle.nx_top.proofs.first.inputs.is_line.Goals as goal

line : (bytes front text : List ℕ) (r : Bool) → bytes ≡ front ++ 10 ∷ [] → r ≡ bytes_eq front text → (IsTrue r → bytes ≡ text ++ 10 ∷ []) × (bytes ≡ text ++ 10 ∷ [] → IsTrue r)
line bytes front text r is e =
    let d = bytes_eq-Decides front text in
    (λ t. is ∙ ap (λ l. l ++ 10 ∷ []) (d.0 (sym e ∙ t)), λ same. e ∙ d.1 (append_cancel_right front text (10 ∷ []) (sym is ∙ same)))

pub returns-in-Some : goal.returns-in-Some
returns-in-Some c =
    let is = strip_suffix_is unsigned_Decides c.args.bytes.now (10 ∷ []) (Some c.in-Some.front) c.in-Some.ensures.cases in
    line _ _ _ _ is c.eq.ensures
