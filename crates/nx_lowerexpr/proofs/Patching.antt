-- An operation that is set in a list written from its end.
use Rattle.std.proofs.Common.{◌≡◌, ℕ, zero, suc, ◌-◌, ◌<◌, List, [], ◌∷◌, ◌++◌, length, sym, ap, ◌∙◌, arith}
use Rattle.std.specs.Prelude.{slice_set, reverse}
use Rattle.std.proofs.Math.Seq.{set-append_seam, set-append_left}
use Rattle.std.proofs.lemmas.List.{reverse-append, length-reverse}
use Rattle.nx_slot.specs.declared.op.SlotOp.{SlotOp}

reverse_front : (a : SlotOp) (l : List SlotOp) → reverse (a ∷ l) ≡ reverse l ++ a ∷ []
reverse_front a l = reverse-append (a ∷ []) l

pub reverse_set : (l : List SlotOp) (i : ℕ) (x : SlotOp) → i < length l → reverse (slice_set l i x) ≡ slice_set (reverse l) (length l - suc i) x
reverse_set [] i x h = absurd (omega arith)
reverse_set (a ∷ l) zero x h =
    let e : length (a ∷ l) - suc 0 ≡ length (reverse l) = omega (arith, length-reverse l) in
    reverse_front x l ∙ sym (set-append_seam (reverse l) a [] x) ∙ ap (λ (i : ℕ). slice_set (reverse l ++ a ∷ []) i x) (sym e) ∙ ap (λ (r : List SlotOp). slice_set r (length (a ∷ l) - suc 0) x) (sym (reverse_front a l))
reverse_set (a ∷ l) (suc i) x h =
    let k = length l - suc i in
    let small : k < length (reverse l) = omega (arith, length-reverse l) in
    let e : length (a ∷ l) - suc (suc i) ≡ k = omega arith in
    reverse_front a (slice_set l i x) ∙ ap (λ (r : List SlotOp). r ++ a ∷ []) (reverse_set l i x (omega arith))
    ∙ sym (set-append_left (reverse l) (a ∷ []) k x small)
    ∙ ap (λ (i : ℕ). slice_set (reverse l ++ a ∷ []) i x) (sym e) ∙ ap (λ (r : List SlotOp). slice_set r (length (a ∷ l) - suc (suc i)) x) (sym (reverse_front a l))
