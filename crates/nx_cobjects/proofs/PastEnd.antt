-- Lists of objects past their end.
use Rattle.std.proofs.Common.{◌≡◌, ℕ, zero, suc, ◌+◌, ◌≤◌, List, [], ◌∷◌, length, refl, ap, ◌∙◌, arith}
use Rattle.std.specs.Prelude.{slice_set}
use Rattle.nx_cobjects.specs.Groups.{Object}
use Rattle.nx_cobjects.specs.Memory.{object_in, ended, end_arrays}

set_past : (os : List Object) (i : ℕ) (o : Object) → length os ≤ i → slice_set os i o ≡ os
set_past [] i o h = refl
set_past (x ∷ os) zero o h = absurd (omega arith)
set_past (x ∷ os) (suc i) o h = ap (λ (l : List Object). x ∷ l) (set_past os i o (omega arith))

pub end_past : (n : ℕ) (os : List Object) (from : ℕ) → length os ≤ from → end_arrays os from n ≡ os
end_past zero os from h = refl
end_past (suc n) os from h =
    ap (λ (l : List Object). end_arrays l (from + 1) n) (set_past os from (ended (object_in os from)) h) ∙ end_past n os (from + 1) (omega arith)
