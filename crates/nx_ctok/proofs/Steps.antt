-- A step that takes bytes, made as often as it can be.
use Rattle.std.proofs.Common.{◌≡◌, ℕ, zero, suc, ◌<◌, ◌≤◌, List, length, refl, sym, ap, ◌∙◌, arith}
use Rattle.std.specs.Prelude.{Option, None, Some}
use Rattle.nx_ctok.specs.Comments.{go_on, steps, all_steps}

-- A step leaves less than there was.
pub record Shortens (step : List ℕ → Option (List ℕ)) : Type 0 where
  pub on : (bytes rest : List ℕ) → step bytes ≡ Some rest → length rest < length bytes

-- No step is made where nothing is left.
none_left : (step : List ℕ → Option (List ℕ)) → Shortens step → (bytes : List ℕ) → length bytes ≤ 0 → (o : Option (List ℕ)) → step bytes ≡ o → step bytes ≡ None
none_left step s bytes h None e = e
none_left step s bytes h (Some rest) e = absurd (omega (arith, s.on bytes rest e))

-- As many steps as there are bytes are enough.
steps_enough : (step : List ℕ → Option (List ℕ)) → Shortens step → (n m : ℕ) (bytes : List ℕ) → length bytes ≤ n → length bytes ≤ m → steps step n bytes ≡ steps step m bytes
unfolding steps
steps_enough step s zero zero bytes h k = refl
steps_enough step s zero (suc m) bytes h k = sym (ap (λ o. go_on o bytes (steps step m)) (none_left step s bytes h (step bytes) refl))
steps_enough step s (suc n) zero bytes h k = ap (λ o. go_on o bytes (steps step n)) (none_left step s bytes k (step bytes) refl)
steps_enough step s (suc n) (suc m) bytes h k = by (step bytes) refl (λ rest. steps_enough step s n m rest)
  where
    by : (o : Option (List ℕ)) → step bytes ≡ o → ((rest : List ℕ) → length rest ≤ n → length rest ≤ m → steps step n rest ≡ steps step m rest) → go_on o bytes (steps step n) ≡ go_on o bytes (steps step m)
    by None e i = refl
    by (Some rest) e i = let l : length rest < length bytes = s.on bytes rest e in i rest (omega arith) (omega arith)

-- Where a step is made, the others are made after it.
pub steps_more : (step : List ℕ → Option (List ℕ)) → Shortens step → (bytes rest : List ℕ) → step bytes ≡ Some rest → all_steps step bytes ≡ all_steps step rest
unfolding all_steps steps
steps_more step s bytes rest e = by (length bytes) refl
  where
    by : (n : ℕ) → length bytes ≡ n → steps step n bytes ≡ steps step (length rest) rest
    by zero h = absurd (omega (arith, s.on bytes rest e))
    by (suc n) h = ap (λ o. go_on o bytes (steps step n)) e ∙ steps_enough step s n (length rest) rest (omega (arith, s.on bytes rest e)) (omega arith)

-- Where none is made, it is over.
pub steps_over : (step : List ℕ → Option (List ℕ)) (bytes : List ℕ) → step bytes ≡ None → all_steps step bytes ≡ bytes
unfolding all_steps steps
steps_over step bytes e = by (length bytes)
  where
    by : (n : ℕ) → steps step n bytes ≡ bytes
    by zero = refl
    by (suc n) = ap (λ o. go_on o bytes (steps step n)) e
