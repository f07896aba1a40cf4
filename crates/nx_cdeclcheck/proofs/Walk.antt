-- A walk over a list, one member after another, until the first fault.
use Rattle.std.proofs.Common.{◌≡◌, ℕ, ◌+◌, ◌<◌, ◌≤◌, List, [], ◌∷◌, length, drop, get_or, sym, ap, ◌∙◌, subst}
use Rattle.std.proofs.lemmas.List.{at_drop_more, drop_all}
use Rattle.std.specs.Prelude.{Result}
use Rattle.nx_ctok.specs.declared.fault.CFault.{CFault}
use Rattle.nx_crules.specs.Answers.{Fails}
use Rattle.nx_ctyping.specs.Checks.{◌>>=◌}
use Rattle.nx_ctyping.proofs.Binds.{kept}
use Rattle.nx_cleaves.proofs.Given.{fails_bind}

module _ {X D : Type 0} (step : D → X → Result D CFault) (walk : D → List X → Result D CFault) (none : (d : D) → walk d [] ≡ kept d) (more : (d : D) (x : X) (xs : List X) → walk d (x ∷ xs) ≡ (step d x >>= (λ e. walk e xs))) where
  next : (d e : D) (x : X) (xs : List X) → step d x ≡ kept e → walk d (x ∷ xs) ≡ walk e xs
  next d e x xs h = more d x xs ∙ ap (λ r. r >>= (λ e. walk e xs)) h

  pub goes_on : (d e : D) (xs : List X) (i : ℕ) (x : X) (r : Result D CFault) → i < length xs → get_or xs i x ≡ x → walk d (drop i xs) ≡ r → step d x ≡ kept e → walk e (drop (i + 1) xs) ≡ r
  goes_on d e xs i x r l g h f =
      sym (next d e x (drop (i + 1) xs) f) ∙ ap (λ z. walk d (z ∷ drop (i + 1) xs)) (sym g) ∙ sym (at_drop_more (λ zs. walk d zs) xs i x l) ∙ h

  pub stops : (e : CFault) (d : D) (xs : List X) (i : ℕ) (x : X) (r : Result D CFault) → i < length xs → get_or xs i x ≡ x → walk d (drop i xs) ≡ r → Fails e (step d x) → Fails e r
  stops e d xs i x r l g h f =
      subst (λ r. Fails e r) (sym (more d x (drop (i + 1) xs)) ∙ ap (λ z. walk d (z ∷ drop (i + 1) xs)) (sym g) ∙ sym (at_drop_more (λ zs. walk d zs) xs i x l) ∙ h)
      (fails_bind e (step d x) (λ e. walk e (drop (i + 1) xs)) f)

  pub all_done : (d : D) (xs : List X) (i : ℕ) (r : Result D CFault) → length xs ≤ i → walk d (drop i xs) ≡ r → r ≡ kept d
  all_done d xs i r l h = sym h ∙ ap (λ zs. walk d zs) (drop_all i xs l) ∙ none d
