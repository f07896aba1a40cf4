-- A test of what stands in a list, place by place.
use Rattle.std.proofs.Common.{◌≡◌, ℕ, zero, suc, ◌+◌, ◌<◌, ◌≤◌, Bool, true, false, List, [], ◌∷◌, length, drop, refl, sym, ap, ◌∙◌, arith, add-one}
use Rattle.std.specs.Prelude.{Option, Some, None, slice_get, ◌||◌}
use Rattle.std.specs.List.{list_any}
use Rattle.nx_ksys.specs.Threads.{flat}

module _ {A : Type 0} (p : Option A → Bool) (law : p None ≡ false) where
  any_at : (xs : List (Option A)) (i : ℕ) (b : Bool) → p (flat (slice_get xs i)) ≡ b → list_any p (drop i xs) ≡ b || list_any p (drop (suc i) xs)
  any_at [] zero b e = let q : b ≡ false = sym e ∙ law in rw q refl
  any_at [] (suc i) b e = let q : b ≡ false = sym e ∙ law in rw q refl
  any_at (x ∷ xs) zero b e = ap (λ t. t || list_any p xs) e
  any_at (x ∷ xs) (suc i) b e = any_at xs i b e

  -- what passes is found
  pub any_found : (xs : List (Option A)) (i : ℕ) (b whole : Bool) → b ≡ p (flat (slice_get xs i)) → b ≡ true → list_any p (drop i xs) ≡ whole → true ≡ whole
  any_found xs i b whole e t h = sym (any_at xs i true (sym e ∙ t)) ∙ h

  -- and what doesn't is passed
  pub any_next : (xs : List (Option A)) (i : ℕ) (b whole : Bool) → b ≡ p (flat (slice_get xs i)) → b ≡ false → list_any p (drop i xs) ≡ whole → list_any p (drop (i + 1) xs) ≡ whole
  any_next xs i b whole e f h = rw add-one (sym (any_at xs i false (sym e ∙ f)) ∙ h)

  -- until none is left
  pub any_over : (xs : List (Option A)) (i : ℕ) (whole : Bool) → length xs ≤ i → list_any p (drop i xs) ≡ whole → false ≡ whole
  any_over [] zero whole le h = h
  any_over [] (suc i) whole le h = h
  any_over (x ∷ xs) zero whole le h = absurd (omega arith)
  any_over (x ∷ xs) (suc i) whole le h = any_over xs i whole (omega arith) h
