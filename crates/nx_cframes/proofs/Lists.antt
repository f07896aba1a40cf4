-- What is counted of a list from a place on, by its member there and those behind it.
use Rattle.std.proofs.Common.{◌≡◌, ℕ, ◌+◌, ◌*◌, ◌/◌, ◌<◌, List, [], ◌∷◌, length, drop, get_or, refl, sym, ap, ◌∙◌}
use Rattle.std.proofs.lemmas.List.{at_drop_more}
use Rattle.std.specs.Prelude.{max}
use Rattle.nx_checked.specs.declared.checked.CheckedExpr.{CheckedExpr}
use Rattle.nx_checked.specs.declared.checked.CheckedExpr.TheVariants as rust_expr
use Rattle.nx_checked.specs.declared.checked.CheckedExpr.TheOpen as form
use Rattle.nx_checked.specs.declared.checked.CheckedExpr.TheFolds.{fold-roll-CheckedExpr}
use Rattle.nx_checked.specs.declared.checked.CheckedStmt.{CheckedStmt}
use Rattle.nx_checked.specs.declared.checked.Shape.{Shape}
use Rattle.nx_checked.specs.Frames.{bytes_of, array_bytes, expr_values, place_values, values_of, values_in, all_initials, all_values}
use Rattle.nx_cframes.specs.Counts.{capped, argument_values, block_values}

module _ {X : Type 0} (whole : List X → ℕ) (first : X → ℕ → ℕ) (more : (x : X) (xs : List X) → whole (x ∷ xs) ≡ first x (whole xs)) where
  one_more : (xs : List X) (n m : ℕ) (x : X) → m ≡ n + 1 → n < length xs → get_or xs n x ≡ x → first x (whole (drop m xs)) ≡ whole (drop n xs)
  one_more xs n m x s h g =
      ap (λ (k : ℕ). first x (whole (drop k xs))) s
      ∙ ap (λ (y : X). first y (whole (drop (n + 1) xs))) (sym g)
      ∙ sym (more (get_or xs n x) (drop (n + 1) xs))
      ∙ sym (at_drop_more (λ (zs : List X). whole zs) xs n x h)

pub more_arguments : (xs : List CheckedExpr) (n m : ℕ) (e : CheckedExpr) → m ≡ n + 1 → n < length xs → get_or xs n e ≡ e → capped (max (values_of e) (1 + argument_values (drop m xs))) ≡ capped (argument_values (drop n xs))
more_arguments xs n m e s h g = ap capped (one_more (λ (xs : List CheckedExpr). argument_values xs) (λ (e : CheckedExpr) (k : ℕ). max (values_of e) (1 + k)) (λ x xs. refl) xs n m e s h g)

pub more_initials : (xs : List CheckedExpr) (n m : ℕ) (e : CheckedExpr) → m ≡ n + 1 → n < length xs → get_or xs n e ≡ e → capped (max (values_of e) (all_initials (drop m xs))) ≡ capped (all_initials (drop n xs))
more_initials xs n m e s h g = ap capped (one_more (λ (xs : List CheckedExpr). all_initials xs) (λ (e : CheckedExpr) (k : ℕ). max (values_of e) k) (λ x xs. refl) xs n m e s h g)

pub more_statements : (xs : List CheckedStmt) (n m : ℕ) (a : CheckedStmt) → m ≡ n + 1 → n < length xs → get_or xs n a ≡ a → capped (max (values_in a) (block_values (drop m xs))) ≡ capped (block_values (drop n xs))
more_statements xs n m a s h g = ap capped (one_more (λ (xs : List CheckedStmt). block_values xs) (λ (a : CheckedStmt) (k : ℕ). max (values_in a) k) (λ x xs. refl) xs n m a s h g)

pub more_arrays : (xs : List Shape) (n m : ℕ) (z : Shape) → m ≡ n + 1 → n < length xs → get_or xs n z ≡ z → capped (4 * ((bytes_of z + 3) / 4) + array_bytes (drop m xs)) ≡ capped (array_bytes (drop n xs))
more_arrays xs n m z s h g = ap capped (one_more (λ (xs : List Shape). array_bytes xs) (λ (z : Shape) (k : ℕ). 4 * ((bytes_of z + 3) / 4) + k) (λ x xs. refl) xs n m z s h g)

-- A function's statements are counted as those of a block.
pub all_statements : (ss : List CheckedStmt) → block_values ss ≡ all_values ss
all_statements [] = refl
all_statements (s ∷ ss) = ap (λ (k : ℕ). max (values_in s) k) (all_statements ss)

-- A call keeps what its arguments keep, and a value at least.
pub kernel_values : (n : ℕ) (xs : List CheckedExpr) → values_of (rust_expr.Kernel n xs) ≡ max 1 (argument_values xs)
kernel_values n xs = ap (λ (e : CheckedExpr). values_of e) (sym (rust_expr.rolls-Kernel n xs)) ∙ fold-roll-CheckedExpr ℕ ℕ expr_values place_values (form.Kernel n xs)

pub call_values : (f : ℕ) (xs : List CheckedExpr) → values_of (rust_expr.Call f xs) ≡ max 1 (argument_values xs)
call_values f xs = ap (λ (e : CheckedExpr). values_of e) (sym (rust_expr.rolls-Call f xs)) ∙ fold-roll-CheckedExpr ℕ ℕ expr_values place_values (form.Call f xs)
