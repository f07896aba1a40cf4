-- The arguments of a call, from the last one on.
use Rattle.std.proofs.Common.{◌≡◌, ℕ, zero, suc, ◌+◌, ◌<◌, ◌≤◌, List, [], ◌∷◌, length, take, get_or, refl, sym, ap, ◌∙◌, arith}
use Rattle.std.proofs.lemmas.List.{take_all}
use Rattle.nx_checked.specs.declared.checked.CheckedExpr.{CheckedExpr}
use Rattle.nx_checked.specs.Trees.{expr_of, args_of, count}
use Rattle.nx_cmean.specs.Items.{Item, items_then, all_then}

pub count_args : (xs : List CheckedExpr) → count (args_of xs) ≡ length xs
count_args [] = refl
count_args (x ∷ xs) = let h = count_args xs in omega (arith, h)

last : (xs : List CheckedExpr) (n : ℕ) (e : CheckedExpr) (k : List Item) → n < length xs → get_or xs n e ≡ e → all_then (args_of (take (suc n) xs)) k ≡ all_then (args_of (take n xs)) (items_then (expr_of e) k)
last [] n e k h g = absurd (omega arith)
last (x ∷ xs) zero e k h g = ap (λ (e : CheckedExpr). items_then (expr_of e) k) g
last (x ∷ xs) (suc n) e k h g = ap (items_then (expr_of x)) (last xs n e k (omega arith) g)

pub all_last : (xs : List CheckedExpr) (n m : ℕ) (e : CheckedExpr) (k : List Item) → m ≡ n + 1 → n < length xs → get_or xs n e ≡ e → all_then (args_of (take n xs)) (items_then (expr_of e) k) ≡ all_then (args_of (take m xs)) k
all_last xs n m e k s h g =
    let next : m ≡ suc n = omega (arith, s) in
    sym (ap (λ (m : ℕ). all_then (args_of (take m xs)) k) next ∙ last xs n e k h g)

pub all_of : (xs : List CheckedExpr) (n : ℕ) (k : List Item) → length xs ≤ n → all_then (args_of (take n xs)) k ≡ all_then (args_of xs) k
all_of xs n k h = ap (λ (l : List CheckedExpr). all_then (args_of l) k) (take_all n xs h)
