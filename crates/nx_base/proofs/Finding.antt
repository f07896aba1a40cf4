-- Looking for the first of a list.
use Rattle.std.proofs.Common.{◌≡◌, ℕ, ◌<◌, Bool, true, cond, List, Some, suc, length, drop, get_or, drop-cons, ap, ◌∙◌}
use Rattle.std.specs.List.{find}

-- an item that passes is the first of those from its place on
pub find_here : {X : Type 0} (P : X → Bool) (xs : List X) (i : ℕ) (d : X) → i < length xs → P (get_or xs i d) ≡ true → find P (drop i xs) ≡ Some (get_or xs i d)
find_here P xs i d h e = ap (find P) (drop-cons xs i d h) ∙ ap (λ b. cond b (Some (get_or xs i d)) (find P (drop (suc i) xs))) e
