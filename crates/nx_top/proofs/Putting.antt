-- The pieces that are still to be put.
use Rattle.std.proofs.Common.{◌≡◌, sym, ℕ, ◌+◌, ◌<◌, List, ◌++◌, length, get_or, drop, Option, subst}
use Rattle.std.specs.List.{flat_map}
use Rattle.std.proofs.lemmas.List.{drop_more}
use Rattle.nx_outside.specs.Outside.{Left}

-- what is left of the pieces begins with the next
pub pieces_left : (old mid : Option (List ℕ)) (pieces : List (List ℕ)) (i : ℕ) (item : List ℕ) (all : List ℕ) → i < length pieces → item ≡ get_or pieces i item
    → Left old mid (flat_map (λ p. p) (drop i pieces)) all
    → Left old mid (item ++ flat_map (λ p. p) (drop (i + 1) pieces)) all
pieces_left old mid pieces i item all lt e h =
    let P : List (List ℕ) → Type 0 = λ xs. Left old mid (flat_map (λ p. p) xs) all in
    subst (λ (x : List ℕ). Left old mid (x ++ flat_map (λ p. p) (drop (i + 1) pieces)) all) (sym e) (subst P (drop_more pieces i item lt) h)
