-- What the items that the code builds are as plain data.
use Rattle.std.proofs.Common.{◌≡◌, ℕ, List, [], ◌∷◌, ◌++◌, map, refl, ap, ◌∙◌}
use Rattle.nx_shtree.specs.declared.tree.Simple.{Simple}
use Rattle.nx_shtree.specs.declared.tree.Item as rust_item
use Rattle.nx_shtree.specs.declared.tree.ItemKind.TheVariants as variant
use Rattle.nx_shtree.specs.Trees.{At, Command, Background, If, IfElse, While, Until, items, item_of}
use Rattle.nx_shtree.specs.Stored.{rust_at, item_at, kind_command, kind_background, kind_if, kind_if_else, kind_while, kind_until}

pub item_command : (l : ℕ) (c : Simple) → item_of (rust_at l (variant.Command c)) ≡ At l (Command c)
item_command l c = item_at l (variant.Command c) ∙ ap (λ k. At l k) (kind_command c)

pub item_background : (l : ℕ) (c : Simple) → item_of (rust_at l (variant.Background c)) ≡ At l (Background c)
item_background l c = item_at l (variant.Background c) ∙ ap (λ k. At l k) (kind_background c)

pub item_if : (l : ℕ) (c : Simple) (xs : List rust_item.Item) → item_of (rust_at l (variant.If c xs)) ≡ At l (If c (items (map item_of xs)))
item_if l c xs = item_at l (variant.If c xs) ∙ ap (λ k. At l k) (kind_if c xs)

pub item_if_else : (l : ℕ) (c : Simple) (xs ys : List rust_item.Item) → item_of (rust_at l (variant.IfElse c xs ys)) ≡ At l (IfElse c (items (map item_of xs)) (items (map item_of ys)))
item_if_else l c xs ys = item_at l (variant.IfElse c xs ys) ∙ ap (λ k. At l k) (kind_if_else c xs ys)

pub item_while : (l : ℕ) (c : Simple) (xs : List rust_item.Item) → item_of (rust_at l (variant.While c xs)) ≡ At l (While c (items (map item_of xs)))
item_while l c xs = item_at l (variant.While c xs) ∙ ap (λ k. At l k) (kind_while c xs)

pub item_until : (l : ℕ) (c : Simple) (xs : List rust_item.Item) → item_of (rust_at l (variant.Until c xs)) ≡ At l (Until c (items (map item_of xs)))
item_until l c xs = item_at l (variant.Until c xs) ∙ ap (λ k. At l k) (kind_until c xs)

-- An item more at the end.
pub items_added : (old new : List rust_item.Item) (x : rust_item.Item) → new ≡ old ++ x ∷ [] → map item_of new ≡ map item_of old ++ item_of x ∷ []
items_added old new x e = ap (map item_of) e ∙ end old
  where
    end : (ys : List rust_item.Item) → map item_of (ys ++ x ∷ []) ≡ map item_of ys ++ item_of x ∷ []
    end [] = refl
    end (y ∷ ys) = ap (λ r. item_of y ∷ r) (end ys)
