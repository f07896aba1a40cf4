-- Plain items told apart by the items of the code that they stand for.
use Rattle.std.proofs.Common.{◌≡◌, ℕ, List, [], ◌∷◌, map, refl, sym, ap, ◌∙◌}
use Rattle.std.specs.Coded.{Coded, code_by, coded_list}
use Rattle.nx_shtree.specs.contracts.tree.Item as row
use Rattle.nx_shtree.specs.declared.tree.Simple.{Simple}
use Rattle.nx_shtree.specs.declared.tree.Item as rust_item
use Rattle.nx_shtree.specs.declared.tree.ItemKind as rust_kind
use Rattle.nx_shtree.specs.declared.tree.ItemKind.{fold-ItemKind}
use Rattle.nx_shtree.specs.declared.tree.ItemKind.TheVariants as variant
use Rattle.nx_shtree.specs.declared.tree.ItemKind.TheOpen as form
use Rattle.nx_shtree.specs.declared.tree.ItemKind.TheFolds.{fold-roll-ItemKind, fold-roll-Item}
use Rattle.nx_shtree.specs.Trees.{Items, NoMore, More, ItemKind, Item, At, Command, Background, If, IfElse, While, Until, items, item_of, item_layer, kind_layer}

-- A form of the code.
abbrev pub kind_of : rust_kind.ItemKind → ItemKind
kind_of k = fold-ItemKind ItemKind Item kind_layer item_layer k

pub kind_command : (c : Simple) → kind_of (variant.Command c) ≡ Command c
kind_command c = ap (λ x. kind_of x) (sym (variant.rolls-Command c)) ∙ fold-roll-ItemKind ItemKind Item kind_layer item_layer (form.Command c)

pub kind_background : (c : Simple) → kind_of (variant.Background c) ≡ Background c
kind_background c = ap (λ x. kind_of x) (sym (variant.rolls-Background c)) ∙ fold-roll-ItemKind ItemKind Item kind_layer item_layer (form.Background c)

pub kind_if : (c : Simple) (xs : List rust_item.Item) → kind_of (variant.If c xs) ≡ If c (items (map item_of xs))
kind_if c xs = ap (λ x. kind_of x) (sym (variant.rolls-If c xs)) ∙ fold-roll-ItemKind ItemKind Item kind_layer item_layer (form.If c xs)

pub kind_if_else : (c : Simple) (xs ys : List rust_item.Item) → kind_of (variant.IfElse c xs ys) ≡ IfElse c (items (map item_of xs)) (items (map item_of ys))
kind_if_else c xs ys = ap (λ x. kind_of x) (sym (variant.rolls-IfElse c xs ys)) ∙ fold-roll-ItemKind ItemKind Item kind_layer item_layer (form.IfElse c xs ys)

pub kind_while : (c : Simple) (xs : List rust_item.Item) → kind_of (variant.While c xs) ≡ While c (items (map item_of xs))
kind_while c xs = ap (λ x. kind_of x) (sym (variant.rolls-While c xs)) ∙ fold-roll-ItemKind ItemKind Item kind_layer item_layer (form.While c xs)

pub kind_until : (c : Simple) (xs : List rust_item.Item) → kind_of (variant.Until c xs) ≡ Until c (items (map item_of xs))
kind_until c xs = ap (λ x. kind_of x) (sym (variant.rolls-Until c xs)) ∙ fold-roll-ItemKind ItemKind Item kind_layer item_layer (form.Until c xs)

abbrev pub rust_at : ℕ → rust_kind.ItemKind → rust_item.Item
rust_at l k = record { line = l; kind = k }

pub item_at : (l : ℕ) (k : rust_kind.ItemKind) → item_of (rust_at l k) ≡ At l (kind_of k)
item_at l k = fold-roll-Item ItemKind Item kind_layer item_layer (record { line = l; kind = k })

-- The items of the code that plain ones stand for.
abbrev mutual
  pub rust_items : Items → List rust_item.Item
  rust_items NoMore = []
  rust_items (More x xs) = rust_of x ∷ rust_items xs

  pub rust_of : Item → rust_item.Item
  rust_of (At l k) = rust_at l (rust_kind_of k)

  pub rust_kind_of : ItemKind → rust_kind.ItemKind
  rust_kind_of (Command c) = variant.Command c
  rust_kind_of (Background c) = variant.Background c
  rust_kind_of (If c xs) = variant.If c (rust_items xs)
  rust_kind_of (IfElse c xs ys) = variant.IfElse c (rust_items xs) (rust_items ys)
  rust_kind_of (While c xs) = variant.While c (rust_items xs)
  rust_kind_of (Until c xs) = variant.Until c (rust_items xs)

-- They are these.
mutual
  pub items_back : (xs : Items) → items (map item_of (rust_items xs)) ≡ xs
  items_back NoMore = refl
  items_back (More x xs) = ap (λ y. More y (items (map item_of (rust_items xs)))) (item_back x) ∙ ap (λ ys. More x ys) (items_back xs)

  pub item_back : (x : Item) → item_of (rust_of x) ≡ x
  item_back (At l k) = item_at l (rust_kind_of k) ∙ ap (λ j. At l j) (kind_back k)

  pub kind_back : (k : ItemKind) → kind_of (rust_kind_of k) ≡ k
  kind_back (Command c) = kind_command c
  kind_back (Background c) = kind_background c
  kind_back (If c xs) = kind_if c (rust_items xs) ∙ ap (λ y. If c y) (items_back xs)
  kind_back (IfElse c xs ys) = kind_if_else c (rust_items xs) (rust_items ys) ∙ ap (λ y. IfElse c y (items (map item_of (rust_items ys)))) (items_back xs) ∙ ap (λ y. IfElse c xs y) (items_back ys)
  kind_back (While c xs) = kind_while c (rust_items xs) ∙ ap (λ y. While c y) (items_back xs)
  kind_back (Until c xs) = kind_until c (rust_items xs) ∙ ap (λ y. Until c y) (items_back xs)

abbrev pub script_code : Coded (List Item)
script_code = coded_list (code_by rust_item.Item row.the_row.coded rust_of item_of item_back)
