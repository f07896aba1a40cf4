-- Scripts as plain data: the trees of the code without the pointers between their parts.
use Rattle.std.specs.Prelude.{ℕ, List, [], ◌∷◌}
use Rattle.nx_shtree.specs.declared.tree.Simple.{Simple}
use Rattle.nx_shtree.specs.declared.tree.Item as rust_item
use Rattle.nx_shtree.specs.declared.tree.Item.{fold-Item}
use Rattle.nx_shtree.specs.declared.tree.ItemKind.TheOpen as form

-- Items in their order, one item, and its form.
mutual
  pub data Items : Type 0 where
    NoMore : Items
    More : (x : Item) (xs : Items) → Items

  -- What stands in a list, with the line of its first token.
  pub data Item : Type 0 where
    At : (line : ℕ) (kind : ItemKind) → Item

  -- A command that the shell waits for, one that it doesn't, or what a reserved word begins: a condition, and lists that its status chooses between.
  pub data ItemKind : Type 0 where
    Command : (c : Simple) → ItemKind
    Background : (c : Simple) → ItemKind
    If : (c : Simple) (xs : Items) → ItemKind
    IfElse : (c : Simple) (xs ys : Items) → ItemKind
    While : (c : Simple) (xs : Items) → ItemKind
    Until : (c : Simple) (xs : Items) → ItemKind

abbrev pub items : List Item → Items
items [] = NoMore
items (x ∷ xs) = More x (items xs)

-- Each form, by what its parts are.
abbrev pub kind_layer : form.ItemKind-F ItemKind Item → ItemKind
kind_layer (form.Command c) = Command c
kind_layer (form.Background c) = Background c
kind_layer (form.If c xs) = If c (items xs)
kind_layer (form.IfElse c xs ys) = IfElse c (items xs) (items ys)
kind_layer (form.While c xs) = While c (items xs)
kind_layer (form.Until c xs) = Until c (items xs)

abbrev pub item_layer : form.Item-F ItemKind Item → Item
item_layer x = At x.line x.kind

-- An item of the code.
abbrev pub item_of : rust_item.Item → Item
item_of x = fold-Item ItemKind Item kind_layer item_layer x
