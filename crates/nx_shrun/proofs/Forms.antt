-- Items of the code by their forms, as plain data.
use Rattle.std.proofs.Common.{◌≡◌, ℕ, List, Some, map, refl, sym, ap, ◌∙◌, subst}
use Rattle.std.specs.Prelude.{slice_get}
use Rattle.nx_shtree.specs.declared.tree.Simple.{Simple}
use Rattle.nx_shtree.specs.declared.tree.Item as rust_item
use Rattle.nx_shtree.specs.declared.tree.ItemKind as rust_kind
use Rattle.nx_shtree.specs.declared.tree.ItemKind.TheVariants as variant
use Rattle.nx_shtree.specs.Trees.{Items, Item, At, ItemKind, Command, Background, If, IfElse, While, Until, items, item_of}
use Rattle.nx_shtree.specs.Stored.{kind_of, kind_command, kind_background, kind_if, kind_if_else, kind_while, kind_until, rust_at, item_at}
use Rattle.nx_shrun.specs.Places.{Node, node_of_item, CodedItem, CodedKind}

item_is : (x : rust_item.Item) → item_of x ≡ At x.line (kind_of x.kind)
item_is x = item_at x.line x.kind

of_kind : (x : rust_item.Item) (k : rust_kind.ItemKind) (plain : ItemKind) → x.kind ≡ k → kind_of k ≡ plain → item_of x ≡ At x.line plain
of_kind x k plain e p = item_is x ∙ ap (λ j. At x.line (kind_of j)) e ∙ ap (λ j. At x.line j) p

pub is_command : (x : rust_item.Item) (c : Simple) → x.kind ≡ variant.Command c → item_of x ≡ At x.line (Command c)
is_command x c e = of_kind x (variant.Command c) (Command c) e (kind_command c)

pub is_background : (x : rust_item.Item) (c : Simple) → x.kind ≡ variant.Background c → item_of x ≡ At x.line (Background c)
is_background x c e = of_kind x (variant.Background c) (Background c) e (kind_background c)

pub is_if : (x : rust_item.Item) (c : Simple) (xs : List rust_item.Item) → x.kind ≡ variant.If c xs → item_of x ≡ At x.line (If c (items (map item_of xs)))
is_if x c xs e = of_kind x (variant.If c xs) (If c (items (map item_of xs))) e (kind_if c xs)

pub is_if_else : (x : rust_item.Item) (c : Simple) (xs ys : List rust_item.Item) → x.kind ≡ variant.IfElse c xs ys → item_of x ≡ At x.line (IfElse c (items (map item_of xs)) (items (map item_of ys)))
is_if_else x c xs ys e = of_kind x (variant.IfElse c xs ys) (IfElse c (items (map item_of xs)) (items (map item_of ys))) e (kind_if_else c xs ys)

pub is_while : (x : rust_item.Item) (c : Simple) (xs : List rust_item.Item) → x.kind ≡ variant.While c xs → item_of x ≡ At x.line (While c (items (map item_of xs)))
is_while x c xs e = of_kind x (variant.While c xs) (While c (items (map item_of xs))) e (kind_while c xs)

pub is_until : (x : rust_item.Item) (c : Simple) (xs : List rust_item.Item) → x.kind ≡ variant.Until c xs → item_of x ≡ At x.line (Until c (items (map item_of xs)))
is_until x c xs e = of_kind x (variant.Until c xs) (Until c (items (map item_of xs))) e (kind_until c xs)
