-- An item of the code is coded where its command stands and its lists are coded.
use Rattle.std.proofs.Common.{◌≡◌, ℕ, suc, ◌+◌, ◌-◌, ◌<◌, false, List, [], ◌∷◌, ◌++◌, length, map, drop, Option, Some, None, get_or, refl, sym, ap, ◌∙◌, subst, arith}
use Rattle.std.specs.Prelude.{slice_get, slice_set}
use Rattle.std.proofs.lemmas.Option.{slice_get-get_or}
use Rattle.nx_shtree.specs.declared.tree.Simple.{Simple}
use Rattle.nx_shtree.specs.declared.tree.Item as rust_item
use Rattle.nx_shtree.specs.declared.tree.ItemKind.TheVariants as variant
use Rattle.nx_shtree.specs.Trees.{Items, Item, At, If, IfElse, While, Until, items, item_of}
use Rattle.nx_shrun.specs.Places.{Node, node_at, node_of_item, Coded, CodedItem, Keeps}
use Rattle.nx_shrun.proofs.Grown.{coded_if, coded_if_else, coded_while, coded_until, loop_keeps, coded_step, kept_both}
use Rattle.nx_shrun.proofs.Forms.{is_if, is_if_else, is_while, is_until}

pub arm_if : (x : rust_item.Item) (c : Simple) (xs : List rust_item.Item) (ns os : List (Option Node)) (t u k : ℕ) → x.kind ≡ variant.If c xs
    → Coded ns (items (map item_of xs)) u k → Keeps ns os → node_at os t ≡ Some (node_of_item u k (item_of x)) → CodedItem os (item_of x) t k
arm_if x c xs ns os t u k e h g n =
    let is = is_if x c xs e in
    subst (λ y. CodedItem os y t k) (sym is) (coded_if ns os c (items (map item_of xs)) t u k h g (n ∙ ap (λ y. Some (node_of_item u k y)) is))

pub arm_if_else : (x : rust_item.Item) (c : Simple) (xs ys : List rust_item.Item) (ns ms os : List (Option Node)) (t u v k : ℕ) → x.kind ≡ variant.IfElse c xs ys
    → Coded ns (items (map item_of xs)) u k → Keeps ns ms → Coded ms (items (map item_of ys)) v k → Keeps ms os → node_at os t ≡ Some (node_of_item u v (item_of x)) → CodedItem os (item_of x) t k
arm_if_else x c xs ys ns ms os t u v k e h g i j n =
    let is = is_if_else x c xs ys e in
    subst (λ y. CodedItem os y t k) (sym is) (coded_if_else ns ms os c (items (map item_of xs)) (items (map item_of ys)) t u v k h g i j (n ∙ ap (λ y. Some (node_of_item u v y)) is))

pub arm_while : (x : rust_item.Item) (c : Simple) (xs : List rust_item.Item) (old mid ns out : List (Option Node)) (u k here : ℕ) → x.kind ≡ variant.While c xs
    → mid ≡ old ++ None ∷ [] → here ≡ suc (length old) → Keeps mid ns → Coded ns (items (map item_of xs)) u here → out ≡ slice_set ns (here - 1) (Some (node_of_item u k (item_of x))) → CodedItem out (item_of x) here k
arm_while x c xs old mid ns out u k here e em eh g h eo =
    let is = is_while x c xs e in
    subst (λ y. CodedItem out y here k) (sym is) (coded_while old mid ns out c (items (map item_of xs)) u k here em eh g h (eo ∙ ap (λ y. slice_set ns (here - 1) (Some (node_of_item u k y))) is))

pub arm_until : (x : rust_item.Item) (c : Simple) (xs : List rust_item.Item) (old mid ns out : List (Option Node)) (u k here : ℕ) → x.kind ≡ variant.Until c xs
    → mid ≡ old ++ None ∷ [] → here ≡ suc (length old) → Keeps mid ns → Coded ns (items (map item_of xs)) u here → out ≡ slice_set ns (here - 1) (Some (node_of_item k u (item_of x))) → CodedItem out (item_of x) here k
arm_until x c xs old mid ns out u k here e em eh g h eo =
    let is = is_until x c xs e in
    subst (λ y. CodedItem out y here k) (sym is) (coded_until old mid ns out c (items (map item_of xs)) u k here em eh g h (eo ∙ ap (λ y. slice_set ns (here - 1) (Some (node_of_item k u y))) is))

-- the item at a place
pub item_at_place : (xs : List rust_item.Item) (at : ℕ) (x : rust_item.Item) → at < length xs → x ≡ get_or xs at x → slice_get xs at ≡ Some x
item_at_place xs at x h e = slice_get-get_or xs at x h ∙ ap Some (sym e)
