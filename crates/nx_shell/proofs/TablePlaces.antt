-- What stands at a place of a table of commands.
use Rattle.std.proofs.Common.{◌≡◌, ℕ, zero, suc, ◌+◌, ◌-◌, ◌≤◌, ◌<◌, get_or, nat_lt, Bool, true, false, if◌then◌else◌, List, [], ◌∷◌, ◌++◌, length, map, Option, Some, None, refl, sym, ap, ◌∙◌, subst, arith, length-append}
use Rattle.std.specs.Prelude.{slice_get}
use Rattle.std.proofs.lemmas.Option.{slice_get-get_or}
use Rattle.std.proofs.lemmas.Bool.{ne_eqb, ltb-true, ltb-false}
use Rattle.nx_shtree.specs.declared.tree.Redirection.{Redirection}
use Rattle.nx_shtree.specs.declared.tree.Simple.{Simple}
use Rattle.nx_shtree.specs.declared.tree.Item as rust_item
use Rattle.nx_shtree.specs.declared.tree.ItemKind.TheVariants as variant
use Rattle.nx_shtree.specs.Trees.{Item, At, item_of}
use Rattle.nx_shrun.specs.declared.place.Node as rust_node
use Rattle.nx_shrun.specs.Places.{Node, place_of, node_in, node_at, node_of_item}
use Rattle.nx_shrun.proofs.Forms.{is_command, is_background, is_if, is_if_else, is_while, is_until}
use Rattle.nx_shell.specs.Kept.{output_words, all_words}
use Rattle.nx_shell.specs.Shells.{command_in, place_after, HaveRoom}

get_map : {A B : Type 0} (f : A → B) (xs : List A) (i : ℕ) (x : A) → slice_get xs i ≡ Some x → slice_get (map f xs) i ≡ Some (f x)
get_map f [] i x e = absurd cc
get_map f (y ∷ xs) zero x e = let z : y ≡ x = cc in rw z refl
get_map f (y ∷ xs) (suc i) x e = get_map f xs i x e

get_past : {A B : Type 0} (f : A → B) (xs : List A) (i : ℕ) → length xs ≤ i → slice_get (map f xs) i ≡ None
get_past f [] i h = refl
get_past f (y ∷ xs) zero h = absurd (omega (arith, h))
get_past f (y ∷ xs) (suc i) h = get_past f xs i (omega (arith, h))

there_some : (xs : List (Option rust_node.Node)) (at : ℕ) (x : Option rust_node.Node) → (at ≡ 0 → ⊥) → slice_get xs (at - 1) ≡ Some x → node_at (map place_of xs) at ≡ place_of x
there_some xs zero x h e = absurd (h refl)
there_some xs (suc i) x h e = let s : suc i - 1 ≡ i = omega arith in rw (get_map place_of xs i x (subst (λ j. slice_get xs j ≡ Some x) s e)) refl

pub there_got : (xs : List (Option rust_node.Node)) (at : ℕ) (x y : Option rust_node.Node) → (at ≡ 0 → ⊥) → at - 1 < length xs → x ≡ get_or xs (at - 1) x → x ≡ y → node_at (map place_of xs) at ≡ place_of y
there_got xs at x y h l e d = there_some xs at x h (slice_get-get_or xs (at - 1) x l ∙ ap Some (sym e)) ∙ ap place_of d

pub there_none : (xs : List (Option rust_node.Node)) (at : ℕ) → (at ≡ 0 → ⊥) → length xs ≤ at - 1 → node_at (map place_of xs) at ≡ None
there_none xs zero h le = absurd (h refl)
there_none xs (suc i) h le = rw (get_past place_of xs i (omega (arith, le))) refl

pub item_got : (n : rust_node.Node) (x : rust_item.Item) → n.index < length n.list → x ≡ get_or n.list n.index x → place_of (Some n) ≡ Some (node_of_item n.at_zero n.at_other (item_of x))
item_got n x l e = ap (λ o. node_in n.at_zero n.at_other o) (slice_get-get_or n.list n.index x l ∙ ap Some (sym e))

get_none : {A : Type 0} (xs : List A) (i : ℕ) → length xs ≤ i → slice_get xs i ≡ None
get_none [] i h = refl
get_none (y ∷ xs) zero h = absurd (omega (arith, h))
get_none (y ∷ xs) (suc i) h = get_none xs i (omega (arith, h))

pub item_none : (n : rust_node.Node) → length n.list ≤ n.index → place_of (Some n) ≡ None
item_none n h = ap (λ o. node_in n.at_zero n.at_other o) (get_none n.list n.index h)

-- The command of each form, and whether the shell doesn't wait for it.
command_is : (u v : ℕ) (x : rust_item.Item) (y : Item) (c : Simple) → item_of x ≡ y → (node_of_item u v y).c ≡ c → (node_of_item u v (item_of x)).c ≡ c
command_is u v x y c e h = ap (λ z. (node_of_item u v z).c) e ∙ h

waits_is : (u v : ℕ) (x : rust_item.Item) (y : Item) (b : Bool) → item_of x ≡ y → (node_of_item u v y).background ≡ b → (node_of_item u v (item_of x)).background ≡ b
waits_is u v x y b e h = ap (λ z. (node_of_item u v z).background) e ∙ h

pub of_command : (u v : ℕ) (x : rust_item.Item) (c : Simple) → x.kind ≡ variant.Command c → (node_of_item u v (item_of x)).c ≡ c
of_command u v x c e = command_is u v x _ c (is_command x c e) refl

pub of_background : (u v : ℕ) (x : rust_item.Item) (c : Simple) → x.kind ≡ variant.Background c → (node_of_item u v (item_of x)).c ≡ c
of_background u v x c e = command_is u v x _ c (is_background x c e) refl

pub of_if : (u v : ℕ) (x : rust_item.Item) (c : Simple) (xs : List rust_item.Item) → x.kind ≡ variant.If c xs → (node_of_item u v (item_of x)).c ≡ c
of_if u v x c xs e = command_is u v x _ c (is_if x c xs e) refl

pub of_if_else : (u v : ℕ) (x : rust_item.Item) (c : Simple) (xs ys : List rust_item.Item) → x.kind ≡ variant.IfElse c xs ys → (node_of_item u v (item_of x)).c ≡ c
of_if_else u v x c xs ys e = command_is u v x _ c (is_if_else x c xs ys e) refl

pub of_while : (u v : ℕ) (x : rust_item.Item) (c : Simple) (xs : List rust_item.Item) → x.kind ≡ variant.While c xs → (node_of_item u v (item_of x)).c ≡ c
of_while u v x c xs e = command_is u v x _ c (is_while x c xs e) refl

pub of_until : (u v : ℕ) (x : rust_item.Item) (c : Simple) (xs : List rust_item.Item) → x.kind ≡ variant.Until c xs → (node_of_item u v (item_of x)).c ≡ c
of_until u v x c xs e = command_is u v x _ c (is_until x c xs e) refl

pub waits_command : (u v : ℕ) (x : rust_item.Item) (c : Simple) → x.kind ≡ variant.Command c → (node_of_item u v (item_of x)).background ≡ false
waits_command u v x c e = waits_is u v x _ false (is_command x c e) refl

pub waits_background : (u v : ℕ) (x : rust_item.Item) (c : Simple) → x.kind ≡ variant.Background c → (node_of_item u v (item_of x)).background ≡ true
waits_background u v x c e = waits_is u v x _ true (is_background x c e) refl

pub waits_if : (u v : ℕ) (x : rust_item.Item) (c : Simple) (xs : List rust_item.Item) → x.kind ≡ variant.If c xs → (node_of_item u v (item_of x)).background ≡ false
waits_if u v x c xs e = waits_is u v x _ false (is_if x c xs e) refl

pub waits_if_else : (u v : ℕ) (x : rust_item.Item) (c : Simple) (xs ys : List rust_item.Item) → x.kind ≡ variant.IfElse c xs ys → (node_of_item u v (item_of x)).background ≡ false
waits_if_else u v x c xs ys e = waits_is u v x _ false (is_if_else x c xs ys e) refl

pub waits_while : (u v : ℕ) (x : rust_item.Item) (c : Simple) (xs : List rust_item.Item) → x.kind ≡ variant.While c xs → (node_of_item u v (item_of x)).background ≡ false
waits_while u v x c xs e = waits_is u v x _ false (is_while x c xs e) refl

pub waits_until : (u v : ℕ) (x : rust_item.Item) (c : Simple) (xs : List rust_item.Item) → x.kind ≡ variant.Until c xs → (node_of_item u v (item_of x)).background ≡ false
waits_until u v x c xs e = waits_is u v x _ false (is_until x c xs e) refl

-- What the node at a place says.
pub none_there : {A : Type 0} (o : Option Node) (n : Node) (p : Option Node) → o ≡ p → p ≡ None → o ≡ Some n → A
none_there o n p e f g = absurd cc

pub same_command : (o p : Option Node) (u v : ℕ) (y : Item) (c : Simple) → o ≡ p → p ≡ Some (node_of_item u v y) → ((u v : ℕ) → (node_of_item u v y).c ≡ c) → command_in o ≡ Some c
same_command o p u v y c e f h = ap command_in (e ∙ f) ∙ ap Some (h u v)

pub same_background : (o p : Option Node) (u v : ℕ) (y : Item) (b : Bool) (n : Node) → o ≡ p → p ≡ Some (node_of_item u v y) → ((u v : ℕ) → (node_of_item u v y).background ≡ b) → o ≡ Some n → n.background ≡ b
same_background o p u v y b n e f h g = let s : node_of_item u v y ≡ n = cc in ap (λ (m : Node). m.background) (sym s) ∙ h u v

places : (x : rust_node.Node) (o : Option rust_item.Item) (n : Node) → node_in x.at_zero x.at_other o ≡ Some n → (n.at_zero ≡ x.at_zero) × (n.at_other ≡ x.at_other)
places x None n e = absurd cc
places x (Some y) n e = of (item_of y) e
  where
    of : (y : Item) → Some (node_of_item x.at_zero x.at_other y) ≡ Some n → (n.at_zero ≡ x.at_zero) × (n.at_other ≡ x.at_other)
    of (At l k) e = let s : node_of_item x.at_zero x.at_other (At l k) ≡ n = cc in (ap (λ (m : Node). m.at_zero) (sym s), ap (λ (m : Node). m.at_other) (sym s))

pub same_zero : (o : Option Node) (x : rust_node.Node) (status : ℕ) (n : Node) → o ≡ place_of (Some x) → status ≡ 0 → o ≡ Some n → place_after status n ≡ x.at_zero
same_zero o x status n e z g = rw z (places x (slice_get x.list x.index) n (sym e ∙ g)).0

pub same_other : (o : Option Node) (x : rust_node.Node) (status : ℕ) (n : Node) → o ≡ place_of (Some x) → (status ≡ 0 → ⊥) → o ≡ Some n → place_after status n ≡ x.at_other
same_other o x status n e z g = ap (λ t. if t then n.at_zero else n.at_other) (ne_eqb status 0 z) ∙ (places x (slice_get x.list x.index) n (sym e ∙ g)).1

-- How many words a command has.
pub none_place : (o : Option rust_node.Node) (n : Node) (m : ℕ) → o ≡ None → place_of o ≡ Some n → length (all_words n.c) ≤ m
none_place o n m e g = let z : place_of o ≡ None = ap place_of e in absurd cc

words_le : (c : Simple) → length (all_words c) ≤ length c.words + 1
words_le c = of c.output (length-append c.words (output_words c.output))
  where
    of : (o : Option Redirection) → length (c.words ++ output_words o) ≡ length c.words + length (output_words o) → length (c.words ++ output_words o) ≤ length c.words + 1
    of None h = omega (arith, h)
    of (Some r) h = omega (arith, h)

pub few_words : (o : Option rust_node.Node) (x : rust_node.Node) (u v : ℕ) (y : Item) (c : Simple) (n : Node) (m : ℕ) → o ≡ Some x → place_of (Some x) ≡ Some (node_of_item u v y) → ((u v : ℕ) → (node_of_item u v y).c ≡ c) → m ≡ length c.words + 1 → place_of o ≡ Some n → length (all_words n.c) ≤ m
few_words o x u v y c n m e f h l g =
    let s : node_of_item u v y ≡ n = cc (sym f ∙ (sym (ap place_of e) ∙ g)) in
    let d : n.c ≡ c = ap (λ (k : Node). k.c) (sym s) ∙ h u v in
    subst (λ (b : Simple). length (all_words b) ≤ m) (sym d) (omega (arith, words_le c, l))

-- The nodes before a place have no more words than that.
abbrev pub HoldsTo : List (Option rust_node.Node) → ℕ → ℕ → Type 0
HoldsTo xs k most = (i : ℕ) (n : Node) → i < k → node_at (map place_of xs) (suc i) ≡ Some n → length (all_words n.c) ≤ most

node_got : (xs : List (Option rust_node.Node)) (i : ℕ) (x : Option rust_node.Node) → i < length xs → x ≡ get_or xs i x → node_at (map place_of xs) (suc i) ≡ place_of x
node_got xs i x l e = there_got xs (suc i) x x (λ z. absurd cc) (let s : suc i - 1 ≡ i = omega arith in rw s l) (let s : suc i - 1 ≡ i = omega arith in rw s e) refl

pub rooms_none : (xs : List (Option rust_node.Node)) (most : ℕ) → HoldsTo xs 0 most
rooms_none xs most i n l e = absurd (omega (arith, l))

pub rooms_more : (xs : List (Option rust_node.Node)) (k most next : ℕ) (x : Option rust_node.Node) → k < length xs → x ≡ get_or xs k x → HoldsTo xs k most → most ≤ next
    → ((n : Node) → place_of x ≡ Some n → length (all_words n.c) ≤ next) → HoldsTo xs (k + 1) next
rooms_more xs k most next x l e h le here i n less is = of (nat_lt i k) refl
  where
    of : (t : Bool) → nat_lt i k ≡ t → length (all_words n.c) ≤ next
    of true t = omega (arith, le, h i n (ltb-true i k t) is)
    of false t = let s : i ≡ k = omega (arith, less, ltb-false i k t) in here n (sym (node_got xs k x l e) ∙ subst (λ j. node_at (map place_of xs) (suc j) ≡ Some n) s is)

pub rooms_all : (xs : List (Option rust_node.Node)) (k most : ℕ) → length xs ≤ k → HoldsTo xs k most → HaveRoom (map place_of xs) most
rooms_all xs k most l h zero n e = absurd cc
rooms_all xs k most l h (suc i) n e = of (nat_lt i (length xs)) refl
  where
    of : (t : Bool) → nat_lt i (length xs) ≡ t → length (all_words n.c) ≤ most
    of true t = h i n (omega (arith, l, ltb-true i (length xs) t)) e
    of false t = let z : node_at (map place_of xs) (suc i) ≡ None = there_none xs (suc i) (λ z. absurd cc) (omega (arith, ltb-false i (length xs) t)) in absurd cc
