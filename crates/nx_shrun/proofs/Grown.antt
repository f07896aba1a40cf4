-- A table that grows keeps what was coded.
use Rattle.std.proofs.Common.{◌≡◌, ℕ, zero, suc, ◌-◌, ◌+◌, ◌<◌, Bool, true, false, List, [], ◌∷◌, ◌++◌, length, map, Option, Some, None, drop, drop_of_length-le, refl, sym, ap, ◌∙◌, subst, arith, length-append}
use Rattle.std.specs.Prelude.{slice_get, slice_set}
use Rattle.std.proofs.lemmas.List.{length-set, map-append}
use Rattle.nx_shtree.specs.declared.tree.Simple.{Simple}
use Rattle.nx_shtree.specs.declared.tree.Item as rust_item
use Rattle.nx_shtree.specs.Trees.{Items, NoMore, More, Item, At, ItemKind, Command, Background, If, IfElse, While, Until, items, item_of}
use Rattle.nx_shrun.specs.Places.{Node, joined, node_at, Has, Coded, CodedItem, CodedKind, Keeps}

-- a node that is there stays
pub record Grown (old new : List (Option Node)) : Type 0 where
  pub on : (t : ℕ) (n : Node) → node_at old t ≡ Some n → node_at new t ≡ Some n

mutual
  pub kind_grown : {ns ms : List (Option Node)} → Grown ns ms → (s : ItemKind) (t k : ℕ) → CodedKind ns s t k → CodedKind ms s t k
  kind_grown g (Command c) t k h = g.on t _ h
  kind_grown g (Background c) t k h = g.on t _ h
  kind_grown g (If c xs) t k h = (h.0, g.on t _ h.1, coded_grown g xs h.0 k h.2)
  kind_grown g (IfElse c xs ys) t k h = (h.0, h.1, g.on t _ h.2, coded_grown g xs h.0 k h.3, coded_grown g ys h.1 k h.4)
  kind_grown g (While c xs) t k h = (h.0, g.on t _ h.1, coded_grown g xs h.0 t h.2)
  kind_grown g (Until c xs) t k h = (h.0, g.on t _ h.1, coded_grown g xs h.0 t h.2)

  pub item_grown : {ns ms : List (Option Node)} → Grown ns ms → (s : Item) (t k : ℕ) → CodedItem ns s t k → CodedItem ms s t k
  item_grown g (At l s) t k h = kind_grown g s t k h

  pub coded_grown : {ns ms : List (Option Node)} → Grown ns ms → (ss : Items) (t k : ℕ) → Coded ns ss t k → Coded ms ss t k
  coded_grown g NoMore t k h = h
  coded_grown g (More s a) t k h = (h.0, item_grown g s t h.0 h.1, coded_grown g a h.0 k h.2)

-- nodes that stay where they are
some_inside : (ns : List (Option Node)) (i : ℕ) (n : Node) → joined (slice_get ns i) ≡ Some n → i < length ns
some_inside [] i n h = absurd cc
some_inside (x ∷ ns) zero n h = omega arith
some_inside (x ∷ ns) (suc i) n h = let r = some_inside ns i n h in omega arith

pub kept_grown : {old new : List (Option Node)} → Keeps old new → Grown old new
kept_grown {old = old} {new = new} k = record { on = go }
  where
    go : (t : ℕ) (n : Node) → node_at old t ≡ Some n → node_at new t ≡ Some n
    go zero n h = absurd cc
    go (suc i) n h = rw (k.on i (some_inside old i n h)) h

pub kept_same : (a : List (Option Node)) → Keeps a a
kept_same a = record { longer = omega arith; on = λ i h. refl }

pub kept_both : {a b c : List (Option Node)} → Keeps a b → Keeps b c → Keeps a c
kept_both {a = a} {b = b} {c = c} x y = record { longer = omega (arith, x.longer, y.longer); on = λ i h. y.on i (omega (arith, h, x.longer)) ∙ x.on i h }

-- a node behind the others
get_last : {A : Type 0} (ns : List A) (x : A) → slice_get (ns ++ x ∷ []) (length ns) ≡ Some x
get_last [] x = refl
get_last (y ∷ ns) x = get_last ns x

get_front : {A : Type 0} (ns : List A) (x : A) (i : ℕ) → i < length ns → slice_get (ns ++ x ∷ []) i ≡ slice_get ns i
get_front [] x i h = absurd (omega (arith, h))
get_front (y ∷ ns) x zero h = refl
get_front (y ∷ ns) x (suc i) h = get_front ns x i (omega (arith, h))

get_same : {A : Type 0} (ns : List A) (i : ℕ) (x : A) → i < length ns → slice_get (slice_set ns i x) i ≡ Some x
get_same [] i x h = absurd (omega (arith, h))
get_same (n ∷ ns) zero x h = refl
get_same (n ∷ ns) (suc i) x h = get_same ns i x (omega (arith, h))

get_other : {A : Type 0} (ns : List A) (i j : ℕ) (x : A) → (j ≡ i → ⊥) → slice_get (slice_set ns i x) j ≡ slice_get ns j
get_other [] i j x h = refl
get_other (n ∷ ns) zero zero x h = absurd (h refl)
get_other (n ∷ ns) zero (suc j) x h = refl
get_other (n ∷ ns) (suc i) zero x h = refl
get_other (n ∷ ns) (suc i) (suc j) x h = get_other ns i j x (λ e. h (ap suc e))

pub map_set : {A B : Type 0} (f : A → B) (ns : List A) (i : ℕ) (x : A) → map f (slice_set ns i x) ≡ slice_set (map f ns) i (f x)
map_set f [] i x = refl
map_set f (n ∷ ns) zero x = refl
map_set f (n ∷ ns) (suc i) x = ap (λ r. f n ∷ r) (map_set f ns i x)

abbrev a_gap : List (Option Node)
a_gap = None ∷ []

pub put_keeps : (ns : List (Option Node)) (m : Option Node) → Keeps ns (ns ++ m ∷ [])
put_keeps ns m = record { longer = omega (arith, length-append ns (m ∷ [])); on = λ i h. get_front ns m i h }

pub put_here : (ns : List (Option Node)) (n : Node) → node_at (ns ++ Some n ∷ []) (suc (length ns)) ≡ Some n
put_here ns n = rw (get_last ns (Some n)) refl

-- a gap that is filled: what was coded stays, and the node stands there
pub fill_grown : (ns : List (Option Node)) (i : ℕ) (n : Node) → node_at ns (suc i) ≡ None → Grown ns (slice_set ns i (Some n))
fill_grown ns i n e = record { on = go }
  where
    go : (t : ℕ) (m : Node) → node_at ns t ≡ Some m → node_at (slice_set ns i (Some n)) t ≡ Some m
    go zero m h = absurd cc
    go (suc j) m h = rw (get_other ns i j (Some n) (λ same. let z : node_at ns (suc i) ≡ Some m = subst (λ x. node_at ns (suc x) ≡ Some m) same h in absurd (cc))) h

pub fill_keeps : (old ns : List (Option Node)) (n : Node) → Keeps (old ++ None ∷ []) ns → Keeps old (slice_set ns (length old) (Some n))
fill_keeps old ns n k = record { longer = omega (arith, k.longer, length-append old a_gap, length-set ns (length old) (Some n)); on = go }
  where
    go : (i : ℕ) → i < length old → slice_get (slice_set ns (length old) (Some n)) i ≡ slice_get old i
    go i h = get_other ns (length old) i (Some n) (λ same. omega (arith, h, same)) ∙ k.on i (omega (arith, h, length-append old a_gap)) ∙ get_front old None i h

pub gap : (old ns : List (Option Node)) → Keeps (old ++ None ∷ []) ns → node_at ns (suc (length old)) ≡ None
gap old ns k = rw (k.on (length old) (omega (arith, length-append old a_gap)), get_last old None) refl

pub fill_here : (old ns : List (Option Node)) (n : Node) → Keeps (old ++ None ∷ []) ns → node_at (slice_set ns (length old) (Some n)) (suc (length old)) ≡ Some n
fill_here old ns n k = rw (get_same ns (length old) (Some n) (omega (arith, k.longer, length-append old a_gap))) refl

pub coded_more : (ns ms : List (Option Node)) (x : Item) (xs : Items) (t m k : ℕ) → Coded ns xs m k → Keeps ns ms → CodedItem ms x t m → Coded ms (More x xs) t k
coded_more ns ms x xs t m k h g o = (m, o, coded_grown (kept_grown g) xs m k h)

pub coded_if : (ns os : List (Option Node)) (c : Simple) (xs : Items) (t x k : ℕ) → Coded ns xs x k → Keeps ns os → Has os t c false x k → CodedKind os (If c xs) t k
coded_if ns os c xs t x k h j e = (x, e, coded_grown (kept_grown j) xs x k h)

pub coded_if_else : (ns ms os : List (Option Node)) (c : Simple) (xs ys : Items) (t x y k : ℕ) → Coded ns xs x k → Keeps ns ms → Coded ms ys y k → Keeps ms os → Has os t c false x y → CodedKind os (IfElse c xs ys) t k
coded_if_else ns ms os c xs ys t x y k h g i j e = (x, y, e, coded_grown (kept_grown (kept_both g j)) xs x k h, coded_grown (kept_grown j) ys y k i)

pub map_put : {A B : Type 0} (f : A → B) (old new : List A) (x : A) → new ≡ old ++ x ∷ [] → map f new ≡ map f old ++ f x ∷ []
map_put f old new x e = rw e (map-append f old (x ∷ []))

-- a loop's gap is filled once its body is there
pub coded_while : (old mid ns out : List (Option Node)) (c : Simple) (xs : Items) (x k here : ℕ) → mid ≡ old ++ None ∷ [] → here ≡ suc (length old) → Keeps mid ns → Coded ns xs x here → out ≡ slice_set ns (here - 1) (Some (record { c = c; background = false; at_zero = x; at_other = k })) → CodedKind out (While c xs) here k
coded_while old mid ns out c xs x k here em eh g h eo =
    let e : suc (length old) - 1 ≡ length old = omega arith in
    let g' : Keeps (old ++ None ∷ []) ns = subst (λ m. Keeps m ns) em g in
    rw (eo, eh, e) (x, fill_here old ns _ g', coded_grown (fill_grown ns (length old) _ (gap old ns g')) xs x (suc (length old)) (subst (λ t. Coded ns xs x t) eh h))

pub coded_until : (old mid ns out : List (Option Node)) (c : Simple) (xs : Items) (x k here : ℕ) → mid ≡ old ++ None ∷ [] → here ≡ suc (length old) → Keeps mid ns → Coded ns xs x here → out ≡ slice_set ns (here - 1) (Some (record { c = c; background = false; at_zero = k; at_other = x })) → CodedKind out (Until c xs) here k
coded_until old mid ns out c xs x k here em eh g h eo =
    let e : suc (length old) - 1 ≡ length old = omega arith in
    let g' : Keeps (old ++ None ∷ []) ns = subst (λ m. Keeps m ns) em g in
    rw (eo, eh, e) (x, fill_here old ns _ g', coded_grown (fill_grown ns (length old) _ (gap old ns g')) xs x (suc (length old)) (subst (λ t. Coded ns xs x t) eh h))

pub loop_keeps : (old mid ns out : List (Option Node)) (n : Node) (here : ℕ) → mid ≡ old ++ None ∷ [] → here ≡ suc (length old) → Keeps mid ns → out ≡ slice_set ns (here - 1) (Some n) → Keeps old out
loop_keeps old mid ns out n here em eh g eo = let e : suc (length old) - 1 ≡ length old = omega arith in rw (eo, eh, e) (fill_keeps old ns n (subst (λ m. Keeps m ns) em g))

-- the items from a place on, and those from the one before
pub from_before : {A : Type 0} (xs : List A) (at left : ℕ) (x : A) → left ≡ at + 1 → slice_get xs at ≡ Some x → drop at xs ≡ x ∷ drop left xs
from_before {A} xs at left x e h = subst (λ n. drop at xs ≡ x ∷ drop n xs) (sym e) (go xs at h)
  where
    here : (y : A) (ys : List A) → Some y ≡ Some x → y ∷ ys ≡ x ∷ ys
    here y ys s = let same : y ≡ x = cc in ap (λ z. z ∷ ys) same

    go : (xs : List A) (at : ℕ) → slice_get xs at ≡ Some x → drop at xs ≡ x ∷ drop (at + 1) xs
    go [] at h = absurd cc
    go (y ∷ ys) zero h = here y ys h
    go (y ∷ ys) (suc n) h = let s : suc n + 1 ≡ suc (n + 1) = omega arith in subst (λ k. drop (suc n) (y ∷ ys) ≡ x ∷ drop k (y ∷ ys)) (sym s) (go ys n h)

-- an item more is coded
pub coded_step : (ns ms : List (Option Node)) (xs : List rust_item.Item) (at left : ℕ) (x : rust_item.Item) (t m k : ℕ) → left ≡ at + 1 → slice_get xs at ≡ Some x
    → Coded ns (items (map item_of (drop left xs))) m k → Keeps ns ms → CodedItem ms (item_of x) t m → Coded ms (items (map item_of (drop at xs))) t k
coded_step ns ms xs at left x t m k e h g kept o = subst (λ ys. Coded ms (items (map item_of ys)) t k) (sym (from_before xs at left x e h)) (coded_more ns ms (item_of x) (items (map item_of (drop left xs))) t m k g kept o)

pub coded_none : (ns : List (Option Node)) (xs : List rust_item.Item) (left to : ℕ) → left ≡ length xs → Coded ns (items (map item_of (drop left xs))) to to
coded_none ns xs left to e = subst (λ ys. Coded ns (items (map item_of ys)) to to) (sym (drop_of_length-le xs (omega (arith, e)))) refl
