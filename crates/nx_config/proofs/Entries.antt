-- A table against the map that holds it.
use Rattle.std.proofs.Common.{◌≡◌, ℕ, suc, Bool, true, false, true≢false, cond, ◌||◌, if◌then◌else◌, List, [], ◌∷◌, ◌++◌, length, Option, Some, is_some, refl, sym, ap, ◌∙◌}
use Rattle.std.proofs.lemmas.Slice.Eq.{bytes_eq-Decides}
use Rattle.std.specs.List.{list_any}
use Rattle.std.specs.Map.{lookup, keys_of}
use Rattle.std.specs.Str.{bytes_eq}
use Rattle.std.specs.Global.{Vec}
use Rattle.indexmap.specs.IndexMap.{insert_entry}
use Rattle.nx_config.specs.Tables.{named}

module _ {V : Type 0} where
  pub lookup_named : (name : List ℕ) (es : List (Vec ℕ × V)) → lookup (bytes_eq name) (named es) ≡ lookup (λ k. bytes_eq name k.items) es
  lookup_named name [] = refl
  lookup_named name (e ∷ es) = ap (cond (bytes_eq name e.0.items) (Some e.1)) (lookup_named name es)

  pub insert_named : (es : List (Vec ℕ × V)) (k : Vec ℕ) (v : V) → named (insert_entry (λ a b. bytes_eq a.items b.items) es k v) ≡ insert_entry bytes_eq (named es) k.items v
  insert_named [] k v = refl
  insert_named (e ∷ es) k v = by (bytes_eq k.items e.0.items) (insert_named es k v)
    where
      by : (b : Bool) → named (insert_entry (λ a b. bytes_eq a.items b.items) es k v) ≡ insert_entry bytes_eq (named es) k.items v → named (cond b ((e.0, v) ∷ es) (e ∷ insert_entry (λ a b. bytes_eq a.items b.items) es k v)) ≡ cond b ((e.0.items, v) ∷ named es) ((e.0.items, e.1) ∷ insert_entry bytes_eq (named es) k.items v)
      by true h = refl
      by false h = ap (λ x. (e.0.items, e.1) ∷ x) h

  -- a name has a value where it is among the keys
  pub has_named : (name : List ℕ) (es : List (Vec ℕ × V)) → list_any (bytes_eq name) (keys_of (named es)) ≡ is_some (lookup (λ k. bytes_eq name k.items) es)
  has_named name [] = refl
  has_named name (e ∷ es) = by (bytes_eq name e.0.items) (has_named name es)
    where
      by : (b : Bool) → list_any (bytes_eq name) (keys_of (named es)) ≡ is_some (lookup (λ k. bytes_eq name k.items) es) → (b || list_any (bytes_eq name) (keys_of (named es))) ≡ is_some (cond b (Some e.1) (lookup (λ k. bytes_eq name k.items) es))
      by true h = refl
      by false h = h

-- a name can't be two names
apart : (q k f : List ℕ) → bytes_eq k f ≡ false → bytes_eq q f ≡ true → bytes_eq q k ≡ true → ⊥
apart q k f h x y = true≢false (sym ((bytes_eq-Decides k f).1 (sym ((bytes_eq-Decides q k).0 y) ∙ (bytes_eq-Decides q f).0 x)) ∙ h)

module _ {V : Type 0} where
  pub length_keys : (es : List (List ℕ × V)) → length (keys_of es) ≡ length es
  length_keys [] = refl
  length_keys (e ∷ es) = ap suc (length_keys es)

  -- the keys once a name is put
  pub keys_put : (es : List (List ℕ × V)) (k : List ℕ) (v : V) → keys_of (insert_entry bytes_eq es k v) ≡ (if list_any (bytes_eq k) (keys_of es) then keys_of es else keys_of es ++ k ∷ [])
  keys_put [] k v = refl
  keys_put (e ∷ es) k v = by (bytes_eq k e.0) (keys_put es k v)
    where
      onto : (c : Bool) (xs ys : List (List ℕ)) → e.0 ∷ cond c xs ys ≡ cond c (e.0 ∷ xs) (e.0 ∷ ys)
      onto true xs ys = refl
      onto false xs ys = refl

      by : (b : Bool) → keys_of (insert_entry bytes_eq es k v) ≡ (if list_any (bytes_eq k) (keys_of es) then keys_of es else keys_of es ++ k ∷ []) → keys_of (cond b ((e.0, v) ∷ es) (e ∷ insert_entry bytes_eq es k v)) ≡ cond (b || list_any (bytes_eq k) (keys_of es)) (e.0 ∷ keys_of es) (e.0 ∷ keys_of es ++ k ∷ [])
      by true h = refl
      by false h = ap (λ x. e.0 ∷ x) h ∙ onto (list_any (bytes_eq k) (keys_of es)) (keys_of es) (keys_of es ++ k ∷ [])

  -- what is found once a name is put
  pub lookup_put : (es : List (List ℕ × V)) (k : List ℕ) (v : V) (q : List ℕ) → lookup (bytes_eq q) (insert_entry bytes_eq es k v) ≡ (if bytes_eq q k then Some v else lookup (bytes_eq q) es)
  lookup_put [] k v q = refl
  lookup_put (e ∷ es) k v q = by (bytes_eq k e.0) refl (lookup_put es k v q)
    where
      twice : (c : Bool) (o : Option V) → cond c (Some v) o ≡ cond c (Some v) (cond c (Some e.1) o)
      twice true o = refl
      twice false o = refl

      other : (b c : Bool) (o : Option V) → (b ≡ true → c ≡ true → ⊥) → cond b (Some e.1) (cond c (Some v) o) ≡ cond c (Some v) (cond b (Some e.1) o)
      other true true o apart = absurd (apart refl refl)
      other true false o apart = refl
      other false c o apart = refl

      by : (b : Bool) → bytes_eq k e.0 ≡ b → lookup (bytes_eq q) (insert_entry bytes_eq es k v) ≡ (if bytes_eq q k then Some v else lookup (bytes_eq q) es) → lookup (bytes_eq q) (cond b ((e.0, v) ∷ es) (e ∷ insert_entry bytes_eq es k v)) ≡ cond (bytes_eq q k) (Some v) (cond (bytes_eq q e.0) (Some e.1) (lookup (bytes_eq q) es))
      by true h i = rw ((bytes_eq-Decides k e.0).0 h) (twice (bytes_eq q e.0) (lookup (bytes_eq q) es))
      by false h i = ap (cond (bytes_eq q e.0) (Some e.1)) i
          ∙ other (bytes_eq q e.0) (bytes_eq q k) (lookup (bytes_eq q) es) (apart q k e.0 h)
