-- A table of names against the map that holds it.
use Rattle.std.proofs.Common.{◌≡◌, ℕ, Bool, true, false, cond, List, [], ◌∷◌, refl, ap}
use Rattle.std.specs.Prelude.{Some}
use Rattle.std.specs.Global.{Vec}
use Rattle.std.specs.Map.{lookup}
use Rattle.std.specs.Str.{bytes_eq}
use Rattle.indexmap.specs.IndexMap.{insert_entry}
use Rattle.nx_ctype.specs.Named.{named}

module _ {V : Type 0} where
  -- What a name has in the map it has in the table.
  pub lookup_named : (name : List ℕ) (es : List (Vec ℕ × V)) → lookup (bytes_eq name) (named es) ≡ lookup (λ k. bytes_eq name k.items) es
  lookup_named name [] = refl
  lookup_named name (e ∷ es) = ap (cond (bytes_eq name e.0.items) (Some e.1)) (lookup_named name es)

  -- What is put into the map is put into the table.
  pub insert_named : (es : List (Vec ℕ × V)) (k : Vec ℕ) (v : V) → named (insert_entry (λ a b. bytes_eq a.items b.items) es k v) ≡ insert_entry bytes_eq (named es) k.items v
  insert_named [] k v = refl
  insert_named (e ∷ es) k v = by (bytes_eq k.items e.0.items) (insert_named es k v)
    where
      by : (b : Bool) → named (insert_entry (λ a b. bytes_eq a.items b.items) es k v) ≡ insert_entry bytes_eq (named es) k.items v → named (cond b ((e.0, v) ∷ es) (e ∷ insert_entry (λ a b. bytes_eq a.items b.items) es k v)) ≡ cond b ((e.0.items, v) ∷ named es) ((e.0.items, e.1) ∷ insert_entry bytes_eq (named es) k.items v)
      by true h = refl
      by false h = ap (λ x. (e.0.items, e.1) ∷ x) h
