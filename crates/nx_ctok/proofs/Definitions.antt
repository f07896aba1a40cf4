-- A table of names against the map that holds it, and against the definitions that it stands for.
use Rattle.std.proofs.Common.{◌≡◌, ℕ, Bool, true, false, true≢false, cond, if◌then◌else◌, List, [], ◌∷◌, refl, sym, ap, ◌∙◌}
use Rattle.std.specs.Prelude.{Option, Some}
use Rattle.std.proofs.lemmas.Slice.Eq.{bytes_eq-Decides}
use Rattle.std.specs.Global.{Vec}
use Rattle.std.specs.Map.{lookup}
use Rattle.std.specs.Option.{option_or}
use Rattle.std.specs.Str.{bytes_eq}
use Rattle.indexmap.specs.IndexMap.{insert_entry}
use Rattle.nx_ctok.specs.declared.value.Value.{Value}
use Rattle.nx_ctok.specs.declared.value.Definition.{Definition}
use Rattle.nx_ctok.specs.Tokens.{at_first, with_definition}
use Rattle.nx_ctok.specs.Views.{named, values_in}

module _ {V : Type 0} where
  pub lookup_named : (name : List ℕ) (es : List (Vec ℕ × V)) → lookup (bytes_eq name) (named es) ≡ lookup (λ k. bytes_eq name k.items) es
  lookup_named name [] = refl
  lookup_named name (e ∷ es) = ap (cond (bytes_eq name e.0.items) (Some e.1)) (lookup_named name es)

  pub insert_named : (es : List (Vec ℕ × V)) (k : Vec ℕ) (v : V) → named (insert_entry (λ a b. bytes_eq a.items b.items) es k v) ≡ insert_entry bytes_eq (named es) k.items v
  insert_named [] k v = refl
  insert_named (e ∷ es) k v = by (bytes_eq k.items e.0.items) (insert_named es k v)
    where
      by : (b : Bool) → named (insert_entry (λ a b. bytes_eq a.items b.items) es k v) ≡ insert_entry bytes_eq (named es) k.items v → named (cond b ((e.0, v) ∷ es) (e ∷ insert_entry (λ a b. bytes_eq a.items b.items) es k v)) ≡ cond b ((e.0.items, v) ∷ named es) ((e.0.items, e.1) ∷ insert_entry bytes_eq (named es) k.items v)
      by true h = refl
      by false h = ap (λ x. (e.0.items, e.1) ∷ x) h

-- A name can't be two names.
apart : (q k f : List ℕ) → bytes_eq k f ≡ false → bytes_eq q f ≡ true → bytes_eq q k ≡ true → ⊥
apart q k f h x y = true≢false (sym ((bytes_eq-Decides k f).1 (sym ((bytes_eq-Decides q k).0 y) ∙ (bytes_eq-Decides q f).0 x)) ∙ h)

module _ {V : Type 0} where
  -- What is found once a name is put.
  pub lookup_put : (es : List (List ℕ × V)) (k : List ℕ) (v : V) (q : List ℕ) → lookup (bytes_eq q) (insert_entry bytes_eq es k v) ≡ (if bytes_eq q k then Some v else lookup (bytes_eq q) es)
  lookup_put [] k v q = refl
  lookup_put (e ∷ es) k v q = by (bytes_eq k e.0) refl (lookup_put es k v q)
    where
      twice : (c : Bool) (o : Option V) → cond c (Some v) o ≡ cond c (Some v) (cond c (Some e.1) o)
      twice true o = refl
      twice false o = refl

      other : (b c : Bool) (o : Option V) → (b ≡ true → c ≡ true → ⊥) → cond b (Some e.1) (cond c (Some v) o) ≡ cond c (Some v) (cond b (Some e.1) o)
      other true true o apart = absurd (apart refl refl)
      other true false o apart = refl
      other false c o apart = refl

      by : (b : Bool) → bytes_eq k e.0 ≡ b → lookup (bytes_eq q) (insert_entry bytes_eq es k v) ≡ (if bytes_eq q k then Some v else lookup (bytes_eq q) es) → lookup (bytes_eq q) (cond b ((e.0, v) ∷ es) (e ∷ insert_entry bytes_eq es k v)) ≡ cond (bytes_eq q k) (Some v) (cond (bytes_eq q e.0) (Some e.1) (lookup (bytes_eq q) es))
      by true h i = rw ((bytes_eq-Decides k e.0).0 h) (twice (bytes_eq q e.0) (lookup (bytes_eq q) es))
      by false h i = ap (cond (bytes_eq q e.0) (Some e.1)) i
          ∙ other (bytes_eq q e.0) (bytes_eq q k) (lookup (bytes_eq q) es) (apart q k e.0 h)

-- Before any definition a table stands for the predefined names.
pub values_none : values_in [] ≡ at_first
unfolding values_in
values_none = refl

-- A definition that is put counts.
pub values_put : (es : List (List ℕ × Value)) (d : Definition) → values_in (insert_entry bytes_eq es d.name d.value) ≡ with_definition (values_in es) d
unfolding values_in with_definition
values_put es d = λ i q. at q i
  where
    or_put : (b : Bool) (o : Option Value) (p : Option Value) → option_or (if b then Some d.value else o) p ≡ (if b then Some d.value else option_or o p)
    or_put true o p = refl
    or_put false o p = refl

    at : (q : List ℕ) → option_or (lookup (bytes_eq q) (insert_entry bytes_eq es d.name d.value)) (at_first q) ≡ (if bytes_eq q d.name then Some d.value else option_or (lookup (bytes_eq q) es) (at_first q))
    at q = ap (λ o. option_or o (at_first q)) (lookup_put es d.name d.value q) ∙ or_put (bytes_eq q d.name) (lookup (bytes_eq q) es) (at_first q)
