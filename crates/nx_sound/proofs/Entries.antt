-- What holds of each entry of a list of names holds of what a name is found at.
use Rattle.std.proofs.Common.{◌≡◌, ℕ, Bool, true, false, List, [], ◌∷◌, ◌++◌, Option, Some, refl, subst}
use Rattle.std.specs.Prelude.{cond}
use Rattle.std.specs.Map.{lookup}
use Rattle.std.specs.Str.{bytes_eq}

abbrev pub Each : {V : Type 0} → (List ℕ → V → Type 0) → List (List ℕ × V) → Type 0
Each P [] = Unit {0}
Each P (e ∷ es) = P e.0 e.1 × Each P es

-- An entry whose name is the same has this value.
pub record Found {V : Type 0} (P : List ℕ → V → Type 0) (name : List ℕ) (v : V) : Type 0 where
  pub key : List ℕ
  pub same : bytes_eq name key ≡ true
  pub holds : P key v

pub some_same : {V : Type 0} (x y : V) → Some x ≡ Some y → x ≡ y
some_same x y h = cc

found_at : {V : Type 0} (P : List ℕ → V → Type 0) (name key : List ℕ) (x v : V) (rest : Option V) (b : Bool) → bytes_eq name key ≡ b → cond b (Some x) rest ≡ Some v → P key x → (rest ≡ Some v → Found P name v) → Found P name v
found_at P name key x v rest true e h p go = record { key = key; same = e; holds = subst (λ y. P key y) (some_same x v h) p }
found_at P name key x v rest false e h p go = go h

pub found : {V : Type 0} (P : List ℕ → V → Type 0) (name : List ℕ) (es : List (List ℕ × V)) (v : V) → lookup (bytes_eq name) es ≡ Some v → Each P es → Found P name v
found P name [] v h p = absurd cc
found P name (e ∷ es) v h p = found_at P name e.0 e.1 v (lookup (bytes_eq name) es) (bytes_eq name e.0) refl h p.0 (λ g. found P name es v g p.1)

pub each_push : {V : Type 0} (P : List ℕ → V → Type 0) (es : List (List ℕ × V)) (name : List ℕ) (v : V) → Each P es → P name v → Each P (es ++ (name, v) ∷ [])
each_push P [] name v h p = (p, tt)
each_push P (e ∷ es) name v h p = (h.0, each_push P es name v h.1 p)
