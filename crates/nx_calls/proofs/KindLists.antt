-- The kinds that were found, with those of the types that are left.
use Rattle.std.proofs.Common.{◌≡◌, ◌-◌, ◌<◌, ◌≤◌, Bool, false, List, [], ◌∷◌, ◌++◌, length, take, drop, get_or, Option, None, Some, refl, sym, ap, ◌∙◌, arith}
use Rattle.std.proofs.lemmas.Grind.{common_steps}
use Rattle.nx_base.specs.declared.calls.Kind.{Kind}
use Rattle.nx_calls.specs.declared.types.CallType.{CallType}
use Rattle.nx_calls.specs.Kinds.{is_buffer, neighbour_is, first_of, kind_of, kind_before, kinds_after}

-- these kinds before others
abbrev pub joined : List Kind → Option (List Kind) → Option (List Kind)
joined [] others = others
joined (kind ∷ kinds) others = kind_before (Some kind) (joined kinds others)

pub joined-next : (kinds : List Kind) (kind : Kind) (others : Option (List Kind)) → joined (kinds ++ kind ∷ []) others ≡ joined kinds (kind_before (Some kind) others)
joined-next [] kind others = refl
joined-next (k ∷ kinds) kind others = ap (kind_before (Some k)) (joined-next kinds kind others)

pub joined-end : (kinds : List Kind) → joined kinds (Some []) ≡ Some kinds
joined-end [] = refl
joined-end (k ∷ kinds) = ap (kind_before (Some k)) (joined-end kinds)

pub joined-none : (kinds : List Kind) → joined kinds None ≡ None
joined-none [] = refl
joined-none (k ∷ kinds) = ap (kind_before (Some k)) (joined-none kinds)

-- what comes after the first
abbrev pub others_of : List CallType → List CallType
others_of types = take (length types - 1) (drop 1 types)

-- the kind of the first type, before those of the others
pub kinds_step : (types : List CallType) (t : CallType) (before : Option CallType) → 1 ≤ length types → t ≡ get_or types 0 t →
    kinds_after before types ≡ kind_before (kind_of before t (first_of (others_of types))) (kinds_after (Some t) (others_of types))
kinds_step [] t before h e = absurd (omega arith)
kinds_step (x ∷ xs) t before h e =
    let whole : others_of (x ∷ xs) ≡ xs = grind (arith, common_steps) in
    rw whole (rw e refl)

pub kinds_end : (types : List CallType) (before : Option CallType) → length types < 1 → kinds_after before types ≡ Some []
kinds_end [] before h = refl
kinds_end (x ∷ xs) before h = absurd (omega arith)

pub kind_before-none : (others : Option (List Kind)) (kind : Option Kind) → kind ≡ None → kind_before kind others ≡ None
kind_before-none others kind e = rw e refl

-- a type before the others that is known: the kinds that were found, and those of the types that follow it, are all
pub record Found (after_buffer : Bool) (kinds : List Kind) (rest types : List CallType) : Type 0 where
  pub before : Option CallType
  pub is : after_buffer ≡ neighbour_is is_buffer before
  pub all : joined kinds (kinds_after before rest) ≡ kinds_after None types

pub found_next : (after_buffer next : Bool) (kinds more : List Kind) (rest types : List CallType) (t : CallType) (kind : Option Kind) (k : Kind) → Found after_buffer kinds rest types → 1 ≤ length rest → t ≡ get_or rest 0 t →
    ((before : Option CallType) → after_buffer ≡ neighbour_is is_buffer before → kind ≡ kind_of before t (first_of (others_of rest))) → kind ≡ Some k → more ≡ kinds ++ k ∷ [] → next ≡ is_buffer t → Found next more (others_of rest) types
found_next after_buffer next kinds more rest types t kind k f h e by is m n = record {
  before = Some t;
  is = n;
  all =
      let left = kinds_after (Some t) (others_of rest) in
      ap (λ ks. joined ks left) m ∙ joined-next kinds k left
      ∙ ap (λ o. joined kinds (kind_before o left)) (sym is ∙ by f.before f.is)
      ∙ ap (joined kinds) (sym (kinds_step rest t f.before h e))
      ∙ f.all;
}

pub found_none : (after_buffer : Bool) (kinds : List Kind) (rest types : List CallType) (t : CallType) (kind : Option Kind) → Found after_buffer kinds rest types → 1 ≤ length rest → t ≡ get_or rest 0 t →
    ((before : Option CallType) → after_buffer ≡ neighbour_is is_buffer before → kind ≡ kind_of before t (first_of (others_of rest))) → kind ≡ None → None ≡ kinds_after None types
found_none after_buffer kinds rest types t kind f h e by is =
    let none : kinds_after f.before rest ≡ None = kinds_step rest t f.before h e ∙ kind_before-none _ _ (sym (by f.before f.is) ∙ is) in
    sym (joined-none kinds) ∙ ap (joined kinds) (sym none) ∙ f.all

pub found_end : (after_buffer : Bool) (kinds : List Kind) (rest types : List CallType) → Found after_buffer kinds rest types → length rest < 1 → Some kinds ≡ kinds_after None types
found_end after_buffer kinds rest types f h = sym (joined-end kinds) ∙ ap (joined kinds) (sym (kinds_end rest f.before h)) ∙ f.all

pub found_start : (kinds : List Kind) (types : List CallType) → kinds ≡ [] → Found false kinds types types
found_start kinds types e = record { before = None; is = refl; all = ap (λ ks. joined ks (kinds_after None types)) e }
