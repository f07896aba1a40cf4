-- Fronts of a list, and tokens that are some of others.
use Rattle.std.proofs.Common.{◌≡◌, ◌≤◌, List, [], ◌∷◌, ◌++◌, length, length-append, refl, sym, ap, ◌∙◌, append_assoc, arith, inl, inr}
use Rattle.nx_grammar.specs.Lawful.{Heads, Any, Meets, Front}

-- Nothing stands before the whole list.
abbrev pub front_none : {T : Type 0} (ts : List T) → Front ts ts
front_none ts = record { before = λ r. r; from = refl; same = λ r h. h; list = []; listed = λ r. refl }

-- One token more stands before it.
abbrev pub front_take : {T : Type 0} (t : T) (ts rest : List T) → Front ts rest → Front (t ∷ ts) rest
front_take t ts rest f = record {
  before = λ r. t ∷ f.before r;
  from = ap (λ x. t ∷ x) f.from;
  same = λ r h. refl;
  list = t ∷ f.list;
  listed = λ r. ap (λ x. t ∷ x) (f.listed r);
}

-- One front and then another.
abbrev pub front_then : {T : Type 0} (ts mid rest : List T) → Front ts mid → Front mid rest → Front ts rest
front_then ts mid rest f g = record {
  before = λ r. f.before (g.before r);
  from = f.from ∙ ap f.before g.from;
  same = λ r h. f.same (g.before r) (g.same r h);
  list = f.list ++ g.list;
  listed = λ r. f.listed (g.before r) ∙ ap (λ x. f.list ++ x) (g.listed r) ∙ sym (append_assoc f.list g.list r);
}

-- What stands after a front is no longer than the whole.
pub front_shorter : {T : Type 0} (ts rest : List T) → Front ts rest → length rest ≤ length ts
front_shorter ts rest f = let e : ts ≡ f.list ++ rest = f.from ∙ f.listed rest in omega (arith, ap length e ∙ length-append f.list rest)

-- Where each token of J is one of F, a list that J heads F heads.
pub heads_fit : {T : Type 0} (J F : T → Type 0) → ((t : T) → J t → F t) → (r : List T) → Heads J r → Heads F r
heads_fit J F fits [] h = h
heads_fit J F fits (t ∷ ts) h = fits t h

-- What meets some tokens meets any.
pub meets_any : {T : Type 0} (I : T → Type 0) (ts r : List T) → Meets I ts r → Meets Any ts r
meets_any I ts r (inl h) = inl h
meets_any I ts r (inr h) = inr (heads_fit I Any (λ t i. tt) r h)
