-- The laws of what a pick begins with more after it.
use Rattle.std.proofs.Common.{◌≡◌, List, refl, ap, subst}
use Rattle.nx_grammar.specs.declared.kind.Kind.{Kind}
use Rattle.nx_grammar.specs.declared.kind.Kind.TheVariants.{Syntax, Limit}
use Rattle.nx_grammar.specs.Reading.{Reading, Pick, Refuse, Pass, Take, picked, bind, seq, then_pick}
use Rattle.nx_grammar.specs.Lawful.{Any, Lives, Law}
use Rattle.nx_grammar.specs.Growing.{Grows, Shortens, RefusalGrown, PickGrown}
use Rattle.nx_grammar.proofs.Sequences.{lives_seq}
use Rattle.nx_grammar.proofs.Growth.{grows_seq, shortens_seq}

-- A pick that passes nothing.
abbrev pub Takes : {T A : Type 0} → Pick T A → Type 0
Takes {T = T} {A = A} x = (a : A) → x ≡ Pass a → ⊥

module _ {T A B : Type 0} where
  -- Where nothing is passed, it is the pick's reading and more after it.
  pub picked_then : (x : Pick T A) (next : A → Reading T B) (t : T) (ts : List T) → Takes x → picked (then_pick x next) t ts ≡ bind (picked x t ts) next
  picked_then (Refuse kind) next t ts h = refl
  picked_then (Pass a) next t ts h = absurd (h a refl)
  picked_then (Take read) next t ts h = refl

  -- What it takes is lawful.
  pub then_takes : (x : Pick T A) (next : A → Reading T B) (F G J : T → Type 0) → ((read : Reading T A) → x ≡ Take read → Lives read F Any) → ((a : A) → Law (next a) G J) → ((t : T) → J t → F t) →
      (whole : Reading T B) → then_pick x next ≡ Take whole → Lives whole G Any
  then_takes (Refuse kind) next F G J law more fits whole e = absurd cc
  then_takes (Pass a) next F G J law more fits whole e = absurd cc
  then_takes (Take read) next F G J law more fits whole e =
      let r : Reading T B = seq read next in
      let same : r ≡ whole = cc in
      subst (λ z. Lives z G Any) same (lives_seq read next F Any G J (law read refl) more fits)

  -- It passes nothing itself.
  pub then_passes : (x : Pick T A) (next : A → Reading T B) → Takes (then_pick x next)
  then_passes (Refuse kind) next b e = cc
  then_passes (Pass a) next b e = cc
  then_passes (Take read) next b e = cc

  module _ (before next : A → Reading T B) (short : (a : A) → Shortens (next a)) where
    -- A token that was refused, against a wider limit.
    then_refused : (kind : Kind) (y : Pick T A) → RefusalGrown kind y → RefusalGrown kind (then_pick y next)
    then_refused Syntax y h = ap (λ z. then_pick z next) h
    then_refused Limit y h = (seq h.0 next, ap (λ z. then_pick z next) h.1, shortens_seq next short h.0 h.2)

    -- It grows with its parts.
    pub then_grown : (x y : Pick T A) → PickGrown x y → ((a : A) → Grows (before a) (next a)) → PickGrown (then_pick x before) (then_pick y next)
    then_grown (Refuse kind) y h more = then_refused kind y h
    then_grown (Pass a) y h more = ap (λ z. then_pick z next) h
    then_grown (Take read) y h more = (seq h.0 next, ap (λ z. then_pick z next) h.1, grows_seq next short read h.0 before h.2 more)
