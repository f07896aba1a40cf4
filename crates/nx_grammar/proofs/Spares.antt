-- Readings that take no last token, put together.
use Rattle.std.proofs.Common.{◌≡◌, ℕ, zero, suc, ◌<◌, ◌≤◌, Bool, true, false, List, [], ◌∷◌, length, refl, sym, arith, subst}
use Rattle.std.specs.Prelude.{Ok, Err, if◌then◌else◌}
use Rattle.nx_grammar.specs.declared.kind.Kind.TheVariants.{Syntax}
use Rattle.nx_grammar.specs.Reading.{Out, Reading, Pick, Refuse, Pass, Take, picked, dispatch, bind, seq, done, expect_pick, expect, round, turn, loop}
use Rattle.nx_grammar.specs.Lawful.{Rounds}
use Rattle.nx_grammar.specs.Growing.{left}
use Rattle.nx_grammar.specs.Faults.{EndsIn}
use Rattle.nx_grammar.specs.Sparing.{Spares, SparesPick}
use Rattle.nx_grammar.proofs.Loops.{shorter, loop_turn}

module _ {T : Type 0} (E : T → Type 0) where
  -- A list that goes on after a token that is no last one ends after it.
  not_last : (t : T) (ts : List T) → (E t → ⊥) → EndsIn E (t ∷ ts) → EndsIn E ts
  not_last t [] n h = absurd (n h)
  not_last t (u ∷ us) n h = h

  -- By what the first part gave.
  spares_bind : {A B : Type 0} (next : A → Reading T B) → ((a : A) → Spares E (next a)) → (o : Out T A) → EndsIn E (left o) → EndsIn E (left (bind o next))
  spares_bind next more (Ok x) h = (more x.0).on x.1 h
  spares_bind next more (Err e) h = h

  -- One reading after another.
  pub spares_seq : {A B : Type 0} (read : Reading T A) (next : A → Reading T B) → Spares E read → ((a : A) → Spares E (next a)) → Spares E (seq read next)
  spares_seq read next first more = record { on = λ ts h. spares_bind next more (read ts) (first.on ts h) }

  -- Reading nothing.
  pub spares_done : {A : Type 0} (a : A) → Spares E (done a)
  spares_done a = record { on = λ ts h. h }

  -- The three things that a pick can do.
  picked_spares : {A : Type 0} (t : T) (ts : List T) (x : Pick T A) → SparesPick E t x → EndsIn E (t ∷ ts) → EndsIn E (left (picked x t ts))
  picked_spares t ts (Refuse kind) law h = h
  picked_spares t ts (Pass a) law h = h
  picked_spares t ts (Take read) law h = let s = law.takes read refl in s.1.on ts (not_last t ts s.0 h)

  -- Every list has a next token or none.
  dispatch_spares : {A : Type 0} (pick : T → Pick T A) → ((t : T) → SparesPick E t (pick t)) → (ts : List T) → EndsIn E ts → EndsIn E (left (dispatch pick ts))
  dispatch_spares pick law [] h = h
  dispatch_spares pick law (t ∷ ts) h = picked_spares t ts (pick t) (law t) h

  -- A choice.
  pub spares_dispatch : {A : Type 0} (pick : T → Pick T A) → ((t : T) → SparesPick E t (pick t)) → Spares E (dispatch pick)
  spares_dispatch pick law = record { on = dispatch_spares pick law }

  -- A token that passes a test is no last one.
  expect_case : (test : T → Bool) → ((t : T) → test t ≡ true → E t → ⊥) → (t : T) (b : Bool) → test t ≡ b → SparesPick {A = T} E t (if b then Take (done t) else Refuse Syntax)
  expect_case test differs t true e = record { takes = λ read k. (differs t e, subst (λ z. Spares E z) (let y : done t ≡ read = cc in y) (spares_done t)) }
  expect_case test differs t false e = record { takes = λ read k. absurd cc }

  -- One token that passes a test, which no last token does.
  pub spares_expect : (test : T → Bool) → ((t : T) → test t ≡ true → E t → ⊥) → Spares E (expect test)
  spares_expect test differs = spares_dispatch (expect_pick test) (λ t. expect_case test differs t (test t) refl)

  -- What was read goes on.
  go_on : {A : Type 0} (on : A → Reading T A) (o : Out T A) → ((b : A) (rest : List T) → o ≡ Ok (b, rest) → EndsIn E rest → EndsIn E (left (on b rest))) → EndsIn E (left o) → EndsIn E (left (bind o on))
  go_on on (Ok x) ih h = ih x.0 x.1 refl h
  go_on on (Err e) ih h = h

  -- The three things that a round can do.
  round_spares : {A : Type 0} (t : T) (us : List T) (on : A → Reading T A) (x : Pick T A) → SparesPick E t x →
      ((read : Reading T A) → x ≡ Take read → (b : A) (rest : List T) → read us ≡ Ok (b, rest) → EndsIn E rest → EndsIn E (left (on b rest))) → EndsIn E (t ∷ us) → EndsIn E (left (round x t us on))
  round_spares t us on (Refuse kind) law ih h = h
  round_spares t us on (Pass a) law ih h = h
  round_spares t us on (Take read) law ih h = let s = law.takes read refl in go_on on (read us) (ih read refl) (s.1.on us (not_last t us s.0 h))

  module _ {A : Type 0} (pick : A → T → Pick T A) (F H : T → Type 0) (law : Rounds pick F H) (spared : (a : A) (t : T) → SparesPick E t (pick a t)) where
    -- By the number of tokens.
    by_length : (n : ℕ) (a : A) (ts : List T) → length ts < n → EndsIn E ts → EndsIn E (left (turn pick a ts (loop pick)))
    by_length zero a ts k h = absurd (omega arith)
    by_length (suc n) a [] k h = h
    by_length (suc n) a (t ∷ us) k h =
        round_spares t us (loop pick) (pick a t) (spared a t)
        (λ read e b rest g x.
        let s : length rest ≤ length us = (shorter pick F H law).on a t read e us b rest g in
        subst (λ o. EndsIn E (left o)) (sym (loop_turn pick (shorter pick F H law) b rest)) (by_length n b rest (omega arith) x))
        h

    -- A loop.
    pub spares_loop : (a : A) → Spares E (loop pick a)
    spares_loop a = record { on = λ ts h. subst (λ o. EndsIn E (left o)) (sym (loop_turn pick (shorter pick F H law) a ts)) (by_length (suc (length ts)) a ts (omega arith) h) }

  -- So what is left of a list with a last token ends in it: a fault has a token.
  pub left_ends : {A : Type 0} (read : Reading T A) → Spares E read → (ts : List T) (o : Out T A) → EndsIn E ts → read ts ≡ o → EndsIn E (left o)
  left_ends read law ts o h e = subst (λ x. EndsIn E (left x)) e (law.on ts h)
