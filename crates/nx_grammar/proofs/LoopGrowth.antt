-- What a wider limit does to a loop.
use Rattle.std.proofs.Common.{◌≡◌, ℕ, zero, suc, ◌<◌, ◌≤◌, List, [], ◌∷◌, length, refl, sym, ap, arith, subst}
use Rattle.std.specs.Prelude.{Ok}
use Rattle.nx_grammar.specs.declared.kind.Kind.{Kind}
use Rattle.nx_grammar.specs.declared.kind.Kind.TheVariants.{Syntax, Limit}
use Rattle.nx_grammar.specs.Reading.{Reading, Pick, Refuse, Pass, Take, bind, round, turn, loop}
use Rattle.nx_grammar.specs.Lawful.{Rounds}
use Rattle.nx_grammar.specs.Growing.{Beyond, GrownFault, Grown, Grows, Shortens, RefusalGrown, PickGrown}
use Rattle.nx_grammar.proofs.Loops.{shorter, loop_turn}
use Rattle.nx_grammar.proofs.LoopLaws.{law_loop}
use Rattle.nx_grammar.proofs.Growth.{shortens, beyond_more, bind_grown}

module _ {T A : Type 0} (t : T) (us : List T) (on : A → Reading T A) (short : (b : A) → Shortens (on b)) where
  -- A token that a round refused, against what became of it.
  refused_round : (kind : Kind) (y : Pick T A) → RefusalGrown kind y → GrownFault kind (t ∷ us) (round y t us on)
  refused_round Syntax y h = ap (λ z. round z t us on) h
  refused_round Limit y h =
      let s = h.2.on us in
      subst (λ z. Beyond (t ∷ us) (round z t us on)) (sym h.1) (beyond_more on short (t ∷ us) (h.0 us) (record { token = t; taken = s.0; is = ap (λ w. t ∷ w) s.1 }))

  -- The three things that a round can do.
  round_grown : (x y : Pick T A) (go : A → Reading T A) → ((read : Reading T A) → x ≡ Take read → (b : A) (rest : List T) → read us ≡ Ok (b, rest) → Grown (go b rest) (on b rest)) → PickGrown x y → Grown (round x t us go) (round y t us on)
  round_grown (Refuse kind) y go ih h = refused_round kind y h
  round_grown (Pass a) y go ih h = ap (λ z. round z t us on) h
  round_grown (Take read) y go ih h = subst (λ z. Grown (bind (read us) go) (round z t us on)) (sym h.1) (bind_grown on short go (read us) (h.0 us) (ih read refl) (h.2.on us))

module _ {T A : Type 0} (pick wide : A → T → Pick T A) (F H : T → Type 0) (P : A → Type 0) (law : Rounds pick F H) (more : Rounds wide F H)
    (step : (a : A) (t : T) (us : List T) (read : Reading T A) (b : A) (mid : List T) → P a → pick a t ≡ Take read → read us ≡ Ok (b, mid) → P b)
    (grown : (a : A) (t : T) → P a → PickGrown (pick a t) (wide a t)) where
  -- By the number of tokens, where P holds before each round.
  by_length : (n : ℕ) (a : A) (ts : List T) → length ts < n → P a → Grown (turn pick a ts (loop pick)) (turn wide a ts (loop wide))
  by_length zero a ts k x = absurd (omega arith)
  by_length (suc n) a [] k x = refl
  by_length (suc n) a (t ∷ us) k x =
      round_grown t us (loop wide) (λ b. shortens (loop wide b) F F (law_loop wide F H more b)) (pick a t) (wide a t) (loop pick)
      (λ read e b rest g.
      let s : length rest ≤ length us = (shorter pick F H law).on a t read e us b rest g in
      let ih = by_length n b rest (omega arith) (step a t us read b rest x e g) in
      subst (λ o. Grown o (loop wide b rest)) (sym (loop_turn pick (shorter pick F H law) b rest)) (subst (λ o. Grown (turn pick b rest (loop pick)) o) (sym (loop_turn wide (shorter wide F H more) b rest)) ih))
      (grown a t x)

  -- A loop against a wider limit, where the rounds are asked only of what P says.
  pub grows_loop_by : (a : A) → P a → Grows (loop pick a) (loop wide a)
  grows_loop_by a x = record {
    on = λ ts.
        subst (λ o. Grown o (loop wide a ts)) (sym (loop_turn pick (shorter pick F H law) a ts))
        (subst (λ o. Grown (turn pick a ts (loop pick)) o) (sym (loop_turn wide (shorter wide F H more) a ts)) (by_length (suc (length ts)) a ts (omega arith) x));
  }

-- A loop against a wider limit.
pub grows_loop : {T A : Type 0} (pick wide : A → T → Pick T A) (F H : T → Type 0) → Rounds pick F H → Rounds wide F H → ((a : A) (t : T) → PickGrown (pick a t) (wide a t)) → (a : A) → Grows (loop pick a) (loop wide a)
grows_loop pick wide F H law more grown a = grows_loop_by pick wide F H (λ b. Unit {0}) law more (λ a t us read b mid x e g. tt) (λ a t x. grown a t) a tt
