-- A loop is one round and the loop, and what each round keeps the loop keeps.
use Rattle.std.proofs.Common.{◌≡◌, ℕ, zero, suc, ◌<◌, ◌≤◌, List, [], ◌∷◌, length, refl, sym, ap, ◌∙◌, arith, subst}
use Rattle.std.specs.Prelude.{Ok, Err}
use Rattle.nx_grammar.specs.declared.kind.Kind.{Kind}
use Rattle.nx_grammar.specs.Reading.{Out, Reading, Pick, Refuse, Pass, Take, bind, round, turn, rounds, loop}
use Rattle.nx_grammar.specs.Lawful.{Any, Lawful, Rounds, Shorter}
use Rattle.nx_grammar.proofs.Fronts.{front_shorter}
use Rattle.nx_grammar.proofs.Results.{bound, ok_same}

-- A lawful reading leaves no more tokens than there were.
pub passed_shorter : {T A : Type 0} (read : Reading T A) (F I : T → Type 0) (ts : List T) (o : Out T A) (b : A) (rest : List T) → Lawful read F I ts o → o ≡ Ok (b, rest) → length rest ≤ length ts
passed_shorter read F I ts (Ok x) b rest w e = let f = front_shorter ts x.1 w.front in let same : x.1 ≡ rest = cc in rw (← same) f
passed_shorter read F I ts (Err x) b rest w e = absurd cc

-- So lawful rounds shorten the list.
pub shorter : {T A : Type 0} (pick : A → T → Pick T A) (F H : T → Type 0) → Rounds pick F H → Shorter pick
shorter pick F H law = record { on = λ a t read e ts b rest h. passed_shorter read H Any ts (read ts) b rest ((law.takes a t read e).on ts) h }

-- Two ways to go on are one where they agree on what was read.
bind_same : {T A : Type 0} (o : Out T A) (go on : A → Reading T A) → ((b : A) (rest : List T) → o ≡ Ok (b, rest) → go b rest ≡ on b rest) → bind o go ≡ bind o on
bind_same (Ok x) go on h = h x.0 x.1 refl
bind_same (Err e) go on h = refl

-- So are two ways to go on after a round.
round_same : {T A : Type 0} (x : Pick T A) (t : T) (us : List T) (go on : A → Reading T A) → ((read : Reading T A) → x ≡ Take read → (b : A) (rest : List T) → read us ≡ Ok (b, rest) → go b rest ≡ on b rest) → round x t us go ≡ round x t us on
round_same (Refuse kind) t us go on h = refl
round_same (Pass a) t us go on h = refl
round_same (Take read) t us go on h = bind_same (read us) go on (h read refl)

module _ {T A : Type 0} (pick : A → T → Pick T A) (short : Shorter pick) where
  -- How many rounds are allowed doesn't matter, where there are more than tokens.
  same_rounds : (n m : ℕ) (a : A) (ts : List T) → length ts < n → length ts < m → rounds pick n a ts ≡ rounds pick m a ts
  unfolding rounds
  same_rounds zero m a ts h k = absurd (omega arith)
  same_rounds (suc n) zero a ts h k = absurd (omega arith)
  same_rounds (suc n) (suc m) a [] h k = refl
  same_rounds (suc n) (suc m) a (t ∷ us) h k =
      round_same (pick a t) t us (rounds pick n) (rounds pick m) (λ read e b rest g.
      let s : length rest ≤ length us = short.on a t read e us b rest g in
      same_rounds n m b rest (omega arith) (omega arith))

  -- A loop is one round and the loop.
  pub loop_turn : (a : A) (ts : List T) → loop pick a ts ≡ turn pick a ts (loop pick)
  unfolding rounds loop
  loop_turn a [] = refl
  loop_turn a (t ∷ us) =
      round_same (pick a t) t us (rounds pick (suc (length us))) (loop pick) (λ read e b rest g.
      let s : length rest ≤ length us = short.on a t read e us b rest g in
      same_rounds (suc (length us)) (suc (length rest)) b rest (omega arith) (omega arith))

  -- Where the next token is taken, the loop is what it begins and the loop.
  pub loop_takes : (a : A) (t : T) (us : List T) (read : Reading T A) (o : Out T A) → pick a t ≡ Take read → read us ≡ o → loop pick a (t ∷ us) ≡ bind o (loop pick)
  loop_takes a t us read o e h = loop_turn a (t ∷ us) ∙ ap (λ x. round x t us (loop pick)) e ∙ ap (λ o. bind o (loop pick)) h

  -- Where it is passed, the loop is over.
  pub loop_passes : (a b : A) (t : T) (us : List T) → pick a t ≡ Pass b → loop pick a (t ∷ us) ≡ Ok (b, t ∷ us)
  loop_passes a b t us e = loop_turn a (t ∷ us) ∙ ap (λ x. round x t us (loop pick)) e

  -- Where it is refused, so is the list.
  pub loop_refuses : (a : A) (kind : Kind) (t : T) (us : List T) → pick a t ≡ Refuse kind → loop pick a (t ∷ us) ≡ Err (kind, t ∷ us)
  loop_refuses a kind t us e = loop_turn a (t ∷ us) ∙ ap (λ x. round x t us (loop pick)) e

  module _ (P Q : A → List T → Type 0) where
    -- One round keeps it: P holds before each round, and Q of what is passed.
    keeps_case : (a : A) (t : T) (us : List T) →
        ((b : A) (mid : List T) (c : A) (rest : List T) → length mid ≤ length us → loop pick b mid ≡ Ok (c, rest) → P b mid → Q c rest) →
        ((read : Reading T A) (b : A) (mid : List T) → pick a t ≡ Take read → read us ≡ Ok (b, mid) → (length mid ≤ length us) × P b mid) →
        ((b : A) → pick a t ≡ Pass b → Q b (t ∷ us)) →
        (x : Pick T A) → pick a t ≡ x → (c : A) (rest : List T) → round x t us (loop pick) ≡ Ok (c, rest) → Q c rest
    keeps_case a t us ih step stop (Refuse kind) e c rest h = absurd cc
    keeps_case a t us ih step stop (Pass b) e c rest h =
        let o = ok_same b c (t ∷ us) rest h in
        let s : b ≡ c = o.0 in
        let r : t ∷ us ≡ rest = o.1 in
        subst (λ x. Q c x) r (subst (λ x. Q x (t ∷ us)) s (stop b e))
    keeps_case a t us ih step stop (Take read) e c rest h =
        let m = bound (read us) (loop pick) (c, rest) h in
        let s = step read m.0 m.1 e m.2 in
        ih m.0 m.1 c rest s.0 m.3 s.1

    module _
        (step : (a : A) (t : T) (us : List T) (read : Reading T A) (b : A) (mid : List T) → pick a t ≡ Take read → read us ≡ Ok (b, mid) → P a (t ∷ us) → P b mid)
        (stop : (a b : A) (t : T) (us : List T) → pick a t ≡ Pass b → P a (t ∷ us) → Q b (t ∷ us)) where
      -- Any number of rounds keeps it.
      keeps_by : (n : ℕ) (a : A) (ts : List T) (c : A) (rest : List T) → length ts < n → loop pick a ts ≡ Ok (c, rest) → P a ts → Q c rest
      keeps_by zero a ts c rest k h p = absurd (omega arith)
      keeps_by (suc n) a [] c rest k h p = let e = loop_turn a [] in absurd cc
      keeps_by (suc n) a (t ∷ us) c rest k h p =
          keeps_case a t us
          (λ b mid d r s g x. keeps_by n b mid d r (omega arith) g x)
          (λ read b mid e g. (short.on a t read e us b mid g, step a t us read b mid e g p))
          (λ b e. stop a b t us e p)
          (pick a t) refl c rest (sym (loop_turn a (t ∷ us)) ∙ h)

      -- What each round keeps, the loop keeps.
      pub loop_keeps : (a : A) (ts : List T) (c : A) (rest : List T) → loop pick a ts ≡ Ok (c, rest) → P a ts → Q c rest
      loop_keeps a ts c rest h p = keeps_by (suc (length ts)) a ts c rest (omega arith) h p
