-- Chains of operators, round by round.
use Rattle.std.proofs.Common.{◌≡◌, ◌≤◌, Bool, true, false, List, [], ◌∷◌, length, refl, ap, ◌∙◌, subst}
use Rattle.std.specs.Prelude.{Ok, Option, Some, None, if◌then◌else◌}
use Rattle.nx_grammar.specs.Reading.{Reading, Pick, Pass, Take, bind, loop}
use Rattle.nx_grammar.specs.Lawful.{Shorter}
use Rattle.nx_grammar.specs.Chains.{chain_pick, after_first, closed}
use Rattle.nx_grammar.proofs.Loops.{loop_turn, loop_takes, loop_passes, loop_keeps}

-- What a round takes passed the test.
taken_right : {T A : Type 0} (a : A) (right read : Reading T A) (b : Bool) → (let x : Pick T A = if b then Take right else Pass a in x) ≡ Take read → (b ≡ true) × (right ≡ read)
taken_right a right read true e = (refl, cc)
taken_right a right read false e = absurd cc

-- What a round passes is what was read before.
passed_left : {T A : Type 0} (a c : A) (right : Reading T A) (b : Bool) → (let x : Pick T A = if b then Take right else Pass a in x) ≡ Pass c → a ≡ c
passed_left a c right true e = absurd cc
passed_left a c right false e = cc

-- An operator at the front is the first token.
after_first_case : {T : Type 0} (t : T) (ts us : List T) (b : Bool) → (let x : Option (List T) = if b then Some ts else None in x) ≡ Some us → (b ≡ true) × (ts ≡ us)
after_first_case t ts us true e = (refl, cc)
after_first_case t ts us false e = absurd cc

-- No operator at the front is a first token that is none.
none_case : {T : Type 0} (ts : List T) (b : Bool) → (let x : Option (List T) = if b then Some ts else None in x) ≡ None → b ≡ false
none_case ts true e = absurd cc
none_case ts false e = refl

module _ {T A : Type 0} (test : T → Bool) (right : A → Reading T A) (short : (a : A) (ts : List T) (b : A) (rest : List T) → right a ts ≡ Ok (b, rest) → length rest ≤ length ts) where
  -- Each round shortens the list.
  pub chain_shorter : Shorter (chain_pick test right)
  chain_shorter = record { on = λ a t read e ts b rest h. short a ts b rest (ap (λ (r : Reading T A). r ts) (taken_right a (right a) read (test t) e).1 ∙ h) }

  -- After an operator the chain is its right side and the chain.
  pub chain_takes : (a : A) (t : T) (us : List T) → test t ≡ true → loop (chain_pick test right) a (t ∷ us) ≡ bind (right a us) (loop (chain_pick test right))
  chain_takes a t us e = loop_takes (chain_pick test right) chain_shorter a t us (right a) (right a us) (rw e refl) refl

  -- At another token the chain is over.
  pub chain_stops : (a : A) (t : T) (us : List T) → test t ≡ false → loop (chain_pick test right) a (t ∷ us) ≡ Ok (a, t ∷ us)
  chain_stops a t us e = loop_passes (chain_pick test right) chain_shorter a a t us (rw e refl)

  -- Where an operator stands at the front, the chain is its right side and the chain.
  pub chain_on : (a : A) (ts us : List T) → after_first test ts ≡ Some us → loop (chain_pick test right) a ts ≡ bind (right a us) (loop (chain_pick test right))
  chain_on a [] us e = absurd cc
  chain_on a (t ∷ ts) us e = let b = after_first_case t ts us (test t) e in chain_takes a t ts b.0 ∙ ap (λ vs. bind (right a vs) (loop (chain_pick test right))) b.1

  -- Where none does, it is over.
  pub chain_closed : (a : A) (ts : List T) → after_first test ts ≡ None → loop (chain_pick test right) a ts ≡ closed a ts
  chain_closed a [] e = loop_turn (chain_pick test right) chain_shorter a []
  chain_closed a (t ∷ ts) e = chain_stops a t ts (none_case ts (test t) e)

  -- What each right side keeps, the chain keeps.
  pub chain_keeps : (P : A → List T → Type 0) → ((a : A) (t : T) (us : List T) (b : A) (mid : List T) → test t ≡ true → right a us ≡ Ok (b, mid) → P a (t ∷ us) → P b mid) →
      (a : A) (ts : List T) (c : A) (rest : List T) → loop (chain_pick test right) a ts ≡ Ok (c, rest) → P a ts → P c rest
  chain_keeps P step = loop_keeps (chain_pick test right) chain_shorter P P
      (λ a t us read b mid e h p. let k = taken_right a (right a) read (test t) e in step a t us b mid k.0 (ap (λ (r : Reading T A). r us) k.1 ∙ h) p)
      (λ a b t us e p. subst (λ c. P c (t ∷ us)) (passed_left a b (right a) (test t) e) p)
