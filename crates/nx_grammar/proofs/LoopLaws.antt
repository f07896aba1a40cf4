-- The law of a loop, from that of a round.
use Rattle.std.proofs.Common.{◌≡◌, ℕ, zero, suc, ◌<◌, ◌≤◌, List, [], ◌∷◌, length, refl, sym, ap, ◌∙◌, arith, subst, inl, inr}
use Rattle.std.specs.Prelude.{None, Ok, Err}
use Rattle.nx_grammar.specs.declared.kind.Kind.{Kind}
use Rattle.nx_grammar.specs.declared.kind.Kind.TheVariants.{Syntax}
use Rattle.nx_grammar.specs.Reading.{Out, Reading, Pick, Refuse, Pass, Take, bind, round, turn, loop}
use Rattle.nx_grammar.specs.Lawful.{head_of, Heads, Any, Meets, Passed, Ending, Lawful, Law, Rounds}
use Rattle.nx_grammar.proofs.Fronts.{front_none, front_take, front_then, front_shorter, heads_fit}
use Rattle.nx_grammar.proofs.Loops.{shorter, loop_turn, loop_takes, loop_passes, loop_refuses}

module _ {T A : Type 0} (pick : A → T → Pick T A) (F H : T → Type 0) (law : Rounds pick F H) where
  -- A loop stops at the tokens of F.
  pub loop_stops : (a : A) (r : List T) → Heads F r → loop pick a r ≡ Ok (a, r)
  loop_stops a [] h = absurd h
  loop_stops a (u ∷ us) h = loop_passes pick (shorter pick F H law) a a u us (law.stops a u h)

  -- Where no token is left, a loop has no end.
  none_again : (a : A) (r : List T) → head_of r ≡ None → loop pick a r ≡ Err (Syntax, r)
  none_again a [] h = loop_turn pick (shorter pick F H law) a []
  none_again a (u ∷ us) h = absurd cc

  -- A token that is refused is refused before all others.
  refused_again : (a : A) (kind : Kind) (t : T) (us r : List T) → pick a t ≡ Refuse kind → head_of r ≡ head_of (t ∷ us) → loop pick a r ≡ Err (kind, r)
  refused_again a kind t us [] e h = absurd cc
  refused_again a kind t us (v ∷ vs) e h = let s : v ≡ t = cc in loop_refuses pick (shorter pick F H law) a kind v vs (ap (pick a) s ∙ e)

  -- A token that is passed is passed before all others.
  passed_again : (a b : A) (t : T) (us r : List T) → pick a t ≡ Pass b → head_of r ≡ head_of (t ∷ us) → loop pick a r ≡ Ok (b, r)
  passed_again a b t us [] e h = absurd cc
  passed_again a b t us (v ∷ vs) e h = let s : v ≡ t = cc in loop_passes pick (shorter pick F H law) a b v vs (ap (pick a) s ∙ e)

  -- A loop can be ended before each round.
  at_once : (a : A) (ts : List T) → Ending (loop pick a) F F ts (λ r. r)
  at_once a ts = record { value = a; words = λ r. r; ends = λ r h. loop_stops a r h; meets = λ r h. inr h }

  -- A round is read again before each text that the rounds after it begin.
  met_round : (read : Reading T A) (us : List T) (b : A) (mid : List T) → (w : Passed read H Any us b mid) → (r : List T) → Meets F mid r → read (w.front.before r) ≡ Ok (b, r)
  met_round read us b mid w r (inl h) = w.again r h
  met_round read us b mid w r (inr h) = w.other r (heads_fit F H law.fits r h)

  -- A round that was read, and the outcome of the rounds after it.
  then_case : (a : A) (t : T) (us : List T) (read : Reading T A) → pick a t ≡ Take read → (b : A) (mid : List T) → Passed read H Any us b mid → (o : Out T A) → Lawful (loop pick b) F F mid o → Lawful (loop pick a) F F (t ∷ us) o
  then_case a t us read e b mid w (Ok y) z = record {
    front = front_take t us y.1 (front_then us mid y.1 w.front z.front);
    again = λ r h. loop_takes pick (shorter pick F H law) a t (w.front.before (z.front.before r)) read (Ok (b, z.front.before r)) e (w.again (z.front.before r) (z.front.same r h)) ∙ z.again r h;
    other = λ r h. loop_takes pick (shorter pick F H law) a t (w.front.before (z.front.before r)) read (Ok (b, z.front.before r)) e (met_round read us b mid w (z.front.before r) (z.meets r h)) ∙ z.other r h;
    meets = λ r h. inl refl;
  }
  then_case a t us read e b mid w (Err y) z =
      let end = z.ending in
      record {
        front = front_take t us y.1 (front_then us mid y.1 w.front z.front);
        again = λ r h. loop_takes pick (shorter pick F H law) a t (w.front.before (z.front.before r)) read (Ok (b, z.front.before r)) e (w.again (z.front.before r) (z.front.same r h)) ∙ z.again r h;
        ending = record {
          value = end.value;
          words = end.words;
          ends = λ r h.
              let more = z.front.before (end.words r) in
              loop_takes pick (shorter pick F H law) a t (w.front.before more) read (Ok (b, more)) e (met_round read us b mid w more (end.meets r h)) ∙ end.ends r h;
          meets = λ r h. inl refl;
        };
      }

  -- A taken token: its round was read, or refused and then ended by the round's own ending.
  take_case : (a : A) (t : T) (us : List T) (read : Reading T A) → pick a t ≡ Take read → ((b : A) (mid : List T) → length mid ≤ length us → Lawful (loop pick b) F F mid (loop pick b mid)) → (o : Out T A) → Lawful read H Any us o → Lawful (loop pick a) F F (t ∷ us) (bind o (loop pick))
  take_case a t us read e ih (Ok x) w = then_case a t us read e x.0 x.1 w (loop pick x.0 x.1) (ih x.0 x.1 (front_shorter us x.1 w.front))
  take_case a t us read e ih (Err x) w =
      let end = w.ending in
      record {
        front = front_take t us x.1 w.front;
        again = λ r h. loop_takes pick (shorter pick F H law) a t (w.front.before r) read (Err (x.0, r)) e (w.again r h);
        ending = record {
          value = end.value;
          words = end.words;
          ends = λ r h. loop_takes pick (shorter pick F H law) a t (w.front.before (end.words r)) read (Ok (end.value, r)) e (end.ends r (heads_fit F H law.fits r h)) ∙ loop_stops end.value r h;
          meets = λ r h. inl refl;
        };
      }

  -- The three things that a round can do.
  by_pick : (a : A) (t : T) (us : List T) → ((b : A) (mid : List T) → length mid ≤ length us → Lawful (loop pick b) F F mid (loop pick b mid)) → (x : Pick T A) → pick a t ≡ x → Lawful (loop pick a) F F (t ∷ us) (round x t us (loop pick))
  by_pick a t us ih (Refuse kind) e = record { front = front_none (t ∷ us); again = λ r h. refused_again a kind t us r e h; ending = at_once a (t ∷ us) }
  by_pick a t us ih (Pass b) e =
      let s : b ≡ a = law.same a b t e in
      record { front = front_none (t ∷ us); again = λ r h. passed_again a b t us r e h; other = λ r h. loop_stops a r h ∙ ap (λ c. Ok (c, r)) (sym s); meets = λ r h. inr h }
  by_pick a t us ih (Take read) e = take_case a t us read e ih (read us) ((law.takes a t read e).on us)

  -- By the number of tokens.
  by_length : (n : ℕ) (a : A) (ts : List T) → length ts < n → Lawful (loop pick a) F F ts (turn pick a ts (loop pick))
  by_length zero a ts h = absurd (omega arith)
  by_length (suc n) a [] h = record { front = front_none []; again = λ r h. none_again a r h; ending = at_once a [] }
  by_length (suc n) a (t ∷ us) h =
      by_pick a t us (λ b mid k. subst (λ o. Lawful (loop pick b) F F mid o) (sym (loop_turn pick (shorter pick F H law) b mid)) (by_length n b mid (omega arith))) (pick a t) refl

  -- The law of a loop.
  pub law_loop : (a : A) → Law (loop pick a) F F
  law_loop a = record {
    lives = record { on = λ ts. subst (λ o. Lawful (loop pick a) F F ts o) (sym (loop_turn pick (shorter pick F H law) a ts)) (by_length (suc (length ts)) a ts (omega arith)) };
    opens = record { value = a; words = λ r. r; ends = λ r h. loop_stops a r h; first = λ r h. h };
  }
