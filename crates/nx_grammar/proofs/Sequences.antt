-- The law of one reading after another: the first stops where the second begins.
use Rattle.std.proofs.Common.{◌≡◌, List, refl, ap, ◌∙◌, inl, inr}
use Rattle.std.specs.Prelude.{Ok, Err}
use Rattle.nx_grammar.specs.Reading.{Out, Reading, bind, seq, done}
use Rattle.nx_grammar.specs.Lawful.{Meets, Passed, Lawful, Lives, Opens, Law}
use Rattle.nx_grammar.proofs.Fronts.{front_none, front_then, heads_fit}

module _ {T A : Type 0} (read : Reading T A) (F I J : T → Type 0) (ts : List T) (a : A) (mid : List T) (fits : (t : T) → J t → F t) where
  -- What was read before the second part is read again before each text that the second part begins.
  met : (x : Passed read F I ts a mid) → (r : List T) → Meets J mid r → read (x.front.before r) ≡ Ok (a, r)
  met x r (inl h) = x.again r h
  met x r (inr h) = x.other r (heads_fit J F fits r h)

  -- And it begins as before.
  met_meets : (x : Passed read F I ts a mid) → (r : List T) → Meets J mid r → Meets I ts (x.front.before r)
  met_meets x r (inl h) = inl (x.front.same r h)
  met_meets x r (inr h) = x.meets r (heads_fit J F fits r h)

module _ {T A B : Type 0} (read : Reading T A) (next : A → Reading T B) (F I G J : T → Type 0) where
  -- The second part's outcome, after a first part that was read.
  second : ((t : T) → J t → F t) → (ts : List T) (a : A) (mid : List T) → Passed read F I ts a mid → (o : Out T B) → Lawful (next a) G J mid o → Lawful (seq read next) G I ts o
  second fits ts a mid x (Ok y) z = record {
    front = front_then ts mid y.1 x.front z.front;
    again = λ r h. ap (λ o. bind o next) (x.again (z.front.before r) (z.front.same r h)) ∙ z.again r h;
    other = λ r h. ap (λ o. bind o next) (met read F I J ts a mid fits x (z.front.before r) (z.meets r h)) ∙ z.other r h;
    meets = λ r h. met_meets read F I J ts a mid fits x (z.front.before r) (z.meets r h);
  }
  second fits ts a mid x (Err y) z =
      let end = z.ending in
      record {
        front = front_then ts mid y.1 x.front z.front;
        again = λ r h. ap (λ o. bind o next) (x.again (z.front.before r) (z.front.same r h)) ∙ z.again r h;
        ending = record {
          value = end.value;
          words = end.words;
          ends = λ r h. ap (λ o. bind o next) (met read F I J ts a mid fits x (z.front.before (end.words r)) (end.meets r h)) ∙ end.ends r h;
          meets = λ r h. met_meets read F I J ts a mid fits x (z.front.before (end.words r)) (end.meets r h);
        };
      }

  -- The first part's outcome; where it was refused, its ending and then that of the second part end the whole.
  first : ((a : A) → Law (next a) G J) → ((t : T) → J t → F t) → (ts : List T) (o : Out T A) → Lawful read F I ts o → Lawful (seq read next) G I ts (bind o next)
  first law fits ts (Ok x) w = second fits ts x.0 x.1 w (next x.0 x.1) ((law x.0).lives.on x.1)
  first law fits ts (Err e) w =
      let end = w.ending in
      let o = (law end.value).opens in
      record {
        front = w.front;
        again = λ r h. ap (λ o. bind o next) (w.again r h);
        ending = record {
          value = o.value;
          words = λ r. end.words (o.words r);
          ends = λ r h. ap (λ o. bind o next) (end.ends (o.words r) (heads_fit J F fits (o.words r) (o.first r h))) ∙ o.ends r h;
          meets = λ r h. end.meets (o.words r) (heads_fit J F fits (o.words r) (o.first r h));
        };
      }

  -- One reading after another is lawful on each list.
  pub lives_seq : Lives read F I → ((a : A) → Law (next a) G J) → ((t : T) → J t → F t) → Lives (seq read next) G I
  lives_seq lives law fits = record { on = λ ts. first law fits ts (read ts) (lives.on ts) }

  -- And some words are read whole by it.
  pub opens_seq : Opens read F I → ((a : A) → Law (next a) G J) → ((t : T) → J t → F t) → Opens (seq read next) G I
  opens_seq opens law fits =
      let o = (law opens.value).opens in
      record {
        value = o.value;
        words = λ r. opens.words (o.words r);
        ends = λ r h. ap (λ o. bind o next) (opens.ends (o.words r) (heads_fit J F fits (o.words r) (o.first r h))) ∙ o.ends r h;
        first = λ r h. opens.first (o.words r) (heads_fit J F fits (o.words r) (o.first r h));
      }

  -- The law of one reading after another.
  pub law_seq : Law read F I → ((a : A) → Law (next a) G J) → ((t : T) → J t → F t) → Law (seq read next) G I
  law_seq law more fits = record { lives = lives_seq law.lives more fits; opens = opens_seq law.opens more fits }

-- The law of reading nothing.
pub law_done : {T A : Type 0} (a : A) (F : T → Type 0) → Law (done a) F F
law_done a F = record {
  lives = record { on = λ ts. record { front = front_none ts; again = λ r h. refl; other = λ r h. refl; meets = λ r h. inr h } };
  opens = record { value = a; words = λ r. r; ends = λ r h. refl; first = λ r h. h };
}
