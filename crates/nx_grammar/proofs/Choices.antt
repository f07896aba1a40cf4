-- The law of a choice by the next token.
use Rattle.std.proofs.Common.{◌≡◌, Bool, true, false, List, [], ◌∷◌, refl, ap, ◌∙◌, subst, inl, inr}
use Rattle.std.specs.Prelude.{None, Ok, Err, if◌then◌else◌}
use Rattle.nx_grammar.specs.declared.kind.Kind.{Kind}
use Rattle.nx_grammar.specs.declared.kind.Kind.TheVariants.{Syntax}
use Rattle.nx_grammar.specs.Reading.{Out, Reading, Pick, Refuse, Pass, Take, picked, dispatch, done, expect_pick, expect}
use Rattle.nx_grammar.specs.Lawful.{head_of, Heads, Any, Ending, Lawful, Lives, Opens, Law, Picks}
use Rattle.nx_grammar.proofs.Fronts.{front_none, front_take, heads_fit, meets_any}
use Rattle.nx_grammar.proofs.Sequences.{law_done}

-- The list is not empty, and its next token is this one.
abbrev head_same : {T : Type 0} → T → List T → Type 0
head_same t [] = ⊥
head_same t (u ∷ us) = u ≡ t

-- A list with the head of another begins with its token.
heads_same : {T : Type 0} (t : T) (r ts : List T) → head_of r ≡ head_of (t ∷ ts) → head_same t r
heads_same t [] ts h = absurd cc
heads_same t (u ∷ us) ts h = cc

module _ {T A : Type 0} (pick : T → Pick T A) where
  -- A token that is refused is refused before all others.
  refused_again : (kind : Kind) (t : T) (r : List T) → pick t ≡ Refuse kind → head_same t r → dispatch pick r ≡ Err (kind, r)
  refused_again kind t [] e h = absurd h
  refused_again kind t (u ∷ us) e h = ap (λ x. picked x u us) (ap pick h ∙ e)

  -- A token that is passed is passed before all others.
  passed_again : (a : A) (t : T) (r : List T) → pick t ≡ Pass a → head_same t r → dispatch pick r ≡ Ok (a, r)
  passed_again a t [] e h = absurd h
  passed_again a t (u ∷ us) e h = ap (λ x. picked x u us) (ap pick h ∙ e)

  -- Where all tokens of F are passed alike, so is each list that one of them heads.
  passed_other : (F : T → Type 0) (a : A) (r : List T) → ((u : T) → F u → pick u ≡ Pass a) → Heads F r → dispatch pick r ≡ Ok (a, r)
  passed_other F a [] e h = absurd h
  passed_other F a (u ∷ us) e h = ap (λ x. picked x u us) (e u h)

  -- Where no token is left, none was there.
  none_again : (r : List T) → head_of r ≡ None → dispatch pick r ≡ Err (Syntax, r)
  none_again [] h = refl
  none_again (u ∷ us) h = absurd cc

  module _ (F I : T → Type 0) where
    -- What a taken token leaves to be read, with the token before it.
    taken : (J : T → Type 0) (t : T) (read : Reading T A) → pick t ≡ Take read → (ts : List T) (o : Out T A) → Lawful read F J ts o → Lawful (dispatch pick) F I (t ∷ ts) o
    taken J t read e ts (Ok x) w = record {
      front = front_take t ts x.1 w.front;
      again = λ r h. ap (λ y. picked y t (w.front.before r)) e ∙ w.again r h;
      other = λ r h. ap (λ y. picked y t (w.front.before r)) e ∙ w.other r h;
      meets = λ r h. inl refl;
    }
    taken J t read e ts (Err x) w =
        let end = w.ending in
        record {
          front = front_take t ts x.1 w.front;
          again = λ r h. ap (λ y. picked y t (w.front.before r)) e ∙ w.again r h;
          ending = record {
            value = end.value;
            words = end.words;
            ends = λ r h. ap (λ y. picked y t (w.front.before (end.words r))) e ∙ end.ends r h;
            meets = λ r h. inl refl;
          };
        }

    -- What can be begun can be ended where nothing is begun yet.
    opened : (ts : List T) → Opens (dispatch pick) F I → Ending (dispatch pick) F I ts (λ r. r)
    opened ts o = record { value = o.value; words = o.words; ends = o.ends; meets = λ r h. inr (o.first r h) }

    -- The three things that a pick can do.
    by_pick : Picks pick F I → Opens (dispatch pick) F I → (t : T) (ts : List T) (x : Pick T A) → pick t ≡ x → Lawful (dispatch pick) F I (t ∷ ts) (picked x t ts)
    by_pick law opens t ts (Refuse kind) e = record {
      front = front_none (t ∷ ts);
      again = λ r h. refused_again kind t r e (heads_same t r ts h);
      ending = opened (t ∷ ts) opens;
    }
    by_pick law opens t ts (Pass a) e = record {
      front = front_none (t ∷ ts);
      again = λ r h. passed_again a t r e (heads_same t r ts h);
      other = λ r h. passed_other F a r (λ u f. (law.passes t a e u f).0) h;
      meets = λ r h. inr (heads_fit F I (λ u f. (law.passes t a e u f).1) r h);
    }
    by_pick law opens t ts (Take read) e = taken Any t read e ts (read ts) ((law.takes t read e).on ts)

    -- Every list has a next token or none.
    by_list : Picks pick F I → Opens (dispatch pick) F I → (ts : List T) → Lawful (dispatch pick) F I ts (dispatch pick ts)
    by_list law opens [] = record { front = front_none []; again = λ r h. none_again r h; ending = opened [] opens }
    by_list law opens (t ∷ ts) = by_pick law opens t ts (pick t) refl

    -- The law of a choice.
    pub law_dispatch : Picks pick F I → Opens (dispatch pick) F I → Law (dispatch pick) F I
    law_dispatch law opens = record { lives = record { on = by_list law opens }; opens = opens }

module _ {T A : Type 0} (read : Reading T A) where
  -- A lawful outcome may be asked to begin with no token of its own.
  any_case : (F I : T → Type 0) (ts : List T) (o : Out T A) → Lawful read F I ts o → Lawful read F Any ts o
  any_case F I ts (Ok x) w = record { front = w.front; again = w.again; other = w.other; meets = λ r h. meets_any I ts (w.front.before r) (w.meets r h) }
  any_case F I ts (Err x) w =
      let end = w.ending in
      record {
        front = w.front;
        again = w.again;
        ending = record { value = end.value; words = end.words; ends = end.ends; meets = λ r h. meets_any I ts (w.front.before (end.words r)) (end.meets r h) };
      }

  -- The same on each list.
  pub lives_any : (F I : T → Type 0) → Lives read F I → Lives read F Any
  lives_any F I lives = record { on = λ ts. any_case F I ts (read ts) (lives.on ts) }

  module _ (F G I : T → Type 0) (fits : (t : T) → G t → F t) where
    -- A lawful outcome may be asked to stop at fewer tokens.
    fit_case : (ts : List T) (o : Out T A) → Lawful read F I ts o → Lawful read G I ts o
    fit_case ts (Ok x) w = record { front = w.front; again = w.again; other = λ r h. w.other r (heads_fit G F fits r h); meets = λ r h. w.meets r (heads_fit G F fits r h) }
    fit_case ts (Err x) w =
        let end = w.ending in
        record {
          front = w.front;
          again = w.again;
          ending = record { value = end.value; words = end.words; ends = λ r h. end.ends r (heads_fit G F fits r h); meets = λ r h. end.meets r (heads_fit G F fits r h) };
        }

    -- The same on each list.
    pub lives_fit : Lives read F I → Lives read G I
    lives_fit lives = record { on = λ ts. fit_case ts (read ts) (lives.on ts) }

    -- The law, at fewer tokens.
    pub law_fit : Law read F I → Law read G I
    law_fit law =
        let o = law.opens in
        record {
          lives = lives_fit law.lives;
          opens = record { value = o.value; words = o.words; ends = λ r h. o.ends r (heads_fit G F fits r h); first = λ r h. o.first r (heads_fit G F fits r h) };
        }

    -- As what a taken token leaves to be read.
    pub taken_by : Law read F I → Lives read G Any
    taken_by law = lives_any G I (lives_fit law.lives)

module _ {T : Type 0} (test : T → Bool) (I : T → Type 0) (token : T) (good : test token ≡ true) (begins : I token) where
  -- What a token that passes the test leaves to be read.
  expect_takes : (t : T) (b : Bool) (read : Reading T T) → (if b then Take (done t) else Refuse Syntax) ≡ Take read → Lives read Any Any
  expect_takes t true read e = let same : done t ≡ read = cc in subst (λ x. Lives x Any Any) same (law_done t Any).lives
  expect_takes t false read e = absurd cc

  -- No token is passed.
  expect_passes : (b : Bool) (t a : T) → (let x : Pick T T = if b then Take (done t) else Refuse Syntax in x) ≡ Pass a → ⊥
  expect_passes true t a e = cc
  expect_passes false t a e = cc

  -- The law of one token that passes a test.
  pub law_expect : Law (expect test) Any I
  law_expect = law_dispatch (expect_pick test) Any I
      (record { takes = λ t read e. expect_takes t (test t) read e; passes = λ t a e. absurd (expect_passes (test t) t a e) })
      (record { value = token; words = λ r. token ∷ r; ends = λ r h. rw good refl; first = λ r h. begins })
