-- The laws of lists of parts.
use Rattle.std.proofs.Common.{◌≡◌, Bool, true, false, List, [], ◌∷◌, ◌++◌, refl, sym, ap, ◌∙◌, subst}
use Rattle.std.specs.Prelude.{Ok, Err, if◌then◌else◌}
use Rattle.nx_grammar.specs.Reading.{Out, Reading, Pick, Refuse, Pass, Take, picked, dispatch, bind, seq, then_pick, round, turn, loop}
use Rattle.nx_grammar.specs.Lawful.{Any, Heads, Lives, Rounds}
use Rattle.nx_grammar.specs.Growing.{Wider, PickGrown}
use Rattle.nx_grammar.specs.Sparing.{Spares, SparesPick}
use Rattle.nx_grammar.proofs.Results.{bound, ok_same}
use Rattle.nx_grammar.proofs.Sequences.{law_done}
use Rattle.nx_grammar.proofs.Thens.{then_takes, then_passes, then_grown}
use Rattle.nx_grammar.proofs.Growth.{wider_done, grows_done, shortens}
use Rattle.nx_grammar.proofs.Loops.{loop_turn, loop_keeps, shorter}
use Rattle.nx_grammar.proofs.LoopLaws.{law_loop}
use Rattle.nx_grammar.proofs.LoopGrowth.{grows_loop}
use Rattle.nx_grammar.proofs.Spares.{spares_seq, spares_done, spares_loop}
use Rattle.nx_cstmt.specs.Lists.{add, more_pick, is_over}

-- What a pick takes and more after it takes no last token.
pub then_spares : {T A B : Type 0} (E : T → Type 0) (t : T) (x : Pick T A) (next : A → Reading T B) → SparesPick E t x → ((a : A) → Spares E (next a)) → SparesPick E t (then_pick x next)
then_spares E t (Refuse kind) next s more = record { takes = λ q h. absurd cc }
then_spares E t (Pass a) next s more = record { takes = λ q h. absurd cc }
then_spares {T = T} {B = B} E t (Take read) next s more = record {
  takes = λ q h.
      let k = s.takes read refl in
      let r : Reading T B = seq read next in
      let same : r ≡ q = cc in
      (k.0, subst (λ z. Spares E z) same (spares_seq E read next k.1 more));
}

-- What a pick and more after it read, each of them read.
pub then_read : {T A B : Type 0} (x : Pick T A) (next : A → Reading T B) (t : T) (us : List T) (b : B) (rest : List T) → picked (then_pick x next) t us ≡ Ok (b, rest) →
    (a : A) × (mid : List T) × (picked x t us ≡ Ok (a, mid)) × (next a mid ≡ Ok (b, rest))
then_read (Refuse kind) next t us b rest h = absurd cc
then_read (Pass a) next t us b rest h = absurd cc
then_read (Take read) next t us b rest h = bound (read us) next (b, rest) h

-- What is taken reads what is picked.
pub taken_reads : {T A : Type 0} (x : Pick T A) (read : Reading T A) (t : T) (us : List T) → x ≡ Take read → picked x t us ≡ read us
taken_reads x read t us e = ap (λ y. picked y t us) e

-- Where a pick passes nothing, it and more after it are one reading after another.
pub then_on : {T A B : Type 0} (pick : T → Pick T A) (next : A → Reading T B) → ((t : T) (a : A) → pick t ≡ Pass a → ⊥) → (ts : List T) → dispatch (λ t. then_pick (pick t) next) ts ≡ bind (dispatch pick ts) next
then_on pick next law [] = refl
then_on {T = T} {A = A} {B = B} pick next law (t ∷ us) = by_pick (pick t) (law t)
  where
    by_pick : (x : Pick T A) → ((a : A) → x ≡ Pass a → ⊥) → picked (then_pick x next) t us ≡ bind (picked x t us) next
    by_pick (Refuse kind) h = refl
    by_pick (Pass a) h = absurd (h a refl)
    by_pick (Take read) h = refl

-- Parts that each take a token, and stop at the tokens of H.
pub record Ones {T A : Type 0} (one : T → Pick T A) (H : T → Type 0) : Type 0 where
  pub takes : (t : T) (read : Reading T A) → one t ≡ Take read → Lives read H Any
  pub passes : (t : T) (a : A) → one t ≡ Pass a → ⊥

module _ {T A : Type 0} (ends : T → Bool) where
  -- What a round takes is lawful.
  round_takes : (H : T → Type 0) (b : Bool) (xs : List A) (x : Pick T A) (q : Reading T (List A)) → ((p : Reading T A) → x ≡ Take p → Lives p H Any) → (if b then Pass xs else then_pick x (add xs)) ≡ Take q → Lives q H Any
  round_takes H true xs x q law e = absurd cc
  round_takes H false xs x q law e = then_takes x (add xs) H H H law (λ a. law_done (xs ++ a ∷ []) H) (λ t i. i) q e

  -- What a round passes is the list so far.
  round_passes : (b : Bool) (xs ys : List A) (x : Pick T A) → (if b then Pass xs else then_pick x (add xs)) ≡ Pass ys → ys ≡ xs
  round_passes true xs ys x e = cc
  round_passes false xs ys x e = absurd (then_passes x (add xs) ys e)

  -- The rounds of a list.
  pub more_rounds : (one : T → Pick T A) (F H : T → Type 0) → ((t : T) → F t → ends t ≡ true) → ((t : T) → F t → H t) → Ones one H → Rounds (more_pick ends one) F H
  more_rounds one F H stops fits law = record {
    takes = λ xs t q e. round_takes H (ends t) xs (one t) q (λ p f. law.takes t p f) e;
    stops = λ xs t h. rw (stops t h) refl;
    same = λ xs ys t e. round_passes (ends t) xs ys (one t) e;
    fits = fits;
  }

  -- A round against a wider limit.
  round_grown : (b : Bool) (xs : List A) (x y : Pick T A) → PickGrown x y → PickGrown {T = T} {A = List A} (if b then Pass xs else then_pick x (add xs)) (if b then Pass xs else then_pick y (add xs))
  round_grown true xs x y h = refl
  round_grown false xs x y h = then_grown (add xs) (add xs) (λ a. (wider_done (xs ++ a ∷ [])).short) x y h (λ a. grows_done (xs ++ a ∷ []))

  -- A list against a wider limit.
  pub list_wider : (one two : T → Pick T A) (F H : T → Type 0) → Rounds (more_pick ends one) F H → Rounds (more_pick ends two) F H → ((t : T) → PickGrown (one t) (two t)) → Wider (loop (more_pick ends one) []) (loop (more_pick ends two) [])
  list_wider one two F H law more h = record {
    grows = grows_loop (more_pick ends one) (more_pick ends two) F H law more (λ xs t. round_grown (ends t) xs (one t) (two t) (h t)) [];
    short = shortens (loop (more_pick ends two) []) F F (law_loop (more_pick ends two) F H more []);
  }

  -- A round takes no last token.
  round_spares : (E : T → Type 0) (b : Bool) (xs : List A) (t : T) (x : Pick T A) → SparesPick E t x → SparesPick {A = List A} E t (if b then Pass xs else then_pick x (add xs))
  round_spares E true xs t x s = record { takes = λ q h. absurd cc }
  round_spares E false xs t x s = then_spares E t x (add xs) s (λ a. spares_done E (xs ++ a ∷ []))

  -- Nor does a list.
  pub list_spares : (E : T → Type 0) (one : T → Pick T A) (F H : T → Type 0) → Rounds (more_pick ends one) F H → ((t : T) → SparesPick E t (one t)) → Spares E (loop (more_pick ends one) [])
  list_spares E one F H law s = spares_loop E (more_pick ends one) F H law (λ xs t. round_spares E (ends t) xs t (one t) (s t)) []

  -- What a round read is one part more.
  round_reads : (b : Bool) (xs ys : List A) (t : T) (us mid : List T) (x : Pick T A) → picked (if b then Pass xs else then_pick x (add xs)) t us ≡ Ok (ys, mid) → b ≡ false →
      (a : A) × (picked x t us ≡ Ok (a, mid)) × (ys ≡ xs ++ a ∷ [])
  round_reads true xs ys t us mid x h e = absurd cc
  round_reads false xs ys t us mid x h e =
      let z = then_read x (add xs) t us ys mid h in
      let k = ok_same (xs ++ z.0 ∷ []) ys z.1 mid z.3 in
      (z.0, z.2 ∙ ap (λ m. Ok (z.0, m)) k.1, sym k.0)

  -- What takes a token is no end.
  round_goes : (b : Bool) (xs : List A) (x : Pick T A) (q : Reading T (List A)) → (if b then Pass xs else then_pick x (add xs)) ≡ Take q → b ≡ false
  round_goes true xs x q e = absurd cc
  round_goes false xs x q e = refl

  -- What passes a token is an end.
  round_stops : (b : Bool) (xs ys : List A) (x : Pick T A) → (if b then Pass xs else then_pick x (add xs)) ≡ Pass ys → (ys ≡ xs) × (b ≡ true)
  round_stops true xs ys x e = (cc, refl)
  round_stops false xs ys x e = absurd (then_passes x (add xs) ys e)

  -- What holds of no parts, and of each part more, holds of a list that was read; and a token that ends it stands after it.
  pub list_keeps : (one : T → Pick T A) (F H : T → Type 0) → Rounds (more_pick ends one) F H → (P : List A → List T → Type 0) →
      ((xs : List A) (t : T) (us : List T) (a : A) (mid : List T) → picked (one t) t us ≡ Ok (a, mid) → P xs (t ∷ us) → P (xs ++ a ∷ []) mid) →
      (ts : List T) (ys : List A) (rest : List T) → loop (more_pick ends one) [] ts ≡ Ok (ys, rest) → P [] ts → P ys rest × Heads (λ t. ends t ≡ true) rest
  list_keeps one F H law P step ts ys rest h p =
      loop_keeps (more_pick ends one) (shorter (more_pick ends one) F H law) P (λ xs us. P xs us × Heads (λ t. ends t ≡ true) us)
      (λ xs t us q zs mid e g k.
      let r = round_reads (ends t) xs zs t us mid (one t) (taken_reads (more_pick ends one xs t) q t us e ∙ g) (round_goes (ends t) xs (one t) q e) in
      subst (λ z. P z mid) (sym r.2) (step xs t us r.0 mid r.1 k))
      (λ xs zs t us e k.
      let r = round_stops (ends t) xs zs (one t) e in
      (subst (λ z. P z (t ∷ us)) (sym r.0) k, r.1))
      [] ts ys rest h p

  -- A list from ts on, after what one part read.
  abbrev pub on_from : (T → Pick T A) → List A → Out T A → Out T (List A)
  on_from one xs o = bind o (λ a rest. loop (more_pick ends one) (xs ++ a ∷ []) rest)

  module _ (one : T → Pick T A) (F H : T → Type 0) (law : Rounds (more_pick ends one) F H) where
    added_on : (xs : List A) (t : T) (us : List T) (x : Pick T A) → ((a : A) → x ≡ Pass a → ⊥) → round (then_pick x (add xs)) t us (loop (more_pick ends one)) ≡ on_from one xs (picked x t us)
    added_on xs t us (Refuse kind) h = refl
    added_on xs t us (Pass a) h = absurd (h a refl)
    added_on xs t us (Take q) h = two (q us)
      where
        two : (o : Out T A) → bind (bind o (add xs)) (loop (more_pick ends one)) ≡ on_from one xs o
        two (Ok x) = refl
        two (Err e) = refl

    goes_by : (xs : List A) (ts : List T) → ((t : T) (a : A) → one t ≡ Pass a → ⊥) → is_over ends ts ≡ false → turn (more_pick ends one) xs ts (loop (more_pick ends one)) ≡ on_from one xs (dispatch one ts)
    goes_by xs [] passes h = refl
    goes_by xs (t ∷ us) passes h = rw h (added_on xs t us (one t) (passes t))

    -- Where no end stands first, the list goes on with a part.
    pub list_goes : ((t : T) (a : A) → one t ≡ Pass a → ⊥) → (xs : List A) (ts : List T) → is_over ends ts ≡ false → loop (more_pick ends one) xs ts ≡ on_from one xs (dispatch one ts)
    list_goes passes xs ts h = loop_turn (more_pick ends one) (shorter (more_pick ends one) F H law) xs ts ∙ goes_by xs ts passes h

    ends_by : (xs : List A) (ts : List T) → is_over ends ts ≡ true → turn (more_pick ends one) xs ts (loop (more_pick ends one)) ≡ Ok (xs, ts)
    ends_by xs [] h = absurd cc
    ends_by xs (t ∷ us) h = rw h refl

    -- Where an end does, it is over.
    pub list_ends : (xs : List A) (ts : List T) → is_over ends ts ≡ true → loop (more_pick ends one) xs ts ≡ Ok (xs, ts)
    list_ends xs ts h = loop_turn (more_pick ends one) (shorter (more_pick ends one) F H law) xs ts ∙ ends_by xs ts h

    -- The same as one step and the list.
    step_on : (xs : List A) (o : Out T A) → on_from one xs o ≡ bind (bind o (add xs)) (loop (more_pick ends one))
    step_on xs (Ok x) = refl
    step_on xs (Err e) = refl

    pub list_step : ((t : T) (a : A) → one t ≡ Pass a → ⊥) → (xs : List A) (ts : List T) → is_over ends ts ≡ false → loop (more_pick ends one) xs ts ≡ bind (seq (dispatch one) (add xs) ts) (loop (more_pick ends one))
    list_step passes xs ts h = list_goes passes xs ts h ∙ step_on xs (dispatch one ts)
