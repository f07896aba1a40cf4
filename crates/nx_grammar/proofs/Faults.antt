-- A reading that is the grammar's has its faults where the grammar has them.
use Rattle.std.proofs.Common.{◌≡◌, ℕ, ◌+◌, List, [], ◌∷◌, ◌++◌, length, length-append, refl, sym, ap, ◌∙◌, append_assoc, arith, subst}
use Rattle.std.specs.Prelude.{Ok, Err}
use Rattle.nx_grammar.specs.declared.kind.Kind.{Kind}
use Rattle.nx_grammar.specs.declared.kind.Kind.TheVariants.{Syntax, Limit}
use Rattle.nx_grammar.specs.Reading.{Out, Reading}
use Rattle.nx_grammar.specs.Lawful.{Passed, Failed, Lawful}
use Rattle.nx_grammar.specs.Growing.{left, Beyond, Grown}
use Rattle.nx_grammar.specs.Faults.{Begins, IsOfKind, IsFault, EndsIn, Reads}
use Rattle.nx_grammar.specs.Sparing.{Spares}
use Rattle.nx_grammar.proofs.Results.{ok_same}
use Rattle.nx_grammar.proofs.Spares.{left_ends}

-- A list that a tree is of begins with each of its fronts.
begins_by : {T A : Type 0} (Has : List T → A → Type 0) (ts front more : List T) (a : A) → ts ≡ front ++ more → Has ts a → Begins Has front
begins_by Has ts front more a e h = (more, a, subst (λ x. Has x a) e h)

-- What begins with a longer front begins with a shorter one.
begins_less : {T A : Type 0} (Has : List T → A → Type 0) (front back : List T) → Begins Has (front ++ back) → Begins Has front
begins_less Has front back h = (back ++ h.0, h.1, subst (λ x. Has x h.1) (append_assoc front back h.0) h.2)

-- What was read stays read within a wider limit.
grown_ok : {T A : Type 0} (o p : Out T A) (a : A) (rest : List T) → o ≡ Ok (a, rest) → Grown o p → p ≡ Ok (a, rest)
grown_ok (Ok x) p a rest e g = g ∙ e
grown_ok (Err x) p a rest e g = absurd cc

-- A fault of syntax stays one.
grown_syntax : {T A : Type 0} (o p : Out T A) (rest : List T) → o ≡ Err (Syntax, rest) → Grown o p → p ≡ Err (Syntax, rest)
grown_syntax o p rest e g = subst (λ x. Grown x p) e g

-- What the limit refused is taken.
grown_limit : {T A : Type 0} (o p : Out T A) (rest : List T) → o ≡ Err (Limit, rest) → Grown o p → Beyond rest p
grown_limit o p rest e g = subst (λ x. Grown x p) e g

-- Two fronts of one list before the same rest are one.
same_front : {T : Type 0} (a b r : List T) → a ++ r ≡ b ++ r → a ≡ b
same_front [] [] r e = refl
same_front [] (y ∷ b) r e = absurd (omega (arith, ap length e, length-append b r))
same_front (x ∷ a) [] r e = absurd (omega (arith, ap length e, length-append a r))
same_front (x ∷ a) (y ∷ b) r e = let t : a ≡ b = same_front a b r cc in cc

-- A token and what was taken after it, put to the front.
regroup : {T : Type 0} (front taken more r : List T) (token : T) → more ≡ taken ++ r → front ++ token ∷ more ≡ ((front ++ token ∷ []) ++ taken) ++ r
regroup front taken more r token e = ap (λ x. front ++ token ∷ x) e ∙ sym (append_assoc front (token ∷ []) (taken ++ r)) ∙ sym (append_assoc (front ++ token ∷ []) taken r)

-- An outcome that is a fault is lawful as a fault.
failed_of : {T A : Type 0} (read : Reading T A) (F I : T → Type 0) (ts : List T) (o : Out T A) (kind : Kind) (rest : List T) → o ≡ Err (kind, rest) → Lawful read F I ts o → Failed read F I ts kind rest
failed_of read F I ts o kind rest e w = subst (λ x. Lawful read F I ts x) e w

module _ {T A : Type 0} (read : ℕ → Reading T A) (Has : ℕ → List T → A → Type 0) (F I : T → Type 0) (last : T) (margin : ℕ) (law : Reads read Has F I last margin) where
  -- The front of a refused list begins a list with a tree: its ending makes it one.
  failed_begins : (n : ℕ) (ts : List T) (kind : Kind) (rest : List T) → (w : Failed (read n) F I ts kind rest) → Begins (Has n) w.front.list
  failed_begins n ts kind rest w =
      let words = w.ending.words (last ∷ []) in
      begins_by (Has n) (w.front.before words) w.front.list words w.ending.value (w.front.listed words) (law.sound n (w.front.before words) w.ending.value (w.ending.ends (last ∷ []) law.stops))

  -- So does the front of one that was read.
  passed_begins : (n : ℕ) (ts : List T) (a : A) (rest : List T) → (w : Passed (read n) F I ts a rest) → Begins (Has n) w.front.list
  passed_begins n ts a rest w = begins_by (Has n) (w.front.before (last ∷ [])) w.front.list (last ∷ []) a (w.front.listed (last ∷ [])) (law.sound n (w.front.before (last ∷ [])) a (w.other (last ∷ []) law.stops))

  -- So does what any reading took.
  any_begins : (n : ℕ) (ts : List T) (o : Out T A) → Lawful (read n) F I ts o → (front : List T) × (ts ≡ front ++ left o) × Begins (Has n) front
  any_begins n ts (Ok x) w = (w.front.list, w.front.from ∙ w.front.listed x.1, passed_begins n ts x.0 x.1 w)
  any_begins n ts (Err x) w = (w.front.list, w.front.from ∙ w.front.listed x.1, failed_begins n ts x.0 x.1 w)

  -- Each list with this front and the refused token next is refused there.
  refuses : (n : ℕ) (ts : List T) (kind : Kind) (token : T) (more : List T) → (w : Failed (read n) F I ts kind (token ∷ more)) → (others : List T) → read n ((w.front.list ++ token ∷ []) ++ others) ≡ Err (kind, token ∷ others)
  refuses n ts kind token more w others = ap (read n) (append_assoc w.front.list (token ∷ []) others ∙ sym (w.front.listed (token ∷ others))) ∙ w.again (token ∷ others) refl

  -- So none of them has a tree.
  no_tree : (n : ℕ) (ts : List T) (kind : Kind) (token : T) (more : List T) → (w : Failed (read n) F I ts kind (token ∷ more)) → Begins (Has n) (w.front.list ++ token ∷ []) → ⊥
  no_tree n ts kind token more w h =
      let yes = (law.complete n ((w.front.list ++ token ∷ []) ++ h.0) h.1 h.2).1 in
      let no = refuses n ts kind token more w h.0 in
      absurd cc

  -- The kind of the fault says whether a wider limit has one.
  why_of : (n : ℕ) (ts : List T) (kind : Kind) (token : T) (more : List T) → read n ts ≡ Err (kind, token ∷ more) → (w : Failed (read n) F I ts kind (token ∷ more)) → IsOfKind kind Has (w.front.list ++ token ∷ [])
  why_of n ts Syntax token more e w = λ m h.
      let wider = n + m + margin in
      let text = (w.front.list ++ token ∷ []) ++ h.0 in
      let found = law.complete m text h.1 h.2 in
      let no = refuses n ts Syntax token more w h.0 in
      let yes' = grown_ok (read m text) (read wider text) h.1 found.0 found.1 ((law.grows m wider (omega arith)).on text) in
      let no' = grown_syntax (read n text) (read wider text) (token ∷ h.0) no ((law.grows n wider (omega arith)).on text) in
      absurd cc
  why_of n ts Limit token more e w =
      let wider = n + margin in
      let b = grown_limit (read n ts) (read wider ts) (token ∷ more) e ((law.grows n wider (omega arith)).on ts) in
      let s = any_begins wider ts (read wider ts) ((law.lives wider).on ts) in
      let r = left (read wider ts) in
      let t : token ≡ b.token = cc in
      let m : more ≡ b.taken ++ r = cc in
      let split : s.0 ++ r ≡ ((w.front.list ++ token ∷ []) ++ b.taken) ++ r = sym s.1 ∙ w.front.from ∙ w.front.listed (token ∷ more) ∙ regroup w.front.list b.taken more r token m in
      let same : s.0 ≡ (w.front.list ++ token ∷ []) ++ b.taken = same_front s.0 ((w.front.list ++ token ∷ []) ++ b.taken) r split in
      (wider, begins_less (Has wider) (w.front.list ++ token ∷ []) b.taken (subst (λ x. Begins (Has wider) x) same s.2))

  -- A fault stands at the first token that ends no beginning of a list with a tree.
  pub faults : (n : ℕ) (ts : List T) (kind : Kind) (token : T) (more : List T) → read n ts ≡ Err (kind, token ∷ more) → IsFault Has n ts kind (token ∷ more)
  faults n ts kind token more e =
      let w = failed_of (read n) F I ts (read n ts) kind (token ∷ more) e ((law.lives n).on ts) in
      record {
        front = w.front.list;
        token = token;
        more = more;
        at = refl;
        is = w.front.from ∙ w.front.listed (token ∷ more);
        before = failed_begins n ts kind (token ∷ more) w;
        here = no_tree n ts kind token more w;
        why = why_of n ts kind token more e w;
      }

  -- Tokens have at most one tree.
  pub one_tree : (n : ℕ) (ts : List T) (one two : A) → Has n ts one → Has n ts two → one ≡ two
  one_tree n ts one two h k =
      let a = law.complete n ts one h in
      let b = law.complete n ts two k in
      (ok_same one two a.0 b.0 (sym a.1 ∙ b.1)).0

  -- A rest that ends in a last token has a first one.
  fault_at : (n : ℕ) (ts : List T) (kind : Kind) (rest : List T) → EndsIn F rest → read n ts ≡ Err (kind, rest) → IsFault Has n ts kind rest
  fault_at n ts kind [] h e = absurd h
  fault_at n ts kind (token ∷ more) h e = faults n ts kind token more e

  -- Where the reading spares the last token, each fault has a token.
  pub ended_faults : ((limit : ℕ) → Spares F (read limit)) → (n : ℕ) (ts : List T) (kind : Kind) (rest : List T) → EndsIn F ts → read n ts ≡ Err (kind, rest) → IsFault Has n ts kind rest
  ended_faults spares n ts kind rest h e = fault_at n ts kind rest (left_ends F (read n) (spares n) ts (Err (kind, rest)) h e) e
