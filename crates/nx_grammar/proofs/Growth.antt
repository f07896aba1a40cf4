-- What a wider limit does to readings that are put together.
use Rattle.std.proofs.Common.{◌≡◌, Bool, true, false, List, [], ◌∷◌, ◌++◌, refl, sym, ap, ◌∙◌, append_assoc, subst}
use Rattle.std.specs.Prelude.{Ok, Err, if◌then◌else◌}
use Rattle.nx_grammar.specs.declared.kind.Kind.{Kind}
use Rattle.nx_grammar.specs.declared.kind.Kind.TheVariants.{Syntax, Limit}
use Rattle.nx_grammar.specs.Reading.{Out, Reading, Pick, Refuse, Pass, Take, picked, dispatch, bind, seq, done, expect_pick, expect}
use Rattle.nx_grammar.specs.Lawful.{Lawful, Lives, Law}
use Rattle.nx_grammar.specs.Growing.{left, Beyond, GrownFault, Grown, Grows, Shortens, Wider, RefusalGrown, PickGrown}

-- A lawful outcome leaves an end of the list.
shortens_case : {T A : Type 0} (read : Reading T A) (F I : T → Type 0) (ts : List T) (o : Out T A) → Lawful read F I ts o → (taken : List T) × (ts ≡ taken ++ left o)
shortens_case read F I ts (Ok x) w = (w.front.list, w.front.from ∙ w.front.listed x.1)
shortens_case read F I ts (Err x) w = (w.front.list, w.front.from ∙ w.front.listed x.1)

-- So does a lawful reading.
pub shortens_lives : {T A : Type 0} (read : Reading T A) (F I : T → Type 0) → Lives read F I → Shortens read
shortens_lives read F I lives = record { on = λ ts. shortens_case read F I ts (read ts) (lives.on ts) }

-- The same by its law.
pub shortens : {T A : Type 0} (read : Reading T A) (F I : T → Type 0) → Law read F I → Shortens read
shortens read F I law = shortens_lives read F I law.lives

-- ---- One reading after another.

module _ {T A B : Type 0} (next : A → Reading T B) (short : (a : A) → Shortens (next a)) where
  -- What was taken stays taken.
  pub beyond_more : (rest : List T) (o : Out T A) → Beyond rest o → Beyond rest (bind o next)
  beyond_more rest (Ok x) b =
      let s = (short x.0).on x.1 in
      record {
        token = b.token;
        taken = b.taken ++ s.0;
        is = b.is ∙ ap (λ y. b.token ∷ b.taken ++ y) s.1 ∙ ap (λ y. b.token ∷ y) (sym (append_assoc b.taken s.0 (left (next x.0 x.1))));
      }
  beyond_more rest (Err x) b = record { token = b.token; taken = b.taken; is = b.is }

  -- What became of a fault becomes of it with more after it.
  pub fault_grown : (kind : Kind) (rest : List T) (o : Out T A) → GrownFault kind rest o → GrownFault kind rest (bind o next)
  fault_grown Syntax rest o h = ap (λ x. bind x next) h
  fault_grown Limit rest o h = beyond_more rest o h

  -- The second part is asked of what the first one read alone.
  pub bind_grown : (narrow : A → Reading T B) (x o : Out T A) → ((a : A) (ts : List T) → x ≡ Ok (a, ts) → Grown (narrow a ts) (next a ts)) → Grown x o → Grown (bind x narrow) (bind o next)
  bind_grown narrow (Ok x) o grown h = subst (λ y. Grown (narrow x.0 x.1) (bind y next)) (sym h) (grown x.0 x.1 refl)
  bind_grown narrow (Err e) o grown h = fault_grown e.0 e.1 o h

  -- Both parts leave an end of the list.
  short_bind : (ts : List T) (o : Out T A) → (taken : List T) × (ts ≡ taken ++ left o) → (taken : List T) × (ts ≡ taken ++ left (bind o next))
  short_bind ts (Ok x) h =
      let s = (short x.0).on x.1 in
      (h.0 ++ s.0, h.1 ∙ ap (λ y. h.0 ++ y) s.1 ∙ sym (append_assoc h.0 s.0 (left (next x.0 x.1))))
  short_bind ts (Err e) h = h

  -- One reading after another leaves an end of the list.
  pub shortens_seq : (read : Reading T A) → Shortens read → Shortens (seq read next)
  shortens_seq read s = record { on = λ ts. short_bind ts (read ts) (s.on ts) }

  module _ (narrow wide : Reading T A) (before : A → Reading T B) (grows : Grows narrow wide) where
    -- One reading after another against a wider limit.
    pub grows_seq : ((a : A) → Grows (before a) (next a)) → Grows (seq narrow before) (seq wide next)
    grows_seq more = record { on = λ ts. bind_grown before (narrow ts) (wide ts) (λ a us e. (more a).on us) (grows.on ts) }

    -- The same where the second part is asked only of what the first one may read.
    pub grows_seq_by : (P : A → Type 0) → ((ts : List T) (a : A) (rest : List T) → narrow ts ≡ Ok (a, rest) → P a) → ((a : A) → P a → Grows (before a) (next a)) → Grows (seq narrow before) (seq wide next)
    grows_seq_by P told more = record { on = λ ts. bind_grown before (narrow ts) (wide ts) (λ a us e. (more a (told ts a us e)).on us) (grows.on ts) }

-- Reading nothing is the same within each limit.
pub grows_done : {T A : Type 0} (a : A) → Grows {T = T} (done a) (done a)
grows_done a = record { on = λ ts. refl }

-- ---- Choices.

module _ {T A : Type 0} where
  -- A refused token against what became of it.
  refusal_grown : (kind : Kind) (x : Pick T A) (t : T) (ts : List T) → RefusalGrown kind x → GrownFault kind (t ∷ ts) (picked x t ts)
  refusal_grown Syntax x t ts h = ap (λ y. picked y t ts) h
  refusal_grown Limit x t ts h =
      let s = h.2.on ts in
      subst (λ y. Beyond (t ∷ ts) (picked y t ts)) (sym h.1) (record { token = t; taken = s.0; is = ap (λ y. t ∷ y) s.1 })

  -- The three things that a pick can do.
  picked_grown : (x y : Pick T A) (t : T) (ts : List T) → PickGrown x y → Grown (picked x t ts) (picked y t ts)
  picked_grown (Refuse kind) y t ts h = refusal_grown kind y t ts h
  picked_grown (Pass a) y t ts h = ap (λ z. picked z t ts) h
  picked_grown (Take narrow) y t ts h = subst (λ z. Grown (narrow ts) (picked z t ts)) (sym h.1) (h.2.on ts)

  -- Every list has a next token or none.
  dispatch_grown : (pick wide : T → Pick T A) → ((t : T) → PickGrown (pick t) (wide t)) → (ts : List T) → Grown (dispatch pick ts) (dispatch wide ts)
  dispatch_grown pick wide h [] = refl
  dispatch_grown pick wide h (t ∷ ts) = picked_grown (pick t) (wide t) t ts (h t)

  -- A choice against a wider limit.
  pub grows_dispatch : (pick wide : T → Pick T A) → ((t : T) → PickGrown (pick t) (wide t)) → Grows (dispatch pick) (dispatch wide)
  grows_dispatch pick wide h = record { on = dispatch_grown pick wide h }

-- ---- Both laws at once.

-- Of one reading after another.
pub wider_seq : {T A B : Type 0} (narrow wide : Reading T A) (before next : A → Reading T B) → Wider narrow wide → ((a : A) → Wider (before a) (next a)) → Wider (seq narrow before) (seq wide next)
wider_seq narrow wide before next first more = record {
  grows = grows_seq next (λ a. (more a).short) narrow wide before first.grows (λ a. (more a).grows);
  short = shortens_seq next (λ a. (more a).short) wide first.short;
}

-- Of reading nothing.
pub wider_done : {T A : Type 0} (a : A) → Wider {T = T} (done a) (done a)
wider_done a = record { grows = grows_done a; short = record { on = λ ts. ([], refl) } }

-- A token that is expected is so within each limit.
expect_grown : {T : Type 0} (t : T) (b : Bool) → PickGrown {T = T} {A = T} (if b then Take (done t) else Refuse Syntax) (if b then Take (done t) else Refuse Syntax)
expect_grown t true = (done t, refl, grows_done t)
expect_grown t false = refl

-- An expected token is the only one that is taken.
expect_short : {T : Type 0} (t : T) (ts : List T) (b : Bool) → (taken : List T) × (t ∷ ts ≡ taken ++ left (picked {A = T} (if b then Take (done t) else Refuse Syntax) t ts))
expect_short t ts true = (t ∷ [], refl)
expect_short t ts false = ([], refl)

-- Expecting a token leaves an end of the list.
expect_left : {T : Type 0} (test : T → Bool) (ts : List T) → (taken : List T) × (ts ≡ taken ++ left (expect test ts))
expect_left test [] = ([], refl)
expect_left test (t ∷ ts) = expect_short t ts (test t)

-- Of one token that passes a test.
pub wider_expect : {T : Type 0} (test : T → Bool) → Wider (expect test) (expect test)
wider_expect test = record { grows = grows_dispatch (expect_pick test) (expect_pick test) (λ t. expect_grown t (test t)); short = record { on = expect_left test } }
