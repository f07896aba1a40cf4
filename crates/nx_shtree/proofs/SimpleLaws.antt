-- The laws of reading simple commands and conditions.
use Rattle.std.proofs.Common.{◌≡◌, ℕ, suc, Bool, true, false, List, [], ◌∷◌, ◌++◌, length, Option, Some, None, refl, ap, ◌∙◌, subst, arith}
use Rattle.std.proofs.lemmas.Bool.{lt-ltb}
use Rattle.std.specs.Prelude.{Ok, nat_lt, if◌then◌else◌}
use Rattle.nx_grammar.specs.declared.kind.Kind.TheVariants.{Limit}
use Rattle.nx_grammar.specs.Reading.{Reading, Pick, Refuse, Pass, Take, picked, done, expect}
use Rattle.nx_grammar.specs.Lawful.{Heads, Any, Lives, Law, Rounds}
use Rattle.nx_grammar.proofs.Fronts.{heads_fit}
use Rattle.nx_grammar.proofs.Sequences.{law_seq, law_done}
use Rattle.nx_grammar.proofs.Choices.{law_dispatch, taken_by}
use Rattle.nx_grammar.proofs.LoopLaws.{law_loop, loop_stops}
use Rattle.nx_shtok.specs.declared.token.TokenKind.{TokenKind}
use Rattle.nx_shtok.specs.declared.token.TokenKind.TheVariants as mark
use Rattle.nx_shtok.specs.declared.token.Token.{Token}
use Rattle.nx_shtok.specs.declared.token.Word.{Word}
use Rattle.nx_shtree.specs.declared.keyword.Keyword.{Keyword}
use Rattle.nx_shtree.specs.declared.tree.Mode.{Mode}
use Rattle.nx_shtree.specs.declared.tree.Mode.TheVariants.{Truncate, Append}
use Rattle.nx_shtree.specs.declared.tree.Redirection.{Redirection}
use Rattle.nx_shtree.specs.declared.tree.Simple.{Simple}
use Rattle.nx_shtree.specs.Words.{Head, Reserved, First, Separator, head_of, is_keyword, is_separator}
use Rattle.nx_shtree.specs.Grammar.{redirection, simple}
use Rattle.nx_shtree.specs.Reading.{word_pick, words_at, file_pick, file_at, output_pick, output_at, simple_rest, simple_pick, simple_at, separator_pick, separators, condition_at, closing}
use Rattle.nx_shtree.proofs.Heads.{Is, NoWord, NotWord, EndsSimple, Ends, NotSeparator, plain, plain_token, plain_is, key_law, separator_law, separator_ends, ends_words, key_parts}

-- A pick that takes this reading takes what is lawful.
pub took : {A : Type 0} (p q : Reading Token A) (F G I : Token → Type 0) → ((t : Token) → G t → F t) → Law p F I → (let x : Pick Token A = Take p in x) ≡ Take q → Lives q G Any
took p q F G I fits law e = let same : p ≡ q = cc in subst (λ x. Lives x G Any) same (taken_by p F G I fits law)

-- The same, where a test passes.
pub took_if : {A : Type 0} (b : Bool) (p q : Reading Token A) (F G I : Token → Type 0) → ((t : Token) → G t → F t) → Law p F I → (let x : Pick Token A = if b then Take p else Refuse Limit in x) ≡ Take q → Lives q G Any
took_if true p q F G I fits law e = took p q F G I fits law e
took_if false p q F G I fits law e = absurd cc

-- No token is passed there.
pub passed_if : {A : Type 0} (b : Bool) (p : Reading Token A) (a : A) → (let x : Pick Token A = if b then Take p else Refuse Limit in x) ≡ Pass a → ⊥
passed_if true p a e = cc
passed_if false p a e = cc

-- ---- Words.

word_takes : (m : ℕ) (ws : List Word) (k : TokenKind) (q : Reading Token (List Word)) → word_pick m ws k ≡ Take q → Lives q NotWord Any
word_takes m ws (mark.Word w) q e = took_if (nat_lt (length ws) m) (done (ws ++ w ∷ [])) q NotWord NotWord NotWord (λ t i. i) (law_done (ws ++ w ∷ []) NotWord) e
word_takes m ws _ q e = absurd cc

word_stops : (m : ℕ) (ws : List Word) (k : TokenKind) → NoWord k → word_pick m ws k ≡ Pass ws
word_stops m ws (mark.Word w) h = absurd h
word_stops m ws mark.Newline h = refl
word_stops m ws mark.Semi h = refl
word_stops m ws mark.And h = refl
word_stops m ws mark.Into h = refl
word_stops m ws mark.Append h = refl
word_stops m ws mark.End h = refl

word_same : (m : ℕ) (ws vs : List Word) (k : TokenKind) → word_pick m ws k ≡ Pass vs → vs ≡ ws
word_same m ws vs (mark.Word w) e = absurd (passed_if (nat_lt (length ws) m) (done (ws ++ w ∷ [])) vs e)
word_same m ws vs _ e = cc

pub words_rounds : (m : ℕ) → Rounds (λ ws t. word_pick m ws t.kind) NotWord NotWord
words_rounds m = record {
  takes = λ ws t q e. word_takes m ws t.kind q e;
  stops = λ ws t h. word_stops m ws t.kind h;
  same = λ ws vs t e. word_same m ws vs t.kind e;
  fits = λ t h. h;
}

pub words_law : (m : ℕ) (ws : List Word) → Law (words_at m ws) NotWord NotWord
words_law m ws = law_loop (λ vs t. word_pick m vs t.kind) NotWord NotWord (words_rounds m) ws

-- Words end at a token that is none.
pub words_stop : (m : ℕ) (ws : List Word) (r : List Token) → Heads NotWord r → words_at m ws r ≡ Ok (ws, r)
words_stop m ws r h = loop_stops (λ vs t. word_pick m vs t.kind) NotWord NotWord (words_rounds m) ws r h

-- ---- Redirections.

file_takes : (t : Token) (m : Mode) (k : TokenKind) (q : Reading Token (Option Redirection)) → file_pick t m k ≡ Take q → Lives q Any Any
file_takes t m (mark.Word w) q e = took (done (Some (redirection t m w))) q Any Any Any (λ u i. i) (law_done {T = Token} {A = Option Redirection} (Some (redirection t m w)) Any) e
file_takes t m _ q e = absurd cc

file_passes : (t : Token) (m : Mode) (k : TokenKind) (a : Option Redirection) → file_pick t m k ≡ Pass a → ⊥
file_passes t m (mark.Word w) a e = cc
file_passes t m _ a e = cc

pub file_law : (t : Token) (m : Mode) → Law (file_at t m) Any Any
unfolding file_at
file_law t m = law_dispatch (λ u. file_pick t m u.kind) Any Any
    (record { takes = λ u q e. file_takes t m u.kind q e; passes = λ u a e. absurd (file_passes t m u.kind a e) })
    (record { value = Some (redirection t m plain); words = λ r. plain_token ∷ r; ends = λ r h. refl; first = λ r h. tt })

output_takes : (t : Token) (k : TokenKind) (q : Reading Token (Option Redirection)) → output_pick t k ≡ Take q → Lives q Ends Any
output_takes t mark.Into q e = took (file_at t Truncate) q Any Ends Any (λ u i. tt) (file_law t Truncate) e
output_takes t mark.Append q e = took (file_at t Append) q Any Ends Any (λ u i. tt) (file_law t Append) e
output_takes t _ q e = absurd cc

output_stops : (t : Token) (k : TokenKind) → EndsSimple k → output_pick t k ≡ Pass None
output_stops t (mark.Word w) h = absurd h
output_stops t mark.Newline h = refl
output_stops t mark.Semi h = refl
output_stops t mark.And h = refl
output_stops t mark.Into h = absurd h
output_stops t mark.Append h = absurd h
output_stops t mark.End h = refl

output_same : (t : Token) (k : TokenKind) (a : Option Redirection) → output_pick t k ≡ Pass a → None ≡ a
output_same t mark.Into a e = absurd cc
output_same t mark.Append a e = absurd cc
output_same t _ a e = cc

-- Where a token that ends a simple command stands next, there is no redirection.
pub output_stop : (r : List Token) → Heads Ends r → output_at r ≡ Ok (None, r)
output_stop [] h = absurd h
output_stop (t ∷ ts) h = ap (λ x. picked x t ts) (output_stops t t.kind h)

pub output_law : Law output_at Ends Ends
output_law = law_dispatch (λ t. output_pick t t.kind) Ends Ends
    (record {
      takes = λ t q e. output_takes t t.kind q e;
      passes = λ t a e u h. (output_stops u u.kind h ∙ ap Pass (output_same t t.kind a e), h);
    })
    (record { value = None; words = λ r. r; ends = λ r h. output_stop r h; first = λ r h. h })

-- ---- Simple commands.

pub simple_rest_law : (m : ℕ) (t : Token) (w : Word) → Law (simple_rest m t w) Ends NotWord
unfolding simple_rest
simple_rest_law m t w =
    law_seq (words_at m (w ∷ [])) _ NotWord NotWord Ends Ends (words_law m (w ∷ []))
    (λ ws. law_seq output_at _ Ends Ends Ends Ends output_law (λ o. law_done (simple t ws o) Ends) (λ u i. i)) ends_words

pub simple_takes : (m : ℕ) (t : Token) (h : Head) (q : Reading Token Simple) → simple_pick m t h ≡ Take q → Lives q Ends Any
simple_takes m t (First w) q e = took_if (nat_lt 0 m) (simple_rest m t w) q Ends Ends NotWord (λ u i. i) (simple_rest_law m t w) e
simple_takes m t _ q e = absurd cc

pub simple_passes : (m : ℕ) (t : Token) (h : Head) (a : Simple) → simple_pick m t h ≡ Pass a → ⊥
simple_passes m t (First w) a e = passed_if (nat_lt 0 m) (simple_rest m t w) a e
simple_passes m t _ a e = cc

-- The first word begins a command.
pub simple_begins : (m : ℕ) (t : Token) (h : Head) (w : Word) (ts : List Token) → h ≡ First w → nat_lt 0 m ≡ true → picked (simple_pick m t h) t ts ≡ simple_rest m t w ts
simple_begins m t h w ts e l = ap (λ x. picked (simple_pick m t x) t ts) e ∙ rw l refl

-- Its words and its output are the rest of it.
pub simple_goes : (m : ℕ) (t : Token) (w : Word) (ws : List Word) (o : Option Redirection) (ts us rest : List Token) → words_at m (w ∷ []) ts ≡ Ok (ws, us) → output_at us ≡ Ok (o, rest) → simple_rest m t w ts ≡ Ok (simple t ws o, rest)
unfolding simple_rest
simple_goes m t w ws o ts us rest e f = rw (e, f) refl

pub simple_law : (m : ℕ) → Law (simple_at (suc m)) Ends (Is (First plain))
simple_law m = law_dispatch (λ t. simple_pick (suc m) t (head_of t)) Ends (Is (First plain))
    (record { takes = λ t q e. simple_takes (suc m) t (head_of t) q e; passes = λ t a e. absurd (simple_passes (suc m) t (head_of t) a e) })
    (record {
      value = simple plain_token (plain ∷ []) None;
      words = λ r. plain_token ∷ r;
      ends = λ r h.
          simple_begins (suc m) plain_token (head_of plain_token) plain r plain_is (lt-ltb 0 (suc m) (omega arith))
          ∙ simple_goes (suc m) plain_token plain (plain ∷ []) None r r r (words_stop (suc m) (plain ∷ []) r (heads_fit Ends NotWord ends_words r h)) (output_stop r h);
      first = λ r h. plain_is;
    })

-- ---- Conditions.

separator_takes : (b : Bool) (u : Unit {0}) (q : Reading Token (Unit {0})) → (let x : Pick Token (Unit {0}) = if b then Take (done tt) else Pass u in x) ≡ Take q → Lives q NotSeparator Any
separator_takes true u q e = took (done tt) q NotSeparator NotSeparator NotSeparator (λ t i. i) (law_done {T = Token} {A = Unit {0}} tt NotSeparator) e
separator_takes false u q e = absurd cc

separator_same : (b : Bool) (u v : Unit {0}) → (let x : Pick Token (Unit {0}) = if b then Take (done tt) else Pass u in x) ≡ Pass v → v ≡ u
separator_same b u v e = refl

pub separator_rounds : Rounds separator_pick NotSeparator NotSeparator
separator_rounds = record {
  takes = λ u t q e. separator_takes (is_separator t) u q e;
  stops = λ u t h. rw h refl;
  same = λ u v t e. separator_same (is_separator t) u v e;
  fits = λ t h. h;
}

pub separators_law : Law separators NotSeparator (Is Separator)
unfolding separators
separators_law = law_seq (expect is_separator) _ Any (Is Separator) NotSeparator NotSeparator separator_law (λ s. law_loop separator_pick NotSeparator NotSeparator separator_rounds tt) (λ t i. tt)

pub condition_law : (m : ℕ) (k : Keyword) → Law (condition_at (suc m) k) Any (Is (First plain))
unfolding condition_at
condition_law m k =
    law_seq (simple_at (suc m)) _ Ends (Is (First plain)) Any (Is Separator) (simple_law m)
    (λ c. law_seq separators _ NotSeparator (Is Separator) Any (Is (Reserved k)) separators_law
    (λ s. law_seq (expect (is_keyword k)) _ Any (Is (Reserved k)) Any Any (key_law k) (λ t. law_done c Any) (λ t i. tt)) (key_parts k)) separator_ends

pub closing_law : (k : Keyword) → Law (closing k) Any (Is (Reserved k))
unfolding closing
closing_law k = law_seq (expect (is_keyword k)) _ Any (Is (Reserved k)) Any (Is Separator) (key_law k) (λ t. separator_law) (λ t i. tt)
