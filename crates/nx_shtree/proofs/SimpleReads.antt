-- A simple command and a condition are read exactly where the grammar has them.
use Rattle.std.proofs.Common.{◌≡◌, ℕ, suc, ◌+◌, ◌<◌, ◌≤◌, Bool, true, false, List, [], ◌∷◌, ◌++◌, length, length-append, Option, Some, None, refl, sym, ap, ◌∙◌, arith, subst}
use Rattle.std.specs.Prelude.{Ok, nat_lt, if◌then◌else◌}
use Rattle.std.proofs.lemmas.Bool.{lt-ltb, ltb-true}
use Rattle.nx_grammar.specs.declared.kind.Kind.TheVariants.{Limit}
use Rattle.nx_grammar.specs.Reading.{Out, Reading, Pick, Refuse, Pass, Take, picked, bind, done, expect, loop}
use Rattle.nx_grammar.specs.Lawful.{Heads}
use Rattle.nx_grammar.proofs.Results.{bound, ok_same}
use Rattle.nx_grammar.proofs.Loops.{shorter, loop_takes, loop_keeps}
use Rattle.nx_grammar.proofs.LoopLaws.{loop_stops}
use Rattle.nx_shtok.specs.declared.token.TokenKind.{TokenKind}
use Rattle.nx_shtok.specs.declared.token.TokenKind.TheVariants as mark
use Rattle.nx_shtok.specs.declared.token.Token.{Token}
use Rattle.nx_shtok.specs.declared.token.Word.{Word}
use Rattle.nx_shtree.specs.declared.keyword.Keyword.{Keyword}
use Rattle.nx_shtree.specs.declared.tree.Mode.{Mode}
use Rattle.nx_shtree.specs.declared.tree.Mode.TheVariants.{Truncate, Append}
use Rattle.nx_shtree.specs.declared.tree.Redirection.{Redirection}
use Rattle.nx_shtree.specs.declared.tree.Simple.{Simple}
use Rattle.nx_shtree.specs.Words.{Head, Reserved, First, Separator, head_of, is_keyword, parts_commands, is_separator}
use Rattle.nx_shtree.specs.Grammar.{mode_of, redirection, simple, AreWords, IsOutput, IsSimple, AreSeparators, IsCondition}
use Rattle.nx_shtree.specs.Grammar as grammar
use Rattle.nx_shtree.specs.Reading.{word_pick, words_at, file_pick, file_at, output_pick, output_at, simple_rest, simple_pick, simple_at, separator_pick, separators, condition_at, closing}
use Rattle.nx_shtree.proofs.Heads.{Is, NoWord, NotWord, Ends, NotSeparator, found_key, found_separator, key_on, separator_on, separator_is, separator_ends, ends_words, key_parts}
use Rattle.nx_shtree.proofs.SimpleLaws.{words_rounds, words_stop, output_stop, simple_begins, simple_goes, separator_rounds}
use Rattle.nx_shtree.proofs.Growth.{word_within}

-- ---- Words.

-- What was read so far: the first word, and these after it.
pub record SoFar (m : ℕ) (w : Word) (ts : List Token) (vs : List Word) (us : List Token) : Type 0 where
  pub more : List Word
  pub is : vs ≡ w ∷ more
  pub are : AreWords ts more us
  pub few : length vs ≤ m

module _ (m : ℕ) (w : Word) (ts : List Token) where
  word_step : (vs xs : List Word) (t : Token) (k : TokenKind) (us mid : List Token) (q : Reading Token (List Word)) → t.kind ≡ k → word_pick m vs k ≡ Take q → q us ≡ Ok (xs, mid) → SoFar m w ts vs (t ∷ us) → SoFar m w ts xs mid
  word_step vs xs t (mark.Word v) us mid q i e h s = by_test (nat_lt (length vs) m) e
    where
      within : length xs ≤ m
      within = word_within m vs xs (mark.Word v) us mid q e h

      by_test : (b : Bool) → (let x : Pick Token (List Word) = if b then Take (done (vs ++ v ∷ [])) else Refuse Limit in x) ≡ Take q → SoFar m w ts xs mid
      by_test true z =
          let p : Reading Token (List Word) = done (vs ++ v ∷ []) in
          let same : p ≡ q = cc in
          let o = ok_same (vs ++ v ∷ []) xs us mid (ap (λ y. y us) same ∙ h) in
          record {
            more = s.more ++ v ∷ [];
            is = sym o.0 ∙ ap (λ y. y ++ v ∷ []) s.is;
            are = subst (λ r. AreWords ts (s.more ++ v ∷ []) r) o.1 (grammar.More ts us s.more t v s.are i);
            few = within;
          }
      by_test false z = absurd cc
  word_step vs xs t _ us mid q i e h s = absurd cc

  word_over : (vs xs : List Word) (t : Token) (k : TokenKind) (us : List Token) → word_pick m vs k ≡ Pass xs → SoFar m w ts vs (t ∷ us) → SoFar m w ts xs (t ∷ us)
  word_over vs xs t k us e s = subst (λ y. SoFar m w ts y (t ∷ us)) (sym ((words_rounds m).same vs xs (record { kind = k; line = 0 }) e)) s

  pub words_sound : (xs : List Word) (us : List Token) → 0 < m → words_at m (w ∷ []) ts ≡ Ok (xs, us) → SoFar m w ts xs us
  words_sound xs us l e =
      loop_keeps (λ vs t. word_pick m vs t.kind) (shorter (λ vs t. word_pick m vs t.kind) NotWord NotWord (words_rounds m)) (λ vs rs. SoFar m w ts vs rs) (λ vs rs. SoFar m w ts vs rs)
      (λ vs t rs q ys mid i h s. word_step vs ys t t.kind rs mid q refl i h s)
      (λ vs ys t rs i s. word_over vs ys t t.kind rs i s)
      (w ∷ []) ts xs us e (record { more = []; is = refl; are = grammar.Done ts; few = omega (arith, l) })

  words_left : {ws : List Word} {us : List Token} → AreWords ts ws us → suc (length ws) ≤ m → words_at m (w ∷ []) ts ≡ words_at m (w ∷ ws) us
  words_left (grammar.Done us) l = refl
  words_left (grammar.More us rest ws t v a i) l =
      let n : length (ws ++ v ∷ []) ≡ length ws + 1 = length-append ws (v ∷ []) in
      words_left a (omega (arith, l, n))
      ∙ loop_takes (λ vs u. word_pick m vs u.kind) (shorter (λ vs u. word_pick m vs u.kind) NotWord NotWord (words_rounds m)) (w ∷ ws) t rest (done (w ∷ ws ++ v ∷ [])) (Ok (w ∷ ws ++ v ∷ [], rest))
      (ap (word_pick m (w ∷ ws)) i ∙ rw (lt-ltb (length (w ∷ ws)) m (omega (arith, l, n))) refl) refl

-- ---- Redirections.

file_sound : (t u : Token) (m : Mode) (k : TokenKind) (us : List Token) (o : Option Redirection) (rest : List Token) → mode_of t.kind ≡ Some m → u.kind ≡ k → picked (file_pick t m k) u us ≡ Ok (o, rest) → IsOutput (t ∷ u ∷ us) o rest
file_sound t u m (mark.Word w) us o rest i j e =
    let r : Option Redirection = Some (redirection t m w) in
    let s = ok_same r o us rest e in
    subst (λ x. IsOutput (t ∷ u ∷ us) x rest) s.0 (subst (λ x. IsOutput (t ∷ u ∷ us) r x) s.1 (grammar.File t u m w us i j))
file_sound t u m _ us o rest i j e = absurd cc

file_found : (t : Token) (m : Mode) (ts : List Token) (o : Option Redirection) (rest : List Token) → mode_of t.kind ≡ Some m → file_at t m ts ≡ Ok (o, rest) → IsOutput (t ∷ ts) o rest
unfolding file_at
file_found t m [] o rest i e = absurd cc
file_found t m (u ∷ us) o rest i e = file_sound t u m u.kind us o rest i refl e

no_output : (ts : List Token) (o : Option Redirection) (rest : List Token) → (let x : Out Token (Option Redirection) = Ok (None, ts) in x) ≡ Ok (o, rest) → IsOutput ts o rest
no_output ts o rest e =
    let n : Option Redirection = None in
    let s = ok_same n o ts rest e in
    subst (λ x. IsOutput ts x rest) s.0 (subst (λ x. IsOutput ts n x) s.1 (grammar.Console ts))

output_kind : (t : Token) (k : TokenKind) (ts : List Token) (o : Option Redirection) (rest : List Token) → t.kind ≡ k → picked (output_pick t k) t ts ≡ Ok (o, rest) → IsOutput (t ∷ ts) o rest
output_kind t mark.Into ts o rest i e = file_found t Truncate ts o rest (ap mode_of i) e
output_kind t mark.Append ts o rest i e = file_found t Append ts o rest (ap mode_of i) e
output_kind t (mark.Word w) ts o rest i e = no_output (t ∷ ts) o rest e
output_kind t mark.Newline ts o rest i e = no_output (t ∷ ts) o rest e
output_kind t mark.Semi ts o rest i e = no_output (t ∷ ts) o rest e
output_kind t mark.And ts o rest i e = no_output (t ∷ ts) o rest e
output_kind t mark.End ts o rest i e = no_output (t ∷ ts) o rest e

pub output_sound : (ts : List Token) (o : Option Redirection) (rest : List Token) → output_at ts ≡ Ok (o, rest) → IsOutput ts o rest
output_sound [] o rest e = absurd cc
output_sound (t ∷ ts) o rest e = output_kind t t.kind ts o rest refl e

file_on : (t u : Token) (m : Mode) (w : Word) (rest : List Token) → u.kind ≡ mark.Word w → file_at t m (u ∷ rest) ≡ Ok (Some (redirection t m w), rest)
unfolding file_at
file_on t u m w rest j = ap (λ k. picked (file_pick t m k) u rest) j

file_reads : (t u : Token) (m : Mode) (w : Word) (k : TokenKind) (rest : List Token) → mode_of k ≡ Some m → u.kind ≡ mark.Word w → picked (output_pick t k) t (u ∷ rest) ≡ Ok (Some (redirection t m w), rest)
file_reads t u m w mark.Into rest i j = let s : Truncate ≡ m = cc in file_on t u Truncate w rest j ∙ ap (λ n. Ok (Some (redirection t n w), rest)) s
file_reads t u m w mark.Append rest i j = let s : Append ≡ m = cc in file_on t u Append w rest j ∙ ap (λ n. Ok (Some (redirection t n w), rest)) s
file_reads t u m w _ rest i j = absurd cc

output_on : {ts : List Token} {o : Option Redirection} {rest : List Token} → IsOutput ts o rest → Heads Ends rest → output_at ts ≡ Ok (o, rest)
output_on (grammar.Console ts) h = output_stop ts h
output_on (grammar.File t u m w rest i j) h = file_reads t u m w t.kind rest i j

mode_no_word : (m : Mode) (k : TokenKind) → mode_of k ≡ Some m → NoWord k
mode_no_word m (mark.Word w) i = absurd cc
mode_no_word m mark.Newline i = tt
mode_no_word m mark.Semi i = tt
mode_no_word m mark.And i = tt
mode_no_word m mark.Into i = tt
mode_no_word m mark.Append i = tt
mode_no_word m mark.End i = tt

-- No word stands where the words are over.
ends_heads : (r : List Token) → Heads Ends r → Heads NotWord r
ends_heads [] h = h
ends_heads (t ∷ ts) h = ends_words t h

output_no_word : {ts : List Token} {o : Option Redirection} {rest : List Token} → IsOutput ts o rest → Heads Ends rest → Heads NotWord ts
output_no_word (grammar.Console ts) h = ends_heads ts h
output_no_word (grammar.File t u m w rest i j) h = mode_no_word m t.kind i

-- ---- Simple commands.

simple_moved : (m : ℕ) (ts : List Token) (c d : Simple) (r s : List Token) → (let o : Out Token Simple = Ok (c, r) in o) ≡ Ok (d, s) → IsSimple m ts c r → IsSimple m ts d s
simple_moved m ts c d r s e h = let o = ok_same c d r s e in subst (λ x. IsSimple m ts d x) o.1 (subst (λ x. IsSimple m ts x r) o.0 h)

pub simple_rest_sound : (m : ℕ) (t : Token) (w : Word) (ts : List Token) (c : Simple) (rest : List Token) → Is (First w) t → 0 < m → simple_rest m t w ts ≡ Ok (c, rest) → IsSimple m (t ∷ ts) c rest
unfolding simple_rest
simple_rest_sound m t w ts c rest i l e =
    let a = bound (words_at m (w ∷ []) ts) _ (c, rest) e in
    let b = bound (output_at a.1) _ (c, rest) a.3 in
    let s = words_sound m w ts a.0 a.1 l a.2 in
    let few : length a.0 ≡ suc (length s.more) = ap length s.is in
    simple_moved m (t ∷ ts) (simple t a.0 b.0) c b.1 rest b.3
    (subst (λ vs. IsSimple m (t ∷ ts) (simple t vs b.0) b.1) (sym s.is) (grammar.Words m t ts a.1 b.1 w s.more b.0 i s.are (omega (arith, s.few, few)) (output_sound a.1 b.0 b.1 b.2)))

simple_if : (m : ℕ) (b : Bool) (t : Token) (w : Word) (ts : List Token) (c : Simple) (rest : List Token) → nat_lt 0 m ≡ b → Is (First w) t → picked (if b then Take (simple_rest m t w) else Refuse Limit) t ts ≡ Ok (c, rest) → IsSimple m (t ∷ ts) c rest
simple_if m true t w ts c rest l i e = simple_rest_sound m t w ts c rest i (ltb-true 0 m l) e
simple_if m false t w ts c rest l i e = absurd cc

pub simple_head_sound : (m : ℕ) (t : Token) (h : Head) (ts : List Token) (c : Simple) (rest : List Token) → Is h t → picked (simple_pick m t h) t ts ≡ Ok (c, rest) → IsSimple m (t ∷ ts) c rest
simple_head_sound m t (First w) ts c rest i e = simple_if m (nat_lt 0 m) t w ts c rest refl i e
simple_head_sound m t _ ts c rest i e = absurd cc

pub simple_sound : (m : ℕ) (ts : List Token) (c : Simple) (rest : List Token) → simple_at m ts ≡ Ok (c, rest) → IsSimple m ts c rest
simple_sound m [] c rest e = absurd cc
simple_sound m (t ∷ ts) c rest e = simple_head_sound m t (head_of t) ts c rest refl e

-- What a simple command's first word begins, read of the tokens after it.
pub record Begun (m : ℕ) (ts : List Token) (c : Simple) (rest : List Token) : Type 0 where
  pub first : Token
  pub word : Word
  pub behind : List Token
  pub is : ts ≡ first ∷ behind
  pub head : Is (First word) first
  pub fits : nat_lt 0 m ≡ true
  pub reads : simple_rest m first word behind ≡ Ok (c, rest)

pub simple_begun : {m : ℕ} {ts : List Token} {c : Simple} {rest : List Token} → IsSimple m ts c rest → Heads Ends rest → Begun m ts c rest
simple_begun (grammar.Words m t ts us rest w ws o i a l p) h = record {
  first = t;
  word = w;
  behind = ts;
  is = refl;
  head = i;
  fits = lt-ltb 0 m (omega (arith, l));
  reads = simple_goes m t w (w ∷ ws) o ts us rest (words_left m w ts a l ∙ words_stop m (w ∷ ws) us (output_no_word p h)) (output_on p h);
}

pub simple_complete : {m : ℕ} {ts : List Token} {c : Simple} {rest : List Token} → IsSimple m ts c rest → Heads Ends rest → simple_at m ts ≡ Ok (c, rest)
simple_complete {m = m} x h =
    let b = simple_begun x h in
    ap (simple_at m) b.is ∙ simple_begins m b.first (head_of b.first) b.word b.behind b.head b.fits ∙ b.reads

-- ---- Conditions.

separator_step : (b : Bool) (u v : Unit {0}) (t : Token) (ts us mid : List Token) (q : Reading Token (Unit {0})) → is_separator t ≡ b → (let x : Pick Token (Unit {0}) = if b then Take (done tt) else Pass u in x) ≡ Take q → q us ≡ Ok (v, mid) → AreSeparators ts (t ∷ us) → AreSeparators ts mid
separator_step true u v t ts us mid q i e h s =
    let p : Reading Token (Unit {0}) = done tt in
    let same : p ≡ q = cc in
    let o = ok_same tt v us mid (ap (λ y. y us) same ∙ h) in
    subst (λ r. AreSeparators ts r) o.1 (grammar.More t ts us s (separator_is (head_of t) i))
separator_step false u v t ts us mid q i e h s = absurd cc

separators_sound : (ts : List Token) (u : Unit {0}) (rest : List Token) → separators ts ≡ Ok (u, rest) → AreSeparators ts rest
unfolding separators
separators_sound ts u rest e =
    let a = bound (expect is_separator ts) _ (u, rest) e in
    let f = found_separator ts a.0 a.1 a.2 in
    let one : AreSeparators ts a.1 = subst (λ x. AreSeparators x a.1) (sym f.is) (grammar.One a.0 a.1 f.head) in
    loop_keeps separator_pick (shorter separator_pick NotSeparator NotSeparator separator_rounds) (λ v r. AreSeparators ts r) (λ v r. AreSeparators ts r)
    (λ v t us q x mid i h s. separator_step (is_separator t) v x t ts us mid q refl i h s)
    (λ v x t us i s. s)
    tt a.1 u rest a.3 one

separators_left : {ts rest : List Token} → AreSeparators ts rest → separators ts ≡ loop separator_pick tt rest
unfolding separators
separators_left (grammar.One t rest i) = ap (λ o. bind o (λ s. loop separator_pick tt)) (separator_on t rest i)
separators_left (grammar.More t ts rest a i) =
    separators_left a
    ∙ loop_takes separator_pick (shorter separator_pick NotSeparator NotSeparator separator_rounds) tt t rest (done tt) (Ok (tt, rest)) (ap (λ h. if parts_commands h then Take (done tt) else Pass tt) i) refl

pub separators_head : {ts rest : List Token} → AreSeparators ts rest → Heads (Is Separator) ts
separators_head (grammar.One t rest i) = i
separators_head (grammar.More t ts rest a i) = separators_head a

separators_on : (ts rest : List Token) → AreSeparators ts rest → Heads NotSeparator rest → separators ts ≡ Ok (tt, rest)
separators_on ts rest a h = separators_left a ∙ loop_stops separator_pick NotSeparator NotSeparator separator_rounds tt rest h

ends_before : (r : List Token) → Heads (Is Separator) r → Heads Ends r
ends_before [] h = h
ends_before (t ∷ ts) h = separator_ends t h

-- A condition, and the reserved word after it.
pub record FoundCondition (m : ℕ) (k : Keyword) (ts : List Token) (c : Simple) (rest : List Token) : Type 0 where
  pub word : Token
  pub is : IsCondition m ts c (word ∷ rest)
  pub head : Is (Reserved k) word

pub condition_sound : (m : ℕ) (k : Keyword) (ts : List Token) (c : Simple) (rest : List Token) → condition_at m k ts ≡ Ok (c, rest) → FoundCondition m k ts c rest
unfolding condition_at
condition_sound m k ts c rest e =
    let a = bound (simple_at m ts) _ (c, rest) e in
    let b = bound (separators a.1) _ (c, rest) a.3 in
    let d = bound (expect (is_keyword k) b.1) _ (c, rest) b.3 in
    let f = found_key k b.1 d.0 d.1 d.2 in
    let o = ok_same a.0 c d.1 rest d.3 in
    let there : IsCondition m ts a.0 b.1 = grammar.Condition m ts a.1 b.1 a.0 (simple_sound m ts a.0 a.1 a.2) (separators_sound a.1 b.0 b.1 b.2) in
    record { word = d.0; is = subst (λ x. IsCondition m ts x (d.0 ∷ rest)) o.0 (subst (λ r. IsCondition m ts a.0 r) (f.is ∙ ap (λ r. d.0 ∷ r) o.1) there); head = f.head }

condition_goes : (m : ℕ) (k : Keyword) (u : Token) (c : Simple) (ts us rest : List Token) → simple_at m ts ≡ Ok (c, us) → separators us ≡ Ok (tt, u ∷ rest) → Is (Reserved k) u → condition_at m k ts ≡ Ok (c, rest)
unfolding condition_at
condition_goes m k u c ts us rest a b i = rw (a, b, key_on k u rest i) refl

pub condition_complete : {m : ℕ} (k : Keyword) (u : Token) {ts : List Token} {c : Simple} (rest : List Token) → IsCondition m ts c (u ∷ rest) → Is (Reserved k) u → condition_at m k ts ≡ Ok (c, rest)
condition_complete k u rest (grammar.Condition m ts us _ c x a) i =
    condition_goes m k u c ts us rest (simple_complete x (ends_before us (separators_head a))) (separators_on us (u ∷ rest) a (key_parts k u i)) i

-- ---- What closes an item.

pub record FoundClosing (k : Keyword) (ts : List Token) (s : Token) (rest : List Token) : Type 0 where
  pub word : Token
  pub is : ts ≡ word ∷ s ∷ rest
  pub head : Is (Reserved k) word
  pub separator : Is Separator s

pub closing_sound : (k : Keyword) (ts : List Token) (s : Token) (rest : List Token) → closing k ts ≡ Ok (s, rest) → FoundClosing k ts s rest
unfolding closing
closing_sound k ts s rest e =
    let a = bound (expect (is_keyword k) ts) _ (s, rest) e in
    let f = found_key k ts a.0 a.1 a.2 in
    let g = found_separator a.1 s rest a.3 in
    record { word = a.0; is = f.is ∙ ap (λ r. a.0 ∷ r) g.is; head = f.head; separator = g.head }

pub closing_on : (k : Keyword) (f s : Token) (rest : List Token) → Is (Reserved k) f → Is Separator s → closing k (f ∷ s ∷ rest) ≡ Ok (s, rest)
unfolding closing
closing_on k f s rest i j = rw (key_on k f (s ∷ rest) i) (separator_on s rest j)
