-- Tokens are read exactly where they are spelled. nx_ctok will take its place.
use Rattle.std.proofs.Common.{◌≡◌, ◌≢◌, ℕ, Bool, true, false, ◌&&◌, not, nat_eq, List, [], ◌∷◌, ◌++◌, length, drop, Some, refl, sym, ap, subst, ◌∙◌, append_assoc}
use Rattle.std.specs.Cmp.{unsigned_Decides}
use Rattle.std.specs.List.{list_all, starts_with}
use Rattle.std.proofs.Math.Seq.{drop-append_seam}
use Rattle.std.proofs.lemmas.Slice.Eq.{starts_is}
use Rattle.nx_top.specs.first.Program.{is_gap_byte, begins_word, ends_word, Spelled}
use Rattle.nx_top.specs.first.Program.Spelled.{Done, Next}
use Rattle.nx_top.specs.first.ProgramReading.{begins_blank, after_blanks, after_gap, after_text, after_token, after_tokens}
use Rattle.nx_top.proofs.first_path.Choices.{bind_some, guard_some, guard_none, both, not_true}

-- blanks before a rest, one at least where one is wanted
pub record Gap (wanted : Bool) (bytes rest : List ℕ) : Type 0 where
  pub blanks : List ℕ
  pub is : bytes ≡ blanks ++ rest
  pub all : list_all is_gap_byte blanks ≡ true
  pub gap : wanted ≡ true → blanks ≢ []

record Split (bytes : List ℕ) : Type 0 where
  blanks : List ℕ
  is : bytes ≡ blanks ++ after_blanks bytes
  all : list_all is_gap_byte blanks ≡ true
  some : begins_blank bytes ≡ true → blanks ≢ []

split_step : (b : ℕ) (bs : List ℕ) (t : Bool) → is_gap_byte b ≡ t → Split bs → Split (b ∷ bs)
split_step b bs true e s = record {
  blanks = b ∷ s.blanks;
  is = rw e (ap (λ l. b ∷ l) s.is);
  all = rw e s.all;
  some = λ t n. cc;
}
split_step b bs false e s = record { blanks = []; is = rw e refl; all = refl; some = λ t n. cc }

split : (bytes : List ℕ) → Split bytes
split [] = record { blanks = []; is = refl; all = refl; some = λ t n. cc }
split (b ∷ bs) = split_step b bs (is_gap_byte b) refl (split bs)

wanted_blank : (w b : Bool) → (w && not b) ≡ false → w ≡ true → b ≡ true
wanted_blank true true e t = refl
wanted_blank true false e t = absurd (cc)
wanted_blank false b e t = absurd (cc)

pub gap_sound : (wanted : Bool) (bytes rest : List ℕ) → after_gap wanted bytes ≡ Some rest → Gap wanted bytes rest
unfolding after_gap
gap_sound wanted bytes rest e =
    let k = guard_none (wanted && not (begins_blank bytes)) (Some (after_blanks bytes)) rest e in
    let s = split bytes in
    let r : after_blanks bytes ≡ rest = cc in
    record {
      blanks = s.blanks;
      is = s.is ∙ ap (λ l. s.blanks ++ l) r;
      all = s.all;
      gap = λ w. s.some (wanted_blank wanted (begins_blank bytes) k.0 w);
    }

no_more : (t : List ℕ) → begins_blank t ≡ false → after_blanks t ≡ t
no_more [] e = refl
no_more (b ∷ bs) e = rw e refl

passed : (blanks t : List ℕ) → list_all is_gap_byte blanks ≡ true → begins_blank t ≡ false → after_blanks (blanks ++ t) ≡ t
passed [] t all plain = no_more t plain
passed (b ∷ bs) t all plain = let k = both (is_gap_byte b) (list_all is_gap_byte bs) all in rw (k.0) (passed bs t k.1 plain)

wide : (wanted : Bool) (blanks t : List ℕ) → list_all is_gap_byte blanks ≡ true → (wanted ≡ true → blanks ≢ []) → (wanted && not (begins_blank (blanks ++ t))) ≡ false
wide false blanks t all gap = refl
wide true [] t all gap = absurd (gap refl refl)
wide true (b ∷ bs) t all gap = let k = both (is_gap_byte b) (list_all is_gap_byte bs) all in rw (k.0) refl

pub gap_whole : (wanted : Bool) (blanks t : List ℕ) → list_all is_gap_byte blanks ≡ true → (wanted ≡ true → blanks ≢ []) → begins_blank t ≡ false → after_gap wanted (blanks ++ t) ≡ Some t
unfolding after_gap
gap_whole wanted blanks t all gap plain = rw (wide wanted blanks t all gap, passed blanks t all plain) refl

pub text_sound : (text bytes rest : List ℕ) → after_text text bytes ≡ Some rest → bytes ≡ text ++ rest
unfolding after_text
text_sound text bytes rest e =
    let k = guard_some (starts_with nat_eq bytes text) (Some (drop (length text) bytes)) rest e in
    let r : drop (length text) bytes ≡ rest = cc in
    (starts_is unsigned_Decides bytes text (starts_with nat_eq bytes text) refl).0 k.0 ∙ ap (λ l. text ++ l) r

pub text_whole : (text rest : List ℕ) → after_text text (text ++ rest) ≡ Some rest
unfolding after_text
text_whole text rest =
    let t : starts_with nat_eq (text ++ rest) text ≡ true = (starts_is unsigned_Decides (text ++ rest) text (starts_with nat_eq (text ++ rest) text) refl).1 rest refl in
    rw (t) (ap Some (drop-append_seam text rest))

-- a token after its gap
pub token_gap : (word : Bool) (token bytes rest : List ℕ) → after_token word token bytes ≡ Some rest → Gap (word && begins_word token) bytes (token ++ rest)
unfolding after_token
token_gap word token bytes rest e =
    let k = bind_some (after_gap (word && begins_word token) bytes) (after_text token) rest e in
    subst (Gap (word && begins_word token) bytes) (text_sound token k.0 rest k.2) (gap_sound (word && begins_word token) bytes k.0 k.1)

-- a gap, a token and what is spelled after it
pub with_token : (word : Bool) (token bytes rest : List ℕ) (tokens : List (List ℕ)) → Gap (word && begins_word token) bytes (token ++ rest) → Spelled (ends_word token) tokens rest → Spelled word (token ∷ tokens) bytes
with_token word token bytes rest tokens g s = subst (Spelled word (token ∷ tokens)) (append_assoc g.blanks token rest ∙ sym g.is) (Next word g.blanks token rest tokens g.all g.gap s)

pub token_whole : (word : Bool) (blanks token rest : List ℕ) → list_all is_gap_byte blanks ≡ true → ((word && begins_word token) ≡ true → blanks ≢ []) → begins_blank (token ++ rest) ≡ false → after_token word token (blanks ++ (token ++ rest)) ≡ Some rest
unfolding after_token
token_whole word blanks token rest all gap plain = rw (gap_whole (word && begins_word token) blanks (token ++ rest) all gap plain) (text_whole token rest)

-- what is spelled begins with a gap and its first token
pub record Spelt (word : Bool) (token : List ℕ) (tokens : List (List ℕ)) (bytes : List ℕ) : Type 0 where
  pub blanks : List ℕ
  pub rest : List ℕ
  pub is : bytes ≡ blanks ++ (token ++ rest)
  pub all : list_all is_gap_byte blanks ≡ true
  pub gap : (word && begins_word token) ≡ true → blanks ≢ []
  pub more : Spelled (ends_word token) tokens rest

pub spelt : (word : Bool) (token : List ℕ) (tokens : List (List ℕ)) (bytes : List ℕ) → Spelled word (token ∷ tokens) bytes → Spelt word token tokens bytes
spelt _ _ _ _ (Next word blanks token rest tokens all gap more) = record { blanks = blanks; rest = rest; is = append_assoc blanks token rest; all = all; gap = gap; more = more }

pub all_blank : (word : Bool) (bytes : List ℕ) → Spelled word [] bytes → list_all is_gap_byte bytes ≡ true
all_blank _ _ (Done word blanks all) = all

-- whether a word stands right after tokens
abbrev pub word_after : Bool → List (List ℕ) → Bool
word_after word [] = word
word_after word (token ∷ tokens) = word_after (ends_word token) tokens

-- a token that is not empty and has no blank before it
abbrev pub is_plain_token : List ℕ → Bool
is_plain_token [] = false
is_plain_token (b ∷ bs) = not (is_gap_byte b)

pub plain_front : (token rest : List ℕ) → is_plain_token token ≡ true → begins_blank (token ++ rest) ≡ false
plain_front [] rest e = absurd (cc)
plain_front (b ∷ bs) rest e = not_true (is_gap_byte b) e

pub tokens_sound : (word : Bool) (tokens : List (List ℕ)) (bytes rest : List ℕ) (more : List (List ℕ)) → after_tokens word tokens bytes ≡ Some rest → Spelled (word_after word tokens) more rest → Spelled word (tokens ++ more) bytes
unfolding after_tokens
tokens_sound word [] bytes rest more e s = let k : rest ≡ bytes = cc in subst (Spelled word more) k s
tokens_sound word (token ∷ tokens) bytes rest more e s =
    let k = bind_some (after_token word token bytes) (after_tokens (ends_word token) tokens) rest e in
    with_token word token bytes k.0 (tokens ++ more) (token_gap word token bytes k.0 k.1) (tokens_sound (ends_word token) tokens k.0 rest more k.2 s)

-- tokens are read, and the rest is spelled after them
pub record Passed (word : Bool) (tokens others : List (List ℕ)) (bytes : List ℕ) : Type 0 where
  pub rest : List ℕ
  pub reads : after_tokens word tokens bytes ≡ Some rest
  pub more : Spelled (word_after word tokens) others rest

pub tokens_whole : (word : Bool) (tokens more : List (List ℕ)) (bytes : List ℕ) → list_all is_plain_token tokens ≡ true → Spelled word (tokens ++ more) bytes → Passed word tokens more bytes
unfolding after_tokens
tokens_whole word [] more bytes plain s = record { rest = bytes; reads = refl; more = s }
tokens_whole word (token ∷ tokens) more bytes plain s =
    let k = both (is_plain_token token) (list_all is_plain_token tokens) plain in
    let t = spelt word token (tokens ++ more) bytes s in
    let r : after_token word token bytes ≡ Some t.rest = ap (after_token word token) t.is ∙ token_whole word t.blanks token t.rest t.all t.gap (plain_front token t.rest k.0) in
    let p = tokens_whole (ends_word token) tokens more t.rest k.1 t.more in
    record { rest = p.rest; reads = rw (r) p.reads; more = p.more }
