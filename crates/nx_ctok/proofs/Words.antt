-- What a word at the start of a text is: spelled as its kind is, without a newline, and not empty.
use Rattle.std.proofs.Common.{◌≡◌, ℕ, zero, suc, ◌<◌, ◌==◌, ◌&&◌, ◌||◌, Bool, true, false, List, [], ◌∷◌, length, take, drop, refl, sym, ◌∙◌, arith, subst, length-drop, zero-add}
use Rattle.std.proofs.lemmas.Bool.{eqb-true}
use Rattle.std.proofs.lemmas.Slice.Eq.{bytes_eq-Decides}
use Rattle.std.specs.Char.{is_ascii_digit, is_ascii_hexdigit}
use Rattle.std.specs.List.{list_all, list_any}
use Rattle.std.specs.Option.{option_map}
use Rattle.std.specs.Prelude.{Option, None, Some, is_some, if◌then◌else◌}
use Rattle.std.specs.Str.{bytes_eq}
use Rattle.nx_base.specs.TextBytes.{is_word_byte, is_word_start}
use Rattle.nx_ctok.specs.declared.token.TokenKind.{TokenKind}
use Rattle.nx_ctok.specs.declared.token.TokenKind.TheVariants as kind
use Rattle.nx_ctok.specs.declared.token.Word.{Word}
use Rattle.nx_ctok.specs.Spellings.{word_kind, are_hex_digits, is_zero_rest, is_number, escaped, is_plain, is_text_rest, is_char_rest, double_marks, is_single_mark, is_double_mark, is_mark, kind_if, kind_of}
use Rattle.nx_ctok.specs.Longest.{longest, word_at}
use Rattle.nx_ctok.specs.Comments.{newlines}
use Rattle.nx_ctok.specs.Views.{IsLeft}

-- Both of two tests.
both : (t u : Bool) → (t && u) ≡ true → (t ≡ true) × (u ≡ true)
both true u e = (refl, e)
both false u e = cc

-- Where a test that a newline fails passes, there is no newline.
no_newline : (test : ℕ → Bool) → test 10 ≡ false → (b : ℕ) → test b ≡ true → (b == 10) ≡ false
no_newline test z b h = by (b == 10) refl
  where
    by : (t : Bool) → (b == 10) ≡ t → t ≡ false
    by true e = let x : test 10 ≡ true = subst (λ y. test y ≡ true) (eqb-true b 10 e) h in cc
    by false e = refl

-- Such a byte before others.
before : (b : ℕ) (bs : List ℕ) → (b == 10) ≡ false → newlines bs ≡ 0 → newlines (b ∷ bs) ≡ 0
before b bs e h = rw e h

all_pass : (test : ℕ → Bool) → test 10 ≡ false → (bs : List ℕ) → list_all test bs ≡ true → newlines bs ≡ 0
all_pass test z [] e = refl
all_pass test z (b ∷ bs) e = let p = both (test b) (list_all test bs) e in before b bs (no_newline test z b p.0) (all_pass test z bs p.1)

hex_pass : (bs : List ℕ) → are_hex_digits bs ≡ true → newlines bs ≡ 0
hex_pass [] e = refl
hex_pass (d ∷ ds) e = all_pass is_ascii_hexdigit refl (d ∷ ds) e

zero_pass : (bs : List ℕ) → is_zero_rest bs ≡ true → newlines bs ≡ 0
zero_pass [] e = refl
zero_pass (b ∷ bs) e = let p = both (b == 120) (are_hex_digits bs) e in before b bs (no_newline (λ x. x == 120) refl b p.0) (hex_pass bs p.1)

number_pass : (first : ℕ) (bs : List ℕ) → is_number first bs ≡ true → newlines bs ≡ 0
number_pass first bs e = by (first == 48) e
  where
    by : (t : Bool) → (if t then is_zero_rest bs else list_all is_ascii_digit bs) ≡ true → newlines bs ≡ 0
    by true e = zero_pass bs e
    by false e = all_pass is_ascii_digit refl bs e

char_pass : (bs : List ℕ) → is_char_rest bs ≡ true → newlines bs ≡ 0
char_pass [] e = cc
char_pass (b ∷ []) e = cc
char_pass (b ∷ c ∷ []) e =
    let p = both (is_plain 39 b) (c == 39) e in
    before b (c ∷ []) (no_newline (is_plain 39) refl b p.0) (before c [] (no_newline (λ x. x == 39) refl c p.1) refl)
char_pass (b ∷ c ∷ d ∷ []) e =
    let p = both (b == 92) (is_some (escaped c) && d == 39) e in
    let q = both (is_some (escaped c)) (d == 39) p.1 in
    before b (c ∷ d ∷ []) (no_newline (λ x. x == 92) refl b p.0)
    (before c (d ∷ []) (no_newline (λ x. is_some (escaped x)) refl c q.0) (before d [] (no_newline (λ x. x == 39) refl d q.1) refl))
char_pass (b ∷ c ∷ d ∷ x ∷ bs) e = cc

text_pass : (bs : List ℕ) → is_text_rest bs ≡ true → newlines bs ≡ 0
text_pass [] e = cc
text_pass (b ∷ []) e = before b [] (no_newline (λ x. x == 34) refl b e) refl
text_pass (b ∷ c ∷ bs) e = by (b == 92) refl e (text_pass bs) (text_pass (c ∷ bs))
  where
    by : (t : Bool) → (b == 92) ≡ t → (if t then is_some (escaped c) && is_text_rest bs else is_plain 34 b && is_text_rest (c ∷ bs)) ≡ true →
        (is_text_rest bs ≡ true → newlines bs ≡ 0) → (is_text_rest (c ∷ bs) ≡ true → newlines (c ∷ bs) ≡ 0) → newlines (b ∷ c ∷ bs) ≡ 0
    by true d e two one =
        let p = both (is_some (escaped c)) (is_text_rest bs) e in
        before b (c ∷ bs) (no_newline (λ x. x == 92) refl b d) (before c bs (no_newline (λ x. is_some (escaped x)) refl c p.0) (two p.1))
    by false d e two one =
        let p = both (is_plain 34 b) (is_text_rest (c ∷ bs)) e in
        before b (c ∷ bs) (no_newline (is_plain 34) refl b p.0) (one p.1)

-- What holds of each text of a list holds of one that is among them.
among : (test : List ℕ → Bool) (w : List ℕ) (ws : List (List ℕ)) → list_all test ws ≡ true → list_any (bytes_eq w) ws ≡ true → test w ≡ true
among test w [] a e = cc
among test w (v ∷ ws) a e = by (bytes_eq w v) refl e (among test w ws (both (test v) (list_all test ws) a).1)
  where
    by : (t : Bool) → bytes_eq w v ≡ t → (t || list_any (bytes_eq w) ws) ≡ true → (list_any (bytes_eq w) ws ≡ true → test w ≡ true) → test w ≡ true
    by true q e i = subst (λ x. test x ≡ true) (sym ((bytes_eq-Decides w v).0 q)) (both (test v) (list_all test ws) a).0
    by false q e i = i e

-- Neither byte of a mark is a newline.
double_pass : (a b : ℕ) → is_double_mark a b ≡ true → newlines (a ∷ b ∷ []) ≡ 0
unfolding is_double_mark
double_pass a b e = eqb-true (newlines (a ∷ b ∷ [])) 0 (among (λ w. newlines w == 0) (a ∷ b ∷ []) double_marks refl e)

mark_pass : (a : ℕ) (bs : List ℕ) → is_mark a bs ≡ true → newlines (a ∷ bs) ≡ 0
unfolding is_single_mark
mark_pass a [] e = before a [] (no_newline is_single_mark refl a e) refl
mark_pass a (b ∷ []) e = double_pass a b e
mark_pass a (b ∷ c ∷ bs) e = cc

-- A kind that a test gives.
passed : (t : Bool) (k l : TokenKind) → kind_if t k ≡ Some l → t ≡ true
passed true k l e = refl
passed false k l e = cc

-- No token has a newline.
pub spelled_on_a_line : (w : List ℕ) (k : TokenKind) → kind_of w ≡ Some k → newlines w ≡ 0
spelled_on_a_line [] k e = refl
spelled_on_a_line (b ∷ bs) k e = start (is_word_start b) refl e
  where
    mark : (t : Bool) → (b == 34) ≡ t → (if t then kind_if (is_text_rest bs) kind.Text else kind_if (is_mark b bs) kind.Mark) ≡ Some k → newlines (b ∷ bs) ≡ 0
    mark true h e = before b bs (no_newline (λ x. x == 34) refl b h) (text_pass bs (passed (is_text_rest bs) kind.Text k e))
    mark false h e = mark_pass b bs (passed (is_mark b bs) kind.Mark k e)

    quote : (t : Bool) → (b == 39) ≡ t →
        (if t then kind_if (is_char_rest bs) kind.Char else if b == 34 then kind_if (is_text_rest bs) kind.Text else kind_if (is_mark b bs) kind.Mark) ≡ Some k → newlines (b ∷ bs) ≡ 0
    quote true h e = before b bs (no_newline (λ x. x == 39) refl b h) (char_pass bs (passed (is_char_rest bs) kind.Char k e))
    quote false h e = mark (b == 34) refl e

    digit : (t : Bool) → is_ascii_digit b ≡ t →
        (if t then kind_if (is_number b bs) kind.Number else if b == 39 then kind_if (is_char_rest bs) kind.Char else if b == 34 then kind_if (is_text_rest bs) kind.Text else kind_if (is_mark b bs) kind.Mark) ≡ Some k → newlines (b ∷ bs) ≡ 0
    digit true h e = before b bs (no_newline is_ascii_digit refl b h) (number_pass b bs (passed (is_number b bs) kind.Number k e))
    digit false h e = quote (b == 39) refl e

    start : (t : Bool) → is_word_start b ≡ t →
        (if t then kind_if (list_all is_word_byte bs) (word_kind (b ∷ bs)) else if is_ascii_digit b then kind_if (is_number b bs) kind.Number else if b == 39 then kind_if (is_char_rest bs) kind.Char else if b == 34 then kind_if (is_text_rest bs) kind.Text else kind_if (is_mark b bs) kind.Mark) ≡ Some k → newlines (b ∷ bs) ≡ 0
    start true h e = before b bs (no_newline is_word_start refl b h) (all_pass is_word_byte refl bs (passed (list_all is_word_byte bs) (word_kind (b ∷ bs)) k e))
    start false h e = digit (is_ascii_digit b) refl e

-- Newlines of what stands before a place and after it.
newlines_split : (n : ℕ) (bs : List ℕ) → newlines (take n bs) ≡ 0 → newlines bs ≡ newlines (drop n bs)
newlines_split zero bs e = refl
newlines_split (suc n) [] e = refl
newlines_split (suc n) (b ∷ bs) e = by (b == 10) e (newlines_split n bs)
  where
    by : (t : Bool) → (if t then suc (newlines (take n bs)) else newlines (take n bs)) ≡ 0 → (newlines (take n bs) ≡ 0 → newlines bs ≡ newlines (drop n bs)) →
        (if t then suc (newlines bs) else newlines bs) ≡ newlines (drop n bs)
    by true e i = absurd (omega arith)
    by false e i = i e

-- A token has a byte.
less : (n : ℕ) (bs : List ℕ) (k : TokenKind) → kind_of (take n bs) ≡ Some k → length (drop n bs) < length bs
less zero bs k e = cc
less (suc n) [] k e = cc
less (suc n) (b ∷ bs) k e = omega (arith, length-drop n bs)

-- The word at the start of a text.
pub record IsWord (bytes : List ℕ) (w : Word) : Type 0 where
  pub spelled : kind_of w.text ≡ Some w.kind
  pub left : IsLeft w.rest 0 bytes

pub word_is_spelled : (bytes : List ℕ) (w : Word) → word_at bytes ≡ Some w → IsWord bytes w
unfolding word_at
word_is_spelled bytes w e = by (kind_of (take (longest bytes) bytes)) refl e
  where
    by : (o : Option TokenKind) → kind_of (take (longest bytes) bytes) ≡ o →
        option_map (λ k. let x : Word = record { kind = k; text = take (longest bytes) bytes; rest = drop (longest bytes) bytes } in x) o ≡ Some w → IsWord bytes w
    by None h e = cc
    by (Some k) h e =
        let v : Word = record { kind = k; text = take (longest bytes) bytes; rest = drop (longest bytes) bytes } in
        let s : v ≡ w = cc in
        subst (IsWord bytes) s (record {
          spelled = h;
          left = record { lines = newlines_split (longest bytes) bytes (spelled_on_a_line (take (longest bytes) bytes) k h) ∙ sym (zero-add (newlines (drop (longest bytes) bytes))); less = less (longest bytes) bytes k h };
        })

pub word_left : (bytes : List ℕ) (w : Word) → word_at bytes ≡ Some w → IsLeft w.rest 0 bytes
word_left bytes w e = (word_is_spelled bytes w e).left
