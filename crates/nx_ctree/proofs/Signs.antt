-- Each token has a sign.
use Rattle.std.proofs.Common.{◌≡◌, ℕ, ◌==◌, ◌&&◌, ◌||◌, Bool, true, false, List, [], ◌∷◌, refl, sym, ap, subst}
use Rattle.std.proofs.lemmas.Bool.{eqb-true}
use Rattle.std.proofs.lemmas.Slice.Eq.{bytes_eq-Decides}
use Rattle.std.specs.Char.{is_ascii_digit}
use Rattle.std.specs.List.{list_all, list_any}
use Rattle.std.specs.Prelude.{Option, None, Some, is_some, if◌then◌else◌}
use Rattle.std.specs.Str.{bytes_eq}
use Rattle.nx_base.specs.TextBytes.{is_word_byte, is_word_start}
use Rattle.nx_ctok.specs.declared.keyword.Keyword.{Keyword}
use Rattle.nx_ctok.specs.declared.keyword.Keyword.TheVariants as word
use Rattle.nx_ctok.specs.declared.token.TokenKind.{TokenKind}
use Rattle.nx_ctok.specs.declared.token.TokenKind.TheVariants as kind
use Rattle.nx_ctok.specs.Spellings.{keyword_of, word_kind, is_number, is_char_rest, is_text_rest, single_marks, double_marks, is_single_mark, is_double_mark, is_mark, kind_if, kind_of}
use Rattle.nx_ctree.specs.declared.sign.Sign.{Sign}
use Rattle.nx_ctree.specs.declared.sign.Sign.TheVariants as sign
use Rattle.nx_ctree.specs.Signs.{keyword_sign, all_marks, mark_of, mark_sign, sign_by}

both : (t u : Bool) → (t && u) ≡ true → (t ≡ true) × (u ≡ true)
both true u e = (refl, e)
both false u e = cc

-- What holds of each number of a list holds of one that is among them.
among : (test : ℕ → Bool) (a : ℕ) (ms : List ℕ) → list_all test ms ≡ true → list_any (λ m. a == m) ms ≡ true → test a ≡ true
among test a [] h e = cc
among test a (m ∷ ms) h e = by (a == m) refl e (among test a ms (both (test m) (list_all test ms) h).1)
  where
    by : (t : Bool) → (a == m) ≡ t → (t || list_any (λ m. a == m) ms) ≡ true → (list_any (λ m. a == m) ms ≡ true → test a ≡ true) → test a ≡ true
    by true q e i = subst (λ x. test x ≡ true) (sym (eqb-true a m q)) (both (test m) (list_all test ms) h).0
    by false q e i = i e

among_texts : (test : List ℕ → Bool) (w : List ℕ) (ws : List (List ℕ)) → list_all test ws ≡ true → list_any (bytes_eq w) ws ≡ true → test w ≡ true
among_texts test w [] h e = cc
among_texts test w (v ∷ ws) h e = by (bytes_eq w v) refl e (among_texts test w ws (both (test v) (list_all test ws) h).1)
  where
    by : (t : Bool) → bytes_eq w v ≡ t → (t || list_any (bytes_eq w) ws) ≡ true → (list_any (bytes_eq w) ws ≡ true → test w ≡ true) → test w ≡ true
    by true q e i = subst (λ x. test x ≡ true) (sym ((bytes_eq-Decides w v).0 q)) (both (test v) (list_all test ws) h).0
    by false q e i = i e

-- Whether a sign is one.
abbrev has_sign : Sign → Bool
has_sign sign.Other = false
has_sign s = true

not_other : (s : Sign) → has_sign s ≡ true → s ≡ sign.Other → ⊥
not_other s h e = let x : has_sign s ≡ false = ap has_sign e in cc

single_signed : (a : ℕ) → is_single_mark a ≡ true → has_sign (mark_sign (mark_of (a ∷ []))) ≡ true
unfolding is_single_mark all_marks
single_signed a e = among (λ m. has_sign (mark_sign (mark_of (m ∷ [])))) a single_marks refl e

double_signed : (a b : ℕ) → is_double_mark a b ≡ true → has_sign (mark_sign (mark_of (a ∷ b ∷ []))) ≡ true
unfolding is_double_mark all_marks
double_signed a b e = among_texts (λ w. has_sign (mark_sign (mark_of w))) (a ∷ b ∷ []) double_marks refl e

mark_signed : (a : ℕ) (bs : List ℕ) → is_mark a bs ≡ true → has_sign (sign_by kind.Mark (a ∷ bs)) ≡ true
mark_signed a [] e = single_signed a e
mark_signed a (b ∷ []) e = double_signed a b e
mark_signed a (b ∷ c ∷ bs) e = cc

keyword_signed : (o : Option Keyword) → is_some o ≡ true → has_sign (keyword_sign o) ≡ true
keyword_signed None e = cc
keyword_signed (Some word.Static) e = refl
keyword_signed (Some word.Int) e = refl
keyword_signed (Some word.Char) e = refl
keyword_signed (Some word.Void) e = refl
keyword_signed (Some word.Const) e = refl
keyword_signed (Some word.If) e = refl
keyword_signed (Some word.Else) e = refl
keyword_signed (Some word.While) e = refl
keyword_signed (Some word.Do) e = refl
keyword_signed (Some word.For) e = refl
keyword_signed (Some word.Break) e = refl
keyword_signed (Some word.Continue) e = refl
keyword_signed (Some word.Return) e = refl
keyword_signed (Some word.Sizeof) e = refl

-- A word is a keyword or a name, and both have signs.
word_signed : (bytes : List ℕ) → has_sign (sign_by (word_kind bytes) bytes) ≡ true
word_signed bytes = by (is_some (keyword_of bytes)) refl
  where
    by : (t : Bool) → is_some (keyword_of bytes) ≡ t → has_sign (sign_by (if t then kind.Keyword else kind.Name) bytes) ≡ true
    by true e = keyword_signed (keyword_of bytes) e
    by false e = refl

-- A kind that a test gives.
given : (t : Bool) (k l : TokenKind) → kind_if t k ≡ Some l → (t ≡ true) × (k ≡ l)
given true k l e = (refl, cc)
given false k l e = cc

signed_as : (k l : TokenKind) (text : List ℕ) → k ≡ l → has_sign (sign_by k text) ≡ true → has_sign (sign_by l text) ≡ true
signed_as k l text e h = subst (λ x. has_sign (sign_by x text) ≡ true) e h

signed : (text : List ℕ) (k : TokenKind) → kind_of text ≡ Some k → has_sign (sign_by k text) ≡ true
signed [] k e = cc
signed (b ∷ bs) k e = start (is_word_start b) e
  where
    of : (t : Bool) (l : TokenKind) → kind_if t l ≡ Some k → (t ≡ true → has_sign (sign_by l (b ∷ bs)) ≡ true) → has_sign (sign_by k (b ∷ bs)) ≡ true
    of t l e h = let g = given t l k e in signed_as l k (b ∷ bs) g.1 (h g.0)

    mark : (t : Bool) → (if t then kind_if (is_text_rest bs) kind.Text else kind_if (is_mark b bs) kind.Mark) ≡ Some k → has_sign (sign_by k (b ∷ bs)) ≡ true
    mark true e = of (is_text_rest bs) kind.Text e (λ h. refl)
    mark false e = of (is_mark b bs) kind.Mark e (λ h. mark_signed b bs h)

    quote : (t : Bool) → (if t then kind_if (is_char_rest bs) kind.Char else if b == 34 then kind_if (is_text_rest bs) kind.Text else kind_if (is_mark b bs) kind.Mark) ≡ Some k → has_sign (sign_by k (b ∷ bs)) ≡ true
    quote true e = of (is_char_rest bs) kind.Char e (λ h. refl)
    quote false e = mark (b == 34) e

    digit : (t : Bool) →
        (if t then kind_if (is_number b bs) kind.Number else if b == 39 then kind_if (is_char_rest bs) kind.Char else if b == 34 then kind_if (is_text_rest bs) kind.Text else kind_if (is_mark b bs) kind.Mark) ≡ Some k → has_sign (sign_by k (b ∷ bs)) ≡ true
    digit true e = of (is_number b bs) kind.Number e (λ h. refl)
    digit false e = quote (b == 39) e

    start : (t : Bool) →
        (if t then kind_if (list_all is_word_byte bs) (word_kind (b ∷ bs)) else if is_ascii_digit b then kind_if (is_number b bs) kind.Number else if b == 39 then kind_if (is_char_rest bs) kind.Char else if b == 34 then kind_if (is_text_rest bs) kind.Text else kind_if (is_mark b bs) kind.Mark) ≡ Some k → has_sign (sign_by k (b ∷ bs)) ≡ true
    start true e = of (list_all is_word_byte bs) (word_kind (b ∷ bs)) e (λ h. word_signed (b ∷ bs))
    start false e = digit (is_ascii_digit b) e

pub token_signed : (text : List ℕ) (k : TokenKind) → kind_of text ≡ Some k → sign_by k text ≡ sign.Other → ⊥
token_signed text k e o = not_other (sign_by k text) (signed text k e) o
