-- The token at the start of a text, as it is scanned, is the longest.
use Rattle.std.proofs.Common.{◌≡◌, ℕ, zero, suc, ◌+◌, ◌<◌, ◌≤◌, ◌==◌, Bool, true, false, List, [], ◌∷◌, length, take, drop, get_or, refl, ap, ◌∙◌, arith, subst}
use Rattle.std.specs.Char.{is_ascii_digit}
use Rattle.std.specs.List.{list_all}
use Rattle.std.specs.Prelude.{Option, None, Some, is_some, if◌then◌else◌}
use Rattle.nx_base.specs.TextBytes.{is_word_start}
use Rattle.nx_ctok.specs.declared.token.TokenKind.{TokenKind}
use Rattle.nx_ctok.specs.declared.token.TokenKind.TheVariants as kind
use Rattle.nx_ctok.specs.declared.token.Word.{Word}
use Rattle.nx_ctok.specs.declared.scan.Class.TheVariants as class
use Rattle.nx_ctok.specs.Spellings.{word_kind, is_number, is_text_rest, is_char_rest, is_mark, kind_if, kind_of}
use Rattle.nx_ctok.specs.Longest.{greatest, longest, word_at}
use Rattle.nx_ctok.proofs.Fits.{Fits, fits_run, fits_number, fits_text, fits_char, fits_mark}
use Rattle.nx_ctok.specs.Scanning.{is_in, run, number_length, text_length, char_length, mark_length, with_kind, scanned}

same : (x y : ℕ) → x ≤ y → (x < y → ⊥) → y ≡ x
same x y l g = grind (arith, g)

below : (n k : ℕ) → k ≤ suc n → (k ≡ suc n → ⊥) → k ≤ n
below n k l g = grind (arith, g)

-- The greatest number that passes.
greatest_is : (test : ℕ → Bool) (n k : ℕ) → k ≤ n → test k ≡ true → ((j : ℕ) → k < j → j ≤ n → test j ≡ false) → greatest test n ≡ k
unfolding greatest
greatest_is test zero k h t f = omega arith
greatest_is test (suc n) k h t f = by (test (suc n)) refl (λ m. greatest_is test n k m t (λ j l o. f j l (omega arith)))
  where
    by : (b : Bool) → test (suc n) ≡ b → (k ≤ n → greatest test n ≡ k) → (if b then suc n else greatest test n) ≡ k
    by true e i = same k (suc n) h (λ l. let x : test (suc n) ≡ false = f (suc n) l (omega arith) in cc)
    by false e i = i (below n k h (λ q. let x : test (suc n) ≡ true = subst (λ y. test y ≡ true) q t in cc))

-- Where none passes, it is 0.
greatest_none : (test : ℕ → Bool) (n : ℕ) → ((j : ℕ) → 0 < j → j ≤ n → test j ≡ false) → greatest test n ≡ 0
unfolding greatest
greatest_none test zero f = refl
greatest_none test (suc n) f = ap (λ b. if b then suc n else greatest test n) (f (suc n) (omega arith) (omega arith)) ∙ greatest_none test n (λ j l m. f j l (omega arith))

-- A length whose bytes spell a token of this kind, where no more bytes spell one.
pub record IsLongest (bytes : List ℕ) (k : TokenKind) (n : ℕ) : Type 0 where
  pub within : n ≤ length bytes
  pub is : kind_of (take n bytes) ≡ Some k
  pub last : (j : ℕ) → n < j → j ≤ length bytes → kind_of (take j bytes) ≡ None

-- What a word is, by its kind and its length.
abbrev pub word_of : List ℕ → Option (TokenKind × ℕ) → Option Word
word_of bytes None = None
word_of bytes (Some x) = Some (record { kind = x.0; text = take x.1 bytes; rest = drop x.1 bytes })

-- It is the word at the start.
word_is : (bytes : List ℕ) (k : TokenKind) (n : ℕ) → IsLongest bytes k n → word_at bytes ≡ word_of bytes (Some (k, n))
unfolding word_at longest
word_is bytes k n x =
    let e : greatest (λ m. is_some (kind_of (take m bytes))) (length bytes) ≡ n =
    greatest_is (λ m. is_some (kind_of (take m bytes))) (length bytes) n x.within (ap is_some x.is) (λ j l m. ap is_some (x.last j l m)) in
    rw (e, x.is) refl

-- Where no bytes spell a token, there is no word.
word_none : (bytes : List ℕ) → ((j : ℕ) → 0 < j → j ≤ length bytes → kind_of (take j bytes) ≡ None) → word_at bytes ≡ None
unfolding word_at longest
word_none bytes f =
    let e : greatest (λ m. is_some (kind_of (take m bytes))) (length bytes) ≡ 0 =
    greatest_none (λ m. is_some (kind_of (take m bytes))) (length bytes) (λ j l m. ap is_some (f j l m)) in
    rw e refl

-- A token whose first byte tells its kind.
word_by : (b : ℕ) (bs : List ℕ) (test : List ℕ → Bool) (k : List ℕ → TokenKind) → ((w : List ℕ) → kind_of (b ∷ w) ≡ kind_if (test w) (k w)) →
    (n : ℕ) → Fits test bs (Some n) → word_at (b ∷ bs) ≡ word_of (b ∷ bs) (Some (k (take n bs), suc n))
word_by b bs test k f n x = word_is (b ∷ bs) (k (take n bs)) (suc n) (record {
  within = omega (arith, x.0);
  is = f (take n bs) ∙ ap (λ t. kind_if t (k (take n bs))) x.1;
  last = λ j. last j;
})
  where
    last : (j : ℕ) → suc n < j → j ≤ suc (length bs) → kind_of (take j (b ∷ bs)) ≡ None
    last zero l m = absurd (omega arith)
    last (suc j) l m = f (take j bs) ∙ ap (λ t. kind_if t (k (take j bs))) (x.2 j (omega arith) (omega arith))

-- And where the test fails with each length.
none_by : (b : ℕ) (bs : List ℕ) (test : List ℕ → Bool) (k : TokenKind) → ((w : List ℕ) → kind_of (b ∷ w) ≡ kind_if (test w) k) → Fits test bs None → word_at (b ∷ bs) ≡ None
none_by b bs test k f x = word_none (b ∷ bs) none
  where
    none : (j : ℕ) → 0 < j → j ≤ suc (length bs) → kind_of (take j (b ∷ bs)) ≡ None
    none zero l m = absurd (omega arith)
    none (suc j) l m = f (take j bs) ∙ ap (λ t. kind_if t k) (x j (omega arith))

-- Both at once, for a kind that the first byte tells alone.
pub word_fits : (b : ℕ) (bs : List ℕ) (test : List ℕ → Bool) (k : TokenKind) → ((w : List ℕ) → kind_of (b ∷ w) ≡ kind_if (test w) k) →
    (o : Option ℕ) → Fits test bs o → word_at (b ∷ bs) ≡ word_of (b ∷ bs) (with_kind k o)
word_fits b bs test k f None x = none_by b bs test k f x
word_fits b bs test k f (Some n) x = word_by b bs test (λ w. k) f n x

-- The word at the start is the one that is scanned.
pub word_scanned : (bytes : List ℕ) → word_at bytes ≡ word_of bytes (scanned bytes)
word_scanned [] = word_none [] (λ j l m. absurd (omega arith))
word_scanned (b ∷ bs) = start (is_word_start b) refl
  where
    mark : (t : Bool) → (b == 34) ≡ t → is_word_start b ≡ false → is_ascii_digit b ≡ false → (b == 39) ≡ false →
        word_at (b ∷ bs) ≡ word_of (b ∷ bs) (if t then with_kind kind.Text (text_length bs) else with_kind kind.Mark (mark_length b bs))
    mark true e s d q = word_fits b bs is_text_rest kind.Text (λ w. rw (s, d, q, e) refl) (text_length bs) (fits_text bs)
    mark false e s d q = word_fits b bs (is_mark b) kind.Mark (λ w. rw (s, d, q, e) refl) (mark_length b bs) (fits_mark b bs)

    quote : (t : Bool) → (b == 39) ≡ t → is_word_start b ≡ false → is_ascii_digit b ≡ false →
        word_at (b ∷ bs) ≡ word_of (b ∷ bs) (if t then with_kind kind.Char (char_length bs) else if b == 34 then with_kind kind.Text (text_length bs) else with_kind kind.Mark (mark_length b bs))
    quote true e s d = word_fits b bs is_char_rest kind.Char (λ w. rw (s, d, e) refl) (char_length bs) (fits_char bs)
    quote false e s d = mark (b == 34) refl s d e

    digit : (t : Bool) → is_ascii_digit b ≡ t → is_word_start b ≡ false →
        word_at (b ∷ bs) ≡ word_of (b ∷ bs) (if t then with_kind kind.Number (Some (number_length b bs)) else if b == 39 then with_kind kind.Char (char_length bs) else if b == 34 then with_kind kind.Text (text_length bs) else with_kind kind.Mark (mark_length b bs))
    digit true e s = word_fits b bs (is_number b) kind.Number (λ w. rw (s, e) refl) (Some (number_length b bs)) (fits_number b bs)
    digit false e s = quote (b == 39) refl s e

    start : (t : Bool) → is_word_start b ≡ t → word_at (b ∷ bs) ≡ word_of (b ∷ bs)
        (if t then with_kind (word_kind (b ∷ take (run class.Word bs) bs)) (Some (run class.Word bs)) else if is_ascii_digit b then with_kind kind.Number (Some (number_length b bs)) else if b == 39 then with_kind kind.Char (char_length bs) else if b == 34 then with_kind kind.Text (text_length bs) else with_kind kind.Mark (mark_length b bs))
    start true e = word_by b bs (list_all (is_in class.Word)) (λ w. word_kind (b ∷ w)) (λ w. rw e refl) (run class.Word bs) (fits_run class.Word bs)
    start false e = digit (is_ascii_digit b) refl e

-- A word that is scanned, as the code has it.
pub scan_word : (bytes : List ℕ) (n : ℕ) (k : TokenKind) → 1 ≤ length bytes → is_word_start (get_or bytes 0 0) ≡ true → n ≡ run class.Word (drop 1 bytes) → k ≡ word_kind (take (1 + n) bytes) →
    Some (k, suc n) ≡ scanned bytes
scan_word [] n k h s r e = absurd (omega arith)
scan_word (b ∷ bs) n k h s r e =
    let t : take (1 + n) (b ∷ bs) ≡ b ∷ take n bs = ap (λ m. take m (b ∷ bs)) (let x : 1 + n ≡ suc n = omega arith in x) in
    let q : k ≡ word_kind (b ∷ take (run class.Word bs) bs) = e ∙ ap word_kind t ∙ ap (λ m. word_kind (b ∷ take m bs)) r in
    rw (s, q, r) refl
