-- The lengths with which the spellings' tests pass.
use Rattle.std.proofs.Common.{◌≡◌, ℕ, zero, suc, ◌+◌, ◌<◌, ◌≤◌, ◌==◌, Bool, true, false, ◌&&◌, ◌||◌, not, nat_lt, List, [], ◌∷◌, length, take, refl, sym, ◌∙◌, arith, subst}
use Rattle.std.proofs.lemmas.Bool.{eqb-true, ltb-true, ltb-false}
use Rattle.std.specs.Char.{is_ascii_digit}
use Rattle.std.specs.List.{list_all}
use Rattle.std.specs.Prelude.{Option, None, Some, is_some, if◌then◌else◌}
use Rattle.nx_ctok.specs.declared.scan.Class.{Class}
use Rattle.nx_ctok.specs.declared.scan.Class.TheVariants as class
use Rattle.nx_ctok.specs.Spellings.{are_hex_digits, is_zero_rest, is_number, escaped, is_plain, is_text_rest, is_char_rest, is_single_mark, is_double_mark, is_mark}
use Rattle.nx_ctok.specs.Scanning.{is_in, run, longer, zero_length, number_length, text_length, char_length, mark_length}

-- A length with which a test passes, and with no greater one; or none passes.
abbrev pub Fits : (List ℕ → Bool) → List ℕ → Option ℕ → Type 0
Fits test bs None = (j : ℕ) → j ≤ length bs → test (take j bs) ≡ false
Fits test bs (Some n) = (n ≤ length bs) × (test (take n bs) ≡ true) × ((j : ℕ) → n < j → j ≤ length bs → test (take j bs) ≡ false)

-- A run of bytes of a class is the longest.
run_within : (c : Class) (bs : List ℕ) → run c bs ≤ length bs
run_within c [] = omega arith
run_within c (b ∷ bs) = by (is_in c b) (run_within c bs)
  where
    by : (t : Bool) → run c bs ≤ length bs → (if t then suc (run c bs) else 0) ≤ suc (length bs)
    by true h = omega arith
    by false h = omega arith

run_all : (c : Class) (bs : List ℕ) → list_all (is_in c) (take (run c bs) bs) ≡ true
run_all c [] = refl
run_all c (b ∷ bs) = by (is_in c b) refl (run_all c bs)
  where
    by : (t : Bool) → is_in c b ≡ t → list_all (is_in c) (take (run c bs) bs) ≡ true → list_all (is_in c) (take (if t then suc (run c bs) else 0) (b ∷ bs)) ≡ true
    by true e h = rw e h
    by false e h = refl

run_last : (c : Class) (bs : List ℕ) (j : ℕ) → run c bs < j → j ≤ length bs → list_all (is_in c) (take j bs) ≡ false
run_last c [] j l m = absurd (omega arith)
run_last c (b ∷ bs) zero l m = absurd (omega arith)
run_last c (b ∷ bs) (suc j) l m = by (is_in c b) refl l (λ h. run_last c bs j h (omega arith))
  where
    by : (t : Bool) → is_in c b ≡ t → (if t then suc (run c bs) else 0) < suc j → (run c bs < j → list_all (is_in c) (take j bs) ≡ false) →
        (is_in c b && list_all (is_in c) (take j bs)) ≡ false
    by true e h i = rw e (i (omega arith))
    by false e h i = rw e refl

pub fits_run : (c : Class) (bs : List ℕ) → Fits (list_all (is_in c)) bs (Some (run c bs))
fits_run c bs = (run_within c bs, run_all c bs, λ j l m. run_last c bs j l m)

-- Hexadecimal digits, one or more.
some_hex : (w : List ℕ) → 0 < length w → list_all (is_in class.Hexadecimal) w ≡ true → are_hex_digits w ≡ true
some_hex [] h e = absurd (omega arith)
some_hex (d ∷ ds) h e = e

no_hex : (w : List ℕ) → list_all (is_in class.Hexadecimal) w ≡ false → are_hex_digits w ≡ false
no_hex [] e = cc
no_hex (d ∷ ds) e = e

-- What stands after a first digit 0.
pub fits_zero : (bs : List ℕ) → Fits is_zero_rest bs (Some (zero_length bs))
fits_zero [] = (omega arith, refl, λ j l m. absurd (omega arith))
fits_zero (b ∷ ds) = by (b == 120) refl (nat_lt 0 (run class.Hexadecimal ds)) refl
  where
    after : (j : ℕ) (t : Bool) → (b == 120) ≡ t → (t ≡ true → are_hex_digits (take j ds) ≡ false) → is_zero_rest (take (suc j) (b ∷ ds)) ≡ false
    after j true e f = rw (e, f refl) refl
    after j false e f = rw e refl

    nothing : ((j : ℕ) → j ≤ length ds → is_zero_rest (take (suc j) (b ∷ ds)) ≡ false) → Fits is_zero_rest (b ∷ ds) (Some 0)
    nothing f = (omega arith, refl, λ j. last j)
      where
        last : (j : ℕ) → 0 < j → j ≤ suc (length ds) → is_zero_rest (take j (b ∷ ds)) ≡ false
        last zero l m = absurd (omega arith)
        last (suc j) l m = f j (omega arith)

    short : (j : ℕ) → run class.Hexadecimal ds ≡ 0 → j ≤ length ds → are_hex_digits (take j ds) ≡ false
    short zero r m = refl
    short (suc j) r m = no_hex (take (suc j) ds) (run_last class.Hexadecimal ds (suc j) (omega arith) m)

    by : (t : Bool) → (b == 120) ≡ t → (u : Bool) → nat_lt 0 (run class.Hexadecimal ds) ≡ u → Fits is_zero_rest (b ∷ ds) (Some (if t && u then suc (run class.Hexadecimal ds) else 0))
    by false e u h = nothing (λ j m. after j false e (λ x. cc))
    by true e false h = nothing (λ j m. after j true e (λ x. short j (none (run class.Hexadecimal ds) h) m))
      where
        none : (n : ℕ) → nat_lt 0 n ≡ false → n ≡ 0
        none n h = grind (arith, ltb-false 0 n h)
    by true e true h =
        let w : run class.Hexadecimal ds ≤ length ds = run_within class.Hexadecimal ds in
        let p : 0 < run class.Hexadecimal ds = ltb-true 0 (run class.Hexadecimal ds) h in (
          omega arith,
          rw e (some_hex (take (run class.Hexadecimal ds) ds) (some (run class.Hexadecimal ds) ds p w) (run_all class.Hexadecimal ds)),
          λ j. last j,
        )
      where
        some : (n : ℕ) (xs : List ℕ) → 0 < n → n ≤ length xs → 0 < length (take n xs)
        some zero xs p m = absurd (omega arith)
        some (suc n) [] p m = absurd (omega arith)
        some (suc n) (x ∷ xs) p m = omega arith

        last : (j : ℕ) → suc (run class.Hexadecimal ds) < j → j ≤ suc (length ds) → is_zero_rest (take j (b ∷ ds)) ≡ false
        last zero l m = absurd (omega arith)
        last (suc j) l m = after j true e (λ x. no_hex (take j ds) (run_last class.Hexadecimal ds j (omega arith) (omega arith)))

-- A number after its first digit.
pub fits_number : (b : ℕ) (bs : List ℕ) → Fits (is_number b) bs (Some (number_length b bs))
fits_number b bs = by (b == 48) refl
  where
    by : (t : Bool) → (b == 48) ≡ t → Fits (λ w. if t then is_zero_rest w else list_all is_ascii_digit w) bs (Some (if t then zero_length bs else run class.Decimal bs))
    by true e = fits_zero bs
    by false e = fits_run class.Decimal bs

-- A test that passes over one byte.
shift_one : (test : List ℕ → Bool) (b : ℕ) (cs : List ℕ) → ((j : ℕ) → j ≤ length cs → test (take (suc j) (b ∷ cs)) ≡ test (take j cs)) → test [] ≡ false →
    (o : Option ℕ) → Fits test cs o → Fits test (b ∷ cs) (longer 1 o)
shift_one test b cs f z None x = λ j. none j
  where
    none : (j : ℕ) → j ≤ suc (length cs) → test (take j (b ∷ cs)) ≡ false
    none zero m = z
    none (suc j) m = f j (omega arith) ∙ x j (omega arith)
shift_one test b cs f z (Some n) x = at (1 + n) (omega arith)
  where
    last : (j : ℕ) → suc n < j → j ≤ suc (length cs) → test (take j (b ∷ cs)) ≡ false
    last zero l m = absurd (omega arith)
    last (suc j) l m = f j (omega arith) ∙ x.2 j (omega arith) (omega arith)

    at : (k : ℕ) → suc n ≡ k → Fits test (b ∷ cs) (Some k)
    at k e = subst (λ k. Fits test (b ∷ cs) (Some k)) e (omega (arith, x.0), f n x.0 ∙ x.1, λ j. last j)

-- A test that passes over two.
shift_two : (test : List ℕ → Bool) (b c : ℕ) (cs : List ℕ) → ((j : ℕ) → test (take (suc (suc j)) (b ∷ c ∷ cs)) ≡ test (take j cs)) → test [] ≡ false → test (b ∷ []) ≡ false →
    (o : Option ℕ) → Fits test cs o → Fits test (b ∷ c ∷ cs) (longer 2 o)
shift_two test b c cs f z y None x = λ j. none j
  where
    none : (j : ℕ) → j ≤ suc (suc (length cs)) → test (take j (b ∷ c ∷ cs)) ≡ false
    none zero m = z
    none (suc zero) m = y
    none (suc (suc j)) m = f j ∙ x j (omega arith)
shift_two test b c cs f z y (Some n) x = at (2 + n) (omega arith)
  where
    last : (j : ℕ) → suc (suc n) < j → j ≤ suc (suc (length cs)) → test (take j (b ∷ c ∷ cs)) ≡ false
    last zero l m = absurd (omega arith)
    last (suc zero) l m = absurd (omega arith)
    last (suc (suc j)) l m = f j ∙ x.2 j (omega arith) (omega arith)

    at : (k : ℕ) → suc (suc n) ≡ k → Fits test (b ∷ c ∷ cs) (Some k)
    at k e = subst (λ k. Fits test (b ∷ c ∷ cs) (Some k)) e (omega (arith, x.0), f n ∙ x.1, λ j. last j)

-- A quote is no byte of a text.
quote_ends : (b c : ℕ) (w : List ℕ) → (b == 34) ≡ true → is_text_rest (b ∷ c ∷ w) ≡ false
quote_ends b c w e = let P : ℕ → Type 0 = λ q. is_text_rest (q ∷ c ∷ w) ≡ false in subst P (sym (eqb-true b 34 e)) refl

-- A text after its opening quote.
pub fits_text : (bs : List ℕ) → Fits is_text_rest bs (text_length bs)
unfolding text_length
fits_text [] = λ j m. none j
  where
    none : (j : ℕ) → is_text_rest (take j []) ≡ false
    none zero = refl
    none (suc j) = refl
fits_text (b ∷ []) = by (b == 34) refl
  where
    none : (j : ℕ) → (b == 34) ≡ false → j ≤ 1 → is_text_rest (take j (b ∷ [])) ≡ false
    none zero e m = refl
    none (suc zero) e m = e
    none (suc (suc j)) e m = absurd (omega arith)

    by : (t : Bool) → (b == 34) ≡ t → Fits is_text_rest (b ∷ []) (if t then Some 1 else None)
    by true e = (omega arith, e, λ j l m. absurd (omega arith))
    by false e = λ j m. none j e m
fits_text (b ∷ c ∷ bs) = by (b == 34) refl (fits_text bs) (fits_text (c ∷ bs))
  where
    closed : (j : ℕ) → (b == 34) ≡ true → 1 < j → is_text_rest (take j (b ∷ c ∷ bs)) ≡ false
    closed zero e l = absurd (omega arith)
    closed (suc zero) e l = absurd (omega arith)
    closed (suc (suc j)) e l = quote_ends b c (take j bs) e

    none : (j : ℕ) → (b == 34) ≡ false → ((i : ℕ) → is_text_rest (b ∷ c ∷ take i bs) ≡ false) → is_text_rest (take j (b ∷ c ∷ bs)) ≡ false
    none zero e f = refl
    none (suc zero) e f = e
    none (suc (suc j)) e f = f j

    escape : (t : Bool) → is_some (escaped c) ≡ t → (b == 34) ≡ false → (b == 92) ≡ true → Fits is_text_rest bs (text_length bs) →
        Fits is_text_rest (b ∷ c ∷ bs) (if t then longer 2 (text_length bs) else None)
    escape true h e d two = shift_two is_text_rest b c bs (λ j. rw (d, h) refl) refl e (text_length bs) two
    escape false h e d two = λ j m. none j e (λ i. rw (d, h) refl)

    plain : (t : Bool) → is_plain 34 b ≡ t → (b == 34) ≡ false → (b == 92) ≡ false → Fits is_text_rest (c ∷ bs) (text_length (c ∷ bs)) →
        Fits is_text_rest (b ∷ c ∷ bs) (if t then longer 1 (text_length (c ∷ bs)) else None)
    plain true h e d one = shift_one is_text_rest b (c ∷ bs) (λ j m. over j) refl (text_length (c ∷ bs)) one
      where
        over : (j : ℕ) → is_text_rest (take (suc j) (b ∷ c ∷ bs)) ≡ is_text_rest (take j (c ∷ bs))
        over zero = e
        over (suc j) = rw (h, d) refl
    plain false h e d one = λ j m. none j e (λ i. rw (h, d) refl)

    open_ : (t : Bool) → (b == 92) ≡ t → (b == 34) ≡ false → Fits is_text_rest bs (text_length bs) → Fits is_text_rest (c ∷ bs) (text_length (c ∷ bs)) →
        Fits is_text_rest (b ∷ c ∷ bs) (if t then (if is_some (escaped c) then longer 2 (text_length bs) else None) else if is_plain 34 b then longer 1 (text_length (c ∷ bs)) else None)
    open_ true d e two one = escape (is_some (escaped c)) refl e d two
    open_ false d e two one = plain (is_plain 34 b) refl e d one

    by : (t : Bool) → (b == 34) ≡ t → Fits is_text_rest bs (text_length bs) → Fits is_text_rest (c ∷ bs) (text_length (c ∷ bs)) → Fits is_text_rest (b ∷ c ∷ bs)
        (if t then Some 1 else if b == 92 then (if is_some (escaped c) then longer 2 (text_length bs) else None) else if is_plain 34 b then longer 1 (text_length (c ∷ bs)) else None)
    by true e two one = (omega arith, e, λ j l m. closed j e l)
    by false e two one = open_ (b == 92) refl e two one

-- A plain byte is no backslash.
plain_is_no_escape : (q b : ℕ) → is_plain q b ≡ true → (b == 92) ≡ true → ⊥
plain_is_no_escape q b e d = stuck (92 == q) (let P : ℕ → Type 0 = λ x. is_plain q x ≡ true in subst P (eqb-true b 92 d) e)
  where
    stuck : (t : Bool) → not (t || true) ≡ true → ⊥
    stuck true h = cc
    stuck false h = cc

-- A character after its opening quote.
pub fits_char : (bs : List ℕ) → Fits is_char_rest bs (char_length bs)
fits_char [] = λ j m. none j
  where
    none : (j : ℕ) → is_char_rest (take j []) ≡ false
    none zero = refl
    none (suc j) = refl
fits_char (b ∷ []) = λ j m. none j m
  where
    none : (j : ℕ) → j ≤ 1 → is_char_rest (take j (b ∷ [])) ≡ false
    none zero m = refl
    none (suc zero) m = refl
    none (suc (suc j)) m = absurd (omega arith)
fits_char (b ∷ c ∷ []) = by (is_plain 39 b && c == 39) refl
  where
    none : (j : ℕ) → (is_plain 39 b && c == 39) ≡ false → j ≤ 2 → is_char_rest (take j (b ∷ c ∷ [])) ≡ false
    none zero e m = refl
    none (suc zero) e m = refl
    none (suc (suc zero)) e m = e
    none (suc (suc (suc j))) e m = absurd (omega arith)

    by : (t : Bool) → (is_plain 39 b && c == 39) ≡ t → Fits is_char_rest (b ∷ c ∷ []) (if t then Some 2 else None)
    by true e = (omega arith, e, λ j l m. absurd (omega arith))
    by false e = λ j m. none j e m
fits_char (b ∷ c ∷ d ∷ bs) = by (is_plain 39 b && c == 39) refl
  where
    third : (t : Bool) → is_plain 39 b ≡ true → (b == 92) ≡ t → (t && (is_some (escaped c) && d == 39)) ≡ false
    third true p e = absurd (plain_is_no_escape 39 b p e)
    third false p e = refl

    first : (t u : Bool) → (t && u) ≡ true → t ≡ true
    first true u e = refl
    first false u e = cc

    more : (j : ℕ) → suc (suc (suc j)) ≤ suc (suc (suc (length bs))) → 0 < j → is_char_rest (b ∷ c ∷ d ∷ take j bs) ≡ false
    more zero m l = absurd (omega arith)
    more (suc j) m l = long bs (omega arith)
      where
        long : (xs : List ℕ) → suc j ≤ length xs → is_char_rest (b ∷ c ∷ d ∷ take (suc j) xs) ≡ false
        long [] m = absurd (omega arith)
        long (x ∷ xs) m = refl

    two : (j : ℕ) → (is_plain 39 b && c == 39) ≡ true → 2 < j → j ≤ suc (suc (suc (length bs))) → is_char_rest (take j (b ∷ c ∷ d ∷ bs)) ≡ false
    two zero e l m = absurd (omega arith)
    two (suc zero) e l m = absurd (omega arith)
    two (suc (suc zero)) e l m = absurd (omega arith)
    two (suc (suc (suc zero))) e l m = third (b == 92) (first (is_plain 39 b) (c == 39) e) refl
    two (suc (suc (suc (suc j)))) e l m = more (suc j) m (omega arith)

    none : (j : ℕ) → (is_plain 39 b && c == 39) ≡ false → (b == 92 && (is_some (escaped c) && d == 39)) ≡ false → j ≤ suc (suc (suc (length bs))) → is_char_rest (take j (b ∷ c ∷ d ∷ bs)) ≡ false
    none zero e f m = refl
    none (suc zero) e f m = refl
    none (suc (suc zero)) e f m = e
    none (suc (suc (suc zero))) e f m = f
    none (suc (suc (suc (suc j)))) e f m = more (suc j) m (omega arith)

    over : (j : ℕ) → 3 < j → j ≤ suc (suc (suc (length bs))) → is_char_rest (take j (b ∷ c ∷ d ∷ bs)) ≡ false
    over zero l m = absurd (omega arith)
    over (suc zero) l m = absurd (omega arith)
    over (suc (suc zero)) l m = absurd (omega arith)
    over (suc (suc (suc j))) l m = more j m (omega arith)

    three : (t : Bool) → (is_plain 39 b && c == 39) ≡ false → (b == 92 && (is_some (escaped c) && d == 39)) ≡ t → Fits is_char_rest (b ∷ c ∷ d ∷ bs) (if t then Some 3 else None)
    three true e f = (omega arith, f, λ j l m. over j l m)
    three false e f = λ j m. none j e f m

    by : (t : Bool) → (is_plain 39 b && c == 39) ≡ t → Fits is_char_rest (b ∷ c ∷ d ∷ bs) (if t then Some 2 else if b == 92 && (is_some (escaped c) && d == 39) then Some 3 else None)
    by true e = (omega arith, e, λ j l m. two j e l m)
    by false e = three (b == 92 && (is_some (escaped c) && d == 39)) e refl

-- A mark after its first byte.
pub fits_mark : (a : ℕ) (bs : List ℕ) → Fits (is_mark a) bs (mark_length a bs)
fits_mark a [] = by (is_single_mark a) refl
  where
    none : (j : ℕ) → is_single_mark a ≡ false → is_mark a (take j []) ≡ false
    none zero e = e
    none (suc j) e = e

    by : (t : Bool) → is_single_mark a ≡ t → Fits (is_mark a) [] (if t then Some 0 else None)
    by true e = (omega arith, e, λ j l m. absurd (omega arith))
    by false e = λ j m. none j e
fits_mark a (b ∷ bs) = by (is_double_mark a b) refl
  where
    long : (j : ℕ) → suc j ≤ length bs → is_mark a (b ∷ take (suc j) bs) ≡ false
    long j m = of bs m
      where
        of : (xs : List ℕ) → suc j ≤ length xs → is_mark a (b ∷ take (suc j) xs) ≡ false
        of [] m = absurd (omega arith)
        of (x ∷ xs) m = refl

    past : (j : ℕ) → 1 < j → j ≤ suc (length bs) → is_mark a (take j (b ∷ bs)) ≡ false
    past zero l m = absurd (omega arith)
    past (suc zero) l m = absurd (omega arith)
    past (suc (suc j)) l m = long j (omega arith)

    some : (j : ℕ) → is_double_mark a b ≡ false → 0 < j → j ≤ suc (length bs) → is_mark a (take j (b ∷ bs)) ≡ false
    some zero e l m = absurd (omega arith)
    some (suc zero) e l m = e
    some (suc (suc j)) e l m = long j (omega arith)

    none : (j : ℕ) → is_double_mark a b ≡ false → is_single_mark a ≡ false → j ≤ suc (length bs) → is_mark a (take j (b ∷ bs)) ≡ false
    none zero e f m = f
    none (suc j) e f m = some (suc j) e (omega arith) m

    one : (t : Bool) → is_double_mark a b ≡ false → is_single_mark a ≡ t → Fits (is_mark a) (b ∷ bs) (if t then Some 0 else None)
    one true e f = (omega arith, f, λ j l m. some j e l m)
    one false e f = λ j m. none j e f m

    by : (t : Bool) → is_double_mark a b ≡ t → Fits (is_mark a) (b ∷ bs) (if t then Some 1 else if is_single_mark a then Some 0 else None)
    by true e = (omega arith, e, λ j l m. past j l m)
    by false e = one (is_single_mark a) e refl
