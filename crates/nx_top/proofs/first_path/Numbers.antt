-- A number is read exactly where it is spelled. nx_ctok will take its place.
use Rattle.std.proofs.Common.{◌≡◌, ◌≢◌, ◌⊎◌, ℕ, ◌+◌, ◌-◌, ◌*◌, ◌/◌, ◌%◌, ◌<◌, ◌≤◌, true, false, nat_le, nat_lt, ◌==◌, List, [], ◌∷◌, ◌++◌, Some, refl, sym, ap, subst, ◌∙◌, inl, inr, append_assoc, append-nil, decimal, arith}
use Rattle.std.proofs.lemmas.Bool.{leb-true, le-leb, eqb-true, eq-eqb, ltb-true, ltb-false}
use Rattle.std.proofs.lemmas.Bool.Decides.{nat_tests}
use Rattle.std.proofs.lemmas.Fmt.{decimal_digit, decimal_step}
use Rattle.nx_base.specs.TextBytes.{is_word_byte}
use Rattle.nx_top.specs.first.Program.{is_gap_byte, begins_word, ends_word}
use Rattle.nx_top.specs.first.ProgramReading.{begins_blank, is_digit, begins_digit, number_from, digits_at}
use Rattle.nx_top.proofs.first_path.Choices.{guard_some, guard_none, chosen, both, told}

digit_low : (b : ℕ) → is_digit b ≡ true → (48 ≤ b) × (b ≤ 57)
digit_low b e = let k = both (nat_le 48 b) (nat_le b 57) e in (leb-true 48 b k.0, leb-true b 57 k.1)

digit_true : (b : ℕ) → 48 ≤ b → b ≤ 57 → is_digit b ≡ true
digit_true b l h = rw (le-leb 48 b l, le-leb b 57 h) refl

-- the digits that go on with a number
record Goes (m : ℕ) (bytes : List ℕ) (x : ℕ × List ℕ) : Type 0 where
  digits : List ℕ
  is : bytes ≡ digits ++ x.1
  text : decimal x.0 ≡ decimal m ++ digits
  small : x.0 ≤ 255

ends : (m : ℕ) (bytes : List ℕ) (x : ℕ × List ℕ) → m ≤ 255 → Some (m, bytes) ≡ Some x → Goes m bytes x
ends m bytes x s e =
    let n : m ≡ x.0 = cc in
    let r : bytes ≡ x.1 = cc in
    record { digits = []; is = r; text = ap decimal (sym n) ∙ sym (append-nil (decimal m)); small = omega arith }

next_digit : (m b : ℕ) → 1 ≤ m → 48 ≤ b → b ≤ 57 → m * 10 + (b - 48) ≤ 255 → decimal (m * 10 + (b - 48)) ≡ decimal m ++ b ∷ []
next_digit m b some low high small =
    let n : ℕ = m * 10 + (b - 48) in
    let front : n / 10 ≡ m = omega arith in
    let end : 48 + n % 10 ≡ b = omega arith in
    decimal_step n (omega arith) (omega arith) ∙ (λ i. decimal (front i) ++ end i ∷ [])

goes : (m : ℕ) (bytes : List ℕ) (x : ℕ × List ℕ) → 1 ≤ m → m ≤ 255 → number_from m bytes ≡ Some x → Goes m bytes x
unfolding number_from
goes m [] x some small e = ends m [] x small e
goes m (b ∷ bs) x some small e =
    elim (chosen (is_digit b) _ _ _ e) [
      | inl goes_on ↦
          let d = digit_low b goes_on.0 in
          let g = guard_some (nat_le (m * 10 + (b - 48)) 255) _ _ goes_on.1 in
          let fits : m * 10 + (b - 48) ≤ 255 = leb-true _ _ g.0 in
          let r = goes (m * 10 + (b - 48)) bs x (omega arith) fits g.1 in
          record {
            digits = b ∷ r.digits;
            is = ap (λ l. b ∷ l) r.is;
            text = r.text ∙ ap (λ l. l ++ r.digits) (next_digit m b some d.0 d.1 fits) ∙ append_assoc (decimal m) (b ∷ []) r.digits;
            small = r.small;
          }
      | inr over ↦ ends m (b ∷ bs) x small over.1
    ]

pub digits_sound : (bytes : List ℕ) (x : ℕ × List ℕ) → digits_at bytes ≡ Some x → (bytes ≡ decimal x.0 ++ x.1) × (x.0 ≤ 255)
unfolding digits_at
digits_sound [] x e = absurd (cc)
digits_sound (b ∷ bs) x e =
    elim (chosen (b == 48) _ _ _ e) [
      | inl zeros ↦
          let k : b ≡ 48 = eqb-true b 48 zeros.0 in
          let g = guard_none (begins_digit bs) (Some (0, bs)) x zeros.1 in
          let n : 0 ≡ x.0 = cc in
          let r : bs ≡ x.1 = cc in
          ((λ i. k i ∷ r i) ∙ ap (λ l. l ++ x.1) (sym (decimal_digit 0 (omega arith)) ∙ ap decimal n), omega arith)
      | inr rest ↦
          let g = guard_some (is_digit b) (number_from (b - 48) bs) x rest.1 in
          let d = digit_low b g.0 in
          let no : b ≢ 48 = λ q. absurd (cc (rest.0, eq-eqb b 48 q)) in
          let r = goes (b - 48) bs x (omega arith) (omega arith) g.1 in
          let first : decimal (b - 48) ≡ b ∷ [] = decimal_digit (b - 48) (omega arith) ∙ ap (λ (y : ℕ). y ∷ []) (omega arith) in
          (ap (λ l. b ∷ l) r.is ∙ ap (λ l. l ++ x.1) (sym (r.text ∙ ap (λ l. l ++ r.digits) first)), r.small)
    ]

-- reading what is spelled

stops : (n : ℕ) (rest : List ℕ) → begins_digit rest ≡ false → number_from n rest ≡ Some (n, rest)
unfolding number_from
stops n [] e = refl
stops n (b ∷ bs) e = rw e refl

step : (m d : ℕ) (bs : List ℕ) → d < 10 → m * 10 + d ≤ 255 → number_from m ((48 + d) ∷ bs) ≡ number_from (m * 10 + d) bs
unfolding number_from
step m d bs digit small =
    let k : 48 + d - 48 ≡ d = omega arith in
    rw (digit_true (48 + d) (omega arith) (omega arith), k, le-leb (m * 10 + d) 255 small) refl

first : (d : ℕ) (bs : List ℕ) → 0 < d → d < 10 → digits_at ((48 + d) ∷ bs) ≡ number_from d bs
unfolding digits_at
first d bs some digit =
    let k : 48 + d - 48 ≡ d = omega arith in
    let no : (48 + d == 48) ≡ false = grind (arith, nat_tests) in
    rw (no, digit_true (48 + d) (omega arith) (omega arith), k) refl

two : (n : ℕ) → 10 ≤ n → n < 100 → decimal n ≡ (48 + n / 10) ∷ (48 + n % 10) ∷ []
two n low high = decimal_step n low (omega arith) ∙ ap (λ l. l ++ (48 + n % 10) ∷ []) (decimal_digit (n / 10) (omega arith))

three : (n : ℕ) → 100 ≤ n → n ≤ 255 → decimal n ≡ (48 + n / 10 / 10) ∷ (48 + n / 10 % 10) ∷ (48 + n % 10) ∷ []
three n low high = decimal_step n (omega arith) (omega arith) ∙ ap (λ l. l ++ (48 + n % 10) ∷ []) (two (n / 10) (omega arith) (omega arith))

zero_whole : (rest : List ℕ) → begins_digit rest ≡ false → digits_at (decimal 0 ++ rest) ≡ Some (0, rest)
unfolding digits_at
zero_whole rest e = rw (decimal_digit 0 (omega arith), e) refl

two_whole : (n : ℕ) (rest : List ℕ) → 10 ≤ n → n < 100 → digits_at ((48 + n / 10) ∷ (48 + n % 10) ∷ rest) ≡ number_from n rest
two_whole n rest low high =
    let k : n / 10 * 10 + n % 10 ≡ n = omega arith in
    first (n / 10) _ (omega arith) (omega arith) ∙ step (n / 10) (n % 10) rest (omega arith) (omega arith) ∙ ap (λ (y : ℕ). number_from y rest) k

three_whole : (n : ℕ) (rest : List ℕ) → 100 ≤ n → n ≤ 255 → digits_at ((48 + n / 10 / 10) ∷ (48 + n / 10 % 10) ∷ (48 + n % 10) ∷ rest) ≡ number_from n rest
three_whole n rest low high =
    let k : n / 10 * 10 + n % 10 ≡ n = omega arith in
    two_whole (n / 10) ((48 + n % 10) ∷ rest) (omega arith) (omega arith) ∙ step (n / 10) (n % 10) rest (omega arith) (omega arith) ∙ ap (λ (y : ℕ). number_from y rest) k

-- how many digits a number has
sizes : (n : ℕ) → (n ≡ 0) ⊎ (((0 < n) × (n < 10)) ⊎ (((10 ≤ n) × (n < 100)) ⊎ (100 ≤ n)))
sizes n = elim (told (nat_lt n 1)) [
  | inl a ↦ let l : n < 1 = ltb-true n 1 a in inl (omega arith)
  | inr a ↦ let l : 1 ≤ n = ltb-false n 1 a in elim (told (nat_lt n 10)) [
    | inl b ↦ inr (inl (omega arith, ltb-true n 10 b))
    | inr b ↦ let m : 10 ≤ n = ltb-false n 10 b in elim (told (nat_lt n 100)) [
      | inl d ↦ inr (inr (inl (m, ltb-true n 100 d)))
      | inr d ↦ inr (inr (inr (ltb-false n 100 d)))
    ]
  ]
]

pub digits_whole : (n : ℕ) (rest : List ℕ) → n ≤ 255 → begins_digit rest ≡ false → digits_at (decimal n ++ rest) ≡ Some (n, rest)
digits_whole n rest small e = elim (sizes n) [
  | inl zeros ↦ subst (λ (y : ℕ). digits_at (decimal y ++ rest) ≡ Some (y, rest)) (sym zeros) (zero_whole rest e)
  | inr some ↦ elim some [
    | inl one ↦ rw (decimal_digit n one.1) (first n rest one.0 one.1 ∙ stops n rest e)
    | inr more ↦ elim more [
      | inl two_ ↦ rw (two n two_.0 two_.1) (two_whole n rest two_.0 two_.1 ∙ stops n rest e)
      | inr many ↦ rw (three n many small) (three_whole n rest many small ∙ stops n rest e)
    ]
  ]
]

-- a number's text begins and ends a word, and has no blank before it
pub record Digits (n : ℕ) : Type 0 where
  pub begins : begins_word (decimal n) ≡ true
  pub ends : ends_word (decimal n) ≡ true
  pub plain : (rest : List ℕ) → begins_blank (decimal n ++ rest) ≡ false

digit_word : (d : ℕ) → d < 10 → is_word_byte (48 + d) ≡ true
digit_word d h = grind (arith, nat_tests, le-leb)

digit_ink : (d : ℕ) → is_gap_byte (48 + d) ≡ false
digit_ink d = grind (arith, nat_tests)

begun : (n d : ℕ) (ds : List ℕ) → decimal n ≡ (48 + d) ∷ ds → d < 10 → ends_word ((48 + d) ∷ ds) ≡ true → Digits n
begun n d ds e h t = record { begins = rw e (digit_word d h); ends = rw e t; plain = λ rest. rw e (digit_ink d) }

pub digits_of : (n : ℕ) → n ≤ 255 → Digits n
digits_of n small = elim (sizes n) [
  | inl zeros ↦ begun n 0 [] (ap decimal zeros ∙ decimal_digit 0 (omega arith)) (omega arith) refl
  | inr some ↦ elim some [
    | inl one ↦ begun n n [] (decimal_digit n one.1) one.1 (digit_word n one.1)
    | inr more ↦ elim more [
      | inl two_ ↦ begun n (n / 10) _ (two n two_.0 two_.1) (omega arith) (digit_word (n % 10) (omega arith))
      | inr many ↦ begun n (n / 10 / 10) _ (three n many small) (omega arith) (digit_word (n % 10) (omega arith))
    ]
  ]
]
