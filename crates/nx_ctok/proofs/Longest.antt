-- The longest match is the longest.
use Rattle.std.proofs.Common.{◌≡◌, ℕ, zero, suc, ◌<◌, ◌≤◌, nat_le, Bool, true, false, List, length, take, drop, refl, sym, ap, ◌∙◌, arith, subst}
use Rattle.std.proofs.lemmas.List.{length-take-le}
use Rattle.std.proofs.lemmas.Bool.{leb-true, le-leb}
use Rattle.std.specs.Option.{option_map}
use Rattle.std.specs.Prelude.{Option, None, Some, is_some, if◌then◌else◌}
use Rattle.nx_ctok.specs.declared.token.TokenKind.{TokenKind}
use Rattle.nx_ctok.specs.declared.token.Word.{Word}
use Rattle.nx_ctok.specs.Spellings.{kind_of}
use Rattle.nx_ctok.specs.Longest.{greatest, longest, word_at}

greatest_within : (test : ℕ → Bool) (n : ℕ) → greatest test n ≤ n
unfolding greatest
greatest_within test zero = omega arith
greatest_within test (suc n) = by (test (suc n)) (greatest_within test n)
  where
    by : (t : Bool) → greatest test n ≤ n → (if t then suc n else greatest test n) ≤ suc n
    by true h = omega arith
    by false h = omega arith

greatest_passes : (test : ℕ → Bool) (n : ℕ) → 0 < greatest test n → test (greatest test n) ≡ true
unfolding greatest
greatest_passes test zero h = absurd (omega arith)
greatest_passes test (suc n) h = by (test (suc n)) refl h (greatest_passes test n)
  where
    by : (t : Bool) → test (suc n) ≡ t → 0 < (if t then suc n else greatest test n) → (0 < greatest test n → test (greatest test n) ≡ true) → test (if t then suc n else greatest test n) ≡ true
    by true e h i = e
    by false e h i = i h

greatest_last : (test : ℕ → Bool) (n j : ℕ) → greatest test n < j → j ≤ n → test j ≡ false
unfolding greatest
greatest_last test zero j h l = absurd (omega arith)
greatest_last test (suc n) j h l = by (test (suc n)) refl h (greatest_last test n j)
  where
    top : test (suc n) ≡ false → (j ≤ n → test j ≡ false) → (j ≤ n → ⊥) → test j ≡ false
    top e i g = let s : j ≡ suc n = grind (arith, g) in subst (λ k. test k ≡ false) (sym s) e

    choose : (m : ℕ) → test (suc n) ≡ false → (j ≤ n → test j ≡ false) → test j ≡ false
    choose m e i = side (nat_le j n) refl
      where
        side : (t : Bool) → nat_le j n ≡ t → test j ≡ false
        side true h = i (leb-true j n h)
        side false h = top e i (λ g. let x : nat_le j n ≡ true = le-leb j n g in cc)

    by : (t : Bool) → test (suc n) ≡ t → (if t then suc n else greatest test n) < j → (greatest test n < j → j ≤ n → test j ≡ false) → test j ≡ false
    by true e h i = absurd (omega arith)
    by false e h i = choose n e (λ m. i h m)

is_none : {A : Type 0} (o : Option A) → is_some o ≡ false → o ≡ None
is_none None e = refl
is_none (Some x) e = cc

is_there : {A : Type 0} (o : Option A) → is_some o ≡ true → o ≡ None → ⊥
is_there None e f = cc
is_there (Some x) e f = cc

-- The token at a place.
pub token_is_longest : (bytes : List ℕ) (w : Word) → word_at bytes ≡ Some w → (n : ℕ) → length w.text < n → n ≤ length bytes → kind_of (take n bytes) ≡ None
unfolding word_at longest
token_is_longest bytes w e n h l = by (kind_of (take (longest bytes) bytes)) e
  where
    most : longest bytes ≤ length bytes
    most = greatest_within (λ m. is_some (kind_of (take m bytes))) (length bytes)

    by : (o : Option TokenKind) → option_map (λ k. let x : Word = record { kind = k; text = take (longest bytes) bytes; rest = drop (longest bytes) bytes } in x) o ≡ Some w → kind_of (take n bytes) ≡ None
    by None f = cc
    by (Some k) f =
        let v : Word = record { kind = k; text = take (longest bytes) bytes; rest = drop (longest bytes) bytes } in
        let s : v ≡ w = cc in
        let t : length w.text ≡ longest bytes = ap (λ (x : Word). length x.text) (sym s) ∙ length-take-le (longest bytes) bytes most in
        is_none (kind_of (take n bytes)) (greatest_last (λ m. is_some (kind_of (take m bytes))) (length bytes) n (omega (arith, t)) l)

-- A place without one.
pub no_token_there : (bytes : List ℕ) → word_at bytes ≡ None → (n : ℕ) → n ≤ length bytes → kind_of (take n bytes) ≡ None
unfolding word_at longest
no_token_there bytes e zero l = refl
no_token_there bytes e (suc n) l = by (kind_of (take (longest bytes) bytes)) refl e
  where
    zero_only : (m : ℕ) → (0 < m → ⊥) → m ≡ 0
    zero_only m g = grind (arith, g)

    by : (o : Option TokenKind) → kind_of (take (longest bytes) bytes) ≡ o → option_map (λ k. let x : Word = record { kind = k; text = take (longest bytes) bytes; rest = drop (longest bytes) bytes } in x) o ≡ None →
        kind_of (take (suc n) bytes) ≡ None
    by (Some k) h f = cc
    by None h f =
        let z : longest bytes ≡ 0 = zero_only (longest bytes) (λ p. is_there (kind_of (take (longest bytes) bytes)) (greatest_passes (λ m. is_some (kind_of (take m bytes))) (length bytes) p) h) in
        is_none (kind_of (take (suc n) bytes)) (greatest_last (λ m. is_some (kind_of (take m bytes))) (length bytes) (suc n) (omega (arith, z)) l)
