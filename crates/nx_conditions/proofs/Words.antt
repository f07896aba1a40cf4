-- A word and what stands after it.
use Rattle.std.proofs.Common.{◌≡◌, ℕ, ◌+◌, ◌-◌, Bool, true, false, cond, List, [], ◌∷◌, length, take, drop, Some, refl, sym, ap, ◌∙◌, arith}
use Rattle.std.proofs.lemmas.Grind.{common_steps}
use Rattle.std.proofs.Math.Numerals.{one-add}
use Rattle.std.specs.List.{prefix_len, take_while}
use Rattle.nx_base.specs.TextBytes.{is_word_byte, without_leading}
use Rattle.nx_conditions.specs.declared.token.Token.{Token}
use Rattle.nx_conditions.specs.Tokens.{word_token, word_at}

-- What stands after the bytes that pass a test is what is left without them.
pub rest_of_word : (test : ℕ → Bool) (bytes : List ℕ) → drop (prefix_len test bytes) bytes ≡ without_leading test bytes
rest_of_word test [] = refl
rest_of_word test (b ∷ bs) = by (test b) (rest_of_word test bs)
  where
    by : (t : Bool) → drop (prefix_len test bs) bs ≡ without_leading test bs → drop (cond t (1 + prefix_len test bs) 0) (b ∷ bs) ≡ cond t (without_leading test bs) (b ∷ bs)
    by true h = ap (λ n. drop n (b ∷ bs)) (one-add (prefix_len test bs)) ∙ h
    by false h = refl

-- What is left after some bytes is all that is left.
all_left : (bytes : List ℕ) (n : ℕ) → take (length bytes - n) (drop n bytes) ≡ drop n bytes
all_left bytes n = grind (arith, common_steps)

-- The token of a word stands before what is left without the word.
pub word_found : (bytes : List ℕ) (count : ℕ) (t : Token) → count ≡ prefix_len is_word_byte bytes → Some t ≡ word_token (take count bytes) → word_at bytes ≡ Some (t, take (length bytes - count) (drop count bytes))
word_found bytes count t e h =
    let rest : take (length bytes - count) (drop count bytes) ≡ without_leading is_word_byte bytes = all_left bytes count ∙ ap (λ n. drop n bytes) e ∙ rest_of_word is_word_byte bytes in
    let found : word_token (take_while is_word_byte bytes) ≡ Some t = ap (λ n. word_token (take n bytes)) (sym e) ∙ sym h in
    rw (rest, found) refl
