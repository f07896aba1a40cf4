-- What stands after a name.
use Rattle.std.proofs.Common.{◌≡◌, ℕ, ◌+◌, ◌==◌, Bool, true, false, List, [], ◌∷◌, length, drop, refl, arith, subst, ap, one-add, length-drop, cond}
use Rattle.std.proofs.lemmas.Bool.{eqb-true}
use Rattle.std.specs.List.{prefix_len}
use Rattle.nx_base.specs.TextBytes.{is_word_byte}
use Rattle.nx_shtok.specs.Bytes.{newlines}
use Rattle.nx_shtok.specs.Views.{IsAfter}

-- No word byte is a newline.
not_newline : (b : ℕ) → is_word_byte b ≡ true → (b == 10) ≡ false
not_newline b h = by (b == 10) refl
  where
    by : (t : Bool) → (b == 10) ≡ t → t ≡ false
    by true e = let x : is_word_byte 10 ≡ true = subst (λ y. is_word_byte y ≡ true) (eqb-true b 10 e) h in cc
    by false e = refl

-- A name has no newline, so those of a text stand after it.
lines_after : (bs : List ℕ) → newlines bs ≡ newlines (drop (prefix_len is_word_byte bs) bs)
lines_after [] = refl
lines_after (b ∷ bs) = by (is_word_byte b) refl (lines_after bs)
  where
    by : (t : Bool) → is_word_byte b ≡ t → newlines bs ≡ newlines (drop (prefix_len is_word_byte bs) bs) → newlines (b ∷ bs) ≡ newlines (drop (cond t (1 + prefix_len is_word_byte bs) 0) (b ∷ bs))
    by true e h = rw (not_newline b e, one-add (prefix_len is_word_byte bs)) h
    by false e h = refl

-- What stands after a name.
pub after_name : (bs rest : List ℕ) (n : ℕ) → n ≡ prefix_len is_word_byte bs → rest ≡ drop n bs → IsAfter 0 rest bs
after_name bs rest n e r = record {
  lines = omega (arith, ap newlines r, ap (λ m. newlines (drop m bs)) e, lines_after bs);
  within = omega (arith, ap length r, length-drop n bs);
}
