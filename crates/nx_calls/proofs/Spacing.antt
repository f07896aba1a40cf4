-- The words of a part, byte by byte.
use Rattle.std.proofs.Common.{◌≡◌, ℕ, Bool, true, false, cond, List, [], ◌∷◌, ◌++◌, refl, sym, ap, ◌∙◌}
use Rattle.std.proofs.lemmas.List.{append-nil}
use Rattle.std.specs.List.{onto_first, join_with_byte}
use Rattle.nx_base.specs.TextBytes.{is_line_blank, without_leading}
use Rattle.nx_calls.specs.Types.{filled, between_blanks, spaced, added}

-- a blank ends a text and adds nothing
pub added_blank : (gap : Bool) (b : ℕ) (rest : List ℕ) → is_line_blank b ≡ true → added true (between_blanks rest) ≡ added gap (between_blanks (b ∷ rest))
added_blank true b rest e = rw e refl
added_blank false b rest e = rw e refl

-- another byte goes to the word that it begins, after a space where a blank stood before it
onto_gap : (b : ℕ) (parts : List (List ℕ)) → 32 ∷ b ∷ added false parts ≡ added true (onto_first b parts)
onto_gap b [] = refl
onto_gap b (part ∷ parts) = refl

onto_text : (b : ℕ) (parts : List (List ℕ)) → b ∷ added false parts ≡ added false (onto_first b parts)
onto_text b [] = refl
onto_text b (part ∷ parts) = refl

split_byte : (b : ℕ) (rest : List ℕ) → is_line_blank b ≡ false → between_blanks (b ∷ rest) ≡ onto_first b (between_blanks rest)
split_byte b rest e = rw e refl

pub added_after_gap : (b : ℕ) (rest : List ℕ) → is_line_blank b ≡ false → 32 ∷ b ∷ added false (between_blanks rest) ≡ added true (between_blanks (b ∷ rest))
added_after_gap b rest e = onto_gap b (between_blanks rest) ∙ sym (ap (added true) (split_byte b rest e))

pub added_after_text : (b : ℕ) (rest : List ℕ) → is_line_blank b ≡ false → b ∷ added false (between_blanks rest) ≡ added false (between_blanks (b ∷ rest))
added_after_text b rest e = onto_text b (between_blanks rest) ∙ sym (ap (added false) (split_byte b rest e))

-- joined by spaces, each but the first stands after a space
join_spaced : (part : List ℕ) (parts : List (List ℕ)) → part ++ spaced parts ≡ join_with_byte 32 (part ∷ parts)
join_spaced part [] = append-nil part
join_spaced part (next ∷ parts) = ap (λ xs. part ++ 32 ∷ xs) (join_spaced next parts)

onto_join : (b : ℕ) (parts : List (List ℕ)) → added false (onto_first b parts) ≡ join_with_byte 32 (filled (onto_first b parts))
onto_join b [] = join_spaced (b ∷ []) []
onto_join b (part ∷ parts) = join_spaced (b ∷ part) (filled parts)

-- from the first byte that is no blank, the words are joined by single spaces
pub trimmed_words : (bytes : List ℕ) → added false (between_blanks (without_leading is_line_blank bytes)) ≡ join_with_byte 32 (filled (between_blanks bytes))
trimmed_words [] = refl
trimmed_words (b ∷ bytes) = by (is_line_blank b) refl (trimmed_words bytes)
  where
    by : (t : Bool) → is_line_blank b ≡ t → added false (between_blanks (without_leading is_line_blank bytes)) ≡ join_with_byte 32 (filled (between_blanks bytes)) →
        added false (between_blanks (cond t (without_leading is_line_blank bytes) (b ∷ bytes))) ≡ join_with_byte 32 (filled (cond t ([] ∷ between_blanks bytes) (onto_first b (between_blanks bytes))))
    by true e h = h
    by false e h = ap (added false) (split_byte b bytes e) ∙ onto_join b (between_blanks bytes)
