use Rattle.std.proofs.Common.{◌≡◌, ◌∙◌, ℕ, suc, ◌-◌, ◌≤◌, List, [], ◌∷◌, length, get_or, refl, arith}
use Rattle.nx_base.specs.TextBytes.{is_word_byte}
use Rattle.nx_top.specs.first.Program.{ends_word}
use Rattle.nx_top.proofs.first.tokens.ends_word.Goals as goal

last : (b : ℕ) (bs : List ℕ) → is_word_byte (get_or (b ∷ bs) (length bs) 0) ≡ ends_word (b ∷ bs)
last b [] = refl
last b (c ∷ bs) = last c bs

at_end : (bs : List ℕ) → 1 ≤ length bs → is_word_byte (get_or bs (length bs - 1) 0) ≡ ends_word bs
at_end [] h = absurd (omega arith)
at_end (b ∷ bs) h = let e : suc (length bs) - 1 ≡ length bs = omega arith in rw e (last b bs)

pub returns-in-len1-up : goal.returns-in-len1-up
returns-in-len1-up c = c.is_word_byte.ensures ∙ at_end _ c.in-len1-up.len_at_least
