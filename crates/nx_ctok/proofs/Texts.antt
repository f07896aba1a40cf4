-- Where a text is closed.
use Rattle.std.proofs.Common.{◌≡◌, true, List, [], ◌∷◌, ℕ, refl}
use Rattle.std.specs.Prelude.{Some}
use Rattle.nx_ctok.specs.Scanning.{starts_with_quote, text_length}

-- At a quote a text is closed.
pub text_closed : (bs : List ℕ) → starts_with_quote bs ≡ true → text_length bs ≡ Some 1
unfolding text_length
text_closed [] e = cc
text_closed (b ∷ []) e = rw e refl
text_closed (b ∷ c ∷ bs) e = rw e refl
