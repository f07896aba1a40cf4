-- Texts in quotes, byte by byte.
use Rattle.std.proofs.Common.{◌≡◌, ◌≢◌, ℕ, eqb, Bool, true, false, not, ◌&&◌, true≢false, List, [], ◌∷◌, ◌++◌, Option, None, Some, refl, ap, append_assoc}
use Rattle.std.proofs.lemmas.Bool.{ne_eqb}
use Rattle.nx_config.specs.Quoted.{before, quoted}

-- one more byte before a text
pub before_push : (xs : List ℕ) (b : ℕ) (o : Option (List ℕ)) → before (xs ++ b ∷ []) o ≡ before xs (before (b ∷ []) o)
before_push xs b None = refl
before_push xs b (Some ys) = ap Some (append_assoc xs (b ∷ []) ys)

-- a byte that is no quote and no backslash stands for itself
pub plain_byte : (new old : List ℕ) (escaped : Bool) (b : ℕ) (rest : List ℕ) → escaped ≡ false → b ≢ 92 → (not escaped && eqb b 34) ≡ false
    → new ≡ old ++ b ∷ [] → before new (quoted false rest) ≡ before old (quoted escaped (b ∷ rest))
plain_byte new old true b rest e ne inside is = absurd (true≢false e)
plain_byte new old false b rest e ne inside is = rw (is, ne_eqb b 92 ne, inside) (before_push old b (quoted false rest))
