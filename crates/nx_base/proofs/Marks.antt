-- The place of the first mark, byte by byte.
use Rattle.std.proofs.Common.{◌≡◌, ℕ, ◌+◌, ◌-◌, ◌≤◌, Bool, false, not, cond, List, [], ◌∷◌, length, take, drop, refl, ap, ◌∙◌, arith}
use Rattle.std.specs.Prelude.{◌==◌, slice_index}
use Rattle.std.proofs.lemmas.Grind.{common_steps}
use Rattle.std.specs.List.{position_or_len}

-- a byte that is no mark is one more before the first mark
pub mark_step : (mark place : ℕ) (bytes rest : List ℕ) → 1 ≤ length rest → (slice_index rest 0 == mark) ≡ false →
    position_or_len (λ b. b == mark) bytes ≡ place + position_or_len (λ b. b == mark) rest →
    position_or_len (λ b. b == mark) bytes ≡ place + 1 + position_or_len (λ b. b == mark) (take (length rest - 1) (drop 1 rest))
mark_step mark place bytes [] h f e = absurd (omega arith)
mark_step mark place bytes (x ∷ xs) h f e =
    let others = position_or_len (λ b. b == mark) xs in
    let whole : take (length (x ∷ xs) - 1) xs ≡ xs = grind (arith, common_steps) in
    let one : position_or_len (λ b. b == mark) (x ∷ xs) ≡ 1 + others = ap (λ t. cond (not t) (1 + others) 0) f in
    let sum : place + (1 + others) ≡ place + 1 + others = omega arith in
    rw whole (e ∙ ap (λ n. place + n) one ∙ sum)
