-- The steps of one file more, and the last of some words.
use Rattle.std.proofs.Common.{◌≡◌, ℕ, zero, suc, ◌+◌, ◌-◌, ◌++◌, [], ◌∷◌, List, length, take, get_or, Bool, true, false, Some, None, bytes_eq, codes, refl, ap, sym, ◌∙◌, arith}
use Rattle.nx_shrun.specs.declared.step.Step.TheVariants as step
use Rattle.nx_shrun.specs.Texts.{all_but_last, last_of}
use Rattle.nx_shrun.specs.Table.{cats, in_brackets}

pub cats_more : (place count : ℕ) → (count ≡ 0 → ⊥) → cats place count ≡ step.Open place ∷ step.Read ∷ step.Close ∷ cats (place + 1) (count - 1)
cats_more place zero h = absurd (h refl)
cats_more place (suc n) h =
    let e : suc n - 1 ≡ n = omega arith in
    let f : place + 1 ≡ suc place = omega arith in
    rw (e, f) refl

all_but : (ws : List (List ℕ)) (at : ℕ) → length ws ≡ at + 1 → all_but_last ws ≡ take at ws
all_but [] at e = absurd (omega (arith, e))
all_but (a ∷ []) zero e = refl
all_but (a ∷ []) (suc at) e = absurd (omega (arith, e))
all_but (a ∷ b ∷ ws) zero e = absurd (omega (arith, e))
all_but (a ∷ b ∷ ws) (suc at) e = ap (λ r. a ∷ r) (all_but (b ∷ ws) at (omega (arith, e)))

last : (ws : List (List ℕ)) (at : ℕ) (w : List ℕ) → length ws ≡ at + 1 → get_or ws at w ≡ last_of ws
last [] at w e = absurd (omega (arith, e))
last (a ∷ []) zero w e = refl
last (a ∷ []) (suc at) w e = absurd (omega (arith, e))
last (a ∷ b ∷ ws) zero w e = absurd (omega (arith, e))
last (a ∷ b ∷ ws) (suc at) w e = last (b ∷ ws) at w (omega (arith, e))

-- a last word that is a bracket, or isn't
pub bracket_last : (ws : List (List ℕ)) (at : ℕ) (w : List ℕ) → (length ws ≡ 0 → ⊥) → at ≡ length ws - 1 → w ≡ get_or ws at w → true ≡ bytes_eq w (codes "]") → in_brackets ws ≡ Some (take at ws)
bracket_last ws at w ne e is h =
    let long : length ws ≡ at + 1 = omega (arith, ne, e) in
    let same : last_of ws ≡ w = sym (last ws at w long) ∙ sym is in
    rw (same, sym h, all_but ws at long) refl

pub other_last : (ws : List (List ℕ)) (at : ℕ) (w : List ℕ) → (length ws ≡ 0 → ⊥) → at ≡ length ws - 1 → w ≡ get_or ws at w → false ≡ bytes_eq w (codes "]") → in_brackets ws ≡ None
other_last ws at w ne e is h =
    let long : length ws ≡ at + 1 = omega (arith, ne, e) in
    let same : last_of ws ≡ w = sym (last ws at w long) ∙ sym is in
    rw (same, sym h) refl

pub no_bracket : (ws : List (List ℕ)) → length ws ≡ 0 → in_brackets ws ≡ None
no_bracket [] e = refl
no_bracket (w ∷ ws) e = absurd (omega (arith, e))
