-- The words that a command is handed.
use Rattle.std.proofs.Common.{◌≡◌, ℕ, zero, suc, ◌+◌, ◌≤◌, ◌<◌, List, [], ◌∷◌, length, take, get_or, refl, sym, ap, subst, arith}
use Rattle.nx_shrun.specs.Texts.{all_but_last, last_of}
use Rattle.nx_shell.specs.Kept.{AreKept}

pub front_is : (ws : List (List ℕ)) (n : ℕ) → length ws ≡ n + 1 → take n ws ≡ all_but_last ws
front_is [] n e = absurd (omega (arith, e))
front_is (w ∷ []) n e = let z : n ≡ 0 = omega (arith, e) in rw z refl
front_is (w ∷ v ∷ ws) zero e = absurd (omega (arith, e))
front_is (w ∷ v ∷ ws) (suc n) e = ap (λ us. w ∷ us) (front_is (v ∷ ws) n (omega (arith, e)))

pub last_is : (ws : List (List ℕ)) (n : ℕ) (w : List ℕ) → length ws ≡ n + 1 → w ≡ get_or ws n w → w ≡ last_of ws
last_is [] n w e g = absurd (omega (arith, e))
last_is (u ∷ []) zero w e g = g
last_is (u ∷ []) (suc n) w e g = absurd (omega (arith, e))
last_is (u ∷ v ∷ ws) zero w e g = absurd (omega (arith, e))
last_is (u ∷ v ∷ ws) (suc n) w e g = last_is (v ∷ ws) n w (omega (arith, e)) g

pub front_kept : (ws : List (List ℕ)) (n : ℕ) → AreKept ws → AreKept (take n ws)
front_kept ws zero h place = omega arith
front_kept [] (suc n) h place = omega arith
front_kept (w ∷ ws) (suc n) h zero = h 0
front_kept (w ∷ ws) (suc n) h (suc place) = front_kept ws n (λ p. h (suc p)) place

kept_at : (ws : List (List ℕ)) (n : ℕ) (w : List ℕ) → AreKept ws → n < length ws → w ≡ get_or ws n w → length w ≤ 256
kept_at [] n w h l g = absurd (omega (arith, l))
kept_at (v ∷ ws) zero w h l g = subst (λ (x : List ℕ). length x ≤ 256) (sym g) (h 0)
kept_at (v ∷ ws) (suc n) w h l g = kept_at ws n w (λ p. h (suc p)) (omega (arith, l)) g

pub last_le : (ws : List (List ℕ)) (n : ℕ) (w : List ℕ) → AreKept ws → n < length ws → w ≡ get_or ws n w → length w ≤ 4096
last_le ws n w h l g = omega (arith, kept_at ws n w h l g)

pub front_few : (ws : List (List ℕ)) (n : ℕ) → length (take n ws) ≤ length ws
front_few ws zero = omega arith
front_few [] (suc n) = omega arith
front_few (w ∷ ws) (suc n) = omega (arith, front_few ws n)
