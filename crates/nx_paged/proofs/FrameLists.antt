-- Frames of a list, one of which gets used.
use Rattle.std.proofs.Common.{◌≡◌, ◌≢◌, ℕ, zero, suc, ◌+◌, ◌<◌, List, [], ◌∷◌, ◌++◌, length, take, drop, drop-cons, refl, sym, ap, ◌∙◌, subst, arith}
use Rattle.std.specs.Prelude.{slice_index}
use Rattle.nx_frames.specs.Chains as chains
use Rattle.nx_frames.specs.Chains.{AreOnce}
use Rattle.nx_paged.specs.Spans.{Each}

-- the frame at a place, and those before and after
pub each_at : (P : ℕ → Type 0) (xs : List ℕ) (i : ℕ) → i < length xs → Each P xs → P (slice_index xs i)
each_at P [] i h k = absurd (omega (arith, h))
each_at P (x ∷ xs) zero h k = k.0
each_at P (x ∷ xs) (suc i) h k = each_at P xs i (omega (arith, h)) k.1

pub drop_next : (xs : List ℕ) (i : ℕ) → i < length xs → drop i xs ≡ slice_index xs i ∷ drop (i + 1) xs
drop_next xs i h = let e : suc i ≡ i + 1 = omega arith in drop-cons xs i 0 h ∙ ap (λ k. slice_index xs i ∷ drop k xs) e

pub take_next : (xs : List ℕ) (i : ℕ) → i < length xs → take (i + 1) xs ≡ take i xs ++ slice_index xs i ∷ []
take_next xs i h = let e : i + 1 ≡ suc i = omega arith in ap (λ k. take k xs) e ∙ more xs i h
  where
    more : (xs : List ℕ) (i : ℕ) → i < length xs → take (suc i) xs ≡ take i xs ++ slice_index xs i ∷ []
    more [] i h = absurd (omega (arith, h))
    more (x ∷ xs) zero h = refl
    more (x ∷ xs) (suc i) h = ap (λ l. x ∷ l) (more xs i (omega (arith, h)))

each_nat_append : (P : ℕ → Type 0) (xs ys : List ℕ) → Each P xs → Each P ys → Each P (xs ++ ys)
each_nat_append P [] ys h k = k
each_nat_append P (x ∷ xs) ys h k = (h.0, each_nat_append P xs ys h.1 k)

pub each_left : (P : ℕ → Type 0) (xs ys : List ℕ) → Each P (xs ++ ys) → Each P xs
each_left P [] ys h = tt
each_left P (x ∷ xs) ys h = (h.0, each_left P xs ys h.1)

pub each_right : (P : ℕ → Type 0) (xs ys : List ℕ) → Each P (xs ++ ys) → Each P ys
each_right P [] ys h = h
each_right P (x ∷ xs) ys h = each_right P xs ys h.1

pub each_next : (P : ℕ → Type 0) (xs : List ℕ) (i : ℕ) → i < length xs → Each P (take i xs) → P (slice_index xs i) → Each P (take (i + 1) xs)
each_next P xs i h k p = subst (Each P) (sym (take_next xs i h)) (each_nat_append P (take i xs) (slice_index xs i ∷ []) k (p, tt))

pub each_map : (P Q : ℕ → Type 0) (xs : List ℕ) → ((x : ℕ) → P x → Q x) → Each P xs → Each Q xs
each_map P Q [] f h = tt
each_map P Q (x ∷ xs) f h = (f x h.0, each_map P Q xs f h.1)

pub each_both : (P Q R : ℕ → Type 0) (xs : List ℕ) → ((x : ℕ) → P x → Q x → R x) → Each P xs → Each Q xs → Each R xs
each_both P Q R [] f h k = tt
each_both P Q R (x ∷ xs) f h k = (f x h.0 k.0, each_both P Q R xs f h.1 k.1)

-- those after one are others
once_drop : (xs : List ℕ) (i : ℕ) → i < length xs → AreOnce xs → Each (λ y. y ≢ slice_index xs i) (drop (suc i) xs)
once_drop [] i h o = absurd (omega (arith, h))
once_drop (x ∷ xs) zero h o = to_each xs o.0
  where
    to_each : (ys : List ℕ) → chains.Each (λ y. y ≢ x) ys → Each (λ y. y ≢ x) ys
    to_each [] h = tt
    to_each (y ∷ ys) h = (h.0, to_each ys h.1)
once_drop (x ∷ xs) (suc i) h o = once_drop xs i (omega (arith, h)) o.1

pub once_after : (xs : List ℕ) (i : ℕ) → i < length xs → AreOnce xs → Each (λ y. y ≢ slice_index xs i) (drop (i + 1) xs)
once_after xs i h o = let e : suc i ≡ i + 1 = omega arith in subst (λ k. Each (λ y. y ≢ slice_index xs i) (drop k xs)) e (once_drop xs i h o)
