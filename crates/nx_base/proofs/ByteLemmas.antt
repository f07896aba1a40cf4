-- Numbers as bytes and back, and parts of a list of bytes.
use Rattle.std.proofs.Common.{◌≡◌, ℕ, zero, suc, ◌+◌, ◌/◌, ◌^◌, ◌<◌, List, [], ◌∷◌, ◌++◌, length, refl, sym, ap, ◌∙◌, subst, arith, append_assoc}
use Rattle.std.specs.Prelude.{slice_index}
use Rattle.std.proofs.lemmas.List.{length-append, get_or_at}
use Rattle.std.proofs.lemmas.Nat.{div_below}
use Rattle.std.proofs.Math.Nat.{pow-suc}
use Rattle.nx_base.specs.ByteLists.{get_bytes, from_le, to_le}

pub length-to_le : (n x : ℕ) → length (to_le n x) ≡ n
unfolding to_le
length-to_le zero x = refl
length-to_le (suc n) x = ap suc (length-to_le n (x / 256))

pub from_le-to_le : (n x : ℕ) → x < 256 ^ n → from_le (to_le n x) ≡ x
unfolding from_le to_le
from_le-to_le zero x h = omega arith
from_le-to_le (suc n) x h =
    let q : x / 256 < 256 ^ n = grind (arith, pow-suc, div_below) in
    omega (arith, from_le-to_le n (x / 256) q)

pub from_le-to_le_word : (x : ℕ) → x < 2 ^ 32 → from_le (to_le 4 x) ≡ x
from_le-to_le_word x h = from_le-to_le 4 x h

-- what stands between a front and a back
pub get_bytes-between : (a b c : List ℕ) (at n : ℕ) → at ≡ length a → n ≡ length b → get_bytes (a ++ (b ++ c)) at n ≡ b
unfolding get_bytes
get_bytes-between a [] c at n e f = ap (get_bytes (a ++ c) at) f
get_bytes-between a (x ∷ b) c at n e f =
    let here : slice_index (a ++ (x ∷ (b ++ c))) at ≡ x = get_or_at a x (b ++ c) 0 at (sym e) in
    let moved : a ++ (x ∷ []) ++ (b ++ c) ≡ a ++ (x ∷ (b ++ c)) = append_assoc a (x ∷ []) (b ++ c) in
    let next : at + 1 ≡ length (a ++ (x ∷ [])) = omega (arith, e, length-append a (x ∷ [])) in
    let rest : get_bytes (a ++ (x ∷ (b ++ c))) (at + 1) (length b) ≡ b =
    subst (λ l. get_bytes l (at + 1) (length b) ≡ b) moved (get_bytes-between (a ++ (x ∷ [])) b c (at + 1) (length b) next refl) in
    ap (get_bytes (a ++ (x ∷ (b ++ c))) at) f ∙ ap (λ y. y ∷ get_bytes (a ++ (x ∷ (b ++ c))) (at + 1) (length b)) here ∙ ap (λ l. x ∷ l) rest
