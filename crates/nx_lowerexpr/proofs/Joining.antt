-- Code that was put before other code, part by part, is the code of the whole.
use Rattle.std.proofs.Common.{◌≡◌, ℕ, suc, ◌+◌, ◌-◌, List, [], ◌∷◌, ◌++◌, length, refl, sym, ap, ◌∙◌, arith, append_assoc, length-append}
use Rattle.nx_slot.specs.declared.op.SlotOp.{SlotOp}

pub deeper : (d : ℕ) → d + 1 ≡ suc d
deeper d = omega arith

pub join1 : (a a' t t' old k new all : List SlotOp) → k ≡ t' ++ old → new ≡ a' ++ k → a' ≡ a → t' ≡ t → all ≡ a ++ t → new ≡ all ++ old
join1 a a' t t' old k new all e f p q is =
    f ∙ ap (λ (l : List SlotOp). a' ++ l) e ∙ ap (λ (l : List SlotOp). l ++ (t' ++ old)) p ∙ ap (λ (l : List SlotOp). a ++ (l ++ old)) q ∙ sym (append_assoc a t old) ∙ ap (λ (l : List SlotOp). l ++ old) (sym is)

pub join2 : (a a' b b' t t' old k1 k2 new all : List SlotOp) → k1 ≡ t' ++ old → k2 ≡ b' ++ k1 → new ≡ a' ++ k2 → a' ≡ a → b' ≡ b → t' ≡ t → all ≡ a ++ (b ++ t) → new ≡ all ++ old
join2 a a' b b' t t' old k1 k2 new all e f g p q r is =
    join1 a a' (b ++ t) (b ++ t) old k2 new all (join1 b b' t t' old k1 k2 (b ++ t) e f q r refl) g p refl is

pub join3 : (a a' b b' x x' t t' old k1 k2 k3 new all : List SlotOp) → k1 ≡ t' ++ old → k2 ≡ x' ++ k1 → k3 ≡ b' ++ k2 → new ≡ a' ++ k3 → a' ≡ a → b' ≡ b → x' ≡ x → t' ≡ t → all ≡ a ++ (b ++ (x ++ t)) → new ≡ all ++ old
join3 a a' b b' x x' t t' old k1 k2 k3 new all e f g h p q r w is =
    join1 a a' (b ++ (x ++ t)) (b ++ (x ++ t)) old k3 new all (join2 b b' x x' t t' old k1 k2 k3 (b ++ (x ++ t)) e f g q r w refl) h p refl is

-- Two and three operations.
pub ops2 : (x y : SlotOp) (old k0 k1 : List SlotOp) → k0 ≡ y ∷ old → k1 ≡ x ∷ k0 → k1 ≡ (x ∷ y ∷ []) ++ old
ops2 x y old k0 k1 e f = f ∙ ap (λ (l : List SlotOp). x ∷ l) e

pub ops3 : (x y z : SlotOp) (old k0 k1 k2 : List SlotOp) → k0 ≡ z ∷ old → k1 ≡ y ∷ k0 → k2 ≡ x ∷ k1 → k2 ≡ (x ∷ y ∷ z ∷ []) ++ old
ops3 x y z old k0 k1 k2 e f g = g ∙ ap (λ (l : List SlotOp). x ∷ l) (ops2 y z old k0 k1 e f)

-- How many operations were put.
pub put_length : (b k0 k1 : List SlotOp) (m n : ℕ) → k1 ≡ b ++ k0 → m ≡ length k0 → n ≡ length k1 → n - m ≡ length b
put_length b k0 k1 m n e p q = let size = ap (λ (l : List SlotOp). length l) e ∙ length-append b k0 in omega (arith, p, q, size)

pub put_more : (b : List SlotOp) (x : SlotOp) (k0 k1 k2 : List SlotOp) (m n : ℕ) → k1 ≡ x ∷ k0 → k2 ≡ b ++ k1 → m ≡ length k0 → n ≡ length k2 → n - m ≡ length b + 1
put_more b x k0 k1 k2 m n e f p q =
    let one = ap (λ (l : List SlotOp). length l) e in
    let size = ap (λ (l : List SlotOp). length l) f ∙ length-append b k1 in
    omega (arith, p, q, one, size)

pub put_before : (b : List SlotOp) (x : SlotOp) (old k0 k1 : List SlotOp) → k0 ≡ b ++ old → k1 ≡ x ∷ k0 → k1 ≡ (x ∷ b) ++ old
put_before b x old k0 k1 e f = f ∙ ap (λ (l : List SlotOp). x ∷ l) e
