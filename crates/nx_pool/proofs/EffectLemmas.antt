-- Effects on chains, one after another.
use Rattle.std.proofs.Common.{◌≡◌, ℕ, ◌<◌, List, [], ◌∷◌, ◌++◌, length, map, refl, ap, ◌∙◌, sym, append_assoc, replicate, zero, suc, arith}
use Rattle.std.specs.Prelude.{slice_index_or, Contains}
use Rattle.std.proofs.lemmas.List.{map-append}
use Rattle.nx_pool.specs.declared.chain.Chain.{Chain}
use Rattle.nx_pool.specs.Effects.{IsHeld, Same, Becomes, Comes}

pub Same-trans : (content content' content'' : Chain → List ℕ) (xs ys : List Chain) → Same content content' xs ys → Same content' content'' xs ys → Same content content'' xs ys
Same-trans content content' content'' xs ys a b = record { before = b.before ∙ a.before; after = b.after ∙ a.after }

pub Becomes-refl : (holds : List Chain → Type 0) (content : Chain → List ℕ) (c : Chain) → Becomes holds holds content content c c (content c)
Becomes-refl holds content c = record { held = λ xs ys h. h; others = λ xs ys h. record { before = refl; after = refl }; own = refl }

pub Becomes-trans : (holds holds' holds'' : List Chain → Type 0) (content content' content'' : Chain → List ℕ) (c c' c'' : Chain) (bs bs' : List ℕ) → Becomes holds holds' content content' c c' bs → Becomes holds' holds'' content' content'' c' c'' bs' → Becomes holds holds'' content content'' c c'' bs'
Becomes-trans holds holds' holds'' content content' content'' c c' c'' bs bs' a b = record {
  held = λ xs ys h. b.held xs ys (a.held xs ys h);
  others = λ xs ys h. Same-trans content content' content'' xs ys (a.others xs ys h) (b.others xs ys (a.held xs ys h));
  own = b.own;
}

-- other words for the bytes
pub Becomes-eq : (holds holds' : List Chain → Type 0) (content content' : Chain → List ℕ) (c c' : Chain) (bs bs' : List ℕ) → bs ≡ bs' → Becomes holds holds' content content' c c' bs → Becomes holds holds' content content' c c' bs'
Becomes-eq holds holds' content content' c c' bs bs' e a = record { held = a.held; others = a.others; own = a.own ∙ e }

pub still_held : (holds holds' : List Chain → Type 0) (content content' : Chain → List ℕ) (c c' : Chain) (bs : List ℕ) → IsHeld holds c → Becomes holds holds' content content' c c' bs → IsHeld holds' c'
still_held holds holds' content content' c c' bs h a = record { before = h.before; after = h.after; held = a.held h.before h.after h.held }

-- a new chain, and then other bytes in it
pub Comes-trans : (holds holds' holds'' : List Chain → Type 0) (content content' content'' : Chain → List ℕ) (c c' : Chain) (bs bs' : List ℕ) → Comes holds holds' content content' c bs → Becomes holds' holds'' content' content'' c c' bs' → Comes holds holds'' content content'' c' bs'
Comes-trans holds holds' holds'' content content' content'' c c' bs bs' a b = record {
  held = λ xs ys h. b.held xs ys (a.held xs ys h);
  others = λ xs ys h. Same-trans content content' content'' xs ys (a.others xs ys h) (b.others xs ys (a.held xs ys h));
  own = b.own;
}

pub replicate-more : (n x : ℕ) → replicate n x ++ x ∷ [] ≡ replicate (suc n) x
replicate-more zero x = refl
replicate-more (suc n) x = ap (λ xs. x ∷ xs) (replicate-more n x)

-- one zero more after some
pub zeros_more : (bs cs : List ℕ) (n m : ℕ) → cs ≡ bs ++ replicate n 0 → m ≡ suc n → cs ++ 0 ∷ [] ≡ bs ++ replicate m 0
zeros_more bs cs n m e k = ap (λ xs. xs ++ 0 ∷ []) e ∙ append_assoc bs (replicate n 0) (0 ∷ []) ∙ ap (λ xs. bs ++ xs) (replicate-more n 0) ∙ ap (λ q. bs ++ replicate q 0) (sym k)

-- a step of a loop that adds zeros
pub lengthen_step : (holds0 holds holds' : List Chain → Type 0) (content0 content content' : Chain → List ℕ) (c0 c c' : Chain) (base : List ℕ) (n n' : ℕ) → Becomes holds0 holds content0 content c0 c (base ++ replicate n 0) → Becomes holds holds' content content' c c' (content c ++ 0 ∷ []) → n' ≡ suc n → Becomes holds0 holds' content0 content' c0 c' (base ++ replicate n' 0)
lengthen_step holds0 holds holds' content0 content content' c0 c c' base n n' a b k =
    Becomes-eq _ _ _ _ _ _ _ _ (zeros_more base (content c) n n' a.own k) (Becomes-trans _ _ _ _ _ _ _ _ _ _ _ a b)

-- each of some chains that have the bytes that they had
pub kept_at : (content content' : Chain → List ℕ) (xs : List Chain) (c : Chain) (k : ℕ) → map content' xs ≡ map content xs → k < length xs → slice_index_or xs k c ≡ c → content' c ≡ content c
kept_at content content' [] c k same l is = absurd (omega arith)
kept_at content content' (x ∷ xs) c zero same l is = let here : x ≡ c = is in cc
kept_at content content' (x ∷ xs) c (suc k) same l is = let rest : map content' xs ≡ map content xs = cc in kept_at content content' xs c k rest (omega arith) is

pub others_kept : (content content' : Chain → List ℕ) (xs ys : List Chain) (c : Chain) → Same content content' xs ys → Contains (xs ++ ys) c → content' c ≡ content c
others_kept content content' xs ys c s (k, l, is) =
    let both : map content' (xs ++ ys) ≡ map content (xs ++ ys) = map-append content' xs ys ∙ ap (λ q. q ++ map content' ys) s.before ∙ ap (λ q. map content xs ++ q) s.after ∙ sym (map-append content xs ys) in
    kept_at content content' (xs ++ ys) c k both l is
