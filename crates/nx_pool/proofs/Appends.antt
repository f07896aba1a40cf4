-- Bytes that are put after those of a chain, or into a new one, and all bytes of a chain.
use Rattle.std.proofs.Common.{◌≡◌, ℕ, ◌+◌, ◌≤◌, List, [], ◌++◌, length, take, drop, refl, sym, ap, ◌∙◌, arith, replicate, append-nil}
use Rattle.std.proofs.lemmas.List.{length-append, length-replicate, take_at, length-take-le, take-append-drop}
use Rattle.nx_base.specs.ByteLists.{put_bytes, get_bytes}
use Rattle.nx_base.proofs.ByteLemmas.{get_bytes-between}
use Rattle.nx_pool.specs.declared.chain.Chain.{Chain}
use Rattle.nx_pool.specs.Effects.{Becomes, Comes}
use Rattle.nx_pool.proofs.EffectLemmas.{Becomes-trans, Becomes-eq, Comes-trans}
use Rattle.nx_pool.proofs.PayloadLemmas.{drop-past}

-- put over the zeros after some bytes
pub put_bytes-after : (xs zs ys : List ℕ) (n : ℕ) → length xs ≡ n → length zs ≡ length ys → put_bytes (xs ++ zs) n ys ≡ xs ++ ys
unfolding put_bytes
put_bytes-after xs zs ys n e l =
    ap (λ q. q ++ ys ++ drop (n + length ys) (xs ++ zs)) (take_at xs zs n e)
    ∙ ap (λ q. xs ++ ys ++ q) (drop-past (xs ++ zs) (n + length ys) (omega (arith, length-append xs zs)))
    ∙ append-nil (xs ++ ys)

-- a chain grows by as many bytes as are then written there
pub appended : (holds holds' holds'' : List Chain → Type 0) (content content' content'' : Chain → List ℕ) (c c' : Chain) (at n : ℕ) (from : List ℕ)
    → length (content c) ≡ at → n ≡ length from
    → Becomes holds holds' content content' c c' (content c ++ replicate n 0)
    → Becomes holds' holds'' content' content'' c' c' (put_bytes (content' c') at from)
    → Becomes holds holds'' content content'' c c' (content c ++ from)
appended holds holds' holds'' content content' content'' c c' at n from long e a b =
    Becomes-eq _ _ _ _ _ _ _ _
    (ap (λ xs. put_bytes xs at from) a.own ∙ put_bytes-after (content c) (replicate n 0) from at long (length-replicate n 0 ∙ e))
    (Becomes-trans _ _ _ _ _ _ _ _ _ _ _ a b)

-- a new chain, and its bytes
pub stored : (holds holds' holds'' : List Chain → Type 0) (content content' content'' : Chain → List ℕ) (c : Chain) (n : ℕ) (from : List ℕ)
    → n ≡ length from
    → Comes holds holds' content content' c (replicate n 0)
    → Becomes holds' holds'' content' content'' c c (put_bytes (content' c) 0 from)
    → Comes holds holds'' content content'' c from
stored holds holds' holds'' content content' content'' c n from e a b =
    let t = Comes-trans _ _ _ _ _ _ _ _ _ _ a b in
    record { held = t.held; others = t.others; own = t.own ∙ ap (λ xs. put_bytes xs 0 from) a.own ∙ put_bytes-after [] (replicate n 0) from 0 refl (length-replicate n 0 ∙ e) }

pub get_bytes-first : (bs : List ℕ) (n : ℕ) → n ≤ length bs → get_bytes bs 0 n ≡ take n bs
get_bytes-first bs n l =
    ap (λ q. get_bytes q 0 n) (sym (take-append-drop n bs)) ∙ get_bytes-between [] (take n bs) (drop n bs) 0 n refl (sym (length-take-le n bs l))

pub get_bytes-all : (bs : List ℕ) (n : ℕ) → n ≡ length bs → get_bytes bs 0 n ≡ bs
get_bytes-all bs n e = ap (λ q. get_bytes q 0 n) (sym (append-nil bs)) ∙ get_bytes-between [] bs [] 0 n refl e
