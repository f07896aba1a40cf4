-- That frames are held can be shown in one way alone.
use Rattle.std.proofs.Common.{◌≡◌, ◌≢◌, ℕ, ◌-◌, ◌<◌, ◌≤◌, List, [], ◌∷◌, length, refl, ap, ◌∙◌, subst, arith}
use Rattle.std.proofs.Props.{props}
use Rattle.nx_frames.specs.declared.frames.Taken.{Taken}
use Rattle.nx_frames.specs.Chains.{address, frame_after, Each, AreOnce, AreApart, IsFrame}
use Rattle.nx_frames.specs.Stock.{Stock, Holds, frames_of}

each_prop : (P : ℕ → Type 0) → ((x : ℕ) → IsProp (P x)) → (xs : List ℕ) → IsProp (Each P xs)
each_prop P p [] u v = refl
each_prop P p (x ∷ xs) u v = ap (λ z. (z, u.1)) (p x u.0 v.0) ∙ ap (λ z. (v.0, z)) (each_prop P p xs u.1 v.1)

differ_prop : (x y : ℕ) → IsProp (y ≢ x)
differ_prop x y = hlevel props

less_prop : (n m : ℕ) → IsProp (n < m)
less_prop n m = hlevel props

same_prop : (n m : ℕ) → IsProp (n ≡ m)
same_prop n m = hlevel props

frame_same : (first count a n m : ℕ) → n ≡ m → (l : n < count) (e : a ≡ address first n) (k : m < count) (f : a ≡ address first m) → (let x : IsFrame first count a = (n, l, e) in let y : IsFrame first count a = (m, k, f) in x ≡ y)
frame_same first count a n m q = subst (λ j. (l : n < count) (e : a ≡ address first n) (k : j < count) (f : a ≡ address first j) → (let x : IsFrame first count a = (n, l, e) in let y : IsFrame first count a = (j, k, f) in x ≡ y)) q same
  where
    same : (l : n < count) (e : a ≡ address first n) (k : n < count) (f : a ≡ address first n) → (let x : IsFrame first count a = (n, l, e) in let y : IsFrame first count a = (n, k, f) in x ≡ y)
    same l e k f =
        let one : n < count → IsFrame first count a = λ z. (n, z, e) in
        let two : a ≡ address first n → IsFrame first count a = λ z. (n, k, z) in
        ap one (less_prop n count l k) ∙ ap two (same_prop a (address first n) e f)

frame_prop : (first count a : ℕ) → IsProp (IsFrame first count a)
frame_prop first count a u v = let x = u.2 in let y = v.2 in frame_same first count a u.0 v.0 (omega (arith, x, y)) u.1 u.2 v.1 v.2

once_prop : (xs : List ℕ) → IsProp (AreOnce xs)
once_prop [] u v = refl
once_prop (x ∷ xs) u v = ap (λ z. (z, u.1)) (each_prop (λ y. y ≢ x) (λ y. differ_prop x y) xs u.0 v.0) ∙ ap (λ z. (v.0, z)) (once_prop xs u.1 v.1)

pub apart_prop : (xs ys : List ℕ) → IsProp (AreApart xs ys)
apart_prop xs ys = each_prop (λ x. Each (λ y. y ≢ x) ys) (λ x. each_prop (λ y. y ≢ x) (λ y. differ_prop x y) ys) xs

last_prop : (s : Stock) (t : Taken) → IsProp (1 ≤ t.count → t.tail ≡ frame_after s.next t.head (t.count - 1))
last_prop s t = hlevel props

pub holds_prop : (s : Stock) (t : Taken) → IsProp (Holds s t)
holds_prop s t u v =
    let with_frames : Each (IsFrame s.first (length s.next)) (frames_of s t) → Holds s t = λ z. record { frames = z; once = u.once; apart = u.apart; last = u.last } in
    let with_once : AreOnce (frames_of s t) → Holds s t = λ z. record { frames = v.frames; once = z; apart = u.apart; last = u.last } in
    let with_apart : AreApart (frames_of s t) s.free → Holds s t = λ z. record { frames = v.frames; once = v.once; apart = z; last = u.last } in
    let with_last : (1 ≤ t.count → t.tail ≡ frame_after s.next t.head (t.count - 1)) → Holds s t = λ z. record { frames = v.frames; once = v.once; apart = v.apart; last = z } in
    ap with_frames (each_prop (IsFrame s.first (length s.next)) (frame_prop s.first (length s.next)) (frames_of s t) u.frames v.frames)
    ∙ ap with_once (once_prop (frames_of s t) u.once v.once)
    ∙ ap with_apart (apart_prop (frames_of s t) s.free u.apart v.apart)
    ∙ ap with_last (last_prop s t u.last v.last)
