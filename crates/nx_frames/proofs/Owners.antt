-- All that is held, while frames are taken, given back and joined.
use Rattle.std.proofs.Common.{◌≡◌, ◌≢◌, ℕ, ◌+◌, ◌≤◌, ◌⊎◌, List, [], ◌∷◌, ◌++◌, sym, subst, arith, ⊎_elim, inl, inr}
use Rattle.std.proofs.lemmas.Bool.{cases_lt}
use Rattle.nx_frames.specs.declared.frames.Taken.{Taken}
use Rattle.nx_frames.specs.Chains.{Each, AreApart, IsFrame}
use Rattle.nx_frames.specs.Stock.{Stock, Holds, Keeps, KeepsOthers, Takes, IsApartFrom, AreHeld, frames_of}
use Rattle.nx_frames.proofs.Lists.{each_append, apart_sym}

pub no_byte : (first count a b : ℕ) → IsFrame first count a → IsFrame first count b → a ≢ b → (a + 4096 ≤ b) ⊎ (b + 4096 ≤ a)
no_byte first count a b f g ne =
    let x = f.2 in
    let y = g.2 in
    ⊎_elim
    (λ l. inl (omega (arith, x, y, l)))
    (λ l. inr (omega (arith, x, y, l, ne)))
    (cases_lt f.0 g.0)

-- each of these is kept
abbrev KeepsEach : Stock → Stock → List Taken → Type 0
KeepsEach old new [] = Unit {0}
KeepsEach old new (u ∷ us) = Keeps old new u × KeepsEach old new us

apart_still : (old new : Stock) (t : Taken) (us : List Taken) → frames_of new t ≡ frames_of old t → KeepsEach old new us → IsApartFrom old t us → IsApartFrom new t us
apart_still old new t [] e k h = tt
apart_still old new t (u ∷ us) e k h =
    (subst (λ xs. AreApart xs (frames_of new u)) (sym e) (subst (AreApart (frames_of old t)) (sym k.0.frames) h.0), apart_still old new t us e k.1 h.1)

held_still : (old new : Stock) (us : List Taken) → KeepsEach old new us → AreHeld old us → AreHeld new us
held_still old new [] k h = tt
held_still old new (u ∷ us) k h = (k.0.holds, apart_still old new u us k.0.frames k.1 h.1, held_still old new us k.1 h.2)

keeps_each : (old new : Stock) (t : Taken) (us : List Taken) → ((u : Taken) → Holds old u → Keeps old new u × AreApart (frames_of new u) (frames_of new t)) → AreHeld old us → KeepsEach old new us × IsApartFrom new t us
keeps_each old new t [] f h = (tt, tt)
keeps_each old new t (u ∷ us) f h =
    let a = f u h.0 in
    let r = keeps_each old new t us f h.2 in
    ((a.0, r.0), (apart_sym (frames_of new u) (frames_of new t) a.1, r.1))

pub taken_held : (old new : Stock) (ram after : List ℕ) (n : ℕ) (t : Taken) (held : List Taken) → Takes old new ram after n t → AreHeld old held → AreHeld new (t ∷ held)
taken_held old new ram after n t held k h =
    let r = keeps_each old new t held k.others h in
    (k.holds, r.1, held_still old new held r.0 h)

-- frames that none of these has
abbrev EachApart : Stock → List ℕ → List Taken → Type 0
EachApart s frames [] = Unit {0}
EachApart s frames (u ∷ us) = AreApart frames (frames_of s u) × EachApart s frames us

each_apart : (s : Stock) (t : Taken) (us : List Taken) → IsApartFrom s t us → EachApart s (frames_of s t) us
each_apart s t [] h = tt
each_apart s t (u ∷ us) h = (h.0, each_apart s t us h.1)

both_apart : (s : Stock) (xs ys : List ℕ) (us : List Taken) → EachApart s xs us → EachApart s ys us → EachApart s (xs ++ ys) us
both_apart s xs ys [] h k = tt
both_apart s xs ys (u ∷ us) h k = (each_append (λ x. Each (λ y. y ≢ x) (frames_of s u)) xs ys h.0 k.0, both_apart s xs ys us h.1 k.1)

joined_apart : (old new : Stock) (t : Taken) (frames : List ℕ) (us : List Taken) → frames_of new t ≡ frames → EachApart old frames us → KeepsEach old new us → IsApartFrom new t us
joined_apart old new t frames [] e h k = tt
joined_apart old new t frames (u ∷ us) e h k =
    (subst (λ xs. AreApart xs (frames_of new u)) (sym e) (subst (AreApart frames) (sym k.0.frames) h.0), joined_apart old new t frames us e h.1 k.1)

kept_by : (old new : Stock) (frames : List ℕ) (us : List Taken) → KeepsOthers old new frames → EachApart old frames us → AreHeld old us → KeepsEach old new us
kept_by old new frames [] k a h = tt
kept_by old new frames (u ∷ us) k a h = (k u h.0 a.0, kept_by old new frames us k a.1 h.2)

pub given_held : (old new : Stock) (t : Taken) (held : List Taken) → AreHeld old (t ∷ held) → KeepsOthers old new (frames_of old t) → AreHeld new held
given_held old new t held h k = held_still old new held (kept_by old new (frames_of old t) held k (each_apart old t held h.1) h.2) h.2

pub joined_held : (old new : Stock) (t more into : Taken) (held : List Taken) → AreHeld old (t ∷ more ∷ held) → Holds new into → frames_of new into ≡ frames_of old t ++ frames_of old more → KeepsOthers old new (frames_of old t ++ frames_of old more) → AreHeld new (into ∷ held)
joined_held old new t more into held h i e k =
    let a = both_apart old (frames_of old t) (frames_of old more) held (each_apart old t held h.1.1) (each_apart old more held h.2.1) in
    let r = kept_by old new (frames_of old t ++ frames_of old more) held k a h.2.2 in
    (i, joined_apart old new into (frames_of old t ++ frames_of old more) held e a r, held_still old new held r h.2.2)

-- the order of what is held
from_first : (s : Stock) (u t : Taken) (before after : List Taken) → IsApartFrom s u (before ++ t ∷ after) → AreApart (frames_of s u) (frames_of s t) × IsApartFrom s u (before ++ after)
from_first s u t [] after h = (h.0, h.1)
from_first s u t (b ∷ before) after h = let r = from_first s u t before after h.1 in (r.0, (h.0, r.1))

to_first : (s : Stock) (u t : Taken) (before after : List Taken) → AreApart (frames_of s u) (frames_of s t) → IsApartFrom s u (before ++ after) → IsApartFrom s u (before ++ t ∷ after)
to_first s u t [] after a h = (a, h)
to_first s u t (b ∷ before) after a h = (h.0, to_first s u t before after a h.1)

pub held_first : (s : Stock) (t : Taken) (before after : List Taken) → AreHeld s (before ++ t ∷ after) → AreHeld s (t ∷ before ++ after)
held_first s t [] after h = h
held_first s t (b ∷ before) after h =
    let r = held_first s t before after h.2 in
    let f = from_first s b t before after h.1 in
    (r.0, (apart_sym (frames_of s b) (frames_of s t) f.0, r.1), (h.0, f.1, r.2))

pub held_back : (s : Stock) (t : Taken) (before after : List Taken) → AreHeld s (t ∷ before ++ after) → AreHeld s (before ++ t ∷ after)
held_back s t [] after h = h
held_back s t (b ∷ before) after h =
    let r = h.2 in
    (r.0, to_first s b t before after (apart_sym (frames_of s t) (frames_of s b) h.1.0) r.1, held_back s t before after (h.0, h.1.1, r.2))
