-- Where the bytes of an object lie in a view.
use Rattle.std.proofs.Common.{◌≡◌, ℕ, ◌+◌, ◌%◌, ◌^◌, ◌<◌, ◌≤◌, ◌⊎◌, inl, inr, List, ◌++◌, length, take, drop, Bool, true, false, refl, sym, ap, ◌∙◌, arith}
use Rattle.std.specs.Prelude.{◌==◌, ◌&&◌, ◌||◌, not, nat_le}
use Rattle.std.proofs.lemmas.Bool.Decides.{nat_tests}
use Rattle.std.proofs.lemmas.List.{take-append-drop, length-take-le, length-drop}
use Rattle.nx_base.specs.ByteLists.{get_bytes}
use Rattle.nx_base.proofs.ByteLemmas.{get_bytes-between}
use Rattle.nx_base.specs.Views.{View}
use Rattle.nx_base.specs.Ranges.{Lies}
use Rattle.nx_slot.specs.Objects.{Pointer, Object, object_of}
use Rattle.nx_slot.specs.Calls.{from_place, lies_in}
use Rattle.nx_shown.specs.Bytes.{Bytes}
use Rattle.nx_shown.specs.Places.{Place, IsPlace, Sees}
use Rattle.nx_linked.specs.Linked.{Program}
use Rattle.nx_linked.specs.Meant.{Bases, size_of, LivesAt, Means, AreShown}

-- Bytes at an address lie in a part that the view shows.
pub record Lain (v : View) (b : Bytes) (at n : ℕ) (fixed : Bool) : Type 0 where
  pub low : ℕ
  pub top : ℕ
  pub written : Bool
  pub lies : Lies v.windows written low top b
  pub from : low ≤ at
  pub to : at + n ≤ top
  pub ends : top ≤ 2 ^ 32
  pub may : fixed ≡ false → written ≡ true

not_both : (q : Bool) → q ≡ true → q ≡ false → ⊥
not_both true e f = absurd cc
not_both false e f = absurd cc

pub lain : (e : Place) (v : View) (b : Bytes) (x : Object) (at : ℕ) → IsPlace e → Sees e v b → 1 ≤ length x.bytes → LivesAt e at x → Lain v b at (length x.bytes) x.fixed
lain e v b x at p s some (inl (inl m)) = by_part s.stack
  where
    by_part : (e.top ≤ e.low) ⊎ Lies v.windows true e.low e.top b → Lain v b at (length x.bytes) x.fixed
    by_part (inl none) = absurd (let m0 = m.0 in let m1 = m.1 in omega (arith, none, m0, m1, some))
    by_part (inr l) = let f = p.fits in record { low = e.low; top = e.top; written = true; lies = l; from = m.0; to = m.1; ends = omega (arith, f); may = λ q. refl }
lain e v b x at p s some (inl (inr m)) = by_part s.globals
  where
    by_part : (e.data_top ≤ e.data_low) ⊎ Lies v.windows true e.data_low e.data_top b → Lain v b at (length x.bytes) x.fixed
    by_part (inl none) = absurd (let m0 = m.0 in let m1 = m.1 in omega (arith, none, m0, m1, some))
    by_part (inr l) = record { low = e.data_low; top = e.data_top; written = true; lies = l; from = m.0; to = m.1; ends = p.data_fits; may = λ q. refl }
lain e v b x at p s some (inr m) = by_part s.literals
  where
    by_part : (e.fixed_top ≤ e.fixed_low) ⊎ Lies v.windows false e.fixed_low e.fixed_top b → Lain v b at (length x.bytes) x.fixed
    by_part (inl none) = absurd (let m0 = m.0 in let m1 = m.1 in omega (arith, none, m0, m1, some))
    by_part (inr l) = record { low = e.fixed_low; top = e.fixed_top; written = false; lies = l; from = m.0; to = m.1; ends = p.fixed_fits; may = λ q. absurd (not_both x.fixed m.2 q) }

pointer_at : (w x y l : ℕ) → w ≡ (x + y) % 2 ^ 32 → x + l ≤ 2 ^ 32 → y < l → w ≡ x + y
pointer_at w x y l e f h = omega (arith, e, f, h)

or_second : (x y : Bool) → x ≡ false → (x || y) ≡ true → y ≡ true
or_second true y e h = absurd cc
or_second false y e h = h

and_parts : (x y : Bool) → (x && y) ≡ true → (x ≡ true) × (y ≡ true)
and_parts true y h = (refl, h)
and_parts false y h = absurd cc

le_is : (x y : ℕ) → nat_le x y ≡ true → x ≤ y
le_is x y e = grind (arith, nat_tests)

not_zero : (n : ℕ) → 1 ≤ n → (n == 0) ≡ false
not_zero n h = grind (arith, nat_tests)

pub zero_is : (n : ℕ) → (n == 0) ≡ true → n ≡ 0
zero_is n e = grind (arith, nat_tests)

pub pointer_lies : (os : List Object) (written : Bool) (o p n : ℕ) → 1 ≤ n → lies_in os written (Pointer o p) n ≡ true → (from_place (object_of os o) p + n ≤ size_of os o) × (not (written && (object_of os o).fixed) ≡ true)
unfolding lies_in
pointer_lies os written o p n some h =
    let k = or_second (n == 0) (nat_le (from_place (object_of os o) p + n) (size_of os o) && not (written && (object_of os o).fixed)) (not_zero n some) h in
    let both = and_parts (nat_le (from_place (object_of os o) p + n) (size_of os o)) (not (written && (object_of os o).fixed)) k in
    (le_is (from_place (object_of os o) p + n) (size_of os o) both.0, both.1)

pub free_is : (f : Bool) → not (true && f) ≡ true → f ≡ false
free_is true e = absurd cc
free_is false e = refl

-- The address of a place of an object, whose bytes lie there.
pub record Led (v : View) (b : Bytes) (base : Bases) (os : List Object) (o y w n : ℕ) : Type 0 where
  pub lain : Lain v b (base o) (size_of os o) (object_of os o).fixed
  pub at : w ≡ base o + y
  pub within : y + n ≤ size_of os o

pub led : (c : Program) (v : View) (b : Bytes) (base : Bases) (os : List Object) → IsPlace c.place → Sees c.place v b → AreShown c base os b → (o p w n : ℕ) → 1 ≤ n → from_place (object_of os o) p + n ≤ size_of os o → Means c base os (Pointer o p) w → Led v b base os o (from_place (object_of os o) p) w n
led c v b base os place sees shown o p w n some h m =
    let y = from_place (object_of os o) p in
    let there : 1 ≤ size_of os o = omega (arith, h, some) in
    let l = lain c.place v b (object_of os o) (base o) place sees there (shown.lives o there) in
    let to = l.to in let ends = l.ends in
    record { lain = l; at = pointer_at w (base o) y (size_of os o) m.1 (omega (arith, to, ends)) (omega (arith, h, some)); within = h }

-- The first bytes of a list from a place on.
pub first_bytes : (bs : List ℕ) (at n : ℕ) → at + n ≤ length bs → take n (drop at bs) ≡ get_bytes bs at n
first_bytes bs at n h =
    let d = length-drop at bs in
    let whole : take at bs ++ (take n (drop at bs) ++ drop n (drop at bs)) ≡ bs = ap (λ l. take at bs ++ l) (take-append-drop n (drop at bs)) ∙ take-append-drop at bs in
    let k = length-take-le at bs (omega (arith, h)) in
    let m = length-take-le n (drop at bs) (omega (arith, h, d)) in
    sym (get_bytes-between (take at bs) (take n (drop at bs)) (drop n (drop at bs)) at n (sym k) (sym m)) ∙ ap (λ l. get_bytes l at n) whole
