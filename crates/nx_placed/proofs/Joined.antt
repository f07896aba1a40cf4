-- What a view shows of a program: its text, a thread's stack, globals and literals.
use Rattle.std.proofs.Common.{◌≡◌, ℕ, zero, suc, ◌+◌, ◌-◌, ◌<◌, ◌≤◌, ◌⊎◌, inl, inr, ⊎_elim, List, [], ◌∷◌, ◌++◌, length, drop, Bool, true, false, Ok, refl, sym, ap, ◌∙◌, subst, arith, length-append}
use Rattle.std.specs.Prelude.{◌&&◌, nat_le, nat_lt, if◌then◌else◌, slice_index, Result, get_or}
use Rattle.std.proofs.lemmas.Bool.{cases_lt}
use Rattle.std.proofs.lemmas.Bool.Decides.{nat_tests}
use Rattle.std.proofs.lemmas.List.{length-take-le, length-drop, get_or-take, get_or-drop, get_or_past, get_or_append_left, get_or-append_right}
use Rattle.nx_base.specs.ByteLists.{from_le}
use Rattle.nx_base.specs.Views.{Window, View}
use Rattle.nx_base.specs.Ranges.{Lies, Shows, SameIn, OnlyIn}
use Rattle.nx_rv.specs.declared.inst.Inst.{Inst}
use Rattle.nx_slot.specs.declared.op.Width.TheVariants.{Byte, Word}
use Rattle.nx_slot.specs.Objects.{Object, object_of, no_object}
use Rattle.nx_slot.specs.Runs.{globals_in, own_in}
use Rattle.nx_cmean.specs.Homes.{HasText, Alike}
use Rattle.nx_cmean.specs.Homes as homes
use Rattle.nx_shown.specs.Bytes as memory
use Rattle.nx_shown.specs.Bytes.{Bytes}
use Rattle.nx_shown.specs.Places as places
use Rattle.nx_shown.specs.Places.{Place, Piece, IsPlace, Sees, AreHere, Only}
use Rattle.nx_shown.proofs.Stores.{same_lies}
use Rattle.nx_linked.specs.Meant.{Bases, size_of, IsIn, LivesAt, AreShown, HasForm, Leaves}
use Rattle.nx_cooked.specs.Laws.{SameKind}
use Rattle.nx_placed.specs.Placing.{Placing, at_slot, data_of, Holds, home_of_slots, AreIn, AllIn, IsPlaced}

in_range : (lo hi a x y : ℕ) → lo ≤ a → a < hi → (if nat_le lo a && nat_lt a hi then x else y) ≡ x
in_range lo hi a x y h k = let q : (nat_le lo a && nat_lt a hi) ≡ true = grind (arith, nat_tests) in rw q refl

out_range : (lo hi a x y : ℕ) → (lo ≤ a → a < hi → ⊥) → (if nat_le lo a && nat_lt a hi then x else y) ≡ y
out_range lo hi a x y h = ⊎_elim
    (λ l. let q : (nat_le lo a && nat_lt a hi) ≡ false = grind (arith, nat_tests, l) in rw q refl)
    (λ l. ⊎_elim
    (λ k. absurd (h l k))
    (λ k. let q : (nat_le lo a && nat_lt a hi) ≡ false = grind (arith, nat_tests, k) in rw q refl)
    (cases_lt a hi))
    (cases_lt a lo)

-- The globals' bytes of one function, the literals' of another, the rest of a third.
unfoldable pub mix : Place → Bytes → Bytes → Bytes → Bytes
mix e t b g a = if nat_le e.data_low a && nat_lt a e.data_top then g a else (if nat_le e.fixed_low a && nat_lt a e.fixed_top then t a else b a)

module _ (e : Place) (p : IsPlace e) (t b g : Bytes) where
  pub mix_data : (a : ℕ) → e.data_low ≤ a → a < e.data_top → mix e t b g a ≡ g a
  unfolding mix
  mix_data a h k = in_range e.data_low e.data_top a _ _ h k

  pub mix_literals : (a : ℕ) → e.fixed_low ≤ a → a < e.fixed_top → mix e t b g a ≡ t a
  unfolding mix
  mix_literals a h k = out_range e.data_low e.data_top a _ _ (λ x y. p.data_fixed a x y h k) ∙ in_range e.fixed_low e.fixed_top a _ _ h k

  pub mix_stack : (a : ℕ) → e.low ≤ a → a < e.top → mix e t b g a ≡ b a
  unfolding mix
  mix_stack a h k = out_range e.data_low e.data_top a _ _ (λ x y. p.stack_data a h k x y) ∙ out_range e.fixed_low e.fixed_top a _ _ (λ x y. p.stack_fixed a h k x y)

  pub mix_small : ((a : ℕ) → t a < 256) → ((a : ℕ) → b a < 256) → ((a : ℕ) → g a < 256) → (a : ℕ) → mix e t b g a < 256
  unfolding mix
  mix_small x y z a = small_if (nat_le e.data_low a && nat_lt a e.data_top) _ _ (z a) (small_if (nat_le e.fixed_low a && nat_lt a e.fixed_top) _ _ (x a) (y a))
    where
      small_if : (q : Bool) (x y : ℕ) → x < 256 → y < 256 → (if q then x else y) < 256
      small_if true x y h k = h
      small_if false x y h k = k

-- A part of a range that is shown.
lies_part : (ws : List Window) (written : Bool) (low top l t : ℕ) (b : Bytes) → low ≤ l → t ≤ top → Lies ws written low top b → Lies ws written l t b
lies_part [] written low top l t b h k x = absurd x
lies_part (w ∷ ws) written low top l t b h k (inl x) = let f = x.from in let to = x.to in inl (record { from = omega (arith, f, h); to = omega (arith, to, k); reads = x.reads; writes = x.writes; own = x.own; bytes = λ c y z. x.bytes c (omega (arith, y, h)) (omega (arith, z, k)) })
lies_part (w ∷ ws) written low top l t b h k (inr x) = inr (⊎_elim (λ y. inl (omega (arith, y, h))) (λ y. inr (omega (arith, y, k))) x.0, lies_part ws written low top l t b h k x.1)

-- Two parts that are shown agree where they meet.
lies_alike : (ws : List Window) (p q : Bool) (low top l t : ℕ) (b d : Bytes) (a : ℕ) → low ≤ a → a < top → l ≤ a → a < t → Lies ws p low top b → Lies ws q l t d → b a ≡ d a
lies_alike [] p q low top l t b d a h k m n x y = absurd x
lies_alike (w ∷ ws) p q low top l t b d a h k m n (inl x) (inl y) = sym (x.bytes a h k) ∙ y.bytes a m n
lies_alike (w ∷ ws) p q low top l t b d a h k m n (inl x) (inr y) = absurd (let f = x.from in let to = x.to in ⊎_elim (λ z. omega (arith, z, f, to, h, k, m, n)) (λ z. omega (arith, z, f, to, h, k, m, n)) y.0)
lies_alike (w ∷ ws) p q low top l t b d a h k m n (inr x) (inl y) = absurd (let f = y.from in let to = y.to in ⊎_elim (λ z. omega (arith, z, f, to, h, k, m, n)) (λ z. omega (arith, z, f, to, h, k, m, n)) x.0)
lies_alike (w ∷ ws) p q low top l t b d a h k m n (inr x) (inr y) = lies_alike ws p q low top l t b d a h k m n x.1 y.1

shows_alike : (v : View) (p q : Bool) (low top l t : ℕ) (b d : Bytes) (a : ℕ) → low ≤ a → a < top → l ≤ a → a < t → (top ≤ low) ⊎ Lies v.windows p low top b → (t ≤ l) ⊎ Lies v.windows q l t d → b a ≡ d a
shows_alike v p q low top l t b d a h k m n (inl x) y = absurd (omega (arith, x, h, k))
shows_alike v p q low top l t b d a h k m n (inr x) (inl y) = absurd (omega (arith, y, m, n))
shows_alike v p q low top l t b d a h k m n (inr x) (inr y) = lies_alike v.windows p q low top l t b d a h k m n x y

part_as : (v : View) (written : Bool) (low top : ℕ) (b d : Bytes) → ((c : ℕ) → low ≤ c → c < top → b c ≡ d c) → (top ≤ low) ⊎ Lies v.windows written low top b → (top ≤ low) ⊎ Lies v.windows written low top d
part_as v written low top b d e (inl o) = inl o
part_as v written low top b d e (inr o) = inr (same_lies v.windows written low top b d e o)

-- Globals before a thread's own objects.
pub global_object : (g own : List Object) (o : ℕ) → o < length g → object_of (g ++ own) o ≡ object_of g o
unfolding object_of
global_object g own o h = get_or_append_left g own no_object o h

own_object : (g os : List Object) (n o : ℕ) → length g ≡ n → n ≤ o → object_of (g ++ drop n os) o ≡ object_of os o
unfolding object_of
own_object g os n o l h =
    let e : n + (o - n) ≡ o = omega arith in
    get_or-append_right g (drop n os) n o no_object l h ∙ get_or-drop n os (o - n) no_object ∙ ap (λ k. get_or os k no_object) e

pub renewed_kind : (g os : List Object) (n : ℕ) → length g ≡ n → n ≤ length os → ((o : ℕ) → o < n → ((object_of g o).width ≡ (object_of os o).width) × (size_of g o ≡ size_of os o) × ((object_of g o).fixed ≡ (object_of os o).fixed)) → SameKind os (g ++ drop n os)
renewed_kind g os n e h k =
    let l = length-append g (drop n os) in let d = length-drop n os in
    record {
      shape = record {
        count = omega (arith, l, d, h, e);
        widths = λ o. ⊎_elim (λ y. ap (λ (x : Object). x.width) (global_object g (drop n os) o (omega (arith, y, e))) ∙ (k o y).0) (λ y. ap (λ (x : Object). x.width) (own_object g os n o e y)) (cases_lt o n);
        sizes = λ o. ⊎_elim (λ y. ap (λ (x : Object). length x.bytes) (global_object g (drop n os) o (omega (arith, y, e))) ∙ (k o y).1) (λ y. ap (λ (x : Object). length x.bytes) (own_object g os n o e y)) (cases_lt o n);
      };
      fixed = λ o. ⊎_elim (λ y. ap (λ (x : Object). x.fixed) (global_object g (drop n os) o (omega (arith, y, e))) ∙ (k o y).2) (λ y. ap (λ (x : Object). x.fixed) (own_object g os n o e y)) (cases_lt o n);
    }

byte_or_word : Byte ≡ Word → ⊥
byte_or_word e = absurd cc

all_there : (n m : ℕ) → ((o : ℕ) → o < n → o < m) → n ≤ m
all_there zero m h = omega arith
all_there (suc n) m h = let z = h n (omega arith) in omega (arith, z)

-- Nothing but the own stack and the globals has changed.
pub only_in : (d : Placing) (slot : ℕ) (b : Bool) (v w : View) → Only (at_slot d slot b).place v w → OnlyIn (d.stack slot ∷ data_of d ∷ []) v w
only_in d slot b v w o = record {
  others = λ r apart. record {
    shows = λ written f h. o.shows written r.low r.top f (apart.0, apart.1.0) h;
    runs = λ at x y. o.runs at (⊎_elim (λ z. inl (omega (arith, z, y))) (λ z. inr (omega (arith, z, x))) apart.0, ⊎_elim (λ z. inl (omega (arith, z, y))) (λ z. inr (omega (arith, z, x))) apart.1.0);
  };
}

same_lists : (b : Bytes) (a n : ℕ) → homes.bytes_at b a n ≡ memory.bytes_at b a n
unfolding homes.bytes_at memory.bytes_at
same_lists b a zero = refl
same_lists b a (suc n) = ap (λ xs. b a ∷ xs) (same_lists b (a + 1) n)

same_bytes_at : (b : Bytes) (a n : ℕ) → homes.number_at b a n ≡ memory.number_at b a n
unfolding homes.number_at memory.number_at
same_bytes_at b a n = ap from_le (same_lists b a n)

module _ (d : Placing) (placed : IsPlaced d) where
  pub text_same : (v w : View) → SameIn d.text v w → HasText (home_of_slots d) v → HasText (home_of_slots d) w
  text_same v w s h = record { reads = s.shows _ _ h.reads; runs = λ at x y. s.runs at x y ∙ h.runs at x y }

  here : (w : View) (at : ℕ) (is : List Inst) → HasText (home_of_slots d) w → AreIn d at is → AreHere w at is
  here w at [] h a = tt
  here w at (i ∷ is) h a = ((h.runs at a.0.0 a.0.1 ∙ ap (λ n. let x : Result ℕ ℕ = Ok n in x) (same_bytes_at d.text_bytes at 4 ∙ a.0.2), a.0.3), here w (at + 4) is h a.1)

  pieces_here : (w : View) (ps : List Piece) → HasText (home_of_slots d) w → AllIn d ps → places.HasText w ps
  pieces_here w [] h a = tt
  pieces_here w (p ∷ ps) h a = (here w p.at p.insts h a.0, pieces_here w ps h a.1)

  module _ (slot : ℕ) (below : slot < d.slots) (b : Bool) where
    pub is_place : IsPlace (at_slot d slot b).place
    is_place = (placed.linked slot b below).place

    pub text_only : (v w : View) → Only (at_slot d slot b).place v w → HasText (home_of_slots d) v → HasText (home_of_slots d) w
    text_only v w o h = text_same v w ((only_in d slot b v w o).others d.text (placed.text_stack slot, (placed.text_data, tt))) h

    -- The view of a thread that goes on.
    pub sees_at : (w : View) (bs : Bytes) (g : List Object) → Shows w true (d.stack slot) bs → ((a : ℕ) → bs a < 256) → HasText (home_of_slots d) w → (al : Alike (home_of_slots d) g w) → Sees (at_slot d slot b).place w (mix (at_slot d slot b).place d.text_bytes bs al.bytes)
    sees_at w bs g stack small text al =
        let e = (at_slot d slot b).place in
        record {
          stack = part_as w true e.low e.top bs _ (λ c h k. sym (mix_stack e is_place d.text_bytes bs al.bytes c h k)) stack;
          globals = part_as w true e.data_low e.data_top al.bytes _ (λ c h k. sym (mix_data e is_place d.text_bytes bs al.bytes c h k)) al.shows;
          literals = part_as w false e.fixed_low e.fixed_top d.text_bytes _ (λ c h k. sym (mix_literals e is_place d.text_bytes bs al.bytes c h k)) (by_text text.reads);
          text = pieces_here w d.program.place.pieces text placed.written;
          small = mix_small e is_place d.text_bytes bs al.bytes placed.small small al.small;
        }
      where
        by_text : (d.text.top ≤ d.text.low) ⊎ Lies w.windows false d.text.low d.text.top d.text_bytes → (d.program.place.fixed_top ≤ d.program.place.fixed_low) ⊎ Lies w.windows false d.program.place.fixed_low d.program.place.fixed_top d.text_bytes
        by_text (inl x) = inl (let l = placed.literals_in.0 in let t = placed.literals_in.1 in omega (arith, x, l, t))
        by_text (inr x) = inr (lies_part w.windows false d.text.low d.text.top d.program.place.fixed_low d.program.place.fixed_top d.text_bytes placed.literals_in.0 placed.literals_in.1 x)

    -- The globals that a view shows.
    pub alike_left : (v : View) (os : List Object) → Leaves (at_slot d slot b) v os → HasText (home_of_slots d) v → Alike (home_of_slots d) (globals_in d.program.statics os) v
    unfolding object_of
    alike_left v os l text = record {
      bytes = l.bytes;
      shows = l.sees.globals;
      small = l.sees.small;
      holds = record {
        count = length-take-le d.program.statics os l.there;
        forms = λ o h. subst (λ x. HasForm (d.program.forms o) x) (sym (kept o h)) (l.forms o h);
        globals = λ o i h f k. l.shown o i h (subst (λ (x : Object). i < length x.bytes) (kept o h) k) ∙ ap (λ (x : Object). slice_index x.bytes i) (sym (kept o h));
        literals = λ o i h f k.
            let k2 : i < size_of os o = subst (λ (x : Object). i < length x.bytes) (kept o h) k in
            let m = (l.forms o h).bytes in
            let q = placed.literals o h f in let q0 = q.0 in let q1 = q.1 in
            let u0 = placed.literals_in.0 in let u1 = placed.literals_in.1 in
            let e = (at_slot d slot b).place in
            shows_alike v false false d.text.low d.text.top e.fixed_low e.fixed_top d.text_bytes l.bytes (d.program.address o + i) (omega (arith, q0, u0)) (omega (arith, q1, u1, k2, m)) (omega (arith, q0)) (omega (arith, q1, k2, m)) text.reads l.sees.literals
            ∙ l.shown o i h k2 ∙ ap (λ (x : Object). slice_index x.bytes i) (sym (kept o h));
      };
    }
      where
        kept : (o : ℕ) → o < d.program.statics → object_of (globals_in d.program.statics os) o ≡ object_of os o
        kept o h = get_or-take d.program.statics os o no_object h

    pub left : (v : View) (os : List Object) (base : Bases) (bs : Bytes) → Sees (at_slot d slot b).place v bs → AreShown (at_slot d slot b) base os bs → Leaves (at_slot d slot b) v os
    left v os base bs s t = record {
      bytes = bs;
      sees = s;
      there = all_there d.program.statics (length os) (λ o h. (t.statics o h).0);
      forms = t.forms;
      shown = λ o i h k. ap (λ n. bs (n + i)) (sym (t.statics o h).1) ∙ t.bytes o i k;
    }

    -- The objects of a thread that goes on with these globals.
    pub kind_again : (base : Bases) (bs : Bytes) (os g : List Object) (gb : Bytes) → AreShown (at_slot d slot b) base os bs → Holds d g gb → SameKind os (g ++ own_in d.program.statics os)
    kind_again base bs os g gb t h = renewed_kind g os d.program.statics h.count (all_there d.program.statics (length os) (λ o k. (t.statics o k).0))
        (λ o k. ((h.forms o k).width ∙ sym (t.forms o k).width, (h.forms o k).bytes ∙ sym (t.forms o k).bytes, (h.forms o k).fixed ∙ sym (t.forms o k).fixed))

    pub resumed : (base : Bases) (bs : Bytes) (os g : List Object) (gb : Bytes) → AreShown (at_slot d slot b) base os bs → Holds d g gb → AreShown (at_slot d slot b) base (g ++ own_in d.program.statics os) (mix (at_slot d slot b).place d.text_bytes bs gb)
    resumed base bs os g gb t h =
        let n = d.program.statics in
        let new = g ++ own_in n os in
        let e = (at_slot d slot b).place in
        let k = kind_again base bs os g gb t h in
        let old : (q a : ℕ) → IsIn base new q a → IsIn base os q a = λ q a i. (i.0, subst (λ m. a < base q + m) (k.shape.sizes q) i.1) in
        record {
          bytes = λ o i l. ⊎_elim
              (λ y.
              let at = (t.statics o y).1 in
              let one = global_object g (own_in n os) o (let c = h.count in omega (arith, y, c)) in
              let l2 : i < size_of g o = subst (λ (x : Object). i < length x.bytes) one l in
              ap (λ m. mix e d.text_bytes bs gb (m + i)) at ∙ by_form o i y (d.program.forms o).fixed refl l2 ∙ ap (λ (x : Object). slice_index x.bytes i) (sym one))
              (λ y.
              let l2 : i < size_of os o = subst (λ m. i < m) (k.shape.sizes o) l in
              let w = t.own o y (omega (arith, l2)) in let w0 = w.0 in let w1 = w.1 in
              mix_stack e is_place d.text_bytes bs gb (base o + i) (omega (arith, w0)) (omega (arith, w1, l2)) ∙ t.bytes o i l2 ∙ ap (λ (x : Object). slice_index x.bytes i) (sym (own_object g os n o h.count y)))
              (cases_lt o n);
          aligned = λ o s. t.aligned o (sym (k.shape.widths o) ∙ s);
          lives = λ o l. lives_as e (base o) (object_of os o) (object_of new o) (k.shape.sizes o) (k.fixed o) (t.lives o (subst (λ m. 1 ≤ m) (k.shape.sizes o) l));
          apart = λ o q a x y. t.apart o q a (old o a x) (old q a y);
          own = λ o l m. let w = t.own o l (subst (λ m. 1 ≤ m) (k.shape.sizes o) m) in let w1 = w.1 in let s = k.shape.sizes o in (w.0, omega (arith, w1, s));
          statics = λ o l. let w = t.statics o l in let w0 = w.0 in let c = k.shape.count in (omega (arith, w0, c), w.1);
          forms = λ o l. subst (λ x. HasForm (d.program.forms o) x) (sym (global_object g (own_in n os) o (let c = h.count in omega (arith, l, c)))) (h.forms o l);
        }
      where
        lives_as : (e : Place) (at : ℕ) (x y : Object) → length y.bytes ≡ length x.bytes → y.fixed ≡ x.fixed → LivesAt e at x → LivesAt e at y
        lives_as e at x y l f (inl m) = inl (subst (λ n. places.MayWrite e at n) (sym l) m)
        lives_as e at x y l f (inr m) = inr (m.0, subst (λ n. at + n ≤ e.fixed_top) (sym l) m.1, f ∙ m.2)

        by_form : (o i : ℕ) → o < d.program.statics → (q : Bool) → (d.program.forms o).fixed ≡ q → i < size_of g o → mix (at_slot d slot b).place d.text_bytes bs gb (d.program.address o + i) ≡ slice_index (object_of g o).bytes i
        by_form o i k false f l = let w = placed.globals o k f in let w0 = w.0 in let w1 = w.1 in let z = (h.forms o k).bytes in mix_data (at_slot d slot b).place is_place d.text_bytes bs gb (d.program.address o + i) (omega (arith, w0)) (omega (arith, w1, z, l)) ∙ h.globals o i k f l
        by_form o i k true f l = let w = placed.literals o k f in let w0 = w.0 in let w1 = w.1 in let z = (h.forms o k).bytes in mix_literals (at_slot d slot b).place is_place d.text_bytes bs gb (d.program.address o + i) (omega (arith, w0)) (omega (arith, w1, z, l)) ∙ h.literals o i k f l

    -- Behind the placed objects there is none.
    past : (g : List Object) (gb : Bytes) → Holds d g gb → (o : ℕ) → d.program.statics ≤ o → object_of g o ≡ no_object
    unfolding object_of
    past g gb h o k = get_or_past g o no_object (let n = h.count in omega (arith, n, k))

    known : (g : List Object) (gb : Bytes) → Holds d g gb → (o : ℕ) → 1 ≤ size_of g o → o < d.program.statics
    known g gb h o k = ⊎_elim (λ x. x) (λ x. absurd (let z = ap (λ (y : Object). length y.bytes) (past g gb h o (omega (arith, x))) in omega (arith, z, k))) (cases_lt o d.program.statics)

    -- The objects that the link has placed, at a thread's start.
    pub statics : (g : List Object) (gb : Bytes) → Holds d g gb → AreShown (at_slot d slot b) d.program.address g (mix (at_slot d slot b).place d.text_bytes (λ a. 0) gb)
    statics g gb h = record {
      bytes = λ o i k. each o i k (known g gb h o (omega (arith, k))) (d.program.forms o).fixed refl;
      aligned = λ o e. ⊎_elim (λ k. placed.aligned o k (sym (h.forms o k).width ∙ e)) (λ k. absurd (byte_or_word (sym (ap (λ (y : Object). y.width) (past g gb h o (omega (arith, k)))) ∙ e))) (cases_lt o d.program.statics);
      lives = λ o k. lives o (known g gb h o k) (d.program.forms o).fixed refl;
      apart = λ o q a x y. let k = known g gb h o (let x0 = x.0 in let x1 = x.1 in omega (arith, x0, x1)) in let l = known g gb h q (let y0 = y.0 in let y1 = y.1 in omega (arith, y0, y1)) in
          placed.apart o q a k l x.0 (subst (λ n. a < d.program.address o + n) (h.forms o k).bytes x.1) y.0 (subst (λ n. a < d.program.address q + n) (h.forms q l).bytes y.1);
      own = λ o k l. absurd (let z = known g gb h o l in omega (arith, z, k));
      statics = λ o k. (let n = h.count in omega (arith, n, k), refl);
      forms = h.forms;
    }
      where
        each : (o i : ℕ) → i < size_of g o → o < d.program.statics → (q : Bool) → (d.program.forms o).fixed ≡ q → mix (at_slot d slot b).place d.text_bytes (λ a. 0) gb (d.program.address o + i) ≡ slice_index (object_of g o).bytes i
        each o i k l false f = let w = placed.globals o l f in let w0 = w.0 in let w1 = w.1 in let n = (h.forms o l).bytes in mix_data (at_slot d slot b).place is_place d.text_bytes (λ a. 0) gb (d.program.address o + i) (omega (arith, w0)) (omega (arith, w1, k, n)) ∙ h.globals o i l f k
        each o i k l true f = let w = placed.literals o l f in let w0 = w.0 in let w1 = w.1 in let n = (h.forms o l).bytes in mix_literals (at_slot d slot b).place is_place d.text_bytes (λ a. 0) gb (d.program.address o + i) (omega (arith, w0)) (omega (arith, w1, k, n)) ∙ h.literals o i l f k

        lives : (o : ℕ) → o < d.program.statics → (q : Bool) → (d.program.forms o).fixed ≡ q → LivesAt (at_slot d slot b).place (d.program.address o) (object_of g o)
        lives o l false f = let w = placed.globals o l f in let w1 = w.1 in let n = (h.forms o l).bytes in inl (inr (w.0, omega (arith, w1, n)))
        lives o l true f = let w = placed.literals o l f in let w1 = w.1 in let n = (h.forms o l).bytes in inr (w.0, omega (arith, w1, n), (h.forms o l).fixed ∙ f)

    pub off_stack : (g : List Object) (gb : Bytes) → Holds d g gb → (o a : ℕ) → IsIn d.program.address g o a → (d.stack slot).low ≤ a → a < (d.stack slot).top → ⊥
    off_stack g gb h o a i z u = by_form (known g gb h o (let x = i.0 in let y = i.1 in omega (arith, x, y))) (d.program.forms o).fixed refl
      where
        by_form : o < d.program.statics → (q : Bool) → (d.program.forms o).fixed ≡ q → ⊥
        by_form l false f = let x = i.0 in let y = i.1 in let w = placed.globals o l f in let w0 = w.0 in let w1 = w.1 in let n = (h.forms o l).bytes in is_place.stack_data a z u (omega (arith, w0, x)) (omega (arith, w1, y, n))
        by_form l true f = let x = i.0 in let y = i.1 in let w = placed.literals o l f in let w0 = w.0 in let w1 = w.1 in let n = (h.forms o l).bytes in is_place.stack_fixed a z u (omega (arith, w0, x)) (omega (arith, w1, y, n))
