-- An element of an object, at its address.
use Rattle.std.proofs.Common.{◌≡◌, ℕ, ◌+◌, ◌-◌, ◌*◌, ◌%◌, ◌^◌, ◌<◌, ◌≤◌, inl, inr, Bool, true, false, List, length, refl, sym, ap, ◌∙◌, subst, arith}
use Rattle.std.specs.Prelude.{slice_index, slice_set, nat_le, ◌&&◌}
use Rattle.std.proofs.lemmas.Bool.Decides.{nat_tests}
use Rattle.nx_base.specs.ByteLists.{get_bytes, put_bytes, from_le, to_le}
use Rattle.nx_base.proofs.Puts.{length-put_bytes, length-to_le, set_one}
use Rattle.nx_slot.specs.declared.op.Width.{Width}
use Rattle.nx_slot.specs.declared.op.Width.TheVariants.{Byte, Word}
use Rattle.nx_slot.specs.declared.program.SlotFunction.{SlotFunction}
use Rattle.nx_slot.specs.Objects.{Pointer, Object, object_of, bytes_of, same_width, has_element, element, with_number, with_element}
use Rattle.nx_codegen.specs.Cells.{IsCell}
use Rattle.nx_codegen.specs.Frames.{in_register, register_of, cell_at, words_end}
use Rattle.nx_shown.specs.Bytes as shown
use Rattle.nx_shown.specs.Bytes.{Bytes, bytes_at, number_at}
use Rattle.nx_shown.specs.Places.{Place, IsPlace, MayRead, MayWrite}
use Rattle.nx_shown.proofs.Stores.{listed, listed_after, same_number}
use Rattle.nx_pieces.specs.Cells.{cell_word}
use Rattle.nx_pieces.proofs.Cells.{by_test, inside}
use Rattle.nx_linked.specs.Linked.{Program}
use Rattle.nx_linked.specs.Meant.{Bases, size_of, Means, LivesAt, AreShown}
use Rattle.nx_acted.proofs.Peeling.{width_is}

pub record Element (c : Program) (base : Bases) (os : List Object) (w : Width) (o p a : ℕ) : Type 0 where
  pub known : o < length os
  pub within : bytes_of w * p + bytes_of w ≤ size_of os o
  pub at : a ≡ base o + bytes_of w * p
  pub small : a + bytes_of w ≤ 2 ^ 32
  pub aligned : a % bytes_of w ≡ 0
  pub lives : LivesAt c.place (base o) (object_of os o)

pub one_byte : (w : Width) → 1 ≤ bytes_of w
one_byte Byte = omega arith
one_byte Word = omega arith

fits : (w : Width) (p n : ℕ) → bytes_of w * (p + 1) ≤ n → bytes_of w * p + bytes_of w ≤ n
fits Byte p n h = omega (arith, h)
fits Word p n h = omega (arith, h)

both_true : (a b : Bool) → (a && b) ≡ true → (a ≡ true) × (b ≡ true)
both_true true true e = (refl, refl)
both_true true false e = absurd cc
both_true false b e = absurd cc

le_is : (a b : ℕ) → nat_le a b ≡ true → a ≤ b
le_is a b e = grind (arith, nat_tests)

is_aligned : (w : Width) (u : Width) (at p a : ℕ) → u ≡ w → (u ≡ Word → at % 4 ≡ 0) → a ≡ at + bytes_of w * p → a % bytes_of w ≡ 0
is_aligned Byte u at p a q h e = omega arith
is_aligned Word u at p a q h e = let z = h q in omega (arith, z, e)

ends : (e : Place) (at : ℕ) (x : Object) → IsPlace e → LivesAt e at x → at + length x.bytes ≤ 2 ^ 32
ends e at x pl (inl (inl m)) = let y = m.1 in let z = pl.fits in omega (arith, y, z)
ends e at x pl (inl (inr m)) = let y = m.1 in let z = pl.data_fits in omega (arith, y, z)
ends e at x pl (inr m) = let y = m.1 in let z = pl.fixed_fits in omega (arith, y, z)

pub element_at : (c : Program) (base : Bases) (os : List Object) (b : Bytes) (w : Width) (o p a : ℕ) → IsPlace c.place → AreShown c base os b → has_element (object_of os o) w p ≡ true → Means c base os (Pointer o p) a → Element c base os w o p a
unfolding has_element
element_at c base os b w o p a pl t h m =
    let x = object_of os o in
    let both = both_true (same_width x.width w) (nat_le (bytes_of w * (p + 1)) (length x.bytes)) h in
    let same = width_is x.width w both.0 in
    let fit = fits w p (length x.bytes) (le_is (bytes_of w * (p + 1)) (length x.bytes) both.1) in
    let some = one_byte w in
    let lives = t.lives o (omega (arith, fit, some)) in
    let top : base o + size_of os o ≤ 2 ^ 32 = ends c.place (base o) x pl lives in
    let a_is : a ≡ (base o + bytes_of w * p) % 2 ^ 32 = m.1 ∙ ap (λ (k : Width). (base o + bytes_of k * p) % 2 ^ 32) same in
    let at : a ≡ base o + bytes_of w * p = omega (arith, a_is, top, fit, some) in
    record {
      known = m.0;
      within = fit;
      at = at;
      small = omega (arith, at, top, fit);
      aligned = is_aligned w x.width (base o) p a same (t.aligned o) at;
      lives = lives;
    }

pub element_read : (c : Program) (base : Bases) (os : List Object) (w : Width) (o p a : ℕ) → Element c base os w o p a → MayRead c.place a (bytes_of w)
element_read c base os w o p a e = reads e.lives e.at e.within
  where
    reads : LivesAt c.place (base o) (object_of os o) → a ≡ base o + bytes_of w * p → bytes_of w * p + bytes_of w ≤ size_of os o → MayRead c.place a (bytes_of w)
    reads (inl (inl m)) at within = let y = m.0 in let z = m.1 in inl (inl (omega (arith, y, at), omega (arith, z, at, within)))
    reads (inl (inr m)) at within = let y = m.0 in let z = m.1 in inl (inr (omega (arith, y, at), omega (arith, z, at, within)))
    reads (inr m) at within = let y = m.0 in let z = m.1 in inr (omega (arith, y, at), omega (arith, z, at, within))

not_both : false ≡ true → ⊥
not_both e = absurd cc

pub element_write : (c : Program) (base : Bases) (os : List Object) (w : Width) (o p a : ℕ) → (object_of os o).fixed ≡ false → Element c base os w o p a → MayWrite c.place a (bytes_of w)
element_write c base os w o p a fixed e = writes e.lives e.at e.within
  where
    writes : LivesAt c.place (base o) (object_of os o) → a ≡ base o + bytes_of w * p → bytes_of w * p + bytes_of w ≤ size_of os o → MayWrite c.place a (bytes_of w)
    writes (inl (inl m)) at within = let y = m.0 in let z = m.1 in inl (omega (arith, y, at), omega (arith, z, at, within))
    writes (inl (inr m)) at within = let y = m.0 in let z = m.1 in inr (omega (arith, y, at), omega (arith, z, at, within))
    writes (inr m) at within = absurd (not_both (sym fixed ∙ m.2))

-- Its number, by the bytes of the object.
element_bytes : (w : Width) (o : Object) (p : ℕ) → from_le (get_bytes o.bytes (bytes_of w * p) (bytes_of w)) ≡ element w o p
unfolding element get_bytes from_le
element_bytes Byte o p = let q : 1 * p ≡ p = omega arith in let z : slice_index o.bytes (1 * p) + 256 * 0 ≡ slice_index o.bytes (1 * p) = omega arith in z ∙ ap (slice_index o.bytes) q
element_bytes Word o p = refl

pub element_is : (c : Program) (base : Bases) (os : List Object) (b : Bytes) (w : Width) (o p a : ℕ) → AreShown c base os b → Element c base os w o p a → number_at b a (bytes_of w) ≡ element w (object_of os o) p
unfolding number_at
element_is c base os b w o p a t e =
    let at = e.at in let within = e.within in
    let n = bytes_of w in
    let d : base o + n * p - base o ≡ n * p = omega arith in
    ap (λ k. from_le (bytes_at b k n)) at
    ∙ ap from_le (sym (listed (object_of os o).bytes (base o) b (base o + n * p) n (omega arith) (λ k l m. let q : base o + (k - base o) ≡ k = omega (arith, l) in sym (t.bytes o (k - base o) (omega (arith, l, m, within))) ∙ ap b q)))
    ∙ ap (λ k. from_le (get_bytes (object_of os o).bytes k n)) d
    ∙ element_bytes w (object_of os o) p

-- The bytes of an object with an element changed.
number_bytes : (w : Width) (bs : List ℕ) (p n : ℕ) → bytes_of w * p + bytes_of w ≤ length bs → with_number w bs p n ≡ put_bytes bs (bytes_of w * p) (to_le (bytes_of w) n)
unfolding to_le
number_bytes Byte bs p n h = let q : p ≡ 1 * p = omega arith in ap (λ k. slice_set bs k (n % 256)) q ∙ set_one bs (1 * p) (n % 256) (omega (arith, h))
number_bytes Word bs p n h = refl

pub changed_bytes : (w : Width) (o : Object) (p n : ℕ) → bytes_of w * p + bytes_of w ≤ length o.bytes → (with_element w o p n).bytes ≡ put_bytes o.bytes (bytes_of w * p) (to_le (bytes_of w) n)
unfolding with_element
changed_bytes w o p n h = number_bytes w o.bytes p n h

pub record Alike (x y : Object) : Type 0 where
  pub size : length y.bytes ≡ length x.bytes
  pub width : y.width ≡ x.width
  pub fixed : y.fixed ≡ x.fixed

same_rest : (w : Width) (o : Object) (p n : ℕ) → ((with_element w o p n).width ≡ o.width) × ((with_element w o p n).fixed ≡ o.fixed)
unfolding with_element
same_rest w o p n = (refl, refl)

pub changed_alike : (w : Width) (o : Object) (p n : ℕ) → bytes_of w * p + bytes_of w ≤ length o.bytes → Alike o (with_element w o p n)
changed_alike w o p n h =
    let l = length-to_le (bytes_of w) n in
    let r = same_rest w o p n in
    record {
      size = ap length (changed_bytes w o p n h) ∙ length-put_bytes o.bytes (bytes_of w * p) (to_le (bytes_of w) n) (omega (arith, h, l));
      width = r.0;
      fixed = r.1;
    }

pub lives_alike : (e : Place) (at : ℕ) (x y : Object) → Alike x y → LivesAt e at x → LivesAt e at y
lives_alike e at x y l (inl m) = inl (subst (λ n. MayWrite e at n) (sym l.size) m)
lives_alike e at x y l (inr m) = inr (m.0, subst (λ n. at + n ≤ e.fixed_top) (sym l.size) m.1, l.fixed ∙ m.2)

-- The bytes of memory where the element is written.
pub written_byte : (w : Width) (o : Object) (at : ℕ) (b : Bytes) (p n i : ℕ) → bytes_of w * p + bytes_of w ≤ length o.bytes → b (at + i) ≡ slice_index o.bytes i
    → shown.with_number b (at + bytes_of w * p) (bytes_of w) n (at + i) ≡ slice_index (with_element w o p n).bytes i
unfolding shown.with_number
written_byte w o at b p n i fit is =
    let k = bytes_of w in
    let l = length-to_le k n in
    let d : at + k * p - at ≡ k * p = omega arith in
    let e : at + i - at ≡ i = omega arith in
    let x = to_le k n in
    sym (ap (λ j. slice_index j i) (changed_bytes w o p n fit) ∙ ap (λ j. slice_index (put_bytes o.bytes j x) i) (sym d) ∙ ap (slice_index (put_bytes o.bytes (at + k * p - at) x)) (sym e)
    ∙ listed_after o.bytes at b (at + k * p) x (at + i) (omega arith) (omega (arith, fit, l)) (omega arith) (ap (slice_index o.bytes) e ∙ sym is))

-- Cells are the same where their registers and words are.
pub cells_stay : (g : SlotFunction) (sp : ℕ) (t u : ℕ → ℕ) (b d : Bytes) (i : ℕ) → IsCell g i → ((j : ℕ) → 18 ≤ j → u j ≡ t j) → ((a : ℕ) → sp ≤ a → a < sp + words_end g → d a ≡ b a) → cell_word g sp u d i ≡ cell_word g sp t b i
unfolding cell_word register_of
cells_stay g sp t u b d i h regs same =
    let z = inside g i h in
    let z1 = z.low in let z2 = z.top in
    by_test (in_register g i)
    (λ q. rw q (regs _ (omega arith)))
    (λ q. rw q (same_number d b (sp + cell_at g i) 4 (λ a l m. same a (omega (arith, l)) (omega (arith, m, z2)))))
