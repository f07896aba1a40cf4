-- One output is put into a view, and into an object.
use Rattle.std.proofs.Common.{◌≡◌, ◌≢◌, ℕ, zero, suc, ◌+◌, ◌-◌, ◌*◌, ◌%◌, ◌^◌, ◌<◌, ◌≤◌, ◌⊎◌, inl, inr, List, [], ◌∷◌, length, Bool, true, false, refl, sym, ap, ◌∙◌, subst, arith, ⊎_elim}
use Rattle.std.specs.Prelude.{◌&&◌, not, nat_le, if◌then◌else◌, slice_index, slice_set, get_or}
use Rattle.std.proofs.lemmas.Bool.{cases_eq, cases_lt}
use Rattle.std.proofs.lemmas.Bool.Decides.{nat_tests}
use Rattle.std.proofs.lemmas.List.{length-set}
use Rattle.nx_base.specs.ByteLists.{AreBytes, put_bytes, to_le}
use Rattle.nx_base.specs.Copying.{stored_or, with_stored}
use Rattle.nx_base.specs.Views.{View, store_bytes}
use Rattle.nx_base.proofs.Puts.{put_bytes-none, length-put_bytes}
use Rattle.nx_slot.specs.declared.op.Width.{Width}
use Rattle.nx_slot.specs.Objects.{Value, Int, Pointer, Forged, Entry, Object, object_of, no_object, bytes_of}
use Rattle.nx_slot.specs.Calls as slot
use Rattle.nx_slot.specs.Calls.{from_place, lies_in, with_output}
use Rattle.nx_shown.specs.Bytes as memory
use Rattle.nx_shown.specs.Bytes.{Bytes, with_number}
use Rattle.nx_shown.specs.Places.{Place, IsPlace, Sees, MayWrite, Only}
use Rattle.nx_shown.proofs.Accesses.{stores}
use Rattle.nx_shown.proofs.Stores.{outside, listed_after}
use Rattle.nx_entries.proofs.Entries.{only_then}
use Rattle.nx_linked.specs.Linked.{Program}
use Rattle.nx_linked.specs.Meant.{Bases, size_of, IsIn, Means, LivesAt, AreShown}
use Rattle.nx_linked.proofs.Objects.{set_object, set_object_other}
use Rattle.nx_stored.proofs.Elements.{Alike, lives_alike}
use Rattle.nx_stored.proofs.Storing.{alike_all, form_alike}
use Rattle.nx_cooked.specs.Laws.{SameKind, Delivered}
use Rattle.nx_cooked.proofs.Lying.{zero_is, pointer_lies, free_is, led}

pub only_none : (e : Place) (v : View) → Only e v v
only_none e v = record { shows = λ written low top b ap h. h; runs = λ at ap. refl }

next_may : (e : Place) (a n : ℕ) → MayWrite e a (suc n) → MayWrite e a 1 × MayWrite e (a + 1) n
next_may e a n (inl m) = let m0 = m.0 in let m1 = m.1 in (inl (m0, omega (arith, m1)), inl (omega (arith, m0), omega (arith, m1)))
next_may e a n (inr m) = let m0 = m.0 in let m1 = m.1 in (inr (m0, omega (arith, m1)), inr (omega (arith, m0), omega (arith, m1)))

one_byte : (b : Bytes) (a x : ℕ) → x < 256 → with_number b a 1 x ≡ memory.put b a x
unfolding with_number memory.with_bytes to_le
one_byte b a x h = let e : x % 256 ≡ x = omega arith in ap (λ n. memory.put b a n) e

-- Bytes are put one by one, and show there.
pub record Held (e : Place) (v w : View) (b : Bytes) : Type 0 where
  pub sees : Sees e w b
  pub only : Only e v w

pub stored_bytes : (e : Place) (xs : List ℕ) (v : View) (a : ℕ) (b : Bytes) → IsPlace e → AreBytes xs → MayWrite e a (length xs) → Sees e v b → Held e v (with_stored v a xs) (memory.with_bytes b a xs)
unfolding with_stored memory.with_bytes
stored_bytes e [] v a b p h m s = record { sees = s; only = only_none e v }
stored_bytes e (x ∷ xs) v a b p h m s =
    let w = next_may e a (length xs) m in
    let k = stores e v a 1 x b p s w.0 (omega arith) in
    let more = stored_bytes e xs k.new (a + 1) (memory.put b a x) p (λ i. h (suc i)) w.1 (subst (λ d. Sees e k.new d) (one_byte b a x (h 0)) k.sees) in
    let z : stored_or v (store_bytes v a 1 x) ≡ k.new = ap (stored_or v) k.is in
    subst (λ u. Held e v (with_stored u (a + 1) xs) (memory.with_bytes (memory.put b a x) (a + 1) xs)) (sym z) (record { sees = more.sees; only = only_then e v k.new (with_stored k.new (a + 1) xs) k.only more.only })

lives_write : (e : Place) (at off n : ℕ) (x : Object) → x.fixed ≡ false → off + n ≤ length x.bytes → LivesAt e at x → MayWrite e (at + off) n
lives_write e at off n x free h (inl (inl m)) = let m0 = m.0 in let m1 = m.1 in inl (omega (arith, m0), omega (arith, m1, h))
lives_write e at off n x free h (inl (inr m)) = let m0 = m.0 in let m1 = m.1 in inr (omega (arith, m0), omega (arith, m1, h))
lives_write e at off n x free h (inr m) = absurd (both x.fixed free m.2)
  where
    both : (q : Bool) → q ≡ false → q ≡ true → ⊥
    both true e f = absurd cc
    both false e f = absurd cc

pub kind_same : (os : List Object) → SameKind os os
kind_same os = record { shape = record { count = refl; widths = λ o. refl; sizes = λ o. refl }; fixed = λ o. refl }

pub kind_then : (os os1 os2 : List Object) → SameKind os os1 → SameKind os1 os2 → SameKind os os2
kind_then os os1 os2 p q = record {
  shape = record { count = q.shape.count ∙ p.shape.count; widths = λ o. q.shape.widths o ∙ p.shape.widths o; sizes = λ o. q.shape.sizes o ∙ p.shape.sizes o };
  fixed = λ o. q.fixed o ∙ p.fixed o;
}

put_alike : (x : Object) (y : ℕ) (out : List ℕ) → y + length out ≤ length x.bytes → Alike x (record x { bytes = put_bytes x.bytes y out })
put_alike x y out h = record { size = length-put_bytes x.bytes y out h; width = refl; fixed = refl }

kind_set : (os : List Object) (o : ℕ) (x : Object) → o < length os → Alike (object_of os o) x → SameKind os (slice_set os o x)
kind_set os o x h a = record {
  shape = record { count = length-set os o x; widths = λ q. (alike_all os o x h a q).width; sizes = λ q. (alike_all os o x h a q).size };
  fixed = λ q. (alike_all os o x h a q).fixed;
}

-- Bytes put into one object.
pub one_put : (c : Program) (base : Bases) (os : List Object) (b : Bytes) (o y : ℕ) (out : List ℕ) → o < length os → y + length out ≤ size_of os o → AreShown c base os b → AreShown c base (slice_set os o (record (object_of os o) { bytes = put_bytes (object_of os o).bytes y out })) (memory.with_bytes b (base o + y) out)
one_put c base os b o y out h fit t =
    let x = record (object_of os o) { bytes = put_bytes (object_of os o).bytes y out } in
    let new = slice_set os o x in
    let alike = alike_all os o x h (put_alike (object_of os o) y out fit) in
    let count = length-set os o x in
    let one = set_object os o x h in
    let old : (q k : ℕ) → IsIn base new q k → IsIn base os q k = λ q k i. (i.0, subst (λ n. k < base q + n) (alike q).size i.1) in
    let apart : (q k : ℕ) → q ≢ o → IsIn base os q k → (k < base o + y) ⊎ (base o + y + length out ≤ k) = λ q k z i. ⊎_elim (λ l. inl l) (λ l. ⊎_elim (λ u. absurd (z (t.apart q o k i (omega (arith, l), omega (arith, u, fit))))) (λ u. inr u) (cases_lt k (base o + y + length out))) (cases_lt k (base o + y)) in
    record {
      bytes = λ q i k. ⊎_elim
          (λ z. subst (λ n. i < size_of new n → memory.with_bytes b (base o + y) out (base n + i) ≡ slice_index (object_of new n).bytes i) (sym z) (λ k2.
          let within : i < size_of os o = subst (λ n. i < n) (alike o).size k2 in
          let d : base o + y - base o ≡ y = omega arith in
          let e : base o + i - base o ≡ i = omega arith in
          sym (ap (λ (n : Object). slice_index n.bytes i) one ∙ ap (λ n. slice_index (put_bytes (object_of os o).bytes n out) i) (sym d) ∙ ap (slice_index (put_bytes (object_of os o).bytes (base o + y - base o) out)) (sym e)
          ∙ listed_after (object_of os o).bytes (base o) b (base o + y) out (base o + i) (omega arith) (omega (arith, fit)) (omega arith) (ap (slice_index (object_of os o).bytes) e ∙ sym (t.bytes o i within)))) k)
          (λ z. let k2 : i < size_of os q = subst (λ n. i < n) (alike q).size k in outside b (base o + y) out (base q + i) (apart q (base q + i) z (omega arith, omega (arith, k2))) ∙ t.bytes q i k2 ∙ ap (λ (n : Object). slice_index n.bytes i) (sym (set_object_other os o q x z)))
          (cases_eq q o);
      aligned = λ q k. t.aligned q (sym (alike q).width ∙ k);
      lives = λ q k. lives_alike c.place (base q) (object_of os q) (object_of new q) (alike q) (t.lives q (subst (λ n. 1 ≤ n) (alike q).size k));
      apart = λ q p k i j. t.apart q p k (old q k i) (old p k j);
      own = λ q k n. let z = t.own q k (subst (λ n. 1 ≤ n) (alike q).size n) in let l = (alike q).size in let z1 = z.1 in (z.0, omega (arith, z1, l));
      statics = λ q k. let z = t.statics q k in let z0 = z.0 in (omega (arith, z0, count), z.1);
      forms = λ q k. form_alike (object_of os q) (object_of new q) (c.forms q) (alike q) (t.forms q k);
    }

set_self : {A : Type 0} (xs : List A) (i : ℕ) (d : A) → i < length xs → slice_set xs i (get_or xs i d) ≡ xs
set_self [] i d h = refl
set_self (x ∷ xs) zero d h = refl
set_self (x ∷ xs) (suc i) d h = ap (λ l. x ∷ l) (set_self xs i d (omega (arith, h)))

object_self : (os : List Object) (o : ℕ) → o < length os → slice_set os o (object_of os o) ≡ os
unfolding object_of
object_self os o h = set_self os o no_object h

none_at : (x : Object) (p : ℕ) → slot.with_bytes x p [] ≡ x
unfolding slot.with_bytes
none_at x p = by_test (nat_le (from_place x p + 0) (length x.bytes) && not x.fixed)
  where
    by_test : (q : Bool) → (if q then record x { bytes = put_bytes x.bytes (from_place x p) [] } else x) ≡ x
    by_test true = ap (λ bs. (let y : Object = record { bytes = bs; width = x.width; fixed = x.fixed } in y)) (put_bytes-none x.bytes (from_place x p))
    by_test false = refl

pub none_put : (c : Program) (base : Bases) (asked os : List Object) (x : Value) (w : ℕ) → length os ≡ length asked → Means c base asked x w → with_output os x [] ≡ os
none_put c base asked os (Int n) w l m = refl
none_put c base asked os (Forged n) w l m = refl
none_put c base asked os (Entry f) w l m = refl
none_put c base asked os (Pointer o p) w l m = let h = m.0 in ap (slice_set os o) (none_at (object_of os o) p) ∙ object_self os o (omega (arith, h, l))

all_at : (x : Object) (p : ℕ) (out : List ℕ) → from_place x p + length out ≤ length x.bytes → x.fixed ≡ false → slot.with_bytes x p out ≡ record x { bytes = put_bytes x.bytes (from_place x p) out }
unfolding slot.with_bytes
all_at x p out h f =
    let q : nat_le (from_place x p + length out) (length x.bytes) ≡ true = grind (arith, nat_tests) in
    rw (q, f) refl

means_same : (c : Program) (base : Bases) (asked os : List Object) (o p w : ℕ) → SameKind asked os → Means c base asked (Pointer o p) w → Means c base os (Pointer o p) w
means_same c base asked os o p w k m = (let h = m.0 in let l = k.shape.count in omega (arith, h, l), m.1 ∙ ap (λ (n : Width). (base o + bytes_of n * p) % 2 ^ 32) (sym (k.shape.widths o)))

-- One output, where the buffer that it goes to lies in its object.
pub output_put : (c : Program) (v : View) (b : Bytes) (base : Bases) (os asked : List Object) → IsPlace c.place → Sees c.place v b → AreShown c base os b → SameKind asked os
    → (x : Value) (w n : ℕ) (out : List ℕ) → lies_in asked true x n ≡ true → length out ≤ n → Means c base asked x w → AreBytes out → Delivered c base os (with_output os x out) v (with_stored v w out) b
unfolding with_stored lies_in
output_put c v b base os asked place sees t k x w n [] h le m small =
    subst (λ y. Delivered c base os y v v b) (sym (none_put c base asked os x w k.shape.count m)) (record { bytes = b; sees = sees; shown = t; only = only_none c.place v; kind = kind_same os; rest = λ a h. refl })
output_put c v b base os asked place sees t k (Int a) w n (y ∷ ys) h le m small = absurd (let z = zero_is n h in omega (arith, z, le))
output_put c v b base os asked place sees t k (Forged a) w n (y ∷ ys) h le m small = absurd (let z = zero_is n h in omega (arith, z, le))
output_put c v b base os asked place sees t k (Entry f) w n (y ∷ ys) h le m small = absurd (let z = zero_is n h in omega (arith, z, le))
output_put c v b base os asked place sees t k (Pointer o p) w n (y ∷ ys) h le m small =
    let out = y ∷ ys in
    let lies = pointer_lies asked true o p n (omega (arith, le)) h in
    let lies0 = lies.0 in
    let size = k.shape.sizes o in
    let off = from_place (object_of os o) p in
    let same : off ≡ from_place (object_of asked o) p = ap (λ (u : Width). bytes_of u * p) (k.shape.widths o) in
    let fit : off + length out ≤ size_of os o = omega (arith, same, lies0, size, le) in
    let free : (object_of os o).fixed ≡ false = k.fixed o ∙ free_is (object_of asked o).fixed lies.1 in
    let m2 = means_same c base asked os o p w k m in
    let to = led c v b base os place sees t o p w (length out) (omega arith) fit m2 in
    let there : 1 ≤ size_of os o = omega (arith, fit) in
    let known = m2.0 in
    let s = stored_bytes c.place out v (base o + off) b place small (lives_write c.place (base o) off (length out) (object_of os o) free fit (t.lives o there)) sees in
    let x2 = record (object_of os o) { bytes = put_bytes (object_of os o).bytes off out } in
    let e : slot.with_bytes (object_of os o) p out ≡ x2 = all_at (object_of os o) p out fit free in
    subst (λ z. Delivered c base os (slice_set os o z) v (with_stored v w out) b) (sym e)
    (subst (λ z. Delivered c base os (slice_set os o x2) v (with_stored v z out) b) (sym to.at)
    (record {
      bytes = memory.with_bytes b (base o + off) out;
      sees = s.sees;
      shown = one_put c base os b o off out known fit t;
      only = s.only;
      kind = kind_set os o x2 known (put_alike (object_of os o) off out fit);
      rest = λ a q. outside b (base o + off) out a (⊎_elim (λ z. inl z) (λ z. ⊎_elim (λ u. absurd (q o (omega (arith, z), omega (arith, u, fit)))) (λ u. inr u) (cases_lt a (base o + off + length out))) (cases_lt a (base o + off)));
    }))
