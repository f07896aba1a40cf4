-- What a store leaves of the bytes at addresses.
use Rattle.std.proofs.Common.{◌≡◌, ◌≢◌, ℕ, zero, suc, ◌+◌, ◌-◌, ◌/◌, ◌%◌, ◌^◌, ◌<◌, ◌≤◌, ◌⊎◌, inl, inr, List, [], ◌∷◌, length, Bool, true, false, Some, refl, sym, ap, ◌∙◌, subst, arith, ⊎_elim}
use Rattle.std.specs.Prelude.{slice_index, slice_set}
use Rattle.std.proofs.lemmas.Bool.{cases_eq}
use Rattle.std.proofs.lemmas.Bool.Decides.{nat_tests}
use Rattle.std.proofs.lemmas.List.{length-set, get_or-set_same, get_or-set_other}
use Rattle.nx_base.specs.ByteLists.{put_bytes, get_bytes, to_le, from_le}
use Rattle.nx_base.specs.Views.{Window, holds, find_bytes, put_in}
use Rattle.nx_base.proofs.Puts.{put_bytes-none, put_bytes-more, length-put_bytes, length-to_le, from_le-to_le}
use Rattle.nx_base.specs.Ranges.{Here, IsOff, Lies}
use Rattle.nx_shown.specs.Bytes.{Bytes, bytes_at, put, with_bytes, number_at, with_number}

pub put_same : (t : ℕ → ℕ) (k n j : ℕ) → j ≡ k → put t k n j ≡ n
put_same t k n j e = grind (arith, nat_tests)

pub put_other : (t : ℕ → ℕ) (k n j : ℕ) → j ≢ k → put t k n j ≡ t j
put_other t k n j o = grind (arith, nat_tests)

-- Bytes before and behind those that are put.
pub outside : (b : Bytes) (a : ℕ) (xs : List ℕ) (c : ℕ) → (c < a) ⊎ (a + length xs ≤ c) → with_bytes b a xs c ≡ b c
unfolding with_bytes
outside b a [] c o = refl
outside b a (x ∷ xs) c o =
    outside (put b a x) (a + 1) xs c (⊎_elim (λ l. inl (omega arith)) (λ l. inr (omega arith)) o)
    ∙ put_other b a x c (λ e. ⊎_elim (λ l. omega (arith, l, e)) (λ l. omega (arith, l, e)) o)

same_bytes : (b d : Bytes) (a n : ℕ) → ((c : ℕ) → a ≤ c → c < a + n → b c ≡ d c) → bytes_at b a n ≡ bytes_at d a n
unfolding bytes_at
same_bytes b d a zero h = refl
same_bytes b d a (suc n) h =
    ap (λ x. x ∷ bytes_at b (a + 1) n) (h a (omega arith) (omega arith))
    ∙ ap (λ l. d a ∷ l) (same_bytes b d (a + 1) n (λ c l m. h c (omega (arith, l)) (omega (arith, m))))

put_back : (b : Bytes) (a : ℕ) (xs : List ℕ) → bytes_at (with_bytes b a xs) a (length xs) ≡ xs
unfolding with_bytes bytes_at
put_back b a [] = refl
put_back b a (x ∷ xs) =
    ap (λ y. y ∷ bytes_at (with_bytes (put b a x) (a + 1) xs) (a + 1) (length xs)) (outside (put b a x) (a + 1) xs a (inl (omega arith)) ∙ put_same b a x a refl)
    ∙ ap (λ l. x ∷ l) (put_back (put b a x) (a + 1) xs)

-- The bytes of a list, as the function has them, before and after others are put.
pub listed : (bs : List ℕ) (start : ℕ) (b : Bytes) (a n : ℕ) → start ≤ a → ((c : ℕ) → a ≤ c → c < a + n → slice_index bs (c - start) ≡ b c) → get_bytes bs (a - start) n ≡ bytes_at b a n
unfolding bytes_at get_bytes
listed bs start b a zero l h = refl
listed bs start b a (suc n) l h =
    let e : a - start + 1 ≡ a + 1 - start = omega arith in
    ap (λ x. x ∷ get_bytes bs (a - start + 1) n) (h a (omega arith) (omega arith))
    ∙ ap (λ k. b a ∷ get_bytes bs k n) e
    ∙ ap (λ m. b a ∷ m) (listed bs start b (a + 1) n (omega arith) (λ c k m. h c (omega (arith, k)) (omega (arith, m))))

pub listed_after : (bs : List ℕ) (start : ℕ) (b : Bytes) (a : ℕ) (xs : List ℕ) (c : ℕ) → start ≤ a → a + length xs ≤ start + length bs → start ≤ c → slice_index bs (c - start) ≡ b c
    → slice_index (put_bytes bs (a - start) xs) (c - start) ≡ with_bytes b a xs c
unfolding with_bytes
listed_after bs start b a [] c l m k h = ap (λ ys. slice_index ys (c - start)) (put_bytes-none bs (a - start)) ∙ h
listed_after bs start b a (x ∷ xs) c l m k h =
    let e : a - start + 1 ≡ a + 1 - start = omega arith in
    let z = length-set bs (a - start) x in
    ap (λ ys. slice_index ys (c - start)) (put_bytes-more bs (a - start) x xs (omega arith))
    ∙ ap (λ i. slice_index (put_bytes (slice_set bs (a - start) x) i xs) (c - start)) e
    ∙ listed_after (slice_set bs (a - start) x) start (put b a x) (a + 1) xs c (omega arith) (omega (arith, z, m)) k
    (⊎_elim
    (λ q. let i : c - start ≡ a - start = omega (arith, q) in ap (slice_index (slice_set bs (a - start) x)) i ∙ get_or-set_same bs (a - start) x 0 (omega (arith, m)) ∙ sym (put_same b a x c q))
    (λ q. get_or-set_other bs (a - start) (c - start) x 0 (λ i. q (omega (arith, i, l, k))) ∙ h ∙ sym (put_other b a x c q))
    (cases_eq c a))

pub in_window : (w : Window) (low top a n : ℕ) → w.start ≤ low → top ≤ w.start + length w.bytes → low ≤ a → a + n ≤ top → holds w a n ≡ true
unfolding holds
in_window w low top a n f t l m = grind (arith, nat_tests)

pub off_window : (w : Window) (low top a n : ℕ) → IsOff w low top → low ≤ a → a + n ≤ top → 1 ≤ n → holds w a n ≡ false
unfolding holds
off_window w low top a n (inl o) l m p = grind (arith, nat_tests)
off_window w low top a n (inr o) l m p = grind (arith, nat_tests)

-- What is read of a part.
pub read : (ws : List Window) (written : Bool) (low top a n : ℕ) (b : Bytes) → low ≤ a → a + n ≤ top → 1 ≤ n → Lies ws written low top b → find_bytes (λ w. w.reads) ws a n ≡ Some (bytes_at b a n)
unfolding find_bytes
read [] written low top a n b l m p h = absurd h
read (w ∷ ws) written low top a n b l m p (inl h) =
    let q = in_window w low top a n h.from h.to l m in
    rw (q, h.reads) (ap Some (listed w.bytes w.start b a n (omega (arith, h.from)) (λ c k o. h.bytes c (omega (arith, k)) (omega (arith, o)))))
read (w ∷ ws) written low top a n b l m p (inr h) =
    let q = off_window w low top a n h.0 l m p in
    rw q (read ws written low top a n b l m p h.1)

same_here : (w : Window) (written : Bool) (low top : ℕ) (b d : Bytes) → ((c : ℕ) → low ≤ c → c < top → b c ≡ d c) → Here w written low top b → Here w written low top d
same_here w written low top b d e h = record {
  from = h.from;
  to = h.to;
  reads = h.reads;
  writes = h.writes;
  own = h.own;
  bytes = λ c k o. h.bytes c k o ∙ e c k o;
}

pub same_lies : (ws : List Window) (written : Bool) (low top : ℕ) (b d : Bytes) → ((c : ℕ) → low ≤ c → c < top → b c ≡ d c) → Lies ws written low top b → Lies ws written low top d
same_lies [] written low top b d e h = absurd h
same_lies (w ∷ ws) written low top b d e (inl h) = inl (same_here w written low top b d e h)
same_lies (w ∷ ws) written low top b d e (inr h) = inr (h.0, same_lies ws written low top b d e h.1)

-- A store into a part, and what it leaves of each part.
pub record Stored (ws : List Window) (a : ℕ) (xs : List ℕ) : Type 0 where
  pub new : List Window
  pub is : put_in ws a xs ≡ Some new
  pub kept : (written : Bool) (low top : ℕ) (d : Bytes) → Lies ws written low top d → Lies new written low top (with_bytes d a xs)

here_after : (w : Window) (written : Bool) (low top a : ℕ) (xs : List ℕ) (b : Bytes) → w.start ≤ a → a + length xs ≤ w.start + length w.bytes → Here w written low top b
    → Here (record w { bytes = put_bytes w.bytes (a - w.start) xs }) written low top (with_bytes b a xs)
here_after w written low top a xs b l m h =
    let z = length-put_bytes w.bytes (a - w.start) xs (omega arith) in
    record {
      from = h.from;
      to = omega (arith, z, h.to);
      reads = h.reads;
      writes = h.writes;
      own = h.own;
      bytes = λ c k o. listed_after w.bytes w.start b a xs c l m (omega (arith, h.from, k)) (h.bytes c k o);
    }

off_after : (w : Window) (low top i : ℕ) (xs : List ℕ) → i + length xs ≤ length w.bytes → IsOff w low top → IsOff (record w { bytes = put_bytes w.bytes i xs }) low top
off_after w low top i xs f (inl o) = let z = length-put_bytes w.bytes i xs f in inl (omega (arith, z, o))
off_after w low top i xs f (inr o) = inr o

apart : (w : Window) (low top a n c : ℕ) → IsOff w low top → w.start ≤ a → a + n ≤ w.start + length w.bytes → low ≤ c → c < top → (c < a) ⊎ (a + n ≤ c)
apart w low top a n c (inl o) f t k m = inr (omega arith)
apart w low top a n c (inr o) f t k m = inl (omega arith)

apart_too : (w : Window) (low top from to a n c : ℕ) → IsOff w low top → low ≤ a → a + n ≤ top → w.start ≤ from → to ≤ w.start + length w.bytes → from ≤ c → c < to → (c < a) ⊎ (a + n ≤ c)
apart_too w low top from to a n c (inl o) l m f t k u = inl (omega arith)
apart_too w low top from to a n c (inr o) l m f t k u = inr (omega arith)

pub stored : (ws : List Window) (low top a : ℕ) (xs : List ℕ) (b : Bytes) → low ≤ a → a + length xs ≤ top → 1 ≤ length xs → Lies ws true low top b → Stored ws a xs
unfolding put_in
stored [] low top a xs b l m p h = absurd h
stored (w ∷ ws) low top a xs b l m p (inl h) =
    let q = in_window w low top a (length xs) h.from h.to l m in
    record {
      new = record w { bytes = put_bytes w.bytes (a - w.start) xs } ∷ ws;
      is = rw (q, h.writes refl) refl;
      kept = each;
    }
  where
    each : (written : Bool) (from to : ℕ) (d : Bytes) → Lies (w ∷ ws) written from to d → Lies (record w { bytes = put_bytes w.bytes (a - w.start) xs } ∷ ws) written from to (with_bytes d a xs)
    each written from to d (inl k) = inl (here_after w written from to a xs d (omega (arith, h.from)) (omega (arith, h.to)) k)
    each written from to d (inr k) =
        inr (off_after w from to (a - w.start) xs (omega (arith, h.from, h.to)) k.0, same_lies ws written from to d (with_bytes d a xs) (λ c o u. sym (outside d a xs c (apart w from to a (length xs) c k.0 (omega (arith, h.from)) (omega (arith, h.to)) o u))) k.1)
stored (w ∷ ws) low top a xs b l m p (inr h) =
    let q = off_window w low top a (length xs) h.0 l m p in
    let s = stored ws low top a xs b l m p h.1 in
    record { new = w ∷ s.new; is = rw (q, s.is) refl; kept = each s }
  where
    each : (s : Stored ws a xs) (written : Bool) (from to : ℕ) (d : Bytes) → Lies (w ∷ ws) written from to d → Lies (w ∷ s.new) written from to (with_bytes d a xs)
    each s written from to d (inl k) =
        inl (same_here w written from to d (with_bytes d a xs) (λ c o u. sym (outside d a xs c (apart_too w low top from to a (length xs) c h.0 l m k.from k.to o u))) k)
    each s written from to d (inr k) = inr (k.0, s.kept written from to d k.1)

small_after : (b : Bytes) (a n x c : ℕ) → ((c : ℕ) → b c < 256) → with_bytes b a (to_le n x) c < 256
unfolding with_bytes to_le
small_after b a zero x c h = h c
small_after b a (suc n) x c h =
    small_after (put b a (x % 256)) (a + 1) n (x / 256) c
    (λ d. ⊎_elim (λ e. subst (λ y. y < 256) (sym (put_same b a (x % 256) d e)) (omega arith)) (λ e. subst (λ y. y < 256) (sym (put_other b a (x % 256) d e)) (h d)) (cases_eq d a))

-- Numbers at addresses.
pub same_number : (b d : Bytes) (a n : ℕ) → ((c : ℕ) → a ≤ c → c < a + n → b c ≡ d c) → number_at b a n ≡ number_at d a n
unfolding number_at
same_number b d a n h = ap from_le (same_bytes b d a n h)

pub number_put : (b : Bytes) (a n x : ℕ) → x < 256 ^ n → number_at (with_number b a n x) a n ≡ x
unfolding number_at with_number
number_put b a n x h =
    let e = length-to_le n x in
    ap (λ k. from_le (bytes_at (with_bytes b a (to_le n x)) a k)) (sym e) ∙ ap from_le (put_back b a (to_le n x)) ∙ from_le-to_le n x h

pub other_byte : (b : Bytes) (a n x c : ℕ) → (c < a) ⊎ (a + n ≤ c) → with_number b a n x c ≡ b c
unfolding with_number
other_byte b a n x c o = outside b a (to_le n x) c (⊎_elim (λ l. inl l) (λ l. inr (let e = length-to_le n x in omega (arith, e, l))) o)

pub other_number : (b : Bytes) (a n x c m : ℕ) → (c + m ≤ a) ⊎ (a + n ≤ c) → number_at (with_number b a n x) c m ≡ number_at b c m
other_number b a n x c m o = same_number (with_number b a n x) b c m (λ d l k. other_byte b a n x d (⊎_elim (λ u. inl (omega arith)) (λ u. inr (omega arith)) o))

pub small_number : (b : Bytes) (a n x c : ℕ) → ((c : ℕ) → b c < 256) → with_number b a n x c < 256
unfolding with_number
small_number b a n x c h = small_after b a n x c h

pub word_small : (b : Bytes) (a : ℕ) → ((c : ℕ) → b c < 256) → number_at b a 4 < 2 ^ 32
unfolding number_at bytes_at from_le
word_small b a h =
    let h0 = h a in let h1 = h (a + 1) in let h2 = h (a + 1 + 1) in let h3 = h (a + 1 + 1 + 1) in omega (arith, h0, h1, h2, h3)
