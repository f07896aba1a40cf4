-- Bytes that a view shows are good, and are what is read.
use Rattle.std.proofs.Common.{◌≡◌, ℕ, zero, suc, ◌+◌, ◌^◌, ◌≤◌, inl, inr, List, [], ◌∷◌, Bool, true, false, Some, refl, ap, ◌∙◌, arith}
use Rattle.std.specs.Prelude.{◌==◌, ◌&&◌, ◌||◌, not, nat_le}
use Rattle.std.proofs.lemmas.Bool.Decides.{nat_tests}
use Rattle.nx_base.specs.declared.access.Access.TheVariants.{Load, Store}
use Rattle.nx_base.specs.ByteLists.{from_le}
use Rattle.nx_base.specs.Views.{Window, View, find_bytes}
use Rattle.nx_base.specs.Ranges.{Here, Lies}
use Rattle.nx_base.specs.Good.{serves, is_found, all_found, is_good, number_of_found, shown_byte, shown_bytes}
use Rattle.nx_shown.specs.Bytes.{Bytes, bytes_at}
use Rattle.nx_shown.proofs.Stores.{in_window, off_window, listed}

found_one : (may : Window → Bool) (ws : List Window) (written : Bool) (low top a : ℕ) (b : Bytes) → ((w : Window) → Here w written low top b → may w ≡ true) → low ≤ a → a + 1 ≤ top → Lies ws written low top b → find_bytes may ws a 1 ≡ Some (bytes_at b a 1)
unfolding find_bytes
found_one may [] written low top a b m l t h = absurd h
found_one may (w ∷ ws) written low top a b m l t (inl h) =
    let q = in_window w low top a 1 h.from h.to l t in
    rw (q, m w h) (ap Some (listed w.bytes w.start b a 1 (omega (arith, h.from, l)) (λ c k o. h.bytes c (omega (arith, k, l)) (omega (arith, o, t)))))
found_one may (w ∷ ws) written low top a b m l t (inr h) =
    let q = off_window w low top a 1 h.0 l t (omega arith) in
    rw q (found_one may ws written low top a b m l t h.1)

all_good : (may : Window → Bool) (ws : List Window) (written : Bool) (low top a n : ℕ) (b : Bytes) → ((w : Window) → Here w written low top b → may w ≡ true) → low ≤ a → a + n ≤ top → Lies ws written low top b → all_found may ws a n ≡ true
unfolding all_found
all_good may ws written low top a zero b m l t h = refl
all_good may ws written low top a (suc n) b m l t h =
    let e = found_one may ws written low top a b m l (omega (arith, t)) h in
    rw (ap is_found e) (all_good may ws written low top (a + 1) n b m (omega (arith, l)) (omega (arith, t)) h)

or_true : (x y : Bool) → y ≡ true → (x || y) ≡ true
or_true true y e = refl
or_true false y e = e

both_true : (x y : Bool) → x ≡ true → y ≡ true → (x && y) ≡ true
both_true true y e f = f
both_true false y e f = absurd cc

pub good_to_load : (v : View) (written : Bool) (low top a n : ℕ) (b : Bytes) → top ≤ 2 ^ 32 → low ≤ a → a + n ≤ top → Lies v.windows written low top b → is_good v a n Load ≡ true
unfolding is_good
good_to_load v written low top a n b fit l t h =
    let le : nat_le (a + n) (2 ^ 32) ≡ true = grind (arith, nat_tests) in
    or_true (n == 0) _ (both_true (nat_le (a + n) (2 ^ 32)) _ le (all_good (serves Load) v.windows written low top a n b (λ w k. both_true w.reads (not w.region) k.reads (ap not k.own)) l t h))

pub good_to_store : (v : View) (low top a n : ℕ) (b : Bytes) → top ≤ 2 ^ 32 → low ≤ a → a + n ≤ top → Lies v.windows true low top b → is_good v a n Store ≡ true
unfolding is_good
good_to_store v low top a n b fit l t h =
    let le : nat_le (a + n) (2 ^ 32) ≡ true = grind (arith, nat_tests) in
    or_true (n == 0) _ (both_true (nat_le (a + n) (2 ^ 32)) _ le (all_good (serves Store) v.windows true low top a n b (λ w k. both_true w.writes (not w.region) (k.writes refl) (ap not k.own)) l t h))

pub byte_read : (v : View) (written : Bool) (low top a : ℕ) (b : Bytes) → low ≤ a → a + 1 ≤ top → Lies v.windows written low top b → shown_byte v a ≡ b a
unfolding shown_byte bytes_at from_le
byte_read v written low top a b l t h = ap number_of_found (found_one (λ w. w.reads) v.windows written low top a b (λ w k. k.reads) l t h) ∙ omega arith

pub bytes_read : (v : View) (written : Bool) (low top a n : ℕ) (b : Bytes) → low ≤ a → a + n ≤ top → Lies v.windows written low top b → shown_bytes v a n ≡ bytes_at b a n
unfolding shown_bytes bytes_at
bytes_read v written low top a zero b l t h = refl
bytes_read v written low top a (suc n) b l t h =
    ap (λ x. x ∷ shown_bytes v (a + 1) n) (byte_read v written low top a b l (omega (arith, t)) h)
    ∙ ap (λ xs. b a ∷ xs) (bytes_read v written low top (a + 1) n b (omega (arith, l)) (omega (arith, t)) h)
