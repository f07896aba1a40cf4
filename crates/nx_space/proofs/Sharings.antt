-- What stays of the RAM and the groups of a space without pages.
use Rattle.std.proofs.Common.{◌≡◌, ◌≢◌, ℕ, zero, suc, ◌+◌, ◌-◌, ◌*◌, ◌<◌, ◌≤◌, ◌==◌, Bool, true, false, ◌||◌, ◌&&◌, List, [], ◌∷◌, ◌++◌, length, map, drop, get_or, Result, Ok, Err, refl, sym, ap, ◌∙◌, subst, arith, drop-cons}
use Rattle.std.specs.Prelude.{if◌then◌else◌, not, slice_index_or}
use Rattle.std.specs.List.{remove, All}
use Rattle.std.specs.Result.{IsOk, is_ok}
use Rattle.std.proofs.lemmas.Bool.Decides.{nat_tests}
use Rattle.std.proofs.lemmas.List.{drop_all, length-append}
use Rattle.std.proofs.lemmas.List.Elements.{All-push}
use Rattle.std.proofs.lemmas.List.Edits.{length-remove}
use Rattle.nx_base.specs.ByteLists.{AreBytes}
use Rattle.nx_ram.specs.declared.prog_image.ProgImage.{ProgImage}
use Rattle.nx_space.specs.declared.shared.Live.{Live}
use Rattle.nx_space.specs.World.{Part, group_of}
use Rattle.nx_space.specs.Starts.{no_program, program_of, regs_with, start_regs, thread_regs}
use Rattle.nx_space.specs.Shared.{Sharing, IsSharing, AreKnown, shared_group, shared_plan, has_live, place_of, are_distinct, both_hold}

is_number : (a b : ℕ) → a ≡ b → (a == b) ≡ true
is_number a b e = grind (arith, nat_tests)

no_number : (a b : ℕ) → a ≢ b → (a == b) ≡ false
no_number a b ne = grind (arith, nat_tests)

pub place_here : (lives : List Live) (i number : ℕ) (d : Live) → i < length lives → (get_or lives i d).number ≡ number → place_of (drop i lives) number ≡ 0
unfolding place_of
place_here lives i number d h e =
    ap (λ ls. place_of ls number) (drop-cons lives i d h) ∙ ap (λ b. if b then 0 else suc (place_of (drop (suc i) lives) number)) (is_number (get_or lives i d).number number e)

pub place_later : (lives : List Live) (i number : ℕ) (d : Live) → i < length lives → (get_or lives i d).number ≢ number → place_of (drop i lives) number ≡ suc (place_of (drop (i + 1) lives) number)
unfolding place_of
place_later lives i number d h ne =
    let e : suc i ≡ i + 1 = omega arith in
    ap (λ ls. place_of ls number) (drop-cons lives i d h)
    ∙ ap (λ b. if b then 0 else suc (place_of (drop (suc i) lives) number)) (no_number (get_or lives i d).number number ne)
    ∙ ap (λ k. suc (place_of (drop k lives) number)) e

pub place_none : (lives : List Live) (i number : ℕ) → length lives ≤ i → place_of (drop i lives) number ≡ 0
unfolding place_of
place_none lives i number h = ap (λ ls. place_of ls number) (drop_all i lives h)

pub live_inside : (lives : List Live) (number : ℕ) → has_live lives number ≡ true → place_of lives number < length lives
unfolding has_live place_of
live_inside [] number h = absurd cc
live_inside (l ∷ lives) number h = by_test (l.number == number) h (λ r. live_inside lives number r)
  where
    by_test : (b : Bool) → (b || has_live lives number) ≡ true → (has_live lives number ≡ true → place_of lives number < length lives) → (if b then 0 else suc (place_of lives number)) < suc (length lives)
    by_test true h more = omega arith
    by_test false h more = let m = more h in omega (arith, m)

-- other bytes in the RAM, as many as there were
pub kept_ram : (s : Sharing) (ram : List ℕ) → IsSharing s → length ram ≡ length s.ram → AreBytes ram → IsSharing (record s { ram = ram })
kept_ram s ram h l b = record {
  whole = h.whole ∙ sym l;
  bytes = b;
  fits = h.fits;
  few = h.few;
  distinct = h.distinct;
  known = h.known;
}

or_false : (a b : Bool) → (a || b) ≡ false → (a ≡ false) × (b ≡ false)
or_false true b h = absurd cc
or_false false b h = (refl, h)

same_test : (a b : ℕ) → (a == b) ≡ (b == a)
same_test a b = grind (arith, nat_tests)

live_push : (lives : List Live) (l : Live) (number : ℕ) → has_live lives number ≡ false → (l.number == number) ≡ false → has_live (lives ++ l ∷ []) number ≡ false
unfolding has_live
live_push [] l number h e = rw e refl
live_push (k ∷ lives) l number h e = let b = or_false (k.number == number) (has_live lives number) h in rw (b.0) (live_push lives l number b.1 e)

both : (a b : Bool) → a ≡ false → b ≡ true → (not a && b) ≡ true
both true b e f = absurd cc
both false b e f = f

distinct_push : (lives : List Live) (l : Live) → are_distinct lives ≡ true → has_live lives l.number ≡ false → are_distinct (lives ++ l ∷ []) ≡ true
unfolding has_live
distinct_push [] l h new = refl
distinct_push (k ∷ lives) l h new =
    let b = both_hold (has_live lives k.number) (are_distinct lives) h in
    let n = or_false (k.number == l.number) (has_live lives l.number) new in
    both (has_live (lives ++ l ∷ []) k.number) (are_distinct (lives ++ l ∷ [])) (live_push lives l k.number b.0 (same_test l.number k.number ∙ n.0)) (distinct_push lives l b.1 n.1)

pub kept_start : (s : Sharing) (ram : List ℕ) (lives : List Live) (l : Live) → IsSharing s → length ram ≡ length s.ram → AreBytes ram → lives ≡ s.live ++ l ∷ [] → has_live s.live l.number ≡ false → length s.live < s.threads → l.program < length s.programs → IsSharing (record s { ram = ram; live = lives })
kept_start s ram lives l h long bytes is new room known = record {
  whole = h.whole ∙ sym long;
  bytes = bytes;
  fits = h.fits;
  few = let n = length-append s.live (l ∷ []) in let m = ap length is in omega (arith, n, m);
  distinct = ap are_distinct is ∙ distinct_push s.live l h.distinct new;
  known = subst (AreKnown (length s.programs)) (sym is) (All-push (λ k. k.program < length s.programs) s.live l h.known known);
}

live_removed : (lives : List Live) (i number : ℕ) → has_live lives number ≡ false → has_live (remove lives i) number ≡ false
unfolding has_live
live_removed [] zero number h = refl
live_removed [] (suc i) number h = refl
live_removed (l ∷ lives) zero number h = (or_false (l.number == number) (has_live lives number) h).1
live_removed (l ∷ lives) (suc i) number h = let b = or_false (l.number == number) (has_live lives number) h in rw (b.0) (live_removed lives i number b.1)

distinct_removed : (lives : List Live) (i : ℕ) → are_distinct lives ≡ true → are_distinct (remove lives i) ≡ true
distinct_removed [] zero h = refl
distinct_removed [] (suc i) h = refl
distinct_removed (l ∷ lives) zero h = (both_hold (has_live lives l.number) (are_distinct lives) h).1
distinct_removed (l ∷ lives) (suc i) h =
    let b = both_hold (has_live lives l.number) (are_distinct lives) h in
    both (has_live (remove lives i) l.number) (are_distinct (remove lives i)) (live_removed lives i l.number b.0) (distinct_removed lives i b.1)

pub if_ok : {A B X : Type 0} (r : Result A B) (a b : X) → IsOk r → (if is_ok r then a else b) ≡ a
if_ok (Ok x) a b h = refl
if_ok (Err e) a b h = absurd cc

-- an element is known, or not yet asked for
known_first : (n : ℕ) (l : Live) (lives : List Live) → AreKnown n (l ∷ lives) → AreKnown n lives
known_first n l lives h = λ j d k. h (suc j) d (omega arith)

known_more : (n : ℕ) (l : Live) (lives : List Live) → l.program < n → AreKnown n lives → AreKnown n (l ∷ lives)
known_more n l lives p h zero d k = p
known_more n l lives p h (suc j) d k = h j d (omega arith)

known_removed : (n : ℕ) (lives : List Live) (i : ℕ) → AreKnown n lives → AreKnown n (remove lives i)
known_removed n [] zero h = h
known_removed n [] (suc i) h = h
known_removed n (l ∷ lives) zero h = known_first n l lives h
known_removed n (l ∷ lives) (suc i) h = known_more n l (remove lives i) (h zero l (omega arith)) (known_removed n lives i (known_first n l lives h))

pub kept_finish : (s : Sharing) (lives : List Live) (i : ℕ) → IsSharing s → i < length s.live → lives ≡ remove s.live i → IsSharing (record s { live = lives })
kept_finish s lives i h l is = record {
  whole = h.whole;
  bytes = h.bytes;
  fits = h.fits;
  few = let n = length-remove s.live i l in let m = ap length is in let f = h.few in omega (arith, n, m, f);
  distinct = ap are_distinct is ∙ distinct_removed s.live i h.distinct;
  known = subst (AreKnown (length s.programs)) (sym is) (known_removed (length s.programs) s.live i h.known);
}

-- the registers are those of the memory map
pub start_regs_shared : (s : Sharing) (place slot low : ℕ) (p : ProgImage) → p ≡ slice_index_or s.programs place no_program → low ≡ s.stacks_at + slot * s.stack → regs_with p.end_group low (low + s.stack) p.main ≡ start_regs (shared_plan [] 0 s) place slot
unfolding start_regs
start_regs_shared s place slot low p e f =
    ap (λ q. regs_with q.end_group low (low + s.stack) q.main) e
    ∙ ap (λ l. regs_with (slice_index_or s.programs place no_program).end_group l (l + s.stack) (slice_index_or s.programs place no_program).main) f

pub thread_regs_shared : (s : Sharing) (place slot low : ℕ) (p : ProgImage) → p ≡ slice_index_or s.programs place no_program → low ≡ s.stacks_at + slot * s.stack → regs_with p.end_thread low (low + s.stack) 0 ≡ thread_regs (shared_plan [] 0 s) place slot
unfolding thread_regs
thread_regs_shared s place slot low p e f =
    ap (λ q. regs_with q.end_thread low (low + s.stack) 0) e
    ∙ ap (λ l. regs_with (slice_index_or s.programs place no_program).end_thread l (l + s.stack) 0) f

-- the program of the group that was found
pub program_found : (ps : List Part) (lives : List Live) (number : ℕ) (d : Live) → has_live lives number ≡ true → program_of (map (shared_group ps) lives) number ≡ (get_or lives (place_of lives number) d).program
unfolding has_live place_of group_of
program_found ps [] number d h = absurd cc
program_found ps (l ∷ lives) number d h = by_test (l.number == number) h (λ r. program_found ps lives number d r)
  where
    by_test : (b : Bool) → (b || has_live lives number) ≡ true → (has_live lives number ≡ true → program_of (map (shared_group ps) lives) number ≡ (get_or lives (place_of lives number) d).program) → (if b then shared_group ps l else group_of (map (shared_group ps) lives) number).program ≡ (get_or (l ∷ lives) (if b then 0 else suc (place_of lives number)) d).program
    by_test true h more = refl
    by_test false h more = more h
