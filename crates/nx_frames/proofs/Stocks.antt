-- Frames that are taken, given back and joined.
use Rattle.std.proofs.Common.{◌≡◌, ◌≢◌, ℕ, suc, ◌+◌, ◌-◌, ◌*◌, ◌^◌, ◌<◌, ◌≤◌, List, ◌++◌, length, refl, sym, ap, ◌∙◌, subst, arith}
use Rattle.std.specs.Prelude.{slice_set}
use Rattle.std.proofs.lemmas.List.{length-set, length-append}
use Rattle.nx_frames.specs.declared.frames.Taken.{Taken}
use Rattle.nx_frames.specs.Chains.{address, chain, frame_after, Each, AreOnce, AreApart, IsFrame}
use Rattle.nx_frames.specs.Zeros.{AreZeroed}
use Rattle.nx_frames.specs.Stock.{Stock, AreStocked, Holds, Keeps, Takes}
use Rattle.nx_frames.proofs.Lists.{each_append, each_parts, apart_sym, apart_append, apart_parts, once_append, once_left, once_right, once_apart}
use Rattle.nx_frames.proofs.Counts.{few_frames}
use Rattle.nx_frames.proofs.Chains.{length-chain, chain_more, chain_stays, after_stays, last_apart, last_below, linked, linked_last}

abbrev pub stock : ℕ → List ℕ → List ℕ → Stock
stock first next free = record { first = first; next = next; free = free }

each_set : (first : ℕ) (next : List ℕ) (tail to : ℕ) (xs : List ℕ) → Each (IsFrame first (length next)) xs → Each (IsFrame first (length (slice_set next tail to))) xs
each_set first next tail to xs h = subst (λ k. Each (IsFrame first k) xs) (sym (length-set next tail to)) h

-- what a new link of a frame keeps of what was taken without that frame
keeps_link : (first : ℕ) (next : List ℕ) (tail to : ℕ) (free after : List ℕ) (u : Taken) → Holds (stock first next free) u → Each (λ a. a ≢ address first tail) (chain first next u.head u.count) → AreApart (chain first next u.head u.count) after → Keeps (stock first next free) (stock first (slice_set next tail to) after) u
keeps_link first next tail to free after u h ne apart =
    let e = chain_stays first next tail to u.head u.count ne in
    record {
      holds = record {
        frames = subst (Each (IsFrame first (length (slice_set next tail to)))) (sym e) (each_set first next tail to (chain first next u.head u.count) h.frames);
        once = subst AreOnce (sym e) h.once;
        apart = subst (λ xs. AreApart xs after) (sym e) apart;
        last = λ one. let s : u.count ≡ suc (u.count - 1) = omega (arith, one) in h.last one ∙ sym (after_stays first next tail to u.head (u.count - 1) (subst (λ k. Each (λ a. a ≢ address first tail) (chain first next u.head k)) s ne));
      };
      frames = e;
    }

tail_below : (first : ℕ) (next free : List ℕ) (t : Taken) → Holds (stock first next free) t → 1 ≤ t.count → t.tail < length next
tail_below first next free t h one = last_below first next t.tail t.head t.count one (h.last one) h.frames

-- given back, frames stand before the free ones
pub give_free : (first : ℕ) (next : List ℕ) (head free : ℕ) (t : Taken) → Holds (stock first next (chain first next head free)) t → 1 ≤ t.count → chain first (slice_set next t.tail head) t.head (free + t.count) ≡ chain first next t.head t.count ++ chain first next head free
give_free first next head free t h one =
    let e : free + t.count ≡ t.count + free = omega arith in
    ap (chain first (slice_set next t.tail head) t.head) e
    ∙ linked first next t.tail head t.head t.count free one (tail_below first next (chain first next head free) t h one) h.once (h.last one) h.apart

pub give_stocked : (first : ℕ) (next : List ℕ) (head free : ℕ) (t : Taken) → AreStocked first next (chain first next head free) → Holds (stock first next (chain first next head free)) t → 1 ≤ t.count → AreStocked first (slice_set next t.tail head) (chain first (slice_set next t.tail head) t.head (free + t.count))
give_stocked first next head free t s h one =
    subst (AreStocked first (slice_set next t.tail head)) (sym (give_free first next head free t h one)) (record {
      frames = each_set first next t.tail head (chain first next t.head t.count ++ chain first next head free) (each_append (IsFrame first (length next)) (chain first next t.head t.count) (chain first next head free) h.frames s.frames);
      once = once_append (chain first next t.head t.count) (chain first next head free) h.once s.once h.apart;
      low = s.low;
      fits = let l = length-set next t.tail head in let f = s.fits in omega (arith, l, f);
    })

pub give_others : (first : ℕ) (next : List ℕ) (head free : ℕ) (t u : Taken) → Holds (stock first next (chain first next head free)) t → 1 ≤ t.count → Holds (stock first next (chain first next head free)) u → AreApart (chain first next t.head t.count) (chain first next u.head u.count) → Keeps (stock first next (chain first next head free)) (stock first (slice_set next t.tail head) (chain first (slice_set next t.tail head) t.head (free + t.count))) u
give_others first next head free t u h one k apart =
    let us = chain first next u.head u.count in
    let ts = chain first next t.head t.count in
    let fs = chain first next head free in
    subst (λ xs. Keeps (stock first next fs) (stock first (slice_set next t.tail head) xs) u) (sym (give_free first next head free t h one))
    (keeps_link first next t.tail head fs (ts ++ fs) u k (last_apart first next t.tail t.head t.count us one (h.last one) apart) (apart_append us ts fs (apart_sym ts us apart) k.apart))

-- two that are apart have no more frames than there are
pub few_together : (first : ℕ) (next xs ys : List ℕ) → Each (IsFrame first (length next)) xs → Each (IsFrame first (length next)) ys → AreOnce xs → AreOnce ys → AreApart xs ys → length xs + length ys ≤ length next
few_together first next xs ys f g h k apart =
    let l = length-append xs ys in
    let n = few_frames first (length next) (xs ++ ys) (once_append xs ys h k apart) (each_append (IsFrame first (length next)) xs ys f g) in
    omega (arith, l, n)

pub give_few : (first : ℕ) (next : List ℕ) (head free : ℕ) (t : Taken) → AreStocked first next (chain first next head free) → Holds (stock first next (chain first next head free)) t → free + t.count < 2 ^ 32
give_few first next head free t s h =
    let n = few_together first next (chain first next t.head t.count) (chain first next head free) h.frames s.frames h.once s.once h.apart in
    let a = length-chain first next t.head t.count in
    let b = length-chain first next head free in
    let f = s.fits in
    omega (arith, n, a, b, f)

-- joined, the frames of the second stand after those of the first
pub join_frames : (first : ℕ) (next free : List ℕ) (t m : Taken) → Holds (stock first next free) t → 1 ≤ t.count → AreApart (chain first next t.head t.count) (chain first next m.head m.count) → chain first (slice_set next t.tail m.head) t.head (t.count + m.count) ≡ chain first next t.head t.count ++ chain first next m.head m.count
join_frames first next free t m h one apart =
    linked first next t.tail m.head t.head t.count m.count one (tail_below first next free t h one) h.once (h.last one) apart

pub join_free : (first : ℕ) (next : List ℕ) (head free to : ℕ) (t : Taken) → Holds (stock first next (chain first next head free)) t → 1 ≤ t.count → chain first (slice_set next t.tail to) head free ≡ chain first next head free
join_free first next head free to t h one =
    chain_stays first next t.tail to head free (last_apart first next t.tail t.head t.count (chain first next head free) one (h.last one) h.apart)

pub join_stocked : (first : ℕ) (next : List ℕ) (head free to : ℕ) (t : Taken) → AreStocked first next (chain first next head free) → Holds (stock first next (chain first next head free)) t → 1 ≤ t.count → AreStocked first (slice_set next t.tail to) (chain first (slice_set next t.tail to) head free)
join_stocked first next head free to t s h one =
    subst (AreStocked first (slice_set next t.tail to)) (sym (join_free first next head free to t h one)) (record {
      frames = each_set first next t.tail to (chain first next head free) s.frames;
      once = s.once;
      low = s.low;
      fits = let l = length-set next t.tail to in let f = s.fits in omega (arith, l, f);
    })

pub join_holds : (first : ℕ) (next : List ℕ) (head free : ℕ) (t m : Taken) → Holds (stock first next (chain first next head free)) t → Holds (stock first next (chain first next head free)) m → AreApart (chain first next t.head t.count) (chain first next m.head m.count) → 1 ≤ t.count → 1 ≤ m.count → Holds (stock first (slice_set next t.tail m.head) (chain first (slice_set next t.tail m.head) head free)) (record { head = t.head; tail = m.tail; count = t.count + m.count })
join_holds first next head free t m h k apart one some =
    let ts = chain first next t.head t.count in
    let ms = chain first next m.head m.count in
    let fs = chain first next head free in
    let e = join_frames first next fs t m h one apart in
    record {
      frames = subst (Each (IsFrame first (length (slice_set next t.tail m.head)))) (sym e) (each_set first next t.tail m.head (ts ++ ms) (each_append (IsFrame first (length next)) ts ms h.frames k.frames));
      once = subst AreOnce (sym e) (once_append ts ms h.once k.once apart);
      apart = subst (λ xs. AreApart xs (chain first (slice_set next t.tail m.head) head free)) (sym e) (subst (AreApart (ts ++ ms)) (sym (join_free first next head free m.head t h one)) (each_append (λ x. Each (λ y. y ≢ x) fs) ts ms h.apart k.apart));
      last = λ more. k.last some ∙ sym (linked_last first next t.tail m.head t.head t.count m.count one some (tail_below first next fs t h one) h.once (h.last one) apart);
    }

pub join_others : (first : ℕ) (next : List ℕ) (head free to : ℕ) (t u : Taken) → Holds (stock first next (chain first next head free)) t → 1 ≤ t.count → Holds (stock first next (chain first next head free)) u → AreApart (chain first next t.head t.count) (chain first next u.head u.count) → Keeps (stock first next (chain first next head free)) (stock first (slice_set next t.tail to) (chain first (slice_set next t.tail to) head free)) u
join_others first next head free to t u h one k apart =
    let us = chain first next u.head u.count in
    let fs = chain first next head free in
    subst (λ xs. Keeps (stock first next fs) (stock first (slice_set next t.tail to) xs) u) (sym (join_free first next head free to t h one))
    (keeps_link first next t.tail to fs fs u k (last_apart first next t.tail t.head t.count us one (h.last one) apart) k.apart)

pub join_few : (first : ℕ) (next free : List ℕ) (t m : Taken) → first + 4096 * length next ≤ 2 ^ 32 → Holds (stock first next free) t → Holds (stock first next free) m → AreApart (chain first next t.head t.count) (chain first next m.head m.count) → t.count + m.count < 2 ^ 32
join_few first next free t m f h k apart =
    let n = few_together first next (chain first next t.head t.count) (chain first next m.head m.count) h.frames k.frames h.once k.once apart in
    let a = length-chain first next t.head t.count in
    let b = length-chain first next m.head m.count in
    omega (arith, n, a, b, f)

-- the first free frames, and those that are left
pub take_order : (first : ℕ) (next : List ℕ) (head free n at : ℕ) → n ≤ free → at ≡ frame_after next head n → chain first next head free ≡ chain first next head n ++ chain first next at (free - n)
take_order first next head free n at l e =
    let s : free ≡ n + (free - n) = omega (arith, l) in
    ap (chain first next head) s ∙ chain_more first next head n (free - n) ∙ ap (λ k. chain first next head n ++ chain first next k (free - n)) (sym e)

pub take_stocked : (first : ℕ) (next : List ℕ) (head free n at : ℕ) → n ≤ free → at ≡ frame_after next head n → AreStocked first next (chain first next head free) → AreStocked first next (chain first next at (free - n))
take_stocked first next head free n at l e s =
    let o = take_order first next head free n at l e in
    record {
      frames = (each_parts (IsFrame first (length next)) (chain first next head n) (chain first next at (free - n)) (subst (Each (IsFrame first (length next))) o s.frames)).1;
      once = once_right (chain first next head n) (chain first next at (free - n)) (subst AreOnce o s.once);
      low = s.low;
      fits = s.fits;
    }

pub takes : (first : ℕ) (next : List ℕ) (head free n at tail : ℕ) (ram after : List ℕ) → n ≤ free → at ≡ frame_after next head n → (1 ≤ n → tail ≡ frame_after next head (n - 1)) → AreStocked first next (chain first next head free) → AreZeroed ram after (chain first next head n) → Takes (stock first next (chain first next head free)) (stock first next (chain first next at (free - n))) ram after n (record { head = head; tail = tail; count = n })
takes first next head free n at tail ram after l e last s zeroed =
    let o = take_order first next head free n at l e in
    let ts = chain first next head n in
    let fs = chain first next at (free - n) in
    let once = subst AreOnce o s.once in
    record {
      order = o;
      count = refl;
      holds = record {
        frames = (each_parts (IsFrame first (length next)) ts fs (subst (Each (IsFrame first (length next))) o s.frames)).0;
        once = once_left ts fs once;
        apart = once_apart ts fs once;
        last = last;
      };
      zeroed = zeroed;
      others = λ u h.
          let us = chain first next u.head u.count in
          let a = apart_parts us ts fs (subst (AreApart us) o h.apart) in
          (record { holds = record { frames = h.frames; once = h.once; apart = a.1; last = h.last }; frames = refl }, a.0);
    }
