-- A chain that gets one zero longer.
use Rattle.std.proofs.Common.{◌≡◌, ◌≢◌, ℕ, suc, ◌+◌, ◌-◌, ◌*◌, ◌/◌, ◌%◌, ◌<◌, ◌≤◌, List, [], ◌∷◌, ◌++◌, length, map, refl, sym, ap, ◌∙◌, subst, arith}
use Rattle.std.specs.Prelude.{slice_index, slice_set, nat_lt, Option, Some, option_to_list}
use Rattle.std.specs.List.{range_with_len}
use Rattle.std.proofs.lemmas.List.{length-set, get_or-set_same, get_or-set_other, length_push}
use Rattle.std.proofs.lemmas.List.FromFn.{map-range_with_len_more}
use Rattle.nx_pool.specs.declared.chain.Chain.{Chain}
use Rattle.nx_pool.specs.Chains.{blocks_for, one_if, occurs, blocks_from, block_at, blocks_of, byte_at, content_of, IsApart, AreApart}
use Rattle.nx_pool.specs.Effects.{Becomes}
use Rattle.nx_pool.proofs.LinkLemmas.{occurs-append, occurs-one, one_if-same, one_if-small, one_if-below, uses-append, uses-cons, total_blocks-append, total_blocks-cons, blocks_from-more, block_at-more, OtherLinksStay, other_bytes_stay, block_at-stays, blocks_from-stays, uses-stays, occurs-block_at, other_block, blocks_differ, map-range, contents-stay, alone, apart_once, apart_inside}

-- one zero more in the block x, where the link of the block b alone may have changed
pub record Grows (next next' free free' : List ℕ) (b x : ℕ) (c c' : Chain) : Type 0 where
  pub len : length next' ≡ length next
  pub inside : x < length next
  pub links : OtherLinksStay b next next'
  pub long : c'.bytes ≡ c.bytes + 1
  pub same : (k : ℕ) → k < blocks_for c.bytes → block_at next' c'.first k ≡ block_at next c.first k
  pub last : block_at next' c'.first (c.bytes / 64) ≡ x
  pub fresh : (k : ℕ) → k < blocks_for c.bytes → k ≢ c.bytes / 64 → block_at next c.first k ≢ x
  pub count : (q : ℕ) → occurs q (blocks_of next' c') + occurs q free' ≡ occurs q (blocks_of next c) + occurs q free
  pub filled : length free' + blocks_for c'.bytes ≡ length free + blocks_for c.bytes
  pub own_b : 1 ≤ occurs b free + occurs b (blocks_of next c)
  pub own_x : 1 ≤ occurs x free + occurs x (blocks_of next c)

content_grows : (next next' free free' bytes : List ℕ) (b x : ℕ) (c c' : Chain) → Grows next next' free free' b x c c' → length bytes ≡ 64 * length next → content_of (slice_set bytes (64 * x + c.bytes % 64) 0) next' c' ≡ content_of bytes next c ++ 0 ∷ []
unfolding content_of
content_grows next next' free free' bytes b x c c' g whole =
    let n = c.bytes in
    let bytes' = slice_set bytes (64 * x + n % 64) 0 in
    let f' = byte_at bytes' next' c' in
    let inside = g.inside in
    let e1 = ap (λ m. map f' (range_with_len 0 m)) g.long in
    let e2 = map-range_with_len_more f' 0 n n (omega arith) in
    let e3 : map f' (range_with_len 0 n) ≡ map (byte_at bytes next c) (range_with_len 0 n) =
    map-range f' (byte_at bytes next c) 0 n (λ p l.
    let block = block_at next c.first (p / 64) in
    ap (λ q. slice_index bytes' (64 * q + p % 64)) (g.same (p / 64) (omega arith))
    ∙ get_or-set_other bytes (64 * x + n % 64) (64 * block + p % 64) 0 0 (λ e.
    let at_x : block ≡ x = omega arith in
    let rest : p % 64 ≡ n % 64 = omega arith in
    g.fresh (p / 64) (omega arith) (λ q. omega arith) at_x)) in
    let e4 : f' n ≡ 0 = ap (λ q. slice_index bytes' (64 * q + n % 64)) g.last ∙ get_or-set_same bytes (64 * x + n % 64) 0 0 (omega arith) in
    e1 ∙ e2 ∙ ap (λ xs. xs ++ f' n ∷ []) e3 ∙ ap (λ v. map (byte_at bytes next c) (range_with_len 0 n) ++ v ∷ []) e4

grown : (next next' free free' bytes : List ℕ) (b x : ℕ) (c c' : Chain) → Grows next next' free free' b x c c' → length bytes ≡ 64 * length next
    → Becomes (AreApart next free) (AreApart next' free') (content_of bytes next) (content_of (slice_set bytes (64 * x + c.bytes % 64) 0) next') c c' (content_of bytes next c ++ 0 ∷ [])
grown next next' free free' bytes b x c c' g whole =
    let bytes' = slice_set bytes (64 * x + c.bytes % 64) 0 in
    let stay = other_bytes_stay bytes x (c.bytes % 64) 0 (omega arith) in
    let filled = g.filled in
    let len = g.len in
    record {
      held = λ xs ys a.
          let none = alone next free xs ys c b a g.own_b in
          record {
            once = λ q. omega (
              arith,
              a.once q,
              uses-append next q xs (c ∷ ys),
              uses-cons next q c ys,
              uses-append next' q xs (c' ∷ ys),
              uses-cons next' q c' ys,
              uses-stays b next next' xs g.links (omega arith) q,
              uses-stays b next next' ys g.links (omega arith) q,
              g.count q,
              ap (λ m. one_if (nat_lt q m)) g.len,
            );
            counted = omega (arith, a.counted, total_blocks-append xs (c ∷ ys), total_blocks-cons c ys, total_blocks-append xs (c' ∷ ys), total_blocks-cons c' ys);
          };
      others = λ xs ys a.
          let no_b = alone next free xs ys c b a g.own_b in
          let no_x = alone next free xs ys c x a g.own_x in
          record {
            before = contents-stay b x next next' bytes bytes' xs g.links stay (omega arith) (omega arith);
            after = contents-stay b x next next' bytes bytes' ys g.links stay (omega arith) (omega arith);
          };
      own = content_grows next next' free free' bytes b x c c' g whole;
    }

stays_apart : (next next' free free' : List ℕ) (b x : ℕ) (c c' : Chain) → Grows next next' free free' b x c c' → IsApart next free c → IsApart next' free' c'
stays_apart next next' free free' b x c c' g a = record { once = λ q. omega (arith, a.once q, g.count q, ap (λ m. one_if (nat_lt q m)) g.len) }

-- the chain with one byte more, from the same first block
abbrev pub longer : Chain → Chain
longer c = record { first = c.first; bytes = c.bytes + 1 }

-- ---- in the last block

grows_inside : (next free : List ℕ) (c : Chain) → IsApart next free c → c.bytes % 64 ≢ 0
    → Grows next next free free (block_at next c.first (c.bytes / 64)) (block_at next c.first (c.bytes / 64)) c (longer c)
grows_inside next free c h part =
    let k = c.bytes / 64 in
    let x = block_at next c.first k in
    let n = blocks_for c.bytes in
    let some : 0 < c.bytes % 64 = omega arith in
    let in_path : 1 ≤ occurs x (blocks_of next c) = occurs-block_at next c.first n k (omega arith) in
    let more : blocks_for (c.bytes + 1) ≡ n = omega arith in
    record {
      len = refl;
      inside = apart_inside next free c h k (omega arith);
      links = λ q ne. refl;
      long = refl;
      same = λ q l. refl;
      last = refl;
      fresh = λ q l ne. blocks_differ next c.first n (apart_once next free c h) q k (omega arith) (omega arith);
      count = λ q. ap (λ m. occurs q (blocks_from next c.first m) + occurs q free) more;
      filled = ap (λ m. length free + m) more;
      own_b = omega arith;
      own_x = omega arith;
    }

pub inside_becomes : (next free bytes : List ℕ) (last : ℕ) (c : Chain) → length bytes ≡ 64 * length next → IsApart next free c → c.bytes % 64 ≢ 0 → last ≡ block_at next c.first ((c.bytes - 1) / 64)
    → Becomes (AreApart next free) (AreApart next free) (content_of bytes next) (content_of (slice_set bytes (64 * last + c.bytes % 64) 0) next) c (longer c) (content_of bytes next c ++ 0 ∷ [])
inside_becomes next free bytes last c whole h part is =
    let k : (c.bytes - 1) / 64 ≡ c.bytes / 64 = omega arith in
    let e : block_at next c.first (c.bytes / 64) ≡ last = sym (is ∙ ap (block_at next c.first) k) in
    subst (λ q. Becomes (AreApart next free) (AreApart next free) (content_of bytes next) (content_of (slice_set bytes (64 * q + c.bytes % 64) 0) next) c (longer c) (content_of bytes next c ++ 0 ∷ [])) e
    (grown _ _ _ _ bytes _ _ _ _ (grows_inside next free c h part) whole)

pub inside_apart : (next free : List ℕ) (c : Chain) → IsApart next free c → c.bytes % 64 ≢ 0 → IsApart next free (longer c)
inside_apart next free c h part = stays_apart _ _ _ _ _ _ _ _ (grows_inside next free c h part) h

pub last_inside : (next free : List ℕ) (last : ℕ) (c : Chain) → IsApart next free c → 0 < c.bytes → last ≡ block_at next c.first ((c.bytes - 1) / 64) → last < length next
last_inside next free last c h some is = subst (λ q. q < length next) (sym is) (apart_inside next free c h ((c.bytes - 1) / 64) (omega arith))

-- ---- what is popped

pub popped : (free free' : List ℕ) (o : Option ℕ) (x : ℕ) → free ≡ free' ++ option_to_list o → o ≡ Some x → free ≡ free' ++ x ∷ []
popped free free' o x e s = e ∙ ap (λ q. free' ++ option_to_list q) s

pub occurs-popped : (q x : ℕ) (free free' : List ℕ) → free ≡ free' ++ x ∷ [] → occurs q free ≡ occurs q free' + occurs q (x ∷ [])
occurs-popped q x free free' e = ap (occurs q) e ∙ occurs-append q free' (x ∷ [])

pub one-popped : (x : ℕ) (free free' : List ℕ) → free ≡ free' ++ x ∷ [] → occurs x free ≡ occurs x free' + 1
one-popped x free free' e = omega (arith, occurs-popped x x free free' e, occurs-one x x, one_if-same x)

pub popped_inside : (next free free' : List ℕ) (x : ℕ) (c : Chain) → IsApart next free c → free ≡ free' ++ x ∷ [] → x < length next
popped_inside next free free' x c h e = one_if-below x (length next) (omega (arith, h.once x, one-popped x free free' e))

-- ---- the first block

-- a chain of one byte
abbrev pub begun : ℕ → Chain
begun x = record { first = x; bytes = 1 }

grows_first : (next free free' : List ℕ) (x : ℕ) (c : Chain) → IsApart next free c → c.bytes ≡ 0 → free ≡ free' ++ x ∷ []
    → Grows next next free free' x x c (begun x)
unfolding blocks_from block_at occurs
grows_first next free free' x c h none is =
    let none_for : blocks_for c.bytes ≡ 0 = omega arith in
    let at : c.bytes / 64 ≡ 0 = omega arith in
    record {
      len = refl;
      inside = popped_inside next free free' x c h is;
      links = λ q ne. refl;
      long = omega arith;
      same = λ q l. absurd (omega arith);
      last = ap (block_at next x) at;
      fresh = λ q l ne. absurd (omega arith);
      count = λ q. let p1 : occurs q (blocks_of next (begun x)) ≡ occurs q (x ∷ []) = refl in
          let p0 : occurs q (blocks_of next c) ≡ 0 = ap (λ m. occurs q (blocks_from next c.first m)) none_for in
          omega (arith, occurs-popped q x free free' is, p1, p0);
      filled = omega (arith, ap length is, length_push free' x);
      own_b = omega (arith, one-popped x free free' is);
      own_x = omega (arith, one-popped x free free' is);
    }

pub first_becomes : (next free free' bytes : List ℕ) (x : ℕ) (c : Chain) → length bytes ≡ 64 * length next → IsApart next free c → c.bytes ≡ 0 → free ≡ free' ++ x ∷ []
    → Becomes (AreApart next free) (AreApart next free') (content_of bytes next) (content_of (slice_set bytes (64 * x + c.bytes % 64) 0) next) c (begun x) (content_of bytes next c ++ 0 ∷ [])
first_becomes next free free' bytes x c whole h none is = grown _ _ _ _ bytes _ _ _ _ (grows_first next free free' x c h none is) whole

pub first_apart : (next free free' : List ℕ) (x : ℕ) (c : Chain) → IsApart next free c → c.bytes ≡ 0 → free ≡ free' ++ x ∷ [] → IsApart next free' (begun x)
first_apart next free free' x c h none is = stays_apart _ _ _ _ _ _ _ _ (grows_first next free free' x c h none is) h

pub first_last : (next : List ℕ) (x n : ℕ) → n ≡ 0 → x ≡ block_at next x (n / 64)
unfolding block_at
first_last next x n e = let at : n / 64 ≡ 0 = omega arith in sym (ap (block_at next x) at)

-- ---- one more block after the last one

-- where the chain's last block links to the block x
linked_last : (next : List ℕ) (x last : ℕ) (c : Chain) (k : ℕ) → last < length next → last ≡ block_at next c.first k → ((j : ℕ) → j < k → block_at next c.first j ≢ last) → block_at (slice_set next last x) c.first (suc k) ≡ x
linked_last next x last c k inside is before =
    let next' = slice_set next last x in
    let same : block_at next' c.first k ≡ block_at next c.first k = block_at-stays last next next' (λ q ne. get_or-set_other next last q x 0 ne) c.first k before in
    block_at-more next' c.first k ∙ ap (slice_index next') (same ∙ sym is) ∙ get_or-set_same next last x 0 inside

before_last : (next free : List ℕ) (last : ℕ) (c : Chain) (k : ℕ) → IsApart next free c → suc k ≡ blocks_for c.bytes → last ≡ block_at next c.first k → (j : ℕ) → j < k → block_at next c.first j ≢ last
before_last next free last c k h long is j l e = blocks_differ next c.first (blocks_for c.bytes) (apart_once next free c h) j k l (omega arith) (e ∙ is)

grows_after : (next free free' : List ℕ) (x last : ℕ) (c : Chain) → IsApart next free c → c.bytes % 64 ≡ 0 → 0 < c.bytes → last ≡ block_at next c.first ((c.bytes - 1) / 64) → free ≡ free' ++ x ∷ []
    → Grows next (slice_set next last x) free free' last x c (longer c)
grows_after next free free' x last c h full some is pop =
    let next' = slice_set next last x in
    let k = (c.bytes - 1) / 64 in
    let n = blocks_for c.bytes in
    let nk : n ≡ suc k = omega arith in
    let kn : c.bytes / 64 ≡ suc k = omega arith in
    let more : blocks_for (c.bytes + 1) ≡ suc (suc k) = omega arith in
    let in_free = one-popped x free free' pop in
    let in_path : 1 ≤ occurs (block_at next c.first k) (blocks_of next c) = occurs-block_at next c.first n k (omega arith) in
    let last_in : 1 ≤ occurs last (blocks_of next c) = subst (λ q. 1 ≤ occurs q (blocks_of next c)) (sym is) in_path in
    let stay : OtherLinksStay last next next' = λ q ne. get_or-set_other next last q x 0 ne in
    let apart = before_last next free last c k h (sym nk) is in
    let x_out : occurs x (blocks_of next c) ≡ 0 = omega (arith, h.once x, one_if-small (nat_lt x (length next))) in
    let end = linked_last next x last c k (last_inside next free last c h some is) is apart in
    let paths : blocks_from next' c.first (suc k) ≡ blocks_from next c.first (suc k) = blocks_from-stays last next next' stay c.first (suc k) (λ j m. apart j (omega arith)) in
    record {
      len = length-set next last x;
      inside = popped_inside next free free' x c h pop;
      links = stay;
      long = refl;
      same = λ j l. block_at-stays last next next' stay c.first j (λ i m. apart i (omega arith));
      last = ap (block_at next' c.first) kn ∙ end;
      fresh = λ j l ne. other_block next c.first n x x_out j l;
      count = λ q.
          let p2 : occurs q (blocks_from next' c.first (blocks_for (c.bytes + 1))) ≡ occurs q (blocks_from next' c.first (suc (suc k))) = ap (λ m. occurs q (blocks_from next' c.first m)) more in
          let p1 : occurs q (blocks_from next' c.first (suc (suc k))) ≡ occurs q (blocks_from next c.first (suc k) ++ x ∷ []) = ap (occurs q) (blocks_from-more next' c.first (suc k) ∙ ap (λ p. p ++ block_at next' c.first (suc k) ∷ []) paths ∙ ap (λ v. blocks_from next c.first (suc k) ++ v ∷ []) end) in
          let p0 : occurs q (blocks_from next c.first n) ≡ occurs q (blocks_from next c.first (suc k)) = ap (λ m. occurs q (blocks_from next c.first m)) nk in
          omega (arith, occurs-popped q x free free' pop, occurs-append q (blocks_from next c.first (suc k)) (x ∷ []), p2, p1, p0);
      filled = omega (arith, ap length pop, length_push free' x);
      own_b = omega arith;
      own_x = omega arith;
    }

pub after_becomes : (next free free' bytes : List ℕ) (x last : ℕ) (c : Chain) → length bytes ≡ 64 * length next → IsApart next free c → c.bytes % 64 ≡ 0 → 0 < c.bytes → last ≡ block_at next c.first ((c.bytes - 1) / 64) → free ≡ free' ++ x ∷ []
    → Becomes (AreApart next free) (AreApart (slice_set next last x) free') (content_of bytes next) (content_of (slice_set bytes (64 * x + c.bytes % 64) 0) (slice_set next last x)) c (longer c) (content_of bytes next c ++ 0 ∷ [])
after_becomes next free free' bytes x last c whole h full some is pop = grown _ _ _ _ bytes _ _ _ _ (grows_after next free free' x last c h full some is pop) whole

pub after_apart : (next free free' : List ℕ) (x last : ℕ) (c : Chain) → IsApart next free c → c.bytes % 64 ≡ 0 → 0 < c.bytes → last ≡ block_at next c.first ((c.bytes - 1) / 64) → free ≡ free' ++ x ∷ [] → IsApart (slice_set next last x) free' (longer c)
after_apart next free free' x last c h full some is pop = stays_apart _ _ _ _ _ _ _ _ (grows_after next free free' x last c h full some is pop) h

pub after_last : (next free : List ℕ) (x last : ℕ) (c : Chain) → IsApart next free c → c.bytes % 64 ≡ 0 → 0 < c.bytes → last ≡ block_at next c.first ((c.bytes - 1) / 64) → x ≡ block_at (slice_set next last x) c.first (c.bytes / 64)
after_last next free x last c h full some is =
    let k = (c.bytes - 1) / 64 in
    let kn : c.bytes / 64 ≡ suc k = omega arith in
    let nk : suc k ≡ blocks_for c.bytes = omega arith in
    sym (ap (block_at (slice_set next last x) c.first) kn ∙ linked_last next x last c k (last_inside next free last c h some is) is (before_last next free last c k h nk is))
