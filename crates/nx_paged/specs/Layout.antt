-- The windows of a group stand apart, each of whole pages.
use Rattle.std.proofs.Common.{◌≡◌, ◌≢◌, ℕ, suc, ◌+◌, ◌*◌, ◌%◌, ◌<◌, ◌≤◌, ◌⊎◌, ◌==◌, Bool, true, false, ◌&&◌, ◌||◌, not, List, [], ◌∷◌, ◌++◌, length, refl, ap, ◌∙◌, subst, arith, ⊎_elim, inl, inr}
use Rattle.std.specs.Prelude.{slice_index_or}
use Rattle.std.specs.List.{All, list_any}
use Rattle.std.proofs.lemmas.Bool.{cases_lt}
use Rattle.std.proofs.lemmas.Bool.Decides.{nat_tests}
use Rattle.nx_ram.specs.declared.prog_image.ProgImage.{ProgImage}
use Rattle.nx_space.specs.World.{MemoryMap}
use Rattle.nx_space.specs.Places.{lies_in, place_in, written_at, is_clear}
use Rattle.nx_space.specs.Starts.{no_program, program_at, stack_low, pages_of, has_slot}
use Rattle.nx_paged.specs.Tenants.{are_once}
use Rattle.nx_paged.specs.Spans.{Span, Each, span_of, stack_span, stack_spans, spans_of, part_of, parts_from, IsSpan, IsApart, AreApart}
use Rattle.nx_paged.specs.Paging.{IsLaidOut}

-- facts of each of two lists
pub each_append : (P : Span → Type 0) (xs ys : List Span) → Each P xs → Each P ys → Each P (xs ++ ys)
each_append P [] ys h k = k
each_append P (x ∷ xs) ys h k = (h.0, each_append P xs ys h.1 k)

pub apart_append : (xs ys : List Span) → AreApart xs → AreApart ys → Each (λ x. Each (IsApart x) ys) xs → AreApart (xs ++ ys)
apart_append [] ys h k both = k
apart_append (x ∷ xs) ys h k both = (each_append (IsApart x) xs ys h.0 both.0, apart_append xs ys h.1 k both.1)

-- what stands at a place of a list
pub laid_out : (ps : List ProgImage) (i : ℕ) → All IsLaidOut ps → i < length ps → IsLaidOut (slice_index_or ps i no_program)
laid_out ps i h l = h i no_program l

-- a window within bounds
pub record IsWithin (low high : ℕ) (s : Span) : Type 0 where
  pub fine : IsSpan s
  pub low_is : low ≤ s.start
  pub high_is : s.start + s.bytes ≤ high

whole_pages : (at n low high : ℕ) (writes : Bool) → at % 4096 ≡ 0 → high % 4096 ≡ 0 → high ≤ 4294967296 → low ≤ at → at + n ≤ high → IsWithin low high (record { start = at; bytes = 4096 * pages_of n; writes = writes })
whole_pages at n low high writes a h top l u = record {
  fine = record { start = a; bytes = omega arith; top = omega (arith, a, h, top, u) };
  low_is = l;
  high_is = omega (arith, a, h, u);
}

pub bytes_within : (at : ℕ) (writes : Bool) (bs : List ℕ) (low high : ℕ) → at % 4096 ≡ 0 → high % 4096 ≡ 0 → high ≤ 4294967296 → low ≤ at → at + length bs ≤ high → Each (IsWithin low high) (span_of at writes bs)
bytes_within at writes [] low high a h top l u = tt
bytes_within at writes (b ∷ bs) low high a h top l u = (whole_pages at (length (b ∷ bs)) low high writes a h top l u, tt)

one_apart : (at : ℕ) (writes : Bool) (bs : List ℕ) → AreApart (span_of at writes bs)
one_apart at writes [] = tt
one_apart at writes (b ∷ bs) = (tt, tt)

-- the windows of two ranges
ranges_apart : (low middle high : ℕ) (xs ys : List Span) → Each (IsWithin low middle) xs → Each (IsWithin middle high) ys → Each (λ x. Each (IsApart x) ys) xs
ranges_apart low middle high [] ys h k = tt
ranges_apart low middle high (x ∷ xs) ys h k = (one ys k, ranges_apart low middle high xs ys h.1 k)
  where
    one : (zs : List Span) → Each (IsWithin middle high) zs → Each (IsApart x) zs
    one [] k = tt
    one (z ∷ zs) k = (let a = h.0.high_is in let b = k.0.low_is in inl (omega (arith, a, b)), one zs k.1)

pub wider : (low low2 high high2 : ℕ) (xs : List Span) → low2 ≤ low → high ≤ high2 → Each (IsWithin low high) xs → Each (IsWithin low2 high2) xs
wider low low2 high high2 [] l u h = tt
wider low low2 high high2 (x ∷ xs) l u h = (let a = h.0.low_is in let b = h.0.high_is in record { fine = h.0.fine; low_is = omega (arith, a, l); high_is = omega (arith, b, u) }, wider low low2 high high2 xs l u h.1)

pub all_fine : (low high : ℕ) (xs : List Span) → Each (IsWithin low high) xs → Each IsSpan xs
all_fine low high [] h = tt
all_fine low high (x ∷ xs) h = (h.0.fine, all_fine low high xs h.1)

-- what is asked of stacks: slot 0's at 0x40000000, each 2 MiB after the one before, and 1 MiB at most
pub record FitsStacks (memory_map : MemoryMap) : Type 0 where
  pub at : memory_map.stacks_at ≡ 0x40000000
  pub stride : memory_map.stride ≡ 0x200000
  pub one : 1 ≤ memory_map.stack
  pub whole : memory_map.stack % 4096 ≡ 0
  pub most : memory_map.stack ≤ 0x100000
  pub few : memory_map.threads ≤ 64

low_is : (memory_map : MemoryMap) (slot : ℕ) → FitsStacks memory_map → stack_low memory_map slot ≡ 0x40000000 + slot * 0x200000
low_is memory_map slot f = ap (λ n. n + slot * memory_map.stride) f.at ∙ ap (λ n. 0x40000000 + slot * n) f.stride

pub stack_within : (memory_map : MemoryMap) (slot : ℕ) → FitsStacks memory_map → slot < memory_map.threads → IsWithin 0x40000000 0x48000000 (stack_span memory_map slot)
stack_within memory_map slot f l =
    let low = low_is memory_map slot f in
    let most = f.most in
    let few = f.few in
    record {
      fine = record { start = omega (arith, low); bytes = omega arith; top = omega (arith, low, most, few, l) };
      low_is = omega (arith, low);
      high_is = omega (arith, low, most, few, l);
    }

pub stacks_within : (memory_map : MemoryMap) (slots : List ℕ) → FitsStacks memory_map → All (λ slot. slot < memory_map.threads) slots → Each (IsWithin 0x40000000 0x48000000) (stack_spans memory_map slots)
stacks_within memory_map [] f h = tt
stacks_within memory_map (slot ∷ slots) f h = (stack_within memory_map slot f (h 0 slot (omega arith)), stacks_within memory_map slots f (λ k d l. h (suc k) d (omega (arith, l))))

both_apart : (memory_map : MemoryMap) (a b : ℕ) → FitsStacks memory_map → a ≢ b → IsApart (stack_span memory_map a) (stack_span memory_map b)
both_apart memory_map a b f ne =
    let x = low_is memory_map a f in
    let y = low_is memory_map b f in
    let most = f.most in
    ⊎_elim (λ l. inl (omega (arith, x, y, most, l))) (λ l. inr (omega (arith, x, y, most, l, ne))) (cases_lt a b)

pub new_apart : (memory_map : MemoryMap) (slot : ℕ) (slots : List ℕ) → FitsStacks memory_map → has_slot slots slot ≡ false → Each (IsApart (stack_span memory_map slot)) (stack_spans memory_map slots)
new_apart memory_map slot [] f h = tt
new_apart memory_map slot (s ∷ ss) f h = by_test (s == slot) refl h (λ q. new_apart memory_map slot ss f q)
  where
    differs : (s == slot) ≡ false → slot ≢ s
    differs e = grind (arith, nat_tests)

    by_test : (b : Bool) → (s == slot) ≡ b → (b || has_slot ss slot) ≡ false → (has_slot ss slot ≡ false → Each (IsApart (stack_span memory_map slot)) (stack_spans memory_map ss)) → Each (IsApart (stack_span memory_map slot)) (stack_spans memory_map (s ∷ ss))
    by_test true e q more = absurd cc
    by_test false e q more = (both_apart memory_map slot s f (differs e), more q)

pub stacks_apart : (memory_map : MemoryMap) (slots : List ℕ) → FitsStacks memory_map → are_once slots ≡ true → AreApart (stack_spans memory_map slots)
stacks_apart memory_map [] f h = tt
stacks_apart memory_map (slot ∷ slots) f h = by_test (has_slot slots slot) refl h (λ q. stacks_apart memory_map slots f q)
  where
    by_test : (b : Bool) → has_slot slots slot ≡ b → (not b && are_once slots) ≡ true → (are_once slots ≡ true → AreApart (stack_spans memory_map slots)) → AreApart (stack_spans memory_map (slot ∷ slots))
    by_test true e q more = absurd cc
    by_test false e q more = (new_apart memory_map slot slots f e, more q)

-- all windows of a group
pub record AreLaidOut (spans : List Span) : Type 0 where
  pub fine : Each IsSpan spans
  pub apart : AreApart spans

pub group_laid_out : (memory_map : MemoryMap) (place : ℕ) (slots : List ℕ) → FitsStacks memory_map → IsLaidOut (program_at memory_map place) → are_once slots ≡ true → All (λ slot. slot < memory_map.threads) slots → AreLaidOut (spans_of memory_map place slots)
group_laid_out memory_map place slots f p once h =
    let q = program_at memory_map place in
    let ta = p.text_at in
    let tx = p.text in
    let da = p.data_at in
    let ia = p.init in
    let text = bytes_within q.text_at false q.text 0x00010000 0x10000000 (omega (arith, ta)) (omega arith) (omega arith) (omega (arith, ta)) tx in
    let contents = bytes_within q.data_at true q.init 0x10000000 0x40000000 (omega (arith, da)) (omega arith) (omega arith) (omega (arith, da)) ia in
    let stacks = stacks_within memory_map slots f h in
    let tail = each_append (IsWithin 0x10000000 0x48000000) (span_of q.data_at true q.init) (stack_spans memory_map slots)
    (wider 0x10000000 0x10000000 0x40000000 0x48000000 (span_of q.data_at true q.init) (omega arith) (omega arith) contents)
    (wider 0x40000000 0x10000000 0x48000000 0x48000000 (stack_spans memory_map slots) (omega arith) (omega arith) stacks) in
    let tail_apart = apart_append (span_of q.data_at true q.init) (stack_spans memory_map slots) (one_apart q.data_at true q.init) (stacks_apart memory_map slots f once)
    (ranges_apart 0x10000000 0x40000000 0x48000000 (span_of q.data_at true q.init) (stack_spans memory_map slots) contents stacks) in
    record {
      fine = each_append IsSpan (span_of q.text_at false q.text) (span_of q.data_at true q.init ++ stack_spans memory_map slots)
          (all_fine 0x00010000 0x10000000 (span_of q.text_at false q.text) text)
          (all_fine 0x10000000 0x48000000 (span_of q.data_at true q.init ++ stack_spans memory_map slots) tail);
      apart = apart_append (span_of q.text_at false q.text) (span_of q.data_at true q.init ++ stack_spans memory_map slots) (one_apart q.text_at false q.text) tail_apart
          (ranges_apart 0x00010000 0x10000000 0x48000000 (span_of q.text_at false q.text) (span_of q.data_at true q.init ++ stack_spans memory_map slots) text tail);
    }

-- a window is one of these
abbrev pub IsAmong : Span → List Span → Type 0
IsAmong s [] = ⊥
IsAmong s (t ∷ ts) = (t ≡ s) ⊎ IsAmong s ts

pub among_right : (s : Span) (xs ys : List Span) → IsAmong s ys → IsAmong s (xs ++ ys)
among_right s [] ys h = h
among_right s (x ∷ xs) ys h = inr (among_right s xs ys h)

pub among_left : (s : Span) (xs ys : List Span) → IsAmong s xs → IsAmong s (xs ++ ys)
among_left s [] ys h = absurd h
among_left s (x ∷ xs) ys h = ⊎_elim (λ e. inl e) (λ r. inr (among_left s xs ys r)) h

pub stack_among : (memory_map : MemoryMap) (slot : ℕ) (slots : List ℕ) → list_any (λ s. s == slot) slots ≡ true → IsAmong (stack_span memory_map slot) (stack_spans memory_map slots)
stack_among memory_map slot [] h = absurd cc
stack_among memory_map slot (s ∷ ss) h = by_test (s == slot) refl h (λ q. stack_among memory_map slot ss q)
  where
    same : (s == slot) ≡ true → s ≡ slot
    same e = grind (arith, nat_tests)

    by_test : (b : Bool) → (s == slot) ≡ b → (b || has_slot ss slot) ≡ true → (has_slot ss slot ≡ true → IsAmong (stack_span memory_map slot) (stack_spans memory_map ss)) → IsAmong (stack_span memory_map slot) (stack_spans memory_map (s ∷ ss))
    by_test true e q more = inl (ap (stack_span memory_map) (same e))
    by_test false e q more = inr (more q)

-- bytes of a window that may be written may be written
pub apart_of : (s : Span) (x : Span) (xs : List Span) → Each (IsApart x) xs → IsAmong s xs → IsApart x s
apart_of s x [] h a = absurd a
apart_of s x (y ∷ ys) h a = ⊎_elim (λ e. subst (IsApart x) e h.0) (λ r. apart_of s x ys h.1 r) a

pub not_held : (k : ℕ) (t s : Span) (at n : ℕ) → IsApart t s → 1 ≤ n → s.start ≤ at → at + n ≤ s.start + s.bytes → lies_in (part_of k t) at n ≡ false
unfolding lies_in
not_held k t s at n a one low high = ⊎_elim (λ l. grind (arith, nat_tests, l, one, low, high)) (λ l. grind (arith, nat_tests, l, one, low, high)) a

pub is_held : (k : ℕ) (s : Span) (at n : ℕ) → s.start ≤ at → at + n ≤ s.start + s.bytes → lies_in (part_of k s) at n ≡ true
unfolding lies_in
is_held k s at n low high = grind (arith, nat_tests, low, high)

pub held_clear : (pool k : ℕ) (spans : List Span) (s : Span) (at n : ℕ) → AreApart spans → IsAmong s spans → s.writes ≡ true → 1 ≤ n → s.start ≤ at → at + n ≤ s.start + s.bytes → is_clear pool (written_at (parts_from k spans) at n) ≡ true
unfolding place_in parts_from
held_clear pool k [] s at n a m w one low high = absurd m
held_clear pool k (t ∷ ts) s at n a m w one low high =
    ⊎_elim
    (λ e.
    let start = ap (λ x. x.start) e in
    let bytes = ap (λ x. x.bytes) e in
    let writes = ap (λ x. x.writes) e ∙ w in
    let held : lies_in (part_of k t) at n ≡ true = is_held k t at n (omega (arith, start, low)) (omega (arith, start, bytes, high)) in
    rw (held, writes) refl)
    (λ r.
    let held : lies_in (part_of k t) at n ≡ false = not_held k t s at n (apart_of s t ts a.0 r) one low high in
    rw held (held_clear pool (k + 1) ts s at n a.1 r w one low high))
    m

pub stack_held : (memory_map : MemoryMap) (place : ℕ) (slots : List ℕ) (slot : ℕ) → FitsStacks memory_map → AreApart (spans_of memory_map place slots) → list_any (λ s. s == slot) slots ≡ true → is_clear memory_map.pool (written_at (parts_from 0 (spans_of memory_map place slots)) (stack_low memory_map slot) memory_map.stack) ≡ true
stack_held memory_map place slots slot f a h =
    let q = program_at memory_map place in
    held_clear memory_map.pool 0 (spans_of memory_map place slots) (stack_span memory_map slot) (stack_low memory_map slot) memory_map.stack a
    (among_right (stack_span memory_map slot) (span_of q.text_at false q.text) (span_of q.data_at true q.init ++ stack_spans memory_map slots) (among_right (stack_span memory_map slot) (span_of q.data_at true q.init) (stack_spans memory_map slots) (stack_among memory_map slot slots h)))
    refl f.one (omega arith) (omega arith)

data_among : (at : ℕ) (bs : List ℕ) → 1 ≤ length bs → IsAmong (record { start = at; bytes = 4096 * pages_of (length bs); writes = true }) (span_of at true bs)
data_among at [] h = absurd (omega (arith, h))
data_among at (b ∷ bs) h = inl refl

pub data_held : (memory_map : MemoryMap) (place : ℕ) (slots : List ℕ) → AreApart (spans_of memory_map place slots) → 1 ≤ length (program_at memory_map place).init → is_clear memory_map.pool (written_at (parts_from 0 (spans_of memory_map place slots)) (program_at memory_map place).data_at (length (program_at memory_map place).init)) ≡ true
data_held memory_map place slots a h =
    let q = program_at memory_map place in
    let s : Span = record { start = q.data_at; bytes = 4096 * pages_of (length q.init); writes = true } in
    held_clear memory_map.pool 0 (spans_of memory_map place slots) s q.data_at (length q.init) a
    (among_right s (span_of q.text_at false q.text) (span_of q.data_at true q.init ++ stack_spans memory_map slots) (among_left s (span_of q.data_at true q.init) (stack_spans memory_map slots) (data_among q.data_at q.init h)))
    refl h (omega arith) (omega arith)
