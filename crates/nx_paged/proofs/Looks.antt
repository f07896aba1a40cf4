-- What may be done with a page, by the pages that are mapped.
use Rattle.std.proofs.Common.{◌≡◌, ◌≢◌, ℕ, zero, suc, ◌+◌, ◌*◌, ◌/◌, ◌<◌, ◌≤◌, ◌⊎◌, ◌==◌, Bool, true, false, Option, Some, None, List, [], ◌∷◌, ◌++◌, length, refl, ap, ◌∙◌, arith, ⊎_elim, inl, inr}
use Rattle.std.specs.Prelude.{if◌then◌else◌, nat_le, ◌&&◌}
use Rattle.std.proofs.lemmas.Bool.{cases_eq, cases_lt}
use Rattle.std.proofs.lemmas.Bool.Decides.{nat_tests}
use Rattle.nx_tables.specs.Maps.{Page, Maps}
use Rattle.nx_tables.specs.ViewBytes.{PageAt}
use Rattle.nx_space.specs.Starts.{pages_of}
use Rattle.nx_paged.specs.Spans.{Span, Each, span_of, covers, first_span}
use Rattle.nx_paged.specs.Building.{Entry, entries_from, look, right_of}

same : (a b : ℕ) → a ≡ b → (a == b) ≡ true
same a b e = grind (arith, nat_tests)

other : (a b : ℕ) → a ≢ b → (a == b) ≡ false
other a b ne = grind (arith, nat_tests)

pub look_in : (first n : ℕ) (writes : Bool) (rest : List Entry) (v : ℕ) → first ≤ v → v < first + n → look (entries_from first n writes ++ rest) v ≡ Some writes
unfolding look
look_in first zero writes rest v low high = absurd (omega (arith, low, high))
look_in first (suc n) writes rest v low high = ⊎_elim
    (λ e. ap (λ b. if b then Some writes else look (entries_from (first + 1) n writes ++ rest) v) (same v first e))
    (λ ne. ap (λ b. if b then Some writes else look (entries_from (first + 1) n writes ++ rest) v) (other v first ne) ∙ look_in (first + 1) n writes rest v (omega (arith, low, ne)) (omega (arith, high)))
    (cases_eq v first)

pub look_out : (first n : ℕ) (writes : Bool) (rest : List Entry) (v : ℕ) → (v < first) ⊎ (first + n ≤ v) → look (entries_from first n writes ++ rest) v ≡ look rest v
unfolding look
look_out first zero writes rest v out = refl
look_out first (suc n) writes rest v out =
    let ne : v ≢ first = λ e. ⊎_elim (λ l. omega (arith, l, e)) (λ l. omega (arith, l, e)) out in
    ap (λ b. if b then Some writes else look (entries_from (first + 1) n writes ++ rest) v) (other v first ne)
    ∙ look_out (first + 1) n writes rest v (⊎_elim (λ l. inl (omega (arith, l))) (λ l. inr (omega (arith, l))) out)

-- the page after a right
pub right_page : (m : Maps) (at : ℕ) (writes : Bool) → right_of (m.pages (at / 4096)) ≡ Some writes → PageAt m at writes
right_page m at writes e = by_page (m.pages (at / 4096)) refl e
  where
    some_is : (a b : Bool) → Some a ≡ Some b → a ≡ b
    some_is a b q = cc

    by_page : (o : Option Page) → m.pages (at / 4096) ≡ o → right_of o ≡ Some writes → PageAt m at writes
    by_page None q r = absurd cc
    by_page (Some p) q r = record { page = p; mapped = q; right = some_is p.writes writes r }

pub no_right : (o : Option Page) → right_of o ≡ None → o ≡ None
no_right None e = refl
no_right (Some p) e = absurd cc

-- a window of bytes, where there are some
pub each_span : (P : Span → Type 0) (at : ℕ) (writes : Bool) (bytes : List ℕ) → P (record { start = at; bytes = 4096 * pages_of (length bytes); writes = writes }) → Each P (span_of at writes bytes)
each_span P at writes [] p = tt
each_span P at writes (b ∷ bytes) p = (p, tt)

pub each_spans : (P : Span → Type 0) (xs ys : List Span) → Each P xs → Each P ys → Each P (xs ++ ys)
each_spans P [] ys h k = k
each_spans P (x ∷ xs) ys h k = (h.0, each_spans P xs ys h.1 k)

-- an address that no window has
pub none_covers : (k : ℕ) (spans : List Span) (at : ℕ) → first_span k spans at ≡ None → Each (λ s. covers s at ≡ false) spans
unfolding first_span
none_covers k [] at e = tt
none_covers k (s ∷ ss) at e = by_test (covers s at) refl e (λ q. none_covers (k + 1) ss at q)
  where
    by_test : (b : Bool) → covers s at ≡ b → (if b then Some (record { index = k; span = s }) else first_span (k + 1) ss at) ≡ None → (first_span (k + 1) ss at ≡ None → Each (λ s. covers s at ≡ false) ss) → Each (λ s. covers s at ≡ false) (s ∷ ss)
    by_test true c q more = absurd cc
    by_test false c q more = (c, more q)

pub not_covered : (s : Span) (at : ℕ) → covers s at ≡ false → (at < s.start) ⊎ (s.start + s.bytes ≤ at)
not_covered s at e = by_test (nat_le s.start at) refl e
  where
    by_test : (b : Bool) → nat_le s.start at ≡ b → (b && nat_le (at + 1) (s.start + s.bytes)) ≡ false → (at < s.start) ⊎ (s.start + s.bytes ≤ at)
    by_test true c q = inr (grind (arith, nat_tests, q))
    by_test false c q = inl (grind (arith, nat_tests, c))

pub span_clear : (at : ℕ) (writes : Bool) (bytes : List ℕ) (a : ℕ) → Each (λ s. covers s a ≡ false) (span_of at writes bytes) → (a < at) ⊎ (at + 4096 * pages_of (length bytes) ≤ a)
span_clear at writes [] a h = ⊎_elim (λ l. inl l) (λ l. inr (omega (arith, l))) (cases_lt a at)
span_clear at writes (b ∷ bytes) a h = not_covered (record { start = at; bytes = 4096 * pages_of (length (b ∷ bytes)); writes = writes }) a h.0

pub each_front : (P : Span → Type 0) (xs ys : List Span) → Each P (xs ++ ys) → Each P xs
each_front P [] ys h = tt
each_front P (x ∷ xs) ys h = (h.0, each_front P xs ys h.1)

pub each_back : (P : Span → Type 0) (xs ys : List Span) → Each P (xs ++ ys) → Each P ys
each_back P [] ys h = h
each_back P (x ∷ xs) ys h = each_back P xs ys h.1
