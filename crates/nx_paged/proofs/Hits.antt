-- The window that an access finds is the one whose page the walk gives.
use Rattle.std.proofs.Common.{◌≡◌, ℕ, zero, suc, ◌+◌, ◌-◌, ◌*◌, ◌/◌, ◌%◌, ◌<◌, ◌≤◌, Bool, true, false, Option, Some, None, List, [], ◌∷◌, get_or, map, refl, sym, ap, ◌∙◌, subst, arith, ⊎_elim, add-zero}
use Rattle.std.specs.Prelude.{if◌then◌else◌, nat_le, ◌&&◌, ◌||◌, slice_index, slice_index_or}
use Rattle.std.proofs.lemmas.Bool.{cases_lt}
use Rattle.std.proofs.lemmas.Bool.Decides.{nat_tests}
use Rattle.nx_base.specs.ByteLists.{get_bytes}
use Rattle.nx_base.specs.declared.access.Access.{Access}
use Rattle.nx_base.specs.declared.access.Access.TheVariants.{Load}
use Rattle.nx_sv32.specs.Walk.{ram_start, walk}
use Rattle.nx_tables.specs.Maps.{Maps, satp_of, translated, lets}
use Rattle.nx_tables.specs.Roles.{Role, Stands}
use Rattle.nx_tables.specs.ViewBytes.{byte_by, seen, PageAt, IsMapped}
use Rattle.nx_tables.proofs.Walked.{walk_mapped}
use Rattle.nx_tables.proofs.Views.{get-seen, byte_mapped}
use Rattle.nx_space.specs.World.{Own, Part}
use Rattle.nx_space.specs.Places.{Place, lies_in, place_in}
use Rattle.nx_paged.specs.Spans.{Span, Each, part_of, parts_from, covers, Hit, first_span, IsSpan, Shows}
use Rattle.nx_paged.specs.Outside.{is_seen, in_spans}

-- an access within one page lies in a window of whole pages where its first byte does
lies_covers : (s : Span) (k at n : ℕ) → IsSpan s → at % 4096 + n ≤ 4096 → 1 ≤ n → lies_in (part_of k s) at n ≡ covers s at
unfolding lies_in
lies_covers s k at n f fit one =
    let a = f.start in
    let b = f.bytes in
    let e : nat_le (at + n) (s.start + s.bytes) ≡ nat_le (at + 1) (s.start + s.bytes) =
    ⊎_elim
    (λ l.
    let x : at + n ≤ s.start + s.bytes = omega (arith, l, fit, a, b) in
    let p : nat_le (at + n) (s.start + s.bytes) ≡ true = grind (arith, nat_tests, x) in
    let q : nat_le (at + 1) (s.start + s.bytes) ≡ true = grind (arith, nat_tests, l) in
    p ∙ sym q)
    (λ l.
    let p : nat_le (at + n) (s.start + s.bytes) ≡ false = grind (arith, nat_tests, l, one) in
    let q : nat_le (at + 1) (s.start + s.bytes) ≡ false = grind (arith, nat_tests, l) in
    p ∙ sym q)
    (cases_lt at (s.start + s.bytes))
    in
    ap (λ c. nat_le s.start at && c) e

abbrev pub placed_at : (Part → Bool) → Option Hit → ℕ → Option Place
placed_at may None at = None
placed_at may (Some h) at = if may (part_of h.index h.span) then Some (record { home = Own h.index; at = 0 + (at - h.span.start) }) else None

pub place_hit : (may : Part → Bool) (spans : List Span) (k at n : ℕ) → Each IsSpan spans → at % 4096 + n ≤ 4096 → 1 ≤ n → place_in may (parts_from k spans) at n ≡ placed_at may (first_span k spans at) at
unfolding place_in parts_from first_span
place_hit may [] k at n f fit one = refl
place_hit may (s ∷ ss) k at n f fit one = by_test (covers s at) (lies_covers s k at n f.0 fit one) (place_hit may ss (k + 1) at n f.1 fit one)
  where
    here : Option Place
    here = if may (part_of k s) then Some (record { home = Own k; at = 0 + (at - s.start) }) else None

    by_test : (b : Bool) → lies_in (part_of k s) at n ≡ b → place_in may (parts_from (k + 1) ss) at n ≡ placed_at may (first_span (k + 1) ss at) at → (if lies_in (part_of k s) at n then here else place_in may (parts_from (k + 1) ss) at n) ≡ placed_at may (if b then Some (record { index = k; span = s }) else first_span (k + 1) ss at) at
    by_test true e rest = ap (λ b. if b then here else place_in may (parts_from (k + 1) ss) at n) e
    by_test false e rest = ap (λ b. if b then here else place_in may (parts_from (k + 1) ss) at n) e ∙ rest

-- what holds of a window that was found
pub record IsHit (m : Maps) (spans : List Span) (k at : ℕ) (h : Hit) : Type 0 where
  pub place : ℕ
  pub index : h.index ≡ k + place
  pub low : h.span.start ≤ at
  pub high : at < h.span.start + h.span.bytes
  pub fine : IsSpan h.span
  pub mapped : IsMapped m h.span.start h.span.bytes h.span.writes
  pub own : (f : Span → List ℕ) → slice_index_or (map f spans) place [] ≡ f h.span
  pub shown : (ram : List ℕ) (root j : ℕ) → is_seen ram (satp_of root) h.span.start h.span.bytes j ≡ true → in_spans ram root spans j ≡ true

pub is_hit : (m : Maps) (spans : List Span) (k at : ℕ) (h : Hit) → Each IsSpan spans → Each (λ s. IsMapped m s.start s.bytes s.writes) spans → first_span k spans at ≡ Some h → IsHit m spans k at h
unfolding first_span in_spans
is_hit m [] k at h f mapped e = absurd cc
is_hit m (s ∷ ss) k at h f mapped e = by_test (covers s at) refl e (λ q. is_hit m ss (k + 1) at h f.1 mapped.1 q)
  where
    or_right : (a : Bool) → (a || true) ≡ true
    or_right true = refl
    or_right false = refl

    later : IsHit m ss (k + 1) at h → IsHit m (s ∷ ss) k at h
    later r = record {
      place = suc r.place;
      index = omega (arith, r.index);
      low = r.low;
      high = r.high;
      fine = r.fine;
      mapped = r.mapped;
      own = r.own;
      shown = λ ram root j t. ap (λ b. is_seen ram (satp_of root) s.start s.bytes j || b) (r.shown ram root j t) ∙ or_right (is_seen ram (satp_of root) s.start s.bytes j);
    }

    here : (h : Hit) → record { index = k; span = s } ≡ h → covers s at ≡ true → IsHit m (s ∷ ss) k at h
    here h q c = subst (IsHit m (s ∷ ss) k at) q (record {
      place = 0;
      index = sym (add-zero k);
      low = grind (arith, nat_tests, c);
      high = grind (arith, nat_tests, c);
      fine = f.0;
      mapped = mapped.0;
      own = λ g. refl;
      shown = λ ram root j t. ap (λ b. b || in_spans ram root ss j) t;
    })

    some_is : (a : Hit) → Some a ≡ Some h → a ≡ h
    some_is a q = cc

    by_test : (b : Bool) → covers s at ≡ b → (if b then Some (record { index = k; span = s }) else first_span (k + 1) ss at) ≡ Some h → (first_span (k + 1) ss at ≡ Some h → IsHit m ss (k + 1) at h) → IsHit m (s ∷ ss) k at h
    by_test true c q more = here h (some_is _ q) c
    by_test false c q more = later (more q)

-- the walk and the windows agree
pub record Resolves (m : Maps) (spans : List Span) (may : Part → Bool) (at n to : ℕ) : Type 0 where
  pub hit : Hit
  pub found : first_span 0 spans at ≡ Some hit
  pub is : IsHit m spans 0 at hit
  pub page : PageAt m at hit.span.writes
  pub place : place_in may (parts_from 0 spans) at n ≡ Some (record { home = Own hit.index; at = 0 + (at - hit.span.start) })
  pub address : to ≡ ram_start + (4096 * page.page.frame + at % 4096)

pub resolved : (ram : List ℕ) (role : ℕ → Role) (g : ℕ) (m : Maps) (spans : List Span) (may : Part → Bool) (access : Access) (at n to : ℕ) → Stands ram role g m → Shows m spans → ((k : ℕ) (s : Span) → may (part_of k s) ≡ lets s.writes access) → at < 4294967296 → at % 4096 + n ≤ 4096 → 1 ≤ n → walk ram (satp_of m.root) at access ≡ Some to → Resolves m spans may at n to
resolved ram role g m spans may access at n to s h agree small fit one e = by_hit (first_span 0 spans at) refl
  where
    w : Some to ≡ translated (m.pages (at / 4096)) at access
    w = sym e ∙ walk_mapped ram role g m at access s small

    by_right : (b : Bool) (frame : ℕ) → Some to ≡ (if b then Some (ram_start + (4096 * frame + at % 4096)) else None) → (b ≡ true) × (to ≡ ram_start + (4096 * frame + at % 4096))
    by_right true frame q = (refl, cc)
    by_right false frame q = absurd cc

    by_hit : (o : Option Hit) → first_span 0 spans at ≡ o → Resolves m spans may at n to
    by_hit None q = let z : Some to ≡ None = w ∙ ap (λ p. translated p at access) (h.others at small q) in absurd cc
    by_hit (Some x) q =
        let i = is_hit m spans 0 at x h.fine h.mapped q in
        let p = i.mapped at i.low i.high in
        let t = by_right (lets p.page.writes access) p.page.frame (w ∙ ap (λ r. translated r at access) p.mapped) in
        let may_is : may (part_of x.index x.span) ≡ true = agree x.index x.span ∙ ap (λ b. lets b access) (sym p.right) ∙ t.0 in
        record {
          hit = x;
          found = q;
          is = i;
          page = p;
          place = place_hit may spans 0 at n h.fine fit one ∙ ap (λ o. placed_at may o at) q ∙ ap (λ b. if b then Some (record { home = Own x.index; at = 0 + (at - x.span.start) }) else None) may_is;
          address = t.1;
        }

pub refused : (ram : List ℕ) (role : ℕ → Role) (g : ℕ) (m : Maps) (spans : List Span) (may : Part → Bool) (access : Access) (at n : ℕ) → Stands ram role g m → Shows m spans → ((k : ℕ) (s : Span) → may (part_of k s) ≡ lets s.writes access) → at < 4294967296 → at % 4096 + n ≤ 4096 → 1 ≤ n → walk ram (satp_of m.root) at access ≡ None → place_in may (parts_from 0 spans) at n ≡ None
refused ram role g m spans may access at n s h agree small fit one e = by_hit (first_span 0 spans at) refl
  where
    w : None ≡ translated (m.pages (at / 4096)) at access
    w = sym e ∙ walk_mapped ram role g m at access s small

    by_right : (b : Bool) (to : ℕ) → None ≡ (if b then Some to else None) → b ≡ false
    by_right true frame q = absurd cc
    by_right false frame q = refl

    by_hit : (o : Option Hit) → first_span 0 spans at ≡ o → place_in may (parts_from 0 spans) at n ≡ None
    by_hit None q = place_hit may spans 0 at n h.fine fit one ∙ ap (λ o. placed_at may o at) q
    by_hit (Some x) q =
        let i = is_hit m spans 0 at x h.fine h.mapped q in
        let p = i.mapped at i.low i.high in
        let t = by_right (lets p.page.writes access) (ram_start + (4096 * p.page.frame + at % 4096)) (w ∙ ap (λ r. translated r at access) p.mapped) in
        let may_is : may (part_of x.index x.span) ≡ false = agree x.index x.span ∙ ap (λ b. lets b access) (sym p.right) ∙ t in
        place_hit may spans 0 at n h.fine fit one ∙ ap (λ o. placed_at may o at) q ∙ ap (λ b. if b then Some (record { home = Own x.index; at = 0 + (at - x.span.start) }) else None) may_is

-- bytes of a window that lie in one page
pub bytes_seen : (ram : List ℕ) (role : ℕ → Role) (g : ℕ) (m : Maps) (start size : ℕ) (writes : Bool) (j at n : ℕ) → Stands ram role g m → IsMapped m start size writes → start + size ≤ 4294967296 → at ≡ start + j → j + n ≤ size → (p : PageAt m at writes) → at % 4096 + n ≤ 4096 → get_bytes (seen ram (satp_of m.root) start size) j n ≡ get_bytes ram (4096 * p.page.frame + at % 4096) n
unfolding get_bytes
bytes_seen ram role g m start size writes j at zero s mapped top is room p fit = refl
bytes_seen ram role g m start size writes j at (suc n) s mapped top is room p fit =
    ap (λ y. y ∷ get_bytes (seen ram (satp_of m.root) start size) (j + 1) n) byte
    ∙ ap (λ ys. slice_index ram (4096 * p.page.frame + at % 4096) ∷ ys) (rest n refl (λ q f. bytes_seen ram role g m start size writes (j + 1) (at + 1) n s mapped top (omega (arith, is)) (omega (arith, room)) q f))
  where
    byte : get_or (seen ram (satp_of m.root) start size) j 0 ≡ get_or ram (4096 * p.page.frame + at % 4096) 0
    byte =
        get-seen ram (satp_of m.root) start size j (omega (arith, room))
        ∙ ap (λ a. byte_by ram (walk ram (satp_of m.root) a Load)) (sym is)
        ∙ byte_mapped ram role g m at writes s (omega (arith, is, room, top)) p

    rest : (k : ℕ) → k ≡ n → ((q : PageAt m (at + 1) writes) → (at + 1) % 4096 + n ≤ 4096 → get_bytes (seen ram (satp_of m.root) start size) (j + 1) n ≡ get_bytes ram (4096 * q.page.frame + (at + 1) % 4096) n) → get_bytes (seen ram (satp_of m.root) start size) (j + 1) n ≡ get_bytes ram (4096 * p.page.frame + at % 4096 + 1) n
    rest zero q more = ap (get_bytes (seen ram (satp_of m.root) start size) (j + 1)) (sym q) ∙ ap (get_bytes ram (4096 * p.page.frame + at % 4096 + 1)) q
    rest (suc k) q more =
        let v : (at + 1) / 4096 ≡ at / 4096 = omega (arith, fit, q) in
        let o : 4096 * p.page.frame + (at + 1) % 4096 ≡ 4096 * p.page.frame + at % 4096 + 1 = omega (arith, fit, q) in
        more (record { page = p.page; mapped = ap m.pages v ∙ p.mapped; right = p.right }) (omega (arith, fit, q))
        ∙ ap (λ a. get_bytes ram a n) o
