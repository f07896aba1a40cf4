-- The windows of a group that has one stack more.
use Rattle.std.proofs.Common.{◌≡◌, ℕ, suc, ◌+◌, ◌*◌, ◌/◌, ◌%◌, ◌<◌, ◌≤◌, ◌⊎◌, ◌==◌, true, false, Some, None, List, [], ◌∷◌, ◌++◌, length, map, get_or, refl, sym, ap, ◌∙◌, subst, arith, inl, inr, ⊎_elim, append_assoc}
use Rattle.std.specs.Prelude.{if◌then◌else◌}
use Rattle.std.specs.List.{list_any}
use Rattle.std.proofs.lemmas.List.{length-map}
use Rattle.nx_base.specs.declared.access.Access.TheVariants.{Load}
use Rattle.nx_sv32.specs.Walk.{walk}
use Rattle.nx_tables.specs.Maps.{satp_of}
use Rattle.nx_tables.specs.Roles.{Role, Leaf, is_table}
use Rattle.nx_tables.specs.ViewBytes.{byte_by, seen, PageAt, IsMapped}
use Rattle.nx_tables.proofs.Kept.{leaf_is_of}
use Rattle.nx_tables.proofs.Views.{get-seen, byte_mapped, seen_alike}
use Rattle.nx_space.specs.World.{Own, Part, Group, MemoryMap}
use Rattle.nx_space.specs.Starts.{program_at, with_stack}
use Rattle.nx_paged.specs.Tenants.{Tenant}
use Rattle.nx_paged.specs.Spans.{Span, Each, Shows, IsSpan, IsApart, AreApart, span_of, span_bytes, spans_of, stack_span, stack_spans, part_of, parts_from, covers, first_span}
use Rattle.nx_paged.specs.Paging.{paged_plan, paged_group, IsPaged, has_region}
use Rattle.nx_paged.specs.Lawful.{fits_stacks}
use Rattle.nx_paged.specs.Layout.{AreLaidOut, laid_out, group_laid_out}
use Rattle.nx_paged.specs.Building.{look, regions_of}
use Rattle.nx_paged.proofs.Looks.{look_in, look_out, each_spans, none_covers, not_covered, each_front, each_back}
use Rattle.nx_paged.proofs.Mapped.{Added, window_mapped, window_zeros}
use Rattle.nx_paged.proofs.Zeros.{zeros, length-zeros}
use Rattle.nx_paged.proofs.Slots.{each_slot, all_slots, each_more, once_more}
use Rattle.nx_paged.proofs.Needs.{regions_entries}
use Rattle.nx_paged.proofs.GrownNeeds.{any_last}
use Rattle.nx_paged.proofs.Growths.{Growth, low_in, first_in, count_in, entries_in, regions_in, live_in, tenant_in, bounds_in, byte_after, Built, site_in}

-- the windows with that of the new stack
stacks_last : (memory_map : MemoryMap) (slots : List ℕ) (slot : ℕ) → stack_spans memory_map (slots ++ slot ∷ []) ≡ stack_spans memory_map slots ++ stack_span memory_map slot ∷ []
stacks_last memory_map [] slot = refl
stacks_last memory_map (x ∷ xs) slot = ap (λ l. stack_span memory_map x ∷ l) (stacks_last memory_map xs slot)

pub spans_last : (memory_map : MemoryMap) (place : ℕ) (slots : List ℕ) (slot : ℕ) → spans_of memory_map place (slots ++ slot ∷ []) ≡ spans_of memory_map place slots ++ stack_span memory_map slot ∷ []
spans_last memory_map place slots slot =
    let p = program_at memory_map place in
    let text : List Span = span_of p.text_at false p.text in
    let contents : List Span = span_of p.data_at true p.init in
    let stacks : List Span = stack_spans memory_map slots in
    let last : List Span = stack_span memory_map slot ∷ [] in
    ap (λ l. text ++ (contents ++ l)) (stacks_last memory_map slots slot)
    ∙ ap (λ l. text ++ l) (sym (append_assoc contents stacks last))
    ∙ sym (append_assoc text (contents ++ stacks) last)

parts_last : (k : ℕ) (spans : List Span) (s : Span) → parts_from k (spans ++ s ∷ []) ≡ parts_from k spans ++ part_of (k + length spans) s ∷ []
unfolding parts_from
parts_last k [] s = let e : k ≡ k + 0 = omega arith in ap (λ j. part_of j s ∷ []) e
parts_last k (x ∷ xs) s =
    let e : k + 1 + length xs ≡ k + suc (length xs) = omega arith in
    ap (λ l. part_of k x ∷ l) (parts_last (k + 1) xs s ∙ ap (λ j. parts_from (k + 1) xs ++ part_of j s ∷ []) e)

map_last : (f : Span → List ℕ) (spans : List Span) (s : Span) → map f (spans ++ s ∷ []) ≡ map f spans ++ f s ∷ []
map_last f [] s = refl
map_last f (x ∷ xs) s = ap (λ l. f x ∷ l) (map_last f xs s)

apart_last : (spans : List Span) (s : Span) → AreApart (spans ++ s ∷ []) → Each (λ x. IsApart x s) spans
apart_last [] s h = tt
apart_last (x ∷ xs) s h = ((each_back (IsApart x) xs (s ∷ []) h.0).0, apart_last xs s h.1)

none_first : (k : ℕ) (spans : List Span) (at : ℕ) → Each (λ s. covers s at ≡ false) spans → first_span k spans at ≡ None
unfolding first_span
none_first k [] at h = refl
none_first k (s ∷ ss) at h = ap (λ b. if b then Some (record { index = k; span = s }) else first_span (k + 1) ss at) h.0 ∙ none_first (k + 1) ss at h.1

abbrev pub spans_in : Growth → List Span
spans_in g = spans_of (paged_plan g.s) g.t.program g.t.slots

abbrev pub window_in : Growth → Span
window_in g = stack_span (paged_plan g.s) g.slot

abbrev pub slots_in : Growth → List ℕ
slots_in g = g.t.slots ++ g.slot ∷ []

pub laid_in : (g : Growth) → AreLaidOut (spans_in g ++ window_in g ∷ [])
laid_in g =
    let k = tenant_in g in
    subst AreLaidOut (spans_last (paged_plan g.s) g.t.program g.t.slots g.slot)
    (group_laid_out (paged_plan g.s) g.t.program (slots_in g) (fits_stacks g.s g.placed) (laid_out g.s.programs g.t.program g.placed.fits.laid_out k.program) (once_more g.t.slots g.slot k.once g.none)
    (all_slots (λ x. x < g.s.threads) (slots_in g) (each_more (λ x. x < g.s.threads) g.t.slots g.slot (each_slot (λ x. x < g.s.threads) g.t.slots k.slots) g.slot_is)))

-- the new window
pub window_added : (g : Growth) (p : IsPaged g.s) → Added (site_in g p) (entries_in g ++ []) (low_in g) (count_in g) true
window_added g p =
    let b = bounds_in g in
    let high = b.high_is in
    record { start = b.whole; top = omega (arith, high); looks = λ v l u. look_in (first_in g) (count_in g) true [] v l u }

no_look : (g : Growth) (v : ℕ) → (v < first_in g) ⊎ (first_in g + count_in g ≤ v) → look (entries_in g ++ []) v ≡ None
unfolding look
no_look g v out = look_out (first_in g) (count_in g) true [] v out

-- a page of another window is mapped as it was
same_page : (g : Growth) (p : IsPaged g.s) (new : List ℕ) (used : ℕ) (b : Built g p new used) (x : Span) (at : ℕ) → IsSpan x → IsApart x (window_in g) → x.start ≤ at → at < x.start + x.bytes → b.maps.pages (at / 4096) ≡ (live_in g p).maps.pages (at / 4096)
same_page g p new used b x at fine apart low high =
    let start = fine.start in
    let size = fine.bytes in
    let w = (bounds_in g).whole in
    b.others (at / 4096) (no_look g (at / 4096) (⊎_elim (λ l. inl (omega (arith, start, size, low, high, l, w))) (λ l. inr (omega (arith, start, size, low, high, l, w))) apart))

-- an old window has its pages
old_mapped : (g : Growth) (p : IsPaged g.s) (new : List ℕ) (used : ℕ) (b : Built g p new used) (x : Span) → IsSpan x → IsApart x (window_in g) → IsMapped (live_in g p).maps x.start x.bytes x.writes → IsMapped b.maps x.start x.bytes x.writes
old_mapped g p new used b x fine apart mapped at low high =
    let q = mapped at low high in
    record { page = q.page; mapped = same_page g p new used b x at fine apart low high ∙ q.mapped; right = q.right }

all_mapped : (g : Growth) (p : IsPaged g.s) (new : List ℕ) (used : ℕ) (b : Built g p new used) (xs : List Span) → Each IsSpan xs → Each (λ x. IsApart x (window_in g)) xs → Each (λ x. IsMapped (live_in g p).maps x.start x.bytes x.writes) xs → Each (λ x. IsMapped b.maps x.start x.bytes x.writes) xs
all_mapped g p new used b [] fine apart mapped = tt
all_mapped g p new used b (x ∷ xs) fine apart mapped = (old_mapped g p new used b x fine.0 apart.0 mapped.0, all_mapped g p new used b xs fine.1 apart.1 mapped.1)

-- and shows what it showed
not_a_table : (g v : ℕ) (r : Role) → r ≡ Leaf g v → is_table g r ≡ false
not_a_table g v r e = ap (is_table g) e

abbrev byte_of : List ℕ → ℕ → ℕ → ℕ
byte_of ram root at = byte_by ram (walk ram (satp_of root) at Load)

old_shown : (g : Growth) (p : IsPaged g.s) (new : List ℕ) (used : ℕ) (b : Built g p new used) (x : Span) → IsSpan x → IsApart x (window_in g) → IsMapped (live_in g p).maps x.start x.bytes x.writes → span_bytes new g.t.root x ≡ span_bytes g.s.ram g.t.root x
old_shown g p new used b x fine apart mapped = seen_alike g.s.ram new (satp_of g.t.root) x.start x.bytes (λ k l.
    let v = live_in g p in
    let n = g.t.number in
    let top = fine.top in
    let at : ℕ = x.start + k in
    let q = mapped at (omega arith) (omega (arith, l)) in
    let r : PageAt b.maps at x.writes = record { page = q.page; mapped = same_page g p new used b x at fine apart (omega arith) (omega (arith, l)) ∙ q.mapped; right = q.right } in
    let role = v.stands.owns.pages (at / 4096) q.page q.mapped in
    get-seen new (satp_of g.t.root) x.start x.bytes k l
    ∙ subst (λ root. byte_of new root at ≡ get_or new (4096 * q.page.frame + at % 4096) 0) b.root_is (byte_mapped new b.roles n b.maps at x.writes b.stands (omega (arith, l, top)) r)
    ∙ byte_after g p new used b n q.page.frame (at % 4096) (leaf_is_of n (at / 4096) (p.role q.page.frame) role) (not_a_table n (at / 4096) (p.role q.page.frame) role) (omega arith)
    ∙ sym (subst (λ root. byte_of g.s.ram root at ≡ get_or g.s.ram (4096 * q.page.frame + at % 4096) 0) v.root (byte_mapped g.s.ram p.role n v.maps at x.writes v.stands (omega (arith, l, top)) q))
    ∙ sym (get-seen g.s.ram (satp_of g.t.root) x.start x.bytes k l))

all_shown : (g : Growth) (p : IsPaged g.s) (new : List ℕ) (used : ℕ) (b : Built g p new used) (xs : List Span) → Each IsSpan xs → Each (λ x. IsApart x (window_in g)) xs → Each (λ x. IsMapped (live_in g p).maps x.start x.bytes x.writes) xs → map (span_bytes new g.t.root) xs ≡ map (span_bytes g.s.ram g.t.root) xs
all_shown g p new used b [] fine apart mapped = refl
all_shown g p new used b (x ∷ xs) fine apart mapped =
    ap (λ l. l ∷ map (span_bytes new g.t.root) xs) (old_shown g p new used b x fine.0 apart.0 mapped.0)
    ∙ ap (λ l. span_bytes g.s.ram g.t.root x ∷ l) (all_shown g p new used b xs fine.1 apart.1 mapped.1)

-- the tables map the windows and no other page
pub grown_shows : (g : Growth) (p : IsPaged g.s) (new : List ℕ) (used : ℕ) (b : Built g p new used) → Shows b.maps (spans_in g ++ window_in g ∷ [])
grown_shows g p new used b =
    let v = live_in g p in
    let laid = laid_in g in
    record {
      fine = laid.fine;
      apart = laid.apart;
      mapped = each_spans (λ x. IsMapped b.maps x.start x.bytes x.writes) (spans_in g) (window_in g ∷ [])
          (all_mapped g p new used b (spans_in g) v.shows.fine (apart_last (spans_in g) (window_in g) laid.apart) v.shows.mapped)
          (window_mapped (site_in g p) (regions_of (entries_in g) ++ regions_in g) (entries_in g ++ []) new used (low_in g) (count_in g) true b (window_added g p), tt);
      others = λ at small none.
          let e = none_covers 0 (spans_in g ++ window_in g ∷ []) at none in
          let front = each_front (λ s. covers s at ≡ false) (spans_in g) (window_in g ∷ []) e in
          let c = not_covered (window_in g) at (each_back (λ s. covers s at ≡ false) (spans_in g) (window_in g ∷ []) e).0 in
          let w = (bounds_in g).whole in
          b.others (at / 4096) (no_look g (at / 4096) (⊎_elim (λ l. inl (omega (arith, w, l))) (λ l. inr (omega (arith, w, l))) c))
          ∙ v.shows.others at small (none_first 0 (spans_in g) at front);
    }

-- one table for each region with a page
pub grown_tables : (g : Growth) (p : IsPaged g.s) (new : List ℕ) (used : ℕ) (b : Built g p new used) (i : ℕ) → i < 1024 → list_any (λ m. m == i) (regions_of (entries_in g) ++ regions_in g) ≡ has_region (paged_plan g.s) g.t.program (slots_in g) i
grown_tables g p new used b i l =
    ap (λ r. list_any (λ m. m == i) (r ++ regions_in g)) (regions_entries (first_in g) (count_in g) true)
    ∙ any_last (paged_plan g.s) g.t.program g.t.slots g.slot i

-- the group's record
abbrev own_piece : ℕ → ℕ → ℕ → Part
own_piece k at n = record { start = at; reads = true; writes = true; runs = false; region = false; home = Own k; from = 0; bytes = n }

abbrev pub grown_tenant : Growth → Tenant
grown_tenant g = record g.t { slots = slots_in g }

pub grown_group : (g : Growth) (p : IsPaged g.s) (new : List ℕ) (used : ℕ) (b : Built g p new used) → paged_group new (paged_plan g.s) (grown_tenant g) ≡ with_stack (paged_plan g.s) g.slot (paged_group g.s.ram (paged_plan g.s) g.t)
grown_group g p new used b =
    let plan : MemoryMap = paged_plan g.s in
    let old : Group = paged_group g.s.ram plan g.t in
    let v = live_in g p in
    let laid = laid_in g in
    let n : ℕ = 4096 * count_in g in
    let shown : map (span_bytes new g.t.root) (spans_in g) ≡ old.own = all_shown g p new used b (spans_in g) v.shows.fine (apart_last (spans_in g) (window_in g) laid.apart) v.shows.mapped in
    let blank : span_bytes new g.t.root (window_in g) ≡ zeros n = subst (λ r. seen new (satp_of r) (low_in g) n ≡ zeros n) b.root_is (window_zeros (site_in g p) (regions_of (entries_in g) ++ regions_in g) (entries_in g ++ []) new used (low_in g) (count_in g) true b (window_added g p)) in
    let k = length-map (spans_in g) (span_bytes g.s.ram g.t.root) in
    let index : 0 + length (spans_in g) ≡ length old.own = omega (arith, k) in
    let part : List Part → List (List ℕ) → Group = λ parts own. record old { parts = parts; own = own; slots = slots_in g } in
    ap (λ spans. part (parts_from 0 spans) (map (span_bytes new g.t.root) spans)) (spans_last plan g.t.program g.t.slots g.slot)
    ∙ ap (λ parts. part parts (map (span_bytes new g.t.root) (spans_in g ++ window_in g ∷ []))) (parts_last 0 (spans_in g) (window_in g))
    ∙ ap (λ own. part (parts_from 0 (spans_in g) ++ part_of (0 + length (spans_in g)) (window_in g) ∷ []) own) (map_last (span_bytes new g.t.root) (spans_in g) (window_in g) ∙ ap (λ l. l ++ span_bytes new g.t.root (window_in g) ∷ []) shown ∙ ap (λ l. old.own ++ l ∷ []) blank)
    ∙ ap (λ j. part (old.parts ++ part_of j (window_in g) ∷ []) (old.own ++ zeros n ∷ [])) index
    ∙ ap (λ j. part (old.parts ++ own_piece (length old.own) (low_in g) j ∷ []) (old.own ++ zeros n ∷ [])) (sym (length-zeros n))
