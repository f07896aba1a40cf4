-- What holds of every world of a paged space.
use Rattle.std.proofs.Common.{◌≡◌, ℕ, zero, suc, ◌+◌, ◌-◌, ◌<◌, ◌==◌, Bool, true, false, Option, Some, None, List, [], ◌∷◌, ◌++◌, length, map, take, refl, sym, ap, ◌∙◌, subst, arith, inl, append_assoc}
use Rattle.std.specs.Prelude.{if◌then◌else◌, slice_index}
use Rattle.std.proofs.lemmas.List.{length-map, length-take, length-append, get_or_at, get_or_past, get_or-take}
use Rattle.std.proofs.lemmas.Bool.{cases_lt}
use Rattle.std.proofs.Common.{⊎_elim}
use Rattle.nx_base.specs.ByteLists.{AreBytes}
use Rattle.nx_base.specs.declared.access.Access.TheVariants.{Load}
use Rattle.nx_sv32.specs.Walk.{ram_start, walk}
use Rattle.nx_tables.specs.Maps.{satp_of}
use Rattle.nx_tables.specs.ViewBytes.{byte_by, seen}
use Rattle.nx_space.specs.World.{Home, Common, Own, Group, MemoryMap, has_view, group_of, bytes_in, seen_by}
use Rattle.nx_space.specs.Lawful.{IsApartFrom, AreParts, AreOwn, AreNumbered, IsAlone, IsWorld}
use Rattle.nx_space.specs.Starts.{frames_for, needs}
use Rattle.nx_paged.specs.Tenants.{Tenant, has_tenant, are_distinct, frames_taken}
use Rattle.nx_paged.specs.Spans.{Span, part_of, parts_from, span_bytes, spans_of}
use Rattle.nx_paged.specs.Paging.{Paging, paged_plan, paged_group, paged_world, IsTenant, IsPlaced}
use Rattle.nx_paged.specs.Finding.{each_of, both_true, tenant_view, find_tenant}
use Rattle.nx_paged.specs.Layout.{FitsStacks, AreLaidOut, laid_out, group_laid_out, stack_held, data_held}

pub length-seen : (ram : List ℕ) (satp at n : ℕ) → length (seen ram satp at n) ≡ n
unfolding seen
length-seen ram satp at zero = refl
length-seen ram satp at (suc n) = ap suc (length-seen ram satp (at + 1) n)

-- the windows show different bytes of the group's own, and all of them
later_apart : (k j : ℕ) (s : Span) (spans : List Span) → k < j → IsApartFrom (part_of k s) (parts_from j spans)
unfolding parts_from
later_apart k j s [] h = tt
later_apart k j s (t ∷ ts) h = (inl (λ e. differ e), later_apart k (j + 1) s ts (omega (arith, h)))
  where
    differ : Own k ≡ Own j → ⊥
    differ e = let f : k ≡ j = cc in omega (arith, f, h)

parts_lie : (common before : List (List ℕ)) (f : Span → List ℕ) (spans : List Span) → ((s : Span) → length (f s) ≡ s.bytes) → AreParts common (before ++ map f spans) (parts_from (length before) spans)
unfolding parts_from
parts_lie common before f [] size = tt
parts_lie common before f (s ∷ ss) size =
    let all = before ++ (f s ∷ map f ss) in
    let here : bytes_in all (length before) ≡ f s = get_or_at before (f s) (map f ss) [] (length before) refl in
    let l = length-append before (f s ∷ map f ss) in
    let k = length-append before (f s ∷ []) in
    let n = ap length here ∙ size s in
    let next : length (before ++ (f s ∷ [])) ≡ length before + 1 = omega (arith, k) in
    let moved : before ++ (f s ∷ []) ++ map f ss ≡ all = append_assoc before (f s ∷ []) (map f ss) in
    let rest = parts_lie common (before ++ (f s ∷ [])) f ss size in
    ((omega (arith, l), omega (arith, n)), (later_apart (length before) (length before + 1) s ss (omega arith), subst (λ own. AreParts common own (parts_from (length before + 1) ss)) moved (subst (λ j. AreParts common (before ++ (f s ∷ []) ++ map f ss) (parts_from j ss)) next rest)))

parts_own : (k : ℕ) (spans : List Span) → AreOwn (parts_from k spans)
unfolding parts_from
parts_own k [] = tt
parts_own k (s ∷ ss) = (tt, parts_own (k + 1) ss)

pub fits_stacks : (s : Paging) → IsPlaced s → FitsStacks (paged_plan s)
fits_stacks s h = record { at = refl; stride = refl; one = h.fits.one; whole = h.fits.stack_whole; most = h.fits.most; few = h.fits.few }

pub tenant_laid_out : (s : Paging) (t : Tenant) → IsPlaced s → IsTenant (paged_plan s) t → AreLaidOut (spans_of (paged_plan s) t.program t.slots)
tenant_laid_out s t h k = group_laid_out (paged_plan s) t.program t.slots (fits_stacks s h) (laid_out s.programs t.program h.fits.laid_out k.program) k.once k.slots

group_alone : (s : Paging) (t : Tenant) → IsPlaced s → IsTenant (paged_plan s) t → IsAlone (paged_plan s) (take s.pool s.ram ∷ []) (paged_group s.ram (paged_plan s) t)
group_alone s t h k =
    let memory_map = paged_plan s in
    let spans = spans_of memory_map t.program t.slots in
    let a = tenant_laid_out s t h k in
    record {
      parts = parts_lie (take s.pool s.ram ∷ []) [] (span_bytes s.ram t.root) spans (λ x. length-seen s.ram (satp_of t.root) x.start x.bytes);
      own = parts_own 0 spans;
      stacks = λ slot has. stack_held memory_map t.program t.slots slot (fits_stacks s h) a.apart has;
      contents = λ some. data_held memory_map t.program t.slots a.apart some;
    }

pub view_alone : (s : Paging) (number : ℕ) → IsPlaced s → has_view (paged_world s).groups number ≡ true → IsAlone (paged_plan s) (paged_world s).common (group_of (paged_world s).groups number)
view_alone s number h v =
    let memory_map = paged_plan s in
    let f = find_tenant (IsTenant memory_map) s.tenants number (each_of (IsTenant memory_map) s.tenants h.tenants) (sym (tenant_view s.ram memory_map s.tenants number) ∙ v) in
    subst (IsAlone memory_map (paged_world s).common) (sym (f.group_is s.ram memory_map)) (group_alone s f.tenant h f.ok)

groups_numbered : (ram : List ℕ) (memory_map : MemoryMap) (ts : List Tenant) → are_distinct ts ≡ true → AreNumbered (map (paged_group ram memory_map) ts)
groups_numbered ram memory_map [] h = tt
groups_numbered ram memory_map (t ∷ ts) h = let b = both_true (has_tenant ts t.number) (are_distinct ts) h in (tenant_view ram memory_map ts t.number ∙ b.0, groups_numbered ram memory_map ts b.1)

-- the frames of all groups
pub needs_taken : (ram : List ℕ) (memory_map : MemoryMap) (ts : List Tenant) → needs memory_map (map (paged_group ram memory_map) ts) ≡ frames_taken memory_map ts
unfolding needs frames_taken
needs_taken ram memory_map [] = refl
needs_taken ram memory_map (t ∷ ts) = ap (λ n. frames_for memory_map t.program t.slots + n) (needs_taken ram memory_map ts)

pub paged_lawful : (s : Paging) → IsPlaced s → IsWorld (paged_world s)
paged_lawful s h = record {
  few = let l = length-map s.tenants (paged_group s.ram (paged_plan s)) in let f = h.few in omega (arith, l, f);
  numbered = groups_numbered s.ram (paged_plan s) s.tenants h.distinct;
  enough = let n = needs_taken s.ram (paged_plan s) s.tenants in let c = h.counted in omega (arith, n, c);
  pool = let l = length-take s.pool s.ram in let p = h.fits.pool_inside in omega (arith, l, p);
  pages = λ e. h.fits.pool_whole;
  shared = λ e. absurd cc;
  alike = λ e. absurd cc;
  alone = λ e number v. view_alone s number h v;
}

-- what a window shows is bytes
byte_small : (ram : List ℕ) (o : Option ℕ) → AreBytes ram → byte_by ram o < 256
byte_small ram None h = omega arith
byte_small ram (Some to) h = h (to - ram_start)

seen_small : (ram : List ℕ) (satp at n : ℕ) → AreBytes ram → AreBytes (seen ram satp at n)
unfolding seen
seen_small ram satp at zero h i = let z : slice_index [] i ≡ 0 = get_or_past [] i 0 (omega arith) in omega (arith, z)
seen_small ram satp at (suc n) h zero = byte_small ram (walk ram satp at Load) h
seen_small ram satp at (suc n) h (suc i) = seen_small ram satp (at + 1) n h i

no_bytes : AreBytes []
no_bytes i = let z : slice_index [] i ≡ 0 = get_or_past [] i 0 (omega arith) in omega (arith, z)

spans_small : (f : Span → List ℕ) (spans : List Span) (k : ℕ) → ((s : Span) → AreBytes (f s)) → AreBytes (bytes_in (map f spans) k)
spans_small f [] k h = subst AreBytes (sym (get_or_past {X = List ℕ} [] k [] (omega arith))) no_bytes
spans_small f (s ∷ ss) zero h = h s
spans_small f (s ∷ ss) (suc k) h = spans_small f ss k h

groups_small : (ram : List ℕ) (memory_map : MemoryMap) (ts : List Tenant) (number k : ℕ) → AreBytes ram → AreBytes (bytes_in (group_of (map (paged_group ram memory_map) ts) number).own k)
unfolding group_of
groups_small ram memory_map [] number k h = subst AreBytes (sym (get_or_past {X = List ℕ} [] k [] (omega arith))) no_bytes
groups_small ram memory_map (t ∷ ts) number k h = by_test (t.number == number) (groups_small ram memory_map ts number k h)
  where
    rest : Group
    rest = group_of (map (paged_group ram memory_map) ts) number

    by_test : (b : Bool) → AreBytes (bytes_in rest.own k) → AreBytes (bytes_in (if b then paged_group ram memory_map t else rest).own k)
    by_test true more = spans_small (span_bytes ram t.root) (spans_of memory_map t.program t.slots) k (λ s. seen_small ram (satp_of t.root) s.start s.bytes h)
    by_test false more = more

take_small : (n : ℕ) (bs : List ℕ) → AreBytes bs → AreBytes (take n bs)
take_small n bs h i = ⊎_elim
    (λ l. subst (λ x. x < 256) (sym (get_or-take n bs i 0 l)) (h i))
    (λ l. let k = length-take n bs in let z : slice_index (take n bs) i ≡ 0 = get_or_past (take n bs) i 0 (omega (arith, k, l)) in omega (arith, z))
    (cases_lt i n)

pub paged_bytes : (s : Paging) → IsPlaced s → (number : ℕ) (home : Home) → AreBytes (seen_by (paged_world s) number home)
paged_bytes s h number (Common zero) = take_small s.pool s.ram h.bytes
paged_bytes s h number (Common (suc k)) = subst AreBytes (sym (get_or_past {X = List ℕ} [] k [] (omega arith))) no_bytes
paged_bytes s h number (Own k) = groups_small s.ram (paged_plan s) s.tenants number k h.bytes
