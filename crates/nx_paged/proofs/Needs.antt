-- The frames that a start needs.
use Rattle.std.proofs.Common.{◌≡◌, ℕ, zero, suc, ◌+◌, ◌/◌, ◌≤◌, Bool, true, false, List, [], ◌∷◌, ◌++◌, length, map, refl, sym, ap, ◌∙◌, arith}
use Rattle.std.specs.Prelude.{if◌then◌else◌}
use Rattle.std.proofs.lemmas.List.{length-append, append-nil}
use Rattle.nx_ram.specs.declared.prog_image.ProgImage.{ProgImage}
use Rattle.nx_space.specs.World.{MemoryMap}
use Rattle.nx_space.specs.Starts.{program_at, stack_low, pages_of, pages_from, mapped_pages, different, frames_for}
use Rattle.nx_paged.specs.Spans.{Each}
use Rattle.nx_paged.specs.Paging.{IsLaidOut}
use Rattle.nx_paged.specs.Building.{entries_from, regions_of}
use Rattle.nx_paged.specs.Starting.{program_entries}
use Rattle.nx_paged.proofs.Regions.{regions_from, different_apart, regions_low, regions_high}
use Rattle.nx_paged.proofs.Roots.{all_regions, data_regions, stack_regions, length-all, regions_are}

pub regions_entries : (first n : ℕ) (writes : Bool) → regions_of (entries_from first n writes) ≡ regions_from first n
regions_entries first zero writes = refl
regions_entries first (suc n) writes = ap (λ l. first / 1024 ∷ l) (regions_entries (first + 1) n writes)

each_both : (P : ℕ → Type 0) (xs ys : List ℕ) → Each P xs → Each P ys → Each P (xs ++ ys)
each_both P [] ys h k = k
each_both P (x ∷ xs) ys h k = (h.0, each_both P xs ys h.1 k)

-- no region has pages of two windows
pub apart_regions : (p : ProgImage) (low stack : ℕ) → IsLaidOut p → 0x40000000 ≤ low → different (all_regions p low (pages_of (length p.text)) (pages_of (length p.init)) (pages_of stack)) ≡ different (regions_from (p.text_at / 4096) (pages_of (length p.text))) + (different (regions_from (p.data_at / 4096) (pages_of (length p.init))) + different (regions_from (low / 4096) (pages_of stack)))
apart_regions p low stack l high =
    let nt = pages_of (length p.text) in
    let nd = pages_of (length p.init) in
    let ns = pages_of stack in
    let t : List ℕ = regions_from (p.text_at / 4096) nt in
    let d : List ℕ = regions_from (p.data_at / 4096) nd in
    let s : List ℕ = regions_from (low / 4096) ns in
    let ta = l.text_at in
    let tx = l.text in
    let da = l.data_at in
    let di = l.init in
    let all_is : all_regions p low nt nd ns ≡ t ++ (d ++ s) =
    ap (λ x. x ++ data_regions p low nd ns) (regions_entries (p.text_at / 4096) nt false)
    ∙ ap (λ x. t ++ (x ++ stack_regions low ns)) (regions_entries (p.data_at / 4096) nd true)
    ∙ ap (λ x. t ++ (d ++ x)) (append-nil (regions_of (entries_from (low / 4096) ns true)) ∙ regions_entries (low / 4096) ns true)
    in
    ap different all_is
    ∙ different_apart 64 t (d ++ s) (regions_low 64 (p.text_at / 4096) nt (omega (arith, ta, tx))) (each_both (λ y. 64 ≤ y) d s (regions_high 64 (p.data_at / 4096) nd (omega (arith, da))) (regions_high 64 (low / 4096) ns (omega (arith, high))))
    ∙ ap (λ n. different t + n) (different_apart 256 d s (regions_low 256 (p.data_at / 4096) nd (omega (arith, da, di))) (regions_high 256 (low / 4096) ns (omega (arith, high))))

pub need_counted : (p : ProgImage) (low stack : ℕ) → IsLaidOut p → 0x40000000 ≤ low → length (program_entries p low stack) + different (regions_of (program_entries p low stack)) ≡ (pages_of (length p.text) + different (regions_from (p.text_at / 4096) (pages_of (length p.text)))) + ((pages_of (length p.init) + different (regions_from (p.data_at / 4096) (pages_of (length p.init)))) + (pages_of stack + different (regions_from (low / 4096) (pages_of stack))))
need_counted p low stack l high =
    let nt = pages_of (length p.text) in
    let nd = pages_of (length p.init) in
    let ns = pages_of stack in
    let a = length-all p low nt nd ns in
    let b = ap different (regions_are p low nt nd ns) ∙ apart_regions p low stack l high in
    omega (arith, a, b)

pub map_both : (xs ys : List ℕ) → map (λ page. page / 1024) (xs ++ ys) ≡ map (λ page. page / 1024) xs ++ map (λ page. page / 1024) ys
map_both [] ys = refl
map_both (x ∷ xs) ys = ap (λ l. x / 1024 ∷ l) (map_both xs ys)

pub length-pages : (first n : ℕ) → length (pages_from first n) ≡ n
length-pages first zero = refl
length-pages first (suc n) = ap suc (length-pages (first + 1) n)

append_again : (xs ys zs : List ℕ) → (xs ++ ys) ++ zs ≡ xs ++ (ys ++ zs)
append_again [] ys zs = refl
append_again (x ∷ xs) ys zs = ap (λ l. x ∷ l) (append_again xs ys zs)

-- the regions of a group with one stack are those of its entries
pub started_regions : (memory_map : MemoryMap) (place slot : ℕ) → (let p = program_at memory_map place in map (λ page. page / 1024) (mapped_pages memory_map place (slot ∷ [])) ≡ regions_of (program_entries p (stack_low memory_map slot) memory_map.stack))
started_regions memory_map place slot =
    let p = program_at memory_map place in
    let low = stack_low memory_map slot in
    let nt = pages_of (length p.text) in
    let nd = pages_of (length p.init) in
    let ns = pages_of memory_map.stack in
    let t : List ℕ = pages_from (p.text_at / 4096) nt in
    let d : List ℕ = pages_from (p.data_at / 4096) nd in
    let s : List ℕ = pages_from (low / 4096) ns in
    map_both (t ++ d) (s ++ [])
    ∙ ap (λ l. l ++ map (λ page. page / 1024) (s ++ [])) (map_both t d)
    ∙ ap (λ l. map (λ page. page / 1024) t ++ map (λ page. page / 1024) d ++ l) (map_both s [])
    ∙ append_again (map (λ page. page / 1024) t) (map (λ page. page / 1024) d) (map (λ page. page / 1024) s ++ [])
    ∙ ap (λ x. x ++ (map (λ page. page / 1024) d ++ (map (λ page. page / 1024) s ++ []))) (sym (regions_entries (p.text_at / 4096) nt false))
    ∙ ap (λ x. regions_of (entries_from (p.text_at / 4096) nt false) ++ (x ++ (map (λ page. page / 1024) s ++ []))) (sym (regions_entries (p.data_at / 4096) nd true))
    ∙ ap (λ x. regions_of (entries_from (p.text_at / 4096) nt false) ++ (regions_of (entries_from (p.data_at / 4096) nd true) ++ (x ++ []))) (sym (regions_entries (low / 4096) ns true))
    ∙ sym (regions_are p low nt nd ns)

-- the frames of a group with one stack are those of its entries
pub need_is : (memory_map : MemoryMap) (place slot : ℕ) → memory_map.is_paged ≡ true → (let p = program_at memory_map place in frames_for memory_map place (slot ∷ []) ≡ 1 + (length (program_entries p (stack_low memory_map slot) memory_map.stack) + different (regions_of (program_entries p (stack_low memory_map slot) memory_map.stack))))
unfolding frames_for
need_is memory_map place slot paged =
    let p = program_at memory_map place in
    let low = stack_low memory_map slot in
    let nt = pages_of (length p.text) in
    let nd = pages_of (length p.init) in
    let ns = pages_of memory_map.stack in
    let t : List ℕ = pages_from (p.text_at / 4096) nt in
    let d : List ℕ = pages_from (p.data_at / 4096) nd in
    let s : List ℕ = pages_from (low / 4096) ns in
    let pages : List ℕ = t ++ d ++ (s ++ []) in
    let long = length-append (t ++ d) (s ++ []) in
    let more = length-append t d in
    let last = ap length (append-nil s) in
    let a = length-all p low nt nd ns in
    let regions : map (λ page. page / 1024) pages ≡ all_regions p low nt nd ns = started_regions memory_map place slot ∙ regions_are p low nt nd ns in
    let b = ap different regions in
    let c = ap different (regions_are p low nt nd ns) in
    let x = length-pages (p.text_at / 4096) nt in
    let y = length-pages (p.data_at / 4096) nd in
    let z = length-pages (low / 4096) ns in
    ap (λ v. if v then 1 + length pages + different (map (λ page. page / 1024) pages) else 0) paged
    ∙ omega (arith, long, more, last, a, b, c, x, y, z)
