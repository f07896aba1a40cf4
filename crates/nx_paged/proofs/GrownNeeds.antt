-- The frames that one stack more needs.
use Rattle.std.proofs.Common.{◌≡◌, ℕ, zero, suc, ◌+◌, ◌/◌, ◌%◌, ◌≤◌, ◌==◌, Bool, true, false, ◌||◌, List, [], ◌∷◌, ◌++◌, length, map, refl, sym, ap, ◌∙◌, arith, append_assoc}
use Rattle.std.specs.Prelude.{if◌then◌else◌}
use Rattle.std.specs.List.{list_any}
use Rattle.std.proofs.lemmas.List.{length-append, append-nil}
use Rattle.nx_space.specs.World.{MemoryMap}
use Rattle.nx_space.specs.Starts.{program_at, stack_low, pages_of, pages_at, stack_pages, mapped_pages, different, frames_for}
use Rattle.nx_paged.specs.Spans.{Each}
use Rattle.nx_paged.proofs.Regions.{regions_from, any_append, one_region, different_before, different_after}
use Rattle.nx_paged.proofs.Needs.{map_both, length-pages}

-- the regions of a group's pages
abbrev pub group_regions : MemoryMap → ℕ → List ℕ → List ℕ
group_regions memory_map place slots = map (λ page. page / 1024) (mapped_pages memory_map place slots)

stack_last : (memory_map : MemoryMap) (slots : List ℕ) (slot : ℕ) → stack_pages memory_map (slots ++ slot ∷ []) ≡ stack_pages memory_map slots ++ pages_at (stack_low memory_map slot) memory_map.stack
stack_last memory_map [] slot = append-nil (pages_at (stack_low memory_map slot) memory_map.stack)
stack_last memory_map (x ∷ xs) slot =
    let first : List ℕ = pages_at (stack_low memory_map x) memory_map.stack in
    ap (λ l. first ++ l) (stack_last memory_map xs slot) ∙ sym (append_assoc first (stack_pages memory_map xs) (pages_at (stack_low memory_map slot) memory_map.stack))

pub pages_last : (memory_map : MemoryMap) (place : ℕ) (slots : List ℕ) (slot : ℕ) → mapped_pages memory_map place (slots ++ slot ∷ []) ≡ mapped_pages memory_map place slots ++ pages_at (stack_low memory_map slot) memory_map.stack
pages_last memory_map place slots slot =
    let p = program_at memory_map place in
    let front : List ℕ = pages_at p.text_at (length p.text) ++ pages_at p.data_at (length p.init) in
    ap (λ l. front ++ l) (stack_last memory_map slots slot) ∙ sym (append_assoc front (stack_pages memory_map slots) (pages_at (stack_low memory_map slot) memory_map.stack))

pub regions_last : (memory_map : MemoryMap) (place : ℕ) (slots : List ℕ) (slot : ℕ) → group_regions memory_map place (slots ++ slot ∷ []) ≡ group_regions memory_map place slots ++ regions_from (stack_low memory_map slot / 4096) (pages_of memory_map.stack)
regions_last memory_map place slots slot =
    ap (map (λ page. page / 1024)) (pages_last memory_map place slots slot)
    ∙ map_both (mapped_pages memory_map place slots) (pages_at (stack_low memory_map slot) memory_map.stack)

-- a stack lies in one region
pub record IsCompact (low stack : ℕ) : Type 0 where
  pub one : 1 ≤ stack
  pub most : stack ≤ 0x100000
  pub whole : low % 0x200000 ≡ 0

stack_region : (low stack : ℕ) → IsCompact low stack → Each (λ y. y ≡ low / 4096 / 1024) (regions_from (low / 4096) (pages_of stack))
stack_region low stack h = one_region (low / 4096) (pages_of stack) (low / 4096 / 1024) (λ k l. let w = h.whole in let m = h.most in omega (arith, l, w, m))

-- a table more where none of the group's pages is in that region
abbrev pub table_more : ℕ → List ℕ → ℕ
table_more r regions = if list_any (λ m. m == r) regions then 0 else 1

different_stack_after : (r n first : ℕ) (xs : List ℕ) → 1 ≤ n → Each (λ y. y ≡ r) (regions_from first n) → different (xs ++ regions_from first n) ≡ different xs + table_more r xs
different_stack_after r zero first xs h e = absurd (omega (arith, h))
different_stack_after r (suc n) first xs h e = different_after r xs (first / 1024) (regions_from (first + 1) n) e

different_stack_before : (r n first : ℕ) (xs : List ℕ) → 1 ≤ n → Each (λ y. y ≡ r) (regions_from first n) → different (regions_from first n ++ xs) ≡ different xs + table_more r xs
different_stack_before r zero first xs h e = absurd (omega (arith, h))
different_stack_before r (suc n) first xs h e = different_before r (first / 1024) (regions_from (first + 1) n) xs e

pub more_regions : (low stack : ℕ) (xs : List ℕ) → IsCompact low stack → different (regions_from (low / 4096) (pages_of stack) ++ xs) ≡ different xs + table_more (low / 4096 / 1024) xs
more_regions low stack xs h = different_stack_before (low / 4096 / 1024) (pages_of stack) (low / 4096) xs (let o = h.one in omega (arith, o)) (stack_region low stack h)

pub frames_more : (memory_map : MemoryMap) (place : ℕ) (slots : List ℕ) (slot : ℕ) → memory_map.is_paged ≡ true → IsCompact (stack_low memory_map slot) memory_map.stack → frames_for memory_map place (slots ++ slot ∷ []) ≡ frames_for memory_map place slots + (pages_of memory_map.stack + table_more (stack_low memory_map slot / 4096 / 1024) (group_regions memory_map place slots))
unfolding frames_for
frames_more memory_map place slots slot paged h =
    let low = stack_low memory_map slot in
    let r = low / 4096 / 1024 in
    let old : List ℕ = mapped_pages memory_map place slots in
    let new : List ℕ = mapped_pages memory_map place (slots ++ slot ∷ []) in
    let a = ap length (pages_last memory_map place slots slot) ∙ length-append old (pages_at low memory_map.stack) in
    let b = length-pages (low / 4096) (pages_of memory_map.stack) in
    let c = ap different (regions_last memory_map place slots slot) ∙ different_stack_after r (pages_of memory_map.stack) (low / 4096) (group_regions memory_map place slots) (let o = h.one in omega (arith, o)) (stack_region low memory_map.stack h) in
    let d = ap (λ v. if v then 1 + length old + different (group_regions memory_map place slots) else 0) paged in
    ap (λ v. if v then 1 + length new + different (group_regions memory_map place (slots ++ slot ∷ [])) else 0) paged
    ∙ omega (arith, a, b, c, d)

-- which regions have a page
pub any_last : (memory_map : MemoryMap) (place : ℕ) (slots : List ℕ) (slot i : ℕ) → list_any (λ m. m == i) (regions_from (stack_low memory_map slot / 4096) (pages_of memory_map.stack) ++ group_regions memory_map place slots) ≡ list_any (λ m. m == i) (group_regions memory_map place (slots ++ slot ∷ []))
any_last memory_map place slots slot i =
    let stack : List ℕ = regions_from (stack_low memory_map slot / 4096) (pages_of memory_map.stack) in
    let old : List ℕ = group_regions memory_map place slots in
    any_append (λ m. m == i) stack old
    ∙ swap (list_any (λ m. m == i) stack) (list_any (λ m. m == i) old)
    ∙ sym (any_append (λ m. m == i) old stack)
    ∙ ap (list_any (λ m. m == i)) (sym (regions_last memory_map place slots slot))
  where
    swap : (a b : Bool) → (a || b) ≡ (b || a)
    swap true true = refl
    swap true false = refl
    swap false true = refl
    swap false false = refl
