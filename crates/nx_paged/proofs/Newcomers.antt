-- The space and its world after a start.
use Rattle.std.proofs.Common.{◌≡◌, ◌≢◌, ℕ, zero, suc, ◌+◌, ◌-◌, ◌*◌, ◌/◌, ◌%◌, ◌<◌, ◌≤◌, ◌==◌, Bool, true, false, not, List, [], ◌∷◌, ◌++◌, length, map, take, get_or, refl, sym, ap, ◌∙◌, subst, arith, ⊎_elim}
use Rattle.std.specs.List.{All, list_any}
use Rattle.std.proofs.lemmas.List.{length-append, append-nil}
use Rattle.nx_frames.specs.declared.frames.Taken.{Taken}
use Rattle.nx_frames.specs.Chains as chains
use Rattle.nx_frames.specs.Chains.{IsFrame}
use Rattle.nx_frames.specs.Stock.{Stock, AreHeld, frames_of}
use Rattle.nx_frames.proofs.Owners.{taken_held, held_back}
use Rattle.nx_sv32.specs.Walk.{ram_start}
use Rattle.nx_tables.specs.Maps.{satp_of}
use Rattle.nx_tables.specs.Roles.{Role, Free, is_of}
use Rattle.nx_tables.specs.ViewBytes.{seen}
use Rattle.nx_space.specs.World.{Own, Part, Group, MemoryMap}
use Rattle.nx_space.specs.Starts.{pages_of, paged, area_of, areas_of, own_parts, frames_for, started, but_outside}
use Rattle.nx_paged.specs.Spans.{Each, span_of, spans_of, parts_from, span_bytes}
use Rattle.nx_paged.specs.Paging.{Paging, paged_plan, paged_group, paged_world, FrameAt, IsLive, IsPaged}
use Rattle.nx_paged.specs.Lawful.{fits_stacks}
use Rattle.nx_paged.specs.Layout.{laid_out, group_laid_out}
use Rattle.nx_paged.specs.Starting.{IsMappedIn}
use Rattle.nx_paged.proofs.FrameLists.{each_right}
use Rattle.nx_paged.proofs.Shown.{take_same}
use Rattle.nx_paged.proofs.Needs.{started_regions}
use Rattle.nx_paged.proofs.Zeros.{zeros, length-zeros}
use Rattle.nx_paged.proofs.Ends.{holdings, same_plan}
use Rattle.nx_paged.proofs.Begun.{Starts, program_in, low_of, can_start, elsewhere_of, untouched, still_groups, still_lives, newcomer, with_newcomer, each_last, map_last, still_nobody, one_or_none}

one_slot : (n slot : ℕ) → slot < n → All (λ x. x < n) (slot ∷ [])
one_slot n slot h zero d l = h
one_slot n slot h (suc k) d l = absurd (omega (arith, l))

pub high_frames : (first count low : ℕ) (l : List ℕ) → low ≤ first → chains.Each (IsFrame first count) l → chains.Each (λ a. low ≤ a) l
high_frames first count low [] h f = tt
high_frames first count low (a ∷ l) h f = let at = f.0.2 in (omega (arith, at, h), high_frames first count low l h f.1)

pub begun_paged : (s : Paging) (stock : Stock) (taken_ram ram : List ℕ) (number place slot root : ℕ) (t : Taken) (h : Starts s stock taken_ram ram number place slot root t) (p : IsPaged s) → IsMappedIn taken_ram ram (frames_of stock t) root (program_in s place) (low_of s slot) s.stack p.role number → IsPaged (with_newcomer s stock ram (newcomer number place slot root t))
begun_paged s stock taken_ram ram number place slot root t h p m =
    let new = newcomer number place slot root t in
    let frames = frames_of stock t in
    let memory_map = same_plan s stock (s.tenants ++ new ∷ []) h.same in
    let u = untouched s stock taken_ram ram number place slot root t h p m in
    let laid = group_laid_out (paged_plan s) place (slot ∷ []) (fits_stacks s h.placed) (laid_out s.programs place h.placed.fits.laid_out h.program) refl (one_slot s.threads slot h.slot_is) in
    let live : IsLive ram stock (paged_plan s) m.roles new = record {
      maps = m.maps;
      root = m.maps_root;
      stands = m.stands;
      tables = λ i l. m.tables i l ∙ ap (list_any (λ x. x == i)) (sym (started_regions (paged_plan s) place slot));
      shows = record { fine = laid.fine; apart = laid.apart; mapped = m.mapped; others = m.others };
      frames = m.taken;
      count = h.takes.count;
    } in
    let lives = still_lives s stock ram number p.role m.roles s.tenants u (λ x holds. (h.takes.others x holds).0) p.live h.fresh_number p.held in
    let held = taken_held s.stock stock s.ram taken_ram (frames_for (paged_plan s) place (slot ∷ [])) t (holdings s.tenants) h.takes p.held in
    record {
      role = m.roles;
      live = subst (λ q. Each (IsLive ram stock q m.roles) (s.tenants ++ new ∷ [])) (sym memory_map) (each_last (IsLive ram stock (paged_plan s) m.roles) s.tenants new lives live);
      held = subst (AreHeld stock) (sym (map_last (λ x. x.taken) s.tenants new)) (held_back stock t (holdings s.tenants) [] (subst (λ l. AreHeld stock (t ∷ l)) (sym (append-nil (holdings s.tenants))) held));
      nobody = still_nobody p.role m.roles frames stock.free m.elsewhere h.takes.holds.apart (each_right (FrameAt (λ r. r ≡ Free) p.role) frames stock.free (subst (Each (FrameAt (λ r. r ≡ Free) p.role)) h.takes.order p.nobody));
      past = λ f g own. ⊎_elim
          (λ high. omega (arith, high))
          (λ out. p.past f g (ap (is_of g) (sym (m.elsewhere f out)) ∙ own))
          (one_or_none (λ a. ram_start + s.pool ≤ a) (ram_start + 4096 * f) frames (high_frames stock.first (length stock.next) (ram_start + s.pool) frames (let e = h.same.first ∙ h.placed.first in omega (arith, e)) h.takes.holds.frames));
    }

-- windows and areas
abbrev pub piece : ℕ → ℕ → Bool → ℕ → Part
piece k at writes n = record { start = at; reads = true; writes = writes; runs = not writes; region = false; home = Own k; from = 0; bytes = n }

length-paged : (bytes : List ℕ) → length (paged bytes) ≡ 4096 * pages_of (length bytes)
length-paged bytes =
    let a = length-append bytes (zeros (4096 * pages_of (length bytes) - length bytes)) in
    let b = length-zeros (4096 * pages_of (length bytes) - length bytes) in
    omega (arith, a, b)

parts_areas : (ta da low stack : ℕ) (text contents : List ℕ) → parts_from 0 (span_of ta false text ++ (span_of da true contents ++ (record { start = low; bytes = 4096 * pages_of stack; writes = true } ∷ []))) ≡ own_parts 0 (area_of ta false text ++ area_of da true contents ++ (record { start = low; writes = true; bytes = zeros (4096 * pages_of stack) } ∷ []))
unfolding parts_from
parts_areas ta da low stack [] [] = ap (λ n. piece 0 low true n ∷ []) (sym (length-zeros (4096 * pages_of stack)))
parts_areas ta da low stack [] (c ∷ cs) =
    ap (λ n. piece 0 da true n ∷ piece (0 + 1) low true (4096 * pages_of stack) ∷ []) (sym (length-paged (c ∷ cs)))
    ∙ ap (λ n. piece 0 da true (length (paged (c ∷ cs))) ∷ piece (0 + 1) low true n ∷ []) (sym (length-zeros (4096 * pages_of stack)))
parts_areas ta da low stack (b ∷ bs) [] =
    ap (λ n. piece 0 ta false n ∷ piece (0 + 1) low true (4096 * pages_of stack) ∷ []) (sym (length-paged (b ∷ bs)))
    ∙ ap (λ n. piece 0 ta false (length (paged (b ∷ bs))) ∷ piece (0 + 1) low true n ∷ []) (sym (length-zeros (4096 * pages_of stack)))
parts_areas ta da low stack (b ∷ bs) (c ∷ cs) =
    ap (λ n. piece 0 ta false n ∷ piece (0 + 1) da true (4096 * pages_of (length (c ∷ cs))) ∷ piece (0 + 1 + 1) low true (4096 * pages_of stack) ∷ []) (sym (length-paged (b ∷ bs)))
    ∙ ap (λ n. piece 0 ta false (length (paged (b ∷ bs))) ∷ piece (0 + 1) da true n ∷ piece (0 + 1 + 1) low true (4096 * pages_of stack) ∷ []) (sym (length-paged (c ∷ cs)))
    ∙ ap (λ n. piece 0 ta false (length (paged (b ∷ bs))) ∷ piece (0 + 1) da true (length (paged (c ∷ cs))) ∷ piece (0 + 1 + 1) low true n ∷ []) (sym (length-zeros (4096 * pages_of stack)))

own_areas : (ram : List ℕ) (root ta da low stack : ℕ) (text contents : List ℕ) → seen ram (satp_of root) ta (4096 * pages_of (length text)) ≡ paged text → seen ram (satp_of root) da (4096 * pages_of (length contents)) ≡ paged contents → seen ram (satp_of root) low (4096 * pages_of stack) ≡ zeros (4096 * pages_of stack) → map (span_bytes ram root) (span_of ta false text ++ (span_of da true contents ++ (record { start = low; bytes = 4096 * pages_of stack; writes = true } ∷ []))) ≡ map (λ a. a.bytes) (area_of ta false text ++ area_of da true contents ++ (record { start = low; writes = true; bytes = zeros (4096 * pages_of stack) } ∷ []))
own_areas ram root ta da low stack [] [] t d s = ap (λ z. z ∷ []) s
own_areas ram root ta da low stack [] (c ∷ cs) t d s = ap (λ y. y ∷ seen ram (satp_of root) low (4096 * pages_of stack) ∷ []) d ∙ ap (λ z. paged (c ∷ cs) ∷ z ∷ []) s
own_areas ram root ta da low stack (b ∷ bs) [] t d s = ap (λ x. x ∷ seen ram (satp_of root) low (4096 * pages_of stack) ∷ []) t ∙ ap (λ z. paged (b ∷ bs) ∷ z ∷ []) s
own_areas ram root ta da low stack (b ∷ bs) (c ∷ cs) t d s =
    ap (λ x. x ∷ seen ram (satp_of root) da (4096 * pages_of (length (c ∷ cs))) ∷ seen ram (satp_of root) low (4096 * pages_of stack) ∷ []) t
    ∙ ap (λ y. paged (b ∷ bs) ∷ y ∷ seen ram (satp_of root) low (4096 * pages_of stack) ∷ []) d
    ∙ ap (λ z. paged (b ∷ bs) ∷ paged (c ∷ cs) ∷ z ∷ []) s

abbrev pub started_group : MemoryMap → ℕ → ℕ → ℕ → Group
started_group memory_map number place slot =
    let areas = areas_of memory_map place slot in
    record { number = number; program = place; slot = slot; parts = own_parts 0 areas; own = map (λ a. a.bytes) areas; slots = slot ∷ [] }

new_group : (s : Paging) (taken_ram ram frames : List ℕ) (number place slot root : ℕ) (t : Taken) (role : ℕ → Role) → IsMappedIn taken_ram ram frames root (program_in s place) (low_of s slot) s.stack role number → paged_group ram (paged_plan s) (newcomer number place slot root t) ≡ started_group (paged_plan s) number place slot
new_group s taken_ram ram frames number place slot root t role m =
    let p = program_in s place in
    let low = low_of s slot in
    let spans = spans_of (paged_plan s) place (slot ∷ []) in
    ap (λ ps. record { number = number; program = place; slot = slot; parts = ps; own = map (span_bytes ram root) spans; slots = slot ∷ [] }) (parts_areas p.text_at p.data_at low s.stack p.text p.init)
    ∙ ap (λ own. record { number = number; program = place; slot = slot; parts = own_parts 0 (areas_of (paged_plan s) place slot); own = own; slots = slot ∷ [] }) (own_areas ram root p.text_at p.data_at low s.stack p.text p.init m.text m.contents m.zeros)

-- the pool is as it was
pool_same : (s : Paging) (stock : Stock) (taken_ram ram : List ℕ) (number place slot root : ℕ) (t : Taken) (h : Starts s stock taken_ram ram number place slot root t) (p : IsPaged s) → IsMappedIn taken_ram ram (frames_of stock t) root (program_in s place) (low_of s slot) s.stack p.role number → take s.pool ram ≡ take s.pool s.ram
pool_same s stock taken_ram ram number place slot root t h p m = take_same s.ram ram s.pool (m.long ∙ h.takes.zeroed.long) byte
  where
    frames : List ℕ
    frames = frames_of stock t

    lower : (f : ℕ) (l : List ℕ) → 4096 * f < s.pool → chains.Each (λ a. ram_start + s.pool ≤ a) l → Each (λ a. a ≢ ram_start + 4096 * f) l
    lower f [] less h = tt
    lower f (a ∷ l) less h = let x = h.0 in ((λ e. omega (arith, e, less, x)), lower f l less h.1)

    out : (f : ℕ) → 4096 * f < s.pool → Each (λ a. a ≢ ram_start + 4096 * f) frames
    out f less = lower f frames less (high_frames stock.first (length stock.next) (ram_start + s.pool) frames (let e = h.same.first ∙ h.placed.first in omega (arith, e)) h.takes.holds.frames)

    not_own : (f : ℕ) → 4096 * f < s.pool → is_of number (p.role f) ≡ false
    not_own f less = by_test (is_of number (p.role f)) refl
      where
        by_test : (b : Bool) → is_of number (p.role f) ≡ b → b ≡ false
        by_test true e = let x = p.past f number e in absurd (omega (arith, x, less))
        by_test false e = refl

    byte : (k : ℕ) → k < s.pool → get_or ram k 0 ≡ get_or s.ram k 0
    byte k l =
        let f : ℕ = k / 4096 in
        let o : ℕ = k % 4096 in
        let is : k ≡ 4096 * f + o = omega arith in
        let less : 4096 * f < s.pool = omega (arith, l) in
        let small : o < 4096 = omega arith in
        let c = can_start s stock taken_ram ram number place slot root t h p in
        ap (λ i. get_or ram i 0) is
        ∙ m.kept f o (ap (is_of number) (m.elsewhere f (out f less)) ∙ not_own f less) small
        ∙ h.takes.zeroed.others (4096 * f + o) (elsewhere_of f o p.role frames small c.free (out f less))
        ∙ ap (λ i. get_or s.ram i 0) (sym is)

pub begun_world : (s : Paging) (stock : Stock) (taken_ram ram : List ℕ) (number place slot root : ℕ) (t : Taken) (fresh : Bool) (h : Starts s stock taken_ram ram number place slot root t) (p : IsPaged s) → IsMappedIn taken_ram ram (frames_of stock t) root (program_in s place) (low_of s slot) s.stack p.role number → (let new = paged_world (with_newcomer s stock ram (newcomer number place slot root t)) in new ≡ but_outside (started (paged_world s) number place slot fresh) new)
unfolding started
begun_world s stock taken_ram ram number place slot root t fresh h p m =
    let new = newcomer number place slot root t in
    let ts = s.tenants ++ new ∷ [] in
    let w = paged_world (with_newcomer s stock ram new) in
    let u = untouched s stock taken_ram ram number place slot root t h p m in
    let groups = map_last (paged_group ram (paged_plan s)) s.tenants new
    ∙ ap (λ gs. gs ++ paged_group ram (paged_plan s) new ∷ []) (still_groups s stock ram number p.role m.roles s.tenants u p.live h.fresh_number)
    ∙ ap (λ g. map (paged_group s.ram (paged_plan s)) s.tenants ++ g ∷ []) (new_group s taken_ram ram (frames_of stock t) number place slot root t p.role m)
    in
    ap (λ memory_map. record w { memory_map = memory_map; groups = map (paged_group ram memory_map) ts }) (same_plan s stock ts h.same)
    ∙ ap (λ gs. record w { memory_map = paged_plan s; groups = gs }) groups
    ∙ ap (λ bs. record w { memory_map = paged_plan s; groups = map (paged_group s.ram (paged_plan s)) s.tenants ++ started_group (paged_plan s) number place slot ∷ []; common = bs ∷ [] }) (pool_same s stock taken_ram ram number place slot root t h p m)
