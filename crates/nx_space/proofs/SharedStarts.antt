-- Starts, threads' stacks and ends of a space without pages, whatever its windows are.
use Rattle.std.proofs.Common.{◌≡◌, ℕ, suc, ◌+◌, ◌-◌, ◌*◌, ◌<◌, ◌≤◌, ◌==◌, Bool, true, false, ◌||◌, List, [], ◌∷◌, ◌++◌, length, map, Option, Some, None, refl, sym, ap, ◌∙◌, arith, replicate}
use Rattle.std.specs.Prelude.{if◌then◌else◌, slice_index_or}
use Rattle.std.specs.List.{remove}
use Rattle.std.proofs.lemmas.Bool.Decides.{nat_tests}
use Rattle.std.proofs.lemmas.List.{map-append, length-replicate}
use Rattle.nx_base.specs.ByteLists.{put_bytes}
use Rattle.nx_base.proofs.Puts.{put_bytes-none}
use Rattle.nx_space.specs.declared.shared.Live.{Live}
use Rattle.nx_space.specs.World.{Home, Common, Part, MemoryMap, World, has_view, group_of}
use Rattle.nx_space.specs.Places.{Place, lies_in, place_in, written_at, is_clear}
use Rattle.nx_space.specs.Lawful.{MayHold, IsShared}
use Rattle.nx_space.specs.Starts.{program_at, stack_low, frames_for, start_need, grow_need, program_of, start_regs, thread_regs, put_or, put_seen, set_data, zero_stack, with_group, started, grown, finished, without}
use Rattle.nx_space.specs.Shared.{ram_start, AreStraight, Sharing, shared_group, shared_plan, shared_world, has_live, place_of, with_stack_zeroed, with_data_set, sharing_started, sharing_finished, live_group}
use Rattle.nx_space.proofs.Stores.{placed}
use Rattle.nx_space.proofs.Windows.{within}
use Rattle.nx_space.proofs.SharedAccesses.{spot}

-- windows of the RAM show at each address the byte that stands there
pub straight_place : (may : Part → Bool) (ps : List Part) (at n : ℕ) (pl : Place) → AreStraight ps → place_in may ps at n ≡ Some pl → spot (Some (at - ram_start)) ≡ Some pl
unfolding place_in
straight_place may [] at n pl s e = absurd cc
straight_place may (p ∷ ps) at n pl s e = by_test (lies_in p at n) refl (may p) e (λ r. straight_place may ps at n pl s.1 r)
  where
    by_test : (b : Bool) → lies_in p at n ≡ b → (c : Bool) → (if b then (if c then Some (record { home = p.home; at = p.from + (at - p.start) }) else None) else place_in may ps at n) ≡ Some pl → (place_in may ps at n ≡ Some pl → spot (Some (at - ram_start)) ≡ Some pl) → spot (Some (at - ram_start)) ≡ Some pl
    by_test true h true e more =
        let k = within p at n h in
        let i : at - ram_start ≡ p.from + (at - p.start) = let q = s.0.1 in omega (arith, k.0, q) in
        ap (λ j. spot (Some j)) i ∙ ap (λ h. let o : Option Place = Some (record { home = h; at = p.from + (at - p.start) }) in o) (sym s.0.0) ∙ e
    by_test true h false e more = absurd cc
    by_test false h c e more = more e

pub held_place : (memory_map : MemoryMap) (ps : List Part) (at n : ℕ) → AreStraight ps → MayHold memory_map ps at n → written_at ps at n ≡ spot (Some (at - ram_start))
held_place memory_map ps at n s h = by_place (written_at ps at n) refl h
  where
    by_place : (o : Option Place) → written_at ps at n ≡ o → is_clear memory_map.pool o ≡ true → o ≡ spot (Some (at - ram_start))
    by_place None e h = absurd cc
    by_place (Some pl) e h = sym (straight_place (λ p. p.writes) ps at n pl s e)

put_shared : (ps : List Part) (pool : ℕ) (s : Sharing) (number at n : ℕ) (xs : List ℕ) → length xs ≡ n → AreStraight ps → MayHold (shared_plan ps pool s) ps at n → put_seen (shared_world ps pool s) number ps at xs ≡ shared_world ps pool (record s { ram = put_bytes s.ram (at - ram_start) xs })
unfolding put_seen
put_shared ps pool s number at n xs l straight h =
    ap (λ o. put_or (shared_world ps pool s) number o xs) (ap (written_at ps at) l ∙ held_place (shared_plan ps pool s) ps at n straight h)

-- no bytes are put anywhere
put_none : (ps : List Part) (pool : ℕ) (s : Sharing) (number at : ℕ) → AreStraight ps → put_seen (shared_world ps pool s) number ps at [] ≡ shared_world ps pool (record s { ram = put_bytes s.ram (at - ram_start) [] })
unfolding put_seen
put_none ps pool s number at straight = by_place (written_at ps at 0) refl
  where
    same : shared_world ps pool s ≡ shared_world ps pool (record s { ram = put_bytes s.ram (at - ram_start) [] })
    same = ap (λ r. shared_world ps pool (record s { ram = r })) (sym (put_bytes-none s.ram (at - ram_start)))

    by_place : (o : Option Place) → written_at ps at 0 ≡ o → put_or (shared_world ps pool s) number o [] ≡ shared_world ps pool (record s { ram = put_bytes s.ram (at - ram_start) [] })
    by_place None e = same
    by_place (Some pl) e = ap (λ o. put_or (shared_world ps pool s) number o []) (sym (straight_place (λ p. p.writes) ps at 0 pl straight e))

put_data : (ps : List Part) (pool : ℕ) (s : Sharing) (number at : ℕ) (xs : List ℕ) → AreStraight ps → (1 ≤ length xs → MayHold (shared_plan ps pool s) ps at (length xs)) → put_seen (shared_world ps pool s) number ps at xs ≡ shared_world ps pool (record s { ram = put_bytes s.ram (at - ram_start) xs })
put_data ps pool s number at [] straight h = put_none ps pool s number at straight
put_data ps pool s number at (x ∷ xs) straight h = put_shared ps pool s number at (length (x ∷ xs)) (x ∷ xs) refl straight (h (omega arith))

zero_shared : (ps : List Part) (pool : ℕ) (s : Sharing) (common : List (List ℕ)) (number slot : ℕ) → AreStraight ps → IsShared (shared_plan ps pool s) common → slot < s.threads → zero_stack (shared_world ps pool s) number ps slot ≡ shared_world ps pool (record s { ram = with_stack_zeroed s s.ram slot })
zero_shared ps pool s common number slot straight h l = put_shared ps pool s number (s.stacks_at + slot * s.stack) s.stack (replicate s.stack 0) (length-replicate {A = ℕ} s.stack 0) straight (h.stacks slot l)

pub shared_started : (ps : List Part) (pool : ℕ) (s : Sharing) (common : List (List ℕ)) (number place slot : ℕ) (fresh : Bool) → AreStraight ps → IsShared (shared_plan ps pool s) common → place < length s.programs → slot < s.threads → started (shared_world ps pool s) number place slot fresh ≡ shared_world ps pool (sharing_started s number place slot fresh)
unfolding started
shared_started ps pool s common number place slot fresh straight h p l =
    ap (λ w. with_group (zero_stack w number ps slot) (shared_group ps live)) (set fresh)
    ∙ ap (λ w. with_group w (shared_group ps live)) (zero_shared ps pool (record s { ram = data_set fresh }) common number slot straight h l)
    ∙ ap (λ gs. record (shared_world ps pool (record s { ram = with_stack_zeroed s (data_set fresh) slot })) { groups = gs }) (sym (map-append (shared_group ps) s.live (live ∷ [])))
  where
    live : Live
    live = record { number = number; program = place; slot = slot }

    data_set : Bool → List ℕ
    data_set b = if b then with_data_set s s.ram place else s.ram

    set : (b : Bool) → (if b then set_data (shared_world ps pool s) number ps place else shared_world ps pool s) ≡ shared_world ps pool (record s { ram = data_set b })
    set true = put_data ps pool s number (program_at (shared_plan ps pool s) place).data_at (program_at (shared_plan ps pool s) place).init straight (h.contents place p)
    set false = refl

pub shared_grown : (ps : List Part) (pool : ℕ) (s : Sharing) (common : List (List ℕ)) (number slot : ℕ) → AreStraight ps → IsShared (shared_plan ps pool s) common → has_view (map (shared_group ps) s.live) number ≡ true → slot < s.threads → grown (shared_world ps pool s) number slot ≡ shared_world ps pool (record s { ram = with_stack_zeroed s s.ram slot })
unfolding grown
shared_grown ps pool s common number slot straight h v l =
    ap (λ qs. zero_stack (shared_world ps pool s) number qs slot) (live_group ps s.live number v).0 ∙ zero_shared ps pool s common number slot straight h l

removed : (ps : List Part) (lives : List Live) (number : ℕ) → has_live lives number ≡ true → without (map (shared_group ps) lives) number ≡ map (shared_group ps) (remove lives (place_of lives number))
unfolding has_live place_of without
removed ps [] number h = absurd cc
removed ps (l ∷ lives) number h = by_test (l.number == number) h (λ r. removed ps lives number r)
  where
    by_test : (b : Bool) → (b || has_live lives number) ≡ true → (has_live lives number ≡ true → without (map (shared_group ps) lives) number ≡ map (shared_group ps) (remove lives (place_of lives number))) → (if b then map (shared_group ps) lives else shared_group ps l ∷ without (map (shared_group ps) lives) number) ≡ map (shared_group ps) (remove (l ∷ lives) (if b then 0 else suc (place_of lives number)))
    by_test true h more = refl
    by_test false h more = ap (λ gs. shared_group ps l ∷ gs) (more h)

pub shared_finished : (ps : List Part) (pool : ℕ) (s : Sharing) (number : ℕ) → has_live s.live number ≡ true → finished (shared_world ps pool s) number ≡ shared_world ps pool (sharing_finished s number)
unfolding finished
shared_finished ps pool s number h = ap (λ gs. record (shared_world ps pool s) { groups = gs }) (removed ps s.live number h)

pub no_start_need : (ps : List Part) (pool : ℕ) (s : Sharing) (place slot : ℕ) → start_need (shared_plan ps pool s) place slot ≡ 0
unfolding frames_for
no_start_need ps pool s place slot = refl

pub no_grow_need : (ps : List Part) (pool : ℕ) (s : Sharing) (number slot : ℕ) → grow_need (shared_world ps pool s) number slot ≡ 0
unfolding frames_for
no_grow_need ps pool s number slot = refl

-- registers don't depend on the windows
pub same_start_regs : (ps qs : List Part) (pool more : ℕ) (s : Sharing) (place slot : ℕ) → start_regs (shared_plan ps pool s) place slot ≡ start_regs (shared_plan qs more s) place slot
unfolding start_regs
same_start_regs ps qs pool more s place slot = refl

same_program : (ps qs : List Part) (lives : List Live) (number : ℕ) → program_of (map (shared_group ps) lives) number ≡ program_of (map (shared_group qs) lives) number
unfolding group_of
same_program ps qs [] number = refl
same_program ps qs (l ∷ lives) number = by_test (l.number == number) (same_program ps qs lives number)
  where
    by_test : (b : Bool) → program_of (map (shared_group ps) lives) number ≡ program_of (map (shared_group qs) lives) number → (if b then shared_group ps l else group_of (map (shared_group ps) lives) number).program ≡ (if b then shared_group qs l else group_of (map (shared_group qs) lives) number).program
    by_test true h = refl
    by_test false h = h

pub same_thread_regs : (ps qs : List Part) (pool more : ℕ) (s : Sharing) (number slot : ℕ) → thread_regs (shared_plan ps pool s) (program_of (map (shared_group ps) s.live) number) slot ≡ thread_regs (shared_plan qs more s) (program_of (map (shared_group qs) s.live) number) slot
unfolding thread_regs
same_thread_regs ps qs pool more s number slot = ap (λ p. thread_regs (shared_plan ps pool s) p slot) (same_program ps qs s.live number)
