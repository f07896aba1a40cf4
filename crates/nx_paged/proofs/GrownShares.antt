-- What one stack more does to the free frames.
use Rattle.std.proofs.Common.{◌≡◌, ℕ, ◌+◌, ◌-◌, ◌/◌, ◌≤◌, ◌==◌, Bool, true, false, ◌&&◌, ◌||◌, not, Option, Some, None, List, [], ◌∷◌, ◌++◌, length, refl, ap, ◌∙◌, arith, append_assoc}
use Rattle.std.specs.Prelude.{if◌then◌else◌}
use Rattle.std.proofs.lemmas.List.{length-append, append-nil}
use Rattle.nx_space.specs.World.{Home, Common, Own, Part, Group, MemoryMap, World, has_view, group_of}
use Rattle.nx_space.specs.Places.{Place, written_at, with_own, put_home}
use Rattle.nx_space.specs.Starts.{stack_low, pages_at, mapped_pages, pages_of, different, frames_for, frames_of, needs, free, has_slot, grow_need, put_or, put_seen, zero_stack, with_stack, change_group, grown, but_outside}
use Rattle.nx_paged.proofs.Regions.{regions_from, different_after}
use Rattle.nx_paged.proofs.GrownNeeds.{group_regions, pages_last, regions_last}
use Rattle.nx_paged.proofs.Shares.{free_outside}

-- more numbers after others are no fewer different ones
different_longer : (xs ys : List ℕ) → different xs ≤ different (xs ++ ys)
different_longer xs [] = let e = ap different (append-nil xs) in omega (arith, e)
different_longer xs (y ∷ ys) =
    let e = ap different (append_assoc xs (y ∷ []) ys) in
    let a = different_after y xs y [] (refl, tt) in
    let r = different_longer (xs ++ y ∷ []) ys in
    omega (arith, e, a, r)

frames_longer : (memory_map : MemoryMap) (place : ℕ) (slots : List ℕ) (slot : ℕ) → frames_for memory_map place slots ≤ frames_for memory_map place (slots ++ slot ∷ [])
unfolding frames_for
frames_longer memory_map place slots slot = by_pages memory_map.is_paged
  where
    by_pages : (b : Bool) → (if b then 1 + length (mapped_pages memory_map place slots) + different (group_regions memory_map place slots) else 0) ≤ (if b then 1 + length (mapped_pages memory_map place (slots ++ slot ∷ [])) + different (group_regions memory_map place (slots ++ slot ∷ [])) else 0)
    by_pages true =
        let a = ap length (pages_last memory_map place slots slot) ∙ length-append (mapped_pages memory_map place slots) (pages_at (stack_low memory_map slot) memory_map.stack) in
        let b = ap different (regions_last memory_map place slots slot) in
        let c = different_longer (group_regions memory_map place slots) (regions_from (stack_low memory_map slot / 4096) (pages_of memory_map.stack)) in
        omega (arith, a, b, c)
    by_pages false = omega arith

-- bytes that are put take no frame
needs_own : (memory_map : MemoryMap) (own : List (List ℕ)) (gs : List Group) (number : ℕ) → needs memory_map (with_own own gs number) ≡ needs memory_map gs
unfolding needs with_own
needs_own memory_map own [] number = refl
needs_own memory_map own (g ∷ gs) number = by_test (g.number == number) (needs_own memory_map own gs number)
  where
    by_test : (b : Bool) → needs memory_map (with_own own gs number) ≡ needs memory_map gs → needs memory_map (if b then record g { own = own } ∷ gs else g ∷ with_own own gs number) ≡ frames_of memory_map g + needs memory_map gs
    by_test true h = refl
    by_test false h = ap (λ n. frames_of memory_map g + n) h

free_home : (w : World) (number : ℕ) (h : Home) (i : ℕ) (xs : List ℕ) → free (put_home w number h i xs) ≡ free w
free_home w number (Common k) i xs = refl
free_home w number (Own k) i xs = ap (λ n. w.memory_map.frames - n) (needs_own w.memory_map _ w.groups number)

free_put : (w : World) (number : ℕ) (ps : List Part) (at : ℕ) (xs : List ℕ) → free (put_seen w number ps at xs) ≡ free w
unfolding put_seen
free_put w number ps at xs = by_place (written_at ps at (length xs))
  where
    by_place : (o : Option Place) → free (put_or w number o xs) ≡ free w
    by_place None = refl
    by_place (Some p) = free_home w number p.home p.at xs

-- the frames of all groups, where one has a stack more
needs_changed : (memory_map : MemoryMap) (slot : ℕ) (gs : List Group) (number : ℕ) → has_view gs number ≡ true → needs memory_map (change_group (with_stack memory_map slot) gs number) + frames_of memory_map (group_of gs number) ≡ needs memory_map gs + frames_for memory_map (group_of gs number).program ((group_of gs number).slots ++ slot ∷ [])
unfolding needs change_group has_view group_of
needs_changed memory_map slot [] number h = absurd cc
needs_changed memory_map slot (g ∷ gs) number h = by_test (g.number == number) h (λ q. needs_changed memory_map slot gs number q)
  where
    by_test : (b : Bool) → (b || has_view gs number) ≡ true → (has_view gs number ≡ true → needs memory_map (change_group (with_stack memory_map slot) gs number) + frames_of memory_map (group_of gs number) ≡ needs memory_map gs + frames_for memory_map (group_of gs number).program ((group_of gs number).slots ++ slot ∷ [])) → needs memory_map (if b then with_stack memory_map slot g ∷ gs else g ∷ change_group (with_stack memory_map slot) gs number) + frames_of memory_map (if b then g else group_of gs number) ≡ frames_of memory_map g + needs memory_map gs + frames_for memory_map (if b then g else group_of gs number).program ((if b then g else group_of gs number).slots ++ slot ∷ [])
    by_test true q more = omega arith
    by_test false q more = let r = more q in omega (arith, r)

-- a stack takes its need
pub stack_takes : (w new : World) (number slot : ℕ) → w.memory_map.is_paged ≡ true → has_view w.groups number ≡ true → grow_need w number slot ≤ free w → new ≡ but_outside (grown w number slot) new → free new + grow_need w number slot ≡ free w
unfolding grown
stack_takes w new number slot p v enough e = by_test (has_slot (group_of w.groups number).slots slot) refl
  where
    told : free new ≡ free (if not (has_slot (group_of w.groups number).slots slot) then record w { groups = change_group (with_stack w.memory_map slot) w.groups number } else zero_stack w number (group_of w.groups number).parts slot)
    told = free_outside (grown w number slot) new e ∙ ap (λ b. free (if b && not (has_slot (group_of w.groups number).slots slot) then record w { groups = change_group (with_stack w.memory_map slot) w.groups number } else zero_stack w number (group_of w.groups number).parts slot)) p

    need_at : (b : Bool) → has_slot (group_of w.groups number).slots slot ≡ b → grow_need w number slot ≡ frames_for w.memory_map (group_of w.groups number).program (if b then (group_of w.groups number).slots else (group_of w.groups number).slots ++ slot ∷ []) - frames_of w.memory_map (group_of w.groups number)
    need_at b q = ap (λ x. frames_for w.memory_map (group_of w.groups number).program (if x then (group_of w.groups number).slots else (group_of w.groups number).slots ++ slot ∷ []) - frames_of w.memory_map (group_of w.groups number)) q

    by_test : (b : Bool) → has_slot (group_of w.groups number).slots slot ≡ b → free new + grow_need w number slot ≡ free w
    by_test true q =
        let f = told ∙ ap (λ b. free (if not b then record w { groups = change_group (with_stack w.memory_map slot) w.groups number } else zero_stack w number (group_of w.groups number).parts slot)) q ∙ free_put w number (group_of w.groups number).parts (stack_low w.memory_map slot) _ in
        let n = need_at true q in
        omega (arith, f, n)
    by_test false q =
        let f = told ∙ ap (λ b. free (if not b then record w { groups = change_group (with_stack w.memory_map slot) w.groups number } else zero_stack w number (group_of w.groups number).parts slot)) q in
        let n = need_at false q in
        let c = needs_changed w.memory_map slot w.groups number v in
        let l = frames_longer w.memory_map (group_of w.groups number).program (group_of w.groups number).slots slot in
        omega (arith, f, n, c, l, enough)
