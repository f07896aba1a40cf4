-- What stays where only the entered view is written.
use Rattle.std.proofs.Common.{◌≡◌, ℕ, ◌+◌, ◌-◌, ◌==◌, ◌<◌, ◌≤◌, Bool, true, false, List, [], ◌∷◌, length, take, sym, ap, ◌∙◌, arith, refl}
use Rattle.std.specs.Prelude.{slice_index, if◌then◌else◌}
use Rattle.std.proofs.lemmas.List.{length-take, ext_get_or, get_or-take}
use Rattle.nx_base.specs.declared.access.Access.{Access}
use Rattle.nx_base.specs.Good.{is_good}
use Rattle.nx_space.specs.World.{Home, Common, Own, Part, Group, MemoryMap, World, IsEntered, has_view, group_of, group_in, bytes_in, view_in, pool_of}
use Rattle.nx_space.specs.Places.{with_own}
use Rattle.nx_space.specs.Lawful.{IsOwn, AreOwn, IsWorld, IsOutside, OnlyEntered}
use Rattle.nx_space.specs.Starts.{frames_for, frames_of, needs, free, start_need, grow_need}
use Rattle.nx_space.proofs.Groups.{own_view}
use Rattle.nx_space.proofs.Goods.{good_alike}
use Rattle.nx_space.proofs.Stores.{parts_same}

pub good_stays : (v w : World) (at n : ℕ) (a : Access) → OnlyEntered v w → is_good (view_in w) at n a ≡ is_good (view_in v) at n a
good_stays v w at n a o = good_alike v w v.entered w.entered at n a (parts_same v w o) o.long

pub entered_stays : (v w : World) → OnlyEntered v w → IsEntered v → IsEntered w
entered_stays v w o h =
    ap (λ gs. has_view gs w.entered) o.groups ∙ own_view (group_in w).own v.groups v.entered w.entered ∙ ap (has_view v.groups) o.entered ∙ h

-- no group has other frames
needs_same : (memory_map : MemoryMap) (own : List (List ℕ)) (gs : List Group) (number : ℕ) → needs memory_map (with_own own gs number) ≡ needs memory_map gs
unfolding needs with_own
needs_same memory_map own [] number = refl
needs_same memory_map own (g ∷ gs) number = by_test (g.number == number) (needs_same memory_map own gs number)
  where
    by_test : (b : Bool) → needs memory_map (with_own own gs number) ≡ needs memory_map gs → needs memory_map (if b then record g { own = own } ∷ gs else g ∷ with_own own gs number) ≡ frames_of memory_map g + needs memory_map gs
    by_test true h = refl
    by_test false h = ap (λ n. frames_of memory_map g + n) h

pub free_stays : (v w : World) → OnlyEntered v w → free w ≡ free v
free_stays v w o =
    ap (λ memory_map. memory_map.frames - needs memory_map w.groups) o.memory_map
    ∙ ap (λ gs. v.memory_map.frames - needs v.memory_map gs) o.groups
    ∙ ap (λ n. v.memory_map.frames - n) (needs_same v.memory_map (group_in w).own v.groups v.entered)

-- the pool stays where the entered view may write none of its bytes
pub pool_stays : (v w : World) → OnlyEntered v w → ((i : ℕ) → i < v.memory_map.pool → IsOutside (group_in v).parts (Common 0) i) → pool_of w ≡ pool_of v
pool_stays v w o out =
    let long = o.long (Common 0) in
    ap (λ memory_map. take memory_map.pool (bytes_in w.common 0)) o.memory_map
    ∙ ext_get_or 0 _ _ (omega (arith, long, length-take v.memory_map.pool (bytes_in w.common 0), length-take v.memory_map.pool (bytes_in v.common 0))) (λ j h.
    let l : j < v.memory_map.pool = omega (arith, h, length-take v.memory_map.pool (bytes_in w.common 0)) in
    get_or-take v.memory_map.pool (bytes_in w.common 0) j 0 l ∙ o.others (Common 0) j (out j l) ∙ sym (get_or-take v.memory_map.pool (bytes_in v.common 0) j 0 l))

-- windows of a group's own bytes let no other be written
own_outside : (ps : List Part) (i : ℕ) → AreOwn ps → IsOutside ps (Common 0) i
own_outside [] i h = tt
own_outside (p ∷ ps) i h = (λ w e. absurd (own_home p.home h.0 e), own_outside ps i h.1)
  where
    own_home : (k : Home) → IsOwn k → k ≡ Common 0 → ⊥
    own_home (Common j) h e = h
    own_home (Own j) h e = cc

pub paged_pool_stays : (v w : World) → OnlyEntered v w → IsWorld v → IsEntered v → v.memory_map.is_paged ≡ true → pool_of w ≡ pool_of v
paged_pool_stays v w o h e p = pool_stays v w o (λ i l. own_outside (group_in v).parts i (h.alone p v.entered e).own)

-- without pages nothing needs a frame
pub start_needs_none : (memory_map : MemoryMap) (program slot : ℕ) → memory_map.is_paged ≡ false → start_need memory_map program slot ≡ 0
unfolding frames_for
start_needs_none memory_map program slot h = rw h

pub stack_needs_none : (w : World) (number slot : ℕ) → w.memory_map.is_paged ≡ false → grow_need w number slot ≡ 0
unfolding frames_for
stack_needs_none w number slot h = rw h
