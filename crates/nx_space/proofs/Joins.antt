-- Which groups have a view after a start, in every world.
use Rattle.std.proofs.Common.{◌≡◌, ℕ, ◌==◌, Bool, true, false, ◌||◌, List, [], ◌∷◌, ◌++◌, length, Option, Some, None, refl, sym, ap, ◌∙◌, replicate}
use Rattle.std.specs.Prelude.{if◌then◌else◌}
use Rattle.nx_space.specs.World.{Home, Common, Own, Part, Group, MemoryMap, World, has_view, group_of}
use Rattle.nx_space.specs.Places.{Place, written_at, put_home, put_into}
use Rattle.nx_space.specs.Starts.{program_at, stack_low, put_or, put_seen, set_data, with_group, paged_start, shared_start, started, but_outside}
use Rattle.nx_space.proofs.Groups.{own_view, last_view, before_last, same_number}
use Rattle.nx_space.proofs.Stores.{put_plan, put_parts}
use Rattle.nx_space.proofs.Starts.{outside_groups, outside_plan, IsStart}

home_views : (w : World) (number : ℕ) (h : Home) (i : ℕ) (xs : List ℕ) (m : ℕ) → has_view (put_home w number h i xs).groups m ≡ has_view w.groups m
home_views w number (Common k) i xs m = refl
home_views w number (Own k) i xs m = own_view _ w.groups number m

-- what bytes that are put leave
record IsSeen (w v : World) : Type 0 where
  memory_map : v.memory_map ≡ w.memory_map
  views : (m : ℕ) → has_view v.groups m ≡ has_view w.groups m
  parts : (m : ℕ) → (group_of v.groups m).parts ≡ (group_of w.groups m).parts

seen : (w : World) (number : ℕ) (ps : List Part) (at : ℕ) (xs : List ℕ) → IsSeen w (put_seen w number ps at xs)
unfolding put_seen
seen w number ps at xs = by_place (written_at ps at (length xs))
  where
    by_place : (o : Option Place) → IsSeen w (put_or w number o xs)
    by_place None = record { memory_map = refl; views = λ m. refl; parts = λ m. refl }
    by_place (Some pl) = record { memory_map = put_plan w number pl.home pl.at xs; views = home_views w number pl.home pl.at xs; parts = put_parts w number pl.home pl.at xs }

-- a start puts a group of its number after the others
record IsAdded (w u : World) (number : ℕ) : Type 0 where
  before : World
  group : Group
  kept : IsSeen w before
  is : u ≡ with_group before group
  named : group.number ≡ number

added : (w : World) (number place slot : ℕ) (fresh : Bool) → IsAdded w (started w number place slot fresh) number
unfolding started
added w number place slot fresh = by_pages w.memory_map.is_paged
  where
    ready : Bool → World
    ready b = if b then set_data w number w.memory_map.shared place else w

    set : (b : Bool) → IsSeen w (ready b)
    set true = seen w number w.memory_map.shared (program_at w.memory_map place).data_at (program_at w.memory_map place).init
    set false = record { memory_map = refl; views = λ m. refl; parts = λ m. refl }

    zeroed : World
    zeroed = put_seen (ready fresh) number w.memory_map.shared (stack_low (ready fresh).memory_map slot) (replicate (ready fresh).memory_map.stack 0)

    both : IsSeen w zeroed
    both =
        let a = set fresh in
        let b = seen (ready fresh) number w.memory_map.shared (stack_low (ready fresh).memory_map slot) (replicate (ready fresh).memory_map.stack 0) in
        record { memory_map = b.memory_map ∙ a.memory_map; views = λ m. b.views m ∙ a.views m; parts = λ m. b.parts m ∙ a.parts m }

    by_pages : (b : Bool) → IsAdded w (if b then paged_start w number place slot else shared_start w number place slot fresh) number
    by_pages true = record { before = w; group = _; kept = record { memory_map = refl; views = λ m. refl; parts = λ m. refl }; is = refl; named = refl }
    by_pages false = record { before = zeroed; group = _; kept = both; is = refl; named = refl }

pub started_plan : (w new : World) (number place slot : ℕ) (fresh : Bool) → IsStart w new number place slot fresh → new.memory_map ≡ w.memory_map
started_plan w new number place slot fresh e =
    let a = added w number place slot fresh in
    ap (λ x. x.memory_map) e ∙ outside_plan (started w number place slot fresh) new ∙ ap (λ x. x.memory_map) a.is ∙ a.kept.memory_map

pub started_has_view : (w new : World) (number place slot : ℕ) (fresh : Bool) → IsStart w new number place slot fresh → has_view new.groups number ≡ true
started_has_view w new number place slot fresh e =
    let a = added w number place slot fresh in
    ap (λ x. has_view x.groups number) e
    ∙ ap (λ gs. has_view gs number) (outside_groups (started w number place slot fresh) new)
    ∙ ap (λ x. has_view x.groups number) a.is
    ∙ last_view a.before.groups a.group number
    ∙ ap (λ b. has_view a.before.groups number || b) (same_number a.group.number number a.named)
    ∙ or_true (has_view a.before.groups number)
  where
    or_true : (b : Bool) → (b || true) ≡ true
    or_true true = refl
    or_true false = refl

pub others_have_views : (w new : World) (number place slot other : ℕ) (fresh : Bool) → IsStart w new number place slot fresh → has_view w.groups other ≡ true → (has_view new.groups other ≡ true) × ((group_of new.groups other).parts ≡ (group_of w.groups other).parts)
others_have_views w new number place slot other fresh e h =
    let a = added w number place slot fresh in
    let groups = ap (λ x. x.groups) e ∙ outside_groups (started w number place slot fresh) new ∙ ap (λ x. x.groups) a.is in
    let there = a.kept.views other ∙ h in (
      ap (λ gs. has_view gs other) groups ∙ last_view a.before.groups a.group other ∙ true_or (has_view a.before.groups other) (a.group.number == other) there,
      ap (λ gs. (group_of gs other).parts) groups ∙ ap (λ g. g.parts) (before_last a.before.groups a.group other there) ∙ a.kept.parts other,
    )
  where
    true_or : (a b : Bool) → a ≡ true → (a || b) ≡ true
    true_or true b e = refl
    true_or false b e = absurd cc
