-- What a thread's stack and the end of a group leave of a world.
use Rattle.std.proofs.Common.{◌≡◌, ◌≢◌, ℕ, ◌<◌, ◌==◌, Bool, true, false, ◌&&◌, List, length, take, Some, refl, sym, ap, ◌∙◌, subst, replicate}
use Rattle.std.specs.Prelude.{if◌then◌else◌, not}
use Rattle.nx_space.specs.World.{Part, Group, World, has_view, group_of, bytes_in, view_of, pool_of}
use Rattle.nx_space.specs.Places.{Place, written_at}
use Rattle.nx_space.specs.Lawful.{AreOwn, IsWorld, IsLeft}
use Rattle.nx_space.specs.Starts.{stack_low, has_slot, with_stack, change_group, zero_stack, grown, finished, without, but_outside}
use Rattle.nx_space.proofs.Groups.{change_view, change_other, gone_other, gone_view}
use Rattle.nx_space.proofs.Starts.{IsTouched, touched_refl, touched_zero, touched_seen, own_place, fits_own, outside_groups, outside_plan, outside_common, left, pool_outside}

-- a stack of windows that a group has alone
touched_own : (w : World) (number slot : ℕ) → AreOwn (group_of w.groups number).parts → IsTouched w (zero_stack w number (group_of w.groups number).parts slot) number
touched_own w number slot a =
    let ps = (group_of w.groups number).parts in
    let zeros = replicate {A = ℕ} w.memory_map.stack 0 in
    touched_seen w number ps (stack_low w.memory_map slot) zeros (λ pl e. fits_own w pl.home pl.at (length zeros) (own_place (λ p. p.writes) ps (stack_low w.memory_map slot) (length zeros) pl a e))

-- what a growth leaves of the other groups, of the memory map and of what groups share
pub record IsKept (w u : World) (number : ℕ) : Type 0 where
  pub memory_map : u.memory_map ≡ w.memory_map
  pub views : (m : ℕ) → has_view u.groups m ≡ has_view w.groups m
  pub others : (m : ℕ) → m ≢ number → group_of u.groups m ≡ group_of w.groups m
  pub long : (k : ℕ) → length (bytes_in u.common k) ≡ length (bytes_in w.common k)
  pub pool : pool_of u ≡ pool_of w
  pub alone : w.memory_map.is_paged ≡ true → u.common ≡ w.common

kept : (w v : World) (number : ℕ) → IsTouched w v number → IsKept w v number
kept w v number t = record { memory_map = t.memory_map; views = t.views; others = t.others; long = t.long; pool = t.pool; alone = t.alone }

pub grown_keeps : (w : World) (number slot : ℕ) → IsWorld w → has_view w.groups number ≡ true → slot < w.memory_map.threads → IsKept w (grown w number slot) number
unfolding grown
grown_keeps w number slot h v l = by_pages w.memory_map.is_paged refl (has_slot (group_of w.groups number).slots slot)
  where
    ps : List Part
    ps = (group_of w.groups number).parts

    by_pages : (b : Bool) → w.memory_map.is_paged ≡ b → (c : Bool) → IsKept w (if b && not c then record w { groups = change_group (with_stack w.memory_map slot) w.groups number } else zero_stack w number ps slot) number
    by_pages true e false = record {
      memory_map = refl;
      views = λ m. change_view (with_stack w.memory_map slot) w.groups number m (λ g. refl);
      others = λ m ne. change_other (with_stack w.memory_map slot) w.groups number m (λ g. refl) ne;
      long = λ k. refl;
      pool = refl;
      alone = λ p. refl;
    }
    by_pages true e true = kept w (zero_stack w number ps slot) number (touched_own w number slot (h.alone e number v).own)
    by_pages false e c = kept w (zero_stack w number ps slot) number (subst (λ qs. IsTouched w (zero_stack w number qs slot) number) (sym (h.alike e number v).0) (touched_zero w number slot e (h.shared e) l))

abbrev pub IsGrowth : World → World → ℕ → ℕ → Type 0
IsGrowth w new number slot = new ≡ but_outside (grown w number slot) new

kept_left : (w u new : World) (number m : ℕ) → IsKept w u number → new ≡ but_outside u new → has_view w.groups m ≡ true → m ≢ number → IsLeft w new m
kept_left w u new number m k e v ne =
    let groups = ap (λ x. x.groups) e ∙ outside_groups u new in
    let common = ap (λ x. x.common) e ∙ outside_common u new in
    left w new m
    (ap (λ gs. has_view gs m) groups ∙ k.views m ∙ v)
    (ap (λ gs. group_of gs m) groups ∙ k.others m ne)
    (ap (λ x. x.memory_map) e ∙ outside_plan u new ∙ k.memory_map)
    (λ j. ap (λ c. length (bytes_in c j)) common ∙ k.long j)
    (λ p. common ∙ k.alone p)

pub grown_leaves : (w new : World) (number slot other : ℕ) → IsWorld w → has_view w.groups number ≡ true → slot < w.memory_map.threads → IsGrowth w new number slot → has_view w.groups other ≡ true → other ≢ number → IsLeft w new other
grown_leaves w new number slot other h v l e there ne = kept_left w (grown w number slot) new number other (grown_keeps w number slot h v l) e there ne

pub grown_plan : (w new : World) (number slot : ℕ) → IsWorld w → has_view w.groups number ≡ true → slot < w.memory_map.threads → IsGrowth w new number slot → new.memory_map ≡ w.memory_map
grown_plan w new number slot h v l e = ap (λ x. x.memory_map) e ∙ outside_plan (grown w number slot) new ∙ (grown_keeps w number slot h v l).memory_map

pub grown_has_view : (w new : World) (number slot : ℕ) → IsWorld w → has_view w.groups number ≡ true → slot < w.memory_map.threads → IsGrowth w new number slot → has_view new.groups number ≡ true
grown_has_view w new number slot h v l e =
    ap (λ gs. has_view gs number) (ap (λ x. x.groups) e ∙ outside_groups (grown w number slot) new) ∙ (grown_keeps w number slot h v l).views number ∙ v

pub grown_pool : (w new : World) (number slot : ℕ) → IsWorld w → has_view w.groups number ≡ true → slot < w.memory_map.threads → IsGrowth w new number slot → pool_of new ≡ pool_of w
grown_pool w new number slot h v l e = let k = grown_keeps w number slot h v l in pool_outside w (grown w number slot) new k.memory_map k.pool e

abbrev pub IsEnd : World → World → ℕ → Type 0
IsEnd w new number = new ≡ but_outside (finished w number) new

finished_keeps : (w : World) (number m : ℕ) → m ≢ number → (group_of (finished w number).groups m ≡ group_of w.groups m) × (has_view (finished w number).groups m ≡ has_view w.groups m)
unfolding finished
finished_keeps w number m ne = (gone_other w.groups number m ne, gone_view w.groups number m ne)

finished_plan : (w : World) (number : ℕ) → (finished w number).memory_map ≡ w.memory_map
unfolding finished
finished_plan w number = refl

finished_common : (w : World) (number : ℕ) → (finished w number).common ≡ w.common
unfolding finished
finished_common w number = refl

pub finished_leaves : (w new : World) (number other : ℕ) → IsEnd w new number → has_view w.groups other ≡ true → other ≢ number → IsLeft w new other
finished_leaves w new number other e v ne =
    let groups = ap (λ x. x.groups) e ∙ outside_groups (finished w number) new in
    let common = ap (λ x. x.common) e ∙ outside_common (finished w number) new ∙ finished_common w number in
    let k = finished_keeps w number other ne in
    left w new other
    (ap (λ gs. has_view gs other) groups ∙ k.1 ∙ v)
    (ap (λ gs. group_of gs other) groups ∙ k.0)
    (ap (λ x. x.memory_map) e ∙ outside_plan (finished w number) new ∙ finished_plan w number)
    (λ j. ap (λ c. length (bytes_in c j)) common)
    (λ p. common)

pub ended_plan : (w new : World) (number : ℕ) → IsEnd w new number → new.memory_map ≡ w.memory_map
ended_plan w new number e = ap (λ x. x.memory_map) e ∙ outside_plan (finished w number) new ∙ finished_plan w number

pub ended_pool : (w new : World) (number : ℕ) → IsEnd w new number → pool_of new ≡ pool_of w
ended_pool w new number e =
    pool_outside w (finished w number) new (finished_plan w number) (ap (λ p. take p.pool (bytes_in (finished w number).common 0)) (finished_plan w number) ∙ ap (λ c. take w.memory_map.pool (bytes_in c 0)) (finished_common w number)) e
