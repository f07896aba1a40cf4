-- What starts, threads' stacks and ends leave of a world.
use Rattle.std.proofs.Common.{◌≡◌, ◌≢◌, ℕ, zero, suc, ◌+◌, ◌-◌, ◌<◌, ◌≤◌, ◌==◌, ◌⊎◌, ⊎_elim, inl, inr, Bool, true, false, ◌||◌, ◌&&◌, List, [], ◌∷◌, ◌++◌, length, take, drop, map, Option, Some, None, refl, sym, ap, ◌∙◌, subst, arith, replicate}
use Rattle.std.specs.Prelude.{if◌then◌else◌, not, nat_le}
use Rattle.std.specs.List.{list_any}
use Rattle.std.proofs.lemmas.Bool.{cases_eq}
use Rattle.std.proofs.lemmas.Bool.Decides.{nat_tests}
use Rattle.std.proofs.lemmas.List.{length-set, length-replicate}
use Rattle.nx_base.specs.ByteLists.{put_bytes}
use Rattle.nx_base.specs.declared.access.Access.{Access}
use Rattle.nx_base.proofs.Puts.{put_bytes-none, length-put_bytes}
use Rattle.nx_space.specs.World.{Home, Common, Own, Part, Group, MemoryMap, World, has_view, group_of, bytes_in, bytes_of, seen_by, view_of, window_of, pool_of}
use Rattle.nx_space.specs.Places.{Place, place_in, written_at, put_home, put_into, with_bytes, is_past, is_clear}
use Rattle.nx_space.specs.Lawful.{IsThere, AreParts, IsOwn, AreOwn, MayHold, IsShared, IsWorld, IsLeft}
use Rattle.nx_space.specs.Starts.{program_at, stack_low, has_slot, with_stack, change_group, put_or, put_seen, set_data, zero_stack, with_group, paged_start, shared_start, started, grown, finished, without, but_outside}
use Rattle.nx_space.proofs.Bytes.{put_other_part}
use Rattle.nx_space.proofs.Groups.{own_view, own_parts_same, own_other, change_view, change_other, last_view, before_last, gone_other, gone_view}
use Rattle.nx_space.proofs.Windows.{AreLaid, laid, place_fits, place_there}
use Rattle.nx_space.proofs.Stores.{into_same, into_other, put_plan}
use Rattle.nx_space.proofs.Goods.{good_alike}

-- what bytes put for one group leave
pub record IsTouched (w v : World) (number : ℕ) : Type 0 where
  pub memory_map : v.memory_map ≡ w.memory_map
  pub views : (m : ℕ) → has_view v.groups m ≡ has_view w.groups m
  pub others : (m : ℕ) → m ≢ number → group_of v.groups m ≡ group_of w.groups m
  pub count : length v.common ≡ length w.common
  pub long : (k : ℕ) → length (bytes_in v.common k) ≡ length (bytes_in w.common k)
  pub pool : pool_of v ≡ pool_of w
  pub alone : w.memory_map.is_paged ≡ true → v.common ≡ w.common

pub touched_refl : (w : World) (number : ℕ) → IsTouched w w number
touched_refl w number = record { memory_map = refl; views = λ m. refl; others = λ m ne. refl; count = refl; long = λ k. refl; pool = refl; alone = λ e. refl }

touched_trans : (u v w : World) (number : ℕ) → IsTouched u v number → IsTouched v w number → IsTouched u w number
touched_trans u v w number a b = record {
  memory_map = b.memory_map ∙ a.memory_map;
  views = λ m. b.views m ∙ a.views m;
  others = λ m ne. b.others m ne ∙ a.others m ne;
  count = b.count ∙ a.count;
  long = λ k. b.long k ∙ a.long k;
  pool = b.pool ∙ a.pool;
  alone = λ e. b.alone (ap (λ p. p.is_paged) a.memory_map ∙ e) ∙ a.alone e;
}

-- bytes that fit where groups share them, past the pool
abbrev FitsCommon : World → Home → ℕ → ℕ → Type 0
FitsCommon w (Common k) i n = ((k < length w.common) × (i + n ≤ length (bytes_in w.common k))) × ((1 ≤ n → is_past w.memory_map.pool (Common k) i ≡ true) × (w.memory_map.is_paged ≡ false))
FitsCommon w (Own k) i n = Unit {0}

pool_put : (common : List (List ℕ)) (pool k i : ℕ) (xs : List ℕ) → k < length common → i + length xs ≤ length (bytes_in common k) → (1 ≤ length xs → is_past pool (Common k) i ≡ true) → take pool (bytes_in (put_into common k i xs) 0) ≡ take pool (bytes_in common 0)
pool_put common pool zero i [] there fit past = ap (take pool) (into_same common 0 i [] there ∙ put_bytes-none (bytes_in common 0) i)
pool_put common pool zero i (x ∷ xs) there fit past =
    let far = past (omega arith) in
    let out : 0 + pool ≤ i = grind (arith, nat_tests) in
    ap (take pool) (into_same common 0 i (x ∷ xs) there) ∙ put_other_part (bytes_in common 0) i (x ∷ xs) 0 pool fit (inl out)
pool_put common pool (suc k) i xs there fit past = ap (take pool) (into_other common (suc k) i xs 0 (λ e. omega (arith, e)))

touched_home : (w : World) (number : ℕ) (h : Home) (i : ℕ) (xs : List ℕ) → FitsCommon w h i (length xs) → IsTouched w (put_home w number h i xs) number
touched_home w number (Common k) i xs f = record {
  memory_map = refl;
  views = λ m. refl;
  others = λ m ne. refl;
  count = length-set w.common k _;
  long = λ j. ⊎_elim (λ e. ap (λ m. length (bytes_in (put_into w.common k i xs) m)) e ∙ ap length (into_same w.common k i xs f.0.0) ∙ length-put_bytes (bytes_in w.common k) i xs f.0.1 ∙ ap (λ m. length (bytes_in w.common m)) (sym e)) (λ ne. ap length (into_other w.common k i xs j ne)) (cases_eq j k);
  pool = pool_put w.common w.memory_map.pool k i xs f.0.0 f.0.1 f.1.0;
  alone = λ e. let z = f.1.1 in absurd cc;
}
touched_home w number (Own k) i xs f = record {
  memory_map = refl;
  views = λ m. own_view _ w.groups number m;
  others = λ m ne. own_other _ w.groups number m ne;
  count = refl;
  long = λ j. refl;
  pool = refl;
  alone = λ e. refl;
}

-- a place of windows that all groups share
fits_shared : (w : World) (at n : ℕ) (pl : Place) → w.memory_map.is_paged ≡ false → AreParts w.common [] w.memory_map.shared → written_at w.memory_map.shared at n ≡ Some pl → (1 ≤ n → MayHold w.memory_map w.memory_map.shared at n) → FitsCommon w pl.home pl.at n
fits_shared w at n pl unpaged a e clear =
    by_home pl.home pl.at (place_there (λ p. p.writes) w.common [] w.memory_map.shared at n pl a e) (place_fits (λ p. p.writes) (bytes_of w.common []) w.memory_map.shared at n pl (laid w.common [] w.memory_map.shared a) e) (λ one. sym (ap (is_clear w.memory_map.pool) e) ∙ clear one)
  where
    by_home : (h : Home) (i : ℕ) → IsThere w.common [] h → i + n ≤ length (bytes_of w.common [] h) → (1 ≤ n → is_past w.memory_map.pool h i ≡ true) → FitsCommon w h i n
    by_home (Common k) i there fit past = ((there, fit), (past, unpaged))
    by_home (Own k) i there fit past = tt

-- a place of windows that a group has alone
pub own_place : (may : Part → Bool) (ps : List Part) (at n : ℕ) (pl : Place) → AreOwn ps → place_in may ps at n ≡ Some pl → IsOwn pl.home
unfolding place_in
own_place may [] at n pl a e = absurd cc
own_place may (p ∷ ps) at n pl a e = by_test _ (may p) e (λ r. own_place may ps at n pl a.1 r)
  where
    by_test : (b c : Bool) → (if b then (if c then Some (record { home = p.home; at = p.from + (at - p.start) }) else None) else place_in may ps at n) ≡ Some pl → (place_in may ps at n ≡ Some pl → IsOwn pl.home) → IsOwn pl.home
    by_test true true e more = let f : record { home = p.home; at = p.from + (at - p.start) } ≡ pl = cc in subst IsOwn (ap (λ q. q.home) f) a.0
    by_test true false e more = absurd cc
    by_test false c e more = more e

pub fits_own : (w : World) (h : Home) (i n : ℕ) → IsOwn h → FitsCommon w h i n
fits_own w (Common k) i n o = absurd o
fits_own w (Own k) i n o = tt

pub touched_seen : (w : World) (number : ℕ) (ps : List Part) (at : ℕ) (xs : List ℕ) → ((pl : Place) → written_at ps at (length xs) ≡ Some pl → FitsCommon w pl.home pl.at (length xs)) → IsTouched w (put_seen w number ps at xs) number
unfolding put_seen
touched_seen w number ps at xs f = by_place (written_at ps at (length xs)) refl
  where
    by_place : (o : Option Place) → written_at ps at (length xs) ≡ o → IsTouched w (put_or w number o xs) number
    by_place None e = touched_refl w number
    by_place (Some pl) e = touched_home w number pl.home pl.at xs (f pl e)

touched_shared : (w : World) (number at n : ℕ) (xs : List ℕ) → length xs ≡ n → w.memory_map.is_paged ≡ false → AreParts w.common [] w.memory_map.shared → (1 ≤ n → MayHold w.memory_map w.memory_map.shared at n) → IsTouched w (put_seen w number w.memory_map.shared at xs) number
touched_shared w number at n xs l unpaged a clear =
    touched_seen w number w.memory_map.shared at xs (λ pl e. fits_shared w at (length xs) pl unpaged a e (λ one. ap (λ k. is_clear w.memory_map.pool (written_at w.memory_map.shared at k)) l ∙ clear (omega (arith, one, l))))

-- windows lie where they lay
there_again : (common later own : List (List ℕ)) (h : Home) → length later ≡ length common → IsThere common own h → IsThere later own h
there_again common later own (Common k) l t = omega (arith, l, t)
there_again common later own (Own k) l t = t

long_again : (common later own : List (List ℕ)) (h : Home) → ((k : ℕ) → length (bytes_in later k) ≡ length (bytes_in common k)) → length (bytes_of later own h) ≡ length (bytes_of common own h)
long_again common later own (Common k) l = l k
long_again common later own (Own k) l = refl

parts_again : (common later own : List (List ℕ)) (ps : List Part) → length later ≡ length common → ((k : ℕ) → length (bytes_in later k) ≡ length (bytes_in common k)) → AreParts common own ps → AreParts later own ps
parts_again common later own [] c l a = tt
parts_again common later own (p ∷ ps) c l a =
    ((there_again common later own p.home c a.0.0, let k = long_again common later own p.home l in omega (arith, k, a.0.1)), (a.1.0, parts_again common later own ps c l a.1.1))

shared_again : (w v : World) (number : ℕ) → IsTouched w v number → IsShared w.memory_map w.common → IsShared v.memory_map v.common
shared_again w v number t h = subst (λ memory_map. IsShared memory_map v.common) (sym t.memory_map) (record {
  parts = parts_again w.common v.common [] w.memory_map.shared t.count t.long h.parts;
  stacks = h.stacks;
  contents = h.contents;
})

pub touched_zero : (w : World) (number slot : ℕ) → w.memory_map.is_paged ≡ false → IsShared w.memory_map w.common → slot < w.memory_map.threads → IsTouched w (zero_stack w number w.memory_map.shared slot) number
touched_zero w number slot unpaged h l = touched_shared w number (stack_low w.memory_map slot) w.memory_map.stack (replicate w.memory_map.stack 0) (length-replicate {A = ℕ} w.memory_map.stack 0) unpaged h.parts (λ one. h.stacks slot l)

touched_data : (w : World) (number place : ℕ) → w.memory_map.is_paged ≡ false → IsShared w.memory_map w.common → place < length w.memory_map.programs → IsTouched w (set_data w number w.memory_map.shared place) number
touched_data w number place unpaged h l = touched_shared w number (program_at w.memory_map place).data_at _ (program_at w.memory_map place).init refl unpaged h.parts (h.contents place l)

-- a start touches what groups share, and puts a group after the others
pub record IsJoined (w u : World) (number : ℕ) : Type 0 where
  pub before : World
  pub group : Group
  pub touched : IsTouched w before number
  pub is : u ≡ with_group before group
  pub named : group.number ≡ number

pub joined : (w : World) (number place slot : ℕ) (fresh : Bool) → IsWorld w → place < length w.memory_map.programs → slot < w.memory_map.threads → IsJoined w (started w number place slot fresh) number
unfolding started
joined w number place slot fresh h p l = by_pages w.memory_map.is_paged refl
  where
    ready : Bool → World
    ready b = if b then set_data w number w.memory_map.shared place else w

    set : (b : Bool) → w.memory_map.is_paged ≡ false → IsTouched w (ready b) number
    set true unpaged = touched_data w number place unpaged (h.shared unpaged) p
    set false unpaged = touched_refl w number

    zeroed : w.memory_map.is_paged ≡ false → IsTouched w (zero_stack (ready fresh) number w.memory_map.shared slot) number
    zeroed unpaged =
        let t = set fresh unpaged in
        let again = shared_again w (ready fresh) number t (h.shared unpaged) in
        touched_trans w (ready fresh) (zero_stack (ready fresh) number w.memory_map.shared slot) number t
        (subst (λ ps. IsTouched (ready fresh) (zero_stack (ready fresh) number ps slot) number) (ap (λ memory_map. memory_map.shared) t.memory_map)
        (touched_zero (ready fresh) number slot (ap (λ memory_map. memory_map.is_paged) t.memory_map ∙ unpaged) again (subst (λ memory_map. slot < memory_map.threads) (sym t.memory_map) l)))

    by_pages : (b : Bool) → w.memory_map.is_paged ≡ b → IsJoined w (if b then paged_start w number place slot else shared_start w number place slot fresh) number
    by_pages true e = record { before = w; group = _; touched = touched_refl w number; is = refl; named = refl }
    by_pages false e = record { before = zero_stack (ready fresh) number w.memory_map.shared slot; group = _; touched = zeroed e; is = refl; named = refl }

-- where bytes outside all windows may differ
pub outside_groups : (u new : World) → (but_outside u new).groups ≡ u.groups
outside_groups u new = by_test u.memory_map.is_paged
  where
    by_test : (b : Bool) → (if b then record u { outside = new.outside } else u).groups ≡ u.groups
    by_test true = refl
    by_test false = refl

pub outside_plan : (u new : World) → (but_outside u new).memory_map ≡ u.memory_map
outside_plan u new = by_test u.memory_map.is_paged
  where
    by_test : (b : Bool) → (if b then record u { outside = new.outside } else u).memory_map ≡ u.memory_map
    by_test true = refl
    by_test false = refl

pub outside_common : (u new : World) → (but_outside u new).common ≡ u.common
outside_common u new = by_test u.memory_map.is_paged
  where
    by_test : (b : Bool) → (if b then record u { outside = new.outside } else u).common ≡ u.common
    by_test true = refl
    by_test false = refl

-- a group of which nothing changed, over bytes of the same lengths
pub left : (w new : World) (m : ℕ) → has_view new.groups m ≡ true → group_of new.groups m ≡ group_of w.groups m → new.memory_map ≡ w.memory_map → ((k : ℕ) → length (bytes_in new.common k) ≡ length (bytes_in w.common k)) → (w.memory_map.is_paged ≡ true → new.common ≡ w.common) → IsLeft w new m
left w new m v g memory_map long same = record {
  view = v;
  group = g;
  good = λ at n a. good_alike w new m m at n a (ap (λ k. k.parts) g) (λ h. ap (λ k. length (bytes_of new.common k.own h)) g ∙ long_again w.common new.common (group_of w.groups m).own h long);
  alone = λ e.
      ap (λ k. record { windows = map (window_of (bytes_of new.common k.own)) k.parts; is_paged = new.memory_map.is_paged }) g
      ∙ ap (λ c. record { windows = map (window_of (bytes_of c (group_of w.groups m).own)) (group_of w.groups m).parts; is_paged = new.memory_map.is_paged }) (same e)
      ∙ ap (λ p. record { windows = (view_of w m).windows; is_paged = p.is_paged }) memory_map;
}

abbrev pub IsStart : World → World → ℕ → ℕ → ℕ → Bool → Type 0
IsStart w new number place slot fresh = new ≡ but_outside (started w number place slot fresh) new

start_left : (w u new : World) (number m : ℕ) → IsJoined w u number → new ≡ but_outside u new → has_view w.groups m ≡ true → m ≢ number → IsLeft w new m
start_left w u new number m j e v ne =
    let groups = ap (λ x. x.groups) e ∙ outside_groups u new ∙ ap (λ x. x.groups) j.is in
    let memory_map = ap (λ x. x.memory_map) e ∙ outside_plan u new ∙ ap (λ x. x.memory_map) j.is ∙ j.touched.memory_map in
    let common = ap (λ x. x.common) e ∙ outside_common u new ∙ ap (λ x. x.common) j.is in
    let there = j.touched.views m ∙ v in
    left w new m
    (ap (λ gs. has_view gs m) groups ∙ last_view j.before.groups j.group m ∙ or_first (has_view j.before.groups m) (j.group.number == m) there)
    (ap (λ gs. group_of gs m) groups ∙ before_last j.before.groups j.group m there ∙ j.touched.others m ne)
    memory_map
    (λ k. ap (λ c. length (bytes_in c k)) common ∙ j.touched.long k)
    (λ p. common ∙ j.touched.alone p)
  where
    or_first : (a b : Bool) → a ≡ true → (a || b) ≡ true
    or_first true b h = refl
    or_first false b h = absurd cc

pub started_leaves : (w new : World) (number place slot other : ℕ) (fresh : Bool) → IsWorld w → place < length w.memory_map.programs → slot < w.memory_map.threads → IsStart w new number place slot fresh → has_view w.groups other ≡ true → other ≢ number → IsLeft w new other
started_leaves w new number place slot other fresh h p l e v ne = start_left w (started w number place slot fresh) new number other (joined w number place slot fresh h p l) e v ne

-- the pool of a world with other bytes outside
pub pool_outside : (w u new : World) → u.memory_map ≡ w.memory_map → pool_of u ≡ pool_of w → new ≡ but_outside u new → pool_of new ≡ pool_of w
pool_outside w u new memory_map pool e =
    ap (λ x. take x.memory_map.pool (bytes_in x.common 0)) e
    ∙ ap (λ p. take p.pool (bytes_in (but_outside u new).common 0)) (outside_plan u new)
    ∙ ap (λ c. take u.memory_map.pool (bytes_in c 0)) (outside_common u new)
    ∙ pool

pub started_pool : (w new : World) (number place slot : ℕ) (fresh : Bool) → IsWorld w → place < length w.memory_map.programs → slot < w.memory_map.threads → IsStart w new number place slot fresh → pool_of new ≡ pool_of w
started_pool w new number place slot fresh h p l e =
    let j = joined w number place slot fresh h p l in
    pool_outside w (started w number place slot fresh) new (ap (λ x. x.memory_map) j.is ∙ j.touched.memory_map) (ap (λ x. take x.memory_map.pool (bytes_in x.common 0)) j.is ∙ j.touched.pool) e
