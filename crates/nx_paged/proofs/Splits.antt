-- A group, with those that started before it and after it.
use Rattle.std.proofs.Common.{◌≡◌, ℕ, suc, ◌+◌, ◌<◌, ◌==◌, Bool, true, false, ◌&&◌, ◌||◌, not, List, [], ◌∷◌, ◌++◌, length, map, get_or, refl, ap, ◌∙◌, arith}
use Rattle.std.specs.Prelude.{if◌then◌else◌, slice_set}
use Rattle.std.proofs.lemmas.Bool.Decides.{nat_tests}
use Rattle.nx_tables.proofs.Kept.{same_number}
use Rattle.nx_space.specs.World.{Group, MemoryMap, group_of}
use Rattle.nx_space.specs.Starts.{frames_for, change_group}
use Rattle.nx_paged.specs.Tenants.{Tenant, has_tenant, are_distinct, root_of, place_of, frames_taken}
use Rattle.nx_paged.specs.Spans.{Each}
use Rattle.nx_paged.specs.Paging.{paged_group}
use Rattle.nx_paged.specs.Finding.{both_true}

pub record Split (ts : List Tenant) (number : ℕ) : Type 0 where
  pub before : List Tenant
  pub tenant : Tenant
  pub after : List Tenant
  pub are : ts ≡ before ++ tenant ∷ after
  pub number_is : tenant.number ≡ number
  pub none : has_tenant before number ≡ false
  pub place : place_of ts number ≡ length before

pub split_of : (ts : List Tenant) (number : ℕ) → has_tenant ts number ≡ true → Split ts number
unfolding has_tenant place_of
split_of [] number h = absurd cc
split_of (t ∷ ts) number h = by_test (t.number == number) refl h (λ q. split_of ts number q)
  where
    is_number : (t.number == number) ≡ true → t.number ≡ number
    is_number e = grind (arith, nat_tests)

    by_test : (b : Bool) → (t.number == number) ≡ b → (b || has_tenant ts number) ≡ true → (has_tenant ts number ≡ true → Split ts number) → Split (t ∷ ts) number
    by_test true e q more = record {
      before = [];
      tenant = t;
      after = ts;
      are = refl;
      number_is = is_number e;
      none = refl;
      place = ap (λ b. if b then 0 else suc (place_of ts number)) e;
    }
    by_test false e q more = let r = more q in record {
      before = t ∷ r.before;
      tenant = r.tenant;
      after = r.after;
      are = ap (λ l. t ∷ l) r.are;
      number_is = r.number_is;
      none = ap (λ b. b || has_tenant r.before number) e ∙ r.none;
      place = ap (λ b. if b then 0 else suc (place_of ts number)) e ∙ ap suc r.place;
    }

-- what stands at its place, and another in its place
pub get_middle : (before : List Tenant) (t : Tenant) (after : List Tenant) (d : Tenant) → get_or (before ++ t ∷ after) (length before) d ≡ t
get_middle [] t after d = refl
get_middle (b ∷ before) t after d = get_middle before t after d

pub set_middle : (before : List Tenant) (t : Tenant) (after : List Tenant) (u : Tenant) → slice_set (before ++ t ∷ after) (length before) u ≡ before ++ u ∷ after
set_middle [] t after u = refl
set_middle (b ∷ before) t after u = ap (λ l. b ∷ l) (set_middle before t after u)

pub length_middle : (before : List Tenant) (t : Tenant) (after : List Tenant) → length before < length (before ++ t ∷ after)
length_middle [] t after = omega arith
length_middle (b ∷ before) t after = let r = length_middle before t after in omega (arith, r)

pub same_length : (before : List Tenant) (t u : Tenant) (after : List Tenant) → length (before ++ u ∷ after) ≡ length (before ++ t ∷ after)
same_length [] t u after = refl
same_length (b ∷ before) t u after = ap suc (same_length before t u after)

pub map_middle : {X : Type 0} (f : Tenant → X) (before : List Tenant) (t : Tenant) (after : List Tenant) → map f (before ++ t ∷ after) ≡ map f before ++ f t ∷ map f after
map_middle f [] t after = refl
map_middle f (b ∷ before) t after = ap (λ l. f b ∷ l) (map_middle f before t after)

pub map_rest : {X : Type 0} (f : Tenant → X) (before after : List Tenant) → map f (before ++ after) ≡ map f before ++ map f after
map_rest f [] after = refl
map_rest f (b ∷ before) after = ap (λ l. f b ∷ l) (map_rest f before after)

-- a fact of each
pub each_middle : (P : Tenant → Type 0) (before : List Tenant) (t : Tenant) (after : List Tenant) → Each P (before ++ t ∷ after) → P t
each_middle P [] t after h = h.0
each_middle P (b ∷ before) t after h = each_middle P before t after h.1

pub each_rest : (P : Tenant → Type 0) (before : List Tenant) (t : Tenant) (after : List Tenant) → Each P (before ++ t ∷ after) → Each P (before ++ after)
each_rest P [] t after h = h.1
each_rest P (b ∷ before) t after h = (h.0, each_rest P before t after h.1)

pub each_insert : (P : Tenant → Type 0) (before : List Tenant) (t : Tenant) (after : List Tenant) → Each P (before ++ after) → P t → Each P (before ++ t ∷ after)
each_insert P [] t after h p = (p, h)
each_insert P (b ∷ before) t after h p = (h.0, each_insert P before t after h.1 p)

pub each_before : (P : Tenant → Type 0) (before after : List Tenant) → Each P (before ++ after) → Each P before
each_before P [] after h = tt
each_before P (b ∷ before) after h = (h.0, each_before P before after h.1)

pub each_after : (P : Tenant → Type 0) (before after : List Tenant) → Each P (before ++ after) → Each P after
each_after P [] after h = h
each_after P (b ∷ before) after h = each_after P before after h.1

-- the number of the one, and of the others
pub has_same : (before : List Tenant) (t u : Tenant) (after : List Tenant) (number : ℕ) → u.number ≡ t.number → has_tenant (before ++ u ∷ after) number ≡ has_tenant (before ++ t ∷ after) number
unfolding has_tenant
has_same [] t u after number e = ap (λ n. (n == number) || has_tenant after number) e
has_same (b ∷ before) t u after number e = ap (λ x. (b.number == number) || x) (has_same before t u after number e)

pub distinct_same : (before : List Tenant) (t u : Tenant) (after : List Tenant) → u.number ≡ t.number → are_distinct (before ++ u ∷ after) ≡ are_distinct (before ++ t ∷ after)
distinct_same [] t u after e = ap (λ n. not (has_tenant after n) && are_distinct after) e
distinct_same (b ∷ before) t u after e =
    ap (λ x. not x && are_distinct (before ++ u ∷ after)) (has_same before t u after b.number e)
    ∙ ap (λ x. not (has_tenant (before ++ t ∷ after) b.number) && x) (distinct_same before t u after e)

pub none_after : (before : List Tenant) (t : Tenant) (after : List Tenant) → are_distinct (before ++ t ∷ after) ≡ true → has_tenant after t.number ≡ false
none_after [] t after h = (both_true (has_tenant after t.number) (are_distinct after) h).0
none_after (b ∷ before) t after h = none_after before t after (both_true (has_tenant (before ++ t ∷ after) b.number) (are_distinct (before ++ t ∷ after)) h).1

pub none_rest : (before after : List Tenant) (number : ℕ) → has_tenant before number ≡ false → has_tenant after number ≡ false → has_tenant (before ++ after) number ≡ false
unfolding has_tenant
none_rest [] after number h k = k
none_rest (b ∷ before) after number h k = by_test (b.number == number) h (λ q. none_rest before after number q k)
  where
    by_test : (x : Bool) → (x || has_tenant before number) ≡ false → (has_tenant before number ≡ false → has_tenant (before ++ after) number ≡ false) → (x || has_tenant (before ++ after) number) ≡ false
    by_test true q more = absurd cc
    by_test false q more = more q

pub root_same : (before : List Tenant) (t u : Tenant) (after : List Tenant) (number : ℕ) → u.number ≡ t.number → u.root ≡ t.root → root_of (before ++ u ∷ after) number ≡ root_of (before ++ t ∷ after) number
unfolding root_of
root_same [] t u after number e r = ap (λ n. if n == number then u.root else root_of after number) e ∙ ap (λ x. if t.number == number then x else root_of after number) r
root_same (b ∷ before) t u after number e r = ap (λ x. if b.number == number then b.root else x) (root_same before t u after number e r)

-- the frames of all
pub taken_middle : (memory_map : MemoryMap) (before : List Tenant) (t : Tenant) (after : List Tenant) → frames_taken memory_map (before ++ t ∷ after) ≡ frames_taken memory_map (before ++ after) + frames_for memory_map t.program t.slots
unfolding frames_taken
taken_middle memory_map [] t after = omega arith
taken_middle memory_map (b ∷ before) t after = let r = taken_middle memory_map before t after in omega (arith, r)

-- its record, and a change of it
pub group_middle : (ram : List ℕ) (memory_map : MemoryMap) (before : List Tenant) (t : Tenant) (after : List Tenant) (number : ℕ) → has_tenant before number ≡ false → t.number ≡ number → group_of (map (paged_group ram memory_map) (before ++ t ∷ after)) number ≡ paged_group ram memory_map t
unfolding has_tenant group_of
group_middle ram memory_map [] t after number none is = ap (λ b. if b then paged_group ram memory_map t else group_of (map (paged_group ram memory_map) after) number) (same_number t.number number is)
group_middle ram memory_map (b ∷ before) t after number none is = by_test (b.number == number) none (λ q. group_middle ram memory_map before t after number q is)
  where
    by_test : (x : Bool) → (x || has_tenant before number) ≡ false → (has_tenant before number ≡ false → group_of (map (paged_group ram memory_map) (before ++ t ∷ after)) number ≡ paged_group ram memory_map t) → (if x then paged_group ram memory_map b else group_of (map (paged_group ram memory_map) (before ++ t ∷ after)) number) ≡ paged_group ram memory_map t
    by_test true q more = absurd cc
    by_test false q more = more q

pub change_middle : (f : Group → Group) (ram : List ℕ) (memory_map : MemoryMap) (before : List Tenant) (t : Tenant) (after : List Tenant) (number : ℕ) → has_tenant before number ≡ false → t.number ≡ number → change_group f (map (paged_group ram memory_map) (before ++ t ∷ after)) number ≡ map (paged_group ram memory_map) before ++ f (paged_group ram memory_map t) ∷ map (paged_group ram memory_map) after
unfolding has_tenant change_group
change_middle f ram memory_map [] t after number none is = ap (λ b. if b then f (paged_group ram memory_map t) ∷ map (paged_group ram memory_map) after else paged_group ram memory_map t ∷ change_group f (map (paged_group ram memory_map) after) number) (same_number t.number number is)
change_middle f ram memory_map (b ∷ before) t after number none is = by_test (b.number == number) none (λ q. change_middle f ram memory_map before t after number q is)
  where
    by_test : (x : Bool) → (x || has_tenant before number) ≡ false → (has_tenant before number ≡ false → change_group f (map (paged_group ram memory_map) (before ++ t ∷ after)) number ≡ map (paged_group ram memory_map) before ++ f (paged_group ram memory_map t) ∷ map (paged_group ram memory_map) after) → (if x then f (paged_group ram memory_map b) ∷ map (paged_group ram memory_map) (before ++ t ∷ after) else paged_group ram memory_map b ∷ change_group f (map (paged_group ram memory_map) (before ++ t ∷ after)) number) ≡ paged_group ram memory_map b ∷ (map (paged_group ram memory_map) before ++ f (paged_group ram memory_map t) ∷ map (paged_group ram memory_map) after)
    by_test true q more = absurd cc
    by_test false q more = ap (λ l. paged_group ram memory_map b ∷ l) (more q)
