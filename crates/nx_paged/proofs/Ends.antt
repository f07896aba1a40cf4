-- What the end of a group does.
use Rattle.std.proofs.Common.{◌≡◌, ◌≢◌, ℕ, zero, suc, ◌+◌, ◌*◌, ◌<◌, ◌==◌, Bool, true, false, ◌||◌, ◌&&◌, not, List, [], ◌∷◌, ◌++◌, length, map, get_or, refl, sym, ap, ◌∙◌, subst, arith}
use Rattle.std.specs.Prelude.{if◌then◌else◌}
use Rattle.std.specs.List.{All, remove}
use Rattle.std.proofs.lemmas.Bool.Decides.{nat_tests}
use Rattle.std.proofs.Props.{props}
use Rattle.std.proofs.Math.Logic.{∥∥₁_elim}
use Rattle.nx_frames.specs.declared.frames.Taken.{Taken}
use Rattle.nx_frames.specs.Stock.{Stock, Holds, SameFrames, KeepsOthers, IsApartFrom, AreHeld, frames_of}
use Rattle.std.proofs.lemmas.List.{length-append}
use Rattle.nx_frames.proofs.Chains.{length-chain}
use Rattle.nx_frames.proofs.Owners.{given_held, held_first}
use Rattle.nx_tables.specs.Roles.{Role, Free, is_of, freed, SameRoles}
use Rattle.nx_tables.proofs.Kept.{freed_others, end_frees}
use Rattle.nx_space.specs.World.{MemoryMap}
use Rattle.nx_space.specs.Starts.{frames_for, without, finished, but_outside}
use Rattle.nx_paged.specs.Tenants.{Tenant, has_tenant, are_distinct, root_of, place_of, frames_taken}
use Rattle.nx_paged.specs.Spans.{Each}
use Rattle.nx_paged.specs.Paging.{Paging, paged_plan, paged_group, paged_world, IsTenant, IsPlaced, FrameAt, IsLive, IsPaged}
use Rattle.nx_paged.proofs.HeldOnce.{holds_prop}
use Rattle.nx_paged.specs.Finding.{each_of, both_true, find_tenant}

-- where there is no such group
no_root : (ts : List Tenant) (number : ℕ) → has_tenant ts number ≡ false → root_of ts number ≡ 0
unfolding has_tenant root_of
no_root [] number h = refl
no_root (t ∷ ts) number h = by_test (t.number == number) h (λ q. no_root ts number q)
  where
    by_test : (b : Bool) → (b || has_tenant ts number) ≡ false → (has_tenant ts number ≡ false → root_of ts number ≡ 0) → (if b then t.root else root_of ts number) ≡ 0
    by_test true h more = absurd cc
    by_test false h more = more h

-- a root lies in the RAM
pub root_low : (s : Paging) (number : ℕ) → IsPlaced s → ∥ IsPaged s ∥₁ → root_of s.tenants number < 524288
root_low s number h paged = by_test (has_tenant s.tenants number) refl
  where
    by_test : (b : Bool) → has_tenant s.tenants number ≡ b → root_of s.tenants number < 524288
    by_test true e = ∥∥₁_elim paged (hlevel props) (λ p.
        let f = find_tenant (IsLive s.ram s.stock (paged_plan s) p.role) s.tenants number p.live e in
        let r = f.ok.stands.lie.root in
        let small = f.ok.stands.fits in
        omega (arith, f.root_is, f.ok.root, r, small))
    by_test false e = let z = no_root s.tenants number e in omega (arith, z)

-- another group is entered
pub entered_placed : (s : Paging) (number : ℕ) → IsPlaced s → IsPlaced (record s { entered = number })
entered_placed s number h = record { fits = h.fits; bytes = h.bytes; first = h.first; frames = h.frames; few = h.few; distinct = h.distinct; tenants = h.tenants; counted = h.counted }

pub entered_paged : (s : Paging) (number : ℕ) → ∥ IsPaged s ∥₁ → ∥ IsPaged (record s { entered = number }) ∥₁
entered_paged s number paged = ∥∥₁_elim paged (hlevel props) (λ p. ∣ record { role = p.role; live = p.live; held = p.held; nobody = p.nobody; past = p.past } ∣₁)

-- what stands at the place of a group
is_number : (a b : ℕ) → (a == b) ≡ true → a ≡ b
is_number a b e = grind (arith, nat_tests)

pub place_inside : (ts : List Tenant) (number : ℕ) → has_tenant ts number ≡ true → place_of ts number < length ts
unfolding has_tenant place_of
place_inside [] number h = absurd cc
place_inside (t ∷ ts) number h = by_test (t.number == number) h (λ q. place_inside ts number q)
  where
    by_test : (b : Bool) → (b || has_tenant ts number) ≡ true → (has_tenant ts number ≡ true → place_of ts number < length ts) → (if b then 0 else suc (place_of ts number)) < suc (length ts)
    by_test true h more = omega arith
    by_test false h more = let m = more h in omega (arith, m)

pub place_number : (ts : List Tenant) (number : ℕ) (d : Tenant) → has_tenant ts number ≡ true → (get_or ts (place_of ts number) d).number ≡ number
unfolding has_tenant place_of
place_number [] number d h = absurd cc
place_number (t ∷ ts) number d h = by_test (t.number == number) refl h (λ q. place_number ts number d q)
  where
    by_test : (b : Bool) → (t.number == number) ≡ b → (b || has_tenant ts number) ≡ true → (has_tenant ts number ≡ true → (get_or ts (place_of ts number) d).number ≡ number) → (get_or (t ∷ ts) (if b then 0 else suc (place_of ts number)) d).number ≡ number
    by_test true e h more = is_number t.number number e
    by_test false e h more = more h

pub without_removed : (ram : List ℕ) (memory_map : MemoryMap) (ts : List Tenant) (number : ℕ) → has_tenant ts number ≡ true → without (map (paged_group ram memory_map) ts) number ≡ map (paged_group ram memory_map) (remove ts (place_of ts number))
unfolding has_tenant place_of without
without_removed ram memory_map [] number h = absurd cc
without_removed ram memory_map (t ∷ ts) number h = by_test (t.number == number) h (λ q. without_removed ram memory_map ts number q)
  where
    by_test : (b : Bool) → (b || has_tenant ts number) ≡ true → (has_tenant ts number ≡ true → without (map (paged_group ram memory_map) ts) number ≡ map (paged_group ram memory_map) (remove ts (place_of ts number))) → (if b then map (paged_group ram memory_map) ts else paged_group ram memory_map t ∷ without (map (paged_group ram memory_map) ts) number) ≡ map (paged_group ram memory_map) (remove (t ∷ ts) (if b then 0 else suc (place_of ts number)))
    by_test true h more = refl
    by_test false h more = ap (λ gs. paged_group ram memory_map t ∷ gs) (more h)

-- a fact of each, without one
pub each_removed : (P : Tenant → Type 0) (ts : List Tenant) (i : ℕ) → Each P ts → Each P (remove ts i)
each_removed P [] zero h = tt
each_removed P [] (suc i) h = tt
each_removed P (t ∷ ts) zero h = h.1
each_removed P (t ∷ ts) (suc i) h = (h.0, each_removed P ts i h.1)

pub all_of : (P : Tenant → Type 0) (ts : List Tenant) → Each P ts → All P ts
all_of P [] h k d l = absurd (omega (arith, l))
all_of P (t ∷ ts) h zero d l = h.0
all_of P (t ∷ ts) h (suc k) d l = all_of P ts h.1 k d (omega (arith, l))

or_none : (a b : Bool) → (a || b) ≡ false → (a ≡ false) × (b ≡ false)
or_none true b h = absurd cc
or_none false b h = (refl, h)

none_removed : (ts : List Tenant) (i number : ℕ) → has_tenant ts number ≡ false → has_tenant (remove ts i) number ≡ false
unfolding has_tenant
none_removed [] zero number h = refl
none_removed [] (suc i) number h = refl
none_removed (t ∷ ts) zero number h = (or_none (t.number == number) (has_tenant ts number) h).1
none_removed (t ∷ ts) (suc i) number h =
    let o = or_none (t.number == number) (has_tenant ts number) h in
    ap (λ b. b || has_tenant (remove ts i) number) o.0 ∙ none_removed ts i number o.1

pub distinct_removed : (ts : List Tenant) (i : ℕ) → are_distinct ts ≡ true → are_distinct (remove ts i) ≡ true
distinct_removed [] zero h = refl
distinct_removed [] (suc i) h = refl
distinct_removed (t ∷ ts) zero h = (both_true (has_tenant ts t.number) (are_distinct ts) h).1
distinct_removed (t ∷ ts) (suc i) h =
    let b = both_true (has_tenant ts t.number) (are_distinct ts) h in
    ap (λ x. not x && are_distinct (remove ts i)) (none_removed ts i t.number b.0) ∙ distinct_removed ts i b.1

-- the others have other numbers
none_has : (ts : List Tenant) (number : ℕ) → has_tenant ts number ≡ false → Each (λ t. t.number ≢ number) ts
unfolding has_tenant
none_has [] number h = tt
none_has (t ∷ ts) number h = by_test (t.number == number) refl h (λ q. none_has ts number q)
  where
    differs : (t.number == number) ≡ false → t.number ≢ number
    differs e = grind (arith, nat_tests)

    by_test : (b : Bool) → (t.number == number) ≡ b → (b || has_tenant ts number) ≡ false → (has_tenant ts number ≡ false → Each (λ t. t.number ≢ number) ts) → Each (λ t. t.number ≢ number) (t ∷ ts)
    by_test true e h more = absurd cc
    by_test false e h more = (differs e, more h)

pub others_differ : (ts : List Tenant) (number : ℕ) → are_distinct ts ≡ true → has_tenant ts number ≡ true → Each (λ t. t.number ≢ number) (remove ts (place_of ts number))
unfolding has_tenant place_of
others_differ [] number once h = absurd cc
others_differ (t ∷ ts) number once h = by_test (t.number == number) refl h (λ q. others_differ ts number b.1 q)
  where
    b : (has_tenant ts t.number ≡ false) × (are_distinct ts ≡ true)
    b = both_true (has_tenant ts t.number) (are_distinct ts) once

    differs : (t.number == number) ≡ false → t.number ≢ number
    differs e = grind (arith, nat_tests)

    by_test : (c : Bool) → (t.number == number) ≡ c → (c || has_tenant ts number) ≡ true → (has_tenant ts number ≡ true → Each (λ t. t.number ≢ number) (remove ts (place_of ts number))) → Each (λ t. t.number ≢ number) (remove (t ∷ ts) (if c then 0 else suc (place_of ts number)))
    by_test true e h more = none_has ts number (ap (has_tenant ts) (sym (is_number t.number number e)) ∙ b.0)
    by_test false e h more = (differs e, more h)

-- the frames of all but one
pub taken_removed : (memory_map : MemoryMap) (ts : List Tenant) (i : ℕ) (d : Tenant) → i < length ts → frames_taken memory_map ts ≡ frames_for memory_map (get_or ts i d).program (get_or ts i d).slots + frames_taken memory_map (remove ts i)
unfolding frames_taken
taken_removed memory_map [] i d h = absurd (omega (arith, h))
taken_removed memory_map (t ∷ ts) zero d h = refl
taken_removed memory_map (t ∷ ts) (suc i) d h = let r = taken_removed memory_map ts i d (omega (arith, h)) in omega (arith, r)

pub length_removed : (ts : List Tenant) (i : ℕ) → i < length ts → length (remove ts i) + 1 ≡ length ts
length_removed [] i h = absurd (omega (arith, h))
length_removed (t ∷ ts) zero h = let e : length ts + 1 ≡ suc (length ts) = omega arith in e
length_removed (t ∷ ts) (suc i) h = let r = length_removed ts i (omega (arith, h)) in let e : suc (length (remove ts i)) + 1 ≡ suc (length ts) = omega (arith, r) in e

-- what one group holds, before what the others hold
abbrev pub holdings : List Tenant → List Taken
holdings ts = map (λ t. t.taken) ts

apart_moved : (s : Stock) (u : Taken) (ts : List Tenant) (i : ℕ) (d : Tenant) → i < length ts → IsApartFrom s u (holdings ts) → IsApartFrom s u ((get_or ts i d).taken ∷ holdings (remove ts i))
apart_moved s u [] i d h a = absurd (omega (arith, h))
apart_moved s u (t ∷ ts) zero d h a = a
apart_moved s u (t ∷ ts) (suc i) d h a = let r = apart_moved s u ts i d (omega (arith, h)) a.1 in (r.0, (a.0, r.1))

pub held_moved : (s : Stock) (ts : List Tenant) (i : ℕ) (d : Tenant) → i < length ts → AreHeld s (holdings ts) → AreHeld s ((get_or ts i d).taken ∷ holdings (remove ts i))
held_moved s [] i d h k = absurd (omega (arith, h))
held_moved s (t ∷ ts) zero d h k = k
held_moved s (t ∷ ts) (suc i) d h k =
    let r = held_moved s ts i d (omega (arith, h)) k.2 in
    held_first s (get_or ts i d).taken (t.taken ∷ []) (holdings (remove ts i)) (k.0, apart_moved s t.taken ts i d (omega (arith, h)) k.1, r)

-- each of the others is as it was, without the group's frames
still_live : (ram : List ℕ) (old new : Stock) (memory_map : MemoryMap) (role : ℕ → Role) (g : ℕ) (t : Taken) (ts : List Tenant) → Each (IsLive ram old memory_map role) ts → Each (λ u. u.number ≢ g) ts → AreHeld old (holdings ts) → IsApartFrom old t (holdings ts) → KeepsOthers old new (frames_of old t) → Each (IsLive ram new memory_map (freed role g)) ts
still_live ram old new memory_map role g t [] live ne held apart keeps = tt
still_live ram old new memory_map role g t (u ∷ us) live ne held apart keeps =
    let k = live.0 in
    let same = freed_others g u.number role ne.0 in
    let kept = keeps u.taken held.0 apart.0 in (
      record {
        maps = k.maps;
        root = k.root;
        stands = end_frees ram role g u.number k.maps ne.0 k.stands;
        tables = k.tables;
        shows = k.shows;
        frames = subst (λ l. Each (FrameAt (λ r. is_of u.number r ≡ true) (freed role g)) l) (sym kept.frames) (frames_still (frames_of old u.taken) same k.frames);
        count = k.count;
      },
      still_live ram old new memory_map role g t us live.1 ne.1 held.2 apart.1 keeps,
    )
  where
    frames_still : (l : List ℕ) → SameRoles u.number role (freed role g) → Each (FrameAt (λ r. is_of u.number r ≡ true) role) l → Each (FrameAt (λ r. is_of u.number r ≡ true) (freed role g)) l
    frames_still [] same h = tt
    frames_still (a ∷ l) same h = (record { frame = h.0.frame; address = h.0.address; role = ap (is_of u.number) (same h.0.frame h.0.role) ∙ h.0.role }, frames_still l same h.1)

-- a group's frames are nobody's, and those that were nobody's still are
own_freed : (role : ℕ → Role) (g : ℕ) (l : List ℕ) → Each (FrameAt (λ r. is_of g r ≡ true) role) l → Each (FrameAt (λ r. r ≡ Free) (freed role g)) l
own_freed role g [] h = tt
own_freed role g (a ∷ l) h = (record { frame = h.0.frame; address = h.0.address; role = ap (λ b. if b then Free else role h.0.frame) h.0.role }, own_freed role g l h.1)

still_free : (role : ℕ → Role) (g : ℕ) (l : List ℕ) → Each (FrameAt (λ r. r ≡ Free) role) l → Each (FrameAt (λ r. r ≡ Free) (freed role g)) l
still_free role g [] h = tt
still_free role g (a ∷ l) h =
    let n = ap (is_of g) h.0.role in
    (record { frame = h.0.frame; address = h.0.address; role = ap (λ b. if b then Free else role h.0.frame) n ∙ h.0.role }, still_free role g l h.1)

frames_both : (P : ℕ → Type 0) (xs ys : List ℕ) → Each P xs → Each P ys → Each P (xs ++ ys)
frames_both P [] ys h k = k
frames_both P (x ∷ xs) ys h k = (h.0, frames_both P xs ys h.1 k)

freed_of : (role : ℕ → Role) (g h f : ℕ) → is_of h (freed role g f) ≡ true → is_of h (role f) ≡ true
freed_of role g h f = by_test (is_of g (role f))
  where
    by_test : (b : Bool) → is_of h (if b then Free else role f) ≡ true → is_of h (role f) ≡ true
    by_test true e = absurd cc
    by_test false e = e

-- the space without a group
abbrev pub without_tenant : Paging → Stock → ℕ → Paging
without_tenant s stock i = record s { stock = stock; tenants = remove s.tenants i }

-- the memory map depends on the number of frames alone
pub same_plan : (s : Paging) (new : Stock) (ts : List Tenant) → SameFrames s.stock new → paged_plan (record s { stock = new; tenants = ts }) ≡ paged_plan s
same_plan s new ts same = ap (λ n. record (paged_plan s) { frames = n }) same.count

-- a group that is found by its place
each_at : (P : Tenant → Type 0) (ts : List Tenant) (i : ℕ) (d : Tenant) → i < length ts → Each P ts → P (get_or ts i d)
each_at P [] i d h k = absurd (omega (arith, h))
each_at P (t ∷ ts) zero d h k = k.0
each_at P (t ∷ ts) (suc i) d h k = each_at P ts i d (omega (arith, h)) k.1

pub ended : (s : Paging) (new : Stock) (number : ℕ) (d : Tenant) → IsPaged s → SameFrames s.stock new → are_distinct s.tenants ≡ true → has_tenant s.tenants number ≡ true → (let t = (get_or s.tenants (place_of s.tenants number) d).taken in new.free ≡ frames_of s.stock t ++ s.stock.free) → (let t = (get_or s.tenants (place_of s.tenants number) d).taken in KeepsOthers s.stock new (frames_of s.stock t)) → IsPaged (without_tenant s new (place_of s.tenants number))
ended s new number d p same once has free keeps =
    let i = place_of s.tenants number in
    let inside = place_inside s.tenants number has in
    let t = get_or s.tenants i d in
    let role = p.role in
    let h = held_moved s.stock s.tenants i d inside p.held in
    let own = subst (λ g. Each (FrameAt (λ r. is_of g r ≡ true) role) (frames_of s.stock t.taken)) (place_number s.tenants number d has) (each_at (IsLive s.ram s.stock (paged_plan s) role) s.tenants i d inside p.live).frames in
    record {
      role = freed role number;
      live = subst (λ memory_map. Each (IsLive s.ram new memory_map (freed role number)) (remove s.tenants i)) (sym (same_plan s new (remove s.tenants i) same)) (still_live s.ram s.stock new (paged_plan s) role number t.taken (remove s.tenants i) (each_removed (IsLive s.ram s.stock (paged_plan s) role) s.tenants i p.live) (others_differ s.tenants number once has) h.2 h.1 keeps);
      held = given_held s.stock new t.taken (holdings (remove s.tenants i)) h keeps;
      nobody = subst (λ l. Each (FrameAt (λ r. r ≡ Free) (freed role number)) l) (sym free) (frames_both (FrameAt (λ r. r ≡ Free) (freed role number)) (frames_of s.stock t.taken) s.stock.free (own_freed role number (frames_of s.stock t.taken) own) (still_free role number s.stock.free p.nobody));
      past = λ f g e. p.past f g (freed_of role number g f e);
    }

pub ended_placed : (s : Paging) (new : Stock) (number : ℕ) (d : Tenant) → IsPlaced s → SameFrames s.stock new → has_tenant s.tenants number ≡ true → (get_or s.tenants (place_of s.tenants number) d).taken.count ≡ frames_for (paged_plan s) (get_or s.tenants (place_of s.tenants number) d).program (get_or s.tenants (place_of s.tenants number) d).slots → (let t = (get_or s.tenants (place_of s.tenants number) d).taken in new.free ≡ frames_of s.stock t ++ s.stock.free) → IsPlaced (without_tenant s new (place_of s.tenants number))
ended_placed s new number d h same has count free =
    let i = place_of s.tenants number in
    let inside = place_inside s.tenants number has in
    let t = get_or s.tenants i d in
    let ts = remove s.tenants i in
    let memory_map = same_plan s new ts same in
    record {
      fits = h.fits;
      bytes = h.bytes;
      first = same.first ∙ h.first;
      frames = ap (λ n. s.pool + 4096 * n) same.count ∙ h.frames;
      few = let l = length_removed s.tenants i inside in let f = h.few in omega (arith, l, f);
      distinct = distinct_removed s.tenants i h.distinct;
      tenants = subst (λ p. All (IsTenant p) ts) (sym memory_map) (all_of (IsTenant (paged_plan s)) ts (each_removed (IsTenant (paged_plan s)) s.tenants i (each_of (IsTenant (paged_plan s)) s.tenants h.tenants)));
      counted =
          let c = h.counted in
          let n = same.count in
          let l = ap length free ∙ length-append (frames_of s.stock t.taken) s.stock.free in
          let k = length-chain s.stock.first s.stock.next t.taken.head t.taken.count in
          let r = taken_removed (paged_plan s) s.tenants i d inside in
          let q = ap (λ p. frames_taken p ts) memory_map in
          omega (arith, c, n, l, k, r, q, count);
    }

-- what the frames of the group that ends number
pub ended_count : (s : Paging) (number : ℕ) (d : Tenant) → ∥ IsPaged s ∥₁ → has_tenant s.tenants number ≡ true → (get_or s.tenants (place_of s.tenants number) d).taken.count ≡ frames_for (paged_plan s) (get_or s.tenants (place_of s.tenants number) d).program (get_or s.tenants (place_of s.tenants number) d).slots
ended_count s number d paged has = ∥∥₁_elim paged (hlevel props) (λ p. (each_at (IsLive s.ram s.stock (paged_plan s) p.role) s.tenants (place_of s.tenants number) d (place_inside s.tenants number has) p.live).count)

pub ended_paged : (s : Paging) (new : Stock) (number : ℕ) (d : Tenant) → ∥ IsPaged s ∥₁ → SameFrames s.stock new → are_distinct s.tenants ≡ true → has_tenant s.tenants number ≡ true → (let t = (get_or s.tenants (place_of s.tenants number) d).taken in new.free ≡ frames_of s.stock t ++ s.stock.free) → (let t = (get_or s.tenants (place_of s.tenants number) d).taken in KeepsOthers s.stock new (frames_of s.stock t)) → ∥ IsPaged (without_tenant s new (place_of s.tenants number)) ∥₁
ended_paged s new number d paged same once has free keeps = ∥∥₁_elim paged (hlevel props) (λ p. ∣ ended s new number d p same once has free keeps ∣₁)

-- the world without the group
pub ended_world : (s : Paging) (new : Stock) (number : ℕ) → SameFrames s.stock new → has_tenant s.tenants number ≡ true → paged_world (without_tenant s new (place_of s.tenants number)) ≡ but_outside (finished (paged_world s) number) (paged_world (without_tenant s new (place_of s.tenants number)))
unfolding finished
ended_world s new number same has =
    let i = place_of s.tenants number in
    let ts = remove s.tenants i in
    let w = paged_world (without_tenant s new i) in
    ap (λ memory_map. record w { memory_map = memory_map; groups = map (paged_group s.ram memory_map) ts }) (same_plan s new ts same)
    ∙ ap (λ gs. record w { memory_map = paged_plan s; groups = gs }) (sym (without_removed s.ram (paged_plan s) s.tenants number has))

-- the frames of the group that ends are held
pub ended_holds : (s : Paging) (number : ℕ) (d : Tenant) → ∥ IsPaged s ∥₁ → has_tenant s.tenants number ≡ true → Holds s.stock (get_or s.tenants (place_of s.tenants number) d).taken
ended_holds s number d paged has = ∥∥₁_elim paged (holds_prop s.stock _) (λ p. (held_moved s.stock s.tenants (place_of s.tenants number) d (place_inside s.tenants number has) p.held).0)
