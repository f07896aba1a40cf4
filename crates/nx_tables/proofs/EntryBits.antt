-- What the walk makes of the entries that are written here.
use Rattle.std.proofs.Common.{◌≡◌, ℕ, ◌+◌, ◌-◌, ◌*◌, ◌/◌, ◌%◌, ◌<◌, ◌≤◌, ◌==◌, Bool, true, false, Option, Some, None, refl, ap, arith}
use Rattle.std.specs.Prelude.{if◌then◌else◌, nat_le, List, length}
use Rattle.std.proofs.lemmas.Bool.Decides.{nat_tests}
use Rattle.nx_base.specs.declared.access.Access.{Access}
use Rattle.nx_base.specs.declared.access.Access.TheVariants.{Fetch, Load, Store}
use Rattle.nx_sv32.specs.Entries.{has, is_refused, is_leaf, is_pointer, has_right, permits}
use Rattle.nx_sv32.specs.Walk.{ram_start, table_place, in_ram, page_leaf, last_entry, last_table, first_entry}
use Rattle.nx_tables.specs.Maps.{rights_of, lets, pointer_to, page_of, root_entry, table_by}

-- a bit below the page number
has_valid : (b n : ℕ) → has (b + 1024 * n) 1 ≡ has b 1
unfolding has
has_valid b n = let e : (b + 1024 * n) / 1 % 2 ≡ b / 1 % 2 = omega arith in ap (λ x. x == 1) e

has_read : (b n : ℕ) → has (b + 1024 * n) 2 ≡ has b 2
unfolding has
has_read b n = let e : (b + 1024 * n) / 2 % 2 ≡ b / 2 % 2 = omega arith in ap (λ x. x == 1) e

has_write : (b n : ℕ) → has (b + 1024 * n) 4 ≡ has b 4
unfolding has
has_write b n = let e : (b + 1024 * n) / 4 % 2 ≡ b / 4 % 2 = omega arith in ap (λ x. x == 1) e

has_execute : (b n : ℕ) → has (b + 1024 * n) 8 ≡ has b 8
unfolding has
has_execute b n = let e : (b + 1024 * n) / 8 % 2 ≡ b / 8 % 2 = omega arith in ap (λ x. x == 1) e

has_user : (b n : ℕ) → has (b + 1024 * n) 16 ≡ has b 16
unfolding has
has_user b n = let e : (b + 1024 * n) / 16 % 2 ≡ b / 16 % 2 = omega arith in ap (λ x. x == 1) e

has_accessed : (b n : ℕ) → has (b + 1024 * n) 64 ≡ has b 64
unfolding has
has_accessed b n = let e : (b + 1024 * n) / 64 % 2 ≡ b / 64 % 2 = omega arith in ap (λ x. x == 1) e

has_dirty : (b n : ℕ) → has (b + 1024 * n) 128 ≡ has b 128
unfolding has
has_dirty b n = let e : (b + 1024 * n) / 128 % 2 ≡ b / 128 % 2 = omega arith in ap (λ x. x == 1) e

-- so the page number has no part in what an entry is
refused_low : (b n : ℕ) → is_refused (b + 1024 * n) ≡ is_refused b
unfolding is_refused
refused_low b n = rw (has_valid b n, has_write b n, has_read b n)

leaf_low : (b n : ℕ) → is_leaf (b + 1024 * n) ≡ is_leaf b
unfolding is_leaf
leaf_low b n = rw (has_read b n, has_execute b n)

pointer_low : (b n : ℕ) → is_pointer (b + 1024 * n) ≡ is_pointer b
unfolding is_pointer
pointer_low b n = rw (has_user b n, has_accessed b n, has_dirty b n)

right_low : (b n : ℕ) (access : Access) → has_right (b + 1024 * n) access ≡ has_right b access
unfolding has_right
right_low b n Fetch = has_execute b n
right_low b n Load = has_read b n
right_low b n Store = rw (has_write b n, has_dirty b n)

permits_low : (b n : ℕ) (access : Access) → permits (b + 1024 * n) access ≡ permits b access
unfolding permits
permits_low b n access = rw (has_user b n, has_accessed b n, right_low b n access)

-- what the bits of a page are
permits_rights : (writes : Bool) (access : Access) → permits (rights_of writes) access ≡ lets writes access
unfolding permits has_right has
permits_rights true Fetch = refl
permits_rights true Load = refl
permits_rights true Store = refl
permits_rights false Fetch = refl
permits_rights false Load = refl
permits_rights false Store = refl

rights_valid : (writes : Bool) → is_refused (rights_of writes) ≡ false
unfolding is_refused has
rights_valid true = refl
rights_valid false = refl

rights_leaf : (writes : Bool) → is_leaf (rights_of writes) ≡ true
unfolding is_leaf has
rights_leaf true = refl
rights_leaf false = refl

pub rights_small : (writes : Bool) → rights_of writes < 1024
rights_small true = omega arith
rights_small false = omega arith

-- the place of a frame's table, and an address in a frame
pub frame_place : (size frame : ℕ) → 4096 * frame + 4096 ≤ size → table_place size (page_of frame) ≡ Some (4096 * frame)
unfolding table_place
frame_place size frame h =
    let l : nat_le ram_start (4096 * (524288 + frame)) ≡ true = grind (arith, nat_tests) in
    let r : nat_le (4096 * (524288 + frame) + 4096) (ram_start + size) ≡ true = grind (arith, nat_tests, h) in
    let e : 4096 * (524288 + frame) - ram_start ≡ 4096 * frame = omega arith in
    rw (l, r, e)

frame_inside : (size frame at : ℕ) → 4096 * frame + 4096 ≤ size → in_ram size (4096 * (524288 + frame) + at % 4096) ≡ Some (ram_start + (4096 * frame + at % 4096))
unfolding in_ram
frame_inside size frame at h =
    let l : nat_le ram_start (4096 * (524288 + frame) + at % 4096) ≡ true = grind (arith, nat_tests) in
    let r : nat_le (4096 * (524288 + frame) + at % 4096 + 1) (ram_start + size) ≡ true = grind (arith, nat_tests, h) in
    let e : 4096 * (524288 + frame) + at % 4096 ≡ ram_start + (4096 * frame + at % 4096) = omega arith in
    rw (l, r) (ap (λ x. Some x) e)

-- the entry of a page
pub page_found : (size frame : ℕ) (writes : Bool) (at : ℕ) (access : Access) → 4096 * frame + 4096 ≤ size → last_entry size (rights_of writes + 1024 * page_of frame) at access ≡ (if lets writes access then Some (ram_start + (4096 * frame + at % 4096)) else None)
unfolding last_entry page_leaf
page_found size frame writes at access h =
    let low = rights_small writes in
    let e : (rights_of writes + 1024 * (524288 + frame)) / 1024 ≡ 524288 + frame = omega (arith, low) in
    rw (refused_low (rights_of writes) (524288 + frame), rights_valid writes, leaf_low (rights_of writes) (524288 + frame), rights_leaf writes, permits_low (rights_of writes) (524288 + frame) access, permits_rights writes access, e, frame_inside size frame at h)

pub no_page_found : (size at : ℕ) (access : Access) → last_entry size 0 at access ≡ None
unfolding last_entry is_refused has
no_page_found size at access = refl

one_valid : is_refused 1 ≡ false
unfolding is_refused has
one_valid = refl

one_no_leaf : is_leaf 1 ≡ false
unfolding is_leaf has
one_no_leaf = refl

one_points : is_pointer 1 ≡ true
unfolding is_pointer has
one_points = refl

-- the entry of a table
pub table_found : (ram : List ℕ) (frame at : ℕ) (access : Access) → 4096 * frame + 4096 ≤ length ram → first_entry ram (pointer_to frame) at access ≡ last_table ram (Some (4096 * frame)) at access
unfolding first_entry
table_found ram frame at access h =
    let e : (1 + 1024 * (524288 + frame)) / 1024 ≡ 524288 + frame = omega arith in
    rw (refused_low 1 (524288 + frame), leaf_low 1 (524288 + frame), pointer_low 1 (524288 + frame), e, frame_place (length ram) frame h, one_valid, one_no_leaf, one_points)

pub no_table_found : (ram : List ℕ) (at : ℕ) (access : Access) → first_entry ram 0 at access ≡ None
unfolding first_entry is_refused has
no_table_found ram at access = refl

-- the frame of a table, out of its entry
pub table_by_entry : (o : Option ℕ) → table_by (root_entry o) ≡ o
table_by_entry None = refl
table_by_entry (Some frame) =
    let t : (1 + 1024 * (524288 + frame) == 0) ≡ false = grind (arith, nat_tests) in
    let e : (1 + 1024 * (524288 + frame)) / 1024 - 524288 ≡ frame = omega arith in
    rw t (ap (λ x. Some x) e)
