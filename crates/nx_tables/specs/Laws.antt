-- What entries and other writes mean for a group's tables and windows, each as one sentence.
use Rattle.std.specs.Prelude.{◌≡◌, ◌≢◌, ℕ, ◌+◌, ◌*◌, ◌/◌, ◌%◌, ◌<◌, ◌≤◌, Bool, List, length, Some, None}
use Rattle.nx_base.specs.ByteLists.{put_bytes, to_le}
use Rattle.nx_base.specs.declared.access.Access.{Access}
use Rattle.nx_sv32.specs.Walk.{ram_start, entry_at, walk}
use Rattle.nx_tables.specs.Maps.{Page, Maps, satp_of, translated, pointer_to, leaf_of, table_by}
use Rattle.nx_tables.specs.Roles.{Role, Free, Root, Table, Leaf, is_table, is_of, no_maps, with_table, with_page, with_role, freed, IsZeroed, SameFrames, SameRoles, Stands}
use Rattle.nx_tables.specs.ViewBytes.{seen, PageAt, IsMapped}

-- the walk from a root gives exactly what is mapped
abbrev pub WalksAsMapped : Type 0
WalksAsMapped = (ram : List ℕ) (role : ℕ → Role) (g : ℕ) (m : Maps) (at : ℕ) (access : Access) → Stands ram role g m → at < 4294967296
    → walk ram (satp_of m.root) at access ≡ translated (m.pages (at / 4096)) at access

-- the root's entry says whether a region has a table, and which
abbrev pub RootTells : Type 0
RootTells = (ram : List ℕ) (role : ℕ → Role) (g : ℕ) (m : Maps) (i : ℕ) → Stands ram role g m → i < 1024
    → table_by (entry_at ram (4096 * m.root + 4 * i)) ≡ m.tables i

-- a frame of zeros is a root that maps nothing
abbrev pub RootStep : Type 0
RootStep = (ram : List ℕ) (role : ℕ → Role) (g root : ℕ) → IsZeroed ram root → 4096 * root + 4096 ≤ length ram → ram_start + length ram ≤ 4294967296
    → Stands ram (with_role role root (Root g)) g (no_maps root)

-- the entry of a table of zeros adds exactly that table
abbrev pub TableStep : Type 0
TableStep = (ram : List ℕ) (role : ℕ → Role) (g : ℕ) (m : Maps) (i frame : ℕ) → Stands ram role g m → i < 1024 → m.tables i ≡ None → role frame ≡ Free → IsZeroed ram frame → 4096 * frame + 4096 ≤ length ram
    → Stands (put_bytes ram (4096 * m.root + 4 * i) (to_le 4 (pointer_to frame))) (with_role role frame (Table g i)) g (with_table m i frame)

-- the entry of a page adds exactly that page
abbrev pub PageStep : Type 0
PageStep = (ram : List ℕ) (role : ℕ → Role) (g : ℕ) (m : Maps) (i j table : ℕ) (p : Page) → Stands ram role g m → i < 1024 → j < 1024 → m.tables i ≡ Some table → role p.frame ≡ Free → 4096 * p.frame + 4096 ≤ length ram
    → Stands (put_bytes ram (4096 * table + 4 * j) (to_le 4 (leaf_of p))) (with_role role p.frame (Leaf g (1024 * i + j))) g (with_page m (1024 * i + j) p)

-- what changes no byte of a group's tables, and takes none of its frames, leaves them standing
abbrev pub StandsKept : Type 0
StandsKept = (old new : List ℕ) (role after : ℕ → Role) (g : ℕ) (m : Maps) → Stands old role g m → SameFrames (λ f. is_table g (role f)) old new → SameRoles g role after → length new ≡ length old
    → Stands new after g m

-- what changes no byte of a group's frames shows in none of its windows
abbrev pub SeenKept : Type 0
SeenKept = (old new : List ℕ) (role : ℕ → Role) (g : ℕ) (m : Maps) (start n : ℕ) (writes : Bool) → Stands old role g m → SameFrames (λ f. is_of g (role f)) old new → length new ≡ length old → IsMapped m start n writes → start + n ≤ 4294967296
    → seen new (satp_of m.root) start n ≡ seen old (satp_of m.root) start n

-- bytes that are put into a page show in its window, and nowhere else
abbrev pub SeenPut : Type 0
SeenPut = (ram : List ℕ) (role : ℕ → Role) (g : ℕ) (m : Maps) (start n : ℕ) (writes : Bool) (j i : ℕ) (xs : List ℕ) → Stands ram role g m → IsMapped m start n writes → start + n ≤ 4294967296 → (p : PageAt m (start + j) writes) → j + length xs ≤ n → i ≡ 4096 * p.page.frame + (start + j) % 4096 → (start + j) % 4096 + length xs ≤ 4096
    → seen (put_bytes ram i xs) (satp_of m.root) start n ≡ put_bytes (seen ram (satp_of m.root) start n) j xs

-- a window without the page into which bytes are put shows what it showed
abbrev pub SeenOther : Type 0
SeenOther = (ram : List ℕ) (role : ℕ → Role) (g : ℕ) (m : Maps) (start n : ℕ) (writes : Bool) (h v frame i : ℕ) (xs : List ℕ) → Stands ram role g m → IsMapped m start n writes → start + n ≤ 4294967296 → role frame ≡ Leaf h v → 4096 * frame ≤ i → i + length xs ≤ 4096 * frame + 4096 → 4096 * frame + 4096 ≤ length ram → ((at : ℕ) → start ≤ at → at < start + n → g ≡ h → at / 4096 ≢ v)
    → seen (put_bytes ram i xs) (satp_of m.root) start n ≡ seen ram (satp_of m.root) start n

-- the end of a group frees its frames, and every other group stands as it did
abbrev pub EndFrees : Type 0
EndFrees = (ram : List ℕ) (role : ℕ → Role) (g h : ℕ) (m : Maps) → h ≢ g → Stands ram role h m → Stands ram (freed role g) h m
