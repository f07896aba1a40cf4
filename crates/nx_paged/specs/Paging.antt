-- A space whose views are given by page tables in its RAM.
use Rattle.std.specs.Prelude.{◌≡◌, ℕ, ◌+◌, ◌-◌, ◌*◌, ◌/◌, ◌%◌, ◌^◌, ◌<◌, ◌≤◌, ◌==◌, Bool, true, List, [], ◌∷◌, length, map, take, drop}
use Rattle.std.specs.List.{All, list_any}
use Rattle.std.specs.Option.{is_some}
use Rattle.nx_base.specs.ByteLists.{AreBytes}
use Rattle.nx_ram.specs.declared.prog_image.ProgImage.{ProgImage}
use Rattle.nx_frames.specs.Stock.{Stock, AreHeld, frames_of}
use Rattle.nx_sv32.specs.Walk.{ram_start}
use Rattle.nx_tables.specs.Maps.{Maps}
use Rattle.nx_tables.specs.Roles.{Role, Free, is_of, Stands}
use Rattle.nx_space.specs.World.{Group, MemoryMap, World}
use Rattle.nx_space.specs.Starts.{frames_for, mapped_pages}
use Rattle.nx_paged.specs.Tenants.{Tenant, are_distinct, are_once, frames_taken}
use Rattle.nx_paged.specs.Spans.{Each, Shows, parts_from, span_bytes, spans_of}
use Rattle.nx_paged.specs.Outside.{outside_of}

-- a RAM whose first bytes are the kernel's pool, programs, the bytes of a stack, the limit of threads,
-- the frames after the pool, the groups that have a view, and the one that was entered last
pub record Paging : Type 0 where
  pub ram : List ℕ
  pub pool : ℕ
  pub programs : List ProgImage
  pub stack : ℕ
  pub threads : ℕ
  pub stock : Stock
  pub tenants : List Tenant
  pub entered : ℕ

-- slot 0's stack stands at 0x40000000, and each other one 2 MiB after the one before
abbrev pub paged_plan : Paging → MemoryMap
paged_plan s = record {
  programs = s.programs;
  stacks_at = 0x40000000;
  stack = s.stack;
  stride = 0x200000;
  threads = s.threads;
  is_paged = true;
  shared = [];
  pool = s.pool;
  frames = length s.stock.next;
}

-- a group's windows show what the walk from its root gives
abbrev pub paged_group : List ℕ → MemoryMap → Tenant → Group
paged_group ram memory_map t =
    let spans = spans_of memory_map t.program t.slots in
    record {
      number = t.number;
      program = t.program;
      slot = t.slot;
      parts = parts_from 0 spans;
      own = map (span_bytes ram t.root) spans;
      slots = t.slots;
    }

abbrev pub paged_world : Paging → World
paged_world s = record {
  memory_map = paged_plan s;
  common = take s.pool s.ram ∷ [];
  groups = map (paged_group s.ram (paged_plan s)) s.tenants;
  entered = s.entered;
  outside = outside_of s.ram s.pool (paged_plan s) s.tenants;
}

-- the world where no group has started: all bytes after the pool are outside of the windows
abbrev pub fresh_world : List ℕ → ℕ → List ProgImage → ℕ → ℕ → World
fresh_world ram pool programs stack threads = record {
  memory_map = record {
    programs = programs;
    stacks_at = 0x40000000;
    stack = stack;
    stride = 0x200000;
    threads = threads;
    is_paged = true;
    shared = [];
    pool = pool;
    frames = (length ram - pool) / 4096;
  };
  common = take pool ram ∷ [];
  groups = [];
  entered = 0;
  outside = drop pool ram;
}

-- a program's text stands at 0x00010000 and its data at 0x10000000, and neither reaches what stands next
pub record IsLaidOut (p : ProgImage) : Type 0 where
  pub text_at : p.text_at ≡ 0x00010000
  pub some : 1 ≤ length p.text
  pub text : p.text_at + length p.text ≤ 0x10000000
  pub data_at : p.data_at ≡ 0x10000000
  pub init : p.data_at + length p.init ≤ 0x40000000

-- the RAM and the pool are of whole pages, and so is a stack, which has 1 MiB at most
pub record FitsPaged (size pool : ℕ) (programs : List ProgImage) (stack threads : ℕ) : Type 0 where
  pub small : ram_start + size < 2 ^ 32
  pub whole : size % 4096 ≡ 0
  pub pool_whole : pool % 4096 ≡ 0
  pub pool_inside : pool ≤ size
  pub one : 1 ≤ stack
  pub stack_whole : stack % 4096 ≡ 0
  pub most : stack ≤ 0x100000
  pub few : threads ≤ 64
  pub laid_out : All IsLaidOut programs

-- a group has a program of the space, and stacks of different slots
pub record IsTenant (memory_map : MemoryMap) (t : Tenant) : Type 0 where
  pub program : t.program < length memory_map.programs
  pub once : are_once t.slots ≡ true
  pub slots : All (λ slot. slot < memory_map.threads) t.slots

-- what holds of all that without the tables
pub record IsPlaced (s : Paging) : Type 0 where
  pub fits : FitsPaged (length s.ram) s.pool s.programs s.stack s.threads
  pub bytes : AreBytes s.ram
  pub first : s.stock.first ≡ ram_start + s.pool
  pub frames : s.pool + 4096 * length s.stock.next ≡ length s.ram
  pub few : length s.tenants ≤ s.threads
  pub distinct : are_distinct s.tenants ≡ true
  pub tenants : All (IsTenant (paged_plan s)) s.tenants
  pub counted : length s.stock.free + frames_taken (paged_plan s) s.tenants ≡ length s.stock.next

-- the frame at an address, with a fact of its role
pub record FrameAt (P : Role → Type 0) (roles : ℕ → Role) (a : ℕ) : Type 0 where
  pub frame : ℕ
  pub address : a ≡ ram_start + 4096 * frame
  pub role : P (roles frame)

-- one of a group's pages is in a region of 4 MiB
abbrev pub has_region : MemoryMap → ℕ → List ℕ → ℕ → Bool
has_region memory_map place slots i = list_any (λ m. m == i) (map (λ page. page / 1024) (mapped_pages memory_map place slots))

-- one group's tables stand in the RAM, one for each region that has a page, and show its windows; the
-- frames that it took are its own
pub record IsLive (ram : List ℕ) (stock : Stock) (memory_map : MemoryMap) (role : ℕ → Role) (t : Tenant) : Type 0 where
  pub maps : Maps
  pub root : maps.root ≡ t.root
  pub stands : Stands ram role t.number maps
  pub tables : (i : ℕ) → i < 1024 → is_some (maps.tables i) ≡ has_region memory_map t.program t.slots i
  pub shows : Shows maps (spans_of memory_map t.program t.slots)
  pub frames : Each (FrameAt (λ r. is_of t.number r ≡ true) role) (frames_of stock t.taken)
  pub count : t.taken.count ≡ frames_for memory_map t.program t.slots

-- each group's tables stand, and each frame of the stock is free or one group's
pub record IsPaged (s : Paging) : Type 0 where
  pub role : ℕ → Role
  pub live : Each (IsLive s.ram s.stock (paged_plan s) role) s.tenants
  pub held : AreHeld s.stock (map (λ t. t.taken) s.tenants)
  pub nobody : Each (FrameAt (λ r. r ≡ Free) role) s.stock.free
  pub past : (f g : ℕ) → is_of g (role f) ≡ true → s.pool ≤ 4096 * f
