-- What a start, a thread's stack and the end of a group do to a world.
use Rattle.std.specs.Prelude.{ℕ, zero, suc, ◌+◌, ◌-◌, ◌*◌, ◌/◌, ◌^◌, ◌==◌, Bool, true, false, ◌&&◌, not, if◌then◌else◌, List, [], ◌∷◌, ◌++◌, length, map, Option, Some, None, slice_index_or, slice_set, replicate}
use Rattle.std.specs.List.{list_any}
use Rattle.nx_base.specs.declared.regs.Regs.{Regs}
use Rattle.nx_ram.specs.declared.prog_image.ProgImage.{ProgImage}
use Rattle.nx_space.specs.World.{Home, Own, Part, Group, MemoryMap, World, group_of}
use Rattle.nx_space.specs.Places.{Place, written_at, with_bytes}

-- stands for a program that there is not
abbrev pub no_program : ProgImage
no_program = record { name = []; text_at = 0; text = []; data_at = 0; init = []; main = 0; end_group = 0; end_thread = 0 }

abbrev pub program_at : MemoryMap → ℕ → ProgImage
program_at memory_map place = slice_index_or memory_map.programs place no_program

-- the place of a group's program
abbrev pub program_of : List Group → ℕ → ℕ
program_of gs number = (group_of gs number).program

-- the lowest address of a slot's stack, and its end
abbrev pub stack_low : MemoryMap → ℕ → ℕ
stack_low memory_map slot = memory_map.stacks_at + slot * memory_map.stride

abbrev pub stack_end : MemoryMap → ℕ → ℕ
stack_end memory_map slot = stack_low memory_map slot + memory_map.stack

-- all registers are 0 but these: 1 a stub, 2 the stack's end, 4 its lowest address
abbrev pub regs_with : ℕ → ℕ → ℕ → ℕ → Regs
regs_with stub low high entry = record { x = slice_set (slice_set (slice_set (replicate 32 0) 1 stub) 2 high) 4 low; pc = entry }

-- the registers of a main thread
unfoldable pub start_regs : MemoryMap → ℕ → ℕ → Regs
start_regs memory_map place slot = regs_with (program_at memory_map place).end_group (stack_low memory_map slot) (stack_end memory_map slot) (program_at memory_map place).main

-- the registers of a new thread, whose entry and argument are not set yet
unfoldable pub thread_regs : MemoryMap → ℕ → ℕ → Regs
thread_regs memory_map place slot = regs_with (program_at memory_map place).end_thread (stack_low memory_map slot) (stack_end memory_map slot) 0

-- pages of 4,096 bytes that n bytes take
abbrev pub pages_of : ℕ → ℕ
pages_of n = (n + 4095) / 4096

-- the numbers of so many pages, from one on
abbrev pub pages_from : ℕ → ℕ → List ℕ
pages_from first zero = []
pages_from first (suc n) = first ∷ pages_from (first + 1) n

-- the pages of the n bytes at the start of a page
abbrev pub pages_at : ℕ → ℕ → List ℕ
pages_at at n = pages_from (at / 4096) (pages_of n)

-- the pages of these slots' stacks
abbrev pub stack_pages : MemoryMap → List ℕ → List ℕ
stack_pages memory_map [] = []
stack_pages memory_map (slot ∷ slots) = pages_at (stack_low memory_map slot) memory_map.stack ++ stack_pages memory_map slots

-- the pages of a program's text and data, and of the stacks of these slots
abbrev pub mapped_pages : MemoryMap → ℕ → List ℕ → List ℕ
mapped_pages memory_map place slots =
    let p = program_at memory_map place in
    pages_at p.text_at (length p.text) ++ pages_at p.data_at (length p.init) ++ stack_pages memory_map slots

-- how many different numbers there are
abbrev pub different : List ℕ → ℕ
different [] = 0
different (n ∷ ns) = (if list_any (λ m. m == n) ns then 0 else 1) + different ns

-- the frames of a group with a program and these slots' stacks: a root, one for each page, and a table
-- for each region of 4 MiB that has one of the pages. Without pages none
unfoldable pub frames_for : MemoryMap → ℕ → List ℕ → ℕ
frames_for memory_map place slots =
    let pages = mapped_pages memory_map place slots in
    if memory_map.is_paged then 1 + length pages + different (map (λ page. page / 1024) pages) else 0

-- the frames of a group
abbrev pub frames_of : MemoryMap → Group → ℕ
frames_of memory_map g = frames_for memory_map g.program g.slots

-- the frames of all groups
unfoldable pub needs : MemoryMap → List Group → ℕ
needs memory_map [] = 0
needs memory_map (g ∷ gs) = frames_of memory_map g + needs memory_map gs

-- the frames that no group has
abbrev pub free : World → ℕ
free w = w.memory_map.frames - needs w.memory_map w.groups

-- the frames of a start
abbrev pub start_need : MemoryMap → ℕ → ℕ → ℕ
start_need memory_map place slot = frames_for memory_map place (slot ∷ [])

abbrev pub has_slot : List ℕ → ℕ → Bool
has_slot slots slot = list_any (λ s. s == slot) slots

-- the slots whose stacks a group has once a thread has that slot
abbrev pub with_slot : List ℕ → ℕ → List ℕ
with_slot slots slot = if has_slot slots slot then slots else slots ++ slot ∷ []

-- the frames that a thread's stack adds to its group's
abbrev pub grow_need : World → ℕ → ℕ → ℕ
grow_need w number slot =
    let g = group_of w.groups number in
    frames_for w.memory_map g.program (with_slot g.slots slot) - frames_of w.memory_map g

-- a world with bytes put where windows of a group let them be written
abbrev pub put_or : World → ℕ → Option Place → List ℕ → World
put_or w number None xs = w
put_or w number (Some p) xs = with_bytes w number p xs

unfoldable pub put_seen : World → ℕ → List Part → ℕ → List ℕ → World
put_seen w number ps at xs = put_or w number (written_at ps at (length xs)) xs

-- a slot's stack is set to zeros
abbrev pub zero_stack : World → ℕ → List Part → ℕ → World
zero_stack w number ps slot = put_seen w number ps (stack_low w.memory_map slot) (replicate w.memory_map.stack 0)

-- a program's data are set to their first contents
abbrev pub set_data : World → ℕ → List Part → ℕ → World
set_data w number ps place = put_seen w number ps (program_at w.memory_map place).data_at (program_at w.memory_map place).init

abbrev pub with_group : World → Group → World
with_group w g = record w { groups = w.groups ++ g ∷ [] }

-- without pages every group has the shared windows, and the data are set where asked
abbrev pub shared_start : World → ℕ → ℕ → ℕ → Bool → World
shared_start w number place slot fresh =
    let group : Group = record { number = number; program = place; slot = slot; parts = w.memory_map.shared; own = []; slots = [] } in
    with_group (zero_stack (if fresh then set_data w number w.memory_map.shared place else w) number w.memory_map.shared slot) group

-- bytes of whole pages at an address, which may be written, or else run
pub record Area : Type 0 where
  pub start : ℕ
  pub writes : Bool
  pub bytes : List ℕ

-- bytes with zeros after them to the end of their last page
abbrev pub paged : List ℕ → List ℕ
paged bytes = bytes ++ replicate (4096 * pages_of (length bytes) - length bytes) 0

-- no area where there are no bytes
abbrev pub area_of : ℕ → Bool → List ℕ → List Area
area_of at writes [] = []
area_of at writes (b ∷ bytes) = record { start = at; writes = writes; bytes = paged (b ∷ bytes) } ∷ []

abbrev pub stack_area : MemoryMap → ℕ → Area
stack_area memory_map slot = record { start = stack_low memory_map slot; writes = true; bytes = replicate (4096 * pages_of memory_map.stack) 0 }

-- what a group has alone from its start on: its text, its data, and the stack of its main thread
abbrev pub areas_of : MemoryMap → ℕ → ℕ → List Area
areas_of memory_map place slot =
    let p = program_at memory_map place in
    area_of p.text_at false p.text ++ area_of p.data_at true p.init ++ stack_area memory_map slot ∷ []

-- a window over all of the k-th bytes of a group's own
abbrev pub own_part : ℕ → Area → Part
own_part k a = record { start = a.start; reads = true; writes = a.writes; runs = not a.writes; region = false; home = Own k; from = 0; bytes = length a.bytes }

abbrev pub own_parts : ℕ → List Area → List Part
own_parts k [] = []
own_parts k (a ∷ areas) = own_part k a ∷ own_parts (k + 1) areas

-- with pages a group has bytes of its own, and the data are always set
abbrev pub paged_start : World → ℕ → ℕ → ℕ → World
paged_start w number place slot =
    let areas = areas_of w.memory_map place slot in
    let group : Group = record {
      number = number;
      program = place;
      slot = slot;
      parts = own_parts 0 areas;
      own = map (λ a. a.bytes) areas;
      slots = slot ∷ [];
    } in
    with_group w group

-- a group starts
unfoldable pub started : World → ℕ → ℕ → ℕ → Bool → World
started w number place slot fresh = if w.memory_map.is_paged then paged_start w number place slot else shared_start w number place slot fresh

-- a group with one stack more
abbrev pub with_stack : MemoryMap → ℕ → Group → Group
with_stack memory_map slot g =
    let area = stack_area memory_map slot in
    record g { parts = g.parts ++ own_part (length g.own) area ∷ []; own = g.own ++ area.bytes ∷ []; slots = g.slots ++ slot ∷ [] }

unfoldable pub change_group : (Group → Group) → List Group → ℕ → List Group
change_group f [] number = []
change_group f (g ∷ gs) number = if g.number == number then f g ∷ gs else g ∷ change_group f gs number

-- a group has one thread more, whose stack is zeros
unfoldable pub grown : World → ℕ → ℕ → World
grown w number slot =
    if w.memory_map.is_paged && not (has_slot (group_of w.groups number).slots slot)
    then record w { groups = change_group (with_stack w.memory_map slot) w.groups number }
    else zero_stack w number (group_of w.groups number).parts slot

unfoldable pub without : List Group → ℕ → List Group
without [] number = []
without (g ∷ gs) number = if g.number == number then gs else g ∷ without gs number

-- a group ends, and what was its alone is gone
unfoldable pub finished : World → ℕ → World
finished w number = record w { groups = without w.groups number }

-- where there are pages, bytes of the RAM that no window and no pool has may differ
abbrev pub but_outside : World → World → World
but_outside w new = if w.memory_map.is_paged then record w { outside = new.outside } else w
