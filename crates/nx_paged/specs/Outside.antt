-- The bytes of a RAM that no window shows.
use Rattle.std.specs.Prelude.{ℕ, zero, suc, ◌+◌, ◌-◌, ◌==◌, Bool, false, ◌||◌, if◌then◌else◌, List, [], ◌∷◌, length, Option, Some, None, slice_index}
use Rattle.nx_base.specs.declared.access.Access.TheVariants.{Load}
use Rattle.nx_sv32.specs.Walk.{ram_start, walk}
use Rattle.nx_tables.specs.Maps.{satp_of}
use Rattle.nx_space.specs.World.{MemoryMap}
use Rattle.nx_paged.specs.Tenants.{Tenant}
use Rattle.nx_paged.specs.Spans.{Span, spans_of}

abbrev pub is_place : Option ℕ → ℕ → Bool
is_place None k = false
is_place (Some to) k = to == ram_start + k

-- the byte at a place of the RAM is shown at one of n addresses
unfoldable pub is_seen : List ℕ → ℕ → ℕ → ℕ → ℕ → Bool
is_seen ram satp at zero k = false
is_seen ram satp at (suc n) k = is_place (walk ram satp at Load) k || is_seen ram satp (at + 1) n k

-- it is shown by one of these windows
unfoldable pub in_spans : List ℕ → ℕ → List Span → ℕ → Bool
in_spans ram root [] k = false
in_spans ram root (s ∷ ss) k = is_seen ram (satp_of root) s.start s.bytes k || in_spans ram root ss k

-- it is shown by a window of one of these groups
unfoldable pub is_shown : List ℕ → MemoryMap → List Tenant → ℕ → Bool
is_shown ram memory_map [] k = false
is_shown ram memory_map (t ∷ ts) k = in_spans ram t.root (spans_of memory_map t.program t.slots) k || is_shown ram memory_map ts k

-- of n bytes of the RAM from a place on, those for which a test fails
unfoldable pub bytes_without : (ℕ → Bool) → List ℕ → ℕ → ℕ → List ℕ
bytes_without test ram k zero = []
bytes_without test ram k (suc n) = if test k then bytes_without test ram (k + 1) n else slice_index ram k ∷ bytes_without test ram (k + 1) n

-- the bytes after the pool that no window of a group shows
abbrev pub outside_of : List ℕ → ℕ → MemoryMap → List Tenant → List ℕ
outside_of ram pool memory_map ts = bytes_without (is_shown ram memory_map ts) ram pool (length ram - pool)
