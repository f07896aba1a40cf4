-- Calls on descriptors: write, read, open, close, lseek, dup, dup2.
use Rattle.std.specs.Prelude.{ℕ, ◌+◌, ◌-◌, ◌*◌, ◌^◌, ◌==◌, ◌&&◌, ◌||◌, nat_lt, nat_le, min, Bool, true, false, not, if◌then◌else◌, List, [], ◌∷◌, ◌++◌, length, take, drop, replicate, Option, Some, None, Result, Ok, Err, slice_get, slice_set}
use Rattle.std.specs.List.{position_from}
use Rattle.std.specs.Option.{is_none}
use Rattle.nx_base.specs.declared.errno.Errno.{Errno}
use Rattle.nx_base.specs.declared.errno.Errno.TheVariants.{Enoent, Ebadf, Eexist, Eisdir, Einval, Emfile, Efbig, Enospc}
use Rattle.nx_base.specs.Replies.{most_moved}
use Rattle.nx_ksys.specs.declared.node.Node.{Node}
use Rattle.nx_ksys.specs.declared.node.NodeKind.{NodeKind}
use Rattle.nx_ksys.specs.declared.node.NodeKind.TheVariants as node
use Rattle.nx_ksys.specs.declared.node.Open.{Open}
use Rattle.nx_ksys.specs.declared.node.Target.{Target}
use Rattle.nx_ksys.specs.declared.node.Target.TheVariants as target
use Rattle.nx_ksys.specs.Threads.{flat}
use Rattle.nx_ksys.specs.State.{FileTree, KernelState, blocks_for, free_blocks, objects}
use Rattle.nx_ksys.specs.Paths.{resolved, node_at, parent_of, is_closed}
use Rattle.nx_ksys.specs.Descriptors.{per_group, has_flag, may_read, may_write, creates, is_exclusive, appends, truncates, Opened, opened, description_at, free_descriptor, set_descriptor, closed}
use Rattle.nx_ksys.specs.Answers.{Stepped, Caller, replied, failed, is_negative}

-- ---- write

-- a file has at most so many bytes
abbrev pub longest_file : ℕ
longest_file = 4194304

-- where a write may end at most in a file of so many bytes, with so many free blocks
abbrev pub reach : ℕ → ℕ → ℕ
reach free size = min longest_file ((blocks_for size + free) * 64)

-- bytes with others put at a place; what lies between the end and that place is zeros
unfoldable pub with_written : List ℕ → ℕ → List ℕ → List ℕ
with_written content at bytes = take at (content ++ replicate (at - length content) 0) ++ bytes ++ drop (at + length bytes) content

-- a file's bytes after a write, how many of them were written, and where the last of these ends
pub record Written : Type 0 where
  pub content : List ℕ
  pub count : ℕ
  pub end : ℕ

abbrev pub written_some : List ℕ → ℕ → List ℕ → ℕ → Result Written Errno
written_some content at bytes count =
    if count == 0 then Err Enospc else Ok (record { content = with_written content at (take count bytes); count = count; end = at + count })

-- bytes, at least one, are written from a place on, as many as may be
abbrev pub written_at : ℕ → List ℕ → ℕ → List ℕ → Result Written Errno
written_at free content at bytes =
    if nat_le longest_file at then Err Efbig else written_some content at bytes (min (length bytes) (reach free (length content) - at))

abbrev pub write_place : List ℕ → Open → ℕ
write_place content o = if appends o.flags then length content else o.offset

abbrev pub with_file : FileTree → ℕ → List ℕ → FileTree
with_file tree place content = record tree { files = slice_set tree.files place (Some content) }

abbrev pub with_open : KernelState → ℕ → Open → KernelState
with_open k place o = record k { opens = slice_set k.opens place (Some o) }

abbrev pub file_written : KernelState → Caller → Opened → ℕ → Result Written Errno → Stepped
file_written k c o place (Err e) = failed k c e
file_written k c o place (Ok w) = replied (with_open (record k { tree = with_file k.tree place w.content }) o.place (record o.description { offset = w.end })) c w.count []

abbrev pub write_file : KernelState → Caller → Opened → ℕ → List ℕ → Option (List ℕ) → Stepped
write_file k c o place bytes None = failed k c Ebadf
write_file k c o place bytes (Some content) = file_written k c o place (written_at (free_blocks k) content (write_place content o.description) bytes)

-- the console takes what it has room for
abbrev pub write_console : KernelState → Caller → List ℕ → ℕ → Stepped
write_console k c bytes count = if count == 0 then failed k c Enospc else replied (record k { console = k.console ++ take count bytes }) c count []

abbrev pub write_target : KernelState → Caller → Opened → List ℕ → Target → Stepped
write_target k c o bytes (target.File place) = write_file k c o place bytes (flat (slice_get k.tree.files place))
write_target k c o bytes target.Console = write_console k c bytes (min (length bytes) (k.limits.console - length k.console))
write_target k c o bytes other = replied k c (length bytes) []

-- queues and semaphores are neither written nor read
abbrev pub is_stream : Target → Bool
is_stream (target.File place) = true
is_stream target.Console = true
is_stream target.Null = true
is_stream other = false

abbrev pub write_some : KernelState → Caller → Opened → List ℕ → Stepped
write_some k c o [] = replied k c 0 []
write_some k c o (b ∷ bytes) = write_target k c o (b ∷ bytes) o.description.target

abbrev pub write_opened : KernelState → Caller → List ℕ → Option Opened → Stepped
write_opened k c bytes None = failed k c Ebadf
write_opened k c bytes (Some o) = if is_stream o.description.target && may_write o.description.flags then write_some k c o bytes else failed k c Ebadf

unfoldable pub write_row : KernelState → Caller → ℕ → List ℕ → Stepped
write_row k c fd bytes = write_opened k c bytes (opened k c.place fd)

-- ---- read

abbrev pub read_file : KernelState → Caller → Opened → ℕ → Option (List ℕ) → Stepped
read_file k c o room None = failed k c Ebadf
read_file k c o room (Some content) =
    let bytes = take room (drop o.description.offset content) in
    replied (with_open k o.place (record o.description { offset = o.description.offset + length bytes })) c (length bytes) (bytes ∷ [])

abbrev pub read_console : KernelState → Caller → ℕ → Stepped
read_console k c room = let bytes = take room k.input in replied (record k { input = drop room k.input }) c (length bytes) (bytes ∷ [])

abbrev pub read_target : KernelState → Caller → Opened → ℕ → Target → Stepped
read_target k c o room (target.File place) = read_file k c o room (flat (slice_get k.tree.files place))
read_target k c o room target.Console = read_console k c room
read_target k c o room other = replied k c 0 ([] ∷ [])

abbrev pub read_opened : KernelState → Caller → ℕ → Option Opened → Stepped
read_opened k c room None = failed k c Ebadf
read_opened k c room (Some o) = if is_stream o.description.target && may_read o.description.flags then read_target k c o room o.description.target else failed k c Ebadf

unfoldable pub read_row : KernelState → Caller → ℕ → ℕ → Stepped
read_row k c fd size = read_opened k c (min size most_moved) (opened k c.place fd)

-- ---- open

-- a new description, and a descriptor that has it
abbrev pub described : KernelState → Caller → Open → ℕ → ℕ → Stepped
described k c o fd place = replied (record k { descriptors = set_descriptor k.descriptors c.place fd (Some place); opens = slice_set k.opens place (Some o) }) c fd []

-- without room for one the call fails over the old state, in which no file was made or emptied
abbrev pub describe_at : KernelState → KernelState → Caller → Open → ℕ → Option ℕ → Stepped
describe_at old k c o fd None = failed old c Emfile
describe_at old k c o fd (Some place) = described k c o fd place

abbrev pub describe : KernelState → KernelState → Caller → Open → Option ℕ → Stepped
describe old k c o None = failed old c Emfile
describe old k c o (Some fd) = describe_at old k c o fd (position_from is_none 0 k.opens)

abbrev pub describe_new : KernelState → KernelState → Caller → Target → ℕ → Stepped
describe_new old k c to flags = describe old k c (record { target = to; flags = flags; offset = 0 }) (free_descriptor k.descriptors c.place)

-- under O_TRUNC a file that may be written is emptied
abbrev pub emptied : KernelState → ℕ → ℕ → KernelState
emptied k flags place = if truncates flags then record k { tree = with_file k.tree place [] } else k

abbrev pub open_kind : KernelState → Caller → ℕ → NodeKind → Stepped
open_kind k c flags node.Directory = failed k c Eisdir
open_kind k c flags (node.File place) = describe_new k (emptied k flags place) c (target.File place) flags
open_kind k c flags node.Console = describe_new k k c target.Console flags
open_kind k c flags node.Null = describe_new k k c target.Null flags
open_kind k c flags (node.Program place) = failed k c Einval
open_kind k c flags (node.Queue place) = failed k c Einval

-- a new empty file
abbrev pub with_new_file : KernelState → List ℕ → ℕ → KernelState
with_new_file k path place = record k { tree = record { entries = k.tree.entries ++ (path, record { kind = node.File place; fixed = false }) ∷ []; files = slice_set k.tree.files place (Some []) } }

abbrev pub create_at : KernelState → Caller → ℕ → List ℕ → Option ℕ → Stepped
create_at k c flags path None = failed k c Enospc
create_at k c flags path (Some place) = describe_new k (with_new_file k path place) c (target.File place) flags

abbrev pub create : KernelState → Caller → ℕ → List ℕ → Stepped
create k c flags path =
    if not (creates flags) then failed k c Enoent
    else if is_closed (parent_of path) then failed k c Einval
    else if nat_le k.limits.objects (objects k) then failed k c Enospc
    else create_at k c flags path (position_from is_none 0 k.tree.files)

abbrev pub open_found : KernelState → Caller → ℕ → List ℕ → Option Node → Stepped
open_found k c flags path None = create k c flags path
open_found k c flags path (Some n) = if is_exclusive flags then failed k c Eexist else open_kind k c flags n.kind

abbrev pub open_path : KernelState → Caller → ℕ → Result (List ℕ) Errno → Stepped
open_path k c flags (Err e) = failed k c e
open_path k c flags (Ok path) = open_found k c flags path (node_at k.tree.entries path)

unfoldable pub open_row : KernelState → Caller → List ℕ → ℕ → Stepped
open_row k c text flags =
    if nat_lt 127 flags || not (has_flag flags 1 || has_flag flags 2) then failed k c Einval
    else open_path k c flags (resolved k.tree.entries c.group.directory text)

-- ---- close, lseek, dup, dup2

abbrev pub close_at : KernelState → Caller → ℕ → Option ℕ → Stepped
close_at k c fd None = failed k c Ebadf
close_at k c fd (Some place) = replied (closed k c.place fd) c 0 []

unfoldable pub close_row : KernelState → Caller → ℕ → Stepped
close_row k c fd = close_at k c fd (description_at k.descriptors c.place fd)

-- a place moved by a signed word, if it doesn't come below 0
abbrev pub moved_by : ℕ → ℕ → Option ℕ
moved_by from word =
    if not (is_negative word) then Some (from + word)
    else if nat_le (2 ^ 32 - word) from then Some (from - (2 ^ 32 - word)) else None

-- 0 counts from the start, 1 from here, 2 from the end
abbrev pub seek_from : List ℕ → Open → ℕ → Option ℕ
seek_from content o whence =
    if whence == 0 then Some 0 else if whence == 1 then Some o.offset else if whence == 2 then Some (length content) else None

abbrev pub sought : Option ℕ → ℕ → Option ℕ
sought None word = None
sought (Some from) word = moved_by from word

abbrev pub seek_to : KernelState → Caller → Opened → Option ℕ → Stepped
seek_to k c o None = failed k c Einval
seek_to k c o (Some offset) = if nat_lt 2147483647 offset then failed k c Einval else replied (with_open k o.place (record o.description { offset = offset })) c offset []

abbrev pub seek_file : KernelState → Caller → Opened → ℕ → ℕ → Option (List ℕ) → Stepped
seek_file k c o word whence None = failed k c Ebadf
seek_file k c o word whence (Some content) = seek_to k c o (sought (seek_from content o.description whence) word)

abbrev pub seek_target : KernelState → Caller → Opened → ℕ → ℕ → Target → Stepped
seek_target k c o word whence (target.File place) = seek_file k c o word whence (flat (slice_get k.tree.files place))
seek_target k c o word whence target.Console = failed k c Einval
seek_target k c o word whence target.Null = failed k c Einval
seek_target k c o word whence other = failed k c Ebadf

abbrev pub seek_opened : KernelState → Caller → ℕ → ℕ → Option Opened → Stepped
seek_opened k c word whence None = failed k c Ebadf
seek_opened k c word whence (Some o) = seek_target k c o word whence o.description.target

unfoldable pub lseek_row : KernelState → Caller → ℕ → ℕ → ℕ → Stepped
lseek_row k c fd word whence = seek_opened k c word whence (opened k c.place fd)

abbrev pub dup_at : KernelState → Caller → ℕ → Option ℕ → Stepped
dup_at k c place None = failed k c Emfile
dup_at k c place (Some fd) = replied (record k { descriptors = set_descriptor k.descriptors c.place fd (Some place) }) c fd []

abbrev pub dup_of : KernelState → Caller → Option ℕ → Stepped
dup_of k c None = failed k c Ebadf
dup_of k c (Some place) = dup_at k c place (free_descriptor k.descriptors c.place)

unfoldable pub dup_row : KernelState → Caller → ℕ → Stepped
dup_row k c fd = dup_of k c (description_at k.descriptors c.place fd)

-- what the second was closes
abbrev pub with_second : KernelState → Caller → ℕ → ℕ → KernelState
with_second k c place second = let old = closed k c.place second in record old { descriptors = set_descriptor old.descriptors c.place second (Some place) }

abbrev pub dup2_of : KernelState → Caller → ℕ → ℕ → Option ℕ → Stepped
dup2_of k c first second None = failed k c Ebadf
dup2_of k c first second (Some place) =
    if nat_le per_group second then failed k c Ebadf
    else if first == second then replied k c second []
    else replied (with_second k c place second) c second []

unfoldable pub dup2_row : KernelState → Caller → ℕ → ℕ → Stepped
dup2_row k c first second = dup2_of k c first second (description_at k.descriptors c.place first)
