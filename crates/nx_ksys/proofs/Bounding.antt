-- The rows of descriptors keep what bounds the paths.
use Rattle.std.proofs.Common.{◌≡◌, ℕ, zero, suc, ◌+◌, ◌==◌, ◌&&◌, Bool, true, false, List, [], ◌∷◌, ◌++◌, length, min, Option, Some, None, Ok, Err, refl}
use Rattle.std.specs.Prelude.{if◌then◌else◌, not, nat_lt, nat_le, Result, slice_get, ◌-◌}
use Rattle.std.specs.List.{position_from}
use Rattle.std.specs.Option.{is_none}
use Rattle.nx_base.specs.declared.errno.Errno.{Errno}
use Rattle.nx_base.specs.declared.errno.Errno.TheVariants as errno
use Rattle.nx_ksys.specs.declared.node.Node.{Node}
use Rattle.nx_ksys.specs.declared.node.NodeKind.{NodeKind}
use Rattle.nx_ksys.specs.declared.node.NodeKind.TheVariants as node
use Rattle.nx_ksys.specs.declared.node.Open.{Open}
use Rattle.nx_ksys.specs.declared.node.Target.{Target}
use Rattle.nx_ksys.specs.declared.node.Target.TheVariants as target
use Rattle.nx_ksys.specs.Threads.{flat}
use Rattle.nx_ksys.specs.State.{KernelState, free_blocks, objects}
use Rattle.nx_ksys.specs.Paths.{resolved, node_at, parent_of, is_closed}
use Rattle.nx_ksys.specs.Descriptors.{may_read, may_write, creates, is_exclusive, truncates, Opened, opened, description_at, free_descriptor, is_held, queue_lives, swept_target, without_idle, without_open, released, closed_as, closed, closed_from}
use Rattle.nx_ksys.specs.Answers.{Stepped, Caller, replied, failed, text_out}
use Rattle.nx_ksys.specs.FileCalls.{Written, written_at, write_place, file_written, write_file, write_console, write_target, is_stream, write_some, write_opened, write_row, read_file, read_target, read_opened, read_row, describe_at, describe, describe_new, emptied, open_kind, with_new_file, create_at, create, open_found, open_path, open_row, close_at, close_row, seek_from, sought, seek_to, seek_file, seek_target, seek_opened, lseek_row, dup_at, dup_of, dup_row, dup2_of, dup2_row}
use Rattle.nx_ksys.specs.Bounds.{IsBounded}
use Rattle.nx_ksys.proofs.BoundLemmas.{file_bounded, new_bounded, swept_bounded, unled_queue, kept_bounded, living_bounded}

-- what bounds the paths stays under a call
pub record Bounds (k : KernelState) (s : Stepped) : Type 0 where
  pub kept : (first : ℕ) → IsBounded first k → IsBounded first s.to

pub record Keeps (k l : KernelState) : Type 0 where
  pub kept : (first : ℕ) → IsBounded first k → IsBounded first l

pub keeps_refl : (k : KernelState) → Keeps k k
keeps_refl k = record { kept = λ first h. h }

pub keeps_on : (k l m : KernelState) → Keeps k l → Keeps l m → Keeps k m
keeps_on k l m a b = record { kept = λ first h. b.kept first (a.kept first h) }

pub bounds_same : (k : KernelState) (s : Stepped) → Keeps k s.to → Bounds k s
bounds_same k s a = record { kept = a.kept }

pub either : (k : KernelState) (b : Bool) (s t : Stepped) → Bounds k s → Bounds k t → Bounds k (if b then s else t)
either k true s t x y = x
either k false s t x y = y

pub keeps_either : (k : KernelState) (b : Bool) (l m : KernelState) → Keeps k l → Keeps k m → Keeps k (if b then l else m)
keeps_either k true l m x y = x
keeps_either k false l m x y = y

pub fails : (k : KernelState) (c : Caller) (e : Errno) → Bounds k (failed k c e)
fails k c e = bounds_same k (failed k c e) (record { kept = λ first h. h })

pub replies : (k l : KernelState) (c : Caller) (value : ℕ) (outputs : List (List ℕ)) → Keeps k l → Bounds k (replied l c value outputs)
replies k l c value outputs a = bounds_same k (replied l c value outputs) a

pub texts : (k : KernelState) (c : Caller) (size : ℕ) (text : List ℕ) → Bounds k (text_out k c size text)
texts k c size text = either k (nat_lt (length text) (min size 4096)) _ _ (replies k k c (length text) ((text ++ 0 ∷ []) ∷ []) (keeps_refl k)) (fails k c errno.Einval)

-- ---- queues that end

pub idle_keeps : (k : KernelState) → Keeps k (without_idle k)
unfolding without_idle
idle_keeps k = record { kept = λ first h. living_bounded first k.tree k.queues (queue_lives k) (unled_queue k) h }

-- ---- descriptors

pub target_keeps : (k : KernelState) (t : Target) → Keeps k (swept_target k t)
target_keeps k (target.File place) = (record { kept = λ first h. swept_bounded first k.tree k.queues k.opens place h })
target_keeps k target.Console = (record { kept = λ first h. h })
target_keeps k target.Null = (record { kept = λ first h. h })
target_keeps k (target.Queue place) = (record { kept = λ first h. kept_bounded first k.tree k.queues place (queue_lives k place) (unled_queue k place) h })
target_keeps k (target.Semaphore place) = (record { kept = λ first h. h })

pub released_keeps : (k : KernelState) (place : ℕ) → Keeps k (released k place)
unfolding released
released_keeps k place = keeps_either k (is_held place k.descriptors) k _ (keeps_refl k) (by_open (flat (slice_get k.opens place)))
  where
    by_open : (o : Option Open) → Keeps k (without_open k place o)
    by_open None = (record { kept = λ first h. h })
    by_open (Some o) = keeps_on k _ _ (record { kept = λ first h. h }) (target_keeps _ o.target)

pub closed_keeps : (k : KernelState) (place fd : ℕ) → Keeps k (closed k place fd)
unfolding closed
closed_keeps k place fd = by_place (description_at k.descriptors place fd)
  where
    by_place : (d : Option ℕ) → Keeps k (closed_as k place fd d)
    by_place None = (record { kept = λ first h. h })
    by_place (Some d) = keeps_on k _ _ (record { kept = λ first h. h }) (released_keeps _ d)

pub all_closed_keeps : (n fd place : ℕ) (k : KernelState) → Keeps k (closed_from n fd place k)
all_closed_keeps zero fd place k = (record { kept = λ first h. h })
all_closed_keeps (suc n) fd place k = keeps_on k (closed k place fd) _ (closed_keeps k place fd) (all_closed_keeps n (fd + 1) place (closed k place fd))

-- ---- write and read

pub write_bounds : (k : KernelState) (c : Caller) (fd : ℕ) (bytes : List ℕ) → Bounds k (write_row k c fd bytes)
unfolding write_row
write_bounds k c fd bytes = by_open (opened k c.place fd)
  where
    file : (o : Opened) (place : ℕ) (r : Result Written Errno) → Bounds k (file_written k c o place r)
    file o place (Err e) = fails k c e
    file o place (Ok w) = bounds_same k _ (record { kept = λ first h. file_bounded first k.tree k.queues place w.content h })

    by_file : (o : Opened) (place : ℕ) (bs : List ℕ) (content : Option (List ℕ)) → Bounds k (write_file k c o place bs content)
    by_file o place bs None = fails k c errno.Ebadf
    by_file o place bs (Some content) = file o place (written_at (free_blocks k) content (write_place content o.description) bs)

    console : (bs : List ℕ) (n : ℕ) → Bounds k (write_console k c bs n)
    console bs n = either k (n == 0) _ _ (fails k c errno.Enospc) (record { kept = λ first h. h })

    by_target : (o : Opened) (bs : List ℕ) (t : Target) → Bounds k (write_target k c o bs t)
    by_target o bs (target.File place) = by_file o place bs (flat (slice_get k.tree.files place))
    by_target o bs target.Console = console bs (min (length bs) (k.limits.console - length k.console))
    by_target o bs target.Null = bounds_same k _ (record { kept = λ first h. h })
    by_target o bs (target.Queue place) = bounds_same k _ (record { kept = λ first h. h })
    by_target o bs (target.Semaphore place) = bounds_same k _ (record { kept = λ first h. h })

    some : (o : Opened) (bs : List ℕ) → Bounds k (write_some k c o bs)
    some o [] = bounds_same k _ (record { kept = λ first h. h })
    some o (b ∷ bs) = by_target o (b ∷ bs) o.description.target

    by_open : (o : Option Opened) → Bounds k (write_opened k c bytes o)
    by_open None = fails k c errno.Ebadf
    by_open (Some o) = either k (is_stream o.description.target && may_write o.description.flags) _ _ (some o bytes) (fails k c errno.Ebadf)

pub read_bounds : (k : KernelState) (c : Caller) (fd size : ℕ) → Bounds k (read_row k c fd size)
unfolding read_row
read_bounds k c fd size = by_open _ (opened k c.place fd)
  where
    by_file : (o : Opened) (room : ℕ) (content : Option (List ℕ)) → Bounds k (read_file k c o room content)
    by_file o room None = fails k c errno.Ebadf
    by_file o room (Some content) = bounds_same k _ (record { kept = λ first h. h })

    by_target : (o : Opened) (room : ℕ) (t : Target) → Bounds k (read_target k c o room t)
    by_target o room (target.File place) = by_file o room (flat (slice_get k.tree.files place))
    by_target o room target.Console = bounds_same k _ (record { kept = λ first h. h })
    by_target o room target.Null = bounds_same k _ (record { kept = λ first h. h })
    by_target o room (target.Queue place) = bounds_same k _ (record { kept = λ first h. h })
    by_target o room (target.Semaphore place) = bounds_same k _ (record { kept = λ first h. h })

    by_open : (room : ℕ) (o : Option Opened) → Bounds k (read_opened k c room o)
    by_open room None = fails k c errno.Ebadf
    by_open room (Some o) = either k (is_stream o.description.target && may_read o.description.flags) _ _ (by_target o room o.description.target) (fails k c errno.Ebadf)

-- ---- open

pub describes : (k l : KernelState) (c : Caller) (to : Target) (flags : ℕ) → Keeps k l → Bounds k (describe_new k l c to flags)
describes k l c to flags a = by_descriptor (record { target = to; flags = flags; offset = 0 }) (free_descriptor l.descriptors c.place)
  where
    by_place : (o : Open) (fd : ℕ) (place : Option ℕ) → Bounds k (describe_at k l c o fd place)
    by_place o fd None = fails k c errno.Emfile
    by_place o fd (Some place) = bounds_same k _ (record { kept = a.kept })

    by_descriptor : (o : Open) (fd : Option ℕ) → Bounds k (describe k l c o fd)
    by_descriptor o None = fails k c errno.Emfile
    by_descriptor o (Some fd) = by_place o fd (position_from is_none 0 l.opens)

pub open_bounds : (k : KernelState) (c : Caller) (text : List ℕ) (flags : ℕ) → Bounds k (open_row k c text flags)
unfolding open_row
open_bounds k c text flags = either k _ _ _ (fails k c errno.Einval) (by_path (resolved k.tree.entries c.group.directory text))
  where
    empty : (place : ℕ) → Keeps k (emptied k flags place)
    empty place = keeps_either k (truncates flags) _ _ (record { kept = λ first h. file_bounded first k.tree k.queues place [] h }) (record { kept = λ first h. h })

    by_kind : (n : NodeKind) → Bounds k (open_kind k c flags n)
    by_kind node.Directory = fails k c errno.Eisdir
    by_kind (node.File place) = describes k (emptied k flags place) c (target.File place) flags (empty place)
    by_kind node.Console = describes k k c target.Console flags (record { kept = λ first h. h })
    by_kind node.Null = describes k k c target.Null flags (record { kept = λ first h. h })
    by_kind (node.Program place) = fails k c errno.Einval
    by_kind (node.Queue place) = fails k c errno.Einval

    by_place : (path : List ℕ) (place : Option ℕ) → position_from is_none 0 k.tree.files ≡ place → Bounds k (create_at k c flags path place)
    by_place path None e = fails k c errno.Enospc
    by_place path (Some place) e = describes k (with_new_file k path place) c (target.File place) flags (record { kept = λ first h. new_bounded first k.tree k.queues path place e h })

    creates_one : (path : List ℕ) → Bounds k (create k c flags path)
    creates_one path =
        either k (not (creates flags)) _ _ (fails k c errno.Enoent) (either k (is_closed (parent_of path)) _ _ (fails k c errno.Einval)
        (either k (nat_le k.limits.objects (objects k)) _ _ (fails k c errno.Enospc) (by_place path (position_from is_none 0 k.tree.files) refl)))

    by_node : (path : List ℕ) (n : Option Node) → Bounds k (open_found k c flags path n)
    by_node path None = creates_one path
    by_node path (Some n) = either k (is_exclusive flags) _ _ (fails k c errno.Eexist) (by_kind n.kind)

    by_path : (r : Result (List ℕ) Errno) → Bounds k (open_path k c flags r)
    by_path (Err e) = fails k c e
    by_path (Ok path) = by_node path (node_at k.tree.entries path)

-- ---- close, lseek, dup, dup2

pub close_bounds : (k : KernelState) (c : Caller) (fd : ℕ) → Bounds k (close_row k c fd)
unfolding close_row
close_bounds k c fd = by_place (description_at k.descriptors c.place fd)
  where
    by_place : (place : Option ℕ) → Bounds k (close_at k c fd place)
    by_place None = fails k c errno.Ebadf
    by_place (Some place) = bounds_same k _ (closed_keeps k c.place fd)

pub lseek_bounds : (k : KernelState) (c : Caller) (fd word whence : ℕ) → Bounds k (lseek_row k c fd word whence)
unfolding lseek_row
lseek_bounds k c fd word whence = by_open (opened k c.place fd)
  where
    to : (o : Opened) (offset : Option ℕ) → Bounds k (seek_to k c o offset)
    to o None = fails k c errno.Einval
    to o (Some offset) = either k (nat_lt 2147483647 offset) _ _ (fails k c errno.Einval) (bounds_same k _ (record { kept = λ first h. h }))

    by_file : (o : Opened) (content : Option (List ℕ)) → Bounds k (seek_file k c o word whence content)
    by_file o None = fails k c errno.Ebadf
    by_file o (Some content) = to o (sought (seek_from content o.description whence) word)

    by_target : (o : Opened) (t : Target) → Bounds k (seek_target k c o word whence t)
    by_target o (target.File place) = by_file o (flat (slice_get k.tree.files place))
    by_target o target.Console = fails k c errno.Einval
    by_target o target.Null = fails k c errno.Einval
    by_target o (target.Queue place) = fails k c errno.Ebadf
    by_target o (target.Semaphore place) = fails k c errno.Ebadf

    by_open : (o : Option Opened) → Bounds k (seek_opened k c word whence o)
    by_open None = fails k c errno.Ebadf
    by_open (Some o) = by_target o o.description.target

pub dup_bounds : (k : KernelState) (c : Caller) (fd : ℕ) → Bounds k (dup_row k c fd)
unfolding dup_row
dup_bounds k c fd = by_place (description_at k.descriptors c.place fd)
  where
    by_descriptor : (place : ℕ) (new : Option ℕ) → Bounds k (dup_at k c place new)
    by_descriptor place None = fails k c errno.Emfile
    by_descriptor place (Some new) = bounds_same k _ (record { kept = λ first h. h })

    by_place : (place : Option ℕ) → Bounds k (dup_of k c place)
    by_place None = fails k c errno.Ebadf
    by_place (Some place) = by_descriptor place (free_descriptor k.descriptors c.place)

pub dup2_bounds : (k : KernelState) (c : Caller) (first second : ℕ) → Bounds k (dup2_row k c first second)
unfolding dup2_row
dup2_bounds k c first second = by_place (description_at k.descriptors c.place first)
  where
    by_place : (place : Option ℕ) → Bounds k (dup2_of k c first second place)
    by_place None = fails k c errno.Ebadf
    by_place (Some place) =
        either k (nat_le 32 second) _ _ (fails k c errno.Ebadf) (either k (first == second) _ _ (bounds_same k _ (record { kept = λ first h. h })) (bounds_same k _ (let s = closed_keeps k c.place second in record { kept = s.kept })))
