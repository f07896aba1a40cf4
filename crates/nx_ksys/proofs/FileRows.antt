-- Files, descriptors and descriptions: calls on them leave the threads as they are.
use Rattle.std.proofs.Common.{ℕ, zero, suc, ◌+◌, ◌==◌, ◌&&◌, List, [], ◌∷◌, length, take, drop, min, Option, Some, None, Ok, Err, refl}
use Rattle.std.specs.Prelude.{not, nat_lt, nat_le, Result, slice_get, ◌-◌}
use Rattle.std.specs.List.{position_from}
use Rattle.std.specs.Option.{is_none}
use Rattle.nx_ksys.proofs.Standing.{take_short}
use Rattle.nx_base.specs.Replies.{most_moved}
use Rattle.nx_base.specs.declared.errno.Errno.{Errno}
use Rattle.nx_ksys.proofs.Waking.{nothing_fits}
use Rattle.nx_base.specs.declared.errno.Errno.TheVariants as errno
use Rattle.nx_ksys.specs.declared.node.Node.{Node}
use Rattle.nx_ksys.specs.declared.node.NodeKind.{NodeKind}
use Rattle.nx_ksys.specs.declared.node.NodeKind.TheVariants as node
use Rattle.nx_ksys.specs.declared.node.Open.{Open}
use Rattle.nx_ksys.specs.declared.node.Target.{Target}
use Rattle.nx_ksys.specs.declared.node.Target.TheVariants as target
use Rattle.nx_ksys.specs.Threads.{flat}
use Rattle.nx_ksys.specs.State.{KernelState, free_blocks, objects}
use Rattle.nx_ksys.specs.Paths.{resolved, node_at, parent_of, is_closed}
use Rattle.nx_ksys.specs.Descriptors.{may_read, may_write, creates, is_exclusive, truncates, Opened, opened, description_at, free_descriptor, is_held, swept_target, without_open, released, closed_as, closed, closed_from}
use Rattle.nx_ksys.specs.Answers.{Caller}
use Rattle.nx_ksys.specs.FileCalls.{with_open, Written, written_at, write_place, file_written, write_file, write_console, write_target, is_stream, write_some, write_opened, write_row, read_file, read_target, read_opened, read_row, describe_at, describe, describe_new, emptied, open_kind, with_new_file, create_at, create, open_found, open_path, open_row, close_at, close_row, seek_from, sought, seek_to, seek_file, seek_target, seek_opened, lseek_row, dup_at, dup_of, dup_row, dup2_of, dup2_row}
use Rattle.nx_ksys.specs.ThreadTable.{ThreadRow}
use Rattle.nx_ksys.proofs.Owing.{Keeps, keeps_refl, keeps_on, keeps_either, keeps_same, Calls, Lawful, Takes, either, answers, plain, fails}

-- ---- descriptors

target_keeps : (k : KernelState) (t : Target) → Keeps k (swept_target k t)
target_keeps k (target.File place) = (record { sched = refl; groups = refl; numbers = refl })
target_keeps k target.Console = (record { sched = refl; groups = refl; numbers = refl })
target_keeps k target.Null = (record { sched = refl; groups = refl; numbers = refl })
target_keeps k (target.Queue place) = (record { sched = refl; groups = refl; numbers = refl })
target_keeps k (target.Semaphore place) = (record { sched = refl; groups = refl; numbers = refl })

released_keeps : (k : KernelState) (place : ℕ) → Keeps k (released k place)
unfolding released
released_keeps k place = keeps_either k (is_held place k.descriptors) k _ (keeps_refl k) (by_open (flat (slice_get k.opens place)))
  where
    by_open : (o : Option Open) → Keeps k (without_open k place o)
    by_open None = (record { sched = refl; groups = refl; numbers = refl })
    by_open (Some o) = keeps_on k _ _ (record { sched = refl; groups = refl; numbers = refl }) (target_keeps _ o.target)

pub closed_keeps : (k : KernelState) (place fd : ℕ) → Keeps k (closed k place fd)
unfolding closed
closed_keeps k place fd = by_place (description_at k.descriptors place fd)
  where
    by_place : (d : Option ℕ) → Keeps k (closed_as k place fd d)
    by_place None = (record { sched = refl; groups = refl; numbers = refl })
    by_place (Some d) = keeps_on k _ _ (record { sched = refl; groups = refl; numbers = refl }) (released_keeps _ d)

pub all_closed_keeps : (n fd place : ℕ) (k : KernelState) → Keeps k (closed_from n fd place k)
all_closed_keeps zero fd place k = (record { sched = refl; groups = refl; numbers = refl })
all_closed_keeps (suc n) fd place k = keeps_on k (closed k place fd) _ (closed_keeps k place fd) (all_closed_keeps n (fd + 1) place (closed k place fd))

-- ---- write and read

pub write_lawful : (k : KernelState) (c : Caller) (x : ThreadRow) (h : Calls k c) (fd : ℕ) (bytes : List ℕ) → Lawful k c x (write_row k c fd bytes)
unfolding write_row
write_lawful k c x h fd bytes = by_open (opened k c.place fd)
  where
    file : (o : Opened) (place : ℕ) (r : Result Written Errno) → Lawful k c x (file_written k c o place r)
    file o place (Err e) = fails k c x h e
    file o place (Ok w) = plain k c x h _ _ (record { sound = λ s. s; table = refl; slots = refl })

    by_file : (o : Opened) (place : ℕ) (bs : List ℕ) (content : Option (List ℕ)) → Lawful k c x (write_file k c o place bs content)
    by_file o place bs None = fails k c x h errno.Ebadf
    by_file o place bs (Some content) = file o place (written_at (free_blocks k) content (write_place content o.description) bs)

    console : (bs : List ℕ) (n : ℕ) → Lawful k c x (write_console k c bs n)
    console bs n = either k c x (n == 0) _ _ (fails k c x h errno.Enospc) (plain k c x h _ _ (record { sound = λ s. s; table = refl; slots = refl }))

    by_target : (o : Opened) (bs : List ℕ) (t : Target) → Lawful k c x (write_target k c o bs t)
    by_target o bs (target.File place) = by_file o place bs (flat (slice_get k.tree.files place))
    by_target o bs target.Console = console bs (min (length bs) (k.limits.console - length k.console))
    by_target o bs target.Null = plain k c x h _ _ (record { sound = λ s. s; table = refl; slots = refl })
    by_target o bs (target.Queue place) = plain k c x h _ _ (record { sound = λ s. s; table = refl; slots = refl })
    by_target o bs (target.Semaphore place) = plain k c x h _ _ (record { sound = λ s. s; table = refl; slots = refl })

    some : (o : Opened) (bs : List ℕ) → Lawful k c x (write_some k c o bs)
    some o [] = plain k c x h _ _ (record { sound = λ s. s; table = refl; slots = refl })
    some o (b ∷ bs) = by_target o (b ∷ bs) o.description.target

    by_open : (o : Option Opened) → Lawful k c x (write_opened k c bytes o)
    by_open None = fails k c x h errno.Ebadf
    by_open (Some o) = either k c x (is_stream o.description.target && may_write o.description.flags) _ _ (some o bytes) (fails k c x h errno.Ebadf)

pub read_lawful : (k : KernelState) (c : Caller) (x : ThreadRow) (h : Calls k c) (fd size : ℕ) → Takes c.asked size → Lawful k c x (read_row k c fd size)
unfolding read_row
read_lawful k c x h fd size takes = by_open (opened k c.place fd)
  where
    by_file : (o : Opened) (content : Option (List ℕ)) → Lawful k c x (read_file k c o (min size most_moved) content)
    by_file o None = fails k c x h errno.Ebadf
    by_file o (Some content) =
        let bytes = take (min size most_moved) (drop o.description.offset content) in
        answers k c x h (with_open k o.place (record o.description { offset = o.description.offset + length bytes })) (length bytes) (bytes ∷ []) (record { sound = λ s. s; table = refl; slots = refl })
        (takes bytes (take_short (min size most_moved) (drop o.description.offset content)))

    by_target : (o : Opened) (t : Target) → Lawful k c x (read_target k c o (min size most_moved) t)
    by_target o (target.File place) = by_file o (flat (slice_get k.tree.files place))
    by_target o target.Console =
        let bytes = take (min size most_moved) k.input in
        answers k c x h (record k { input = drop (min size most_moved) k.input }) (length bytes) (bytes ∷ []) (record { sound = λ s. s; table = refl; slots = refl }) (takes bytes (take_short (min size most_moved) k.input))
    by_target o target.Null = answers k c x h k 0 ([] ∷ []) (record { sound = λ s. s; table = refl; slots = refl }) (nothing_fits c.asked)
    by_target o (target.Queue place) = answers k c x h k 0 ([] ∷ []) (record { sound = λ s. s; table = refl; slots = refl }) (nothing_fits c.asked)
    by_target o (target.Semaphore place) = answers k c x h k 0 ([] ∷ []) (record { sound = λ s. s; table = refl; slots = refl }) (nothing_fits c.asked)

    by_open : (o : Option Opened) → Lawful k c x (read_opened k c (min size most_moved) o)
    by_open None = fails k c x h errno.Ebadf
    by_open (Some o) = either k c x (is_stream o.description.target && may_read o.description.flags) _ _ (by_target o o.description.target) (fails k c x h errno.Ebadf)

-- ---- open

pub describes : (k l : KernelState) (c : Caller) (x : ThreadRow) (h : Calls k c) (to : Target) (flags : ℕ) → Keeps k l → Lawful k c x (describe_new k l c to flags)
describes k l c x h to flags a = by_descriptor (record { target = to; flags = flags; offset = 0 }) (free_descriptor l.descriptors c.place)
  where
    by_place : (o : Open) (fd : ℕ) (place : Option ℕ) → Lawful k c x (describe_at k l c o fd place)
    by_place o fd None = fails k c x h errno.Emfile
    by_place o fd (Some place) = plain k c x h _ _ (keeps_same k _ (record { sched = a.sched; groups = a.groups; numbers = a.numbers }))

    by_descriptor : (o : Open) (fd : Option ℕ) → Lawful k c x (describe k l c o fd)
    by_descriptor o None = fails k c x h errno.Emfile
    by_descriptor o (Some fd) = by_place o fd (position_from is_none 0 l.opens)

pub open_lawful : (k : KernelState) (c : Caller) (x : ThreadRow) (h : Calls k c) (text : List ℕ) (flags : ℕ) → Lawful k c x (open_row k c text flags)
unfolding open_row
open_lawful k c x h text flags = either k c x _ _ _ (fails k c x h errno.Einval) (by_path (resolved k.tree.entries c.group.directory text))
  where
    empty : (place : ℕ) → Keeps k (emptied k flags place)
    empty place = keeps_either k (truncates flags) _ _ (record { sched = refl; groups = refl; numbers = refl }) (record { sched = refl; groups = refl; numbers = refl })

    by_kind : (n : NodeKind) → Lawful k c x (open_kind k c flags n)
    by_kind node.Directory = fails k c x h errno.Eisdir
    by_kind (node.File place) = describes k (emptied k flags place) c x h (target.File place) flags (empty place)
    by_kind node.Console = describes k k c x h target.Console flags (record { sched = refl; groups = refl; numbers = refl })
    by_kind node.Null = describes k k c x h target.Null flags (record { sched = refl; groups = refl; numbers = refl })
    by_kind (node.Program place) = fails k c x h errno.Einval
    by_kind (node.Queue place) = fails k c x h errno.Einval

    by_place : (path : List ℕ) (place : Option ℕ) → Lawful k c x (create_at k c flags path place)
    by_place path None = fails k c x h errno.Enospc
    by_place path (Some place) = describes k (with_new_file k path place) c x h (target.File place) flags (record { sched = refl; groups = refl; numbers = refl })

    creates_one : (path : List ℕ) → Lawful k c x (create k c flags path)
    creates_one path =
        either k c x (not (creates flags)) _ _ (fails k c x h errno.Enoent) (either k c x (is_closed (parent_of path)) _ _ (fails k c x h errno.Einval)
        (either k c x (nat_le k.limits.objects (objects k)) _ _ (fails k c x h errno.Enospc) (by_place path (position_from is_none 0 k.tree.files))))

    by_node : (path : List ℕ) (n : Option Node) → Lawful k c x (open_found k c flags path n)
    by_node path None = creates_one path
    by_node path (Some n) = either k c x (is_exclusive flags) _ _ (fails k c x h errno.Eexist) (by_kind n.kind)

    by_path : (r : Result (List ℕ) Errno) → Lawful k c x (open_path k c flags r)
    by_path (Err e) = fails k c x h e
    by_path (Ok path) = by_node path (node_at k.tree.entries path)

-- ---- close, lseek, dup, dup2

pub close_lawful : (k : KernelState) (c : Caller) (x : ThreadRow) (h : Calls k c) (fd : ℕ) → Lawful k c x (close_row k c fd)
unfolding close_row
close_lawful k c x h fd = by_place (description_at k.descriptors c.place fd)
  where
    by_place : (place : Option ℕ) → Lawful k c x (close_at k c fd place)
    by_place None = fails k c x h errno.Ebadf
    by_place (Some place) = plain k c x h _ _ (keeps_same k _ (closed_keeps k c.place fd))

pub lseek_lawful : (k : KernelState) (c : Caller) (x : ThreadRow) (h : Calls k c) (fd word whence : ℕ) → Lawful k c x (lseek_row k c fd word whence)
unfolding lseek_row
lseek_lawful k c x h fd word whence = by_open (opened k c.place fd)
  where
    to : (o : Opened) (offset : Option ℕ) → Lawful k c x (seek_to k c o offset)
    to o None = fails k c x h errno.Einval
    to o (Some offset) = either k c x (nat_lt 2147483647 offset) _ _ (fails k c x h errno.Einval) (plain k c x h _ _ (record { sound = λ s. s; table = refl; slots = refl }))

    by_file : (o : Opened) (content : Option (List ℕ)) → Lawful k c x (seek_file k c o word whence content)
    by_file o None = fails k c x h errno.Ebadf
    by_file o (Some content) = to o (sought (seek_from content o.description whence) word)

    by_target : (o : Opened) (t : Target) → Lawful k c x (seek_target k c o word whence t)
    by_target o (target.File place) = by_file o (flat (slice_get k.tree.files place))
    by_target o target.Console = fails k c x h errno.Einval
    by_target o target.Null = fails k c x h errno.Einval
    by_target o (target.Queue place) = fails k c x h errno.Ebadf
    by_target o (target.Semaphore place) = fails k c x h errno.Ebadf

    by_open : (o : Option Opened) → Lawful k c x (seek_opened k c word whence o)
    by_open None = fails k c x h errno.Ebadf
    by_open (Some o) = by_target o o.description.target

pub dup_lawful : (k : KernelState) (c : Caller) (x : ThreadRow) (h : Calls k c) (fd : ℕ) → Lawful k c x (dup_row k c fd)
unfolding dup_row
dup_lawful k c x h fd = by_place (description_at k.descriptors c.place fd)
  where
    by_descriptor : (place : ℕ) (new : Option ℕ) → Lawful k c x (dup_at k c place new)
    by_descriptor place None = fails k c x h errno.Emfile
    by_descriptor place (Some new) = plain k c x h _ _ (record { sound = λ s. s; table = refl; slots = refl })

    by_place : (place : Option ℕ) → Lawful k c x (dup_of k c place)
    by_place None = fails k c x h errno.Ebadf
    by_place (Some place) = by_descriptor place (free_descriptor k.descriptors c.place)

pub dup2_lawful : (k : KernelState) (c : Caller) (x : ThreadRow) (h : Calls k c) (first second : ℕ) → Lawful k c x (dup2_row k c first second)
unfolding dup2_row
dup2_lawful k c x h first second = by_place (description_at k.descriptors c.place first)
  where
    by_place : (place : Option ℕ) → Lawful k c x (dup2_of k c first second place)
    by_place None = fails k c x h errno.Ebadf
    by_place (Some place) =
        either k c x (nat_le 32 second) _ _ (fails k c x h errno.Ebadf) (either k c x (first == second) _ _ (plain k c x h _ _ (record { sound = λ s. s; table = refl; slots = refl })) (plain k c x h _ _ (keeps_same k _ (let s = closed_keeps k c.place second in record { sched = s.sched; groups = s.groups; numbers = s.numbers }))))
