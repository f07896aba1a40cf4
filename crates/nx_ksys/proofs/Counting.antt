-- Each call counts one, and the console only grows.
use Rattle.std.proofs.Common.{◌≡◌, ℕ, zero, suc, ◌+◌, ◌==◌, ◌&&◌, Bool, true, false, List, [], ◌∷◌, ◌++◌, length, take, min, Option, Some, None, Ok, Err, refl, sym, ap, ◌∙◌, append-nil}
use Rattle.std.specs.Prelude.{if◌then◌else◌, not, nat_lt, nat_le, Result, slice_get, ◌-◌}
use Rattle.std.specs.List.{position_from}
use Rattle.std.specs.Option.{is_none}
use Rattle.nx_base.specs.declared.errno.Errno.{Errno}
use Rattle.nx_base.specs.declared.errno.Errno.TheVariants as errno
use Rattle.nx_ksys.specs.declared.node.Node.{Node}
use Rattle.nx_ksys.specs.declared.node.NodeKind.{NodeKind}
use Rattle.nx_ksys.specs.declared.node.NodeKind.TheVariants as node
use Rattle.nx_ksys.specs.declared.node.Open.{Open}
use Rattle.nx_ksys.specs.declared.node.Target.{Target}
use Rattle.nx_ksys.specs.declared.node.Target.TheVariants as target
use Rattle.nx_ksys.specs.Threads.{flat}
use Rattle.nx_ksys.specs.State.{KernelState, free_blocks, objects}
use Rattle.nx_ksys.specs.Paths.{resolved, node_at, parent_of, is_closed}
use Rattle.nx_ksys.specs.Descriptors.{may_read, may_write, creates, is_exclusive, truncates, Opened, opened, description_at, free_descriptor, is_held, swept_target, without_open, released, closed_as, closed, closed_from}
use Rattle.nx_ksys.specs.Answers.{Stepped, Caller, replied, failed, text_out}
use Rattle.nx_ksys.specs.FileCalls.{Written, written_at, write_place, file_written, write_file, write_console, write_target, is_stream, write_some, write_opened, write_row, read_file, read_target, read_opened, read_row, describe_at, describe, describe_new, emptied, open_kind, with_new_file, create_at, create, open_found, open_path, open_row, close_at, close_row, seek_from, sought, seek_to, seek_file, seek_target, seek_opened, lseek_row, dup_at, dup_of, dup_row, dup2_of, dup2_row}
use Rattle.nx_ksys.specs.Laws.{Begins}

-- the calls stay, and the console grows
pub record Counts (k : KernelState) (s : Stepped) : Type 0 where
  pub calls : s.to.calls ≡ k.calls
  pub console : Begins k.console s.to.console

-- neither changes
pub record Stays (k l : KernelState) : Type 0 where
  pub calls : l.calls ≡ k.calls
  pub console : l.console ≡ k.console

pub stays_refl : (k : KernelState) → Stays k k
stays_refl k = record { calls = refl; console = refl }

pub stays_on : (k l m : KernelState) → Stays k l → Stays l m → Stays k m
stays_on k l m a b = record { calls = b.calls ∙ a.calls; console = b.console ∙ a.console }

pub counts_same : (k : KernelState) (s : Stepped) → Stays k s.to → Counts k s
counts_same k s a = record { calls = a.calls; console = ([], a.console ∙ sym (append-nil k.console)) }

pub counts_after : (k l : KernelState) (s : Stepped) → Stays k l → Counts l s → Counts k s
counts_after k l s a b = record { calls = b.calls ∙ a.calls; console = (b.console.0, b.console.1 ∙ ap (λ xs. xs ++ b.console.0) a.console) }

pub either : (k : KernelState) (b : Bool) (s t : Stepped) → Counts k s → Counts k t → Counts k (if b then s else t)
either k true s t x y = x
either k false s t x y = y

pub stays_either : (k : KernelState) (b : Bool) (l m : KernelState) → Stays k l → Stays k m → Stays k (if b then l else m)
stays_either k true l m x y = x
stays_either k false l m x y = y

pub fails : (k : KernelState) (c : Caller) (e : Errno) → Counts k (failed k c e)
fails k c e = counts_same k (failed k c e) (record { calls = refl; console = refl })

pub replies : (k l : KernelState) (c : Caller) (value : ℕ) (outputs : List (List ℕ)) → Stays k l → Counts k (replied l c value outputs)
replies k l c value outputs a = counts_same k (replied l c value outputs) a

pub texts : (k : KernelState) (c : Caller) (size : ℕ) (text : List ℕ) → Counts k (text_out k c size text)
texts k c size text = either k (nat_lt (length text) (min size 4096)) _ _ (replies k k c (length text) ((text ++ 0 ∷ []) ∷ []) (stays_refl k)) (fails k c errno.Einval)

-- ---- descriptors

target_stays : (k : KernelState) (t : Target) → Stays k (swept_target k t)
target_stays k (target.File place) = (record { calls = refl; console = refl })
target_stays k target.Console = (record { calls = refl; console = refl })
target_stays k target.Null = (record { calls = refl; console = refl })
target_stays k (target.Queue place) = (record { calls = refl; console = refl })
target_stays k (target.Semaphore place) = (record { calls = refl; console = refl })

pub released_stays : (k : KernelState) (place : ℕ) → Stays k (released k place)
unfolding released
released_stays k place = stays_either k (is_held place k.descriptors) k _ (stays_refl k) (by_open (flat (slice_get k.opens place)))
  where
    by_open : (o : Option Open) → Stays k (without_open k place o)
    by_open None = (record { calls = refl; console = refl })
    by_open (Some o) = stays_on k _ _ (record { calls = refl; console = refl }) (target_stays _ o.target)

pub closed_stays : (k : KernelState) (place fd : ℕ) → Stays k (closed k place fd)
unfolding closed
closed_stays k place fd = by_place (description_at k.descriptors place fd)
  where
    by_place : (d : Option ℕ) → Stays k (closed_as k place fd d)
    by_place None = (record { calls = refl; console = refl })
    by_place (Some d) = stays_on k _ _ (record { calls = refl; console = refl }) (released_stays _ d)

pub all_closed_stays : (n fd place : ℕ) (k : KernelState) → Stays k (closed_from n fd place k)
all_closed_stays zero fd place k = (record { calls = refl; console = refl })
all_closed_stays (suc n) fd place k = stays_on k (closed k place fd) _ (closed_stays k place fd) (all_closed_stays n (fd + 1) place (closed k place fd))

-- ---- write and read

pub write_counts : (k : KernelState) (c : Caller) (fd : ℕ) (bytes : List ℕ) → Counts k (write_row k c fd bytes)
unfolding write_row
write_counts k c fd bytes = by_open (opened k c.place fd)
  where
    file : (o : Opened) (place : ℕ) (r : Result Written Errno) → Counts k (file_written k c o place r)
    file o place (Err e) = fails k c e
    file o place (Ok w) = counts_same k _ (record { calls = refl; console = refl })

    by_file : (o : Opened) (place : ℕ) (bs : List ℕ) (content : Option (List ℕ)) → Counts k (write_file k c o place bs content)
    by_file o place bs None = fails k c errno.Ebadf
    by_file o place bs (Some content) = file o place (written_at (free_blocks k) content (write_place content o.description) bs)

    console : (bs : List ℕ) (n : ℕ) → Counts k (write_console k c bs n)
    console bs n = either k (n == 0) _ _ (fails k c errno.Enospc) (record { calls = refl; console = (take n bs, refl) })

    by_target : (o : Opened) (bs : List ℕ) (t : Target) → Counts k (write_target k c o bs t)
    by_target o bs (target.File place) = by_file o place bs (flat (slice_get k.tree.files place))
    by_target o bs target.Console = console bs (min (length bs) (k.limits.console - length k.console))
    by_target o bs target.Null = counts_same k _ (record { calls = refl; console = refl })
    by_target o bs (target.Queue place) = counts_same k _ (record { calls = refl; console = refl })
    by_target o bs (target.Semaphore place) = counts_same k _ (record { calls = refl; console = refl })

    some : (o : Opened) (bs : List ℕ) → Counts k (write_some k c o bs)
    some o [] = counts_same k _ (record { calls = refl; console = refl })
    some o (b ∷ bs) = by_target o (b ∷ bs) o.description.target

    by_open : (o : Option Opened) → Counts k (write_opened k c bytes o)
    by_open None = fails k c errno.Ebadf
    by_open (Some o) = either k (is_stream o.description.target && may_write o.description.flags) _ _ (some o bytes) (fails k c errno.Ebadf)

pub read_counts : (k : KernelState) (c : Caller) (fd size : ℕ) → Counts k (read_row k c fd size)
unfolding read_row
read_counts k c fd size = by_open _ (opened k c.place fd)
  where
    by_file : (o : Opened) (room : ℕ) (content : Option (List ℕ)) → Counts k (read_file k c o room content)
    by_file o room None = fails k c errno.Ebadf
    by_file o room (Some content) = counts_same k _ (record { calls = refl; console = refl })

    by_target : (o : Opened) (room : ℕ) (t : Target) → Counts k (read_target k c o room t)
    by_target o room (target.File place) = by_file o room (flat (slice_get k.tree.files place))
    by_target o room target.Console = counts_same k _ (record { calls = refl; console = refl })
    by_target o room target.Null = counts_same k _ (record { calls = refl; console = refl })
    by_target o room (target.Queue place) = counts_same k _ (record { calls = refl; console = refl })
    by_target o room (target.Semaphore place) = counts_same k _ (record { calls = refl; console = refl })

    by_open : (room : ℕ) (o : Option Opened) → Counts k (read_opened k c room o)
    by_open room None = fails k c errno.Ebadf
    by_open room (Some o) = either k (is_stream o.description.target && may_read o.description.flags) _ _ (by_target o room o.description.target) (fails k c errno.Ebadf)

-- ---- open

pub describes : (k l : KernelState) (c : Caller) (to : Target) (flags : ℕ) → Stays k l → Counts k (describe_new k l c to flags)
describes k l c to flags a = by_descriptor (record { target = to; flags = flags; offset = 0 }) (free_descriptor l.descriptors c.place)
  where
    by_place : (o : Open) (fd : ℕ) (place : Option ℕ) → Counts k (describe_at k l c o fd place)
    by_place o fd None = fails k c errno.Emfile
    by_place o fd (Some place) = counts_same k _ (record { calls = a.calls; console = a.console })

    by_descriptor : (o : Open) (fd : Option ℕ) → Counts k (describe k l c o fd)
    by_descriptor o None = fails k c errno.Emfile
    by_descriptor o (Some fd) = by_place o fd (position_from is_none 0 l.opens)

pub open_counts : (k : KernelState) (c : Caller) (text : List ℕ) (flags : ℕ) → Counts k (open_row k c text flags)
unfolding open_row
open_counts k c text flags = either k _ _ _ (fails k c errno.Einval) (by_path (resolved k.tree.entries c.group.directory text))
  where
    empty : (place : ℕ) → Stays k (emptied k flags place)
    empty place = stays_either k (truncates flags) _ _ (record { calls = refl; console = refl }) (record { calls = refl; console = refl })

    by_kind : (n : NodeKind) → Counts k (open_kind k c flags n)
    by_kind node.Directory = fails k c errno.Eisdir
    by_kind (node.File place) = describes k (emptied k flags place) c (target.File place) flags (empty place)
    by_kind node.Console = describes k k c target.Console flags (record { calls = refl; console = refl })
    by_kind node.Null = describes k k c target.Null flags (record { calls = refl; console = refl })
    by_kind (node.Program place) = fails k c errno.Einval
    by_kind (node.Queue place) = fails k c errno.Einval

    by_place : (path : List ℕ) (place : Option ℕ) → Counts k (create_at k c flags path place)
    by_place path None = fails k c errno.Enospc
    by_place path (Some place) = describes k (with_new_file k path place) c (target.File place) flags (record { calls = refl; console = refl })

    creates_one : (path : List ℕ) → Counts k (create k c flags path)
    creates_one path =
        either k (not (creates flags)) _ _ (fails k c errno.Enoent) (either k (is_closed (parent_of path)) _ _ (fails k c errno.Einval)
        (either k (nat_le k.limits.objects (objects k)) _ _ (fails k c errno.Enospc) (by_place path (position_from is_none 0 k.tree.files))))

    by_node : (path : List ℕ) (n : Option Node) → Counts k (open_found k c flags path n)
    by_node path None = creates_one path
    by_node path (Some n) = either k (is_exclusive flags) _ _ (fails k c errno.Eexist) (by_kind n.kind)

    by_path : (r : Result (List ℕ) Errno) → Counts k (open_path k c flags r)
    by_path (Err e) = fails k c e
    by_path (Ok path) = by_node path (node_at k.tree.entries path)

-- ---- close, lseek, dup, dup2

pub close_counts : (k : KernelState) (c : Caller) (fd : ℕ) → Counts k (close_row k c fd)
unfolding close_row
close_counts k c fd = by_place (description_at k.descriptors c.place fd)
  where
    by_place : (place : Option ℕ) → Counts k (close_at k c fd place)
    by_place None = fails k c errno.Ebadf
    by_place (Some place) = counts_same k _ (closed_stays k c.place fd)

pub lseek_counts : (k : KernelState) (c : Caller) (fd word whence : ℕ) → Counts k (lseek_row k c fd word whence)
unfolding lseek_row
lseek_counts k c fd word whence = by_open (opened k c.place fd)
  where
    to : (o : Opened) (offset : Option ℕ) → Counts k (seek_to k c o offset)
    to o None = fails k c errno.Einval
    to o (Some offset) = either k (nat_lt 2147483647 offset) _ _ (fails k c errno.Einval) (counts_same k _ (record { calls = refl; console = refl }))

    by_file : (o : Opened) (content : Option (List ℕ)) → Counts k (seek_file k c o word whence content)
    by_file o None = fails k c errno.Ebadf
    by_file o (Some content) = to o (sought (seek_from content o.description whence) word)

    by_target : (o : Opened) (t : Target) → Counts k (seek_target k c o word whence t)
    by_target o (target.File place) = by_file o (flat (slice_get k.tree.files place))
    by_target o target.Console = fails k c errno.Einval
    by_target o target.Null = fails k c errno.Einval
    by_target o (target.Queue place) = fails k c errno.Ebadf
    by_target o (target.Semaphore place) = fails k c errno.Ebadf

    by_open : (o : Option Opened) → Counts k (seek_opened k c word whence o)
    by_open None = fails k c errno.Ebadf
    by_open (Some o) = by_target o o.description.target

pub dup_counts : (k : KernelState) (c : Caller) (fd : ℕ) → Counts k (dup_row k c fd)
unfolding dup_row
dup_counts k c fd = by_place (description_at k.descriptors c.place fd)
  where
    by_descriptor : (place : ℕ) (new : Option ℕ) → Counts k (dup_at k c place new)
    by_descriptor place None = fails k c errno.Emfile
    by_descriptor place (Some new) = counts_same k _ (record { calls = refl; console = refl })

    by_place : (place : Option ℕ) → Counts k (dup_of k c place)
    by_place None = fails k c errno.Ebadf
    by_place (Some place) = by_descriptor place (free_descriptor k.descriptors c.place)

pub dup2_counts : (k : KernelState) (c : Caller) (first second : ℕ) → Counts k (dup2_row k c first second)
unfolding dup2_row
dup2_counts k c first second = by_place (description_at k.descriptors c.place first)
  where
    by_place : (place : Option ℕ) → Counts k (dup2_of k c first second place)
    by_place None = fails k c errno.Ebadf
    by_place (Some place) =
        either k (nat_le 32 second) _ _ (fails k c errno.Ebadf) (either k (first == second) _ _ (counts_same k _ (record { calls = refl; console = refl })) (counts_same k _ (let s = closed_stays k c.place second in record { calls = s.calls; console = s.console })))
