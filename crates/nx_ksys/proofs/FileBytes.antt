-- Files, descriptors and descriptions: what their calls tell is words and bytes.
use Rattle.std.proofs.Common.{◌≡◌, ℕ, zero, suc, ◌+◌, ◌==◌, ◌&&◌, Bool, true, false, List, [], ◌∷◌, ◌++◌, length, take, min, Option, Some, None, Ok, Err, refl}
use Rattle.std.specs.Prelude.{if◌then◌else◌, not, nat_lt, nat_le, Result, slice_get, ◌-◌}
use Rattle.std.specs.List.{position_from}
use Rattle.std.specs.Option.{is_none}
use Rattle.nx_base.specs.declared.errno.Errno.{Errno}
use Rattle.nx_base.specs.declared.errno.Errno.TheVariants as errno
use Rattle.nx_ksys.specs.declared.node.Node.{Node}
use Rattle.nx_ksys.specs.declared.node.NodeKind.{NodeKind}
use Rattle.nx_ksys.specs.declared.node.NodeKind.TheVariants as node
use Rattle.nx_ksys.specs.declared.node.Open.{Open}
use Rattle.nx_ksys.specs.declared.node.Target.{Target}
use Rattle.nx_ksys.specs.declared.node.Target.TheVariants as target
use Rattle.nx_ksys.specs.Threads.{flat}
use Rattle.nx_ksys.specs.State.{KernelState, free_blocks, objects}
use Rattle.nx_ksys.specs.Paths.{resolved, node_at, parent_of, is_closed}
use Rattle.nx_ksys.specs.Descriptors.{may_read, may_write, creates, is_exclusive, truncates, Opened, opened, description_at, free_descriptor, is_held, swept_target, without_open, released, closed_as, closed, closed_from}
use Rattle.nx_ksys.specs.Answers.{Caller, replied, failed}
use Rattle.nx_ksys.specs.FileCalls.{Written, written_at, write_place, file_written, write_file, write_console, write_target, is_stream, write_some, write_opened, write_row, read_file, read_target, read_opened, read_row, describe_at, describe, describe_new, emptied, open_kind, with_new_file, create_at, create, open_found, open_path, open_row, close_at, close_row, seek_from, sought, seek_to, seek_file, seek_target, seek_opened, lseek_row, dup_at, dup_of, dup_row, dup2_of, dup2_row}
use Rattle.std.specs.Prelude.{slice_set, replicate, ◌*◌, ◌<◌, ◌≤◌, ◌^◌, drop}
use Rattle.std.proofs.Common.{subst, arith}
use Rattle.std.proofs.lemmas.Bool.Decides.{nat_tests}
use Rattle.nx_base.specs.ByteLists.{AreBytes}
use Rattle.nx_base.specs.Replies.{most_moved}
use Rattle.nx_ksys.specs.Descriptors.{per_group, set_descriptor, lives, swept, queue_lives, kept_if}
use Rattle.nx_ksys.specs.FileCalls.{longest_file, reach, with_written, written_some, with_file, with_open, with_second}
use Rattle.nx_ksys.specs.Soundness.{EachStanding}
use Rattle.nx_ksys.specs.ByteLaws.{IsQueueOfBytes, AreOfBytes, IsOfBytes, IsInput}
use Rattle.nx_ksys.proofs.Standing.{place_found, flat_some, within, take_short}
use Rattle.nx_ksys.proofs.ByteWalks.{no_bytes, joined_bytes, first_bytes, later_bytes, zero_bytes, each_none, each_more, each_joined, standing_set, standing_gone}
use Rattle.nx_ksys.proofs.PathBytes.{either_is, resolved_bytes}
use Rattle.nx_ksys.proofs.Saying.{with_tree_bytes, with_input_bytes, with_queues_bytes, one_output, Says, either, says, plain, nothing_read, fails}

-- ---- descriptors

pub swept_bytes : (k : KernelState) (opens : List (Option Open)) (place : ℕ) → IsOfBytes k → AreOfBytes k.limits (swept k.tree opens place) k.groups k.sched.threads k.codes k.input k.queues k.sending
unfolding swept
swept_bytes k opens place b = by_test (lives place k.tree.entries opens)
  where
    by_test : (t : Bool) → AreOfBytes k.limits (if t then k.tree else record k.tree { files = slice_set k.tree.files place None }) k.groups k.sched.threads k.codes k.input k.queues k.sending
    by_test true = b
    by_test false = with_tree_bytes k (record k.tree { files = slice_set k.tree.files place None }) b b.paths (standing_gone AreBytes k.tree.files place b.contents)

kept_standing : {A : Type 0} (P : A → Type 0) (b : Bool) (xs : List (Option A)) (place : ℕ) → EachStanding P xs → EachStanding P (kept_if b xs place)
kept_standing P true xs place h = h
kept_standing P false xs place h = standing_gone P xs place h

pub target_bytes : (k : KernelState) (t : Target) → IsOfBytes k → IsOfBytes (swept_target k t)
target_bytes k (target.File place) b = swept_bytes k k.opens place b
target_bytes k target.Console b = b
target_bytes k target.Null b = b
target_bytes k (target.Queue place) b = with_queues_bytes k (kept_if (queue_lives k place) k.queues place) k.sending b (kept_standing IsQueueOfBytes (queue_lives k place) k.queues place b.each_queue) b.each_sent
target_bytes k (target.Semaphore place) b = b

released_bytes : (k : KernelState) (place : ℕ) → IsOfBytes k → IsOfBytes (released k place)
unfolding released
released_bytes k place b = either_is IsOfBytes (is_held place k.descriptors) k (without_open k place (flat (slice_get k.opens place))) b (by_open (flat (slice_get k.opens place)))
  where
    by_open : (o : Option Open) → IsOfBytes (without_open k place o)
    by_open None = b
    by_open (Some o) = target_bytes (record k { opens = slice_set k.opens place None }) o.target b

pub closed_bytes : (k : KernelState) (place fd : ℕ) → IsOfBytes k → IsOfBytes (closed k place fd)
unfolding closed
closed_bytes k place fd b = by_place (description_at k.descriptors place fd)
  where
    by_place : (d : Option ℕ) → IsOfBytes (closed_as k place fd d)
    by_place None = b
    by_place (Some d) = released_bytes (record k { descriptors = set_descriptor k.descriptors place fd None }) d b

pub all_closed_bytes : (n fd place : ℕ) (k : KernelState) → IsOfBytes k → IsOfBytes (closed_from n fd place k)
all_closed_bytes zero fd place k b = b
all_closed_bytes (suc n) fd place k b = all_closed_bytes n (fd + 1) place (closed k place fd) (closed_bytes k place fd b)

-- ---- write and read

zeros_written : (content : List ℕ) (at : ℕ) (bytes : List ℕ) → AreBytes content → AreBytes bytes → AreBytes (with_written content at bytes)
unfolding with_written
zeros_written content at bytes h g =
    joined_bytes (take at (content ++ replicate (at - length content) 0) ++ bytes) (drop (at + length bytes) content)
    (joined_bytes (take at (content ++ replicate (at - length content) 0)) bytes
    (first_bytes at (content ++ replicate (at - length content) 0) (joined_bytes content (replicate (at - length content) 0) h (zero_bytes (at - length content)))) g)
    (later_bytes (at + length bytes) content h)

written_bytes : (free at : ℕ) (content bytes : List ℕ) (w : Written) → AreBytes content → IsInput bytes → written_at free content at bytes ≡ Ok w → AreBytes w.content × (w.count < 2 ^ 32)
written_bytes free at content bytes w h given e = by_place (nat_le longest_file at) e
  where
    by_count : (t : Bool) → (if t then Err errno.Enospc else Ok (record { content = with_written content at (take (min (length bytes) (reach free (length content) - at)) bytes); count = min (length bytes) (reach free (length content) - at); end = at + min (length bytes) (reach free (length content) - at) })) ≡ Ok w → AreBytes w.content × (w.count < 2 ^ 32)
    by_count true q = absurd cc
    by_count false q =
        let m = min (length bytes) (reach free (length content) - at) in
        let same : (let v : Written = record { content = with_written content at (take m bytes); count = m; end = at + m } in v) ≡ w = cc in
        let l = given.few in
        subst (λ v. AreBytes v.content × (v.count < 2 ^ 32)) same (zeros_written content at (take m bytes) h (first_bytes m bytes given.bytes), omega (arith, l))

    by_place : (t : Bool) → (if t then Err errno.Efbig else written_some content at bytes (min (length bytes) (reach free (length content) - at))) ≡ Ok w → AreBytes w.content × (w.count < 2 ^ 32)
    by_place true q = absurd cc
    by_place false q = by_count (min (length bytes) (reach free (length content) - at) == 0) q

pub write_says : (k : KernelState) (c : Caller) (b : IsOfBytes k) (fd : ℕ) (bytes : List ℕ) → IsInput bytes → Says (write_row k c fd bytes)
unfolding write_row
write_says k c b fd bytes given = by_open (opened k c.place fd)
  where
    file : (o : Opened) (place : ℕ) (r : Result Written Errno) → ((w : Written) → r ≡ Ok w → AreBytes w.content × (w.count < 2 ^ 32)) → Says (file_written k c o place r)
    file o place (Err e) more = fails k c e b
    file o place (Ok w) more =
        let m = more w refl in
        plain (with_open (record k { tree = with_file k.tree place w.content }) o.place (record o.description { offset = w.end })) c w.count
        (with_tree_bytes k (with_file k.tree place w.content) b b.paths (standing_set AreBytes k.tree.files place w.content m.0 b.contents)) m.1

    by_file : (o : Opened) (place : ℕ) (bs : List ℕ) → IsInput bs → (content : Option (List ℕ)) → flat (slice_get k.tree.files place) ≡ content → Says (write_file k c o place bs content)
    by_file o place bs given None e = fails k c errno.Ebadf b
    by_file o place bs given (Some content) e = file o place (written_at (free_blocks k) content (write_place content o.description) bs)
        (λ w q. written_bytes (free_blocks k) (write_place content o.description) content bs w (b.contents place content (flat_some (slice_get k.tree.files place) content e)) given q)

    console : (bs : List ℕ) (n : ℕ) → n < 2 ^ 32 → Says (write_console k c bs n)
    console bs n lt = either (n == 0) _ _ (fails k c errno.Enospc b) (plain (record k { console = k.console ++ take n bs }) c n b lt)

    by_target : (o : Opened) (bs : List ℕ) → IsInput bs → (t : Target) → Says (write_target k c o bs t)
    by_target o bs given (target.File place) = by_file o place bs given (flat (slice_get k.tree.files place)) refl
    by_target o bs given target.Console = console bs (min (length bs) (k.limits.console - length k.console)) (let l = given.few in omega (arith, l))
    by_target o bs given target.Null = plain k c (length bs) b (let l = given.few in omega (arith, l))
    by_target o bs given (target.Queue place) = plain k c (length bs) b (let l = given.few in omega (arith, l))
    by_target o bs given (target.Semaphore place) = plain k c (length bs) b (let l = given.few in omega (arith, l))

    some : (o : Opened) (bs : List ℕ) → IsInput bs → Says (write_some k c o bs)
    some o [] given = plain k c 0 b (omega arith)
    some o (d ∷ bs) given = by_target o (d ∷ bs) given o.description.target

    by_open : (o : Option Opened) → Says (write_opened k c bytes o)
    by_open None = fails k c errno.Ebadf b
    by_open (Some o) = either (is_stream o.description.target && may_write o.description.flags) _ _ (some o bytes given) (fails k c errno.Ebadf b)

pub read_says : (k : KernelState) (c : Caller) (b : IsOfBytes k) (fd size : ℕ) → Says (read_row k c fd size)
unfolding read_row
read_says k c b fd size = by_open (opened k c.place fd)
  where
    short : (bs : List ℕ) → length (take (min size most_moved) bs) < 2 ^ 32
    short bs = let l = take_short (min size most_moved) bs in omega (arith, l)

    by_file : (o : Opened) (place : ℕ) (content : Option (List ℕ)) → flat (slice_get k.tree.files place) ≡ content → Says (read_file k c o (min size most_moved) content)
    by_file o place None e = fails k c errno.Ebadf b
    by_file o place (Some content) e =
        let from = drop o.description.offset content in
        let bytes = take (min size most_moved) from in
        let h = later_bytes o.description.offset content (b.contents place content (flat_some (slice_get k.tree.files place) content e)) in
        says (with_open k o.place (record o.description { offset = o.description.offset + length bytes })) c (length bytes) (bytes ∷ []) b (short from) (one_output bytes (first_bytes (min size most_moved) from h))

    by_target : (o : Opened) (t : Target) → Says (read_target k c o (min size most_moved) t)
    by_target o (target.File place) = by_file o place (flat (slice_get k.tree.files place)) refl
    by_target o target.Console =
        let bytes = take (min size most_moved) k.input in
        let left = drop (min size most_moved) k.input in
        says (record k { input = left }) c (length bytes) (bytes ∷ []) (with_input_bytes k left b (later_bytes (min size most_moved) k.input b.rest)) (short k.input) (one_output bytes (first_bytes (min size most_moved) k.input b.rest))
    by_target o target.Null = nothing_read k c b
    by_target o (target.Queue place) = nothing_read k c b
    by_target o (target.Semaphore place) = nothing_read k c b

    by_open : (o : Option Opened) → Says (read_opened k c (min size most_moved) o)
    by_open None = fails k c errno.Ebadf b
    by_open (Some o) = either (is_stream o.description.target && may_read o.description.flags) _ _ (by_target o o.description.target) (fails k c errno.Ebadf b)

-- ---- open

free_fits : (descriptors : List (Option ℕ)) (place fd : ℕ) → free_descriptor descriptors place ≡ Some fd → fd < 2 ^ 32
unfolding free_descriptor
free_fits descriptors place fd e =
    let all = take per_group (drop (per_group * place) descriptors) in
    let f = place_found is_none all 0 fd e in
    let l = within all f.place f.item f.at in
    let s = take_short per_group (drop (per_group * place) descriptors) in
    let i = f.is in
    omega (arith, l, s, i)

pub describes : (k l : KernelState) (c : Caller) (to : Target) (flags : ℕ) → IsOfBytes k → IsOfBytes l → Says (describe_new k l c to flags)
describes k l c to flags b a = by_descriptor (record { target = to; flags = flags; offset = 0 }) (free_descriptor l.descriptors c.place) refl
  where
    by_place : (o : Open) (fd : ℕ) → fd < 2 ^ 32 → (place : Option ℕ) → Says (describe_at k l c o fd place)
    by_place o fd lt None = fails k c errno.Emfile b
    by_place o fd lt (Some place) = plain (record l { descriptors = set_descriptor l.descriptors c.place fd (Some place); opens = slice_set l.opens place (Some o) }) c fd a lt

    by_descriptor : (o : Open) (fd : Option ℕ) → free_descriptor l.descriptors c.place ≡ fd → Says (describe k l c o fd)
    by_descriptor o None e = fails k c errno.Emfile b
    by_descriptor o (Some fd) e = by_place o fd (free_fits l.descriptors c.place fd e) (position_from is_none 0 l.opens)

pub open_says : (k : KernelState) (c : Caller) (b : IsOfBytes k) (text : List ℕ) (flags : ℕ) → AreBytes c.group.directory → AreBytes text → Says (open_row k c text flags)
unfolding open_row
open_says k c b text flags d t = either _ _ _ (fails k c errno.Einval b) (by_path (resolved k.tree.entries c.group.directory text) refl)
  where
    empty : (place : ℕ) → IsOfBytes (emptied k flags place)
    empty place = either_is IsOfBytes (truncates flags) (record k { tree = with_file k.tree place [] }) k (with_tree_bytes k (with_file k.tree place []) b b.paths (standing_set AreBytes k.tree.files place [] no_bytes b.contents)) b

    new_file : (path : List ℕ) (place : ℕ) → AreBytes path → IsOfBytes (with_new_file k path place)
    new_file path place p =
        with_tree_bytes k (record { entries = k.tree.entries ++ (path, record { kind = node.File place; fixed = false }) ∷ []; files = slice_set k.tree.files place (Some []) }) b
        (each_joined (λ e. AreBytes e.0) k.tree.entries ((path, record { kind = node.File place; fixed = false }) ∷ []) b.paths (each_more (λ e. AreBytes e.0) (path, record { kind = node.File place; fixed = false }) [] p (each_none (λ e. AreBytes e.0))))
        (standing_set AreBytes k.tree.files place [] no_bytes b.contents)

    by_kind : (n : NodeKind) → Says (open_kind k c flags n)
    by_kind node.Directory = fails k c errno.Eisdir b
    by_kind (node.File place) = describes k (emptied k flags place) c (target.File place) flags b (empty place)
    by_kind node.Console = describes k k c target.Console flags b b
    by_kind node.Null = describes k k c target.Null flags b b
    by_kind (node.Program place) = fails k c errno.Einval b
    by_kind (node.Queue place) = fails k c errno.Einval b

    by_place : (path : List ℕ) → AreBytes path → (place : Option ℕ) → Says (create_at k c flags path place)
    by_place path p None = fails k c errno.Enospc b
    by_place path p (Some place) = describes k (with_new_file k path place) c (target.File place) flags b (new_file path place p)

    creates_one : (path : List ℕ) → AreBytes path → Says (create k c flags path)
    creates_one path p =
        either (not (creates flags)) _ _ (fails k c errno.Enoent b) (either (is_closed (parent_of path)) _ _ (fails k c errno.Einval b)
        (either (nat_le k.limits.objects (objects k)) _ _ (fails k c errno.Enospc b) (by_place path p (position_from is_none 0 k.tree.files))))

    by_node : (path : List ℕ) → AreBytes path → (n : Option Node) → Says (open_found k c flags path n)
    by_node path p None = creates_one path p
    by_node path p (Some n) = either (is_exclusive flags) _ _ (fails k c errno.Eexist b) (by_kind n.kind)

    by_path : (r : Result (List ℕ) Errno) → resolved k.tree.entries c.group.directory text ≡ r → Says (open_path k c flags r)
    by_path (Err e) q = fails k c e b
    by_path (Ok path) q = by_node path (resolved_bytes k.tree.entries c.group.directory text path d t q) (node_at k.tree.entries path)

-- ---- close, lseek, dup, dup2

pub close_says : (k : KernelState) (c : Caller) (b : IsOfBytes k) (fd : ℕ) → Says (close_row k c fd)
unfolding close_row
close_says k c b fd = by_place (description_at k.descriptors c.place fd)
  where
    by_place : (place : Option ℕ) → Says (close_at k c fd place)
    by_place None = fails k c errno.Ebadf b
    by_place (Some place) = plain (closed k c.place fd) c 0 (closed_bytes k c.place fd b) (omega arith)

pub lseek_says : (k : KernelState) (c : Caller) (b : IsOfBytes k) (fd word whence : ℕ) → Says (lseek_row k c fd word whence)
unfolding lseek_row
lseek_says k c b fd word whence = by_open (opened k c.place fd)
  where
    to : (o : Opened) (offset : Option ℕ) → Says (seek_to k c o offset)
    to o None = fails k c errno.Einval b
    to o (Some offset) = by_test (nat_lt 2147483647 offset) refl
      where
        short : nat_lt 2147483647 offset ≡ false → offset < 2 ^ 32
        short e = let l : offset ≤ 2147483647 = grind (arith, nat_tests) in omega (arith, l)

        by_test : (t : Bool) → nat_lt 2147483647 offset ≡ t → Says (if t then failed k c errno.Einval else replied (with_open k o.place (record o.description { offset = offset })) c offset [])
        by_test true e = fails k c errno.Einval b
        by_test false e = plain (with_open k o.place (record o.description { offset = offset })) c offset b (short e)

    by_file : (o : Opened) (content : Option (List ℕ)) → Says (seek_file k c o word whence content)
    by_file o None = fails k c errno.Ebadf b
    by_file o (Some content) = to o (sought (seek_from content o.description whence) word)

    by_target : (o : Opened) (t : Target) → Says (seek_target k c o word whence t)
    by_target o (target.File place) = by_file o (flat (slice_get k.tree.files place))
    by_target o target.Console = fails k c errno.Einval b
    by_target o target.Null = fails k c errno.Einval b
    by_target o (target.Queue place) = fails k c errno.Ebadf b
    by_target o (target.Semaphore place) = fails k c errno.Ebadf b

    by_open : (o : Option Opened) → Says (seek_opened k c word whence o)
    by_open None = fails k c errno.Ebadf b
    by_open (Some o) = by_target o o.description.target

pub dup_says : (k : KernelState) (c : Caller) (b : IsOfBytes k) (fd : ℕ) → Says (dup_row k c fd)
unfolding dup_row
dup_says k c b fd = by_place (description_at k.descriptors c.place fd)
  where
    by_descriptor : (place : ℕ) (new : Option ℕ) → free_descriptor k.descriptors c.place ≡ new → Says (dup_at k c place new)
    by_descriptor place None e = fails k c errno.Emfile b
    by_descriptor place (Some new) e = plain (record k { descriptors = set_descriptor k.descriptors c.place new (Some place) }) c new b (free_fits k.descriptors c.place new e)

    by_place : (place : Option ℕ) → Says (dup_of k c place)
    by_place None = fails k c errno.Ebadf b
    by_place (Some place) = by_descriptor place (free_descriptor k.descriptors c.place) refl

pub dup2_says : (k : KernelState) (c : Caller) (b : IsOfBytes k) (first second : ℕ) → Says (dup2_row k c first second)
unfolding dup2_row
dup2_says k c b first second = by_place (description_at k.descriptors c.place first)
  where
    by_place : (place : Option ℕ) → Says (dup2_of k c first second place)
    by_place None = fails k c errno.Ebadf b
    by_place (Some place) = by_second (nat_le per_group second) refl
      where
        short : nat_le per_group second ≡ false → second < 2 ^ 32
        short e = let l : second < per_group = grind (arith, nat_tests) in omega (arith, l)

        by_second : (t : Bool) → nat_le per_group second ≡ t → Says (if t then failed k c errno.Ebadf else if first == second then replied k c second [] else replied (with_second k c place second) c second [])
        by_second true e = fails k c errno.Ebadf b
        by_second false e =
            either (first == second) (replied k c second []) (replied (with_second k c place second) c second []) (plain k c second b (short e)) (plain (with_second k c place second) c second (closed_bytes k c.place second b) (short e))
