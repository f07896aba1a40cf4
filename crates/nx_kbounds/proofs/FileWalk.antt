-- The changes of which calls on descriptors are made.
use Rattle.std.proofs.Common.{Bool}
use Rattle.std.proofs.Common.{◌≡◌, ℕ, ◌≤◌, ◌==◌, ◌&&◌, true, false, List, [], ◌∷◌, length, take, min, Option, Some, None, Ok, Err, refl, arith, length-append, length-take}
use Rattle.std.specs.Prelude.{not, nat_lt, nat_le, Result, slice_get, ◌-◌}
use Rattle.std.specs.List.{position_from}
use Rattle.std.specs.Option.{is_none}
use Rattle.nx_base.specs.declared.errno.Errno.{Errno}
use Rattle.nx_base.specs.declared.errno.Errno.TheVariants as errno
use Rattle.nx_ksys.specs.declared.node.Node.{Node}
use Rattle.nx_ksys.specs.declared.node.NodeKind.{NodeKind}
use Rattle.nx_ksys.specs.declared.node.NodeKind.TheVariants as node
use Rattle.nx_ksys.specs.declared.node.Target.{Target}
use Rattle.nx_ksys.specs.declared.node.Target.TheVariants as target
use Rattle.nx_ksys.specs.Threads.{flat}
use Rattle.nx_ksys.specs.State.{KernelState, free_blocks, objects}
use Rattle.nx_ksys.specs.Paths.{resolved, node_at, parent_of, is_closed}
use Rattle.nx_ksys.specs.Descriptors.{per_group, may_read, may_write, creates, is_exclusive, truncates, Opened, opened, description_at, free_descriptor, closed, is_held}
use Rattle.nx_ksys.specs.Answers.{Caller}
use Rattle.nx_ksys.specs.FileCalls.{Written, written_at, write_place, file_written, write_file, write_console, write_target, is_stream, write_some, write_opened, write_row, with_file, read_file, read_target, read_opened, read_row, emptied, open_kind, with_new_file, create_at, create, open_found, open_path, open_row, close_at, close_row, seek_from, sought, seek_to, seek_file, seek_target, seek_opened, lseek_row, dup_at, dup_of, dup_row, dup2_of, dup2_row}
use Rattle.nx_kbounds.proofs.Changes.{Same, Shares, Seeks, Writes, Empties, FileBegins, Prints, Reads}
use Rattle.nx_kbounds.proofs.Walking.{Made, quiet, followed, test, test_change, fails, same, closed_change, opened_stands, describes}
use Rattle.nx_kbounds.proofs.ShortTexts.{resolved_short, written_short}
use Rattle.std.proofs.Common.{inl, inr, ◌<◌, ap, ◌∙◌, ⊎_elim}
use Rattle.std.specs.Prelude.{if◌then◌else◌}
use Rattle.std.proofs.lemmas.Bool.Decides.{nat_tests}
use Rattle.nx_ksys.specs.Bounds.{file_place}
use Rattle.nx_ksys.proofs.Standing.{free_place}
use Rattle.nx_kbounds.proofs.Changes.{Leads}
use Rattle.nx_kbounds.proofs.Naming.{named_leads, new_stands, still_one}
use Rattle.nx_kbounds.proofs.Holding.{descriptor_holds, still_holds, free_is_closed, closed_groups, closed_own}

-- what an emptied file leaves
emptied_groups : (k : KernelState) (flags place : ℕ) → (emptied k flags place).groups ≡ k.groups
emptied_groups k flags place = by_test (truncates flags)
  where
    by_test : (b : Bool) → (let l : KernelState = if b then record k { tree = with_file k.tree place [] } else k in l).groups ≡ k.groups
    by_test true = refl
    by_test false = refl

emptied_leads : (k : KernelState) (flags place : ℕ) → Leads k (target.File place) → Leads (emptied k flags place) (target.File place)
emptied_leads k flags place h = by_test (truncates flags)
  where
    by_test : (b : Bool) → Leads (if b then record k { tree = with_file k.tree place [] } else k) (target.File place)
    by_test true = ⊎_elim (λ e. inl (still_one k.tree.files place [] e)) (λ l. inr l) h
    by_test false = h

below : (n : ℕ) → nat_le per_group n ≡ false → n < per_group
below n e = grind (arith, nat_tests)

module _ (k : KernelState) (c : Caller) where
  pub write_made : (fd : ℕ) (bytes : List ℕ) → Made k (write_row k c fd bytes)
  unfolding write_row
  write_made fd bytes = by_open (opened k c.place fd) refl
    where
      file : (o : Opened) → flat (slice_get k.opens o.place) ≡ Some o.description → (place : ℕ) (content bs : List ℕ) → flat (slice_get k.tree.files place) ≡ Some content → (r : Result Written Errno) → written_at (free_blocks k) content (write_place content o.description) bs ≡ r → Made k (file_written k c o place r)
      file o there place content bs e (Err why) f = fails k c why
      file o there place content bs e (Ok w) f =
          quiet k _ (followed k (record k { tree = with_file k.tree place w.content }) _
          (Writes place content w.content e (written_short (free_blocks k) (write_place content o.description) content bs w f))
          (Seeks o.place o.description w.end there))

      by_file : (o : Opened) → flat (slice_get k.opens o.place) ≡ Some o.description → (place : ℕ) (bs : List ℕ) (content : Option (List ℕ)) → flat (slice_get k.tree.files place) ≡ content → Made k (write_file k c o place bs content)
      by_file o there place bs None e = fails k c errno.Ebadf
      by_file o there place bs (Some content) e = file o there place content bs e (written_at (free_blocks k) content (write_place content o.description) bs) refl

      console : (bs : List ℕ) → Made k (write_console k c bs (min (length bs) (k.limits.console - length k.console)))
      console bs = let n = min (length bs) (k.limits.console - length k.console) in
          test k (n == 0) _ _ (λ e. fails k c errno.Enospc) (λ e. quiet k _ (Prints (take n bs) (λ le. let a = length-append k.console (take n bs) in let b = length-take n bs in omega (arith, a, b, le))))

      by_target : (o : Opened) → flat (slice_get k.opens o.place) ≡ Some o.description → (bs : List ℕ) (t : Target) → Made k (write_target k c o bs t)
      by_target o there bs (target.File place) = by_file o there place bs (flat (slice_get k.tree.files place)) refl
      by_target o there bs target.Console = console bs
      by_target o there bs target.Null = same k _ refl
      by_target o there bs (target.Queue place) = same k _ refl
      by_target o there bs (target.Semaphore place) = same k _ refl

      some : (o : Opened) → flat (slice_get k.opens o.place) ≡ Some o.description → (bs : List ℕ) → Made k (write_some k c o bs)
      some o there [] = same k _ refl
      some o there (b ∷ bs) = by_target o there (b ∷ bs) o.description.target

      by_open : (o : Option Opened) → opened k c.place fd ≡ o → Made k (write_opened k c bytes o)
      by_open None e = fails k c errno.Ebadf
      by_open (Some o) e = test k (is_stream o.description.target && may_write o.description.flags) _ _ (λ t. some o (opened_stands k c.place fd o e) bytes) (λ t. fails k c errno.Ebadf)

  pub read_made : (fd size : ℕ) → Made k (read_row k c fd size)
  unfolding read_row
  read_made fd size = by_open _ (opened k c.place fd) refl
    where
      by_file : (o : Opened) → flat (slice_get k.opens o.place) ≡ Some o.description → (room : ℕ) (content : Option (List ℕ)) → Made k (read_file k c o room content)
      by_file o there room None = fails k c errno.Ebadf
      by_file o there room (Some content) = quiet k _ (Seeks o.place o.description _ there)

      by_target : (o : Opened) → flat (slice_get k.opens o.place) ≡ Some o.description → (room : ℕ) (t : Target) → Made k (read_target k c o room t)
      by_target o there room (target.File place) = by_file o there room (flat (slice_get k.tree.files place))
      by_target o there room target.Console = quiet k _ (Reads room)
      by_target o there room target.Null = same k _ refl
      by_target o there room (target.Queue place) = same k _ refl
      by_target o there room (target.Semaphore place) = same k _ refl

      by_open : (room : ℕ) (o : Option Opened) → opened k c.place fd ≡ o → Made k (read_opened k c room o)
      by_open room None e = fails k c errno.Ebadf
      by_open room (Some o) e = test k (is_stream o.description.target && may_read o.description.flags) _ _ (λ t. by_target o (opened_stands k c.place fd o e) room o.description.target) (λ t. fails k c errno.Ebadf)

  pub open_made : flat (slice_get k.groups c.place) ≡ Some c.group → (text : List ℕ) (flags : ℕ) → Made k (open_row k c text flags)
  unfolding open_row
  open_made lives text flags = test k _ _ _ (λ t. fails k c errno.Einval) (λ t. by_path (resolved k.tree.entries c.group.directory text) refl)
    where
      by_kind : (path : List ℕ) (n : Node) → node_at k.tree.entries path ≡ Some n → (kind : NodeKind) → n.kind ≡ kind → Made k (open_kind k c flags kind)
      by_kind path n e node.Directory f = fails k c errno.Eisdir
      by_kind path n e (node.File place) f =
          describes k (emptied k flags place) c (target.File place) flags (ap (λ gs. flat (slice_get gs c.place)) (emptied_groups k flags place) ∙ lives)
          (emptied_leads k flags place (inr (named_leads file_place k.tree.entries path n place e (ap file_place f)))) (test_change k (truncates flags) _ _ (λ t. Empties path n place e f) (λ t. Same))
      by_kind path n e node.Console f = describes k k c target.Console flags lives tt Same
      by_kind path n e node.Null f = describes k k c target.Null flags lives tt Same
      by_kind path n e (node.Program place) f = fails k c errno.Einval
      by_kind path n e (node.Queue place) f = fails k c errno.Einval

      by_place : (path : List ℕ) → length path ≤ 255 → nat_le k.limits.objects (objects k) ≡ false → (place : Option ℕ) → position_from is_none 0 k.tree.files ≡ place → Made k (create_at k c flags path place)
      by_place path le room None e = fails k c errno.Enospc
      by_place path le room (Some place) e = describes k (with_new_file k path place) c (target.File place) flags lives (inl (new_stands k.tree.files place [] (free_place k.tree.files place e))) (FileBegins path place e le room)

      creates_one : (path : List ℕ) → length path ≤ 255 → Made k (create k c flags path)
      creates_one path le =
          test k (not (creates flags)) _ _ (λ t. fails k c errno.Enoent) (λ t. test k (is_closed (parent_of path)) _ _ (λ u. fails k c errno.Einval)
          (λ u. test k (nat_le k.limits.objects (objects k)) _ _ (λ v. fails k c errno.Enospc) (λ v. by_place path le v (position_from is_none 0 k.tree.files) refl)))

      by_node : (path : List ℕ) → length path ≤ 255 → (n : Option Node) → node_at k.tree.entries path ≡ n → Made k (open_found k c flags path n)
      by_node path le None e = creates_one path le
      by_node path le (Some n) e = test k (is_exclusive flags) _ _ (λ t. fails k c errno.Eexist) (λ t. by_kind path n e n.kind refl)

      by_path : (r : Result (List ℕ) Errno) → resolved k.tree.entries c.group.directory text ≡ r → Made k (open_path k c flags r)
      by_path (Err why) e = fails k c why
      by_path (Ok path) e = by_node path (resolved_short k.tree.entries c.group.directory text path e) (node_at k.tree.entries path) refl

  pub close_made : (fd : ℕ) → Made k (close_row k c fd)
  unfolding close_row
  close_made fd = by_place (description_at k.descriptors c.place fd)
    where
      by_place : (place : Option ℕ) → Made k (close_at k c fd place)
      by_place None = fails k c errno.Ebadf
      by_place (Some place) = quiet k _ (closed_change k c.place fd)

  pub lseek_made : (fd word whence : ℕ) → Made k (lseek_row k c fd word whence)
  unfolding lseek_row
  lseek_made fd word whence = by_open (opened k c.place fd) refl
    where
      to : (o : Opened) → flat (slice_get k.opens o.place) ≡ Some o.description → (offset : Option ℕ) → Made k (seek_to k c o offset)
      to o there None = fails k c errno.Einval
      to o there (Some offset) = test k (nat_lt 2147483647 offset) _ _ (λ t. fails k c errno.Einval) (λ t. quiet k _ (Seeks o.place o.description offset there))

      by_file : (o : Opened) → flat (slice_get k.opens o.place) ≡ Some o.description → (content : Option (List ℕ)) → Made k (seek_file k c o word whence content)
      by_file o there None = fails k c errno.Ebadf
      by_file o there (Some content) = to o there (sought (seek_from content o.description whence) word)

      by_target : (o : Opened) → flat (slice_get k.opens o.place) ≡ Some o.description → (t : Target) → Made k (seek_target k c o word whence t)
      by_target o there (target.File place) = by_file o there (flat (slice_get k.tree.files place))
      by_target o there target.Console = fails k c errno.Einval
      by_target o there target.Null = fails k c errno.Einval
      by_target o there (target.Queue place) = fails k c errno.Ebadf
      by_target o there (target.Semaphore place) = fails k c errno.Ebadf

      by_open : (o : Option Opened) → opened k c.place fd ≡ o → Made k (seek_opened k c word whence o)
      by_open None e = fails k c errno.Ebadf
      by_open (Some o) e = by_target o (opened_stands k c.place fd o e) o.description.target

  pub dup_made : flat (slice_get k.groups c.place) ≡ Some c.group → (fd : ℕ) → Made k (dup_row k c fd)
  unfolding dup_row
  dup_made lives fd = by_place (description_at k.descriptors c.place fd) refl
    where
      by_descriptor : (place : ℕ) → is_held place k.descriptors ≡ true → (new : Option ℕ) → free_descriptor k.descriptors c.place ≡ new → Made k (dup_at k c place new)
      by_descriptor place held None e = fails k c errno.Emfile
      by_descriptor place held (Some new) e = let f = free_is_closed k.descriptors c.place new e in quiet k _ (Shares c.place new place held (record { group = c.group; lives = lives; few = f.0; closed = ap flat f.1 }))

      by_place : (place : Option ℕ) → description_at k.descriptors c.place fd ≡ place → Made k (dup_of k c place)
      by_place None e = fails k c errno.Ebadf
      by_place (Some place) e = by_descriptor place (descriptor_holds k.descriptors c.place fd place e) (free_descriptor k.descriptors c.place) refl

  pub dup2_made : flat (slice_get k.groups c.place) ≡ Some c.group → (first second : ℕ) → Made k (dup2_row k c first second)
  unfolding dup2_row
  dup2_made lives first second = by_place (description_at k.descriptors c.place first) refl
    where
      by_place : (place : Option ℕ) → description_at k.descriptors c.place first ≡ place → Made k (dup2_of k c first second place)
      by_place None e = fails k c errno.Ebadf
      by_place (Some place) e =
          test k (nat_le per_group second) _ _ (λ t. fails k c errno.Ebadf) (λ t. test k (first == second) _ _ (λ u. same k _ refl)
          (λ u. quiet k _ (followed k (closed k c.place second) _ (closed_change k c.place second) (Shares c.place second place (still_holds k c.place first second place e u)
          (let few = below second t in record { group = c.group; lives = ap (λ gs. flat (slice_get gs c.place)) (closed_groups k c.place second) ∙ lives; few = few; closed = closed_own k c.place second few })))))
