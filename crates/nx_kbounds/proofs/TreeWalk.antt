-- The changes of which calls on paths are made.
use Rattle.std.proofs.Common.{◌≡◌, ℕ, ◌≤◌, ◌||◌, List, length, Option, Some, None, Ok, Err, refl}
use Rattle.std.specs.Prelude.{not, nat_le, Result, slice_get}
use Rattle.nx_base.specs.declared.errno.Errno.{Errno}
use Rattle.nx_base.specs.declared.errno.Errno.TheVariants as errno
use Rattle.nx_ksys.specs.declared.node.Node.{Node}
use Rattle.nx_ksys.specs.declared.node.NodeKind.{NodeKind}
use Rattle.nx_ksys.specs.declared.node.NodeKind.TheVariants as node
use Rattle.nx_ksys.specs.Threads.{flat}
use Rattle.nx_ksys.specs.State.{KernelState, is_directory, objects}
use Rattle.nx_ksys.specs.Paths.{node_at, parent_of, is_closed, is_in, entries_but, has_children, nth_name, shown}
use Rattle.nx_ksys.specs.Answers.{Caller, is_negative}
use Rattle.nx_ksys.specs.TreeCalls.{with_entries, unlink_kind, unlink_node, unlink_path, unlink_row, mkdir_node, mkdir_path, mkdir_row, rmdir_node, rmdir_path, rmdir_row, may_move, is_too_long, is_taken, rename_to, rename_second, rename_node, rename_path, rename_row, resolve, chdir_node, chdir_path, chdir_row, getcwd_row, listed_name, list_name, readdir_node, readdir_path, readdir_row, kind_node, kind_path, kind_row}
use Rattle.nx_kbounds.proofs.Changes.{FileSweeps, PathGoes, DirectoryBegins, Renames, Enters}
use Rattle.nx_kbounds.proofs.Walking.{Made, quiet, followed, test, fails, same, texts}
use Rattle.nx_kbounds.proofs.ShortTexts.{resolved_short, or_false}

module _ (k : KernelState) (c : Caller) where
  pub unlink_made : (text : List ℕ) → Made k (unlink_row k c text)
  unfolding unlink_row
  unlink_made text = by_path (resolve k c text)
    where
      by_kind : (path : List ℕ) (n : NodeKind) → Made k (unlink_kind k c path n)
      by_kind path node.Directory = fails k c errno.Eisdir
      by_kind path (node.File place) = quiet k _ (followed k (with_entries k (entries_but path k.tree.entries)) _ (PathGoes path) (FileSweeps place))
      by_kind path node.Console = fails k c errno.Einval
      by_kind path node.Null = fails k c errno.Einval
      by_kind path (node.Program place) = fails k c errno.Einval
      by_kind path (node.Queue place) = fails k c errno.Einval

      by_node : (path : List ℕ) (n : Option Node) → Made k (unlink_node k c path n)
      by_node path None = fails k c errno.Enoent
      by_node path (Some n) = by_kind path n.kind

      by_path : (r : Result (List ℕ) Errno) → Made k (unlink_path k c r)
      by_path (Err e) = fails k c e
      by_path (Ok path) = by_node path (node_at k.tree.entries path)

  pub mkdir_made : (text : List ℕ) → Made k (mkdir_row k c text)
  unfolding mkdir_row
  mkdir_made text = by_path (resolve k c text) refl
    where
      by_node : (path : List ℕ) → length path ≤ 255 → (n : Option Node) → Made k (mkdir_node k c path n)
      by_node path le (Some n) = fails k c errno.Eexist
      by_node path le None =
          test k (is_closed (parent_of path)) _ _ (λ t. fails k c errno.Einval) (λ t. test k (nat_le k.limits.objects (objects k)) _ _ (λ u. fails k c errno.Enospc) (λ u. quiet k _ (DirectoryBegins path le u)))

      by_path : (r : Result (List ℕ) Errno) → resolve k c text ≡ r → Made k (mkdir_path k c r)
      by_path (Err why) e = fails k c why
      by_path (Ok path) e = by_node path (resolved_short k.tree.entries c.group.directory text path e) (node_at k.tree.entries path)

  pub rmdir_made : (text : List ℕ) → Made k (rmdir_row k c text)
  unfolding rmdir_row
  rmdir_made text = by_path (resolve k c text)
    where
      by_node : (path : List ℕ) (n : Option Node) → Made k (rmdir_node k c path n)
      by_node path None = fails k c errno.Enoent
      by_node path (Some n) =
          test k (not (is_directory n.kind)) _ _ (λ t. fails k c errno.Enotdir) (λ t. test k n.fixed _ _ (λ u. fails k c errno.Einval)
          (λ u. test k (has_children path k.tree.entries) _ _ (λ v. fails k c errno.Enotempty) (λ v. quiet k _ (PathGoes path))))

      by_path : (r : Result (List ℕ) Errno) → Made k (rmdir_path k c r)
      by_path (Err e) = fails k c e
      by_path (Ok path) = by_node path (node_at k.tree.entries path)

  pub rename_made : (first second : List ℕ) → Made k (rename_row k c first second)
  unfolding rename_row
  rename_made first second = by_path (resolve k c first)
    where
      to : (one two : List ℕ) → Made k (rename_to k c one two)
      to one two =
          test k (is_taken two k.tree.entries) _ _ (λ t. fails k c errno.Eexist)
          (λ t. test k (is_closed (parent_of two) || is_in one two || is_too_long one two k.tree.entries) _ _ (λ u. fails k c errno.Einval)
          (λ u. quiet k _ (Renames one two (or_false (is_closed (parent_of two) || is_in one two) (is_too_long one two k.tree.entries) u))))

      by_second : (one : List ℕ) (r : Result (List ℕ) Errno) → Made k (rename_second k c one r)
      by_second one (Err e) = fails k c e
      by_second one (Ok two) = to one two

      by_node : (one : List ℕ) (n : Option Node) → Made k (rename_node k c one second n)
      by_node one None = fails k c errno.Enoent
      by_node one (Some n) = test k (may_move n) _ _ (λ t. by_second one (resolve k c second)) (λ t. fails k c errno.Einval)

      by_path : (r : Result (List ℕ) Errno) → Made k (rename_path k c second r)
      by_path (Err e) = fails k c e
      by_path (Ok one) = by_node one (node_at k.tree.entries one)

  pub chdir_made : flat (slice_get k.groups c.place) ≡ Some c.group → (text : List ℕ) → Made k (chdir_row k c text)
  unfolding chdir_row
  chdir_made there text = by_path (resolve k c text) refl
    where
      by_node : (path : List ℕ) → length path ≤ 255 → (n : Option Node) → Made k (chdir_node k c path n)
      by_node path le None = fails k c errno.Enoent
      by_node path le (Some n) = test k (is_directory n.kind) _ _ (λ t. quiet k _ (Enters c.place c.group path there le)) (λ t. fails k c errno.Enotdir)

      by_path : (r : Result (List ℕ) Errno) → resolve k c text ≡ r → Made k (chdir_path k c r)
      by_path (Err why) e = fails k c why
      by_path (Ok path) e = by_node path (resolved_short k.tree.entries c.group.directory text path e) (node_at k.tree.entries path)

  pub getcwd_made : (size : ℕ) → Made k (getcwd_row k c size)
  unfolding getcwd_row
  getcwd_made size = texts k c size (shown c.group.directory)

  pub readdir_made : (text : List ℕ) (index size : ℕ) → Made k (readdir_row k c text index size)
  unfolding readdir_row
  readdir_made text index size = by_path (resolve k c text)
    where
      by_name : (e : Option (List ℕ × Node)) → Made k (list_name k c size e)
      by_name None = same k _ refl
      by_name (Some e) = texts k c size (listed_name e.0 e.1)

      by_node : (path : List ℕ) (n : Option Node) → Made k (readdir_node k c path index size n)
      by_node path None = fails k c errno.Enoent
      by_node path (Some n) =
          test k (not (is_directory n.kind)) _ _ (λ t. fails k c errno.Enotdir) (λ t. test k (is_negative index) _ _ (λ u. fails k c errno.Einval) (λ u. by_name (nth_name path index k.tree.entries)))

      by_path : (r : Result (List ℕ) Errno) → Made k (readdir_path k c index size r)
      by_path (Err e) = fails k c e
      by_path (Ok path) = by_node path (node_at k.tree.entries path)

  pub kind_made : (text : List ℕ) → Made k (kind_row k c text)
  unfolding kind_row
  kind_made text = by_path (resolve k c text)
    where
      by_node : (n : Option Node) → Made k (kind_node k c n)
      by_node None = fails k c errno.Enoent
      by_node (Some n) = same k _ refl

      by_path : (r : Result (List ℕ) Errno) → Made k (kind_path k c r)
      by_path (Err e) = fails k c e
      by_path (Ok path) = by_node (node_at k.tree.entries path)
