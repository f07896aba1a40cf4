-- Paths: calls on them leave the threads as they are.
use Rattle.std.proofs.Common.{ℕ, ◌||◌, List, [], Option, Some, None, Ok, Err, refl}
use Rattle.std.specs.Prelude.{not, nat_le, Result}
use Rattle.nx_base.specs.declared.errno.Errno.{Errno}
use Rattle.nx_base.specs.declared.errno.Errno.TheVariants as errno
use Rattle.nx_ksys.specs.declared.node.Node.{Node}
use Rattle.nx_ksys.specs.declared.node.NodeKind.{NodeKind}
use Rattle.nx_ksys.specs.declared.node.NodeKind.TheVariants as node
use Rattle.nx_ksys.specs.State.{KernelState, is_directory, objects}
use Rattle.nx_ksys.specs.Paths.{node_at, parent_of, is_closed, is_in, has_children, nth_name, shown}
use Rattle.nx_ksys.specs.Answers.{Caller, is_negative}
use Rattle.nx_ksys.specs.TreeCalls.{unlink_kind, unlink_node, unlink_path, unlink_row, mkdir_node, mkdir_path, mkdir_row, rmdir_node, rmdir_path, rmdir_row, may_move, is_too_long, is_taken, rename_to, rename_second, rename_node, rename_path, rename_row, resolve, chdir_node, chdir_path, chdir_row, getcwd_row, listed_name, list_name, readdir_node, readdir_path, readdir_row, kind_node, kind_path, kind_row}
use Rattle.nx_ksys.specs.ThreadTable.{ThreadRow}
use Rattle.std.specs.Prelude.{slice_set}
use Rattle.std.proofs.Common.{◌∷◌}
use Rattle.nx_ksys.specs.TreeCalls.{with_group}
use Rattle.nx_ksys.proofs.Standing.{length_set}
use Rattle.nx_ksys.proofs.Regrouping.{sound_regrouped, table_regrouped, renewed_were, renewed_are}
use Rattle.nx_ksys.proofs.Waking.{nothing_fits}
use Rattle.nx_ksys.proofs.Owing.{Same, Calls, Lawful, Takes, either, answers, plain, fails, texts}

-- ---- paths

pub unlink_lawful : (k : KernelState) (c : Caller) (x : ThreadRow) (h : Calls k c) (text : List ℕ) → Lawful k c x (unlink_row k c text)
unfolding unlink_row
unlink_lawful k c x h text = by_path (resolve k c text)
  where
    by_kind : (path : List ℕ) (n : NodeKind) → Lawful k c x (unlink_kind k c path n)
    by_kind path node.Directory = fails k c x h errno.Eisdir
    by_kind path (node.File place) = plain k c x h _ _ (record { sound = λ s. s; table = refl; slots = refl })
    by_kind path node.Console = fails k c x h errno.Einval
    by_kind path node.Null = fails k c x h errno.Einval
    by_kind path (node.Program place) = fails k c x h errno.Einval
    by_kind path (node.Queue place) = fails k c x h errno.Einval

    by_node : (path : List ℕ) (n : Option Node) → Lawful k c x (unlink_node k c path n)
    by_node path None = fails k c x h errno.Enoent
    by_node path (Some n) = by_kind path n.kind

    by_path : (r : Result (List ℕ) Errno) → Lawful k c x (unlink_path k c r)
    by_path (Err e) = fails k c x h e
    by_path (Ok path) = by_node path (node_at k.tree.entries path)

pub mkdir_lawful : (k : KernelState) (c : Caller) (x : ThreadRow) (h : Calls k c) (text : List ℕ) → Lawful k c x (mkdir_row k c text)
unfolding mkdir_row
mkdir_lawful k c x h text = by_path (resolve k c text)
  where
    by_node : (path : List ℕ) (n : Option Node) → Lawful k c x (mkdir_node k c path n)
    by_node path (Some n) = fails k c x h errno.Eexist
    by_node path None =
        either k c x (is_closed (parent_of path)) _ _ (fails k c x h errno.Einval) (either k c x (nat_le k.limits.objects (objects k)) _ _ (fails k c x h errno.Enospc) (plain k c x h _ _ (record { sound = λ s. s; table = refl; slots = refl })))

    by_path : (r : Result (List ℕ) Errno) → Lawful k c x (mkdir_path k c r)
    by_path (Err e) = fails k c x h e
    by_path (Ok path) = by_node path (node_at k.tree.entries path)

pub rmdir_lawful : (k : KernelState) (c : Caller) (x : ThreadRow) (h : Calls k c) (text : List ℕ) → Lawful k c x (rmdir_row k c text)
unfolding rmdir_row
rmdir_lawful k c x h text = by_path (resolve k c text)
  where
    by_node : (path : List ℕ) (n : Option Node) → Lawful k c x (rmdir_node k c path n)
    by_node path None = fails k c x h errno.Enoent
    by_node path (Some n) =
        either k c x (not (is_directory n.kind)) _ _ (fails k c x h errno.Enotdir) (either k c x n.fixed _ _ (fails k c x h errno.Einval)
        (either k c x (has_children path k.tree.entries) _ _ (fails k c x h errno.Enotempty) (plain k c x h _ _ (record { sound = λ s. s; table = refl; slots = refl }))))

    by_path : (r : Result (List ℕ) Errno) → Lawful k c x (rmdir_path k c r)
    by_path (Err e) = fails k c x h e
    by_path (Ok path) = by_node path (node_at k.tree.entries path)

pub rename_lawful : (k : KernelState) (c : Caller) (x : ThreadRow) (h : Calls k c) (first second : List ℕ) → Lawful k c x (rename_row k c first second)
unfolding rename_row
rename_lawful k c x h first second = by_path (resolve k c first)
  where
    to : (one two : List ℕ) → Lawful k c x (rename_to k c one two)
    to one two =
        either k c x (is_taken two k.tree.entries) _ _ (fails k c x h errno.Eexist)
        (either k c x (is_closed (parent_of two) || is_in one two || is_too_long one two k.tree.entries) _ _ (fails k c x h errno.Einval) (plain k c x h _ _ (record { sound = λ s. s; table = refl; slots = refl })))

    by_second : (one : List ℕ) (r : Result (List ℕ) Errno) → Lawful k c x (rename_second k c one r)
    by_second one (Err e) = fails k c x h e
    by_second one (Ok two) = to one two

    by_node : (one : List ℕ) (n : Option Node) → Lawful k c x (rename_node k c one second n)
    by_node one None = fails k c x h errno.Enoent
    by_node one (Some n) = either k c x (may_move n) _ _ (by_second one (resolve k c second)) (fails k c x h errno.Einval)

    by_path : (r : Result (List ℕ) Errno) → Lawful k c x (rename_path k c second r)
    by_path (Err e) = fails k c x h e
    by_path (Ok one) = by_node one (node_at k.tree.entries one)

pub chdir_lawful : (k : KernelState) (c : Caller) (x : ThreadRow) (h : Calls k c) (text : List ℕ) → Lawful k c x (chdir_row k c text)
unfolding chdir_row
chdir_lawful k c x h text = by_path (resolve k c text)
  where
    directory : (path : List ℕ) → Same k (with_group k c.place (record c.group { directory = path }))
    directory path =
        let were = renewed_were k.groups c.place c.group (record c.group { directory = path }) h.lives refl refl in
        let are = renewed_are k.groups c.place c.group (record c.group { directory = path }) h.lives refl refl in
        let size = length_set k.groups c.place (Some (record c.group { directory = path })) in
        record {
          sound = λ s. sound_regrouped k.sched.threads k.groups (slice_set k.groups c.place (Some (record c.group { directory = path }))) k.numbers s size were are;
          table = table_regrouped k.sched.threads k.groups (slice_set k.groups c.place (Some (record c.group { directory = path }))) k.numbers h.sound size were are;
          slots = refl;
        }

    by_node : (path : List ℕ) (n : Option Node) → Lawful k c x (chdir_node k c path n)
    by_node path None = fails k c x h errno.Enoent
    by_node path (Some n) = either k c x (is_directory n.kind) _ _ (plain k c x h _ _ (directory path)) (fails k c x h errno.Enotdir)

    by_path : (r : Result (List ℕ) Errno) → Lawful k c x (chdir_path k c r)
    by_path (Err e) = fails k c x h e
    by_path (Ok path) = by_node path (node_at k.tree.entries path)

pub getcwd_lawful : (k : KernelState) (c : Caller) (x : ThreadRow) (h : Calls k c) (size : ℕ) → Takes c.asked size → Lawful k c x (getcwd_row k c size)
unfolding getcwd_row
getcwd_lawful k c x h size takes = texts k c x h size (shown c.group.directory) takes

pub readdir_lawful : (k : KernelState) (c : Caller) (x : ThreadRow) (h : Calls k c) (text : List ℕ) (index size : ℕ) → Takes c.asked size → Lawful k c x (readdir_row k c text index size)
unfolding readdir_row
readdir_lawful k c x h text index size takes = by_path (resolve k c text)
  where
    by_name : (e : Option (List ℕ × Node)) → Lawful k c x (list_name k c size e)
    by_name None = answers k c x h k 0 ([] ∷ []) (record { sound = λ s. s; table = refl; slots = refl }) (nothing_fits c.asked)
    by_name (Some e) = texts k c x h size (listed_name e.0 e.1) takes

    by_node : (path : List ℕ) (n : Option Node) → Lawful k c x (readdir_node k c path index size n)
    by_node path None = fails k c x h errno.Enoent
    by_node path (Some n) =
        either k c x (not (is_directory n.kind)) _ _ (fails k c x h errno.Enotdir) (either k c x (is_negative index) _ _ (fails k c x h errno.Einval) (by_name (nth_name path index k.tree.entries)))

    by_path : (r : Result (List ℕ) Errno) → Lawful k c x (readdir_path k c index size r)
    by_path (Err e) = fails k c x h e
    by_path (Ok path) = by_node path (node_at k.tree.entries path)

pub kind_lawful : (k : KernelState) (c : Caller) (x : ThreadRow) (h : Calls k c) (text : List ℕ) → Lawful k c x (kind_row k c text)
unfolding kind_row
kind_lawful k c x h text = by_path (resolve k c text)
  where
    by_node : (n : Option Node) → Lawful k c x (kind_node k c n)
    by_node None = fails k c x h errno.Enoent
    by_node (Some n) = plain k c x h _ _ (record { sound = λ s. s; table = refl; slots = refl })

    by_path : (r : Result (List ℕ) Errno) → Lawful k c x (kind_path k c r)
    by_path (Err e) = fails k c x h e
    by_path (Ok path) = by_node (node_at k.tree.entries path)
