-- Paths: what their calls tell is words and bytes.
use Rattle.std.proofs.Common.{ℕ, ◌||◌, List, [], Option, Some, None, Ok, Err, refl}
use Rattle.std.specs.Prelude.{not, nat_le, Result}
use Rattle.nx_base.specs.declared.errno.Errno.{Errno}
use Rattle.nx_base.specs.declared.errno.Errno.TheVariants as errno
use Rattle.nx_ksys.specs.declared.node.Node.{Node}
use Rattle.nx_ksys.specs.declared.node.NodeKind.{NodeKind}
use Rattle.nx_ksys.specs.declared.node.NodeKind.TheVariants as node
use Rattle.nx_ksys.specs.State.{KernelState, is_directory, objects}
use Rattle.nx_ksys.specs.Paths.{node_at, parent_of, is_closed, is_in, has_children, nth_name, shown}
use Rattle.nx_ksys.specs.Answers.{Caller, is_negative}
use Rattle.nx_ksys.specs.TreeCalls.{unlink_kind, unlink_node, unlink_path, unlink_row, mkdir_node, mkdir_path, mkdir_row, rmdir_node, rmdir_path, rmdir_row, may_move, is_too_long, is_taken, rename_to, rename_second, rename_node, rename_path, rename_row, resolve, chdir_node, chdir_path, chdir_row, getcwd_row, listed_name, list_name, readdir_node, readdir_path, readdir_row, kind_node, kind_path, kind_row}
use Rattle.std.specs.Prelude.{slice_set, ◌<◌, ◌^◌}
use Rattle.std.proofs.Common.{◌≡◌, ◌∷◌, ◌++◌, arith}
use Rattle.std.specs.Str.{bytes_eq}
use Rattle.nx_base.specs.ByteLists.{AreBytes}
use Rattle.nx_ksys.specs.Paths.{renamed, entries_but}
use Rattle.nx_ksys.specs.TreeCalls.{with_entries, unlinked, made_directory, renamed_entries, with_group, kind_number}
use Rattle.nx_ksys.specs.ByteLaws.{IsGroupOfBytes, IsOfBytes}
use Rattle.nx_ksys.proofs.ByteWalks.{no_bytes, more_bytes, joined_bytes, each_none, each_more, each_joined, each_kept, each_changed, standing_set}
use Rattle.nx_ksys.proofs.PathBytes.{either_is, resolved_bytes, renamed_bytes, shown_bytes, nth_name_bytes}
use Rattle.nx_ksys.proofs.Saying.{with_tree_bytes, with_groups_bytes, Says, either, plain, nothing_read, fails, texts}
use Rattle.nx_ksys.proofs.FileBytes.{swept_bytes}

-- ---- paths

pub entries_kept : (k : KernelState) (path : List ℕ) → IsOfBytes k → IsOfBytes (with_entries k (entries_but path k.tree.entries))
entries_kept k path b = with_tree_bytes k (record k.tree { entries = entries_but path k.tree.entries }) b (each_kept (λ e. AreBytes e.0) (λ e. not (bytes_eq path e.0)) k.tree.entries b.paths) b.contents

pub unlink_says : (k : KernelState) (c : Caller) (b : IsOfBytes k) (text : List ℕ) → AreBytes c.group.directory → AreBytes text → Says (unlink_row k c text)
unfolding unlink_row
unlink_says k c b text d t = by_path (resolve k c text) refl
  where
    by_kind : (path : List ℕ) (n : NodeKind) → Says (unlink_kind k c path n)
    by_kind path node.Directory = fails k c errno.Eisdir b
    by_kind path (node.File place) = plain (unlinked k path place) c 0 (swept_bytes (with_entries k (entries_but path k.tree.entries)) k.opens place (entries_kept k path b)) (omega arith)
    by_kind path node.Console = fails k c errno.Einval b
    by_kind path node.Null = fails k c errno.Einval b
    by_kind path (node.Program place) = fails k c errno.Einval b
    by_kind path (node.Queue place) = fails k c errno.Einval b

    by_node : (path : List ℕ) → AreBytes path → (n : Option Node) → Says (unlink_node k c path n)
    by_node path p None = fails k c errno.Enoent b
    by_node path p (Some n) = by_kind path n.kind

    by_path : (r : Result (List ℕ) Errno) → resolve k c text ≡ r → Says (unlink_path k c r)
    by_path (Err e) q = fails k c e b
    by_path (Ok path) q = by_node path (resolved_bytes k.tree.entries c.group.directory text path d t q) (node_at k.tree.entries path)

pub mkdir_says : (k : KernelState) (c : Caller) (b : IsOfBytes k) (text : List ℕ) → AreBytes c.group.directory → AreBytes text → Says (mkdir_row k c text)
unfolding mkdir_row
mkdir_says k c b text d t = by_path (resolve k c text) refl
  where
    made : (path : List ℕ) → AreBytes path → IsOfBytes (with_entries k (k.tree.entries ++ (path, made_directory) ∷ []))
    made path p = with_tree_bytes k (record k.tree { entries = k.tree.entries ++ (path, made_directory) ∷ [] }) b
        (each_joined (λ e. AreBytes e.0) k.tree.entries ((path, made_directory) ∷ []) b.paths (each_more (λ e. AreBytes e.0) (path, made_directory) [] p (each_none (λ e. AreBytes e.0)))) b.contents

    by_node : (path : List ℕ) → AreBytes path → (n : Option Node) → Says (mkdir_node k c path n)
    by_node path p (Some n) = fails k c errno.Eexist b
    by_node path p None =
        either (is_closed (parent_of path)) _ _ (fails k c errno.Einval b) (either (nat_le k.limits.objects (objects k)) _ _ (fails k c errno.Enospc b) (plain (with_entries k (k.tree.entries ++ (path, made_directory) ∷ [])) c 0 (made path p) (omega arith)))

    by_path : (r : Result (List ℕ) Errno) → resolve k c text ≡ r → Says (mkdir_path k c r)
    by_path (Err e) q = fails k c e b
    by_path (Ok path) q = by_node path (resolved_bytes k.tree.entries c.group.directory text path d t q) (node_at k.tree.entries path)

pub rmdir_says : (k : KernelState) (c : Caller) (b : IsOfBytes k) (text : List ℕ) → AreBytes c.group.directory → AreBytes text → Says (rmdir_row k c text)
unfolding rmdir_row
rmdir_says k c b text d t = by_path (resolve k c text) refl
  where
    by_node : (path : List ℕ) → AreBytes path → (n : Option Node) → Says (rmdir_node k c path n)
    by_node path p None = fails k c errno.Enoent b
    by_node path p (Some n) =
        either (not (is_directory n.kind)) _ _ (fails k c errno.Enotdir b) (either n.fixed _ _ (fails k c errno.Einval b)
        (either (has_children path k.tree.entries) _ _ (fails k c errno.Enotempty b) (plain (with_entries k (entries_but path k.tree.entries)) c 0 (entries_kept k path b) (omega arith))))

    by_path : (r : Result (List ℕ) Errno) → resolve k c text ≡ r → Says (rmdir_path k c r)
    by_path (Err e) q = fails k c e b
    by_path (Ok path) q = by_node path (resolved_bytes k.tree.entries c.group.directory text path d t q) (node_at k.tree.entries path)

pub rename_says : (k : KernelState) (c : Caller) (b : IsOfBytes k) (first second : List ℕ) → AreBytes c.group.directory → AreBytes second → Says (rename_row k c first second)
unfolding rename_row
rename_says k c b first second d t = by_path (resolve k c first)
  where
    moved : (one two : List ℕ) → AreBytes two → IsOfBytes (with_entries k (renamed_entries one two k.tree.entries))
    moved one two p = with_tree_bytes k (record k.tree { entries = renamed_entries one two k.tree.entries }) b
        (each_changed (λ e. AreBytes e.0) (λ e. (renamed one two e.0, e.1)) k.tree.entries (λ e h. renamed_bytes one two e.0 p h) b.paths) b.contents

    to : (one two : List ℕ) → AreBytes two → Says (rename_to k c one two)
    to one two p =
        either (is_taken two k.tree.entries) _ _ (fails k c errno.Eexist b)
        (either (is_closed (parent_of two) || is_in one two || is_too_long one two k.tree.entries) _ _ (fails k c errno.Einval b) (plain (with_entries k (renamed_entries one two k.tree.entries)) c 0 (moved one two p) (omega arith)))

    by_second : (one : List ℕ) (r : Result (List ℕ) Errno) → resolve k c second ≡ r → Says (rename_second k c one r)
    by_second one (Err e) q = fails k c e b
    by_second one (Ok two) q = to one two (resolved_bytes k.tree.entries c.group.directory second two d t q)

    by_node : (one : List ℕ) (n : Option Node) → Says (rename_node k c one second n)
    by_node one None = fails k c errno.Enoent b
    by_node one (Some n) = either (may_move n) _ _ (by_second one (resolve k c second) refl) (fails k c errno.Einval b)

    by_path : (r : Result (List ℕ) Errno) → Says (rename_path k c second r)
    by_path (Err e) = fails k c e b
    by_path (Ok one) = by_node one (node_at k.tree.entries one)

pub chdir_says : (k : KernelState) (c : Caller) (b : IsOfBytes k) (text : List ℕ) → IsGroupOfBytes c.group → AreBytes text → Says (chdir_row k c text)
unfolding chdir_row
chdir_says k c b text g t = by_path (resolve k c text) refl
  where
    moved : (path : List ℕ) → AreBytes path → IsOfBytes (with_group k c.place (record c.group { directory = path }))
    moved path p = with_groups_bytes k (slice_set k.groups c.place (Some (record c.group { directory = path }))) b
        (standing_set IsGroupOfBytes k.groups c.place (record c.group { directory = path }) (let a = g.arguments in let f = g.few in let n = g.names in let v = g.values in record { directory = p; arguments = a; few = f; names = n; values = v }) b.each_group)

    by_node : (path : List ℕ) → AreBytes path → (n : Option Node) → Says (chdir_node k c path n)
    by_node path p None = fails k c errno.Enoent b
    by_node path p (Some n) = either (is_directory n.kind) _ _ (plain (with_group k c.place (record c.group { directory = path })) c 0 (moved path p) (omega arith)) (fails k c errno.Enotdir b)

    by_path : (r : Result (List ℕ) Errno) → resolve k c text ≡ r → Says (chdir_path k c r)
    by_path (Err e) q = fails k c e b
    by_path (Ok path) q = by_node path (resolved_bytes k.tree.entries c.group.directory text path g.directory t q) (node_at k.tree.entries path)

pub getcwd_says : (k : KernelState) (c : Caller) (b : IsOfBytes k) (size : ℕ) → AreBytes c.group.directory → Says (getcwd_row k c size)
unfolding getcwd_row
getcwd_says k c b size d = texts k c size (shown c.group.directory) b (shown_bytes c.group.directory d)

pub readdir_says : (k : KernelState) (c : Caller) (b : IsOfBytes k) (text : List ℕ) (index size : ℕ) → AreBytes c.group.directory → AreBytes text → Says (readdir_row k c text index size)
unfolding readdir_row
readdir_says k c b text index size d t = by_path (resolve k c text) refl
  where
    by_name : (path : List ℕ) (e : Option (List ℕ × Node)) → nth_name path index k.tree.entries ≡ e → Says (list_name k c size e)
    by_name path None q = nothing_read k c b
    by_name path (Some e) q = let h = nth_name_bytes path index k.tree.entries e b.paths q in texts k c size (listed_name e.0 e.1) b
        (either_is AreBytes (is_directory e.1.kind) (e.0 ++ 47 ∷ []) e.0 (joined_bytes e.0 (47 ∷ []) h (more_bytes 47 [] (omega arith) no_bytes)) h)

    by_node : (path : List ℕ) → AreBytes path → (n : Option Node) → Says (readdir_node k c path index size n)
    by_node path p None = fails k c errno.Enoent b
    by_node path p (Some n) =
        either (not (is_directory n.kind)) _ _ (fails k c errno.Enotdir b) (either (is_negative index) _ _ (fails k c errno.Einval b) (by_name path (nth_name path index k.tree.entries) refl))

    by_path : (r : Result (List ℕ) Errno) → resolve k c text ≡ r → Says (readdir_path k c index size r)
    by_path (Err e) q = fails k c e b
    by_path (Ok path) q = by_node path (resolved_bytes k.tree.entries c.group.directory text path d t q) (node_at k.tree.entries path)

few_kinds : (n : NodeKind) → kind_number n < 2 ^ 32
few_kinds (node.File place) = omega arith
few_kinds node.Directory = omega arith
few_kinds node.Console = omega arith
few_kinds node.Null = omega arith
few_kinds (node.Program place) = omega arith
few_kinds (node.Queue place) = omega arith

pub kind_says : (k : KernelState) (c : Caller) (b : IsOfBytes k) (text : List ℕ) → Says (kind_row k c text)
unfolding kind_row
kind_says k c b text = by_path (resolve k c text)
  where
    by_node : (n : Option Node) → Says (kind_node k c n)
    by_node None = fails k c errno.Enoent b
    by_node (Some n) = plain k c (kind_number n.kind) b (few_kinds n.kind)

    by_path : (r : Result (List ℕ) Errno) → Says (kind_path k c r)
    by_path (Err e) = fails k c e b
    by_path (Ok path) = by_node (node_at k.tree.entries path)
