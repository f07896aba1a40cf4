-- Calls on paths: unlink, mkdir, rmdir, rename, chdir, nx_getcwd, nx_readdir, nx_kind.
use Rattle.std.specs.Prelude.{ℕ, ◌&&◌, ◌||◌, nat_le, Bool, true, false, not, if◌then◌else◌, List, [], ◌∷◌, ◌++◌, length, map, Option, Some, None, Result, Ok, Err, slice_set}
use Rattle.std.specs.List.{list_any}
use Rattle.nx_base.specs.declared.errno.Errno.{Errno}
use Rattle.nx_base.specs.declared.errno.Errno.TheVariants.{Enoent, Eexist, Enotdir, Eisdir, Einval, Enospc, Enotempty}
use Rattle.nx_ksys.specs.declared.node.Node.{Node}
use Rattle.nx_ksys.specs.declared.node.NodeKind.{NodeKind}
use Rattle.nx_ksys.specs.declared.node.NodeKind.TheVariants as node
use Rattle.nx_ksys.specs.State.{Group, KernelState, is_directory, objects}
use Rattle.nx_ksys.specs.Paths.{resolved, node_at, parent_of, is_closed, is_in, renamed, entries_but, has_children, nth_name, shown}
use Rattle.nx_ksys.specs.Descriptors.{swept}
use Rattle.nx_ksys.specs.Answers.{Stepped, Caller, replied, failed, text_out, is_negative}

abbrev pub resolve : KernelState → Caller → List ℕ → Result (List ℕ) Errno
resolve k c text = resolved k.tree.entries c.group.directory text

abbrev pub with_entries : KernelState → List (List ℕ × Node) → KernelState
with_entries k entries = record k { tree = record k.tree { entries = entries } }

-- ---- unlink

-- a path goes, and its file with it where no description leads to it
abbrev pub unlinked : KernelState → List ℕ → ℕ → KernelState
unlinked k path place = let left = with_entries k (entries_but path k.tree.entries) in record left { tree = swept left.tree left.opens place }

abbrev pub unlink_kind : KernelState → Caller → List ℕ → NodeKind → Stepped
unlink_kind k c path node.Directory = failed k c Eisdir
unlink_kind k c path (node.File place) = replied (unlinked k path place) c 0 []
unlink_kind k c path other = failed k c Einval

abbrev pub unlink_node : KernelState → Caller → List ℕ → Option Node → Stepped
unlink_node k c path None = failed k c Enoent
unlink_node k c path (Some n) = unlink_kind k c path n.kind

abbrev pub unlink_path : KernelState → Caller → Result (List ℕ) Errno → Stepped
unlink_path k c (Err e) = failed k c e
unlink_path k c (Ok path) = unlink_node k c path (node_at k.tree.entries path)

unfoldable pub unlink_row : KernelState → Caller → List ℕ → Stepped
unlink_row k c text = unlink_path k c (resolve k c text)

-- ---- mkdir, rmdir

abbrev pub made_directory : Node
made_directory = record { kind = node.Directory; fixed = false }

abbrev pub mkdir_node : KernelState → Caller → List ℕ → Option Node → Stepped
mkdir_node k c path (Some n) = failed k c Eexist
mkdir_node k c path None =
    if is_closed (parent_of path) then failed k c Einval
    else if nat_le k.limits.objects (objects k) then failed k c Enospc
    else replied (with_entries k (k.tree.entries ++ (path, made_directory) ∷ [])) c 0 []

abbrev pub mkdir_path : KernelState → Caller → Result (List ℕ) Errno → Stepped
mkdir_path k c (Err e) = failed k c e
mkdir_path k c (Ok path) = mkdir_node k c path (node_at k.tree.entries path)

unfoldable pub mkdir_row : KernelState → Caller → List ℕ → Stepped
mkdir_row k c text = mkdir_path k c (resolve k c text)

abbrev pub rmdir_node : KernelState → Caller → List ℕ → Option Node → Stepped
rmdir_node k c path None = failed k c Enoent
rmdir_node k c path (Some n) =
    if not (is_directory n.kind) then failed k c Enotdir
    else if n.fixed then failed k c Einval
    else if has_children path k.tree.entries then failed k c Enotempty
    else replied (with_entries k (entries_but path k.tree.entries)) c 0 []

abbrev pub rmdir_path : KernelState → Caller → Result (List ℕ) Errno → Stepped
rmdir_path k c (Err e) = failed k c e
rmdir_path k c (Ok path) = rmdir_node k c path (node_at k.tree.entries path)

unfoldable pub rmdir_row : KernelState → Caller → List ℕ → Stepped
rmdir_row k c text = rmdir_path k c (resolve k c text)

-- ---- rename

-- what programs may rename: files and directories that were made after boot
abbrev pub may_move : Node → Bool
may_move n = not n.fixed && is_moved n.kind
  where
    is_moved : NodeKind → Bool
    is_moved (node.Queue place) = false
    is_moved other = true

abbrev pub is_too_long : List ℕ → List ℕ → List (List ℕ × Node) → Bool
is_too_long first second entries = list_any (λ e. nat_le 256 (length (renamed first second e.0))) entries

-- something stands at a path or below it
abbrev pub is_taken : List ℕ → List (List ℕ × Node) → Bool
is_taken path entries = list_any (λ e. is_in path e.0) entries

abbrev pub renamed_entries : List ℕ → List ℕ → List (List ℕ × Node) → List (List ℕ × Node)
renamed_entries first second entries = map (λ e. (renamed first second e.0, e.1)) entries

abbrev pub rename_to : KernelState → Caller → List ℕ → List ℕ → Stepped
rename_to k c first second =
    if is_taken second k.tree.entries then failed k c Eexist
    else if is_closed (parent_of second) || is_in first second || is_too_long first second k.tree.entries then failed k c Einval
    else replied (with_entries k (renamed_entries first second k.tree.entries)) c 0 []

abbrev pub rename_second : KernelState → Caller → List ℕ → Result (List ℕ) Errno → Stepped
rename_second k c first (Err e) = failed k c e
rename_second k c first (Ok second) = rename_to k c first second

abbrev pub rename_node : KernelState → Caller → List ℕ → List ℕ → Option Node → Stepped
rename_node k c first text None = failed k c Enoent
rename_node k c first text (Some n) = if may_move n then rename_second k c first (resolve k c text) else failed k c Einval

abbrev pub rename_path : KernelState → Caller → List ℕ → Result (List ℕ) Errno → Stepped
rename_path k c text (Err e) = failed k c e
rename_path k c text (Ok first) = rename_node k c first text (node_at k.tree.entries first)

unfoldable pub rename_row : KernelState → Caller → List ℕ → List ℕ → Stepped
rename_row k c first second = rename_path k c second (resolve k c first)

-- ---- chdir, nx_getcwd

abbrev pub with_group : KernelState → ℕ → Group → KernelState
with_group k place g = record k { groups = slice_set k.groups place (Some g) }

abbrev pub chdir_node : KernelState → Caller → List ℕ → Option Node → Stepped
chdir_node k c path None = failed k c Enoent
chdir_node k c path (Some n) = if is_directory n.kind then replied (with_group k c.place (record c.group { directory = path })) c 0 [] else failed k c Enotdir

abbrev pub chdir_path : KernelState → Caller → Result (List ℕ) Errno → Stepped
chdir_path k c (Err e) = failed k c e
chdir_path k c (Ok path) = chdir_node k c path (node_at k.tree.entries path)

unfoldable pub chdir_row : KernelState → Caller → List ℕ → Stepped
chdir_row k c text = chdir_path k c (resolve k c text)

unfoldable pub getcwd_row : KernelState → Caller → ℕ → Stepped
getcwd_row k c size = text_out k c size (shown c.group.directory)

-- ---- nx_readdir, nx_kind

-- a directory's name has a slash after it
abbrev pub listed_name : List ℕ → Node → List ℕ
listed_name name n = if is_directory n.kind then name ++ 47 ∷ [] else name

abbrev pub list_name : KernelState → Caller → ℕ → Option (List ℕ × Node) → Stepped
list_name k c size None = replied k c 0 ([] ∷ [])
list_name k c size (Some e) = text_out k c size (listed_name e.0 e.1)

abbrev pub readdir_node : KernelState → Caller → List ℕ → ℕ → ℕ → Option Node → Stepped
readdir_node k c path index size None = failed k c Enoent
readdir_node k c path index size (Some n) =
    if not (is_directory n.kind) then failed k c Enotdir
    else if is_negative index then failed k c Einval
    else list_name k c size (nth_name path index k.tree.entries)

abbrev pub readdir_path : KernelState → Caller → ℕ → ℕ → Result (List ℕ) Errno → Stepped
readdir_path k c index size (Err e) = failed k c e
readdir_path k c index size (Ok path) = readdir_node k c path index size (node_at k.tree.entries path)

unfoldable pub readdir_row : KernelState → Caller → List ℕ → ℕ → ℕ → Stepped
readdir_row k c text index size = readdir_path k c index size (resolve k c text)

abbrev pub kind_number : NodeKind → ℕ
kind_number (node.File place) = 1
kind_number node.Directory = 2
kind_number node.Console = 3
kind_number node.Null = 3
kind_number (node.Program place) = 4
kind_number (node.Queue place) = 5

abbrev pub kind_node : KernelState → Caller → Option Node → Stepped
kind_node k c None = failed k c Enoent
kind_node k c (Some n) = replied k c (kind_number n.kind) []

abbrev pub kind_path : KernelState → Caller → Result (List ℕ) Errno → Stepped
kind_path k c (Err e) = failed k c e
kind_path k c (Ok path) = kind_node k c (node_at k.tree.entries path)

unfoldable pub kind_row : KernelState → Caller → List ℕ → Stepped
kind_row k c text = kind_path k c (resolve k c text)
