-- Paths: the parts of a text, the path that they make, and what stands there.
use Rattle.std.specs.Prelude.{ℕ, ◌+◌, ◌-◌, ◌==◌, ◌&&◌, ◌||◌, not, nat_le, Bool, true, false, if◌then◌else◌, List, [], ◌∷◌, ◌++◌, length, take, drop, filter, Option, Some, None, Result, Ok, Err, codes}
use Rattle.std.specs.List.{list_all, list_any}
use Rattle.std.specs.Option.{is_some}
use Rattle.std.specs.Map.{lookup}
use Rattle.std.specs.Ordering.{is_lt, nat_cmp}
use Rattle.std.specs.Cmp.Lexicographic.{slice_cmp}
use Rattle.std.specs.Str.{bytes_eq}
use Rattle.nx_base.specs.declared.errno.Errno.{Errno}
use Rattle.nx_base.specs.declared.errno.Errno.TheVariants.{Enoent, Enotdir, Einval}
use Rattle.nx_ksys.specs.declared.node.Node.{Node}
use Rattle.nx_ksys.specs.declared.node.NodeKind.{NodeKind}
use Rattle.nx_ksys.specs.declared.node.NodeKind.TheVariants as node

-- the parts between the slashes of a text: `front` is what stands before the first of them in its part
abbrev pub parts_from : List ℕ → List ℕ → List (List ℕ)
parts_from front [] = front ∷ []
parts_from front (b ∷ bs) = if b == 47 then front ∷ parts_from [] bs else parts_from (front ++ b ∷ []) bs

abbrev pub parts_of : List ℕ → List (List ℕ)
parts_of text = parts_from [] text

abbrev pub but_last : List (List ℕ) → List (List ℕ)
but_last [] = []
but_last (p ∷ []) = []
but_last (p ∷ q ∷ ps) = p ∷ but_last (q ∷ ps)

-- an empty part and `.` drop out, `..` drops the part before it
abbrev pub with_part : List (List ℕ) → List ℕ → List (List ℕ)
with_part kept part =
    if bytes_eq part [] || bytes_eq part (codes ".") then kept
    else if bytes_eq part (codes "..") then but_last kept
    else kept ++ part ∷ []

abbrev pub kept_from : List (List ℕ) → List (List ℕ) → List (List ℕ)
kept_from kept [] = kept
kept_from kept (part ∷ parts) = kept_from (with_part kept part) parts

-- the text of parts, each after a slash; the root is the empty text
abbrev pub path_of : List (List ℕ) → List ℕ
path_of [] = []
path_of (p ∷ ps) = 47 ∷ p ++ path_of ps

abbrev pub is_absolute : List ℕ → Bool
is_absolute [] = false
is_absolute (b ∷ bs) = b == 47

-- a text that doesn't begin with a slash stands in the directory
abbrev pub from_directory : List ℕ → List ℕ → List ℕ
from_directory directory text = if is_absolute text then text else directory ++ 47 ∷ text

abbrev pub kept_parts : List ℕ → List ℕ → List (List ℕ)
kept_parts directory text = kept_from [] (parts_of (from_directory directory text))

-- the path that a text names from a directory: its parts have at most 32 bytes each, and it has at most 255
unfoldable pub normal : List ℕ → List ℕ → Option (List ℕ)
normal directory text =
    let kept = kept_parts directory text in
    if list_all (λ p. nat_le (length p) 32) kept && nat_le (length (path_of kept)) 255 then Some (path_of kept) else None

-- what stands at a path
unfoldable pub node_at : List (List ℕ × Node) → List ℕ → Option Node
node_at entries path = lookup (bytes_eq path) entries

abbrev pub directory_fault : Option NodeKind → Option Errno
directory_fault None = Some Enoent
directory_fault (Some node.Directory) = None
directory_fault (Some other) = Some Enotdir

abbrev pub kind_of : Option Node → Option NodeKind
kind_of None = None
kind_of (Some n) = Some n.kind

abbrev pub or_else : Option Errno → Option Errno → Option Errno
or_else None rest = rest
or_else (Some fault) rest = Some fault

-- from the root on each proper prefix exists and is a directory, or the first that isn't says why not
abbrev pub prefix_from : List (List ℕ × Node) → List ℕ → List ℕ → Option Errno
prefix_from entries front [] = None
prefix_from entries front (b ∷ bs) =
    if b == 47 then or_else (directory_fault (kind_of (node_at entries front))) (prefix_from entries (front ++ b ∷ []) bs)
    else prefix_from entries (front ++ b ∷ []) bs

abbrev pub prefix_fault : List (List ℕ × Node) → List ℕ → Option Errno
prefix_fault entries path = prefix_from entries [] path

abbrev pub unless : Option Errno → List ℕ → Result (List ℕ) Errno
unless None path = Ok path
unless (Some fault) path = Err fault

abbrev pub resolved_at : List (List ℕ × Node) → Option (List ℕ) → Result (List ℕ) Errno
resolved_at entries None = Err Einval
resolved_at entries (Some path) = unless (prefix_fault entries path) path

-- the path that a text names, or why it names none
unfoldable pub resolved : List (List ℕ × Node) → List ℕ → List ℕ → Result (List ℕ) Errno
resolved entries directory text = if bytes_eq text [] then Err Enoent else resolved_at entries (normal directory text)

-- nothing is left, or a slash comes
abbrev pub is_cut : List ℕ → Bool
is_cut [] = true
is_cut (b ∷ bs) = b == 47

-- a path is a directory's, or one below it
abbrev pub is_in : List ℕ → List ℕ → Bool
is_in directory path = bytes_eq (take (length directory) path) directory && is_cut (drop (length directory) path)

abbrev pub last_part : List ℕ → List ℕ → List ℕ
last_part part [] = part
last_part part (b ∷ bs) = if b == 47 then last_part [] bs else last_part (part ++ b ∷ []) bs

-- a path without its last part
abbrev pub parent_of : List ℕ → List ℕ
parent_of path = take (length path - (length (last_part [] path) + 1)) path

-- the name of what stands right in a directory
abbrev pub name_in : List ℕ → Option (List ℕ)
name_in [] = None
name_in (b ∷ name) = if list_any (λ c. c == 47) name then None else Some name

abbrev pub child_name : List ℕ → List ℕ → Option (List ℕ)
child_name directory path = if is_in directory path then name_in (drop (length directory) path) else None

-- the order of names, byte by byte
abbrev pub name_before : List ℕ → List ℕ → Bool
name_before a b = is_lt (slice_cmp nat_cmp a b)

abbrev pub counts_before : List ℕ → Option (List ℕ) → ℕ
counts_before name None = 0
counts_before name (Some other) = if name_before other name then 1 else 0

-- how many names in a directory come before a name
abbrev pub before : List ℕ → List ℕ → List (List ℕ × Node) → ℕ
before directory name [] = 0
before directory name (e ∷ es) = counts_before name (child_name directory e.0) + before directory name es

abbrev pub nth_step : List (List ℕ × Node) → List ℕ → ℕ → Node → Option (List ℕ × Node) → Option (List ℕ) → Option (List ℕ × Node)
nth_step all directory index n rest None = rest
nth_step all directory index n rest (Some name) = if before directory name all == index then Some (name, n) else rest

abbrev pub nth_from : List (List ℕ × Node) → List ℕ → ℕ → List (List ℕ × Node) → Option (List ℕ × Node)
nth_from all directory index [] = None
nth_from all directory index (e ∷ es) = nth_step all directory index e.1 (nth_from all directory index es) (child_name directory e.0)

-- the index-th name in a directory, in byte order, and what it names: the name before which so many come
unfoldable pub nth_name : List ℕ → ℕ → List (List ℕ × Node) → Option (List ℕ × Node)
nth_name directory index entries = nth_from entries directory index entries

-- whether something stands in a directory
abbrev pub has_children : List ℕ → List (List ℕ × Node) → Bool
has_children directory entries = list_any (λ e. is_some (child_name directory e.0)) entries

-- the path after a rename of a directory, or of what stands at a path
abbrev pub renamed : List ℕ → List ℕ → List ℕ → List ℕ
renamed first second path = if is_in first path then second ++ drop (length first) path else path

abbrev pub entries_but : List ℕ → List (List ℕ × Node) → List (List ℕ × Node)
entries_but path entries = filter (λ e. not (bytes_eq path e.0)) entries

-- directories in which programs make and remove nothing
abbrev pub is_closed : List ℕ → Bool
is_closed path = bytes_eq path (codes "/bin") || bytes_eq path (codes "/dev") || bytes_eq path (codes "/var/mqueue")

-- a directory's path as a program sees it
abbrev pub shown : List ℕ → List ℕ
shown [] = 47 ∷ []
shown (b ∷ bs) = b ∷ bs
