-- What a call is told of the tree, as the state and the replies that it leaves.
use Rattle.std.specs.Prelude.{ℕ, ◌≡◌, ⊤, List, [], ◌∷◌, Option, Some, None, Result, Ok, Err}
use Rattle.arrayvec.specs.ArrayVec.{ArrayVec}
use Rattle.nx_base.specs.declared.errno.Errno.{Errno}
use Rattle.nx_ksys.specs.declared.node.Node.{Node}
use Rattle.nx_ksys.specs.declared.node.Target.TheVariants as target
use Rattle.nx_ksys.specs.State.{KernelState}
use Rattle.nx_ksys.specs.Paths.{node_at}
use Rattle.nx_ksys.specs.Answers.{Stepped, Caller, replied, failed, text_out}
use Rattle.nx_ksys.specs.TreeCalls.{with_group}
use Rattle.nx_ksys.specs.Descriptors.{swept}
use Rattle.nx_ksys.specs.FileCalls.{describe_new, with_file, with_new_file}
use Rattle.nx_path.specs.declared.opening.Opening.{Opening}
use Rattle.nx_path.specs.declared.opening.Opening.TheVariants as opening

-- a path as its bytes
abbrev pub path_told : Result (ArrayVec ℕ) Errno → Result (List ℕ) Errno
path_told (Err e) = Err e
path_told (Ok path) = Ok path.items

-- a caller whose group stands in a directory
abbrev pub in_directory : Caller → List ℕ → Caller
in_directory c directory = record c { group = record c.group { directory = directory } }

-- a value, or why there is none
abbrev pub answered : KernelState → Caller → Result ℕ Errno → Stepped
answered k c (Err e) = failed k c e
answered k c (Ok value) = replied k c value []

abbrev pub done : KernelState → Caller → Result Unit Errno → Stepped
done k c (Err e) = failed k c e
done k c (Ok nothing) = replied k c 0 []

-- the group stands in another directory
abbrev pub stands_in : KernelState → Caller → Result (ArrayVec ℕ) Errno → Stepped
stands_in k c (Err e) = failed k c e
stands_in k c (Ok path) = replied (with_group k c.place (record c.group { directory = path.items })) c 0 []

-- a name, or none where there are no more
abbrev pub name_told : KernelState → Caller → ℕ → Result (Option (ArrayVec ℕ)) Errno → Stepped
name_told k c size (Err e) = failed k c e
name_told k c size (Ok None) = replied k c 0 ([] ∷ [])
name_told k c size (Ok (Some name)) = text_out k c size name.items

-- the name of the file at a place is gone, and it goes if nothing leads to it
abbrev pub name_gone : KernelState → Caller → Result ℕ Errno → Stepped
name_gone k c (Err e) = failed k c e
name_gone k c (Ok place) = replied (record k { tree = swept k.tree k.opens place }) c 0 []

-- what an open finds gets a description
abbrev pub opens_as : KernelState → Caller → ℕ → Opening → Stepped
opens_as k c flags (opening.Found to) = describe_new k k c to flags
opens_as k c flags (opening.Emptied place) = describe_new k (record k { tree = with_file k.tree place [] }) c (target.File place) flags
opens_as k c flags (opening.Made path place) = describe_new k (with_new_file k path.items place) c (target.File place) flags

abbrev pub opens_told : KernelState → Caller → ℕ → Result Opening Errno → Stepped
opens_told k c flags (Err e) = failed k c e
opens_told k c flags (Ok what) = opens_as k c flags what

-- a new file comes to a path where nothing stands
abbrev pub is_absent : List (List ℕ × Node) → Opening → Type 0
is_absent entries (opening.Made path place) = node_at entries path.items ≡ None
is_absent entries other = ⊤
