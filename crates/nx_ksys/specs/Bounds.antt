-- The paths are no more than those of boot and the objects.
use Rattle.std.specs.Prelude.{ℕ, ◌+◌, ◌≤◌, Bool, true, false, List, [], ◌∷◌, length, Option, Some, None, slice_get}
use Rattle.std.specs.Option.{is_some}
use Rattle.nx_base.specs.declared.calls.KCall.{KCall}
use Rattle.nx_ksys.specs.declared.node.Node.{Node}
use Rattle.nx_ksys.specs.declared.node.NodeKind.{NodeKind}
use Rattle.nx_ksys.specs.declared.node.NodeKind.TheVariants as node
use Rattle.nx_ksys.specs.Threads.{flat}
use Rattle.nx_ksys.specs.State.{FileTree, Queue, Limits, KernelState, objects}
use Rattle.nx_ksys.specs.Descriptors.{is_at}
use Rattle.nx_ksys.specs.Step.{step}
use Rattle.nx_ksys.specs.Picking.{picked}
use Rattle.nx_ksys.specs.Boot.{first_entries, booted}

-- the place to which a path of a file leads, and one of a queue
abbrev pub file_place : NodeKind → Option ℕ
file_place (node.File place) = Some place
file_place other = None

abbrev pub queue_place : NodeKind → Option ℕ
queue_place (node.Queue place) = Some place
queue_place other = None

-- what is no object: a directory that was made at boot, a device, a program
abbrev pub is_no_object : Bool → NodeKind → Bool
is_no_object fixed node.Directory = fixed
is_no_object fixed (node.File place) = false
is_no_object fixed (node.Queue place) = false
is_no_object fixed other = true

abbrev pub one_if : Bool → ℕ
one_if true = 1
one_if false = 0

-- how many paths are of no object
abbrev pub lasting : List (List ℕ × Node) → ℕ
lasting [] = 0
lasting (e ∷ es) = one_if (is_no_object e.1.fixed e.1.kind) + lasting es

-- how many paths of a sort lead to a place
abbrev pub leading : (NodeKind → Option ℕ) → ℕ → List (List ℕ × Node) → ℕ
leading sort place [] = 0
leading sort place (e ∷ es) = one_if (is_at place (sort e.1.kind)) + leading sort place es

-- something stands at a place
abbrev pub stands : {A : Type 0} → List (Option A) → ℕ → Bool
stands xs place = is_some (flat (slice_get xs place))

-- so many paths at most are of no object; a path of a file leads to one that lives, and no second path leads there;
-- and so it is with queues
pub record AreBounded (first : ℕ) (tree : FileTree) (queues : List (Option Queue)) : Type 0 where
  pub few : lasting tree.entries ≤ first
  pub file : (place : ℕ) → leading file_place place tree.entries ≤ one_if (stands tree.files place)
  pub queue : (place : ℕ) → leading queue_place place tree.entries ≤ one_if (stands queues place)

abbrev pub IsBounded : ℕ → KernelState → Type 0
IsBounded first k = AreBounded first k.tree k.queues

abbrev pub BootIsBounded : Type 0
BootIsBounded = (limits : Limits) (others : ℕ) (input late : List ℕ) → IsBounded (length (first_entries limits.programs)) (booted limits others input late)

abbrev pub CallsStayBounded : Type 0
CallsStayBounded = (first : ℕ) (k : KernelState) (thread : ℕ) (which : Option KCall) (words : List ℕ) (inputs : List (List ℕ)) → IsBounded first k → IsBounded first (step k thread which words inputs).to

abbrev pub ChoicesStayBounded : Type 0
ChoicesStayBounded = (first : ℕ) (k : KernelState) → IsBounded first k → IsBounded first (picked k).to

-- so there is room for one more wherever the objects are below their limit
abbrev pub PathsAreFew : Type 0
PathsAreFew = (first : ℕ) (k : KernelState) → IsBounded first k → length k.tree.entries ≤ first + objects k
