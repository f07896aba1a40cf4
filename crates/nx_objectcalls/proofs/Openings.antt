-- What was opened where there is no room for a description, and where there is.
use Rattle.std.proofs.Common.{◌≡◌, ℕ, ◌+◌, Bool, true, false, List, [], ◌∷◌, ◌++◌, length, refl, ap, ◌∙◌, arith}
use Rattle.std.specs.Prelude.{Option, Some, None, Result, Ok, Err, pos, not, nat_le, nat_lt, ◌||◌, if◌then◌else◌}
use Rattle.std.specs.List.{position_from}
use Rattle.std.specs.Option.{is_none}
use Rattle.std.proofs.lemmas.List.{length-append}
use Rattle.std.proofs.lemmas.Bool.Decides.{nat_tests}
use Rattle.nx_base.specs.declared.errno.Errno.{Errno}
use Rattle.nx_base.specs.declared.errno.Errno.TheVariants.{Enoent, Eexist, Eisdir, Einval, Emfile, Enospc}
use Rattle.nx_ksys.specs.declared.node.Node.{Node}
use Rattle.nx_ksys.specs.declared.node.NodeKind.{NodeKind}
use Rattle.nx_ksys.specs.declared.node.NodeKind.TheVariants as node
use Rattle.nx_ksys.specs.declared.node.Open.{Open}
use Rattle.nx_ksys.specs.declared.node.Target.{Target}
use Rattle.nx_ksys.specs.declared.node.Target.TheVariants as target
use Rattle.nx_ksys.specs.declared.thread.Doing.TheVariants.{Ready}
use Rattle.nx_ksys.specs.State.{KernelState, objects}
use Rattle.nx_ksys.specs.GroupCalls.{nothing_asked}
use Rattle.nx_ksys.specs.Answers.{Caller, Stepped, failed}
use Rattle.nx_ksys.specs.Paths.{resolved, node_at, parent_of, is_closed}
use Rattle.nx_ksys.specs.Descriptors.{has_flag, creates, is_exclusive, truncates, free_descriptor}
use Rattle.nx_ksys.specs.FileCalls.{describe_new, describe, describe_at, described, with_file, with_new_file, emptied, open_row, open_path, open_found, open_kind, create, create_at}
use Rattle.nx_ksys.specs.QueueCalls.{with_new_queue, mq_open_node, open_queue, create_queue_at, are_queue_limits}
use Rattle.nx_ksys.specs.SemaphoreCalls.{with_semaphore}
use Rattle.nx_path.specs.declared.opening.Opening.{Opening}
use Rattle.nx_path.specs.declared.opening.Opening.TheVariants as opening
use Rattle.nx_path.specs.Rows.{opens_as}
use Rattle.nx_ipc.specs.declared.opening.Opening as ipc
use Rattle.nx_ipc.specs.declared.opening.Opening.TheVariants as found
use Rattle.nx_ipc.specs.Rows as queues
use Rattle.nx_ipc.specs.Semaphores as semaphores
use Rattle.nx_objectcalls.specs.Rows.{opened_first}

-- no description comes to a state with these descriptors and descriptions
abbrev pub NoRoom : KernelState → Caller → Type 0
NoRoom k c = (other : KernelState) (to : Target) (flags : ℕ) → other.descriptors ≡ k.descriptors → other.opens ≡ k.opens → describe_new k other c to flags ≡ failed k c Emfile

pub no_file : (k : KernelState) (c : Caller) (flags : ℕ) (what : Opening) → NoRoom k c → opens_as k c flags what ≡ failed k c Emfile
no_file k c flags (opening.Found to) h = h k to flags refl refl
no_file k c flags (opening.Emptied place) h = h (record k { tree = with_file k.tree place [] }) (target.File place) flags refl refl
no_file k c flags (opening.Made path place) h = h (with_new_file k path.items place) (target.File place) flags refl refl

pub no_queue : (k : KernelState) (c : Caller) (path : List ℕ) (flags limit size : ℕ) (what : ipc.Opening) → NoRoom k c → queues.opens_told k c path flags limit size (Ok what) ≡ failed k c Emfile
no_queue k c path flags limit size (found.Found place) h = h k (target.Queue place) flags refl refl
no_queue k c path flags limit size (found.Made place) h = h (with_new_queue k path place limit size) (target.Queue place) flags refl refl

pub no_semaphore : (k : KernelState) (c : Caller) (name : List ℕ) (flags value : ℕ) (what : ipc.Opening) → NoRoom k c → semaphores.opens_semaphore k c name flags value (Ok what) ≡ failed k c Emfile
no_semaphore k c name flags value (found.Found place) h = h k (target.Semaphore place) flags refl refl
no_semaphore k c name flags value (found.Made place) h = h (with_semaphore k place (record { name = name; value = value })) (target.Semaphore place) flags refl refl

-- ---- where the objects are at their limit nothing is made

-- there are as many paths after a call
record SamePaths (k : KernelState) (s : Stepped) : Type 0 where
  same : length s.to.tree.entries ≡ length k.tree.entries

same_by : (k : KernelState) (b : Bool) (s t : Stepped) → SamePaths k s → SamePaths k t → SamePaths k (if b then s else t)
same_by k true s t p q = p
same_by k false s t p q = q

refused : (k : KernelState) (c : Caller) (e : Errno) → SamePaths k (failed k c e)
refused k c e = record { same = refl }

described_same : (k old other : KernelState) (c : Caller) (to : Target) (flags : ℕ) → length old.tree.entries ≡ length k.tree.entries → length other.tree.entries ≡ length k.tree.entries → SamePaths k (describe_new old other c to flags)
described_same k old other c to flags p q = by_fd (free_descriptor other.descriptors c.place)
  where
    o : Open
    o = record { target = to; flags = flags; offset = 0 }

    by_place : (fd : ℕ) (place : Option ℕ) → SamePaths k (describe_at old other c o fd place)
    by_place fd None = record { same = p }
    by_place fd (Some place) = record { same = q }

    by_fd : (fd : Option ℕ) → SamePaths k (describe old other c o fd)
    by_fd None = record { same = p }
    by_fd (Some fd) = by_place fd (position_from is_none 0 other.opens)

full_then : (k : KernelState) (c : Caller) (full : Bool) (s : Stepped) → full ≡ true → SamePaths k (if full then failed k c Enospc else s)
full_then k c true s e = refused k c Enospc
full_then k c false s e = absurd cc

emptied_same : (k : KernelState) (place : ℕ) (b : Bool) → length (if b then record k { tree = with_file k.tree place [] } else k).tree.entries ≡ length k.tree.entries
emptied_same k place true = refl
emptied_same k place false = refl

kind_same : (k : KernelState) (c : Caller) (flags : ℕ) (kind : NodeKind) → SamePaths k (open_kind k c flags kind)
kind_same k c flags node.Directory = refused k c Eisdir
kind_same k c flags (node.File place) = described_same k k (emptied k flags place) c (target.File place) flags refl (emptied_same k place (truncates flags))
kind_same k c flags node.Console = described_same k k k c target.Console flags refl refl
kind_same k c flags node.Null = described_same k k k c target.Null flags refl refl
kind_same k c flags (node.Program place) = refused k c Einval
kind_same k c flags (node.Queue place) = refused k c Einval

full_same : (k : KernelState) (c : Caller) (flags : ℕ) (text : List ℕ) → nat_le k.limits.objects (objects k) ≡ true → SamePaths k (open_row k c text flags)
unfolding open_row
full_same k c flags text full =
    same_by k (nat_lt 127 flags || not (has_flag flags 1 || has_flag flags 2)) (failed k c Einval) (open_path k c flags (resolved k.tree.entries c.group.directory text)) (refused k c Einval) (by_path (resolved k.tree.entries c.group.directory text))
  where
    made : (path : List ℕ) → SamePaths k (create k c flags path)
    made path = same_by k (not (creates flags)) (failed k c Enoent) _ (refused k c Enoent) (same_by k (is_closed (parent_of path)) (failed k c Einval) _ (refused k c Einval)
        (full_then k c (nat_le k.limits.objects (objects k)) (create_at k c flags path (position_from is_none 0 k.tree.files)) full))

    by_node : (path : List ℕ) (n : Option Node) → SamePaths k (open_found k c flags path n)
    by_node path None = made path
    by_node path (Some n) = same_by k (is_exclusive flags) (failed k c Eexist) (open_kind k c flags n.kind) (refused k c Eexist) (kind_same k c flags n.kind)

    by_path : (path : Result (List ℕ) Errno) → SamePaths k (open_path k c flags path)
    by_path (Err e) = refused k c e
    by_path (Ok path) = by_node path (node_at k.tree.entries path)

queue_kind_same : (k : KernelState) (c : Caller) (flags : ℕ) (kind : NodeKind) → SamePaths k (open_queue k c flags kind)
queue_kind_same k c flags (node.Queue place) = described_same k k k c (target.Queue place) flags refl refl
queue_kind_same k c flags node.Directory = refused k c Einval
queue_kind_same k c flags (node.File place) = refused k c Einval
queue_kind_same k c flags node.Console = refused k c Einval
queue_kind_same k c flags node.Null = refused k c Einval
queue_kind_same k c flags (node.Program place) = refused k c Einval

queue_same : (k : KernelState) (c : Caller) (path : List ℕ) (flags limit size : ℕ) (n : Option Node) → (n ≡ None → nat_le k.limits.objects (objects k) ≡ true) → SamePaths k (mq_open_node k c path flags limit size n)
queue_same k c path flags limit size None full =
    same_by k (not (creates flags)) (failed k c Enoent) _ (refused k c Enoent) (same_by k (not (are_queue_limits limit size)) (failed k c Einval) _ (refused k c Einval)
    (full_then k c (nat_le k.limits.objects (objects k)) (create_queue_at k c path flags limit size (position_from is_none 0 k.queues)) (full refl)))
queue_same k c path flags limit size (Some n) full = same_by k (is_exclusive flags) (failed k c Eexist) (open_queue k c flags n.kind) (refused k c Eexist) (queue_kind_same k c flags n.kind)

one_longer : (k : KernelState) (e : List ℕ × Node) (s : Stepped) (t : KernelState) → SamePaths k s → s.to ≡ t → t.tree.entries ≡ k.tree.entries ++ e ∷ [] → ⊥
one_longer k e s t p q r = let l = length-append k.tree.entries (e ∷ []) in let a = ap length (ap (λ (x : KernelState). x.tree.entries) q ∙ r) in omega (arith, p.same, l, a)

pub by_full : (b : Bool) → (b ≡ true → ⊥) → b ≡ false
by_full true h = absurd (h refl)
by_full false h = refl

pub none_left : (n : ℕ) → nat_le 0 n ≡ true
none_left n = grind (arith, nat_tests)

-- where the objects are at their limit no file is made and described
pub no_file_made : (k : KernelState) (c : Caller) (text to : List ℕ) (flags place fd at : ℕ) → nat_le k.limits.objects (objects k) ≡ true
    → open_row k c text flags ≡ described (with_new_file k to place) c (opened_first (target.File place) flags) fd at → ⊥
no_file_made k c text to flags place fd at full row =
    one_longer k (to, record { kind = node.File place; fixed = false }) (open_row k c text flags) _ (full_same k c flags text full) (ap (λ (s : Stepped). s.to) row) refl

-- nor a queue, and none where something stands
pub no_queue_made : (k : KernelState) (c : Caller) (path : List ℕ) (flags limit size place fd at : ℕ) (n : Option Node) → (n ≡ None → nat_le k.limits.objects (objects k) ≡ true)
    → mq_open_node k c path flags limit size n ≡ described (with_new_queue k path place limit size) c (opened_first (target.Queue place) flags) fd at → ⊥
no_queue_made k c path flags limit size place fd at n full row =
    one_longer k (path, record { kind = node.Queue place; fixed = false }) (mq_open_node k c path flags limit size n) _ (queue_same k c path flags limit size n full) (ap (λ (s : Stepped). s.to) row) refl

pub no_node : (n : Option Node) → ((m : Node) → n ≡ Some m → ⊥) → n ≡ None
no_node None h = refl
no_node (Some m) h = absurd (h m refl)

-- a state of no objects, and a caller in it
abbrev pub nothing : KernelState
nothing = record {
  limits = record { programs = []; blocks = 0; objects = 0; console = 0 };
  sched = record { threads = []; moments = 0 };
  time = 0;
  late = [];
  groups = [];
  codes = [];
  values = [];
  descriptors = [];
  opens = [];
  tree = record { entries = []; files = [] };
  queues = [];
  sending = [];
  semaphores = [];
  console = [];
  input = [];
  numbers = 0;
  ended = [];
  calls = 0;
}

-- with so many objects at most that these are all, or not
abbrev pub limited : Bool → ℕ → KernelState
limited full n = record nothing { limits = record { programs = []; blocks = 0; objects = if full then 0 else n + 1; console = 0 } }

pub limit_is : (full : Bool) (n : ℕ) → nat_le (if full then 0 else n + 1) n ≡ full
limit_is true n = none_left n
limit_is false n = grind (arith, nat_tests)

abbrev pub nobody : Caller
nobody = record {
  thread = record { number = 0; group = 0; priority = 0; errno = pos 0; doing = Ready 0; asked = nothing_asked };
  place = 0;
  group = record { number = 0; program = 0; parent = 0; directory = []; arguments = []; environment = [] };
  asked = nothing_asked;
}
