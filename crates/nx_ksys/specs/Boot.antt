-- The kernel after boot.
use Rattle.std.specs.Prelude.{ℕ, ◌+◌, ◌*◌, true, List, [], ◌∷◌, ◌++◌, length, replicate, Option, Some, None, codes, pos}
use Rattle.nx_ksys.specs.declared.node.Node.{Node}
use Rattle.nx_ksys.specs.declared.node.NodeKind.{NodeKind}
use Rattle.nx_ksys.specs.declared.node.NodeKind.TheVariants as node
use Rattle.nx_ksys.specs.declared.node.Open.{Open}
use Rattle.nx_ksys.specs.declared.node.Target.TheVariants as target
use Rattle.nx_ksys.specs.declared.thread.Doing.TheVariants.{Ready}
use Rattle.nx_ksys.specs.declared.thread.Thread.{Thread}
use Rattle.nx_ksys.specs.State.{Group, Limits, KernelState}
use Rattle.nx_ksys.specs.Descriptors.{per_group}
use Rattle.nx_ksys.specs.GroupCalls.{nothing_asked}

-- a node that was made at boot and stays
abbrev pub fixed : NodeKind → Node
fixed kind = record { kind = kind; fixed = true }

abbrev pub program_nodes : ℕ → List (List ℕ) → List (List ℕ × Node)
program_nodes place [] = []
program_nodes place (name ∷ names) = (codes "/bin/" ++ name, fixed (node.Program place)) ∷ program_nodes (place + 1) names

-- the nodes of boot
abbrev pub first_entries : List (List ℕ) → List (List ℕ × Node)
first_entries programs =
    ([], fixed node.Directory)
    ∷ (codes "/bin", fixed node.Directory)
    ∷ (codes "/dev", fixed node.Directory)
    ∷ (codes "/dev/console", fixed node.Console)
    ∷ (codes "/dev/null", fixed node.Null)
    ∷ (codes "/tmp", fixed node.Directory)
    ∷ (codes "/var", fixed node.Directory)
    ∷ (codes "/var/mqueue", fixed node.Directory)
    ∷ program_nodes 0 programs

-- the shell: group 1, whose program's place is the number of programs
abbrev pub shell : Limits → Group
shell limits = record { number = 1; program = length limits.programs; parent = 0; directory = []; arguments = codes "nsh" ∷ []; environment = [] }

abbrev pub shell_thread : Thread
shell_thread = record { number = 1; group = 1; priority = 100; errno = pos 0; doing = Ready 0; asked = nothing_asked }

-- the description of the console that descriptors 0, 1 and 2 of the shell have
abbrev pub console_open : Open
console_open = record { target = target.Console; flags = 3; offset = 0 }

-- so many places after the first
abbrev pub with_places : {A : Type 0} → List (Option A) → ℕ → List (Option A)
with_places {A = A} front n = front ++ replicate {A = Option A} n None

-- with one slot for the shell and so many others, with console input and a lateness list
unfoldable pub booted : Limits → ℕ → List ℕ → List ℕ → KernelState
booted limits others input late = record {
  limits = limits;
  sched = record { threads = with_places (Some shell_thread ∷ []) others; moments = 1 };
  time = 0;
  late = late;
  groups = with_places (Some (shell limits) ∷ []) others;
  codes = [];
  values = [];
  descriptors = with_places (Some 0 ∷ Some 0 ∷ Some 0 ∷ []) (29 + per_group * others);
  opens = with_places (Some console_open ∷ []) (31 + per_group * others);
  tree = record { entries = first_entries limits.programs; files = with_places [] limits.objects };
  queues = with_places [] limits.objects;
  sending = with_places (None ∷ []) others;
  semaphores = with_places [] limits.objects;
  console = [];
  input = input;
  numbers = 1;
  ended = [];
  calls = 0;
}
