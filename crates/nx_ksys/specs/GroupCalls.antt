-- Calls on task groups: nx_spawn, getpid, waitpid, nx_argc, nx_arg, nx_ps.
use Rattle.nx_ksys.specs.Telling.{reply, minus_one}
use Rattle.std.specs.Prelude.{ℕ, ◌+◌, ◌==◌, ◌&&◌, ◌||◌, nat_le, nat_lt, Bool, true, false, not, if◌then◌else◌, List, [], ◌∷◌, ◌++◌, filter, Option, Some, None, Result, Ok, Err, slice_get, slice_set, codes, pos, decimal}
use Rattle.std.specs.List.{find, list_any, count_by}
use Rattle.nx_base.specs.declared.errno.Errno.{Errno}
use Rattle.nx_base.specs.declared.errno.Errno.TheVariants.{Enoent, Echild, Eagain, Einval}
use Rattle.nx_ksys.specs.declared.node.Node.{Node}
use Rattle.nx_ksys.specs.declared.node.NodeKind.{NodeKind}
use Rattle.nx_ksys.specs.declared.node.NodeKind.TheVariants as node
use Rattle.nx_ksys.specs.declared.thread.Wait.{Wait}
use Rattle.nx_ksys.specs.declared.thread.Wait.TheVariants as wait
use Rattle.nx_ksys.specs.declared.thread.Doing.TheVariants.{Ready}
use Rattle.nx_ksys.specs.declared.thread.Thread.{Thread}
use Rattle.nx_ksys.specs.declared.thread.Asked.{Asked}
use Rattle.nx_ksys.specs.Threads.{flat, thread_of, free_slot}
use Rattle.nx_ksys.specs.State.{Group, Code, KernelState}
use Rattle.nx_ksys.specs.Paths.{resolved, node_at, last_part}
use Rattle.nx_ksys.specs.Descriptors.{description_at, set_descriptor}
use Rattle.nx_ksys.specs.Ends.{has_child, has_any_child, is_code, is_any_code}
use Rattle.nx_ksys.specs.Answers.{Begins, Stepped, Caller, replied, failed, waits, text_out, int_out, is_negative}

-- ---- nx_spawn

-- the lines of a text, each ended by a newline
abbrev pub lines_from : List ℕ → List ℕ → List (List ℕ)
lines_from line [] = []
lines_from line (b ∷ bs) = if b == 10 then line ∷ lines_from [] bs else lines_from (line ++ b ∷ []) bs

abbrev pub arguments_of : List ℕ → List (List ℕ)
arguments_of text = lines_from [] text

-- a text that is empty, or ends with a newline
abbrev pub is_ended : List ℕ → Bool
is_ended [] = true
is_ended (b ∷ []) = b == 10
is_ended (b ∷ c ∷ bs) = is_ended (c ∷ bs)

-- priority 0 stands for 100
abbrev pub spawn_priority : ℕ → ℕ
spawn_priority word = if word == 0 then 100 else word

-- at most so many threads get a number in a run
abbrev pub most_numbers : ℕ
most_numbers = 65535

-- a thread that has made no call yet
abbrev pub nothing_asked : Asked
nothing_asked = record { call = None; words = 0 ∷ 0 ∷ 0 ∷ 0 ∷ 0 ∷ 0 ∷ [] }

-- a new thread, ready after all that are
abbrev pub with_new_thread : KernelState → ℕ → ℕ → ℕ → KernelState
with_new_thread k slot group priority =
    let number = k.numbers + 1 in
    let thread : Thread = record {
      number = number;
      group = if group == 0 then number else group;
      priority = priority;
      errno = pos 0;
      doing = Ready k.sched.moments;
      asked = nothing_asked;
    } in
    record k { numbers = number; sched = record { threads = slice_set k.sched.threads slot (Some thread); moments = k.sched.moments + 1 } }

-- the new group has its parent's descriptions of 0, 1 and 2
abbrev pub with_streams : List (Option ℕ) → ℕ → ℕ → List (Option ℕ)
with_streams descriptors from to =
    set_descriptor (set_descriptor (set_descriptor descriptors to 0 (description_at descriptors from 0)) to 1 (description_at descriptors from 1)) to 2 (description_at descriptors from 2)

-- and copies of its directory and environment
abbrev pub with_new_group : KernelState → Caller → ℕ → ℕ → List (List ℕ) → KernelState
with_new_group k c slot program arguments =
    let group : Group = record {
      number = k.numbers;
      program = program;
      parent = c.group.number;
      directory = c.group.directory;
      arguments = arguments;
      environment = c.group.environment;
    } in
    record k { groups = slice_set k.groups slot (Some group); descriptors = with_streams k.descriptors c.place slot }

abbrev pub has_program : ℕ → Option Group → Bool
has_program program None = false
has_program program (Some g) = g.program == program

-- no group of a program lives
abbrev pub is_fresh : KernelState → ℕ → Bool
is_fresh k program = not (list_any (has_program program) k.groups)

abbrev pub spawned : KernelState → Caller → ℕ → ℕ → ℕ → List (List ℕ) → Stepped
spawned k c slot program priority arguments =
    let new = with_new_group (with_new_thread k slot 0 priority) c slot program arguments in
    let number = k.numbers + 1 in
    record {
      to = new;
      effect = Begins (record { thread = number; group = number; program = program; slot = slot; is_thread = false; fresh = is_fresh k program });
      replies = reply c.thread.number number [] ∷ [];
    }

abbrev pub spawn_at : KernelState → Caller → ℕ → ℕ → List (List ℕ) → Option ℕ → Stepped
spawn_at k c program priority arguments None = failed k c Eagain
spawn_at k c program priority arguments (Some slot) =
    if nat_le most_numbers k.numbers then failed k c Eagain else spawned k c slot program priority arguments

abbrev pub spawn_kind : KernelState → Caller → List ℕ → List ℕ → ℕ → NodeKind → Stepped
spawn_kind k c path text priority (node.Program program) = spawn_at k c program priority (last_part [] path ∷ arguments_of text) (free_slot k.sched.threads)
spawn_kind k c path text priority other = failed k c Einval

abbrev pub spawn_node : KernelState → Caller → List ℕ → List ℕ → ℕ → Option Node → Stepped
spawn_node k c path text priority None = failed k c Enoent
spawn_node k c path text priority (Some n) = spawn_kind k c path text priority n.kind

abbrev pub spawn_path : KernelState → Caller → List ℕ → ℕ → Result (List ℕ) Errno → Stepped
spawn_path k c text priority (Err e) = failed k c e
spawn_path k c text priority (Ok path) = spawn_node k c path text priority (node_at k.tree.entries path)

unfoldable pub spawn_row : KernelState → Caller → List ℕ → List ℕ → ℕ → Stepped
spawn_row k c path text word =
    if not (is_ended text) || nat_lt 255 word then failed k c Einval
    else spawn_path k c text (spawn_priority word) (resolved k.tree.entries c.group.directory path)

-- ---- waitpid

abbrev pub without_code : Code → List Code → List Code
without_code code codes = filter (λ other. not (other.child == code.child)) codes

abbrev pub take_code : KernelState → Caller → Code → Stepped
take_code k c code = replied (record k { codes = without_code code k.codes }) c code.child (int_out code.code ∷ [])

abbrev pub wait_for : KernelState → Caller → Wait → ℕ → Stepped
wait_for k c for option = if option == 1 then replied k c 0 ([] ∷ []) else waits k c for None

abbrev pub wait_child : KernelState → Caller → Wait → ℕ → Bool → Option Code → Stepped
wait_child k c for option there (Some code) = take_code k c code
wait_child k c for option there None = if there then wait_for k c for option else failed k c Echild

-- a child of a number, or for -1 any: the one that ended first
unfoldable pub waitpid_row : KernelState → Caller → ℕ → ℕ → Stepped
waitpid_row k c pid option =
    if pid == 0 || (is_negative pid && not (pid == minus_one)) || nat_lt 1 option then failed k c Einval
    else if pid == minus_one then wait_child k c wait.AnyChild option (has_any_child k.groups k.codes c.group.number) (find (is_any_code c.group.number) k.codes)
    else wait_child k c (wait.Child pid) option (has_child k.groups k.codes c.group.number pid) (find (is_code c.group.number pid) k.codes)

-- ---- arguments

abbrev pub arg_out : KernelState → Caller → ℕ → Option (List ℕ) → Stepped
arg_out k c size None = failed k c Einval
arg_out k c size (Some argument) = text_out k c size argument

unfoldable pub arg_row : KernelState → Caller → ℕ → ℕ → Stepped
arg_row k c index size = arg_out k c size (slice_get c.group.arguments index)

-- ---- nx_ps

abbrev pub comes_earlier : ℕ → Option Group → Bool
comes_earlier number None = false
comes_earlier number (Some g) = nat_lt g.number number

abbrev pub is_nth : List (Option Group) → ℕ → Option Group → Bool
is_nth groups index None = false
is_nth groups index (Some g) = count_by (comes_earlier g.number) groups == index

-- the index-th live group, by number
unfoldable pub nth_group : List (Option Group) → ℕ → Option Group
nth_group groups index = flat (find (is_nth groups index) groups)

abbrev pub name_of_program : List (List ℕ) → Option (List ℕ) → List ℕ
name_of_program programs None = codes "nsh"
name_of_program programs (Some name) = name

abbrev pub priority_of : Option Thread → ℕ
priority_of None = 0
priority_of (Some t) = t.priority

-- number, priority of the main thread, and name
abbrev pub status_of : KernelState → Group → List ℕ
status_of k g =
    decimal g.number ++ 32 ∷ decimal (priority_of (thread_of k.sched.threads g.number)) ++ 32 ∷ name_of_program k.limits.programs (slice_get k.limits.programs g.program)

abbrev pub ps_out : KernelState → Caller → ℕ → Option Group → Stepped
ps_out k c size None = replied k c 0 ([] ∷ [])
ps_out k c size (Some g) = text_out k c size (status_of k g)

unfoldable pub ps_row : KernelState → Caller → ℕ → ℕ → Stepped
ps_row k c index size = if is_negative index then failed k c Einval else ps_out k c size (nth_group k.groups index)
