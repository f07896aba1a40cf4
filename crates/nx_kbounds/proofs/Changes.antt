-- The changes of which each call and each choice is made, and how many moments they may take.
use Rattle.std.specs.Prelude.{◌⊎◌, ◌*◌}
use Rattle.std.specs.Prelude.{◌≡◌, ℕ, ◌+◌, ◌^◌, ◌<◌, ◌≤◌, ◌==◌, nat_le, true, false, not, List, [], ◌∷◌, ◌++◌, length, map, filter, drop, Option, Some, None, slice_get, slice_set}
use Rattle.std.specs.List.{position_from}
use Rattle.std.specs.Option.{is_none}
use Rattle.nx_base.specs.declared.errno.Errno.{Errno}
use Rattle.nx_ksys.specs.declared.node.Node.{Node}
use Rattle.nx_ksys.specs.declared.node.NodeKind.TheVariants as node
use Rattle.nx_ksys.specs.declared.node.Open.{Open}
use Rattle.nx_ksys.specs.declared.node.Target.{Target}
use Rattle.nx_ksys.specs.declared.node.Target.TheVariants as target
use Rattle.nx_ksys.specs.declared.thread.Asked.{Asked}
use Rattle.nx_ksys.specs.declared.thread.Thread.{Thread}
use Rattle.nx_ksys.specs.declared.thread.Wait.{Wait}
use Rattle.nx_ksys.specs.Threads.{flat, is_ready, deadline_of, free_slot, wake, block}
use Rattle.nx_ksys.specs.State.{Message, Queue, Semaphore, Group, Code, ThreadValue, Ending, KernelState, objects}
use Rattle.nx_ksys.specs.Paths.{node_at, entries_but}
use Rattle.nx_ksys.specs.Descriptors.{per_group, is_held, set_descriptor, swept, queue_lives, semaphore_lives, kept_if, without_idle}
use Rattle.nx_ksys.specs.Answers.{Caller, with_threads, with_errno}
use Rattle.nx_ksys.specs.FileCalls.{with_file, with_open, with_new_file}
use Rattle.nx_ksys.specs.TreeCalls.{with_entries, with_group, is_too_long, renamed_entries, made_directory}
use Rattle.nx_ksys.specs.Ends.{without_group, kept_messages, left_alone, recorded, gone}
use Rattle.nx_ksys.specs.GroupCalls.{most_numbers, with_new_thread, with_new_group, without_code}
use Rattle.nx_ksys.specs.ThreadCalls.{prioritised, yielded}
use Rattle.nx_ksys.specs.QueueCalls.{with_queue, with_new_queue, with_sent}
use Rattle.nx_ksys.specs.SemaphoreCalls.{with_semaphore}
use Rattle.nx_ksys.specs.Picking.{next_late}
use Rattle.nx_ksys.specs.Soundness.{Stands, EachStanding}
use Rattle.nx_ksys.specs.Bounds.{file_place, queue_place, leading, stands}
use Rattle.nx_kbounds.specs.Leading.{WaitStands}
use Rattle.nx_kbounds.specs.Shortness.{longest_path, AreShortArguments, AreShortVariables, IsShortMessage, IsShortQueue, IsShortSemaphore, IsShortFile}

-- no two threads have one number
abbrev pub AreNumbered : List (Option Thread) → Type 0
AreNumbered ts = (s r : ℕ) (t u : Thread) → Stands ts s t → Stands ts r u → t.number ≡ u.number → s ≡ r

-- a deadline is less than 2^31 ticks away
abbrev pub IsNear : ℕ → Option ℕ → Type 0
IsNear time deadline = (d : ℕ) → deadline ≡ Some d → d < time + 2 ^ 31

abbrev pub with_codes : KernelState → List Code → KernelState
with_codes k codes = record k { codes = codes }

abbrev pub with_kept : KernelState → List ThreadValue → KernelState
with_kept k values = record k { values = values }

abbrev pub with_opens : KernelState → List (Option Open) → KernelState
with_opens k opens = record k { opens = opens }

abbrev pub with_descriptors : KernelState → List (Option ℕ) → KernelState
with_descriptors k descriptors = record k { descriptors = descriptors }

-- what a description leads to stands, or a path names it
abbrev pub Leads : KernelState → Target → Type 0
Leads k (target.File place) = (stands k.tree.files place ≡ true) ⊎ (1 ≤ leading file_place place k.tree.entries)
Leads k (target.Queue place) = (stands k.queues place ≡ true) ⊎ (1 ≤ leading queue_place place k.tree.entries)
Leads k (target.Semaphore place) = stands k.semaphores place ≡ true
Leads k other = Unit {0}

-- no descriptor of the group at a place is open
abbrev pub AreClosed : ℕ → List (Option ℕ) → Type 0
AreClosed place descriptors = (fd : ℕ) → fd < per_group → flat (slice_get descriptors (per_group * place + fd)) ≡ None

-- a descriptor of a live group that is closed
pub record IsFree (k : KernelState) (place fd : ℕ) : Type 0 where
  pub group : Group
  pub lives : flat (slice_get k.groups place) ≡ Some group
  pub few : fd < per_group
  pub closed : flat (slice_get k.descriptors (per_group * place + fd)) ≡ None

-- what a wait takes is one more that waits and one moment more; what else takes a moment takes one
pub data Change : ℕ → KernelState → KernelState → Type 0 where
  Same : {k : KernelState} → Change 0 k k
  Then : {a b : ℕ} {k l m : KernelState} → Change a k l → Change b l m → Change (a + b) k m
  Fails : {k : KernelState} (thread : ℕ) (e : Errno) → Change 0 k (with_errno k thread e)
  Wakes : {k : KernelState} (t : Thread) (slot : ℕ) → Stands k.sched.threads slot t → is_ready t.doing ≡ false → Change 0 k (record k { sched = wake k.sched t.number })
  Waits : {k : KernelState} (thread : ℕ) (asked : Asked) (for : Wait) (deadline : Option ℕ) → AreNumbered k.sched.threads → IsNear k.time deadline → WaitStands k.queues k.semaphores (Some for) → Change 2 k (record k { sched = block k.sched thread asked for deadline })
  Prioritises : {k : KernelState} (thread priority : ℕ) → Change 1 k (record k { sched = prioritised k.sched thread priority })
  Yields : {k : KernelState} (thread : ℕ) → Change 1 k (record k { sched = yielded k.sched thread })
  ThreadBegins : {k : KernelState} (slot group priority : ℕ) → free_slot k.sched.threads ≡ Some slot → nat_le most_numbers k.numbers ≡ false → Change 1 k (with_new_thread k slot group priority)
  GroupBegins : {k : KernelState} (c : Caller) (slot program priority : ℕ) (arguments : List (List ℕ)) → free_slot k.sched.threads ≡ Some slot → nat_le most_numbers k.numbers ≡ false
      → flat (slice_get k.groups c.place) ≡ Some c.group → AreShortArguments arguments → slice_get k.groups slot ≡ Some None → Change 1 k (with_new_group (with_new_thread k slot 0 priority) c slot program arguments)
  ThreadGoes : {k : KernelState} (t : Thread) (slot : ℕ) → Stands k.sched.threads slot t → Change 0 k (gone k t.number)
  ThreadLeaves : {k : KernelState} (t : Thread) (slot : ℕ) (v : ThreadValue) → Stands k.sched.threads slot t → Change 0 k (with_kept (gone k t.number) (k.values ++ v ∷ []))
  Vanishes : {k : KernelState} (group : ℕ) → Change 0 k (record (with_threads k (map (without_group group) k.sched.threads)) { sending = kept_messages group k.sched.threads k.sending; values = filter (λ v. not (v.group == group)) k.values })
  Idles : {k : KernelState} → Change 0 k (without_idle k)
  GroupGoes : {k : KernelState} (place : ℕ) (g : Group) (e : Ending) → flat (slice_get k.groups place) ≡ Some g → AreClosed place k.descriptors → Change 0 k (recorded e (left_alone place g.number k))
  GroupLeaves : {k : KernelState} (place : ℕ) (g : Group) (e : Ending) (code : Code) → flat (slice_get k.groups place) ≡ Some g → AreClosed place k.descriptors → Change 0 k (with_codes (recorded e (left_alone place g.number k)) ((left_alone place g.number k).codes ++ code ∷ []))
  CodeTaken : {k : KernelState} (code : Code) → Change 0 k (with_codes k (without_code code k.codes))
  ValueTaken : {k : KernelState} (v : ThreadValue) → Change 0 k (with_kept k (filter (λ other. not (other.thread == v.thread)) k.values))
  Enters : {k : KernelState} (place : ℕ) (g : Group) (path : List ℕ) → flat (slice_get k.groups place) ≡ Some g → length path ≤ longest_path → Change 0 k (with_group k place (record g { directory = path }))
  Sets : {k : KernelState} (place : ℕ) (g : Group) (variables : List (List ℕ × List ℕ)) → flat (slice_get k.groups place) ≡ Some g → (AreShortVariables g.environment → AreShortVariables variables)
      → Change 0 k (with_group k place (record g { environment = variables }))
  Shares : {k : KernelState} (place fd description : ℕ) → is_held description k.descriptors ≡ true → IsFree k place fd → Change 0 k (with_descriptors k (set_descriptor k.descriptors place fd (Some description)))
  Closes : {k : KernelState} (place fd d : ℕ) → (is_held d (set_descriptor k.descriptors place fd None) ≡ true) ⊎ (flat (slice_get k.opens d) ≡ None) → flat (slice_get k.descriptors (per_group * place + fd)) ≡ Some d
      → Change 0 k (with_descriptors k (set_descriptor k.descriptors place fd None))
  ClosesLast : {k : KernelState} (place fd d : ℕ) → is_held d (set_descriptor k.descriptors place fd None) ≡ false → flat (slice_get k.descriptors (per_group * place + fd)) ≡ Some d
      → Change 0 k (with_opens (with_descriptors k (set_descriptor k.descriptors place fd None)) (slice_set k.opens d None))
  Opens : {k : KernelState} (place fd at : ℕ) (to : Target) (flags : ℕ) → IsFree k place fd → slice_get k.descriptors (per_group * place + fd) ≡ Some None → position_from is_none 0 k.opens ≡ Some at → Leads k to
      → Change 0 k (record k { descriptors = set_descriptor k.descriptors place fd (Some at); opens = slice_set k.opens at (Some (record { target = to; flags = flags; offset = 0 })) })
  Seeks : {k : KernelState} (place : ℕ) (o : Open) (offset : ℕ) → flat (slice_get k.opens place) ≡ Some o → Change 0 k (with_open k place (record o { offset = offset }))
  Writes : {k : KernelState} (place : ℕ) (old new : List ℕ) → flat (slice_get k.tree.files place) ≡ Some old → (IsShortFile old → IsShortFile new) → Change 0 k (record k { tree = with_file k.tree place new })
  Empties : {k : KernelState} (path : List ℕ) (n : Node) (place : ℕ) → node_at k.tree.entries path ≡ Some n → n.kind ≡ node.File place → Change 0 k (record k { tree = with_file k.tree place [] })
  FileBegins : {k : KernelState} (path : List ℕ) (place : ℕ) → position_from is_none 0 k.tree.files ≡ Some place → length path ≤ longest_path → nat_le k.limits.objects (objects k) ≡ false → Change 0 k (with_new_file k path place)
  FileSweeps : {k : KernelState} (place : ℕ) → Change 0 k (record k { tree = swept k.tree k.opens place })
  PathGoes : {k : KernelState} (path : List ℕ) → Change 0 k (with_entries k (entries_but path k.tree.entries))
  DirectoryBegins : {k : KernelState} (path : List ℕ) → length path ≤ longest_path → nat_le k.limits.objects (objects k) ≡ false → Change 0 k (with_entries k (k.tree.entries ++ (path, made_directory) ∷ []))
  Renames : {k : KernelState} (first second : List ℕ) → is_too_long first second k.tree.entries ≡ false → Change 0 k (with_entries k (renamed_entries first second k.tree.entries))
  QueueBegins : {k : KernelState} (path : List ℕ) (place limit size : ℕ) → position_from is_none 0 k.queues ≡ Some place → length path ≤ longest_path → nat_le k.limits.objects (objects k) ≡ false
      → IsShortQueue (record { limit = limit; size = size; messages = [] }) → Change 0 k (with_new_queue k path place limit size)
  QueueChanges : {k : KernelState} (place : ℕ) (old new : Queue) → flat (slice_get k.queues place) ≡ Some old → (EachStanding IsShortMessage k.sending → IsShortQueue old → IsShortQueue new) → Change 0 k (with_queue k place new)
  Sends : {k : KernelState} (slot : Option ℕ) (m : Option Message) → ((n : Message) → m ≡ Some n → IsShortMessage n) → Change 0 k (record k { sending = with_sent k.sending slot m })
  QueueSweeps : {k : KernelState} (place : ℕ) → Change 0 k (record k { queues = kept_if (queue_lives k place) k.queues place })
  SemaphoreBegins : {k : KernelState} (place : ℕ) (s : Semaphore) → position_from is_none 0 k.semaphores ≡ Some place → nat_le k.limits.objects (objects k) ≡ false → IsShortSemaphore s → Change 0 k (with_semaphore k place s)
  SemaphoreChanges : {k : KernelState} (place : ℕ) (old new : Semaphore) → flat (slice_get k.semaphores place) ≡ Some old → (IsShortSemaphore old → IsShortSemaphore new) → Change 0 k (with_semaphore k place new)
  SemaphoreSweeps : {k : KernelState} (place : ℕ) → Change 0 k (record k { semaphores = kept_if (semaphore_lives k place) k.semaphores place })
  Prints : {k : KernelState} (bytes : List ℕ) → (length k.console ≤ k.limits.console → length (k.console ++ bytes) ≤ k.limits.console) → Change 0 k (record k { console = k.console ++ bytes })
  Reads : {k : KernelState} (n : ℕ) → Change 0 k (record k { input = drop n k.input })
  Passes : {k : KernelState} (t : Thread) (slot : ℕ) → Stands k.sched.threads slot t → Change 0 k (record k { time = deadline_of t.doing + next_late k.late; late = drop 1 k.late })
