-- Descriptors and open descriptions.
use Rattle.std.specs.Prelude.{ℕ, zero, suc, ◌+◌, ◌*◌, ◌/◌, ◌%◌, ◌==◌, ◌&&◌, ◌||◌, nat_lt, Bool, true, false, if◌then◌else◌, List, [], ◌∷◌, take, drop, Option, Some, None, slice_get, slice_set}
use Rattle.std.specs.List.{list_any, position_from}
use Rattle.std.specs.Option.{is_none}
use Rattle.nx_ksys.specs.declared.node.Node.{Node}
use Rattle.nx_ksys.specs.declared.node.NodeKind.{NodeKind}
use Rattle.nx_ksys.specs.declared.node.NodeKind.TheVariants as node
use Rattle.nx_ksys.specs.declared.node.Open.{Open}
use Rattle.nx_ksys.specs.declared.node.Target.{Target}
use Rattle.nx_ksys.specs.declared.node.Target.TheVariants as target
use Rattle.nx_ksys.specs.declared.thread.Thread.{Thread}
use Rattle.nx_ksys.specs.Threads.{flat, awaited, is_for_message, is_for_room, is_for_semaphore}
use Rattle.nx_ksys.specs.State.{FileTree, KernelState}

-- descriptors of a group
abbrev pub per_group : ℕ
per_group = 32

abbrev pub has_flag : ℕ → ℕ → Bool
has_flag flags bit = (flags / bit) % 2 == 1

-- O_RDONLY, O_WRONLY, O_CREAT, O_EXCL, O_APPEND, O_TRUNC, O_NONBLOCK
abbrev pub may_read : ℕ → Bool
may_read flags = has_flag flags 1

abbrev pub may_write : ℕ → Bool
may_write flags = has_flag flags 2

abbrev pub creates : ℕ → Bool
creates flags = has_flag flags 4

abbrev pub is_exclusive : ℕ → Bool
is_exclusive flags = has_flag flags 4 && has_flag flags 8

abbrev pub appends : ℕ → Bool
appends flags = has_flag flags 16

abbrev pub truncates : ℕ → Bool
truncates flags = has_flag flags 32 && has_flag flags 2

abbrev pub never_waits : ℕ → Bool
never_waits flags = has_flag flags 64

-- the place of the description of a descriptor, if it is open
abbrev pub description_at : List (Option ℕ) → ℕ → ℕ → Option ℕ
description_at descriptors place fd = if nat_lt fd per_group then flat (slice_get descriptors (per_group * place + fd)) else None

-- an open description with its place
pub record Opened : Type 0 where
  pub place : ℕ
  pub description : Open

abbrev pub opened_as : List (Option Open) → Option ℕ → Option Opened
opened_as opens None = None
opened_as opens (Some place) = with_place place (flat (slice_get opens place))
  where
    with_place : ℕ → Option Open → Option Opened
    with_place at None = None
    with_place at (Some o) = Some (record { place = at; description = o })

-- what a descriptor of the group at a place leads to
unfoldable pub opened : KernelState → ℕ → ℕ → Option Opened
opened k place fd = opened_as k.opens (description_at k.descriptors place fd)

-- the least free descriptor of a group
unfoldable pub free_descriptor : List (Option ℕ) → ℕ → Option ℕ
free_descriptor descriptors place = position_from is_none 0 (take per_group (drop (per_group * place) descriptors))

abbrev pub set_descriptor : List (Option ℕ) → ℕ → ℕ → Option ℕ → List (Option ℕ)
set_descriptor descriptors place fd to = slice_set descriptors (per_group * place + fd) to

abbrev pub is_at : ℕ → Option ℕ → Bool
is_at place None = false
is_at place (Some p) = p == place

-- a description is open while some descriptor has it
abbrev pub is_held : ℕ → List (Option ℕ) → Bool
is_held place descriptors = list_any (is_at place) descriptors

abbrev pub is_file_at : ℕ → NodeKind → Bool
is_file_at place (node.File p) = p == place
is_file_at place other = false

abbrev pub leads_to_file : ℕ → Target → Bool
leads_to_file place (target.File p) = p == place
leads_to_file place other = false

abbrev pub is_open_file : ℕ → Option Open → Bool
is_open_file place None = false
is_open_file place (Some o) = leads_to_file place o.target

-- a file lives while a path names it or a description leads to it
abbrev pub lives : ℕ → List (List ℕ × Node) → List (Option Open) → Bool
lives place entries opens = list_any (λ e. is_file_at place e.1.kind) entries || list_any (is_open_file place) opens

unfoldable pub swept : FileTree → List (Option Open) → ℕ → FileTree
swept tree opens place = if lives place tree.entries opens then tree else record tree { files = slice_set tree.files place None }

abbrev pub is_queue_at : ℕ → NodeKind → Bool
is_queue_at place (node.Queue p) = p == place
is_queue_at place other = false

abbrev pub leads_to_queue : ℕ → Target → Bool
leads_to_queue place (target.Queue p) = p == place
leads_to_queue place other = false

abbrev pub is_open_queue : ℕ → Option Open → Bool
is_open_queue place None = false
is_open_queue place (Some o) = leads_to_queue place o.target

abbrev pub awaits_queue : ℕ → Option Thread → Bool
awaits_queue place None = false
awaits_queue place (Some t) = is_for_message place (awaited t.doing) || is_for_room place (awaited t.doing)

-- a queue lives while a path names it, a description leads to it, or a thread waits on it
abbrev pub queue_lives : KernelState → ℕ → Bool
queue_lives k place =
    list_any (λ e. is_queue_at place e.1.kind) k.tree.entries || list_any (is_open_queue place) k.opens || list_any (awaits_queue place) k.sched.threads

abbrev pub leads_to_semaphore : ℕ → Target → Bool
leads_to_semaphore place (target.Semaphore p) = p == place
leads_to_semaphore place other = false

abbrev pub is_open_semaphore : ℕ → Option Open → Bool
is_open_semaphore place None = false
is_open_semaphore place (Some o) = leads_to_semaphore place o.target

abbrev pub awaits_semaphore : ℕ → Option Thread → Bool
awaits_semaphore place None = false
awaits_semaphore place (Some t) = is_for_semaphore place (awaited t.doing)

-- a semaphore lives while a description leads to it, or a thread waits on it
abbrev pub semaphore_lives : KernelState → ℕ → Bool
semaphore_lives k place = list_any (is_open_semaphore place) k.opens || list_any (awaits_semaphore place) k.sched.threads

-- what stands at a place is gone, unless it lives
abbrev pub kept_if : {A : Type 0} → Bool → List (Option A) → ℕ → List (Option A)
kept_if true xs place = xs
kept_if false xs place = slice_set xs place None

abbrev pub swept_target : KernelState → Target → KernelState
swept_target k (target.File place) = record k { tree = swept k.tree k.opens place }
swept_target k (target.Queue place) = record k { queues = kept_if (queue_lives k place) k.queues place }
swept_target k (target.Semaphore place) = record k { semaphores = kept_if (semaphore_lives k place) k.semaphores place }
swept_target k other = k

-- those that live, from a place on
abbrev pub living_from : {A : Type 0} → (ℕ → Bool) → ℕ → List (Option A) → List (Option A)
living_from lives place [] = []
living_from lives place (x ∷ xs) = (if lives place then x else None) ∷ living_from lives (place + 1) xs

-- the queues and semaphores that nothing leads to, and on which nobody waits, are gone
unfoldable pub without_idle : KernelState → KernelState
without_idle k = record k { queues = living_from (queue_lives k) 0 k.queues; semaphores = living_from (semaphore_lives k) 0 k.semaphores }

abbrev pub without_open : KernelState → ℕ → Option Open → KernelState
without_open k place None = k
without_open k place (Some o) = swept_target (record k { opens = slice_set k.opens place None }) o.target

-- a description that no descriptor has closes, and with it a file that no path names, or a queue or semaphore that
-- lives no more
unfoldable pub released : KernelState → ℕ → KernelState
released k place = if is_held place k.descriptors then k else without_open k place (flat (slice_get k.opens place))

abbrev pub closed_as : KernelState → ℕ → ℕ → Option ℕ → KernelState
closed_as k place fd None = k
closed_as k place fd (Some description) = released (record k { descriptors = set_descriptor k.descriptors place fd None }) description

-- a descriptor closes, if it is open
unfoldable pub closed : KernelState → ℕ → ℕ → KernelState
closed k place fd = closed_as k place fd (description_at k.descriptors place fd)

-- so many descriptors of a group close, from one on
abbrev pub closed_from : ℕ → ℕ → ℕ → KernelState → KernelState
closed_from zero fd place k = k
closed_from (suc n) fd place k = closed_from n (fd + 1) place (closed k place fd)
