-- Calls on semaphores: nx_sem_open, nx_sem_wait, nx_sem_trywait, nx_sem_post, nx_sem_close.
use Rattle.std.specs.Prelude.{ℕ, ◌+◌, ◌-◌, ◌==◌, ◌&&◌, ◌||◌, nat_le, nat_lt, Bool, false, not, if◌then◌else◌, List, [], length, Option, Some, None, slice_get, slice_set}
use Rattle.std.specs.List.{list_any, position_from}
use Rattle.std.specs.Option.{is_none}
use Rattle.std.specs.Str.{bytes_eq}
use Rattle.nx_base.specs.declared.errno.Errno.TheVariants.{Enoent, Ebadf, Eagain, Eexist, Einval, Enospc}
use Rattle.nx_ksys.specs.declared.node.Target.{Target}
use Rattle.nx_ksys.specs.declared.node.Target.TheVariants as target
use Rattle.nx_ksys.specs.declared.thread.Thread.{Thread}
use Rattle.nx_ksys.specs.declared.thread.Wait.TheVariants as wait
use Rattle.nx_ksys.specs.declared.thread.Search.TheVariants as search
use Rattle.nx_ksys.specs.Threads.{flat, first_of, woken_with}
use Rattle.nx_ksys.specs.State.{Semaphore, KernelState, objects}
use Rattle.nx_ksys.specs.Descriptors.{creates, is_exclusive, Opened, opened, closed}
use Rattle.nx_ksys.specs.FileCalls.{describe_new}
use Rattle.nx_ksys.specs.Answers.{Stepped, Caller, replied, replied_then, failed, waits}

-- the greatest value of a semaphore
abbrev pub most_posts : ℕ
most_posts = 32767

abbrev pub with_semaphore : KernelState → ℕ → Semaphore → KernelState
with_semaphore k place s = record k { semaphores = slice_set k.semaphores place (Some s) }

-- ---- nx_sem_open

-- 1 to 32 bytes without a slash
abbrev pub is_semaphore_name : List ℕ → Bool
is_semaphore_name name = nat_le 1 (length name) && nat_le (length name) 32 && not (list_any (λ b. b == 47) name)

-- O_CREAT and O_EXCL alone
abbrev pub are_semaphore_flags : ℕ → Bool
are_semaphore_flags flags = flags == 0 || flags == 4 || flags == 8 || flags == 12

abbrev pub has_name : List ℕ → Option Semaphore → Bool
has_name name None = false
has_name name (Some s) = bytes_eq name s.name

abbrev pub create_semaphore_at : KernelState → Caller → List ℕ → ℕ → ℕ → Option ℕ → Stepped
create_semaphore_at k c name flags value None = failed k c Enospc
create_semaphore_at k c name flags value (Some place) = describe_new k (with_semaphore k place (record { name = name; value = value })) c (target.Semaphore place) flags

abbrev pub create_semaphore : KernelState → Caller → List ℕ → ℕ → ℕ → Stepped
create_semaphore k c name flags value =
    if not (creates flags) then failed k c Enoent
    else if nat_lt most_posts value then failed k c Einval
    else if nat_le k.limits.objects (objects k) then failed k c Enospc
    else create_semaphore_at k c name flags value (position_from is_none 0 k.semaphores)

abbrev pub open_semaphore : KernelState → Caller → List ℕ → ℕ → ℕ → Option ℕ → Stepped
open_semaphore k c name flags value None = create_semaphore k c name flags value
open_semaphore k c name flags value (Some place) = if is_exclusive flags then failed k c Eexist else describe_new k k c (target.Semaphore place) flags

unfoldable pub sem_open_row : KernelState → Caller → List ℕ → ℕ → ℕ → Stepped
sem_open_row k c name flags value =
    if not (is_semaphore_name name && are_semaphore_flags flags) then failed k c Einval
    else open_semaphore k c name flags value (position_from (has_name name) 0 k.semaphores)

-- ---- the semaphore of a descriptor

pub record SemaphoreAt : Type 0 where
  pub place : ℕ
  pub semaphore : Semaphore

abbrev pub semaphore_there : ℕ → Option Semaphore → Option SemaphoreAt
semaphore_there place None = None
semaphore_there place (Some s) = Some (record { place = place; semaphore = s })

abbrev pub semaphore_to : KernelState → Target → Option SemaphoreAt
semaphore_to k (target.Semaphore place) = semaphore_there place (flat (slice_get k.semaphores place))
semaphore_to k other = None

abbrev pub semaphore_behind : KernelState → Option Opened → Option SemaphoreAt
semaphore_behind k None = None
semaphore_behind k (Some o) = semaphore_to k o.description.target

unfoldable pub semaphore_of : KernelState → Caller → ℕ → Option SemaphoreAt
semaphore_of k c fd = semaphore_behind k (opened k c.place fd)

-- ---- nx_sem_wait, nx_sem_trywait

abbrev pub take_one : KernelState → Caller → SemaphoreAt → Stepped
take_one k c s = replied (with_semaphore k s.place (record s.semaphore { value = s.semaphore.value - 1 })) c 0 []

abbrev pub wait_on : KernelState → Caller → Option SemaphoreAt → Stepped
wait_on k c None = failed k c Ebadf
wait_on k c (Some s) = if s.semaphore.value == 0 then waits k c (wait.Semaphore s.place) None else take_one k c s

unfoldable pub sem_wait_row : KernelState → Caller → ℕ → Stepped
sem_wait_row k c fd = wait_on k c (semaphore_of k c fd)

abbrev pub try_on : KernelState → Caller → Option SemaphoreAt → Stepped
try_on k c None = failed k c Ebadf
try_on k c (Some s) = if s.semaphore.value == 0 then failed k c Eagain else take_one k c s

unfoldable pub sem_trywait_row : KernelState → Caller → ℕ → Stepped
sem_trywait_row k c fd = try_on k c (semaphore_of k c fd)

-- ---- nx_sem_post

-- the first that waits goes on; without one there is one more
abbrev pub post_to : KernelState → Caller → SemaphoreAt → Option Thread → Stepped
post_to k c s None = replied (with_semaphore k s.place (record s.semaphore { value = s.semaphore.value + 1 })) c 0 []
post_to k c s (Some t) = replied_then k c 0 [] (woken_with k.sched t 0 [])

abbrev pub post_on : KernelState → Caller → Option SemaphoreAt → Stepped
post_on k c None = failed k c Ebadf
post_on k c (Some s) = if nat_le most_posts s.semaphore.value then failed k c Einval else post_to k c s (first_of (search.Waiter s.place) k.sched.threads)

unfoldable pub sem_post_row : KernelState → Caller → ℕ → Stepped
sem_post_row k c fd = post_on k c (semaphore_of k c fd)

-- ---- nx_sem_close

abbrev pub close_semaphore : KernelState → Caller → ℕ → Option SemaphoreAt → Stepped
close_semaphore k c fd None = failed k c Ebadf
close_semaphore k c fd (Some s) = replied (closed k c.place fd) c 0 []

unfoldable pub sem_close_row : KernelState → Caller → ℕ → Stepped
sem_close_row k c fd = close_semaphore k c fd (semaphore_of k c fd)
