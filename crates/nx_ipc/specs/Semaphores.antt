-- What a call on a semaphore is told, as the state and the replies that it leaves.
use Rattle.std.specs.Prelude.{ℕ, List, [], Option, Some, None, Result, Ok, Err}
use Rattle.nx_base.specs.declared.errno.Errno.{Errno}
use Rattle.nx_ksys.specs.declared.node.Target.TheVariants as target
use Rattle.nx_ksys.specs.declared.thread.Thread.{Thread}
use Rattle.nx_ksys.specs.declared.thread.Wait.TheVariants as wait
use Rattle.nx_ksys.specs.Threads.{woken_with}
use Rattle.nx_ksys.specs.State.{Semaphore, KernelState}
use Rattle.nx_ksys.specs.FileCalls.{describe_new}
use Rattle.nx_ksys.specs.Answers.{Stepped, Caller, replied, replied_then, failed, waits}
use Rattle.nx_ksys.specs.SemaphoreCalls.{with_semaphore}
use Rattle.nx_ipc.specs.declared.opening.Opening.{Opening}
use Rattle.nx_ipc.specs.declared.opening.Opening.TheVariants as opening
use Rattle.nx_ipc.specs.declared.semaphores.Waited.{Waited}
use Rattle.nx_ipc.specs.declared.semaphores.Waited.TheVariants as waited
use Rattle.nx_ipc.specs.declared.semaphores.Posted.{Posted}
use Rattle.nx_ipc.specs.declared.semaphores.Posted.TheVariants as posted

-- a state with these semaphores
abbrev pub with_semaphores : KernelState → List (Option Semaphore) → KernelState
with_semaphores k semaphores = record k { semaphores = semaphores }

-- what was found or is to be made gets a description
abbrev pub opens_semaphore : KernelState → Caller → List ℕ → ℕ → ℕ → Result Opening Errno → Stepped
opens_semaphore k c name flags value (Err e) = failed k c e
opens_semaphore k c name flags value (Ok (opening.Found place)) = describe_new k k c (target.Semaphore place) flags
opens_semaphore k c name flags value (Ok (opening.Made place)) =
    describe_new k (with_semaphore k place (record { name = name; value = value })) c (target.Semaphore place) flags

-- one was taken, or the caller waits
abbrev pub wait_told : KernelState → Caller → ℕ → Result Waited Errno → Stepped
wait_told k c place (Err e) = failed k c e
wait_told k c place (Ok waited.Taken) = replied k c 0 []
wait_told k c place (Ok waited.Waits) = waits k c (wait.Semaphore place) None

abbrev pub done : KernelState → Caller → Result Unit Errno → Stepped
done k c (Err e) = failed k c e
done k c (Ok nothing) = replied k c 0 []

-- there is one more, or a thread that waited goes on
abbrev pub post_told : KernelState → Caller → Result Posted Errno → Stepped
post_told k c (Err e) = failed k c e
post_told k c (Ok posted.Counted) = replied k c 0 []
post_told k c (Ok (posted.Woke t)) = replied_then k c 0 [] (woken_with k.sched t 0 [])
