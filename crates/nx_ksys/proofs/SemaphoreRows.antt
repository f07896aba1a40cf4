-- Semaphores: who waits, and who goes on.
use Rattle.std.proofs.Common.{◌≡◌, ℕ, ◌==◌, ◌&&◌, List, [], Option, Some, None, refl}
use Rattle.std.specs.Prelude.{not, nat_le, nat_lt}
use Rattle.std.specs.List.{position_from}
use Rattle.std.specs.Option.{is_none}
use Rattle.nx_base.specs.declared.errno.Errno.TheVariants as errno
use Rattle.nx_ksys.specs.declared.node.Target.TheVariants as target
use Rattle.nx_ksys.specs.declared.thread.Thread.{Thread}
use Rattle.nx_ksys.specs.declared.thread.Wait.TheVariants as wait
use Rattle.nx_ksys.specs.declared.thread.Search.TheVariants as search
use Rattle.nx_ksys.specs.Threads.{first_of, is_for_semaphore, woken_with}
use Rattle.nx_ksys.specs.State.{KernelState, objects}
use Rattle.nx_ksys.specs.Descriptors.{creates, is_exclusive}
use Rattle.nx_ksys.specs.Answers.{Caller}
use Rattle.nx_ksys.specs.SemaphoreCalls.{most_posts, with_semaphore, is_semaphore_name, are_semaphore_flags, has_name, create_semaphore_at, open_semaphore, sem_open_row, SemaphoreAt, semaphore_of, wait_on, sem_wait_row, try_on, sem_trywait_row, post_to, post_on, sem_post_row, close_semaphore, sem_close_row}
use Rattle.nx_ksys.specs.ThreadTable.{ThreadRow}
use Rattle.nx_ksys.proofs.Waking.{nothing_fits, wakes_with, first_stands, awaited_waits}
use Rattle.nx_ksys.proofs.FileRows.{closed_keeps, describes}
use Rattle.nx_ksys.proofs.Owing.{keeps_refl, keeps_same, Calls, Lawful, either, plain, fails, blocks, answers_then}

pub sem_open_lawful : (k : KernelState) (c : Caller) (x : ThreadRow) (h : Calls k c) (name : List ℕ) (flags value : ℕ) → Lawful k c x (sem_open_row k c name flags value)
unfolding sem_open_row
sem_open_lawful k c x h name flags value =
    either k c x (not (is_semaphore_name name && are_semaphore_flags flags)) _ _ (fails k c x h errno.Einval) (by_name (position_from (has_name name) 0 k.semaphores))
  where
    by_place : (place : Option ℕ) → Lawful k c x (create_semaphore_at k c name flags value place)
    by_place None = fails k c x h errno.Enospc
    by_place (Some place) = describes k (with_semaphore k place (record { name = name; value = value })) c x h (target.Semaphore place) flags (record { sched = refl; groups = refl; numbers = refl })

    by_name : (place : Option ℕ) → Lawful k c x (open_semaphore k c name flags value place)
    by_name None =
        either k c x (not (creates flags)) _ _ (fails k c x h errno.Enoent) (either k c x (nat_lt most_posts value) _ _ (fails k c x h errno.Einval)
        (either k c x (nat_le k.limits.objects (objects k)) _ _ (fails k c x h errno.Enospc) (by_place (position_from is_none 0 k.semaphores))))
    by_name (Some place) = either k c x (is_exclusive flags) _ _ (fails k c x h errno.Eexist) (describes k k c x h (target.Semaphore place) flags (record { sched = refl; groups = refl; numbers = refl }))

pub sem_wait_lawful : (k : KernelState) (c : Caller) (x : ThreadRow) (h : Calls k c) (fd : ℕ) → Lawful k c x (sem_wait_row k c fd)
unfolding sem_wait_row
sem_wait_lawful k c x h fd = by_semaphore (semaphore_of k c fd)
  where
    by_semaphore : (s : Option SemaphoreAt) → Lawful k c x (wait_on k c s)
    by_semaphore None = fails k c x h errno.Ebadf
    by_semaphore (Some s) = either k c x (s.semaphore.value == 0) _ _ (blocks k c x h (wait.Semaphore s.place) None tt) (plain k c x h _ 0 (record { sound = λ s. s; table = refl; slots = refl }))

pub sem_trywait_lawful : (k : KernelState) (c : Caller) (x : ThreadRow) (h : Calls k c) (fd : ℕ) → Lawful k c x (sem_trywait_row k c fd)
unfolding sem_trywait_row
sem_trywait_lawful k c x h fd = by_semaphore (semaphore_of k c fd)
  where
    by_semaphore : (s : Option SemaphoreAt) → Lawful k c x (try_on k c s)
    by_semaphore None = fails k c x h errno.Ebadf
    by_semaphore (Some s) = either k c x (s.semaphore.value == 0) _ _ (fails k c x h errno.Eagain) (plain k c x h _ 0 (record { sound = λ s. s; table = refl; slots = refl }))

pub sem_post_lawful : (k : KernelState) (c : Caller) (x : ThreadRow) (h : Calls k c) (fd : ℕ) → Lawful k c x (sem_post_row k c fd)
unfolding sem_post_row
sem_post_lawful k c x h fd = by_semaphore (semaphore_of k c fd)
  where
    by_waiter : (s : SemaphoreAt) (t : Option Thread) → first_of (search.Waiter s.place) k.sched.threads ≡ t → Lawful k c x (post_to k c s t)
    by_waiter s None e = plain k c x h _ 0 (record { sound = λ s. s; table = refl; slots = refl })
    by_waiter s (Some t) e =
        let f = first_stands (search.Waiter s.place) k.sched.threads t e in
        answers_then k c x h k 0 [] (woken_with k.sched t 0 []) (keeps_refl k) (nothing_fits c.asked)
        (wakes_with k.groups k.numbers k.sched f.slot t h.sound f.stands (awaited_waits (is_for_semaphore s.place) refl t.doing f.passes) 0 [] (nothing_fits t.asked))

    by_semaphore : (s : Option SemaphoreAt) → Lawful k c x (post_on k c s)
    by_semaphore None = fails k c x h errno.Ebadf
    by_semaphore (Some s) = either k c x (nat_le most_posts s.semaphore.value) _ _ (fails k c x h errno.Einval) (by_waiter s (first_of (search.Waiter s.place) k.sched.threads) refl)

pub sem_close_lawful : (k : KernelState) (c : Caller) (x : ThreadRow) (h : Calls k c) (fd : ℕ) → Lawful k c x (sem_close_row k c fd)
unfolding sem_close_row
sem_close_lawful k c x h fd = by_semaphore (semaphore_of k c fd)
  where
    by_semaphore : (s : Option SemaphoreAt) → Lawful k c x (close_semaphore k c fd s)
    by_semaphore None = fails k c x h errno.Ebadf
    by_semaphore (Some s) = plain k c x h _ 0 (keeps_same k _ (closed_keeps k c.place fd))
