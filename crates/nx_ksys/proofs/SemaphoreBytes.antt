-- Semaphores: what their calls tell is words.
use Rattle.std.proofs.Common.{ℕ, ◌==◌, ◌&&◌, List, [], Option, Some, None, arith}
use Rattle.std.specs.Prelude.{not, nat_le, nat_lt}
use Rattle.std.specs.List.{position_from}
use Rattle.std.specs.Option.{is_none}
use Rattle.nx_base.specs.ByteLists.{AreBytes}
use Rattle.nx_base.specs.declared.errno.Errno.TheVariants as errno
use Rattle.nx_ksys.specs.declared.node.Target.TheVariants as target
use Rattle.nx_ksys.specs.declared.thread.Thread.{Thread}
use Rattle.nx_ksys.specs.declared.thread.Wait.TheVariants as wait
use Rattle.nx_ksys.specs.declared.thread.Search.TheVariants as search
use Rattle.nx_ksys.specs.Threads.{first_of, woken_with}
use Rattle.nx_ksys.specs.State.{KernelState, objects}
use Rattle.nx_ksys.specs.Descriptors.{creates, is_exclusive, closed}
use Rattle.nx_ksys.specs.Answers.{Caller}
use Rattle.nx_ksys.specs.SemaphoreCalls.{most_posts, with_semaphore, is_semaphore_name, are_semaphore_flags, has_name, create_semaphore_at, open_semaphore, sem_open_row, SemaphoreAt, semaphore_of, wait_on, sem_wait_row, try_on, sem_trywait_row, post_to, post_on, sem_post_row, close_semaphore, sem_close_row}
use Rattle.nx_ksys.specs.ByteLaws.{IsOfBytes}
use Rattle.nx_ksys.proofs.ByteWalks.{each_none}
use Rattle.nx_ksys.proofs.Saying.{Says, either, plain, fails, blocks}
use Rattle.nx_ksys.proofs.FileBytes.{closed_bytes, describes}
use Rattle.nx_ksys.proofs.EndBytes.{wakes_with, says_then}

pub sem_open_says : (k : KernelState) (c : Caller) (b : IsOfBytes k) (name : List ℕ) (flags value : ℕ) → Says (sem_open_row k c name flags value)
unfolding sem_open_row
sem_open_says k c b name flags value = either (not (is_semaphore_name name && are_semaphore_flags flags)) _ _ (fails k c errno.Einval b) (by_name (position_from (has_name name) 0 k.semaphores))
  where
    by_place : (place : Option ℕ) → Says (create_semaphore_at k c name flags value place)
    by_place None = fails k c errno.Enospc b
    by_place (Some place) = describes k (with_semaphore k place (record { name = name; value = value })) c (target.Semaphore place) flags b b

    by_name : (place : Option ℕ) → Says (open_semaphore k c name flags value place)
    by_name None =
        either (not (creates flags)) _ _ (fails k c errno.Enoent b) (either (nat_lt most_posts value) _ _ (fails k c errno.Einval b)
        (either (nat_le k.limits.objects (objects k)) _ _ (fails k c errno.Enospc b) (by_place (position_from is_none 0 k.semaphores))))
    by_name (Some place) = either (is_exclusive flags) _ _ (fails k c errno.Eexist b) (describes k k c (target.Semaphore place) flags b b)

pub sem_wait_says : (k : KernelState) (c : Caller) (b : IsOfBytes k) (fd : ℕ) → Says (sem_wait_row k c fd)
unfolding sem_wait_row
sem_wait_says k c b fd = by_semaphore (semaphore_of k c fd)
  where
    by_semaphore : (s : Option SemaphoreAt) → Says (wait_on k c s)
    by_semaphore None = fails k c errno.Ebadf b
    by_semaphore (Some s) = either (s.semaphore.value == 0) _ _ (blocks k c (wait.Semaphore s.place) None b) (plain (with_semaphore k s.place _) c 0 b (omega arith))

pub sem_trywait_says : (k : KernelState) (c : Caller) (b : IsOfBytes k) (fd : ℕ) → Says (sem_trywait_row k c fd)
unfolding sem_trywait_row
sem_trywait_says k c b fd = by_semaphore (semaphore_of k c fd)
  where
    by_semaphore : (s : Option SemaphoreAt) → Says (try_on k c s)
    by_semaphore None = fails k c errno.Ebadf b
    by_semaphore (Some s) = either (s.semaphore.value == 0) _ _ (fails k c errno.Eagain b) (plain (with_semaphore k s.place _) c 0 b (omega arith))

pub sem_post_says : (k : KernelState) (c : Caller) (b : IsOfBytes k) (fd : ℕ) → Says (sem_post_row k c fd)
unfolding sem_post_row
sem_post_says k c b fd = by_semaphore (semaphore_of k c fd)
  where
    by_waiter : (s : SemaphoreAt) (t : Option Thread) → Says (post_to k c s t)
    by_waiter s None = plain (with_semaphore k s.place _) c 0 b (omega arith)
    by_waiter s (Some t) = says_then k c 0 [] (woken_with k.sched t 0 []) b (omega arith) (each_none AreBytes) (wakes_with k.sched t 0 [] b.each_thread (omega arith) (each_none AreBytes))

    by_semaphore : (s : Option SemaphoreAt) → Says (post_on k c s)
    by_semaphore None = fails k c errno.Ebadf b
    by_semaphore (Some s) = either (nat_le most_posts s.semaphore.value) _ _ (fails k c errno.Einval b) (by_waiter s (first_of (search.Waiter s.place) k.sched.threads))

pub sem_close_says : (k : KernelState) (c : Caller) (b : IsOfBytes k) (fd : ℕ) → Says (sem_close_row k c fd)
unfolding sem_close_row
sem_close_says k c b fd = by_semaphore (semaphore_of k c fd)
  where
    by_semaphore : (s : Option SemaphoreAt) → Says (close_semaphore k c fd s)
    by_semaphore None = fails k c errno.Ebadf b
    by_semaphore (Some s) = plain (closed k c.place fd) c 0 (closed_bytes k c.place fd b) (omega arith)
