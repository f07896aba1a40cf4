-- Threads by slot, and which is the first of a sort.
use Rattle.std.specs.Prelude.{ℕ, ◌+◌, Bool, true, false, ◌==◌, ◌&&◌, ◌||◌, nat_lt, if◌then◌else◌, List, [], ◌∷◌, ◌++◌, map, Option, Some, None}
use Rattle.std.specs.List.{find, position_from, count_by}
use Rattle.std.specs.Option.{is_some, is_none}
use Rattle.nx_base.specs.Calls.{Reply}
use Rattle.nx_base.specs.ErrorNumbers.{number_of}
use Rattle.nx_base.specs.declared.errno.Errno.{Errno}
use Rattle.nx_ksys.specs.Telling.{reply, failure}
use Rattle.nx_ksys.specs.declared.thread.Wait.{Wait}
use Rattle.nx_ksys.specs.declared.thread.Wait.TheVariants as wait
use Rattle.nx_ksys.specs.declared.thread.Doing.{Doing}
use Rattle.nx_ksys.specs.declared.thread.Doing.TheVariants.{Ready, Waits, Until}
use Rattle.nx_ksys.specs.declared.thread.Asked.{Asked}
use Rattle.nx_ksys.specs.declared.thread.Thread.{Thread}
use Rattle.nx_ksys.specs.declared.thread.Search.{Search}
use Rattle.nx_ksys.specs.declared.thread.Search.TheVariants as search

-- the threads by slot, and the moments so far
pub record Schedule : Type 0 where
  pub threads : List (Option Thread)
  pub moments : ℕ

-- since when a thread is ready or waits
abbrev pub since_of : Doing → ℕ
since_of (Ready since) = since
since_of (Waits for since) = since
since_of (Until for since deadline) = since

-- a deadline, 0 where there is none
abbrev pub deadline_of : Doing → ℕ
deadline_of (Ready since) = 0
deadline_of (Waits for since) = 0
deadline_of (Until for since deadline) = deadline

abbrev pub is_ready : Doing → Bool
is_ready (Ready since) = true
is_ready (Waits for since) = false
is_ready (Until for since deadline) = false

abbrev pub is_timed : Doing → Bool
is_timed (Ready since) = false
is_timed (Waits for since) = false
is_timed (Until for since deadline) = true

-- what a thread waits for
abbrev pub awaited : Doing → Option Wait
awaited (Ready since) = None
awaited (Waits for since) = Some for
awaited (Until for since deadline) = Some for

-- a wait that the end of a child serves
abbrev pub is_for_child : ℕ → Option Wait → Bool
is_for_child child (Some (wait.Child number)) = number == child
is_for_child child (Some wait.AnyChild) = true
is_for_child child other = false

abbrev pub is_for_thread : ℕ → Option Wait → Bool
is_for_thread number (Some (wait.Thread thread)) = thread == number
is_for_thread number other = false

abbrev pub is_for_message : ℕ → Option Wait → Bool
is_for_message place (Some (wait.Receive queue)) = queue == place
is_for_message place other = false

abbrev pub is_for_room : ℕ → Option Wait → Bool
is_for_room place (Some (wait.Send queue)) = queue == place
is_for_room place other = false

abbrev pub is_for_semaphore : ℕ → Option Wait → Bool
is_for_semaphore place (Some (wait.Semaphore semaphore)) = semaphore == place
is_for_semaphore place other = false

-- a thread of a sort
abbrev pub is_sought : Search → Thread → Bool
is_sought search.Ready t = is_ready t.doing
is_sought search.Timed t = is_timed t.doing
is_sought (search.Parent group child) t = t.group == group && is_for_child child (awaited t.doing)
is_sought (search.Joiner number) t = is_for_thread number (awaited t.doing)
is_sought (search.Receiver place) t = is_for_message place (awaited t.doing)
is_sought (search.Sender place) t = is_for_room place (awaited t.doing)
is_sought (search.Waiter place) t = is_for_semaphore place (awaited t.doing)

-- the greater priority, and then the earlier moment
abbrev pub comes_before : Thread → Thread → Bool
comes_before t u = nat_lt u.priority t.priority || (t.priority == u.priority && nat_lt (since_of t.doing) (since_of u.doing))

-- the earlier deadline, and then the earlier start of waiting
abbrev pub is_due_before : Thread → Thread → Bool
is_due_before t u = nat_lt (deadline_of t.doing) (deadline_of u.doing) || (deadline_of t.doing == deadline_of u.doing && nat_lt (since_of t.doing) (since_of u.doing))

-- the order in which threads of a sort are served
abbrev pub precedes : Search → Thread → Thread → Bool
precedes search.Timed t u = is_due_before t u
precedes other t u = comes_before t u

abbrev pub better : (Thread → Thread → Bool) → Thread → Option Thread → Option Thread
better before t None = Some t
better before t (Some u) = if before t u then Some t else Some u

abbrev pub best_step : (Thread → Bool) → (Thread → Thread → Bool) → Option Thread → Option Thread → Option Thread
best_step test before best None = best
best_step test before best (Some t) = if test t then better before t best else best

abbrev pub best_from : (Thread → Bool) → (Thread → Thread → Bool) → Option Thread → List (Option Thread) → Option Thread
best_from test before best [] = best
best_from test before best (t ∷ ts) = best_from test before (best_step test before best t) ts

-- the first thread of a sort
unfoldable pub first_of : Search → List (Option Thread) → Option Thread
first_of s ts = best_from (is_sought s) (precedes s) None ts

abbrev pub is_numbered : ℕ → Option Thread → Bool
is_numbered number None = false
is_numbered number (Some t) = t.number == number

abbrev pub flat : {A : Type 0} → Option (Option A) → Option A
flat None = None
flat (Some x) = x

-- the thread of a number
unfoldable pub thread_of : List (Option Thread) → ℕ → Option Thread
thread_of ts number = flat (find (is_numbered number) ts)

-- the slot of a thread
unfoldable pub slot_of : List (Option Thread) → ℕ → Option ℕ
slot_of ts number = position_from (is_numbered number) 0 ts

-- how many threads live
abbrev pub live : List (Option Thread) → ℕ
live ts = count_by is_some ts

-- the least slot that no live thread has
abbrev pub free_slot : List (Option Thread) → Option ℕ
free_slot ts = position_from is_none 0 ts

-- one thread becomes another
abbrev pub changed : ℕ → (Thread → Thread) → Option Thread → Option Thread
changed number f None = None
changed number f (Some t) = if t.number == number then Some (f t) else Some t

unfoldable pub change_thread : ℕ → (Thread → Thread) → List (Option Thread) → List (Option Thread)
change_thread number f ts = map (changed number f) ts

-- a thread becomes ready, after all that are
unfoldable pub wake : Schedule → ℕ → Schedule
wake s number = record { threads = change_thread number (λ t. record t { doing = Ready s.moments }) s.threads; moments = s.moments + 1 }

-- a thread waits from now on
abbrev pub begin_wait : ℕ → Wait → Option ℕ → Doing
begin_wait moment for None = Waits for moment
begin_wait moment for (Some deadline) = Until for moment deadline

-- and keeps the call in which it waits
unfoldable pub block : Schedule → ℕ → Asked → Wait → Option ℕ → Schedule
block s number asked for deadline =
    record { threads = change_thread number (λ t. record t { doing = begin_wait s.moments for deadline; asked = asked }) s.threads; moments = s.moments + 1 }

-- a thread's error number is set
unfoldable pub with_error : Schedule → ℕ → Errno → Schedule
with_error s number e = record s { threads = change_thread number (λ t. record t { errno = number_of e }) s.threads }

-- the schedule after threads went on, and what they were told
pub record Woken : Type 0 where
  pub sched : Schedule
  pub replies : List Reply

abbrev pub none_woken : Schedule → Woken
none_woken s = record { sched = s; replies = [] }

-- some go on, and then more of them
abbrev pub woken_then : Woken → (Schedule → Woken) → Woken
woken_then w more = let rest = more w.sched in record { sched = rest.sched; replies = w.replies ++ rest.replies }

-- a thread goes on, and its call succeeds
abbrev pub woken_with : Schedule → Thread → ℕ → List (List ℕ) → Woken
woken_with s t value outputs = record { sched = wake s t.number; replies = reply t.number value outputs ∷ [] }

-- a thread goes on, and its call fails
abbrev pub woken_failing : Schedule → Thread → Errno → Woken
woken_failing s t e = record { sched = with_error (wake s t.number) t.number e; replies = failure t.number e ∷ [] }
