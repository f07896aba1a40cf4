-- Worked calls on queues, semaphores, time and the environment, computed by the definitions.
use Rattle.std.proofs.Common.{◌≡◌, ℕ, zero, suc, ◌+◌, List, [], ◌∷◌, ◌++◌, Some, refl, replicate}
use Rattle.std.specs.Prelude.{codes}
use Rattle.nx_base.specs.ByteLists.{to_le}
use Rattle.nx_base.specs.Calls.{Reply}
use Rattle.nx_base.specs.declared.calls.KCall.{KCall}
use Rattle.nx_base.specs.declared.calls.KCall.TheVariants as call
use Rattle.nx_base.specs.declared.errno.Errno.TheVariants as errno
use Rattle.nx_ksys.specs.declared.pick.Pick.TheVariants.{Run, Idle}
use Rattle.nx_ksys.specs.Telling.{reply, failure}
use Rattle.nx_ksys.specs.State.{Limits, KernelState, free_blocks, objects}
use Rattle.nx_ksys.specs.Boot.{booted}
use Rattle.nx_ksys.specs.Step.{step}
use Rattle.nx_ksys.specs.Threads.{thread_of, slot_of, first_of, change_thread, wake, block, with_error}
use Rattle.nx_ksys.specs.Paths.{node_at}
use Rattle.nx_ksys.specs.Descriptors.{opened, free_descriptor, without_idle, released, closed}
use Rattle.nx_ksys.specs.FileCalls.{close_row}
use Rattle.nx_ksys.specs.Ends.{first_lost, vanished, without_descriptors, left_alone, told_parent, end_group, exit_row}
use Rattle.nx_ksys.specs.ThreadCalls.{setpriority_row, thread_row}
use Rattle.nx_ksys.specs.QueueCalls.{mq_open_row, mq_unlink_row, queue_of, mq_close_row, mq_send_row, next_message, mq_receive_row, mq_timedreceive_row}
use Rattle.nx_ksys.specs.SemaphoreCalls.{sem_open_row, semaphore_of, sem_wait_row, sem_trywait_row, sem_post_row, sem_close_row}
use Rattle.nx_ksys.specs.TimeCalls.{sleep_row, ticks_row}
use Rattle.nx_ksys.specs.EnvironmentCalls.{getenv_row, setenv_row, unsetenv_row, env_row}
use Rattle.nx_ksys.specs.Picking.{first_due, advanced, picked}

abbrev small : Limits
small = record { programs = codes "p" ∷ []; blocks = 16; objects = 4; console = 1024 }

-- a kernel of two threads, which is late by 2 and then by 3 ticks
abbrev first : KernelState
first = booted small 1 [] (2 ∷ 3 ∷ [])

-- a call of a thread: its words, and its inputs
abbrev Made : Type 0
Made = ℕ × KCall × List ℕ × List (List ℕ)

-- calls, one after the other, and what they tell
abbrev after : KernelState → List Made → KernelState
after k [] = k
after k (m ∷ ms) = after (step k m.0 (Some m.1) m.2 m.3).to ms

abbrev said : KernelState → List Made → List Reply
said k [] = []
said k (m ∷ ms) = (step k m.0 (Some m.1) m.2 m.3).replies ++ said (step k m.0 (Some m.1) m.2 m.3).to ms

-- one byte to send, and the bytes of a priority
abbrev sends : ℕ → ℕ → ℕ → Made
sends thread byte priority = (thread, call.MqSend, 3 ∷ 0 ∷ 1 ∷ priority ∷ [], (byte ∷ []) ∷ [])

abbrev receives : ℕ → Made
receives thread = (thread, call.MqReceive, 3 ∷ 0 ∷ 8 ∷ 0 ∷ [], [])

abbrev got : ℕ → ℕ → ℕ → Reply
got thread byte priority = reply thread 1 ((byte ∷ []) ∷ (priority ∷ 0 ∷ 0 ∷ 0 ∷ []) ∷ [])

abbrev opens : ℕ → ℕ → ℕ → Made
opens flags limit size = (1, call.NxMqOpen, 0 ∷ flags ∷ limit ∷ size ∷ [], codes "/q" ∷ [])

-- a second thread of the shell
abbrev with_fellow : Made
with_fellow = (1, call.NxThread, 0 ∷ 0 ∷ [], [])

-- ---- queues

the_highest_comes_first : said first (opens 7 4 8 ∷ sends 1 97 1 ∷ sends 1 98 5 ∷ sends 1 99 5 ∷ receives 1 ∷ receives 1 ∷ receives 1 ∷ []) ≡ reply 1 3 [] ∷ reply 1 0 [] ∷ reply 1 0 [] ∷ reply 1 0 [] ∷ got 1 98 5 ∷ got 1 99 5 ∷ got 1 97 1 ∷ []
unfolding booted step thread_of first_of slot_of node_at free_descriptor opened queue_of mq_open_row mq_send_row mq_receive_row next_message to_le
the_highest_comes_first = refl

abbrev in_time : KernelState
in_time = after first (opens 7 4 8 ∷ (1, call.NxMqTimedreceive, 3 ∷ 0 ∷ 8 ∷ 0 ∷ 5 ∷ [], []) ∷ [])

a_late_deadline_comes_at_7 : (picked in_time).to.time ≡ 7
unfolding booted step thread_of first_of slot_of node_at free_descriptor opened queue_of mq_open_row mq_timedreceive_row next_message block change_thread wake with_error picked advanced first_due without_idle
a_late_deadline_comes_at_7 = refl

its_receive_fails : (picked in_time).replies ≡ failure 1 errno.Etimedout ∷ []
unfolding booted step thread_of first_of slot_of node_at free_descriptor opened queue_of mq_open_row mq_timedreceive_row next_message block change_thread wake with_error picked advanced first_due without_idle
its_receive_fails = refl

its_thread_runs : (picked in_time).pick ≡ Run 1
unfolding booted step thread_of first_of slot_of node_at free_descriptor opened queue_of mq_open_row mq_timedreceive_row next_message block change_thread wake with_error picked advanced first_due without_idle
its_thread_runs = refl

-- so many messages of a whole block each
abbrev blocks_sent : ℕ → KernelState
blocks_sent zero = after first (opens 7 32 64 ∷ [])
blocks_sent (suc n) = after (blocks_sent n) ((1, call.MqSend, 3 ∷ 0 ∷ 64 ∷ 0 ∷ [], replicate 64 65 ∷ []) ∷ [])

the_17th_has_no_block : said (blocks_sent 16) ((1, call.MqSend, 3 ∷ 0 ∷ 64 ∷ 0 ∷ [], replicate 64 65 ∷ []) ∷ []) ≡ failure 1 errno.Enospc ∷ []
unfolding booted step thread_of first_of slot_of node_at free_descriptor opened queue_of mq_open_row mq_send_row change_thread with_error
the_17th_has_no_block = refl

a_waiting_receiver_gets_it : said first (opens 7 4 8 ∷ with_fellow ∷ receives 2 ∷ sends 1 97 1 ∷ []) ≡ reply 1 3 [] ∷ reply 1 2 [] ∷ reply 1 0 [] ∷ got 2 97 1 ∷ []
unfolding booted step thread_of first_of slot_of node_at free_descriptor opened queue_of mq_open_row thread_row mq_send_row mq_receive_row next_message block change_thread wake to_le
a_waiting_receiver_gets_it = refl

a_waiting_sender_joins : said first (opens 7 1 8 ∷ with_fellow ∷ sends 2 97 1 ∷ sends 2 98 1 ∷ receives 1 ∷ receives 1 ∷ []) ≡ reply 1 3 [] ∷ reply 1 2 [] ∷ reply 2 0 [] ∷ got 1 97 1 ∷ reply 2 0 [] ∷ got 1 98 1 ∷ []
unfolding booted step thread_of first_of slot_of node_at free_descriptor opened queue_of mq_open_row thread_row mq_send_row mq_receive_row next_message block change_thread wake to_le
a_waiting_sender_joins = refl

queues_refuse : said first ((1, call.NxMqOpen, 0 ∷ 7 ∷ 4 ∷ 8 ∷ [], codes "q" ∷ []) ∷ (1, call.NxMqOpen, 0 ∷ 3 ∷ 4 ∷ 8 ∷ [], codes "/q" ∷ []) ∷ opens 7 65 8 ∷ opens 71 4 8 ∷ opens 15 4 8
    ∷ receives 1 ∷ (1, call.MqReceive, 3 ∷ 0 ∷ 7 ∷ 0 ∷ [], []) ∷ sends 1 97 32 ∷ (1, call.MqSend, 3 ∷ 0 ∷ 9 ∷ 0 ∷ [], replicate 9 97 ∷ []) ∷ (1, call.MqSend, 1 ∷ 0 ∷ 1 ∷ 0 ∷ [], (97 ∷ []) ∷ [])
    ∷ (1, call.NxMqTimedreceive, 3 ∷ 0 ∷ 8 ∷ 0 ∷ 4294967295 ∷ [], []) ∷ (1, call.MqUnlink, 0 ∷ [], codes "/none" ∷ []) ∷ (1, call.MqClose, 0 ∷ [], []) ∷ [])
    ≡ failure 1 errno.Einval ∷ failure 1 errno.Enoent ∷ failure 1 errno.Einval ∷ reply 1 3 [] ∷ failure 1 errno.Eexist
    ∷ failure 1 errno.Eagain ∷ failure 1 errno.Emsgsize ∷ failure 1 errno.Einval ∷ failure 1 errno.Emsgsize ∷ failure 1 errno.Ebadf
    ∷ failure 1 errno.Einval ∷ failure 1 errno.Enoent ∷ failure 1 errno.Ebadf ∷ []
unfolding booted step thread_of first_of slot_of node_at free_descriptor opened queue_of mq_open_row mq_send_row mq_receive_row mq_timedreceive_row mq_unlink_row mq_close_row next_message change_thread with_error
queues_refuse = refl

-- ---- what waits keeps its queue

-- the second thread waits for a message of a queue that has neither a path nor a descriptor any more
abbrev waited_on : KernelState
waited_on = after first (opens 7 4 8 ∷ with_fellow ∷ (2, call.NxMqTimedreceive, 3 ∷ 0 ∷ 8 ∷ 0 ∷ 5 ∷ [], []) ∷ (1, call.MqUnlink, 0 ∷ [], codes "/q" ∷ []) ∷ (1, call.MqClose, 3 ∷ [], []) ∷ [])

a_wait_keeps_its_queue : objects waited_on ≡ 1
unfolding booted step thread_of first_of slot_of node_at free_descriptor opened queue_of mq_open_row thread_row mq_timedreceive_row mq_unlink_row mq_close_row next_message block change_thread released closed
a_wait_keeps_its_queue = refl

its_end_ends_the_queue : objects (picked (after waited_on ((1, call.NxSleep, 9 ∷ [], []) ∷ []))).to ≡ 0
unfolding booted step thread_of first_of slot_of node_at free_descriptor opened queue_of mq_open_row thread_row mq_timedreceive_row mq_unlink_row mq_close_row sleep_row next_message block change_thread wake with_error released closed picked advanced first_due without_idle
its_end_ends_the_queue = refl

-- the second thread waits to send 64 bytes
abbrev full : KernelState
full = after first (opens 7 1 64 ∷ with_fellow ∷ sends 1 97 1 ∷ (2, call.MqSend, 3 ∷ 0 ∷ 64 ∷ 0 ∷ [], replicate 64 65 ∷ []) ∷ [])

a_waiting_message_has_its_blocks : free_blocks full ≡ 14
unfolding booted step thread_of first_of slot_of node_at free_descriptor opened queue_of mq_open_row thread_row mq_send_row block change_thread
a_waiting_message_has_its_blocks = refl

its_group_gives_them_up : free_blocks (after full ((1, call.Exit, 0 ∷ [], []) ∷ [])) ≡ 15
unfolding booted step thread_of first_of first_lost slot_of node_at free_descriptor opened queue_of mq_open_row thread_row mq_send_row block change_thread exit_row end_group told_parent vanished without_idle without_descriptors left_alone closed released
its_group_gives_them_up = refl

abbrev unlinked : KernelState
unlinked = after first (opens 7 4 8 ∷ sends 1 97 1 ∷ (1, call.MqUnlink, 0 ∷ [], codes "/q" ∷ []) ∷ [])

its_name_is_free : said unlinked (opens 3 4 8 ∷ receives 1 ∷ []) ≡ failure 1 errno.Enoent ∷ got 1 97 1 ∷ []
unfolding booted step thread_of first_of slot_of node_at free_descriptor opened queue_of mq_open_row mq_send_row mq_receive_row mq_unlink_row next_message change_thread with_error to_le
its_name_is_free = refl

it_ends_with_its_descriptor : objects (after unlinked ((1, call.Close, 3 ∷ [], []) ∷ [])) ≡ 0
unfolding booted step thread_of first_of slot_of node_at free_descriptor opened queue_of mq_open_row mq_send_row mq_unlink_row close_row released closed
it_ends_with_its_descriptor = refl

nobody_ever_sends : (picked (after first (opens 7 4 8 ∷ receives 1 ∷ []))).pick ≡ Idle
unfolding booted step thread_of first_of slot_of node_at free_descriptor opened queue_of mq_open_row mq_receive_row next_message block change_thread picked advanced
nobody_ever_sends = refl

-- of two threads that wait for a message, the second has the greater priority
abbrev two_wait : KernelState
two_wait = after (booted small 2 [] []) (opens 7 4 8 ∷ with_fellow ∷ with_fellow ∷ (1, call.NxSetpriority, 3 ∷ 101 ∷ [], []) ∷ receives 2 ∷ receives 3 ∷ [])

the_greatest_priority_is_served : said two_wait (sends 1 97 1 ∷ sends 1 98 1 ∷ []) ≡ reply 1 0 [] ∷ got 3 97 1 ∷ reply 1 0 [] ∷ got 2 98 1 ∷ []
unfolding booted step thread_of first_of slot_of node_at free_descriptor opened queue_of mq_open_row thread_row setpriority_row mq_send_row mq_receive_row next_message block change_thread wake to_le
the_greatest_priority_is_served = refl

-- ---- semaphores

abbrev opens_semaphore : List ℕ → ℕ → ℕ → Made
opens_semaphore name flags value = (1, call.NxSemOpen, 0 ∷ flags ∷ value ∷ [], name ∷ [])

a_semaphore_has_a_greatest_value : said first (opens_semaphore (codes "s") 4 32767 ∷ (1, call.NxSemPost, 3 ∷ [], []) ∷ []) ≡ reply 1 3 [] ∷ failure 1 errno.Einval ∷ []
unfolding booted step thread_of free_descriptor opened semaphore_of sem_open_row sem_post_row change_thread with_error
a_semaphore_has_a_greatest_value = refl

a_post_serves_who_waits : said first (opens_semaphore (codes "s") 4 1 ∷ with_fellow ∷ (2, call.NxSemWait, 3 ∷ [], []) ∷ (2, call.NxSemWait, 3 ∷ [], []) ∷ (1, call.NxSemPost, 3 ∷ [], []) ∷ (1, call.NxSemTrywait, 3 ∷ [], []) ∷ [])
    ≡ reply 1 3 [] ∷ reply 1 2 [] ∷ reply 2 0 [] ∷ reply 1 0 [] ∷ reply 2 0 [] ∷ failure 1 errno.Eagain ∷ []
unfolding booted step thread_of first_of free_descriptor opened semaphore_of thread_row sem_open_row sem_wait_row sem_trywait_row sem_post_row block change_thread wake with_error
a_post_serves_who_waits = refl

semaphores_refuse : said first (opens_semaphore (codes "a/b") 4 0 ∷ opens_semaphore (codes "s") 5 0 ∷ opens_semaphore (codes "s") 0 0 ∷ opens_semaphore (codes "s") 4 32768 ∷ opens_semaphore (codes "s") 4 0 ∷ opens_semaphore (codes "s") 12 0
    ∷ (1, call.NxSemWait, 0 ∷ [], []) ∷ (1, call.NxSemClose, 3 ∷ [], []) ∷ (1, call.NxSemClose, 3 ∷ [], []) ∷ opens_semaphore (codes "s") 0 0 ∷ [])
    ≡ failure 1 errno.Einval ∷ failure 1 errno.Einval ∷ failure 1 errno.Enoent ∷ failure 1 errno.Einval ∷ reply 1 3 [] ∷ failure 1 errno.Eexist
    ∷ failure 1 errno.Ebadf ∷ reply 1 0 [] ∷ failure 1 errno.Ebadf ∷ failure 1 errno.Enoent ∷ []
unfolding booted step thread_of free_descriptor opened semaphore_of sem_open_row sem_wait_row sem_close_row change_thread with_error released closed
semaphores_refuse = refl

-- the second thread waits for a semaphore that has no descriptor any more
abbrev closed_on : KernelState
closed_on = after first (opens_semaphore (codes "s") 4 0 ∷ with_fellow ∷ (2, call.NxSemWait, 3 ∷ [], []) ∷ (1, call.NxSemClose, 3 ∷ [], []) ∷ [])

its_name_still_finds_it : said closed_on (opens_semaphore (codes "s") 0 0 ∷ (1, call.NxSemPost, 3 ∷ [], []) ∷ []) ≡ reply 1 3 [] ∷ reply 1 0 [] ∷ reply 2 0 [] ∷ []
unfolding booted step thread_of first_of free_descriptor opened semaphore_of thread_row sem_open_row sem_wait_row sem_post_row sem_close_row block change_thread wake released closed
its_name_still_finds_it = refl

it_ends_with_its_group : objects (after closed_on ((1, call.Exit, 0 ∷ [], []) ∷ [])) ≡ 0
unfolding booted step thread_of first_of first_lost free_descriptor opened semaphore_of thread_row sem_open_row sem_wait_row sem_close_row block change_thread exit_row end_group told_parent vanished without_idle without_descriptors left_alone released closed
it_ends_with_its_group = refl

-- ---- time

-- the earlier deadline wakes first, also where both have come
two_wake_at_once : (picked (after (booted small 1 [] (5 ∷ [])) (with_fellow ∷ (2, call.NxSleep, 12 ∷ [], []) ∷ (1, call.NxSleep, 10 ∷ [], []) ∷ []))).replies ≡ reply 1 0 [] ∷ reply 2 0 [] ∷ []
unfolding booted step thread_of first_of thread_row sleep_row block change_thread wake picked advanced first_due without_idle
two_wake_at_once = refl

-- one number of the lateness list is used each time that time passes
abbrev slept : KernelState
slept = (picked (after first ((1, call.NxSleep, 5 ∷ [], []) ∷ []))).to

a_sleep_ends_late : said slept ((1, call.NxTicks, [], []) ∷ []) ≡ reply 1 7 [] ∷ []
unfolding booted step thread_of first_of sleep_row ticks_row block change_thread wake picked advanced first_due without_idle
a_sleep_ends_late = refl

the_next_by_the_next_number : (picked (after slept ((1, call.NxSleep, 1 ∷ [], []) ∷ []))).to.time ≡ 11
unfolding booted step thread_of first_of sleep_row block change_thread wake picked advanced first_due without_idle
the_next_by_the_next_number = refl

a_sleep_of_0_never_waits : said first ((1, call.NxSleep, 0 ∷ [], []) ∷ (1, call.NxSleep, 4294967295 ∷ [], []) ∷ []) ≡ reply 1 0 [] ∷ failure 1 errno.Einval ∷ []
unfolding booted step thread_of sleep_row change_thread with_error
a_sleep_of_0_never_waits = refl

-- ---- the environment

abbrev sets : List ℕ → List ℕ → ℕ → Made
sets name value replace = (1, call.Setenv, 0 ∷ 0 ∷ replace ∷ [], name ∷ value ∷ [])

-- so many names of one byte each
abbrev names_set : ℕ → KernelState
names_set zero = first
names_set (suc n) = after (names_set n) (sets ((65 + n) ∷ []) [] 1 ∷ [])

no_17th_name : said (names_set 16) (sets (codes "q") [] 1 ∷ sets (codes "A") (codes "b") 1 ∷ []) ≡ failure 1 errno.Enomem ∷ reply 1 0 [] ∷ []
unfolding booted step thread_of setenv_row change_thread with_error
no_17th_name = refl

abbrev variables : KernelState
variables = after first (sets (codes "B") (codes "two") 1 ∷ sets (codes "A") (codes "one") 1 ∷ sets (codes "B") (codes "x") 0 ∷ [])

the_names_stand_in_order : said variables ((1, call.NxEnv, 0 ∷ 0 ∷ 9 ∷ [], []) ∷ (1, call.NxEnv, 1 ∷ 0 ∷ 9 ∷ [], []) ∷ (1, call.NxEnv, 2 ∷ 0 ∷ 9 ∷ [], []) ∷ (1, call.NxGetenv, 0 ∷ 0 ∷ 4 ∷ [], codes "B" ∷ []) ∷ [])
    ≡ reply 1 5 ((codes "A=one" ++ 0 ∷ []) ∷ []) ∷ reply 1 5 ((codes "B=two" ++ 0 ∷ []) ∷ []) ∷ reply 1 0 ([] ∷ []) ∷ reply 1 3 ((codes "two" ++ 0 ∷ []) ∷ []) ∷ []
unfolding booted step thread_of setenv_row getenv_row env_row
the_names_stand_in_order = refl

variables_refuse : said variables ((1, call.NxGetenv, 0 ∷ 0 ∷ 3 ∷ [], codes "B" ∷ []) ∷ (1, call.NxGetenv, 0 ∷ 0 ∷ 9 ∷ [], codes "=" ∷ []) ∷ sets (codes "C=") [] 1 ∷ sets [] [] 1 ∷ (1, call.NxEnv, 4294967295 ∷ 0 ∷ 9 ∷ [], [])
    ∷ (1, call.Unsetenv, 0 ∷ [], codes "B" ∷ []) ∷ (1, call.Unsetenv, 0 ∷ [], codes "B" ∷ []) ∷ (1, call.Unsetenv, 0 ∷ [], codes "=" ∷ []) ∷ (1, call.NxGetenv, 0 ∷ 0 ∷ 9 ∷ [], codes "B" ∷ []) ∷ [])
    ≡ failure 1 errno.Einval ∷ failure 1 errno.Enoent ∷ failure 1 errno.Einval ∷ failure 1 errno.Einval ∷ failure 1 errno.Einval
    ∷ reply 1 0 [] ∷ reply 1 0 [] ∷ failure 1 errno.Einval ∷ failure 1 errno.Enoent ∷ []
unfolding booted step thread_of setenv_row unsetenv_row getenv_row env_row change_thread with_error
variables_refuse = refl
