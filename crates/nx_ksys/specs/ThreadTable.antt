-- What those above the kernel see of it: a table of its threads, and what the reports read.
use Rattle.std.specs.Prelude.{ℕ, Bool, true, false, List, Option, Some, None}
use Rattle.nx_base.specs.declared.calls.KCall.{KCall}
use Rattle.nx_ksys.specs.declared.thread.Thread.{Thread}
use Rattle.nx_ksys.specs.Threads.{thread_of, slot_of, is_ready}
use Rattle.nx_ksys.specs.State.{Group, Ending, KernelState}
use Rattle.nx_ksys.specs.Answers.{group_of}

-- the call in which a thread waits: which, and its words, with 0 for those that mean nothing
pub record WaitingCall : Type 0 where
  pub call : Option KCall
  pub words : List ℕ

-- a thread: its group's number, its program's place, its slot, and the call in which it waits, if it does
pub record ThreadRow : Type 0 where
  pub group : ℕ
  pub program : ℕ
  pub slot : ℕ
  pub waits : Option WaitingCall

abbrev pub waits_in : Thread → Option WaitingCall
waits_in t = by_doing (is_ready t.doing) t
  where
    by_doing : Bool → Thread → Option WaitingCall
    by_doing true u = None
    by_doing false u = Some (record { call = u.asked.call; words = u.asked.words })

abbrev pub program_of : Option Group → ℕ
program_of None = 0
program_of (Some g) = g.program

abbrev pub slot_or : Option ℕ → ℕ
slot_or None = 0
slot_or (Some slot) = slot

abbrev pub row_of_thread : KernelState → Option Thread → Option ThreadRow
row_of_thread k None = None
row_of_thread k (Some t) = Some (record { group = t.group; program = program_of (group_of k.groups t.group); slot = slot_or (slot_of k.sched.threads t.number); waits = waits_in t })

-- the thread of a number
unfoldable pub threads : KernelState → ℕ → Option ThreadRow
threads k number = row_of_thread k (thread_of k.sched.threads number)

-- what the reports read
pub record Seen : Type 0 where
  pub console : List ℕ
  pub ended : List Ending
  pub calls : ℕ

abbrev pub seen : KernelState → Seen
seen k = record { console = k.console; ended = k.ended; calls = k.calls }
