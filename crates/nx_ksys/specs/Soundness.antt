-- What holds of the threads and groups of each state of the kernel that is reached.
use Rattle.std.specs.Prelude.{◌≡◌, ◌⊎◌, ℕ, ◌≤◌, List, length, Option, Some, slice_get}
use Rattle.nx_base.specs.KernelCalls.{kinds_of}
use Rattle.nx_base.specs.declared.calls.KCall.{KCall}
use Rattle.nx_base.specs.declared.calls.KCall.TheVariants as call
use Rattle.nx_ksys.specs.declared.thread.Asked.{Asked}
use Rattle.nx_ksys.specs.declared.thread.Thread.{Thread}
use Rattle.nx_ksys.specs.declared.thread.Wait.{Wait}
use Rattle.nx_ksys.specs.declared.thread.Wait.TheVariants as wait
use Rattle.nx_ksys.specs.Threads.{awaited}
use Rattle.nx_ksys.specs.State.{Group, KernelState}
use Rattle.nx_ksys.specs.GroupCalls.{most_numbers}

-- x stands at a place
abbrev pub Stands : {A : Type 0} → List (Option A) → ℕ → A → Type 0
Stands xs place x = slice_get xs place ≡ Some (Some x)

-- P holds of each that stands somewhere
abbrev pub EachStanding : {A : Type 0} → (A → Type 0) → List (Option A) → Type 0
EachStanding {A} P xs = (place : ℕ) (x : A) → Stands xs place x → P x

-- this call was made, with all its words
pub record IsAsked (which : KCall) (a : Asked) : Type 0 where
  pub call : a.call ≡ Some which
  pub words : length (kinds_of which) ≤ length a.words

-- a message was asked for, perhaps up to a deadline
abbrev pub IsReceiving : Asked → Type 0
IsReceiving a = IsAsked call.MqReceive a ⊎ IsAsked call.NxMqTimedreceive a

-- what a thread waits for agrees with the call that it keeps
abbrev pub Agrees : Option Wait → Asked → Type 0
Agrees (Some (wait.Receive queue)) a = IsReceiving a
Agrees (Some (wait.Child child)) a = IsAsked call.Waitpid a
Agrees (Some wait.AnyChild) a = IsAsked call.Waitpid a
Agrees (Some (wait.Thread thread)) a = IsAsked call.NxJoin a
Agrees other a = Unit {0}

-- a thread: its number was given, its group lives, and it waits in a call that waits for that
pub record IsSoundThread (groups : List (Option Group)) (numbers : ℕ) (t : Thread) : Type 0 where
  pub least : 1 ≤ t.number
  pub most : t.number ≤ numbers
  pub place : ℕ
  pub group : Group
  pub lives : Stands groups place group
  pub member : t.group ≡ group.number
  pub agrees : Agrees (awaited t.doing) t.asked

-- a group: its main thread, whose number it has, stands in the slot that is the group's place
pub record IsSoundGroup (threads : List (Option Thread)) (place : ℕ) (g : Group) : Type 0 where
  pub main : Thread
  pub stands : Stands threads place main
  pub number : main.number ≡ g.number
  pub member : main.group ≡ g.number

-- threads and groups by slot, and how many numbers were given: no two threads have one number
pub record AreSound (threads : List (Option Thread)) (groups : List (Option Group)) (numbers : ℕ) : Type 0 where
  pub few : numbers ≤ most_numbers
  pub slots : length groups ≡ length threads
  pub each_thread : (slot : ℕ) (t : Thread) → Stands threads slot t → IsSoundThread groups numbers t
  pub each_group : (place : ℕ) (g : Group) → Stands groups place g → IsSoundGroup threads place g
  pub distinct : (slot other : ℕ) (t u : Thread) → Stands threads slot t → Stands threads other u → t.number ≡ u.number → slot ≡ other

abbrev pub IsSound : KernelState → Type 0
IsSound k = AreSound k.sched.threads k.groups k.numbers
