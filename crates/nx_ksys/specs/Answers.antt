-- What a call leaves: the kernel after it, what began or ended, and the replies in their order.
use Rattle.std.specs.Prelude.{ℕ, ◌^◌, ◌==◌, Bool, false, nat_le, nat_lt, min, if◌then◌else◌, List, [], ◌∷◌, ◌++◌, length, Option, Some, None, slice_index_or}
use Rattle.std.specs.List.{find, position_from}
use Rattle.nx_base.specs.ByteLists.{to_le}
use Rattle.nx_base.specs.Calls.{Reply}
use Rattle.nx_base.specs.Replies.{most_moved}
use Rattle.nx_base.specs.declared.errno.Errno.{Errno}
use Rattle.nx_base.specs.declared.errno.Errno.TheVariants.{Einval}
use Rattle.nx_ksys.specs.declared.thread.Asked.{Asked}
use Rattle.nx_ksys.specs.declared.thread.Thread.{Thread}
use Rattle.nx_ksys.specs.declared.thread.Wait.{Wait}
use Rattle.nx_ksys.specs.Threads.{flat, with_error, block, Woken}
use Rattle.nx_ksys.specs.Telling.{reply, failure}
use Rattle.nx_ksys.specs.State.{Group, KernelState}

-- what begins: a thread with its number, its group's number, its program's place and its slot; whether it is a thread
-- of a group that there is, and if not, whether no group of its program lived
pub record Start : Type 0 where
  pub thread : ℕ
  pub group : ℕ
  pub program : ℕ
  pub slot : ℕ
  pub is_thread : Bool
  pub fresh : Bool

-- beside the replies a call does one of these: nothing, a group ends, a thread begins
pub data Effect : Type 0 where
  Stays : Effect
  EndsGroup : (group : ℕ) → Effect
  Begins : (start : Start) → Effect

pub record Stepped : Type 0 where
  pub to : KernelState
  pub effect : Effect
  pub replies : List Reply

-- who calls: a thread, the place of its group, that group, and the call without the words that mean nothing
pub record Caller : Type 0 where
  pub thread : Thread
  pub place : ℕ
  pub group : Group
  pub asked : Asked

abbrev pub is_group : ℕ → Option Group → Bool
is_group number None = false
is_group number (Some g) = g.number == number

-- the place of a group, and the group of a number
abbrev pub place_of : List (Option Group) → ℕ → Option ℕ
place_of groups number = position_from (is_group number) 0 groups

abbrev pub group_of : List (Option Group) → ℕ → Option Group
group_of groups number = flat (find (is_group number) groups)

abbrev pub with_threads : KernelState → List (Option Thread) → KernelState
with_threads k threads = record k { sched = record k.sched { threads = threads } }

-- a thread's error number is set
abbrev pub with_errno : KernelState → ℕ → Errno → KernelState
with_errno k thread e = record k { sched = with_error k.sched thread e }

-- the call succeeds with a value and outputs
abbrev pub replied : KernelState → Caller → ℕ → List (List ℕ) → Stepped
replied k c value outputs = record { to = k; effect = Stays; replies = reply c.thread.number value outputs ∷ [] }

-- the call succeeds, and then others go on
abbrev pub replied_then : KernelState → Caller → ℕ → List (List ℕ) → Woken → Stepped
replied_then k c value outputs w = record { to = record k { sched = w.sched }; effect = Stays; replies = reply c.thread.number value outputs ∷ w.replies }

-- the call fails, and nothing but the caller's error number changes
abbrev pub failed : KernelState → Caller → Errno → Stepped
failed k c e = record { to = with_errno k c.thread.number e; effect = Stays; replies = failure c.thread.number e ∷ [] }

-- nothing happens
abbrev pub silent : KernelState → Stepped
silent k = record { to = k; effect = Stays; replies = [] }

-- the caller waits
abbrev pub waits : KernelState → Caller → Wait → Option ℕ → Stepped
waits k c for deadline = silent (record k { sched = block k.sched c.thread.number c.asked for deadline })

-- a text is written with a zero byte after it, where the caller's size is greater than its length. At most 4,096
-- bytes of a buffer are written, and no text has so many
abbrev pub text_out : KernelState → Caller → ℕ → List ℕ → Stepped
text_out k c size text = if nat_lt (length text) (min size most_moved) then replied k c (length text) ((text ++ 0 ∷ []) ∷ []) else failed k c Einval

-- a number as an int
abbrev pub int_out : ℕ → List ℕ
int_out n = to_le 4 n

-- words of type int are signed: this one is below 0
abbrev pub is_negative : ℕ → Bool
is_negative word = nat_le (2 ^ 31) word

abbrev pub word_at : List ℕ → ℕ → ℕ
word_at words i = slice_index_or words i 0

abbrev pub input_at : List (List ℕ) → ℕ → List ℕ
input_at inputs i = slice_index_or inputs i []
