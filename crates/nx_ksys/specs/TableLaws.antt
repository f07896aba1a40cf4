-- The table of threads that those above the kernel see, and how calls and choices change it.
use Rattle.std.specs.Prelude.{◌≡◌, ◌≢◌, ℕ, ◌+◌, ◌<◌, ◌≤◌, ◌==◌, Bool, true, false, if◌then◌else◌, List, [], ◌∷◌, length, Option, Some, None}
use Rattle.nx_base.specs.Calls.{Reply}
use Rattle.nx_base.specs.Replies.{FitsCall}
use Rattle.nx_base.specs.KernelCalls.{kinds_of}
use Rattle.nx_base.specs.declared.calls.Kind.{Kind}
use Rattle.nx_base.specs.declared.calls.KCall.{KCall}
use Rattle.nx_base.specs.declared.calls.KCall.TheVariants as call
use Rattle.nx_ksys.specs.declared.pick.Pick.TheVariants.{Run}
use Rattle.nx_ksys.specs.State.{Limits, KernelState}
use Rattle.nx_ksys.specs.Answers.{Start, Effect, Stays, EndsGroup, Begins, Stepped}
use Rattle.nx_ksys.specs.Step.{meant_words, counted, step}
use Rattle.nx_ksys.specs.Picking.{Picked, picked}
use Rattle.nx_ksys.specs.Boot.{booted}
use Rattle.nx_ksys.specs.ThreadTable.{WaitingCall, ThreadRow, threads}
use Rattle.nx_ksys.specs.Soundness.{IsSound}

-- threads by number
abbrev pub Table : Type 0
Table = ℕ → Option ThreadRow

unfoldable pub set_at : Table → ℕ → Option ThreadRow → Table
set_at t i x j = if j == i then x else t j

-- a thread that waits in a call, and one that doesn't
abbrev pub waiting : ThreadRow → WaitingCall → ThreadRow
waiting x c = record x { waits = Some c }

abbrev pub ready : ThreadRow → ThreadRow
ready x = record x { waits = None }

abbrev pub made_ready : Option ThreadRow → Option ThreadRow
made_ready None = None
made_ready (Some x) = Some (ready x)

-- the threads after replies: who got one is ready
unfoldable pub after_replies : Table → List Reply → Table
after_replies t [] = t
after_replies t (a ∷ rs) = after_replies (set_at t a.thread (made_ready (t a.thread))) rs

abbrev pub unless_in : ℕ → Option ThreadRow → Option ThreadRow
unless_in group None = None
unless_in group (Some x) = if x.group == group then None else Some x

-- the threads without those of a group
abbrev pub without : Table → ℕ → Table
without t group i = unless_in group (t i)

abbrev pub started_row : Start → ThreadRow
started_row st = record { group = st.group; program = st.program; slot = st.slot; waits = None }

-- the threads after what a call does beside its replies
abbrev pub after_effect : Table → Effect → Table
after_effect t Stays = t
after_effect t (EndsGroup group) = without t group
after_effect t (Begins st) = set_at t st.thread (Some (started_row st))

-- a thread's last call
abbrev pub is_last : Option KCall → Bool
is_last (Some call.Exit) = true
is_last (Some call.NxThreadExit) = true
is_last other = false

-- the call in which a thread waits that makes this one
abbrev pub waiting_call : Option KCall → List ℕ → WaitingCall
waiting_call which words = record { call = which; words = meant_words which words }

-- the caller waits in its call, or is gone by it
abbrev pub asking : Table → ℕ → ThreadRow → Option KCall → List ℕ → Table
asking t i x which words = set_at t i (if is_last which then None else Some (waiting x (waiting_call which words)))

-- the threads that a call leaves, before its replies
abbrev pub before_replies : KernelState → ℕ → ThreadRow → Option KCall → List ℕ → Stepped → Table
before_replies k i x which words s = after_effect (asking (threads k) i x which words) s.effect

abbrev pub kinds_in : Option KCall → List Kind
kinds_in None = []
kinds_in (Some which) = kinds_of which

-- a reply is for a thread that waits, in a call that its outputs fit, and that is ready in the kernel
pub record IsDue (k : KernelState) (t : Table) (a : Reply) : Type 0 where
  pub row : ThreadRow
  pub call : WaitingCall
  pub waits : t a.thread ≡ Some (waiting row call)
  pub fits : FitsCall (kinds_in call.call) call.words a.outputs
  pub there : threads k a.thread ≡ Some (ready row)

-- each reply in its turn
unfoldable pub AreDue : KernelState → Table → List Reply → Type 0
AreDue k t [] = Unit {0}
AreDue k t (a ∷ rs) = IsDue k t a × AreDue k (set_at t a.thread (made_ready (t a.thread))) rs

-- a start: of the next number in a free slot; a thread in its caller's group, or a new group
pub record IsStart (k : KernelState) (t : Table) (x : ThreadRow) (which : Option KCall) (st : Start) : Type 0 where
  pub may : st.slot < length k.sched.threads
  pub slot : (j : ℕ) (y : ThreadRow) → t j ≡ Some y → y.slot ≢ st.slot
  pub number : st.thread ≡ k.numbers + 1
  pub later : (j : ℕ) (y : ThreadRow) → t j ≡ Some y → j < st.thread
  pub thread : st.is_thread ≡ true → (which ≡ Some call.NxThread) × (st.group ≡ x.group) × (st.program ≡ x.program)
  pub group : st.is_thread ≡ false → (st.group ≡ st.thread) × ((j : ℕ) (y : ThreadRow) → t j ≡ Some y → y.group ≢ st.group)
  pub fresh : st.is_thread ≡ false → st.fresh ≡ true → (j : ℕ) (y : ThreadRow) → t j ≡ Some y → y.program ≢ st.program

-- what a call may do beside its replies: its last call may end a thread's group
abbrev pub IsAllowed : KernelState → Table → ThreadRow → Option KCall → Effect → Type 0
IsAllowed k t x which Stays = Unit {0}
IsAllowed k t x which (EndsGroup group) = (is_last which ≡ true) × (group ≡ x.group)
IsAllowed k t x which (Begins st) = IsStart k t x which st

-- one call of a thread that is ready
pub record IsStep (k : KernelState) (i : ℕ) (x : ThreadRow) (which : Option KCall) (words : List ℕ) (s : Stepped) : Type 0 where
  pub effect : IsAllowed k (asking (threads k) i x which words) x which s.effect
  pub due : AreDue s.to (before_replies k i x which words s) s.replies
  pub table : (n : ℕ) → threads s.to n ≡ after_replies (before_replies k i x which words s) s.replies n
  pub slots : length s.to.sched.threads ≡ length k.sched.threads

-- a choice: who woke got replies that were due, and who is chosen is ready
pub record IsChoice (k : KernelState) (p : Picked) : Type 0 where
  pub due : AreDue p.to (threads k) p.replies
  pub table : (n : ℕ) → threads p.to n ≡ after_replies (threads k) p.replies n
  pub runs : (n : ℕ) → p.pick ≡ Run n → (x : ThreadRow) × (threads p.to n ≡ Some (ready x))
  pub slots : length p.to.sched.threads ≡ length k.sched.threads

-- each state that is reached is sound
abbrev pub BootIsSound : Type 0
BootIsSound = (limits : Limits) (others : ℕ) (input late : List ℕ) → IsSound (booted limits others input late)

abbrev pub CallsStaySound : Type 0
CallsStaySound = (k : KernelState) (thread : ℕ) (which : Option KCall) (words : List ℕ) (inputs : List (List ℕ)) → IsSound k → length (kinds_in which) ≤ length words → IsSound (step k thread which words inputs).to

abbrev pub ChoicesStaySound : Type 0
ChoicesStaySound = (k : KernelState) → IsSound k → IsSound (picked k).to

-- a live thread has a number that was given, and no other thread has its slot
abbrev pub NumbersWereGiven : Type 0
NumbersWereGiven = (k : KernelState) (i : ℕ) (x : ThreadRow) → IsSound k → threads k i ≡ Some x → (1 ≤ i) × (i ≤ k.numbers) × (x.slot < length k.sched.threads)

abbrev pub SlotsDiffer : Type 0
SlotsDiffer = (k : KernelState) (i j : ℕ) (x y : ThreadRow) → IsSound k → threads k i ≡ Some x → threads k j ≡ Some y → x.slot ≡ y.slot → i ≡ j

-- a call changes the threads as its own answers say
abbrev pub CallsChangeThreads : Type 0
CallsChangeThreads = (k : KernelState) (i : ℕ) (x : ThreadRow) (which : Option KCall) (words : List ℕ) (inputs : List (List ℕ)) → IsSound k → threads k i ≡ Some (ready x) → length (kinds_in which) ≤ length words → IsStep k i x which words (step k i which words inputs)

abbrev pub ChoicesChangeThreads : Type 0
ChoicesChangeThreads = (k : KernelState) → IsSound k → IsChoice k (picked k)

-- calls whose words mean the same lead to the same
abbrev pub SameMeaningSameStep : Type 0
SameMeaningSameStep = (k : KernelState) (thread : ℕ) (which : Option KCall) (words other : List ℕ) (inputs : List (List ℕ)) → meant_words which words ≡ meant_words which other → step k thread which words inputs ≡ step k thread which other inputs

-- a thread that there isn't changes nothing but the count
abbrev pub NobodysCallIsSilent : Type 0
NobodysCallIsSilent = (k : KernelState) (thread : ℕ) (which : Option KCall) (words : List ℕ) (inputs : List (List ℕ)) → threads k thread ≡ None → step k thread which words inputs ≡ record { to = counted k; effect = Stays; replies = [] }
