-- What the kernel tells is words and bytes, as long as it is told bytes.
use Rattle.std.specs.Prelude.{◌≡◌, ℕ, ◌^◌, ◌<◌, ◌≤◌, nat_abs, List, length, Option, Some, slice_get}
use Rattle.std.specs.List.{All}
use Rattle.nx_base.specs.ByteLists.{AreBytes}
use Rattle.nx_base.specs.Calls.{Reply, AreInputs}
use Rattle.nx_base.specs.Replies.{most_moved}
use Rattle.nx_base.specs.declared.calls.KCall.{KCall}
use Rattle.nx_base.specs.declared.calls.Kind.{Kind}
use Rattle.nx_ksys.specs.declared.thread.Thread.{Thread}
use Rattle.nx_ksys.specs.State.{FileTree, Message, Queue, Group, Code, Limits, KernelState}
use Rattle.nx_ksys.specs.Step.{step}
use Rattle.nx_ksys.specs.Picking.{picked}
use Rattle.nx_ksys.specs.Boot.{booted}
use Rattle.nx_ksys.specs.Soundness.{EachStanding, IsSound}

-- P holds of each
abbrev pub Each : {A : Type 0} → (A → Type 0) → List A → Type 0
Each {A} P xs = (place : ℕ) (x : A) → slice_get xs place ≡ Some x → P x

-- a group's texts are bytes, and its arguments can be counted in a word
pub record IsGroupOfBytes (g : Group) : Type 0 where
  pub directory : AreBytes g.directory
  pub arguments : Each AreBytes g.arguments
  pub few : length g.arguments < 2 ^ 32
  pub names : Each (λ v. AreBytes v.0) g.environment
  pub values : Each (λ v. AreBytes v.1) g.environment

-- a thread's priority is a byte, and its error number a word
pub record IsThreadOfBytes (t : Thread) : Type 0 where
  pub priority : t.priority < 256
  pub errno : nat_abs t.errno < 2 ^ 32

abbrev pub IsCodeOfWord : Code → Type 0
IsCodeOfWord c = c.child < 2 ^ 32

abbrev pub IsMessageOfBytes : Message → Type 0
IsMessageOfBytes m = AreBytes m.bytes

abbrev pub IsQueueOfBytes : Queue → Type 0
IsQueueOfBytes q = Each IsMessageOfBytes q.messages

-- all that a call may hand out
pub record AreOfBytes (limits : Limits) (tree : FileTree) (groups : List (Option Group)) (threads : List (Option Thread)) (codes : List Code) (input : List ℕ) (queues : List (Option Queue)) (sending : List (Option Message)) : Type 0 where
  pub names : Each AreBytes limits.programs
  pub paths : Each (λ e. AreBytes e.0) tree.entries
  pub contents : EachStanding AreBytes tree.files
  pub each_group : EachStanding IsGroupOfBytes groups
  pub each_thread : EachStanding IsThreadOfBytes threads
  pub children : Each IsCodeOfWord codes
  pub rest : AreBytes input
  pub each_queue : EachStanding IsQueueOfBytes queues
  pub each_sent : EachStanding IsMessageOfBytes sending

abbrev pub IsOfBytes : KernelState → Type 0
IsOfBytes k = AreOfBytes k.limits k.tree k.groups k.sched.threads k.codes k.input k.queues k.sending

-- an input of a call: at most so many bytes as a call moves
pub record IsInput (input : List ℕ) : Type 0 where
  pub bytes : AreBytes input
  pub few : length input ≤ most_moved

-- a reply's value is a word, and its outputs are bytes
pub record IsTold (a : Reply) : Type 0 where
  pub value : a.value < 2 ^ 32
  pub bytes : All AreBytes a.outputs

abbrev pub BootIsOfBytes : Type 0
BootIsOfBytes = (limits : Limits) (others : ℕ) (input late : List ℕ) → Each AreBytes limits.programs → AreBytes input → IsOfBytes (booted limits others input late)

abbrev pub CallsTellBytes : Type 0
CallsTellBytes = (k : KernelState) (thread : ℕ) (which : Option KCall) (words : List ℕ) (inputs : List (List ℕ)) → IsSound k → IsOfBytes k → Each IsInput inputs → IsOfBytes (step k thread which words inputs).to × Each IsTold (step k thread which words inputs).replies

abbrev pub ChoicesTellBytes : Type 0
ChoicesTellBytes = (k : KernelState) → IsSound k → IsOfBytes k → IsOfBytes (picked k).to × Each IsTold (picked k).replies

-- the inputs of a well formed call, where they are bytes
abbrev pub WellFormedInputs : Type 0
WellFormedInputs = (kinds : List Kind) (words : List ℕ) (inputs : List (List ℕ)) → AreInputs kinds words inputs → All AreBytes inputs → Each IsInput inputs
