-- Texts, messages and tables that a kernel keeps are short.
use Rattle.std.specs.Prelude.{ℕ, ◌+◌, ◌≤◌, List, length, Option}
use Rattle.nx_base.specs.Calls.{longest_text}
use Rattle.nx_ksys.specs.State.{Message, Queue, Semaphore, Group, Limits, FileTree, KernelState}
use Rattle.nx_ksys.specs.FileCalls.{longest_file}
use Rattle.nx_ksys.specs.QueueCalls.{most_messages, longest_message}
use Rattle.nx_ksys.specs.SemaphoreCalls.{most_posts}
use Rattle.nx_ksys.specs.EnvironmentCalls.{most_variables}
use Rattle.nx_ksys.specs.Soundness.{EachStanding}
use Rattle.nx_ksys.specs.ByteLaws.{Each}

-- a path, and a name
abbrev pub longest_path : ℕ
longest_path = 255

abbrev pub longest_name : ℕ
longest_name = 32

abbrev pub IsShortText : List ℕ → Type 0
IsShortText text = length text ≤ longest_text

-- arguments: the name, and the lines of one text
pub record AreShortArguments (arguments : List (List ℕ)) : Type 0 where
  pub few : length arguments ≤ longest_text + 1
  pub each : Each IsShortText arguments

-- variables, each a name with its value
pub record AreShortVariables (variables : List (List ℕ × List ℕ)) : Type 0 where
  pub few : length variables ≤ most_variables
  pub names : Each (λ v. length v.0 ≤ longest_name) variables
  pub values : Each (λ v. IsShortText v.1) variables

pub record IsShortGroup (g : Group) : Type 0 where
  pub directory : length g.directory ≤ longest_path
  pub words : AreShortArguments g.arguments
  pub variables : AreShortVariables g.environment

abbrev pub IsShortMessage : Message → Type 0
IsShortMessage m = length m.bytes ≤ longest_message

pub record IsShortQueue (q : Queue) : Type 0 where
  pub most : q.limit ≤ most_messages
  pub longest : q.size ≤ longest_message
  pub few : length q.messages ≤ most_messages
  pub each : Each IsShortMessage q.messages

pub record IsShortSemaphore (s : Semaphore) : Type 0 where
  pub text : length s.name ≤ longest_name
  pub most : s.value ≤ most_posts

abbrev pub IsShortFile : List ℕ → Type 0
IsShortFile content = length content ≤ longest_file

-- all that a kernel keeps
pub record AreShort (limits : Limits) (tree : FileTree) (groups : List (Option Group)) (queues : List (Option Queue)) (sending : List (Option Message)) (semaphores : List (Option Semaphore)) (console : List ℕ) : Type 0 where
  pub paths : Each (λ e. length e.0 ≤ longest_path) tree.entries
  pub contents : EachStanding IsShortFile tree.files
  pub each_group : EachStanding IsShortGroup groups
  pub each_queue : EachStanding IsShortQueue queues
  pub each_sent : EachStanding IsShortMessage sending
  pub each_semaphore : EachStanding IsShortSemaphore semaphores
  pub shows : length console ≤ limits.console

abbrev pub IsShort : KernelState → Type 0
IsShort k = AreShort k.limits k.tree k.groups k.queues k.sending k.semaphores k.console
