-- The calls that the shell makes, and what it takes from a reply.
use Rattle.std.specs.Prelude.{◌≡◌, ℕ, ◌^◌, ◌<◌, Bool, List, [], ◌∷◌, length, take}
use Rattle.std.specs.List.{All}
use Rattle.nx_base.specs.ByteLists.{AreBytes, from_le}
use Rattle.nx_base.specs.Calls.{Reply, AreInputs}
use Rattle.nx_base.specs.Replies.{FitsCall}
use Rattle.nx_base.specs.KernelCalls.{kinds_of}
use Rattle.nx_base.specs.declared.calls.KCall.{KCall}
use Rattle.nx_base.specs.declared.calls.KCall.TheVariants as kernel
use Rattle.nx_ksys.specs.Answers.{is_negative, input_at}

-- A call: which, its six words, and the bytes of its inputs, in the order of its parameters.
pub record Call : Type 0 where
  pub which : KCall
  pub words : List ℕ
  pub inputs : List (List ℕ)

-- A word for each parameter: 0 for one that is a pointer, and after the last.
abbrev pub call : KCall → ℕ → ℕ → ℕ → ℕ → List (List ℕ) → Call
call which a b c d inputs = record { which = which; words = a ∷ b ∷ c ∷ d ∷ 0 ∷ 0 ∷ []; inputs = inputs }

abbrev pub getpid : Call
getpid = call kernel.Getpid 0 0 0 0 []

abbrev pub exit : ℕ → Call
exit value = call kernel.Exit value 0 0 0 []

-- Sizes are 256 bytes for a name, a value or a path, and 512 for a line.
abbrev pub getenv : List ℕ → Call
getenv name = call kernel.NxGetenv 0 0 256 0 (name ∷ [])

abbrev pub setenv : List ℕ → List ℕ → Call
setenv name value = call kernel.Setenv 0 0 1 0 (name ∷ value ∷ [])

abbrev pub unsetenv : List ℕ → Call
unsetenv name = call kernel.Unsetenv 0 0 0 0 (name ∷ [])

abbrev pub env : ℕ → Call
env index = call kernel.NxEnv index 0 512 0 []

abbrev pub ps : ℕ → Call
ps index = call kernel.NxPs index 0 512 0 []

abbrev pub open_file : List ℕ → ℕ → Call
open_file path flags = call kernel.Open 0 flags 0 0 (path ∷ [])

-- A file is read 4,096 bytes at a time.
abbrev pub read : ℕ → Call
read fd = call kernel.Read fd 0 4096 0 []

abbrev pub write : ℕ → List ℕ → Call
write fd text = call kernel.Write fd 0 (length text) 0 (text ∷ [])

abbrev pub close : ℕ → Call
close fd = call kernel.Close fd 0 0 0 []

abbrev pub dup : ℕ → Call
dup fd = call kernel.Dup fd 0 0 0 []

abbrev pub dup2 : ℕ → ℕ → Call
dup2 fd other = call kernel.Dup2 fd other 0 0 []

abbrev pub unlink : List ℕ → Call
unlink path = call kernel.Unlink 0 0 0 0 (path ∷ [])

abbrev pub mkdir : List ℕ → Call
mkdir path = call kernel.Mkdir 0 0 0 0 (path ∷ [])

abbrev pub rmdir : List ℕ → Call
rmdir path = call kernel.Rmdir 0 0 0 0 (path ∷ [])

abbrev pub rename : List ℕ → List ℕ → Call
rename path other = call kernel.Rename 0 0 0 0 (path ∷ other ∷ [])

abbrev pub chdir : List ℕ → Call
chdir path = call kernel.Chdir 0 0 0 0 (path ∷ [])

abbrev pub getcwd : Call
getcwd = call kernel.NxGetcwd 0 256 0 0 []

abbrev pub readdir : List ℕ → ℕ → Call
readdir path index = call kernel.NxReaddir 0 index 0 256 (path ∷ [])

abbrev pub kind : List ℕ → Call
kind path = call kernel.NxKind 0 0 0 0 (path ∷ [])

-- A program starts with priority 100.
abbrev pub spawn : List ℕ → List ℕ → Call
spawn path arguments = call kernel.NxSpawn 0 0 100 0 (path ∷ arguments ∷ [])

abbrev pub waitpid : ℕ → Call
waitpid pid = call kernel.Waitpid pid 0 0 0 []

abbrev pub sleep : ℕ → Call
sleep ticks = call kernel.NxSleep ticks 0 0 0 []

-- A call failed where its value as an int is below 0.
abbrev pub is_failed : Reply → Bool
is_failed r = is_negative r.value

abbrev pub output : Reply → List ℕ
output r = input_at r.outputs 0

-- The bytes that a reply hands out: so many as its value says.
abbrev pub handed : Reply → List ℕ
handed r = take r.value (output r)

-- The code of a child that ended, as an int.
abbrev pub code_of : Reply → ℕ
code_of r = from_le (output r)

-- A reply fits a call: its value and its error number are words, and its outputs are bytes for which the call has room.
pub record Fits (c : Call) (r : Reply) : Type 0 where
  pub value : r.value < 2 ^ 32
  pub errno : r.errno < 2 ^ 32
  pub room : FitsCall (kinds_of c.which) c.words r.outputs
  pub bytes : All AreBytes r.outputs

-- A call is well formed: it has all its words, and the inputs of its row.
pub record IsWellFormed (c : Call) : Type 0 where
  pub words : length c.words ≡ 6
  pub inputs : AreInputs (kinds_of c.which) c.words c.inputs
