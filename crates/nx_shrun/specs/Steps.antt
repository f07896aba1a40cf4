-- What the steps of a command call, and what the replies leave to do.
use Rattle.std.specs.Prelude.{ℕ, ◌+◌, ◌%◌, ◌^◌, ◌==◌, nat_lt, Bool, true, false, not, if◌then◌else◌, List, [], ◌∷◌, ◌++◌, codes, length}
use Rattle.nx_base.specs.Calls.{Reply}
use Rattle.nx_base.specs.declared.calls.KCall.{KCall}
use Rattle.nx_base.specs.declared.calls.KCall.TheVariants as kernel
use Rattle.nx_shtree.specs.declared.tree.Mode.{Mode}
use Rattle.nx_shtree.specs.declared.tree.Mode.TheVariants.{Truncate, Append}
use Rattle.nx_shrun.specs.declared.step.Ending.{Ending}
use Rattle.nx_shrun.specs.declared.step.Ending.TheVariants.{Status}
use Rattle.nx_shrun.specs.declared.step.Change.{Change}
use Rattle.nx_shrun.specs.declared.step.Change.TheVariants as change
use Rattle.nx_shrun.specs.declared.step.Listing.{Listing}
use Rattle.nx_shrun.specs.declared.step.Listing.TheVariants as listing
use Rattle.nx_shrun.specs.declared.step.Wanted.{Wanted}
use Rattle.nx_shrun.specs.declared.step.Wanted.TheVariants as wanted
use Rattle.nx_shrun.specs.declared.step.Step.{Step}
use Rattle.nx_shrun.specs.declared.step.Step.TheVariants as step
use Rattle.nx_shrun.specs.declared.step.Awaits.{Awaits}
use Rattle.nx_shrun.specs.declared.step.Awaits.TheVariants as awaits
use Rattle.nx_shrun.specs.Calls as c
use Rattle.nx_shrun.specs.Calls.{Call, is_failed, handed, code_of}
use Rattle.nx_shrun.specs.Texts.{word_at, arguments, line, lines, echo_text, program_path, announcement, failure_message, command_not_found}
use Rattle.nx_shrun.specs.Expansion.{Piece}

-- A command under way: its words, the file of its redirection, the descriptors that it reads from and writes to, those that it opened and hasn't closed, the last first, its program's number, and how it ends if all goes well.
pub record Running : Type 0 where
  pub words : List (List ℕ)
  pub file : List ℕ
  pub source : ℕ
  pub out : ℕ
  pub opened : List ℕ
  pub pid : ℕ
  pub ending : Ending

-- Where a command is: it asks for its shell's number, for the value of a name, or makes the call of a step, with the steps after it.
pub data Doing : Type 0 where
  Starts : Doing
  Asks : (name : List ℕ) (words : List (List ℕ)) (word : List ℕ) (rest : List Piece) → Doing
  Does : (q : Call) (g : Running) (a : Awaits) (k : List Step) → Doing

-- A command is over, or goes on.
pub data Outcome : Type 0 where
  Over : (ending : Ending) → Outcome
  Goes : (d : Doing) → Outcome

-- The descriptor that was opened last, and those before it.
abbrev pub top : List ℕ → ℕ
top [] = 0
top (fd ∷ fds) = fd

abbrev pub below : List ℕ → List ℕ
below [] = []
below (fd ∷ fds) = fds

-- Without the one before the last.
abbrev pub without_second : List ℕ → List ℕ
without_second [] = []
without_second (fd ∷ []) = fd ∷ []
without_second (fd ∷ other ∷ fds) = fd ∷ fds

-- What a redirection opens its file with: write, create, and truncate or append.
abbrev pub flags_of : Mode → ℕ
flags_of Truncate = 38
flags_of Append = 22

-- The path of `ls`.
abbrev pub listed : List (List ℕ) → List ℕ
listed words = if length words == 1 then codes "." else word_at words 1

abbrev pub change_call : Change → List (List ℕ) → Call
change_call change.Chdir words = c.chdir (if length words == 1 then codes "/" else word_at words 1)
change_call change.Mkdir words = c.mkdir (word_at words 1)
change_call change.Rmdir words = c.rmdir (word_at words 1)
change_call change.Unlink words = c.unlink (word_at words 1)
change_call change.Rename words = c.rename (word_at words 1) (word_at words 2)
change_call change.Setenv words = c.setenv (word_at words 1) (word_at words 2)
change_call change.Unsetenv words = c.unsetenv (word_at words 1)

abbrev pub listing_call : Listing → List (List ℕ) → ℕ → Call
listing_call listing.Names words index = c.readdir (listed words) index
listing_call listing.Variables words index = c.env index
listing_call listing.Groups words index = c.ps index

-- The path of an expression is its last word.
abbrev pub probed : Bool → List (List ℕ) → List ℕ
probed isnt words = word_at words (if isnt then 3 else 2)

-- The call of a step.
abbrev pub call_at : Running → Step → Call
call_at g (step.Redirect mode) = c.open_file g.file (flags_of mode)
call_at g (step.Open place) = c.open_file (word_at g.words place) 1
call_at g step.Create = c.open_file (word_at g.words 2) 38
call_at g step.Read = c.read g.source
call_at g step.Close = c.close (top g.opened)
call_at g step.Echo = c.write g.out (echo_text g.words)
call_at g step.Look = c.kind (listed g.words)
call_at g step.Entry = c.write g.out (32 ∷ line (listed g.words))
call_at g step.Heading = c.write g.out (line (listed g.words ++ 58 ∷ []))
call_at g (step.Each list index) = listing_call list g.words index
call_at g step.Directory = c.getcwd
call_at g (step.Change which) = change_call which g.words
call_at g (step.Probe want isnt) = c.kind (probed isnt g.words)
call_at g (step.Sleep ticks) = c.sleep ticks
call_at g step.Keep = c.dup 1
call_at g step.Direct = c.dup2 (top (below g.opened)) 1
call_at g step.Let = c.close (top (below g.opened))
call_at g (step.Spawn redirected) = c.spawn (program_path (word_at g.words 0)) (lines (arguments g.words))
call_at g step.Restore = c.dup2 (top g.opened) 1
call_at g step.Wait = c.waitpid g.pid
call_at g step.Announce = c.write 1 (announcement (word_at g.words 0) g.pid)
call_at g step.Abandon = c.close (top g.opened)

-- A command goes on with its steps, and is over after the last.
abbrev pub go : Running → List Step → Outcome
go g [] = Over g.ending
go g (s ∷ k) = Goes (Does (call_at g s) g (awaits.Step s) k)

-- A message goes to descriptor 2, and other steps come after it.
abbrev pub say : Running → List ℕ → List Step → Outcome
say g message k = Goes (Does (c.write 2 message) g awaits.Message k)

-- All that is open is closed, the last opened first.
abbrev pub abandon : List ℕ → List Step
abandon [] = []
abandon (fd ∷ fds) = step.Abandon ∷ abandon fds

-- A call failed: a message, what is open is closed, and the status is 1.
abbrev pub fail : Running → KCall → ℕ → Outcome
fail g which errno = say (record g { ending = Status 1 }) (failure_message (word_at g.words 0) which errno) (abandon g.opened)

-- After a call that may fail.
abbrev pub unless_failed : Running → Call → Reply → Outcome → Outcome
unless_failed g q r on = if is_failed r then fail g q.which r.errno else on

-- The length of what a call writes.
abbrev pub written : Call → ℕ
written q = length (word_at q.inputs 0)

-- Output has to be written whole. A part alone is a failure for want of space.
abbrev pub unless_short : Running → Call → Reply → Outcome → Outcome
unless_short g q r on = unless_failed g q r (if nat_lt r.value (written q) then fail g kernel.Write 28 else on)

-- What a step was handed goes to the output.
abbrev pub put : Running → List ℕ → List Step → Outcome
put g text k = Goes (Does (c.write g.out text) g awaits.Output k)

-- One of a listing on its line.
abbrev pub entry : Listing → List ℕ → List ℕ
entry listing.Names text = 32 ∷ line text
entry listing.Variables text = line text
entry listing.Groups text = line text

-- An index is a word.
abbrev pub next_index : ℕ → ℕ
next_index index = (index + 1) % 2 ^ 32

abbrev pub opens : Running → ℕ → Running
opens g fd = record g { opened = fd ∷ g.opened }

-- Whether a path that names this kind is what is wanted: 1 is a file, 2 a directory.
abbrev pub is_kind : Wanted → ℕ → Bool
is_kind wanted.Anything kind = true
is_kind wanted.File kind = kind == 1
is_kind wanted.Directory kind = kind == 2

-- A path that names nothing isn't what is wanted.
abbrev pub is_found : Wanted → Reply → Bool
is_found want r = if is_failed r then false else is_kind want r.value

abbrev pub differs : Bool → Bool → Bool
differs true b = not b
differs false b = b

-- True is 0, false 1.
abbrev pub status_of : Bool → ℕ
status_of holds = if holds then 0 else 1

abbrev pub ends : Running → ℕ → Running
ends g status = record g { ending = Status status }

-- After a program that couldn't be started the output is what it was.
abbrev pub restoring : Bool → List Step
restoring true = step.Restore ∷ step.Close ∷ []
restoring false = []

abbrev pub not_started : Running → ℕ → List Step → Outcome
not_started g errno k =
    if errno == 2 then say (ends g 1) (command_not_found (word_at g.words 0)) k
    else say (ends g 1) (failure_message (word_at g.words 0) kernel.NxSpawn errno) k

-- What the reply to a step's call leaves to do.
abbrev pub after_step : Call → Running → Step → List Step → Reply → Outcome
after_step q g (step.Redirect mode) k r = unless_failed g q r (go (record (opens g r.value) { out = r.value }) k)
after_step q g (step.Open place) k r = unless_failed g q r (go (record (opens g r.value) { source = r.value }) k)
after_step q g step.Create k r = unless_failed g q r (go (record (opens g r.value) { out = r.value }) k)
after_step q g step.Read k r = unless_failed g q r (if r.value == 0 then go g k else put g (handed r) (step.Read ∷ k))
after_step q g step.Close k r = unless_failed g q r (go (record g { opened = below g.opened }) k)
after_step q g step.Echo k r = unless_short g q r (go g k)
after_step q g step.Look k r = unless_failed g q r (if r.value == 2 then go g (step.Heading ∷ step.Each listing.Names 0 ∷ k) else go g (step.Entry ∷ k))
after_step q g step.Entry k r = unless_short g q r (go g k)
after_step q g step.Heading k r = unless_short g q r (go g k)
after_step q g (step.Each list index) k r = unless_failed g q r (if r.value == 0 then go g k else put g (entry list (handed r)) (step.Each list (next_index index) ∷ k))
after_step q g step.Directory k r = unless_failed g q r (put g (line (handed r)) k)
after_step q g (step.Change which) k r = unless_failed g q r (go g k)
after_step q g (step.Probe want isnt) k r = go (ends g (status_of (differs isnt (is_found want r)))) k
after_step q g (step.Sleep ticks) k r = unless_failed g q r (go g k)
after_step q g step.Keep k r = unless_failed g q r (go (opens g r.value) k)
after_step q g step.Direct k r = unless_failed g q r (go g k)
after_step q g step.Let k r = unless_failed g q r (go (record g { opened = without_second g.opened }) k)
after_step q g (step.Spawn redirected) k r = if is_failed r then not_started g r.errno (restoring redirected) else go (record g { pid = r.value }) k
after_step q g step.Restore k r = unless_failed g q r (go g k)
after_step q g step.Wait k r = unless_failed g q r (go (ends g (code_of r)) k)
after_step q g step.Announce k r = unless_short g q r (go g k)
after_step q g step.Abandon k r = go (record g { opened = below g.opened }) k

-- What a reply leaves to do; q is the call that it answers. A message's reply means nothing.
abbrev pub after_reply : Call → Running → Awaits → List Step → Reply → Outcome
after_reply q g (awaits.Step s) k r = after_step q g s k r
after_reply q g awaits.Output k r = unless_short g q r (go g k)
after_reply q g awaits.Message k r = go g k
