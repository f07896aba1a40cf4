-- The calls of the kernel: the name of each, the kinds of its parameters, and whether it gives a value.
use Rattle.std.specs.Prelude.{ℕ, Bool, true, false, List, [], ◌∷◌, codes, Option}
use Rattle.std.specs.List.{find}
use Rattle.std.specs.Str.{bytes_eq}
use Rattle.nx_base.specs.declared.calls.Kind.{Kind}
use Rattle.nx_base.specs.declared.calls.Kind.TheVariants.{Word, In, Text, Out, Len, Out4}
use Rattle.nx_base.specs.declared.calls.KCall.{KCall}
use Rattle.nx_base.specs.declared.calls.KCall.TheVariants as call

-- the calls, in the order of their table
unfoldable pub all_calls : List KCall
all_calls =
    call.Write ∷ call.Read ∷ call.Open ∷ call.Close ∷ call.Lseek ∷ call.Dup ∷ call.Dup2 ∷ call.Unlink ∷
    call.Mkdir ∷ call.Rmdir ∷ call.Rename ∷ call.Chdir ∷ call.NxGetcwd ∷ call.NxReaddir ∷ call.NxKind ∷
    call.NxSpawn ∷ call.Exit ∷ call.Getpid ∷ call.Waitpid ∷ call.NxArgc ∷ call.NxArg ∷ call.NxSetpriority ∷
    call.SchedYield ∷ call.NxPs ∷ call.NxThread ∷ call.NxThreadExit ∷ call.NxJoin ∷ call.NxMqOpen ∷
    call.MqClose ∷ call.MqUnlink ∷ call.MqSend ∷ call.MqReceive ∷ call.NxMqTimedreceive ∷ call.NxSemOpen ∷
    call.NxSemWait ∷ call.NxSemTrywait ∷ call.NxSemPost ∷ call.NxSemClose ∷ call.NxSleep ∷ call.NxTicks ∷
    call.NxGetenv ∷ call.Setenv ∷ call.Unsetenv ∷ call.NxEnv ∷ call.GetErrno ∷ []

-- the name by which a table and a program call it
abbrev pub name_of : KCall → List ℕ
name_of call.Write = codes "write"
name_of call.Read = codes "read"
name_of call.Open = codes "open"
name_of call.Close = codes "close"
name_of call.Lseek = codes "lseek"
name_of call.Dup = codes "dup"
name_of call.Dup2 = codes "dup2"
name_of call.Unlink = codes "unlink"
name_of call.Mkdir = codes "mkdir"
name_of call.Rmdir = codes "rmdir"
name_of call.Rename = codes "rename"
name_of call.Chdir = codes "chdir"
name_of call.NxGetcwd = codes "nx_getcwd"
name_of call.NxReaddir = codes "nx_readdir"
name_of call.NxKind = codes "nx_kind"
name_of call.NxSpawn = codes "nx_spawn"
name_of call.Exit = codes "_exit"
name_of call.Getpid = codes "getpid"
name_of call.Waitpid = codes "waitpid"
name_of call.NxArgc = codes "nx_argc"
name_of call.NxArg = codes "nx_arg"
name_of call.NxSetpriority = codes "nx_setpriority"
name_of call.SchedYield = codes "sched_yield"
name_of call.NxPs = codes "nx_ps"
name_of call.NxThread = codes "nx_thread"
name_of call.NxThreadExit = codes "nx_thread_exit"
name_of call.NxJoin = codes "nx_join"
name_of call.NxMqOpen = codes "nx_mq_open"
name_of call.MqClose = codes "mq_close"
name_of call.MqUnlink = codes "mq_unlink"
name_of call.MqSend = codes "mq_send"
name_of call.MqReceive = codes "mq_receive"
name_of call.NxMqTimedreceive = codes "nx_mq_timedreceive"
name_of call.NxSemOpen = codes "nx_sem_open"
name_of call.NxSemWait = codes "nx_sem_wait"
name_of call.NxSemTrywait = codes "nx_sem_trywait"
name_of call.NxSemPost = codes "nx_sem_post"
name_of call.NxSemClose = codes "nx_sem_close"
name_of call.NxSleep = codes "nx_sleep"
name_of call.NxTicks = codes "nx_ticks"
name_of call.NxGetenv = codes "nx_getenv"
name_of call.Setenv = codes "setenv"
name_of call.Unsetenv = codes "unsetenv"
name_of call.NxEnv = codes "nx_env"
name_of call.GetErrno = codes "get_errno"

-- the kinds of its parameters, in their order
abbrev pub kinds_of : KCall → List Kind
kinds_of call.Write = Word ∷ In ∷ Len ∷ []
kinds_of call.Read = Word ∷ Out ∷ Len ∷ []
kinds_of call.Open = Text ∷ Word ∷ Word ∷ []
kinds_of call.Close = Word ∷ []
kinds_of call.Lseek = Word ∷ Word ∷ Word ∷ []
kinds_of call.Dup = Word ∷ []
kinds_of call.Dup2 = Word ∷ Word ∷ []
kinds_of call.Unlink = Text ∷ []
kinds_of call.Mkdir = Text ∷ Word ∷ []
kinds_of call.Rmdir = Text ∷ []
kinds_of call.Rename = Text ∷ Text ∷ []
kinds_of call.Chdir = Text ∷ []
kinds_of call.NxGetcwd = Out ∷ Len ∷ []
kinds_of call.NxReaddir = Text ∷ Word ∷ Out ∷ Len ∷ []
kinds_of call.NxKind = Text ∷ []
kinds_of call.NxSpawn = Text ∷ Text ∷ Word ∷ []
kinds_of call.Exit = Word ∷ []
kinds_of call.Getpid = []
kinds_of call.Waitpid = Word ∷ Out4 ∷ Word ∷ []
kinds_of call.NxArgc = []
kinds_of call.NxArg = Word ∷ Out ∷ Len ∷ []
kinds_of call.NxSetpriority = Word ∷ Word ∷ []
kinds_of call.SchedYield = []
kinds_of call.NxPs = Word ∷ Out ∷ Len ∷ []
kinds_of call.NxThread = Word ∷ Word ∷ []
kinds_of call.NxThreadExit = Word ∷ []
kinds_of call.NxJoin = Word ∷ Out4 ∷ []
kinds_of call.NxMqOpen = Text ∷ Word ∷ Word ∷ Word ∷ []
kinds_of call.MqClose = Word ∷ []
kinds_of call.MqUnlink = Text ∷ []
kinds_of call.MqSend = Word ∷ In ∷ Len ∷ Word ∷ []
kinds_of call.MqReceive = Word ∷ Out ∷ Len ∷ Out4 ∷ []
kinds_of call.NxMqTimedreceive = Word ∷ Out ∷ Len ∷ Out4 ∷ Word ∷ []
kinds_of call.NxSemOpen = Text ∷ Word ∷ Word ∷ []
kinds_of call.NxSemWait = Word ∷ []
kinds_of call.NxSemTrywait = Word ∷ []
kinds_of call.NxSemPost = Word ∷ []
kinds_of call.NxSemClose = Word ∷ []
kinds_of call.NxSleep = Word ∷ []
kinds_of call.NxTicks = []
kinds_of call.NxGetenv = Text ∷ Out ∷ Len ∷ []
kinds_of call.Setenv = Text ∷ Text ∷ Word ∷ []
kinds_of call.Unsetenv = Text ∷ []
kinds_of call.NxEnv = Word ∷ Out ∷ Len ∷ []
kinds_of call.GetErrno = []

-- whether it gives a value: its return type is int, not void
abbrev pub gives_value : KCall → Bool
gives_value call.Exit = false
gives_value call.NxThreadExit = false
gives_value other = true

-- the call of a name, if there is one
abbrev pub call_named : List ℕ → Option KCall
call_named name = find (λ c. bytes_eq name (name_of c)) all_calls
