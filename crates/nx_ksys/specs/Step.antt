-- One call: which row it is.
use Rattle.std.specs.Prelude.{ℕ, ◌+◌, true, if◌then◌else◌, List, [], ◌∷◌, length, Option, Some, None, slice_get}
use Rattle.nx_base.specs.Calls.{is_pointer, without_entry}
use Rattle.nx_base.specs.KernelCalls.{kinds_of}
use Rattle.nx_base.specs.declared.calls.Kind.{Kind}
use Rattle.nx_base.specs.declared.calls.KCall.{KCall}
use Rattle.nx_base.specs.declared.calls.KCall.TheVariants as call
use Rattle.nx_base.specs.declared.errno.Errno.TheVariants.{Enosys}
use Rattle.nx_ksys.specs.declared.thread.Asked.{Asked}
use Rattle.nx_ksys.specs.declared.thread.Thread.{Thread}
use Rattle.nx_ksys.specs.Threads.{flat, thread_of}
use Rattle.nx_ksys.specs.State.{Group, KernelState}
use Rattle.nx_ksys.specs.Answers.{Stepped, Caller, place_of, replied, failed, silent, word_at, input_at}
use Rattle.nx_ksys.specs.FileCalls.{write_row, read_row, open_row, close_row, lseek_row, dup_row, dup2_row}
use Rattle.nx_ksys.specs.TreeCalls.{unlink_row, mkdir_row, rmdir_row, rename_row, chdir_row, getcwd_row, readdir_row, kind_row}
use Rattle.nx_ksys.specs.Ends.{exit_row, thread_exit_row}
use Rattle.nx_ksys.specs.GroupCalls.{spawn_row, waitpid_row, arg_row, ps_row}
use Rattle.nx_ksys.specs.ThreadCalls.{setpriority_row, yield_row, thread_row, join_row, errno_row}
use Rattle.nx_ksys.specs.QueueCalls.{mq_open_row, mq_close_row, mq_unlink_row, mq_send_row, mq_receive_row, mq_timedreceive_row}
use Rattle.nx_ksys.specs.SemaphoreCalls.{sem_open_row, sem_wait_row, sem_trywait_row, sem_post_row, sem_close_row}
use Rattle.nx_ksys.specs.TimeCalls.{sleep_row, ticks_row}
use Rattle.nx_ksys.specs.EnvironmentCalls.{getenv_row, setenv_row, unsetenv_row, env_row}

-- a call of the kernel with its words and inputs. Words that are pointers mean nothing here, and no row asks for them
abbrev pub row_of : KCall → KernelState → Caller → List ℕ → List (List ℕ) → Stepped
row_of call.Write k c words inputs = write_row k c (word_at words 0) (input_at inputs 0)
row_of call.Read k c words inputs = read_row k c (word_at words 0) (word_at words 2)
row_of call.Open k c words inputs = open_row k c (input_at inputs 0) (word_at words 1)
row_of call.Close k c words inputs = close_row k c (word_at words 0)
row_of call.Lseek k c words inputs = lseek_row k c (word_at words 0) (word_at words 1) (word_at words 2)
row_of call.Dup k c words inputs = dup_row k c (word_at words 0)
row_of call.Dup2 k c words inputs = dup2_row k c (word_at words 0) (word_at words 1)
row_of call.Unlink k c words inputs = unlink_row k c (input_at inputs 0)
row_of call.Mkdir k c words inputs = mkdir_row k c (input_at inputs 0)
row_of call.Rmdir k c words inputs = rmdir_row k c (input_at inputs 0)
row_of call.Rename k c words inputs = rename_row k c (input_at inputs 0) (input_at inputs 1)
row_of call.Chdir k c words inputs = chdir_row k c (input_at inputs 0)
row_of call.NxGetcwd k c words inputs = getcwd_row k c (word_at words 1)
row_of call.NxReaddir k c words inputs = readdir_row k c (input_at inputs 0) (word_at words 1) (word_at words 3)
row_of call.NxKind k c words inputs = kind_row k c (input_at inputs 0)
row_of call.NxSpawn k c words inputs = spawn_row k c (input_at inputs 0) (input_at inputs 1) (word_at words 2)
row_of call.Exit k c words inputs = exit_row k c (word_at words 0)
row_of call.Getpid k c words inputs = replied k c c.group.number []
row_of call.Waitpid k c words inputs = waitpid_row k c (word_at words 0) (word_at words 2)
row_of call.NxArgc k c words inputs = replied k c (length c.group.arguments) []
row_of call.NxArg k c words inputs = arg_row k c (word_at words 0) (word_at words 2)
row_of call.NxSetpriority k c words inputs = setpriority_row k c (word_at words 0) (word_at words 1)
row_of call.SchedYield k c words inputs = yield_row k c
row_of call.NxPs k c words inputs = ps_row k c (word_at words 0) (word_at words 2)
row_of call.NxThread k c words inputs = thread_row k c
row_of call.NxThreadExit k c words inputs = thread_exit_row k c (word_at words 0)
row_of call.NxJoin k c words inputs = join_row k c (word_at words 0)
row_of call.NxMqOpen k c words inputs = mq_open_row k c (input_at inputs 0) (word_at words 1) (word_at words 2) (word_at words 3)
row_of call.MqClose k c words inputs = mq_close_row k c (word_at words 0)
row_of call.MqUnlink k c words inputs = mq_unlink_row k c (input_at inputs 0)
row_of call.MqSend k c words inputs = mq_send_row k c (word_at words 0) (input_at inputs 0) (word_at words 2) (word_at words 3)
row_of call.MqReceive k c words inputs = mq_receive_row k c (word_at words 0) (word_at words 2)
row_of call.NxMqTimedreceive k c words inputs = mq_timedreceive_row k c (word_at words 0) (word_at words 2) (word_at words 4)
row_of call.NxSemOpen k c words inputs = sem_open_row k c (input_at inputs 0) (word_at words 1) (word_at words 2)
row_of call.NxSemWait k c words inputs = sem_wait_row k c (word_at words 0)
row_of call.NxSemTrywait k c words inputs = sem_trywait_row k c (word_at words 0)
row_of call.NxSemPost k c words inputs = sem_post_row k c (word_at words 0)
row_of call.NxSemClose k c words inputs = sem_close_row k c (word_at words 0)
row_of call.NxSleep k c words inputs = sleep_row k c (word_at words 0)
row_of call.NxTicks k c words inputs = ticks_row k c
row_of call.NxGetenv k c words inputs = getenv_row k c (input_at inputs 0) (word_at words 2)
row_of call.Setenv k c words inputs = setenv_row k c (input_at inputs 0) (input_at inputs 1) (word_at words 2)
row_of call.Unsetenv k c words inputs = unsetenv_row k c (input_at inputs 0)
row_of call.NxEnv k c words inputs = env_row k c (word_at words 0) (word_at words 2)
row_of call.GetErrno k c words inputs = errno_row k c

-- a call that the kernel hasn't is refused
abbrev pub asked : Option KCall → KernelState → Caller → List ℕ → List (List ℕ) → Stepped
asked None k c words inputs = failed k c Enosys
asked (Some which) k c words inputs = row_of which k c words inputs

-- every call counts
abbrev pub counted : KernelState → KernelState
counted k = record k { calls = k.calls + 1 }

-- words, with 0 for each that is a pointer or a thread's entry
abbrev pub without_pointers : List Kind → List ℕ → List ℕ
without_pointers [] words = words
without_pointers (kind ∷ kinds) [] = []
without_pointers (kind ∷ kinds) (word ∷ words) = (if is_pointer kind then 0 else word) ∷ without_pointers kinds words

abbrev pub meant_words : Option KCall → List ℕ → List ℕ
meant_words None words = words
meant_words (Some call.NxThread) words = without_entry true words
meant_words (Some which) words = without_pointers (kinds_of which) words

abbrev pub meant_call : Option KCall → List ℕ → Asked
meant_call which words = record { call = which; words = meant_words which words }

abbrev pub called_in : KernelState → Thread → Option KCall → List ℕ → List (List ℕ) → ℕ → Option Group → Stepped
called_in k t which words inputs place None = silent k
called_in k t which words inputs place (Some g) = asked which k (record { thread = t; place = place; group = g; asked = meant_call which words }) words inputs

abbrev pub called_by : KernelState → Thread → Option KCall → List ℕ → List (List ℕ) → Option ℕ → Stepped
called_by k t which words inputs None = silent k
called_by k t which words inputs (Some place) = called_in k t which words inputs place (flat (slice_get k.groups place))

abbrev pub called : KernelState → Option Thread → Option KCall → List ℕ → List (List ℕ) → Stepped
called k None which words inputs = silent k
called k (Some t) which words inputs = called_by k t which words inputs (place_of k.groups t.group)

-- a thread makes a call: what the call leaves. A thread that there isn't makes none
unfoldable pub step : KernelState → ℕ → Option KCall → List ℕ → List (List ℕ) → Stepped
step k thread which words inputs = called (counted k) (thread_of k.sched.threads thread) which words inputs
